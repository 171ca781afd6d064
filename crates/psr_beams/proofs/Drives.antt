-- The way of a search of beams from its settings to its end.
use Rattle.std.proofs.Common.{◌≡◌, ℕ, ◌<◌, ◌≤◌, List, [], ◌∷◌, length, Option, Some, None, refl, sym, ◌∙◌, ap, subst, inl, inr, arith}
use Rattle.std.specs.Prelude.{IsSome}
use Rattle.psr_base.specs.Told.{Told}
use Rattle.psr_base.specs.Written.{SinkSeen}
use Rattle.dada_model.specs.Observation.{Observation}
use Rattle.search_model.specs.Plan.{plan_refusal}
use Rattle.search_words.specs.Settings.{SettingsSeen, AllInRange}
use Rattle.disk_feeder.specs.declared.feeder.FeederSpace.{FeederSpace}
use Rattle.beam_set.specs.declared.ended.BeamEnd.{BeamEnd}
use Rattle.beam_set.specs.declared.beam.Beam.{Beam}
use Rattle.beam_set.specs.Sets.{SetBegins, SetAnswers}
use Rattle.beam_set.specs.Laws.{BeamsHoldData}
use Rattle.beam_set.specs.Later.{LaterHeadersAgree}
use Rattle.run_outcome.specs.declared.stop.Stop.{Stop}
use Rattle.run_outcome.specs.Lone.{IsOfOne}
use Rattle.psr_beams.specs.Judged.{headers_in, AreOfOne}
use Rattle.psr_beams.specs.Seen.{told_at}
use Rattle.psr_beams.specs.Joined.{CanJoinAll, AreJoined}
use Rattle.psr_beams.specs.Feeders.{AreRead, AreBegun}
use Rattle.psr_beams.specs.Opened.{StopsOpening}
use Rattle.psr_beams.specs.Ends.{NoneStops, EndsBeams}
use Rattle.psr_beams.specs.Driven.{HaveCome, ReadsAll, IsDriven}
use Rattle.psr_beams.proofs.OneFile.{only_start}
use Rattle.psr_beams.proofs.Opening.{headers_there, are_headers, can_join}
use Rattle.psr_beams.proofs.Running.{set_begins, have_come, have_broken}
use Rattle.psr_beams.proofs.Walked.{all_data}

-- the headers of all beams were read, and these are their feeders
pub record AreReady {I : Type 0} (told : I → Told) (is_open : I → Type 0) (is_calm : I → Type 0) (faults : I → ℕ)
    (s : SettingsSeen) (before mid : List I) (slots : List (Option FeederSpace)) : Type 0 where
  pub starts : s.starts ≡ 0 ∷ []
  pub some : 0 < length s.names
  pub enough : length s.names ≤ length before
  pub read : AreRead told is_calm faults s (length s.names) before mid
  pub begun : AreBegun told is_open s (length s.names) before mid slots

pub are_ready : {I : Type 0} (told : I → Told) (is_open is_calm : I → Type 0) (faults : I → ℕ) (s : SettingsSeen) →
    AllInRange s → IsOfOne s → (before mid : List I) (count : ℕ) → count ≡ length s.names → 0 < count →
    count ≤ length before → (slots : List (Option FeederSpace)) → AreRead told is_calm faults s count before mid →
    AreBegun told is_open s count before mid slots → AreReady told is_open is_calm faults s before mid slots
are_ready told is_open is_calm faults s range one before mid count is some enough slots read begun = record {
  starts = only_start s.starts (length s.names) range.run.transfers one.transfer;
  some = omega (arith, some, is);
  enough = omega (arith, enough, is);
  read = subst (λ m. AreRead told is_calm faults s m before mid) is read;
  begun = subst (λ m. AreBegun told is_open s m before mid slots) is begun;
}

-- the feeders are lent as a slice
module _ {I : Type 0} {told : I → Told} {is_open is_calm : I → Type 0} {faults : I → ℕ} {s : SettingsSeen}
    {before mid : List I} {slots slice : List (Option FeederSpace)}
    (ready : AreReady told is_open is_calm faults s before mid slots) (same : slice ≡ slots) where
  abbrev n : ℕ
  n = length s.names

  many : length slice ≡ n
  many = ap length same ∙ ready.begun.many

  reach : n ≤ length mid
  reach = let lent = ready.read.lent in let enough = ready.enough in omega (arith, lent, enough)

  reads_all : ReadsAll told is_calm faults s before mid (headers_in slots)
  reads_all = record {
    read = ready.read;
    are = are_headers told is_open s ready.starts is_calm faults n before mid slots ready.read ready.begun ready.enough;
  }

  pub headers_read : (k : ℕ) → k < length slice → IsSome (headers_in slice k)
  headers_read k within =
      let count = many in
      rw same (headers_there told is_open s ready.starts n before mid slots ready.begun reach k
      (omega (arith, within, count)))

  -- ---- it was not opened

  pub not_opened : (within more : ℕ) (out : SinkSeen) (stop : Stop) →
      StopsOpening s.search (headers_in slice) (length slice) stop →
      IsDriven told is_calm faults s within more before mid out out (Some stop)
  not_opened within more out stop stops = inr (inl (
    stop,
    refl,
    record {
      headers = headers_in slots;
      read = reads_all;
      stops = rw (sym many, sym same) stops;
    },
    refl,
  ))

  -- ---- it was

  module _ {o : Observation} (accepted : AreOfOne (headers_in slice) (length slice) o) where
    of_one : AreOfOne (headers_in slots) n o
    of_one = rw (sym many, sym same) accepted

    pub can_open : LaterHeadersAgree → CanJoinAll (told_at told mid) s o n slots
    can_open law =
        can_join told is_open s ready.starts law o n before mid slots reach ready.some ready.begun of_one

    module _ {beams : List (Option Beam)} (joined : AreJoined (told_at told mid) s o n slots beams) where
      pub begins : SetBegins told is_open beams mid
      begins = set_begins told is_open s o ready.starts n before mid reach slots ready.begun beams joined

      -- the ends are lent as a slice
      module _ {after : List I} {ends ended : List (Option BeamEnd)}
          (answers : SetAnswers told is_calm faults beams mid after ends) (are : ended ≡ ends) where
        came : HaveCome told is_calm faults s o n mid after ended
        came = rw are (have_come told is_open s o ready.starts n before mid reach slots ready.begun beams joined is_calm
            faults
            after ends answers)

        pub data_found :
            NoneStops ended → (data_of_beams : List (List ℕ)) × BeamsHoldData o s.search data_of_beams ended
        data_found = all_data told is_calm faults s o n mid after ended came reach

        pub went_through : plan_refusal o s.search ≡ None → (within more : ℕ) (out out' : SinkSeen)
            (stop : Option Stop) → EndsBeams o s.search within more ended out out' stop →
            IsDriven told is_calm faults s within more before after out out' stop
        went_through fits within more out out' stop at = inr (inr (record {
          headers = headers_in slots;
          mid = mid;
          read = reads_all;
          observation = o;
          accepted = of_one;
          fits = fits;
          ends = ended;
          come = came;
          broken = rw are (have_broken told is_open s o ready.starts n before mid reach slots ready.begun beams joined
              is_calm faults after ends answers);
          ended = at;
        }))
