-- Beams whose headers were read and accepted can be run.
use Rattle.std.proofs.Common.{◌≡◌, ◌⊎◌, ℕ, zero, suc, ◌<◌, ◌≤◌, inl, inr, Bool, true, false, List, [], ◌∷◌, length, get_or, Option, Some, None, Result, Ok, Err, refl, ap, ◌∙◌, arith}
use Rattle.std.specs.Prelude.{IsSome, ◌==◌, if◌then◌else◌}
use Rattle.std.proofs.lemmas.Bool.Decides.{nat_tests}
use Rattle.psr_base.specs.Told.{Told, nothing_told}
use Rattle.dada_model.specs.Fields.{HeaderText, header_of, fields_of}
use Rattle.dada_model.specs.Observation.{Observation, observation_of}
use Rattle.obs_plan.specs.declared.fault.ObsFault.{ObsFault}
use Rattle.obs_plan.specs.Later.{profile_of, later_offset_of}
use Rattle.search_words.specs.Settings.{SettingsSeen}
use Rattle.disk_feeder.specs.declared.feeder.FeederSpace.{FeederSpace}
use Rattle.disk_feeder.specs.Feeder.{headers_of}
use Rattle.disk_feeder.specs.Resting.{at_rest}
use Rattle.beam_set.specs.Later.{LaterHeadersAgree}
use Rattle.disk_feeder.specs.declared.answers.HeaderCause.TheVariants.{Fields}
use Rattle.run_outcome.specs.declared.stop.Stop.{Stop}
use Rattle.run_outcome.specs.declared.stop.Stop.TheVariants.{Header, Gap}
use Rattle.psr_beams.specs.Seen.{told_at}
use Rattle.psr_beams.specs.Files.{beam_name}
use Rattle.psr_beams.specs.Refusals.{stop_of_offset, later_stop}
use Rattle.psr_beams.specs.Judged.{slot_header, headers_in, AreOfOne}
use Rattle.psr_beams.specs.Feeders.{SlotBegun, AreRead, AreBegun}
use Rattle.psr_beams.specs.Joined.{CanJoinSlot, CanJoinAll}
use Rattle.psr_beams.specs.Driven.{AreHeaders}
use Rattle.psr_beams.proofs.Counting.{element, seen_there}
use Rattle.psr_beams.proofs.OneFile.{first_name_is, some_of, one_there}

-- ---- what a header says of a later beam

abbrev said_offset : ℕ → Result ℕ ObsFault
said_offset found = Ok found

-- the stop of an OBS_OFFSET, or none
pub offset_none : (beam expected : ℕ) (r : Result ℕ ObsFault) → stop_of_offset beam expected r ≡ None → r ≡ Ok expected
offset_none beam expected (Err fault) is = absurd cc
offset_none beam expected (Ok found) is = by_test (found == expected) refl is
  where
    by_test : (b : Bool) → (found == expected) ≡ b → (if b then None else Some (Gap beam expected found)) ≡ None →
        said_offset found ≡ said_offset expected
    by_test true t none = let same : found ≡ expected = grind (arith, nat_tests) in ap said_offset same
    by_test false t none = absurd cc

pub offset_kind : (beam expected : ℕ) (r : Result ℕ ObsFault) (stop : Stop) →
    stop_of_offset beam expected r ≡ Some stop →
    ((fault : ObsFault) × (stop ≡ Header beam (Fields fault))) ⊎ ((found : ℕ) × (stop ≡ Gap beam expected found))
offset_kind beam expected (Err fault) stop is = inl (fault, cc)
offset_kind beam expected (Ok found) stop is = by_test (found == expected) is
  where
    by_test : (b : Bool) → (if b then None else Some (Gap beam expected found)) ≡ Some stop →
        ((fault : ObsFault) × (stop ≡ Header beam (Fields fault))) ⊎ ((f : ℕ) × (stop ≡ Gap beam expected f))
    by_test true some = absurd cc
    by_test false some = inr (found, cc)

later_none : (beam : ℕ) (o : Observation) (h : HeaderText) → later_stop beam o h ≡ None →
    later_offset_of (profile_of o) (fields_of h.text) ≡ Ok o.obs_offset
unfolding later_stop
later_none beam o h is = offset_none beam o.obs_offset (later_offset_of (profile_of o) (fields_of h.text)) is

pub later_kind : (beam : ℕ) (o : Observation) (h : HeaderText) (stop : Stop) → later_stop beam o h ≡ Some stop →
    ((fault : ObsFault) × (stop ≡ Header beam (Fields fault))) ⊎ ((found : ℕ) × (stop ≡ Gap beam o.obs_offset found))
unfolding later_stop
later_kind beam o h stop is =
    offset_kind beam o.obs_offset (later_offset_of (profile_of o) (fields_of h.text)) stop is

-- all headers say the one observation
pub all_say : LaterHeadersAgree → (headers : ℕ → Option HeaderText) (count : ℕ) (o : Observation) →
    AreOfOne headers count o → IsSome (headers 0) → (k : ℕ) → k < count → (h : HeaderText) → headers k ≡ Some h →
    observation_of (fields_of h.text) ≡ Ok o
all_say law headers count o one first zero within h at = one.first h at
all_say law headers count o one first (suc k) within h at =
    let z = some_of (headers 0) first in
    law o (fields_of z.0.text) (fields_of h.text) (one.first z.0 z.1)
    (later_none (suc k) o h (one.later (suc k) h (omega arith) within at))

-- ---- the feeders

module _ {I : Type 0} (told : I → Told) (is_open : I → Type 0) (s : SettingsSeen) (starts : s.starts ≡ 0 ∷ []) where
  begun_header : (name : List ℕ) (start lent : I) (slot : Option FeederSpace) →
      SlotBegun told is_open s name start lent slot → IsSome (slot_header slot)
  begun_header name start lent None begun = absurd begun
  begun_header name start lent (Some space) begun =
      one_there (headers_of (at_rest space)) (begun.plan.headers ∙ ap length starts)

  -- the header that was read is that of the file
  header_said : (name : List ℕ) (start lent : I) (slot : Option FeederSpace) (h : HeaderText) (file : List ℕ) →
      SlotBegun told is_open s name start lent slot → slot_header slot ≡ Some h →
      (told lent).bytes_under name ≡ Some file → header_of file ≡ Ok h
  header_said name start lent None h file begun at is = absurd begun
  header_said name start lent (Some space) h file begun at is =
      let first = begun.plan.transfers ∙ starts in
      let count = ap length first in
      let at_first = ap (told lent).bytes_under (first_name_is space.stream.source name first begun.plan.files) ∙ is in
      begun.begun.headers 0 (omega (arith, count)) file at_first h at

  pub headers_there : (count : ℕ) (before lent : List I) (slots : List (Option FeederSpace)) →
      AreBegun told is_open s count before lent slots → count ≤ length lent → (k : ℕ) → k < count →
      IsSome (headers_in slots k)
  headers_there count before lent slots begun enough k within =
      let x = element lent k (omega (arith, within, enough)) in
      begun_header (beam_name s k) (get_or before k x) (get_or lent k x) (get_or slots k None) (begun.each k x within)

  pub are_headers : (is_calm : I → Type 0) (faults : I → ℕ) (count : ℕ) (before mid : List I)
      (slots : List (Option FeederSpace)) → AreRead told is_calm faults s count before mid →
      AreBegun told is_open s count before mid slots → count ≤ length before →
      AreHeaders told s count before (headers_in slots)
  are_headers is_calm faults count before mid slots read begun enough = record {
    there = headers_there count before mid slots begun (let same = read.lent in omega (arith, same, enough));
    each = λ k x h within at file is.
        header_said (beam_name s k) (get_or before k x) (get_or mid k x) (get_or slots k None) h file
        (begun.each k x within) at
        (rw (read.each k x within).read.names is);
  }

  -- ---- to open

  can_slot : (o : Observation) (name : List ℕ) (start lent : I) (slot : Option FeederSpace) →
      SlotBegun told is_open s name start lent slot →
      ((h : HeaderText) → slot_header slot ≡ Some h → observation_of (fields_of h.text) ≡ Ok o) →
      CanJoinSlot (told lent) s o name slot
  can_slot o name start lent None begun said = absurd begun
  can_slot o name start lent (Some f) begun said =
      record { one = starts; plan = begun.plan; begun = begun.begun; accepted = said }

  pub can_join : LaterHeadersAgree → (o : Observation) (count : ℕ) (before lent : List I)
      (slots : List (Option FeederSpace)) → count ≤ length lent → 0 < count →
      AreBegun told is_open s count before lent slots → AreOfOne (headers_in slots) count o →
      CanJoinAll (told_at told lent) s o count slots
  can_join law o count before lent slots enough some begun one = record {
    many = begun.many;
    each = λ k within.
        let there : k < length lent = omega (arith, within, enough) in
        let x = element lent k there in
        rw (seen_there told nothing_told lent k x there)
        (can_slot o (beam_name s k) (get_or before k x) (get_or lent k x) (get_or slots k None) (begun.each k x within)
        (all_say law (headers_in slots) count o one (headers_there count before lent slots begun enough 0 some) k
        within));
  }
