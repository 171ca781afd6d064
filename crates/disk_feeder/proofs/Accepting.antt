-- What is kept of an observation that is accepted.
use Rattle.std.proofs.Common.{◌≡◌, ℕ, List, [], ◌∷◌, None, Ok, length, map, refl, sym, ap, ◌∙◌}
use Rattle.std.specs.Prelude.{string_bytes}
use Rattle.psr_base.specs.Told.{Told}
use Rattle.dada_model.specs.Fields.{Field, HeaderText, fields_of}
use Rattle.dada_model.specs.Observation.{Observation, Refusal, observation_in, observation_of, refusals, unless_refused}
use Rattle.obs_plan.specs.Later.{profile_of}
use Rattle.disk_feeder.specs.declared.place.Place.{Place}
use Rattle.disk_feeder.specs.declared.source.Source.{Source}
use Rattle.disk_feeder.specs.declared.stream.Stream.{Stream}
use Rattle.disk_feeder.specs.History.{Running}
use Rattle.disk_feeder.specs.Sources.{plan_of}
use Rattle.disk_feeder.specs.Streams.{StreamRead}
use Rattle.disk_feeder.specs.Beginning.{IsAcceptedIn, AcceptsIn}
use Rattle.disk_feeder.specs.declared.feeder.Feeder.{Feeder}
use Rattle.disk_feeder.specs.Feeder.{IsBegun, KeepsBegun}
use Rattle.disk_feeder.proofs.Counting.{not_due, not_ended}
use Rattle.disk_feeder.proofs.Fates.{goes_on, same_files, of_fate, to_fate}

-- an observation is that of the numbers
accepted_is : (fields : List Field) (o : Observation) → observation_of fields ≡ Ok o → o ≡ observation_in fields
unfolding observation_of
accepted_is fields o accepted = unless_is (observation_in fields) o (refusals fields) accepted
  where
    unless_is : (p o : Observation) (rs : List Refusal) → unless_refused p rs ≡ Ok o → o ≡ p
    unless_is p o [] e = sym (cc)
    unless_is p o (r ∷ rs) e = absurd cc

-- what was accepted of a header
pub first_is : (old new : Source) (transfer : ℕ) (o : Observation) (header : HeaderText) →
    AcceptsIn old transfer o new →
    observation_of (fields_of header.text) ≡ Ok o → IsAcceptedIn (plan_of new) transfer header
first_is old new transfer o header a is =
    let same = accepted_is (fields_of header.text) o is in
    let kept = a.first in (
      kept.0,
      kept.1,
      record {
        accepted = is ∙ ap Ok same;
        profile = kept.2 ∙ ap profile_of same;
        offset = kept.3 ∙ ap (λ (p : Observation). p.obs_offset) same;
      },
    )

-- what was read stands where a header is accepted
pub still_read : (old new : Stream) (transfer : ℕ) (o : Observation) (before told : Told) →
    AcceptsIn old.source transfer o new.source → new.due ≡ old.due → new.end ≡ old.end → old.due ≡ None →
    old.end ≡ None → StreamRead before told old → StreamRead before told new
still_read old new transfer o before told a due end none running was =
    to_fate new Running (plan_of new.source) new.source.place before told
    (goes_on new.due new.end (due ∙ none) (end ∙ running)) refl refl
    (same_files (plan_of old.source) (plan_of new.source) before told new.source.place
    (ap (λ n. map string_bytes n.now) a.names) (ap (λ s. s.now) a.starts) a.limit
    (rw a.place (of_fate old Running before told (goes_on old.due old.end none running) was)))

-- what stays where a header is accepted
pub keeps_begun : {I : Type 0} (f g : Feeder I) (transfer : ℕ) (o : Observation) (told : Told) → IsBegun told f →
    AcceptsIn f.stream.source transfer o g.stream.source → g.stream.block ≡ f.stream.block →
    g.stream.due ≡ f.stream.due → g.stream.end ≡ f.stream.end → KeepsBegun f g
keeps_begun f g transfer o told begun a block due end =
    let running = end ∙ begun.end in
    record {
      plan = record {
        names = ap (λ n. map string_bytes n.now) a.names;
        starts = ap (λ s. s.now) a.starts;
        limit = a.limit;
        size = ap (λ v. length v.items) block;
        headers = ap (λ v. length v.items) a.headers;
      };
      headers = ap (λ v. v.items) a.headers;
      reading = λ is_open. ap (λ (pl : Place). pl.is_open) (sym a.place) ∙ is_open;
      reads_on = λ before now was. still_read f.stream g.stream transfer o before now a due end begun.due begun.end was;
      faultless = (not_due g.stream.due (due ∙ begun.due), not_ended g.stream.end running);
      running = running;
    }
