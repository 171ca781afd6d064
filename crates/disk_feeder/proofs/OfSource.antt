-- What a source says of its plan and its place.
use Rattle.std.proofs.Common.{◌≡◌, ℕ, ◌+◌, ◌<◌, true, List, [], Some, length, refl, sym, ap, ◌∙◌, subst, inr}
use Rattle.std.specs.Prelude.{slice_index_or, string_bytes}
use Rattle.std.proofs.lemmas.List.{length-map}
use Rattle.psr_base.specs.Told.{Told}
use Rattle.stream_model.specs.Walk.{file_at, begin_of}
use Rattle.stream_model.specs.WalkLaws.{AreStarts}
use Rattle.disk_feeder.specs.declared.source.Source.{Source}
use Rattle.disk_feeder.specs.Plan.{stream_of, begin_at, AreToldWithFirsts, IsPlace}
use Rattle.disk_feeder.specs.Sources.{plan_of, first_name}
use Rattle.disk_feeder.proofs.Reaching.{IsWithin}
use Rattle.disk_feeder.proofs.Streams.{begin_is}
use Rattle.disk_feeder.proofs.Readings.{IsHere}

-- there are as many names as files
pub name_count : (source : Source) → length (plan_of source).names ≡ length source.names.now
name_count source = length-map source.names.now string_bytes

pub plan_starts : (source : Source) → AreStarts (plan_of source).starts (length (plan_of source).names)
plan_starts source =
    let P : ℕ → Type 0 = λ n. AreStarts source.starts.now n in subst P (sym (name_count source)) source.begin

pub plan_place : (source : Source) →
    IsPlace (plan_of source).starts (length (plan_of source).names) source.max_bytes source.place
plan_place source =
    let P : ℕ → Type 0 = λ n. IsPlace source.starts.now n source.max_bytes source.place in
    subst P (sym (name_count source)) source.placed

-- where it is, within a transfer
pub is_within : (source : Source) → source.place.transfer < length source.starts.now →
    IsWithin (plan_of source) source.place
is_within source there =
    let at = plan_place source in
    record {
      starts = plan_starts source;
      there = there;
      from = at.from;
      upto = at.upto there;
      opened = λ open_now. (at.opened open_now).1;
      within = at.total;
    }

-- its file, which is opened or read
pub here : (source : Source) (told told' : Told) → source.place.transfer < length source.starts.now →
    source.place.file < begin_at source.starts.now (length source.names.now) (source.place.transfer + 1) →
    told'.bytes_under ≡ told.bytes_under → IsHere (plan_of source) told told' source.place
here source told told' there before names =
    record { place = is_within source there; before = rw (name_count source) before; names = names }

pub here_open : (source : Source) (told told' : Told) → source.place.is_open ≡ true →
    told'.bytes_under ≡ told.bytes_under → IsHere (plan_of source) told told' source.place
here_open source told told' opened names =
    here source told told' (source.placed.opened opened).0 (source.placed.opened opened).1 names

-- the bytes of the first file of each transfer are told
pub first_known : (opened : ℕ) (source : Source) (told : Told) (files : List (List ℕ)) →
    AreToldWithFirsts opened told (plan_of source) files → (k : ℕ) → k < length source.starts.now →
    told.bytes_under (first_name source k)
    ≡ Some (file_at (stream_of (plan_of source) files) (begin_of (stream_of (plan_of source) files) k))
first_known opened source told files are k there =
    let plan = plan_of source in
    ap (λ (n : ℕ). told.bytes_under (slice_index_or plan.names (begin_at plan.starts n k) [])) (sym (name_count source))
    ∙ are.each (begin_at plan.starts (length plan.names) k) ((plan_starts source).within k there) (inr (k, there, refl))
    ∙ ap (λ (i : ℕ). Some (slice_index_or files i [])) (sym (begin_is plan files are.count k))
