-- A block that is filled further.
use Rattle.std.proofs.Common.{◌≡◌, ◌≢◌, ℕ, ◌+◌, ◌-◌, ◌*◌, ◌≤◌, List, ◌++◌, Option, Some, None, Ok, Err, length, take, drop, sym, ap, ◌∙◌, subst, inl, inr, arith}
use Rattle.std.proofs.lemmas.Bool.{cases_eq}
use Rattle.std.proofs.lemmas.List.{length-append, drop-append-le, take_at}
use Rattle.psr_base.specs.Told.{Told}
use Rattle.ring_blocks.specs.declared.Entry.{Entry}
use Rattle.stream_model.specs.Blocks.{full_entries, whole_stream}
use Rattle.stream_model.specs.BlockLaws.{StreamsGrow}
use Rattle.disk_feeder.specs.declared.answers.FeedEnd.{FeedEnd}
use Rattle.disk_feeder.specs.declared.due.Due.{Due}
use Rattle.disk_feeder.specs.declared.due.Due.TheVariants.{Full, Stopped}
use Rattle.disk_feeder.specs.declared.place.Place.{Place}
use Rattle.disk_feeder.specs.Plan.{Plan}
use Rattle.disk_feeder.specs.Sources.{ComesEarly}
use Rattle.disk_feeder.specs.Filling.{FillsTo, DueIs, IsFilled}

-- a vector that was written as a slice
pub whole_written : (n : ℕ) (new old : List ℕ) → length new ≡ n → take n (new ++ drop (length new) old) ≡ new
whole_written n new old is = take_at new (drop (length new) old) n is

-- the entries of the data so far, for more data and the same size
sealed_more : StreamsGrow → (size size' : ℕ) (before : List (List ℕ)) (current piece : List ℕ) (fulls : ℕ)
    (blocks : List Entry) → size' ≡ size → fulls * size ≤ length current →
    blocks ≡ whole_stream size before ++ full_entries size current fulls →
    blocks ≡ whole_stream size' before ++ full_entries size' (current ++ piece) fulls
sealed_more grow size size' before current piece fulls blocks same few is =
    rw (same, grow.full size current piece fulls few) is

-- a piece came behind the bytes that the block held
pub filled_more : StreamsGrow → (plan : Plan) (told told' : Told) (at at' : Place) (block block' : List ℕ)
    (held held' n : ℕ) (due' : Option Due) (blocks : List Entry) → IsFilled plan told at block held None blocks →
    FillsTo plan at told at' told' held block block' (Ok n) → length block' ≡ length block → held' ≡ held + n →
    held + n ≤ length block' → (held' ≡ length block' → due' ≡ Some Full) → (held' ≢ length block' → due' ≡ None) →
    IsFilled plan told' at' block' held' due' blocks
filled_more grow plan told told' at at' block block' held held' n due' blocks f fills same sum fits full more =
    let reads = fills f.before f.current f.next.0 in
    let piece = reads.0 in
    let size = length block in
    let product : f.fulls * length block' ≡ f.fulls * size = ap (λ (m : ℕ). f.fulls * m) same in
    let count = f.count in
    let few : f.fulls * size ≤ length f.current = omega arith in
    let longer = length-append f.current piece in
    let added = reads.2 in
    record {
      before = f.before;
      current = f.current ++ piece;
      fulls = f.fulls;
      sealed = sealed_more grow size (length block') f.before f.current piece f.fulls blocks same few f.sealed;
      count = omega arith;
      kept = ap (λ (m : ℕ). take m block') sum ∙ reads.1 ∙ ap (λ (xs : List ℕ). xs ++ piece) f.kept
          ∙ sym (drop-append-le (f.fulls * size) f.current piece few)
          ∙ ap (λ (m : ℕ). drop m (f.current ++ piece)) (sym product);
      next =
          let P : Option Due → Type 0 = λ due.
          DueIs plan told' at' f.before (f.current ++ piece) (length block') held' due in
          elim (cases_eq held' (length block')) [
            | inl now ↦ subst P (sym (full now)) (reads.3, now)
            | inr not_now ↦ subst P (sym (more not_now)) (reads.3, omega arith)
          ];
    }

-- reading ended
pub filled_stopped : (plan : Plan) (told told' : Told) (at : Place) (block block' : List ℕ) (held : ℕ) (end : FeedEnd)
    (blocks : List Entry) → IsFilled plan told at block held None blocks →
    FillsTo plan at told at told' held block block' (Err end) → length block' ≡ length block →
    take held block' ≡ take held block → ComesEarly plan at end →
    IsFilled plan told' at block' held (Some (Stopped end)) blocks
filled_stopped plan told told' at block block' held end blocks f fills same front early =
    let has = f.next.0 in
    let size = length block in
    let less = f.next.1 in
    record {
      before = f.before;
      current = f.current;
      fulls = f.fulls;
      sealed = rw same f.sealed;
      count = rw same f.count;
      kept = rw same (front ∙ f.kept);
      next = (
        record { transfers = has.transfers; since = has.since; total = has.total },
        omega arith,
        rw same (fills f.before f.current has),
        early,
      );
    }
