-- A fault of calm inputs, which comes only at a file that isn't told.
use Rattle.std.proofs.Common.{◌≡◌, ℕ, ◌+◌, Some, None, length, ap, inl, inr, arith}
use Rattle.std.specs.Prelude.{IsSome}
use Rattle.psr_base.specs.Told.{Told}
use Rattle.disk_feeder.specs.declared.answers.FeedEnd.TheVariants.{ReadFault}
use Rattle.disk_feeder.specs.declared.due.Due.TheVariants.{Stopped}
use Rattle.disk_feeder.specs.declared.source.Source.{Source}
use Rattle.disk_feeder.specs.declared.stream.Stream.{Stream}
use Rattle.disk_feeder.specs.Plan.{Plan, begin_at}
use Rattle.disk_feeder.specs.Sources.{plan_of, current_name, HasMore}
use Rattle.disk_feeder.specs.Feeding.{IsUntold, FaultIsUntold}
use Rattle.disk_feeder.proofs.OfSource.{name_count, plan_starts}
use Rattle.disk_feeder.proofs.Streams.{begin_most}

-- the same of another source with the same plan and place, where the same is told under names
pub missing_of : (old new : Source) (told told' : Told) → plan_of new ≡ plan_of old → new.place ≡ old.place →
    told'.bytes_under ≡ told.bytes_under → IsUntold told old → IsUntold told' new
missing_of old new told told' plan place names was =
    let same = ap (λ (p : Plan). p.names) plan in
    record {
      there = rw (same, place) was.there;
      untold = λ some. was.untold (rw (names, same, place) at some);
    }

-- a file that was to be opened or read
pub missing_here : (source : Source) (told : Told) → HasMore source →
    (IsSome (told.bytes_under (current_name source)) → ⊥) → IsUntold told source
missing_here source told more untold =
    let most = begin_most (plan_of source).starts (length (plan_of source).names) source.place.transfer
    (plan_starts source) more.there in
    let count = name_count source in
    let upto = more.more in
    let same : begin_at source.starts.now (length (plan_of source).names) (source.place.transfer + 1)
    ≡ begin_at source.starts.now (length source.names.now) (source.place.transfer + 1) =
    ap (λ (n : ℕ). begin_at source.starts.now n (source.place.transfer + 1)) count in
    record { there = omega arith; untold = untold }

-- a call that finds one due, where it had not ended
pub fault_due : (s : Stream) (told : Told) → s.end ≡ None →
    (s.due ≡ Some (Stopped ReadFault) → IsUntold told s.source) → FaultIsUntold told s
fault_due s told running missing (inl due) = missing due
fault_due s told running missing (inr end) = absurd cc
