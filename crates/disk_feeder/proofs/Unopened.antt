-- A fault of calm inputs, which comes only as a file is to be opened.
use Rattle.std.proofs.Common.{◌≡◌, false, Some, None, sym, ap, ◌∙◌, subst, inl, inr}
use Rattle.psr_base.specs.Told.{Told}
use Rattle.disk_feeder.specs.declared.answers.FeedEnd.TheVariants.{ReadFault}
use Rattle.disk_feeder.specs.declared.due.Due.TheVariants.{Stopped}
use Rattle.disk_feeder.specs.declared.place.Place.{Place}
use Rattle.disk_feeder.specs.declared.source.Source.{Source}
use Rattle.disk_feeder.specs.declared.stream.Stream.{Stream}
use Rattle.disk_feeder.specs.History.{ReadsUpTo, ReadsBefore}
use Rattle.disk_feeder.specs.Plan.{Plan}
use Rattle.disk_feeder.specs.Sources.{plan_of, FailsToOpen}
use Rattle.disk_feeder.specs.Feeding.{IsUnopened, FaultIsUnopened}

-- where no file is open, those before the place were read
reads_before : (plan : Plan) (before told : Told) (at : Place) → at.is_open ≡ false →
    ReadsUpTo plan before told at → ReadsBefore plan before told at
reads_before plan before told at shut reads = λ files are.
    rw shut at (reads.known files (rw shut are))

-- a file that could not be opened
pub not_opened : (old new : Source) (before told told' : Told) → plan_of new ≡ plan_of old → new.place ≡ old.place →
    FailsToOpen old told told' → ReadsUpTo (plan_of old) before told old.place → IsUnopened before told' new
not_opened old new before told told' plan place fails reads =
    let P : Plan → Type 0 = λ p. ReadsBefore p before told' new.place in
    record {
      shut = ap (λ (at : Place). at.is_open) place ∙ fails.shut;
      read = subst P (sym plan) (rw (place, fails.fails.stays)
          (reads_before (plan_of old) before told old.place fails.shut reads));
    }

-- a call that finds one due, where it had not ended
pub unopened_due : (s : Stream) (before told : Told) → s.end ≡ None →
    (s.due ≡ Some (Stopped ReadFault) → IsUnopened before told s.source) → FaultIsUnopened before told s
unopened_due s before told running unopened (inl due) = unopened due
unopened_due s before told running unopened (inr end) = absurd cc
