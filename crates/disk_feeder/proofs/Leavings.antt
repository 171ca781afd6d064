-- What a fault of the inputs leaves of a stream.
use Rattle.std.proofs.Common.{◌≡◌, List, Option, Some, length, refl, subst, inr}
use Rattle.psr_base.specs.Told.{Told}
use Rattle.ring_blocks.specs.declared.Entry.{Entry}
use Rattle.disk_feeder.specs.declared.answers.FeedEnd.{FeedEnd}
use Rattle.disk_feeder.specs.declared.answers.FeedEnd.TheVariants.{ReadFault}
use Rattle.disk_feeder.specs.declared.stream.Stream.{Stream}
use Rattle.disk_feeder.specs.History.{Broken}
use Rattle.disk_feeder.specs.Sources.{plan_of}
use Rattle.disk_feeder.specs.Streams.{StreamRead}
use Rattle.disk_feeder.specs.Feeding.{HasEndedAs, FeedsTo, IsFeeding, FaultIsUnopened, BreaksReading}
use Rattle.disk_feeder.proofs.Fates.{has_ended, of_fate}

pub leaves : (s : Stream) (before told : Told) (headers blocks : List Entry) → IsFeeding s told headers blocks →
    s.end ≡ Some ReadFault → StreamRead before told s →
    BreaksReading (plan_of s.source) before (FaultIsUnopened before told s) told s.source.place (length s.block.items)
    blocks
leaves s before told headers blocks feeds ended read =
    let P : Option FeedEnd → Type 0 = λ e. FeedsTo s told headers blocks e in
    let was : HasEndedAs s told headers blocks ReadFault = subst P ended feeds in
    let broke = of_fate s Broken before told (has_ended s.due s.end ReadFault ended) read in
    record {
      passed = was.ended.passed;
      cut = was.cut refl;
      stood = broke.known;
      past = was.past refl;
      through = broke.through;
      shut = λ unopened. (unopened (inr ended)).shut;
      unopened = λ unopened. (unopened (inr ended)).read;
    }
