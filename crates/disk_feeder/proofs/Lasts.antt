-- What a feeder stands for once the last block of a transfer is given.
use Rattle.std.proofs.Common.{◌≡◌, ℕ, ◌+◌, List, [], ◌∷◌, ◌++◌, None, Some, Bool, false, length, take, sym, ap, ◌∙◌, subst}
use Rattle.psr_base.specs.Told.{Told}
use Rattle.ring_blocks.specs.declared.Entry.{Entry}
use Rattle.ring_blocks.specs.declared.Mark.TheVariants.{End}
use Rattle.dada_hdu.specs.Answers.{entry}
use Rattle.stream_model.specs.BlockLaws.{StreamsGrow}
use Rattle.stream_model.specs.WalkLaws.{NoStopIsWhole}
use Rattle.disk_feeder.specs.declared.answers.FeedTurn.{FeedTurn}
use Rattle.disk_feeder.specs.declared.answers.FeedTurn.TheVariants.{Moved, Waiting, Ended}
use Rattle.disk_feeder.specs.declared.due.Due.TheVariants.{Last}
use Rattle.disk_feeder.specs.declared.place.Place.{Place}
use Rattle.disk_feeder.specs.declared.source.Source.{Source}
use Rattle.disk_feeder.specs.declared.stream.Stream.{Stream}
use Rattle.disk_feeder.specs.Plan.{Plan, AreAccepted, begin_at}
use Rattle.disk_feeder.specs.Sources.{plan_of}
use Rattle.disk_feeder.specs.Reading.{EndsTransfer}
use Rattle.disk_feeder.specs.Streams.{IsSourceOver}
use Rattle.disk_feeder.specs.Feeding.{header_entries, headers_sealed, IsRunning, IsFeeding, GoesOn}
use Rattle.disk_feeder.proofs.OfSource.{name_count, plan_place}
use Rattle.disk_feeder.proofs.Runs.{feeds_running, feeds_ended, stream_is, with_due}
use Rattle.disk_feeder.proofs.Sealings.{LastSealed, last_sealed, next_begun, whole_sealed}

-- the state after the last block of a transfer
record After (mid : Stream) (told : Told) (headers blocks : List Entry) : Type 0 where
  pub sealed : LastSealed (plan_of mid.source) told mid.source.place (length mid.block.items) blocks
  pub accepted : AreAccepted (plan_of mid.source)
  pub headers_are : headers ≡ header_entries (take mid.source.place.transfer (plan_of mid.source).headers)
  pub over : mid.source.place.file
      ≡ begin_at (plan_of mid.source).starts (length (plan_of mid.source).names) mid.source.place.transfer
  pub held : mid.held ≡ 0
  pub due : mid.due ≡ None

-- another transfer begins, or all are sealed
go_on : NoStopIsWhole → (mid new : Stream) (told : Told) (headers blocks : List Entry) (turn : FeedTurn) →
    After mid told headers blocks → new.source ≡ mid.source → new.block ≡ mid.block → new.held ≡ mid.held →
    new.due ≡ mid.due → GoesOn mid new turn → IsFeeding new told headers blocks
go_on whole mid new told headers blocks Moved a source block held due goes =
    feeds_running new told headers blocks goes.2 (record {
      there = rw source goes.0;
      accepted = rw source a.accepted;
      sealed = rw (goes.1, source) a.headers_are;
      stream = stream_is new mid.source told mid.block.items 0 None blocks source (ap (λ v. v.items) block)
          (held ∙ a.held) (due ∙ a.due)
          (next_begun (plan_of mid.source) told mid.source.place mid.block.items a.sealed.before blocks mid.some
          a.sealed.has a.sealed.stream);
    })
go_on whole mid new told headers blocks (Waiting reader cleared) a source block held due goes = absurd goes
go_on whole mid new told headers blocks (Ended end) a source block held due goes =
    let plan = plan_of mid.source in
    feeds_ended new told headers blocks end goes.2
    (record {
      ended = rw (source, block, goes.1)
          (whole_sealed whole plan told mid.source.place (length mid.block.items) headers blocks a.sealed goes.0
          mid.source.headed a.over a.headers_are (plan_place mid.source).total);
      cut = λ failed files are. let all = goes.1 in absurd cc;
      past = λ failed. let all = goes.1 in absurd cc;
    })

-- the next transfer begins where the one before ended
begins_next : (source : Source) (next : Place) →
    next ≡ record source.place { transfer = source.place.transfer + 1; since = 0 } →
    source.place.file ≡ begin_at source.starts.now (length source.names.now) (source.place.transfer + 1) →
    next.file ≡ begin_at (plan_of source).starts (length (plan_of source).names) next.transfer
begins_next source next moved over =
    rw moved
    (over ∙ ap (λ (n : ℕ). begin_at source.starts.now n (source.place.transfer + 1)) (sym (name_count source)))

-- the blocks before the last one of a transfer
pub record BeforeLast (old : Stream) (told : Told) (headers blocks : List Entry) : Type 0 where
  pub was : IsRunning old told headers blocks
  pub due : old.due ≡ Some Last
  pub header : old.header_due ≡ false
  pub over : IsSourceOver old.source

-- the next transfer begins
pub record BeginsNext (old : Stream) (next : Source) (mid : Stream) : Type 0 where
  pub place : next.place ≡ record old.source.place { transfer = old.source.place.transfer + 1; since = 0 }
  pub read : EndsTransfer (plan_of old.source) old.source.place next.place
  pub plan : plan_of next ≡ plan_of old.source
  pub source : mid.source ≡ next
  pub size : length mid.block.items ≡ length old.block.items
  pub held : mid.held ≡ 0
  pub due : mid.due ≡ None

pub last_given : StreamsGrow → NoStopIsWhole → (old : Stream) (next : Source) (mid new : Stream) (told : Told)
    (headers headers' blocks more : List Entry) (turn : FeedTurn) → BeforeLast old told headers blocks →
    BeginsNext old next mid → headers' ≡ headers → more ≡ blocks ++ entry End (take old.held old.block.items) ∷ [] →
    new.source ≡ mid.source → new.block ≡ mid.block → new.held ≡ mid.held → new.due ≡ mid.due →
    GoesOn mid new turn → IsFeeding new told headers' more
last_given grow whole old next mid new told headers headers' blocks more turn b n same is source block held due goes =
    let plan = plan_of old.source in
    let at = old.source.place in
    let was = b.was in
    let last = last_sealed grow plan told at next.place old.block.items old.held blocks more
    (with_due old told (Some Last) blocks b.due was.stream) (n.read told) is in
    let size = length old.block.items in
    let moved : next.place.transfer ≡ at.transfer + 1 = ap (λ (p : Place). p.transfer) n.place in
    let P : Plan → Type 0 = λ x. AreAccepted x in
    let Q : Plan → Type 0 = λ x. next.place.file ≡ begin_at x.starts (length x.names) next.place.transfer in
    go_on whole mid new told headers' more turn
    (record {
      sealed = rw (n.size, n.source, n.plan) last;
      accepted = rw n.source (subst P (sym n.plan) was.accepted);
      headers_are =
          same ∙ was.sealed
          ∙ ap (λ (d : Bool). header_entries (take (headers_sealed d at.transfer) plan.headers)) b.header
          ∙ ap (λ (k : ℕ). header_entries (take k plan.headers)) (sym moved)
          ∙ ap (λ (x : Plan). header_entries (take next.place.transfer x.headers)) (sym n.plan)
          ∙ ap (λ (x : Source). header_entries (take x.place.transfer (plan_of x).headers)) (sym n.source);
      over = rw n.source (subst Q (sym n.plan) (begins_next old.source next.place n.place b.over.1));
      held = n.held;
      due = n.due;
    }) source block held due goes
