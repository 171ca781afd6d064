-- A running feeder in the words of another state.
use Rattle.std.proofs.Common.{◌≡◌, ℕ, List, Option, Some, None, sym, ap, ◌∙◌, subst}
use Rattle.psr_base.specs.Told.{Told}
use Rattle.ring_blocks.specs.declared.Entry.{Entry}
use Rattle.ring_words.specs.declared.views.WriterView.{WriterView}
use Rattle.ring_ends.specs.declared.passes.WriterPass.{WriterPass}
use Rattle.ring_ends.specs.Passes.{writer_knows}
use Rattle.ring_ends.specs.Answers.{IsFull}
use Rattle.dada_hdu.specs.declared.passes.HduWriter.{HduWriter}
use Rattle.disk_feeder.specs.declared.answers.FeedEnd.{FeedEnd}
use Rattle.disk_feeder.specs.declared.due.Due.{Due}
use Rattle.disk_feeder.specs.declared.source.Source.{Source}
use Rattle.disk_feeder.specs.declared.stream.Stream.{Stream}
use Rattle.disk_feeder.specs.Sources.{plan_of}
use Rattle.disk_feeder.specs.Filling.{IsFilled}
use Rattle.disk_feeder.specs.Streams.{IsStream}
use Rattle.disk_feeder.specs.Turns.{sealed_headers, sealed_blocks}
use Rattle.disk_feeder.specs.Feeding.{IsRunning, HasEndedAs, FeedsTo, IsFeeding}

-- one that has not ended
pub feeds_running : (s : Stream) (told : Told) (headers blocks : List Entry) → s.end ≡ None →
    IsRunning s told headers blocks → IsFeeding s told headers blocks
feeds_running s told headers blocks is was =
    let P : Option FeedEnd → Type 0 = λ e. FeedsTo s told headers blocks e in subst P (sym is) was

-- one that has
pub feeds_ended : (s : Stream) (told : Told) (headers blocks : List Entry) (end : FeedEnd) → s.end ≡ Some end →
    HasEndedAs s told headers blocks end → IsFeeding s told headers blocks
feeds_ended s told headers blocks end is was =
    let P : Option FeedEnd → Type 0 = λ e. FeedsTo s told headers blocks e in subst P (sym is) was

-- the same sealed lists
pub same_lists : (s : Stream) (told : Told) (headers headers' blocks blocks' : List Entry) → headers' ≡ headers →
    blocks' ≡ blocks → IsRunning s told headers blocks → IsRunning s told headers' blocks'
same_lists s told headers headers' blocks blocks' e f was = rw (e, f) was

pub full_keeps : (w w' : WriterView) (i c : ℕ) → IsFull w i c w' → w'.sealed ≡ w.sealed
full_keeps w w' i c full = ap (λ (v : WriterView). v.sealed) full.in_turn.rest

-- where the header ring was
pub headers_full : (s : Stream) (told : Told) (pass pass' : HduWriter) (i c : ℕ) → s.end ≡ None →
    IsFull (writer_knows pass.header) i c (writer_knows pass'.header) → pass'.blocks ≡ pass.blocks →
    IsRunning s told (sealed_headers pass) (sealed_blocks pass) →
    IsFeeding s told (sealed_headers pass') (sealed_blocks pass')
headers_full s told pass pass' i c is full blocks was =
    feeds_running s told (sealed_headers pass') (sealed_blocks pass') is
    (same_lists s told (sealed_headers pass) (sealed_headers pass') (sealed_blocks pass) (sealed_blocks pass')
    (full_keeps (writer_knows pass.header) (writer_knows pass'.header) i c full)
    (ap (λ (p : WriterPass). (writer_knows p).sealed) blocks) was)

-- a block of a stream, by its parts
pub stream_is : (s : Stream) (source : Source) (told : Told) (block : List ℕ) (held : ℕ) (due : Option Due)
    (blocks : List Entry) → s.source ≡ source → s.block.items ≡ block → s.held ≡ held → s.due ≡ due →
    IsFilled (plan_of source) told source.place block held due blocks → IsStream s told blocks
stream_is s source told block held due blocks a b c d was = rw (a, b, c, d) was

-- another due
pub with_due : (s : Stream) (told : Told) (due : Option Due) (blocks : List Entry) → s.due ≡ due →
    IsStream s told blocks → IsFilled (plan_of s.source) told s.source.place s.block.items s.held due blocks
with_due s told due blocks is was = rw (← is) was

-- the same source, with other blocks
pub runs_on : (old new : Stream) (told : Told) (headers headers' blocks blocks' : List Entry) →
    new.source ≡ old.source → new.header_due ≡ old.header_due → headers' ≡ headers →
    IsRunning old told headers blocks → IsStream new told blocks' → IsRunning new told headers' blocks'
runs_on old new told headers headers' blocks blocks' source due same was stream =
    record {
      there = rw source was.there;
      accepted = rw source was.accepted;
      sealed = rw (source, due) (same ∙ was.sealed);
      stream = stream;
    }

-- where the data ring was full, the same stream goes on
pub blocks_full : (old new : Stream) (told : Told) (pass pass' : HduWriter) (i c : ℕ) → new.source ≡ old.source →
    new.block ≡ old.block → new.held ≡ old.held → new.due ≡ old.due → new.header_due ≡ old.header_due →
    new.end ≡ None → IsFull (writer_knows pass.blocks) i c (writer_knows pass'.blocks) → pass'.header ≡ pass.header →
    IsRunning old told (sealed_headers pass) (sealed_blocks pass) →
    IsFeeding new told (sealed_headers pass') (sealed_blocks pass')
blocks_full old new told pass pass' i c source block held due header_due is full header was =
    let same = full_keeps (writer_knows pass.blocks) (writer_knows pass'.blocks) i c full in
    feeds_running new told (sealed_headers pass') (sealed_blocks pass') is
    (runs_on old new told (sealed_headers pass) (sealed_headers pass') (sealed_blocks pass) (sealed_blocks pass') source
    header_due (ap (λ (p : WriterPass). (writer_knows p).sealed) header) was
    (rw same
    (stream_is new old.source told old.block.items old.held old.due (sealed_blocks pass) source
    (ap (λ v. v.items) block) held due was.stream)))
