-- What a turn asks of its parts.
use Rattle.std.proofs.Common.{◌≡◌, ℕ, ◌+◌, ◌<◌, List, ◌++◌, Option, Some, None, length, sym, ap, ◌∙◌, subst, arith}
use Rattle.psr_base.specs.Told.{Told}
use Rattle.ring_blocks.specs.declared.Entry.{Entry}
use Rattle.dada_hdu.specs.declared.hdu.Hdu.{Hdu}
use Rattle.dada_hdu.specs.Passes.{data_shape}
use Rattle.stream_model.specs.Blocks.{full_entries, whole_stream}
use Rattle.stream_model.specs.BlockLaws.{StreamsAreShort}
use Rattle.disk_feeder.specs.declared.answers.FeedEnd.{FeedEnd}
use Rattle.disk_feeder.specs.declared.due.Due.{Due}
use Rattle.disk_feeder.specs.declared.due.Due.TheVariants.{Last, Stopped}
use Rattle.disk_feeder.specs.declared.place.Place.{Place}
use Rattle.disk_feeder.specs.declared.stream.Stream.{Stream}
use Rattle.disk_feeder.specs.Plan.{Plan, AreAccepted, begin_at}
use Rattle.disk_feeder.specs.Sources.{plan_of}
use Rattle.disk_feeder.specs.Filling.{IsCountOf, DueIs}
use Rattle.disk_feeder.specs.Streams.{IsStream, KeepsStream, IsSourceOver}
use Rattle.disk_feeder.specs.Feeding.{IsRunning, FeedsTo, IsFeeding, FitsRings}
use Rattle.disk_feeder.proofs.OfSource.{name_count, plan_place}

-- a feeder that has not ended runs
pub runs : (s : Stream) (told : Told) (headers blocks : List Entry) → s.end ≡ None →
    IsFeeding s told headers blocks → IsRunning s told headers blocks
runs s told headers blocks is was =
    let P : Option FeedEnd → Type 0 = λ e. FeedsTo s told headers blocks e in subst P is was

-- it runs on once the block was filled
pub runs_filled : (old mid : Stream) (told told' : Told) (headers blocks : List Entry) → old.end ≡ None →
    IsFeeding old told headers blocks → KeepsStream old mid → (IsStream old told blocks → IsStream mid told' blocks) →
    IsRunning mid told' headers blocks
runs_filled old mid told told' headers blocks is feeding keeps fills =
    let was = runs old told headers blocks is feeding in
    let starts : length mid.source.starts.now ≡ length old.source.starts.now =
    ap (λ (p : Plan). length p.starts) keeps.plan in
    let transfer = keeps.transfer in
    let there = was.there in
    record {
      there = omega arith;
      accepted = let P : Plan → Type 0 = λ p. AreAccepted p in subst P (sym keeps.plan) was.accepted;
      sealed = rw (keeps.header_due, keeps.transfer, ap (λ (p : Plan). p.headers) keeps.plan) was.sealed;
      stream = fills was.stream;
    }

-- the numbers of what was read
pub counts : (plan : Plan) (told : Told) (at : Place) (before : List (List ℕ)) (current : List ℕ) (size held : ℕ)
    (due : Option Due) → DueIs plan told at before current size held due → IsCountOf at before current
counts plan told at before current size held (Some (Stopped end)) d = d.0
counts plan told at before current size held due d =
    record { transfers = d.0.transfers; since = d.0.since; total = d.0.total }

-- one more block may be sealed
pub has_room : StreamsAreShort → (hdu : Hdu) (s : Stream) (told : Told) (headers blocks : List Entry) →
    FitsRings hdu s → IsRunning s told headers blocks → length blocks < (data_shape hdu).max_blocks
has_room short hdu s told headers blocks fits was =
    let f = was.stream in
    let size = length s.block.items in
    let count = f.count in
    let numbers = counts (plan_of s.source) told s.source.place f.before f.current size s.held s.due f.next in
    let total = numbers.total in
    let transfers = numbers.transfers in
    let within = (plan_place s.source).total in
    let there = was.there in
    let most = fits.blocks in
    let few = short.so_far size s.source.max_bytes f.before f.current f.fulls s.some (omega arith) in
    let same : length blocks ≡ length (whole_stream size f.before ++ full_entries size f.current f.fulls) =
    ap (length {A = Entry}) f.sealed in
    omega arith

-- where the rest of a transfer is due, all of it was read
pub last_is : (s : Stream) (told : Told) (blocks : List Entry) (due : Due) → s.due ≡ Some due →
    IsStream s told blocks → due ≡ Last → (s.held < length s.block.items) × IsSourceOver s.source
last_is s told blocks due is f last =
    let d = rw (is ∙ ap Some last) at f.next in
    let over = d.2 in (
      d.1,
      (
        over.shut,
        over.last ∙ ap (λ (n : ℕ). begin_at s.source.starts.now n (s.source.place.transfer + 1)) (name_count s.source),
      ),
    )
