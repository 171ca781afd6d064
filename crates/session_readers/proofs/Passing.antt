-- A block that was copied to the space of a shard.
use Rattle.std.proofs.Common.{◌≡◌, ℕ, List, length, take, drop, sym}
use Rattle.std.proofs.Math.Seq.{take-append_seam}
use Rattle.ring_blocks.specs.declared.Entry.{Entry}
use Rattle.ring_words.specs.declared.shape.RingShape.{RingShape}
use Rattle.ring_words.specs.declared.views.ReaderView.{ReaderView}
use Rattle.ring_words.specs.Steps.{CopiesTo}
use Rattle.ring_ends.specs.declared.answers.Taken.{Taken}
use Rattle.ring_ends.specs.Answers.{CanTakeNext, IsRead}
use Rattle.session_readers.specs.declared.bank.Bank.{Bank}
use Rattle.session_readers.specs.Banks.{CanFeedAt, CanFeed, engines_of}

-- its bytes stand in front
in_front : (into into' : List ℕ) (block : Entry) (used : ℕ) → CopiesTo into block into' → used ≡ length block.bytes →
    take used into' ≡ block.bytes
in_front into into' block used copied is =
    rw (is, copied) (take-append_seam block.bytes (drop (length block.bytes) into))

-- the engine that can take it where it lay can take it from there
pub can_feed_copy : (bank : Bank) (transfer : ℕ) (ring : RingShape) (old new : ReaderView) (into into' : List ℕ)
    (taken : Taken) → old.shape ≡ ring → CanTakeNext (CanFeed bank transfer) ring old →
    IsRead old into taken new into' → CanFeedAt (engines_of bank) transfer (take taken.used into')
can_feed_copy bank transfer ring old new into into' taken shape ready read =
    rw (in_front into into' read.entry taken.used read.bytes read.used)
    (ready read.entry (rw (sym shape, sym read.block) read.within) (rw (sym shape, sym read.used) read.fits))
