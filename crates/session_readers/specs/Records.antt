-- What a recorder of a session has cleared, and what its turns did.
-- Source: this project's choice.
use Rattle.std.specs.Prelude.{◌≡◌, ◌≢◌, ℕ, ◌+◌, ◌<◌, ◌≤◌, ◌^◌, min, List, Option, Some, None, IsSome}
use Rattle.psr_base.specs.Count.{Rose}
use Rattle.psr_base.specs.Made.{FilesSeen}
use Rattle.ring_core.specs.Machine.{greatest}
use Rattle.ring_blocks.specs.declared.Entry.{Entry}
use Rattle.ring_words.specs.Ring.{Begins}
use Rattle.ring_ends.specs.Passes.{ended_knows}
use Rattle.dada_hdu.specs.declared.hdu.Hdu.{Hdu}
use Rattle.dada_hdu.specs.declared.ended.HduEnded.{HduEnded}
use Rattle.dada_hdu.specs.Passes.{data_shape, header_end, data_end, number_of, tries_of, EndedFromBoth}
use Rattle.dada_recorder.specs.declared.answers.RecordEnd.{RecordEnd}
use Rattle.dada_recorder.specs.declared.answers.RecordEnd.TheVariants.{FileFault}
use Rattle.dada_recorder.specs.Making.{Outset, IsOpenAs}
use Rattle.dada_recorder.specs.Recorder.{plan_of, block_size, has_end, has_open_file, RecorderStands, FilesAreOf}
use Rattle.dada_recorder.specs.Transfers.{EndsClosed}
use Rattle.session_readers.specs.declared.record.RecordActor.{RecordActor}
use Rattle.session_readers.specs.Reads.{Reads}
use Rattle.session_readers.specs.Shards.{IsHere, IsHereOrRetired}

-- the blocks that it cleared of the header ring and of the data ring
abbrev pub recorded_headers : {F : Type 0} → RecordActor F → List Entry
recorded_headers x = (ended_knows (header_end x.pass)).cleared

abbrev pub recorded_blocks : {F : Type 0} → RecordActor F → List Entry
recorded_blocks x = (ended_knows (data_end x.pass)).cleared

-- A recorder of these rings stands for the blocks that its pass cleared, and has ended where its part has. In these and
-- the following: whether a file is open, and what files show.
pub record RecordOn {F : Type 0} (is_open : F → Type 0) (hdu : Hdu) (x : RecordActor F) :
    Type 0 where
  pub reads : EndedFromBoth hdu x.pass
  pub here : x.end ≡ None → IsHere x.pass
  pub stays : IsHereOrRetired x.pass
  pub size : (data_shape hdu).size ≡ block_size x.part
  pub file : x.end ≡ None → IsOpenAs (has_open_file x.part) (is_open x.part.files.now)
  pub closed : EndsClosed x.end (is_open x.part.files.now)
  pub stands : RecorderStands x.part (recorded_headers x) (recorded_blocks x)
  pub end : x.end ≡ has_end x.part
  pub count : x.turns < 2 ^ 64

-- since the files had counted k faults a recorder met one only where the count rose, and else it stands still
pub record RecordSince (k faults : ℕ) (end : Option RecordEnd) : Type 0 where
  pub count : k ≤ faults
  pub failed : end ≡ Some FileFault → Rose k faults
  pub quiet : end ≢ Some FileFault → faults ≡ k

-- what the turns of a recorder keep of its files, and make of them
pub record FilesKept {F : Type 0} (seen : F → FilesSeen) (x y : RecordActor F) : Type 0 where
  pub same_reference : y.part.files.ghost_name ≡ x.part.files.ghost_name
  pub made : (outset : Outset) →
      FilesAreOf x.part outset (recorded_headers x) (recorded_blocks x) (seen x.part.files.now) →
      FilesAreOf y.part outset (recorded_headers y) (recorded_blocks y) (seen y.part.files.now)
  pub count : (seen x.part.files.now).faults ≤ (seen y.part.files.now).faults
  pub since : (k : ℕ) → RecordSince k (seen x.part.files.now).faults x.end →
      RecordSince k (seen y.part.files.now).faults y.end

-- the pass is that of a recorder which stands for the blocks that it cleared and has not ended, and which made its
-- files of those of x
pub record GoesOnFrom {F : Type 0} (seen : F → FilesSeen) (x : RecordActor F) (pass : HduEnded) :
    Type 0 where
  pub actor : RecordActor F
  pub pass_is : actor.pass ≡ pass
  pub running : actor.end ≡ None
  pub end : actor.end ≡ has_end actor.part
  pub plan : plan_of actor.part ≡ plan_of x.part
  pub stands : RecorderStands actor.part (recorded_headers actor) (recorded_blocks actor)
  pub files : FilesKept seen x actor

-- n turns of a recorder, or fewer where it ended: each made one read, and none came once it had ended
pub record RecordMoved {F : Type 0} (seen : F → FilesSeen) (n : ℕ) (x y : RecordActor F) :
    Type 0 where
  pub files : FilesKept seen x y
  pub plan : plan_of y.part ≡ plan_of x.part
  pub size : block_size y.part ≡ block_size x.part
  pub number : number_of y.pass ≡ number_of x.pass
  pub made : ℕ
  pub most : made ≤ n
  pub all : y.end ≡ None → made ≡ n
  pub none : IsSome x.end → made ≡ 0
  pub stays : IsSome x.end → y.end ≡ x.end
  pub turns : y.turns ≡ min greatest (x.turns + made)
  pub reads : Reads (GoesOnFrom seen x) made x.pass y.pass
  pub tries : tries_of y.pass ≡ tries_of x.pass + made
  pub headers : Begins (recorded_headers x) (recorded_headers y)
  pub blocks : Begins (recorded_blocks x) (recorded_blocks y)
