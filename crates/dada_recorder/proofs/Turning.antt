-- What a turn leaves, once its block is cleared.
use Rattle.std.proofs.Common.{◌≡◌, ℕ, List, [], ◌∷◌, ◌++◌, Option, None, length, take, refl, sym, ap, ◌∙◌, arith}
use Rattle.std.proofs.Math.Seq.{take-append_seam}
use Rattle.psr_base.specs.Made.{FilesSeen}
use Rattle.ring_blocks.specs.declared.Entry.{Entry}
use Rattle.ring_words.specs.declared.views.ReaderView.{ReaderView}
use Rattle.ring_words.specs.Views.{got_list, after_hit, after_give, after_clear}
use Rattle.ring_ends.specs.declared.answers.ReadStop.{ReadStop}
use Rattle.ring_ends.specs.declared.answers.ReadStop.TheVariants.{Empty, Busy}
use Rattle.ring_ends.specs.Answers.{IsReadStop}
use Rattle.dada_hdu.specs.declared.hdu.Hdu.{Hdu}
use Rattle.dada_hdu.specs.declared.passes.HduReader.{HduReader}
use Rattle.dada_hdu.specs.Passes.{ReadsBoth}
use Rattle.dada_recorder.specs.declared.answers.RecordEnd.{RecordEnd}
use Rattle.dada_recorder.specs.declared.space.RecorderSpace.{RecorderSpace}
use Rattle.dada_recorder.specs.declared.transfers.Transfers.{Transfers}
use Rattle.dada_recorder.specs.Blocks.{files_of_blocks}
use Rattle.dada_recorder.specs.Making.{Outset, HasMade, IsOpenAs}
use Rattle.dada_recorder.specs.Recording.{FilesAre}
use Rattle.dada_recorder.specs.Transfers.{plan_in, IsRunning, StandsAt, EndsClosed, CountsEnd}
use Rattle.dada_recorder.specs.Spaces.{GoesOnIn, HasTurned}
use Rattle.dada_recorder.specs.Turns.{cleared_headers, cleared_blocks}

-- the block that was read is the last that was cleared
pub cleared_is : (old middle new : ReaderView) (word : ℕ) (block : Entry) → new ≡ after_clear middle →
    middle ≡ after_give (after_hit old word block) → new.cleared ≡ old.cleared ++ block ∷ []
cleared_is old middle new word block cleared read =
    ap (λ (v : ReaderView). v.cleared) cleared ∙ ap (λ (v : ReaderView). v.cleared ++ got_list v.got) read

-- its bytes stand at the front of the space
pub front_is : (block space into : List ℕ) (used : ℕ) → used ≡ length block → space ≡ block ++ into →
    block ≡ take used space
front_is block space into used is whole = rw (is, whole, take-append_seam) refl

-- a vector that was written through a slice
pub written_is : (len : ℕ) (into rest : List ℕ) → length into ≡ len → take len (into ++ rest) ≡ into
written_is len into rest is = rw (← is) (take-append_seam into rest)

-- no block was found, and none is cleared
pub none_cleared : (old new : ReaderView) (stop : ReadStop) → IsReadStop old stop new → new.cleared ≡ old.cleared
none_cleared old new (Empty block seen) is = ap (λ (v : ReaderView). v.cleared) is.rest
none_cleared old new (Busy block reader) is = ap (λ (v : ReaderView). v.cleared) is.rest

-- no call was made
pub none_counted : (seen : FilesSeen) → CountsEnd None seen seen
none_counted seen = record {
  failed = λ is. absurd cc;
  quiet = λ other. refl;
  count = omega arith;
}

-- what stands where it goes on
pub stands_running : (t : Transfers) (headers blocks : List Entry) (end : Option RecordEnd) → end ≡ None →
    StandsAt t headers blocks end → IsRunning t headers blocks
stands_running t headers blocks end is stands = rw is at stands

-- what the files tell then
pub files_running : (t : Transfers) (outset : Outset) (headers blocks : List Entry) (end : Option RecordEnd)
    (seen : FilesSeen) → end ≡ None → FilesAre (plan_in t) outset t.files.place.is_open headers blocks end seen →
    HasMade outset t.files.place.is_open (files_of_blocks (plan_in t) headers blocks) seen
files_running t outset headers blocks end seen is files = rw is at files

-- the transfers t, and the end that they came to after these blocks, are those of the space
module _ {F : Type 0} (files_open : F → Type 0) (seen : F → FilesSeen) (hdu : Hdu) (old : RecorderSpace) (files : F)
    (pass : HduReader) (new : RecorderSpace) (files' : F) (pass' : HduReader) (t : Transfers)
    (headers blocks : List Entry) (end : Option RecordEnd) where
  pub has_turned : new.transfers ≡ t → new.end ≡ end → new.block ≡ old.block → cleared_headers pass' ≡ headers →
      cleared_blocks pass' ≡ blocks → ReadsBoth hdu pass' → plan_in t ≡ plan_in old.transfers →
      (end ≡ None → IsOpenAs t.files.place.is_open (files_open files')) → EndsClosed end (files_open files') →
      StandsAt t headers blocks end →
      ((outset : Outset) → HasMade outset old.transfers.files.place.is_open
      (files_of_blocks (plan_in old.transfers) (cleared_headers pass) (cleared_blocks pass)) (seen files) →
      FilesAre (plan_in t) outset t.files.place.is_open headers blocks end (seen files')) →
      CountsEnd end (seen files) (seen files') →
      HasTurned files_open seen hdu old files pass new files' pass'
  has_turned same_t same_e block same_h same_b ring plan is_open closed stands made faults = record {
    ring = ring;
    plan = ap plan_in same_t ∙ plan;
    block = block;
    is_open = λ running. rw same_t (is_open (sym same_e ∙ running));
    closed = rw same_e closed;
    stands = rw (same_t, same_e, same_h, same_b) stands;
    made = λ outset has. rw (same_t, same_e, same_h, same_b) (made outset has);
    faults = rw same_e faults;
  }

-- no block was found
pub has_waited : {F : Type 0} {files_open : F → Type 0} {seen : F → FilesSeen} {hdu : Hdu} {old new : RecorderSpace}
    {files : F} {pass : HduReader} (pass' : HduReader) → GoesOnIn files_open hdu old files pass →
    new.transfers ≡ old.transfers → new.end ≡ old.end → new.block ≡ old.block → ReadsBoth hdu pass' →
    cleared_headers pass' ≡ cleared_headers pass → cleared_blocks pass' ≡ cleared_blocks pass →
    HasTurned files_open seen hdu old files pass new files pass'
has_waited {seen = seen} {files = files} pass' goes_on same_t same_e block ring headers blocks =
    let running = same_e ∙ goes_on.running in
    record {
      ring = ring;
      plan = ap plan_in same_t;
      block = block;
      is_open = λ is. rw same_t goes_on.is_open;
      closed = rw running tt;
      stands = rw (running, same_t, headers, blocks) goes_on.stands;
      made = λ outset has. rw (running, same_t, headers, blocks) has;
      faults = rw running (none_counted (seen files));
    }
