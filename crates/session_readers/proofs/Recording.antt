-- A turn of a recorder.
use Rattle.std.proofs.Common.{◌≡◌, ◌≢◌, ℕ, ◌+◌, ◌<◌, ◌≤◌, ◌^◌, min, Bool, true, false, List, length, Option, Some, None, refl, sym, ap, ◌∙◌, arith}
use Rattle.std.specs.Prelude.{IsSome, ◌==◌, if◌then◌else◌}
use Rattle.std.proofs.lemmas.Bool.Decides.{nat_tests}
use Rattle.psr_base.specs.Count.{Rose}
use Rattle.psr_base.specs.Made.{FilesSeen}
use Rattle.ring_core.specs.Machine.{greatest}
use Rattle.ring_blocks.specs.declared.Entry.{Entry}
use Rattle.ring_ends.specs.declared.passes.ReaderPass.{ReaderPass}
use Rattle.ring_ends.specs.Answers.{IsReadStop}
use Rattle.ring_ends.specs.Passes.{reader_knows}
use Rattle.dada_hdu.specs.declared.hdu.Hdu.{Hdu}
use Rattle.dada_hdu.specs.declared.passes.HduReader.{HduReader}
use Rattle.dada_hdu.specs.declared.ended.HduEnded.TheVariants.{Here}
use Rattle.stream_model.specs.Blocks.{ended_transfers}
use Rattle.dada_hdu.specs.Passes.{ReadsBoth}
use Rattle.dada_recorder.specs.declared.answers.RecordEnd.{RecordEnd}
use Rattle.dada_recorder.specs.declared.answers.RecordEnd.TheVariants.{FileFault}
use Rattle.dada_recorder.specs.declared.answers.RecordTurn.{RecordTurn}
use Rattle.dada_recorder.specs.declared.answers.RecordTurn.TheVariants.{Moved, Waiting, Ended}
use Rattle.dada_recorder.specs.Making.{Outset, IsOpenAs}
use Rattle.dada_recorder.specs.declared.transfers.Transfers.{Transfers}
use Rattle.dada_recorder.specs.Recording.{GoesOn}
use Rattle.dada_recorder.specs.Transfers.{plan_in, StandsAt, EndsClosed}
use Rattle.dada_recorder.specs.Recorder.{plan_of, block_size, has_end, has_header, has_open_file, RecorderStands, FilesAreOf}
use Rattle.dada_recorder.specs.Turns.{cleared_headers, cleared_blocks, ClearsNext, ReadsOne, RecordAnswers}
use Rattle.session_readers.specs.declared.record.RecordActor.{RecordActor}
use Rattle.session_readers.specs.Reads.{TriesNext, header_is_next, ReadsRing, ReadsNext, HasRested}
use Rattle.session_readers.specs.Records.{recorded_headers, recorded_blocks, RecordOn, FilesKept, GoesOnFrom, RecordMoved}
use Rattle.session_readers.proofs.OneRead.{takes_next, misses_next, begins_same, pass_rests, rested_tries, no_reads, one_read, read_number, read_tries, read_headers, read_blocks}

-- ---- one read

-- of one ring
clears : (old new : ReaderPass) → ClearsNext old new → TriesNext (reader_knows old) (reader_knows new)
clears old new c = takes_next (reader_knows old) (reader_knows new) c.block c.view c.again

-- of one of the two
abbrev opposite : Bool → Bool
opposite true = false
opposite false = true

by_ring : (does : ReaderPass → ReaderPass → Type 0) →
    ((p q : ReaderPass) → does p q → TriesNext (reader_knows p) (reader_knows q)) → (b : Bool)
    (old new : HduReader) → ReadsOne b does old new → ReadsRing (opposite b) (Here old) (Here new)
by_ring does one false old new r = (one old.header new.header r.0, pass_rests old.blocks new.blocks r.1)
by_ring does one true old new r = (pass_rests old.header new.header r.1, one old.blocks new.blocks r.0)

read_once : (b : Bool) (old new : HduReader) (end : Option RecordEnd) (answer : RecordTurn) →
    RecordAnswers b old new end answer → ReadsRing (opposite b) (Here old) (Here new)
read_once b old new end Moved a = by_ring ClearsNext clears b old new a.1
read_once b old new end (Waiting stop) a =
    by_ring (λ p q. IsReadStop (reader_knows p) stop (reader_knows q))
    (λ p q is. misses_next (reader_knows p) (reader_knows q) stop is) b old new a.1
read_once b old new end (Ended is) a = by_ring ClearsNext clears b old new a.1

-- a header is next where that of the transfer wasn't cleared
next_is : (b : Bool) (headers ended : ℕ) → headers ≡ ended + (if b then 1 else 0) → (headers == ended) ≡ opposite b
next_is true headers ended is = grind (arith, nat_tests)
next_is false headers ended is = grind (arith, nat_tests)

has_read : (b : Bool) (old new : HduReader) (end : Option RecordEnd) (answer : RecordTurn) →
    RecordAnswers b old new end answer →
    length (cleared_headers old) ≡ ended_transfers (cleared_blocks old) + (if b then 1 else 0) →
    ReadsNext (Here old) (Here new)
has_read b old new end answer answers begun =
    rw (next_is b (length (cleared_headers old)) (ended_transfers (cleared_blocks old)) begun)
    (read_once b old new end answer answers)

-- ---- turns

some_not_none : (end : Option RecordEnd) → IsSome end → end ≡ None → ⊥
some_not_none None some none = cc
some_not_none (Some e) some none = cc

none_is_no_fault : (end : Option RecordEnd) → end ≡ None → end ≢ Some FileFault
none_is_no_fault end none is = absurd cc

module _ {F : Type 0} (is_open : F → Type 0) (hdu : Hdu) (x y : RecordActor F) (reader : HduReader)
    (now : y.pass ≡ Here reader) where
  -- a recorder that reads stands on
  pub record_on : RecordOn is_open hdu x → ReadsBoth hdu reader → block_size y.part ≡ block_size x.part →
      (has_end y.part ≡ None → IsOpenAs (has_open_file y.part) (is_open y.part.files.now)) →
      EndsClosed (has_end y.part) (is_open y.part.files.now) →
      RecorderStands y.part (cleared_headers reader) (cleared_blocks reader) → y.end ≡ has_end y.part →
      y.turns < 2 ^ 64 → RecordOn is_open hdu y
  record_on on reads block file closed stands end small = record {
    reads = rw now reads;
    here = λ running. (reader, now);
    stays = rw now tt;
    size = on.size ∙ sym block;
    file = λ running. file (sym end ∙ running);
    closed = rw end closed;
    stands = rw now stands;
    end = end;
    count = small;
  }

-- what it stood for before
pub stood : {F : Type 0} (x : RecordActor F) (reader : HduReader) → x.pass ≡ Here reader →
    RecorderStands x.part (recorded_headers x) (recorded_blocks x) →
    RecorderStands x.part (cleared_headers reader) (cleared_blocks reader)
stood x reader was stands = rw was at stands

-- as many headers as transfers ended, and one more where that of the next was cleared
pub has_begun : {F : Type 0} (x : RecordActor F) (reader : HduReader) → x.pass ≡ Here reader →
    has_end x.part ≡ None → RecorderStands x.part (recorded_headers x) (recorded_blocks x) →
    length (cleared_headers reader) ≡ ended_transfers (cleared_blocks reader) + (if has_header x.part then 1 else 0)
has_begun x reader was running stands = (goes_on _ _ _ (has_end x.part) running (stood x reader was stands)).begun
  where
    goes_on : (t : Transfers) (headers blocks : List Entry) (end : Option RecordEnd) → end ≡ None →
        StandsAt t headers blocks end → GoesOn (plan_in t) t.has_header headers blocks
    goes_on t headers blocks None is stands = stands.goes_on
    goes_on t headers blocks (Some e) is stands = absurd cc

module _ {F : Type 0} (seen : F → FilesSeen) where
  files_themselves : (x : RecordActor F) → FilesKept seen x x
  files_themselves x = record {
    same_reference = refl;
    made = λ outset are. are;
    count = omega arith;
    since = λ k was. was;
  }

  -- a turn and its read
  pub record_turned : (x y : RecordActor F) (reader reader' : HduReader) (b : Bool) (end : Option RecordEnd)
      (answer : RecordTurn) → x.pass ≡ Here reader → y.pass ≡ Here reader' → x.end ≡ None →
      x.end ≡ has_end x.part → RecorderStands x.part (recorded_headers x) (recorded_blocks x) → y.end ≡ end →
      RecordAnswers b reader reader' end answer →
      length (cleared_headers reader) ≡ ended_transfers (cleared_blocks reader) + (if b then 1 else 0) →
      y.part.files.ghost_name ≡ x.part.files.ghost_name →
      plan_of y.part ≡ plan_of x.part → block_size y.part ≡ block_size x.part →
      ((outset : Outset) →
      FilesAreOf x.part outset (cleared_headers reader) (cleared_blocks reader) (seen x.part.files.now) →
      FilesAreOf y.part outset (cleared_headers reader') (cleared_blocks reader') (seen y.part.files.now)) →
      (end ≡ Some FileFault → Rose (seen x.part.files.now).faults (seen y.part.files.now).faults) →
      (end ≢ Some FileFault → (seen y.part.files.now).faults ≡ (seen x.part.files.now).faults) →
      (seen x.part.files.now).faults ≤ (seen y.part.files.now).faults →
      y.turns ≡ min greatest (x.turns + 1) → RecordMoved seen 1 x y
  record_turned x y reader reader' b end answer was now running end_is stands is answers begun same plan block made
      failed quiet count turns =
      let read : ReadsNext x.pass y.pass = rw (was, now) (has_read b reader reader' end answer answers begun) in
      let next = header_is_next x.pass in
      record {
        files = record {
          same_reference = same;
          made = λ outset are. rw now (made outset (rw was at are));
          count = count;
          since = λ k before.
              let still = before.quiet (none_is_no_fault x.end running) in
              record {
                count = omega arith;
                failed = λ fault. rw (sym still) (failed (sym is ∙ fault));
                quiet = λ fine. quiet (λ fault. fine (is ∙ fault)) ∙ still;
              };
        };
        plan = plan;
        size = block;
        number = read_number next x.pass y.pass read;
        made = 1;
        most = omega arith;
        all = λ on. refl;
        none = λ ended. absurd (some_not_none x.end ended running);
        stays = λ ended. absurd (some_not_none x.end ended running);
        turns = turns;
        reads = one_read (GoesOnFrom seen x) x.pass y.pass
            (record {
              actor = x;
              pass_is = refl;
              running = running;
              end = end_is;
              plan = refl;
              stands = stands;
              files = files_themselves x;
            }) read;
        tries = read_tries next x.pass y.pass read;
        headers = read_headers next x.pass y.pass read;
        blocks = read_blocks next x.pass y.pass read;
      }

  -- it retired, or stands: the same blocks are cleared, and all else stays
  pub record_retired : (x y : RecordActor F) → x.turns < 2 ^ 64 → y.part ≡ x.part → y.end ≡ x.end →
      y.turns ≡ x.turns → HasRested x.pass y.pass → RecordMoved seen 0 x y
  record_retired x y small part end turns same =
      let more : y.turns ≡ min greatest (x.turns + 0) = omega arith in
      let tries = rested_tries x.pass y.pass same in
      let faults : (seen y.part.files.now).faults ≡ (seen x.part.files.now).faults =
      ap (λ p. (seen p.files.now).faults) part in
      record {
        files = record {
          same_reference = ap (λ p. p.files.ghost_name) part;
          made = λ outset are. rw (part, same.blocks.cleared, same.header.cleared) are;
          count = omega arith;
          since = λ k was.
              let least = was.count in
              record {
                count = omega arith;
                failed = λ fault. rw faults (was.failed (sym end ∙ fault));
                quiet = λ fine. faults ∙ was.quiet (λ fault. fine (end ∙ fault));
              };
        };
        plan = ap (λ p. plan_of p) part;
        size = ap (λ p. block_size p) part;
        number = same.blocks.number;
        made = 0;
        most = omega arith;
        all = λ running. refl;
        none = λ ended. refl;
        stays = λ ended. end;
        turns = more;
        reads = no_reads (GoesOnFrom seen x) x.pass y.pass same;
        tries = omega arith;
        headers = begins_same (recorded_headers x) (recorded_headers y) same.header.cleared;
        blocks = begins_same (recorded_blocks x) (recorded_blocks y) same.blocks.cleared;
      }
