-- Whether a file is open, as the blocks tell it.
use Rattle.std.proofs.Common.{◌≡◌, ℕ, ◌-◌, ◌*◌, ◌≤◌, Bool, true, false, List, Option, None, length, refl, ap, ◌∙◌, arith}
use Rattle.std.specs.Prelude.{nat_lt}
use Rattle.std.proofs.lemmas.Bool.Decides.{nat_tests}
use Rattle.std.proofs.lemmas.List.{length-drop}
use Rattle.ring_blocks.specs.declared.Entry.{Entry}
use Rattle.stream_model.specs.Blocks.{ended_transfers, transfer_bytes}
use Rattle.stream_model.specs.Recorded.{file_count, file_data}
use Rattle.dada_recorder.specs.declared.answers.RecordEnd.{RecordEnd}
use Rattle.dada_recorder.specs.declared.transfer_files.FilePlace.{FilePlace}
use Rattle.dada_recorder.specs.declared.transfers.Transfers.{Transfers}
use Rattle.dada_recorder.specs.Recording.{last_used, last_file_has_room}
use Rattle.dada_recorder.specs.TransferFiles.{data_bytes, IsPlaced}
use Rattle.dada_recorder.specs.Transfers.{plan_in, IsRunning, StandsAt}
use Rattle.dada_recorder.proofs.Cutting.{count_is, rest_of}
use Rattle.dada_recorder.proofs.Turning.{stands_running}

-- the data end in the file that was begun last
used_is : (place : FilePlace) (z : ℕ) (bytes : List ℕ) → 1 ≤ z → IsPlaced place z → length bytes ≡ data_bytes place z →
    last_used z bytes ≡ place.used
used_is place z bytes some placed is =
    let n = place.number in
    let upto = placed.within in
    let count = count_is z n place.used bytes some is upto placed.tight in
    let last : file_count z bytes - 1 ≡ n = omega (arith, count) in
    let rest = length-drop (n * z) bytes in
    ap (λ (i : ℕ). length (file_data z bytes i)) last ∙ ap length (rest_of z n bytes (omega (arith, is, upto)))
    ∙ omega (arith, rest, is)

module _ (t : Transfers) (headers blocks : List Entry) (run : IsRunning t headers blocks) where
  open_with : (b : Bool) → t.has_header ≡ b → t.files.place.is_open ≡ last_file_has_room (plan_in t) headers blocks
  unfolding last_file_has_room
  open_with false is =
      let begun = rw is at run.goes_on.begun in
      let none : nat_lt (ended_transfers blocks) (length headers) ≡ false = grind (arith, nat_tests, begun) in
      rw none (run.between is)
  open_with true is =
      let begun = rw is at run.goes_on.begun in
      let within = run.within is in
      let one : nat_lt (ended_transfers blocks) (length headers) ≡ true = grind (arith, nat_tests, begun) in
      rw (
        one,
        ← run.ended,
        used_is t.files.place t.files.file_size (transfer_bytes t.ended blocks)
            run.plan.file_size.0 within.placed within.count,
      ) within.placed.open_exactly

-- a file is open exactly where the last one has room
pub open_is : (t : Transfers) (headers blocks : List Entry) (end : Option RecordEnd) →
    StandsAt t headers blocks end → end ≡ None →
    t.files.place.is_open ≡ last_file_has_room (plan_in t) headers blocks
open_is t headers blocks end stands is =
    open_with t headers blocks (stands_running t headers blocks end is stands) t.has_header refl
