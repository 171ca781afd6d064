-- What an accepted recording gives.
use Rattle.std.proofs.Common.{◌≡◌, ℕ, ◌*◌, ◌^◌, ◌<◌, ◌≤◌, Bool, true, false, Option, Some, None, refl, arith}
use Rattle.std.specs.Prelude.{nat_lt, if◌then◌else◌}
use Rattle.std.proofs.lemmas.Bool.Decides.{nat_tests}
use Rattle.std.proofs.Math.Nat.{mul-le-mul_right}
use Rattle.stream_model.specs.Recorded.{Recording, RecordRefusal, record_refusal, or_else, start_time, time_refusal, room_refusal, with_offset, with_number, with_size, TooManyFiles}
use Rattle.stream_model.specs.RecordedLaws.{HasNumbers}
use Rattle.dada_recorder.specs.TransferFiles.{CanRecord}

pub first_none : (a b : Option RecordRefusal) → or_else a b ≡ None → a ≡ None
first_none None b is = refl
first_none (Some refusal) b is = is

pub later_none : (a b : Option RecordRefusal) → or_else a b ≡ None → b ≡ None
later_none None b is = is
later_none (Some refusal) b is = absurd cc

pub time_accepted : (r : Recording) (max_bytes : ℕ) → record_refusal r max_bytes ≡ None →
    time_refusal (start_time r.header) ≡ None
unfolding record_refusal
time_accepted r max_bytes none = first_none (time_refusal (start_time r.header)) _ none

few_files : (file_size max_bytes : ℕ) (b : Bool) → nat_lt (file_size * 1000000) max_bytes ≡ b →
    (if b then Some TooManyFiles else None) ≡ None → max_bytes ≤ file_size * 1000000
few_files file_size max_bytes true is none = absurd cc
few_files file_size max_bytes false is none = grind (arith, nat_tests, is)

pub number_accepted : (r : Recording) (max_bytes : ℕ) → record_refusal r max_bytes ≡ None →
    max_bytes ≤ r.file_size * 1000000
unfolding record_refusal
number_accepted r max_bytes none =
    let size = r.header.size in
    let a = later_none (time_refusal (start_time r.header)) _ none in
    let b = later_none (room_refusal size (with_offset r 0)) _ a in
    let d = later_none (room_refusal size (with_number r 0)) _ b in
    let e = later_none (room_refusal size (with_size r 0)) _ d in
    few_files r.file_size max_bytes (nat_lt (r.file_size * 1000000) max_bytes) refl e

-- a file that begins within the limit
pub has_numbers : (r : Recording) (max_bytes i : ℕ) → CanRecord r max_bytes → i * r.file_size < max_bytes →
    HasNumbers r i
has_numbers r max_bytes i can within =
    let few = number_accepted r max_bytes can.none_refused in
    record {
      offset = omega (arith, can.offset, can.few, within);
      number = below (i) (r.file_size) (omega (arith, few, within));
      size = omega (arith, can.most);
    }
  where
    below : (i z : ℕ) → i * z < z * 1000000 → i < 10 ^ 6
    below i z less = grind (arith, less, mul-le-mul_right)

-- and the first file
pub has_first_numbers : (r : Recording) (max_bytes : ℕ) → CanRecord r max_bytes → HasNumbers r 0
has_first_numbers r max_bytes can = record {
  offset = omega (arith, can.offset);
  number = omega arith;
  size = omega (arith, can.most);
}
