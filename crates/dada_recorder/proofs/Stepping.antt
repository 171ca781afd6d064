-- The files of data to which a piece comes.
use Rattle.std.proofs.Common.{◌≡◌, ℕ, ◌+◌, ◌-◌, ◌*◌, ◌/◌, ◌<◌, ◌≤◌, Bool, true, false, List, [], ◌∷◌, ◌++◌, length, take, drop, min, refl, sym, ap, ◌∙◌, append_assoc, length-append, arith}
use Rattle.std.specs.Prelude.{nat_lt, if◌then◌else◌}
use Rattle.std.proofs.lemmas.Bool.Decides.{nat_tests}
use Rattle.std.proofs.lemmas.List.{take-append-drop, length-take, length-take-le, take_rest}
use Rattle.std.proofs.Math.Seq.{take-add}
use Rattle.std.proofs.Math.Nat.{div-lt_iff_lt-mul}
use Rattle.psr_base.specs.Made.{NamedBytes, FilesSeen}
use Rattle.stream_model.specs.Recorded.{Recording, file_count, recorded_file, recorded_files}
use Rattle.dada_recorder.specs.Making.{Outset, HasMade, IsFileFront}
use Rattle.dada_recorder.specs.declared.transfer_files.FilePlace.{FilePlace}
use Rattle.dada_recorder.specs.TransferFiles.{first_files, longer_file, data_bytes, IsPlaced, next_place}
use Rattle.dada_recorder.proofs.Fronts.{front_behind, front_follows}
use Rattle.dada_recorder.proofs.Cutting.{one_file_more, first_are_front, last_longer, all_files}

pub is_full : (place : FilePlace) (z : ℕ) → IsPlaced place z → place.is_open ≡ false → place.used ≡ z
is_full place z placed is =
    let test : nat_lt place.used z ≡ false = sym placed.open_exactly ∙ is in
    let full : z ≤ place.used = grind (arith, nat_tests, test) in
    let upto = placed.within in
    omega (arith, full, upto)

-- the next byte goes into this file, which has room for it
next_of : (place : FilePlace) (z : ℕ) (b : Bool) → place.is_open ≡ b → IsPlaced place z → 1 ≤ z →
    let p = if b then place else record { number = place.number + 1; used = 0; is_open = true } in
    (p.number * z + p.used ≡ data_bytes place z) × (p.used < z) × (p.is_open ≡ true)
next_of place z true is placed some =
    let test : nat_lt place.used z ≡ true = sym placed.open_exactly ∙ is in
    (refl, grind (arith, nat_tests, test), is)
next_of place z false is placed some =
    let full = is_full place z placed is in
    (omega (arith, full), some, refl)

pub next_has_room : (place : FilePlace) (z : ℕ) → IsPlaced place z → 1 ≤ z →
    let p = next_place place in
    (p.number * z + p.used ≡ data_bytes place z) × (p.used < z) × (p.is_open ≡ true)
next_has_room place z placed some = next_of place z place.is_open refl placed some

-- ---- lists of files

count_above : (z n : ℕ) (bytes : List ℕ) → 0 < z → n * z < length bytes → n < file_count z bytes
unfolding file_count
count_above z n bytes some above =
    let test = div-lt_iff_lt-mul {k = z} {x = length bytes - 1} {y = n} some in
    let not_below : ((length bytes - 1) / z < n → ⊥) = λ below.
    let less = test.0 below in absurd (omega (arith, less, above)) in
    omega (arith, not_below)

-- files behind others, of which the last is the file n
pub behind : (before : List NamedBytes) (r : Recording) (xs : List ℕ) (n : ℕ) →
    before ++ first_files r xs (n + 1) ≡ (before ++ first_files r xs n) ++ recorded_file r xs n ∷ []
behind before r xs n = rw (one_file_more r xs n, append_assoc) refl

-- all files of the data are those up to a place
pub placed_files : (r : Recording) (place : FilePlace) (xs : List ℕ) → 1 ≤ r.file_size → IsPlaced place r.file_size →
    length xs ≡ data_bytes place r.file_size → recorded_files r xs ≡ first_files r xs (place.number + 1)
placed_files r place xs some placed is =
    all_files r r.file_size place.number place.used xs refl some is placed.within placed.tight

-- the file is begun into which the next byte goes
pub begun_front : (before all : List NamedBytes) (r : Recording) (n : ℕ) (xs ys : List ℕ) → 0 < r.file_size →
    n * r.file_size ≤ length xs → length xs ≤ n * r.file_size + r.file_size → 0 < length ys →
    IsFileFront (before ++ recorded_files r (xs ++ ys)) all → IsFileFront (before ++ first_files r xs (n + 1)) all
begun_front before all r n xs ys some begun within more front =
    let both = length-append xs ys in
    front_follows (before ++ first_files r xs (n + 1)) (before ++ recorded_files r (xs ++ ys)) all
    (front_behind before (first_files r xs (n + 1)) (recorded_files r (xs ++ ys))
    (first_are_front r xs ys n begun within
    (count_above r.file_size n (xs ++ ys) some (omega (arith, begun, more, both))))) front

-- a piece of the bytes came to it
pub piece_front : (before all : List NamedBytes) (r : Recording) (n k : ℕ) (xs ys : List ℕ) → 0 < r.file_size →
    n * r.file_size ≤ length xs → length xs + length (take k ys) ≤ n * r.file_size + r.file_size → 0 < length ys →
    IsFileFront (before ++ recorded_files r (xs ++ ys)) all →
    IsFileFront ((before ++ first_files r xs n) ++ longer_file (take k ys) (recorded_file r xs n) ∷ []) all
piece_front before all r n k xs ys some begun within more front =
    let piece = take k ys in
    let both = length-append xs piece in
    let all_bytes = length-append xs ys in
    let joined : (xs ++ piece) ++ drop k ys ≡ xs ++ ys = rw (append_assoc, take-append-drop) refl in
    let some_of : IsFileFront (first_files r (xs ++ piece) (n + 1)) (recorded_files r ((xs ++ piece) ++ drop k ys)) =
    first_are_front r (xs ++ piece) (drop k ys) n (omega (arith, begun, both)) (omega (arith, within, both))
    (count_above r.file_size n ((xs ++ piece) ++ drop k ys) some
    (let same = ap length joined in omega (arith, same, all_bytes, begun, more))) in
    let behind_before = front_behind before (first_files r (xs ++ piece) (n + 1)) (recorded_files r (xs ++ ys))
    (rw joined at some_of) in
    rw (append_assoc, ← last_longer r xs piece n begun within) (front_follows
    (before ++ first_files r (xs ++ piece) (n + 1)) (before ++ recorded_files r (xs ++ ys)) all behind_before front)

-- and these are all files of the data with it
pub piece_files : (before : List NamedBytes) (r : Recording) (n used k : ℕ) (xs ys : List ℕ) → 0 < r.file_size →
    length xs ≡ n * r.file_size + used → used + length (take k ys) ≤ r.file_size → 0 < length (take k ys) →
    (before ++ first_files r xs n) ++ longer_file (take k ys) (recorded_file r xs n) ∷ []
    ≡ before ++ recorded_files r (xs ++ take k ys)
piece_files before r n used k xs ys some is within more =
    let piece = take k ys in
    let both = length-append xs piece in
    let more_than_none : used + length piece ≡ 0 → n ≡ 0 = λ none. absurd (omega (arith, none, more)) in
    rw (
      all_files r r.file_size n (used + length piece) (xs ++ piece) refl some (omega (arith, is, both)) within
          more_than_none,
      last_longer r xs piece n (omega (arith, is)) (omega (arith, is, within)),
      append_assoc,
    ) refl

-- ---- a step over a piece

-- what was made before the piece, and once there is room for it
pub made_first : (outset : Outset) (before : List NamedBytes) (r : Recording) (place : FilePlace) (xs : List ℕ)
    (seen : FilesSeen) → 1 ≤ r.file_size → IsPlaced place r.file_size → length xs ≡ data_bytes place r.file_size →
    HasMade outset place.is_open (before ++ recorded_files r xs) seen →
    HasMade outset place.is_open (before ++ first_files r xs (place.number + 1)) seen
made_first outset before r place xs seen some placed is has =
    rw (placed_files r place xs some placed is) at has

-- how long the piece is
pub record IsPiece (place : FilePlace) (z k : ℕ) (ys : List ℕ) : Type 0 where
  pub some : 0 < length (take k ys)
  pub within : (next_place place).used + length (take k ys) ≤ z
  pub most : k ≤ length ys
  pub least : 0 < k

pub piece_is : (place next : FilePlace) (z size k : ℕ) (ys : List ℕ) → IsPlaced place z → 1 ≤ z →
    next ≡ next_place place → size ≡ z → k ≡ min (size - next.used) (length ys) → 0 < length ys → IsPiece place z k ys
piece_is place next z size k ys placed some is same taken more =
    let room = next_has_room place z placed some in
    let used : next.used ≡ (next_place place).used = ap (λ (p : FilePlace). p.used) is in
    let len = length-take k ys in
    record {
      some = omega (arith, len, taken, used, same, room.1, more);
      within = omega (arith, len, taken, used, same, room.1, more);
      most = omega (arith, taken);
      least = omega (arith, taken, used, same, room.1, more);
    }

-- ---- a loop over pieces

pub taken_more : (t n : ℕ) (xs ys : List ℕ) →
    (xs ++ take t ys) ++ take n (take (length ys - t) (drop t ys)) ≡ xs ++ take (t + n) ys
taken_more t n xs ys = rw (append_assoc, take_rest, take-add) refl

pub taken_all : (t : ℕ) (xs ys : List ℕ) → (xs ++ take t ys) ++ take (length ys - t) (drop t ys) ≡ xs ++ ys
taken_all t xs ys = rw (append_assoc, take_rest, take-append-drop) refl

pub taken_length : (t total start : ℕ) (xs ys : List ℕ) → t ≤ length ys → length xs ≡ start → total ≡ start + t →
    length (xs ++ take t ys) ≡ total
taken_length t total start xs ys within is count =
    let both = length-append xs (take t ys) in
    let some = length-take-le t ys within in
    omega (arith, both, some, is, count)
