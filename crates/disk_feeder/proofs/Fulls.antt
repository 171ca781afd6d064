-- The full blocks of data that are read.
use Rattle.std.proofs.Common.{◌≡◌, ℕ, zero, suc, ◌+◌, ◌-◌, ◌*◌, ◌/◌, ◌<◌, ◌≤◌, min, List, [], ◌∷◌, ◌++◌, length, take, drop, refl, sym, ap, ◌∙◌, arith}
use Rattle.std.proofs.lemmas.Nat.{div-mul-add}
use Rattle.std.proofs.lemmas.List.{length-append, length-drop, drop-append-le, take-append-le}
use Rattle.ring_blocks.specs.declared.Entry.{Entry}
use Rattle.stream_model.specs.Blocks.{full_entry, cut_entry, full_entries, whole_stream, joined_data, blocks_before_stop, abandoned_stream}

-- full blocks of a front are those of all
pub fulls_of_front : (size n : ℕ) (front rest : List ℕ) → n * size ≤ length front →
    full_entries size (front ++ rest) n ≡ full_entries size front n
unfolding full_entries
fulls_of_front size zero front rest few = refl
fulls_of_front size (suc n) front rest few =
    let more : n * size + size ≤ length front = omega arith in
    let one : take size (drop (n * size) (front ++ rest)) ≡ take size (drop (n * size) front) =
    ap (take size) (drop-append-le (n * size) front rest (omega arith))
    ∙ take-append-le size (drop (n * size) front) rest (omega (arith, length-drop (n * size) front)) in
    ap (λ (es : List Entry). es ++ full_entry (take size (drop (n * size) (front ++ rest))) ∷ [])
    (fulls_of_front size n front rest (omega arith))
    ∙ ap (λ (bytes : List ℕ). full_entries size front n ++ full_entry bytes ∷ []) one

-- how many are full
pub quotient_is : (x fulls held size : ℕ) → fulls * size + held ≡ x → held < size → x / size ≡ fulls
quotient_is x fulls held size is less = ap (λ (y : ℕ). y / size) (sym is) ∙ div-mul-add fulls size held less

-- what was read within the limit
pub within_is : (size max_bytes fulls held : ℕ) (before : List (List ℕ)) (current : List ℕ) →
    fulls * size + held ≡ length current → held < size → length (joined_data before) + length current ≤ max_bytes →
    blocks_before_stop size max_bytes before current ≡ fulls
within_is size max_bytes fulls held before current is less few =
    let least : min (length current) (max_bytes - length (joined_data before)) ≡ length current = omega arith in
    ap (λ (x : ℕ). x / size) least ∙ quotient_is (length current) fulls held size is less

-- what was read past it, where the block that was being filled ends past it
pub past_is : (size max_bytes fulls held : ℕ) (before : List (List ℕ)) (current : List ℕ) →
    fulls * size ≤ max_bytes - length (joined_data before) →
    max_bytes - length (joined_data before) < fulls * size + size →
    max_bytes < length (joined_data before) + length current →
    blocks_before_stop size max_bytes before current ≡ fulls
past_is size max_bytes fulls held before current from upto past =
    let room = max_bytes - length (joined_data before) in
    let least : min (length current) room ≡ room = omega arith in
    let rest : fulls * size + (room - fulls * size) ≡ room = omega arith in
    ap (λ (x : ℕ). x / size) least ∙ quotient_is room fulls (room - fulls * size) size rest (omega arith)

-- data past the limit add no block
pub abandoned_past : (size max_bytes fulls held n : ℕ) (before : List (List ℕ)) (current rest : List ℕ) →
    fulls * size + held ≡ length current → held + n ≤ size → 0 < n → n ≤ length rest →
    length (joined_data before) + length current ≤ max_bytes →
    max_bytes < length (joined_data before) + length current + n →
    abandoned_stream size max_bytes before (current ++ rest) ≡ abandoned_stream size max_bytes before current
unfolding abandoned_stream
abandoned_past size max_bytes fulls held n before current rest is fits some there few past =
    let all : length (current ++ rest) ≡ length current + length rest = length-append current rest in
    let upto : length current + n ≤ fulls * size + size = omega arith in
    let a = past_is size max_bytes fulls held before (current ++ rest) (omega arith) (omega arith) (omega arith) in
    let b = within_is size max_bytes fulls held before current is (omega arith) few in
    let stream = λ (es : List Entry). whole_stream size before ++ (es ++ cut_entry ∷ []) in
    ap (λ (k : ℕ). stream (full_entries size (current ++ rest) k)) a
    ∙ ap stream (fulls_of_front size fulls current rest (omega arith))
    ∙ ap (λ (k : ℕ). stream (full_entries size current k)) (sym b)
