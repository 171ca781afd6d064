-- Lists that are read and written piece by piece.
use Rattle.std.proofs.Common.{◌≡◌, ℕ, ◌+◌, ◌-◌, ◌≤◌, List, [], ◌++◌, length, take, drop, ap, sym, ◌∙◌, arith, length-drop}
use Rattle.std.proofs.Math.Seq.{take-add, take-append-add}
use Rattle.std.proofs.lemmas.List.{take-append-le, length-take-le, take_rest}
use Rattle.psr_base.specs.Told.{Told, moved_by}
use Rattle.psr_base.proofs.Laws.{moved_by-moved_by}
use borrow.Rule.Slice.PartMut.{put_mid, post_of}

-- after f bytes of a list, the next n were put at place f
pub take-put_mid-next : (f n k : ℕ) (xs ys left : List ℕ) → f ≤ length xs → n ≤ length ys → take f xs ≡ take f left →
    take n ys ≡ take n (drop f left) → take (f + n) (put_mid f k xs ys) ≡ take (f + n) left
take-put_mid-next f n k xs ys left in_xs in_ys front next =
    let zs = ys ++ post_of f k xs in
    ap (λ (i : ℕ). take (i + n) (take f xs ++ zs)) (sym (length-take-le f xs in_xs))
    ∙ take-append-add (take f xs) zs n
    ∙ ap (λ (t : List ℕ). take f xs ++ t) (take-append-le n ys (post_of f k xs) in_ys ∙ next)
    ∙ ap (λ (t : List ℕ). t ++ take n (drop f left)) front ∙ sym (take-add f n left)

-- what is left after f bytes holds n more, so the list holds f + n
pub more_within : (f n : ℕ) (left : List ℕ) → f ≤ length left → n ≤ length (drop f left) → f + n ≤ length left
more_within f n left in_left more = omega (arith, length-drop f left)

-- a list that has nothing after f bytes, and f bytes at least, has f bytes
pub length-of_ended : (f : ℕ) (left : List ℕ) → f ≤ length left → drop f left ≡ [] → length left ≡ f
length-of_ended f left within ended = omega (arith, length-drop f left, ap (length {A = ℕ}) ended)

-- after d bytes of a list, the next n were added
pub append-next : (d n k : ℕ) (xs ys zs left : List ℕ) → k ≡ d + n → zs ≡ xs ++ take n ys → xs ≡ take d left →
    take n ys ≡ take n (drop d left) → zs ≡ take k left
append-next d n k xs ys zs left sum longer front next = longer ∙ ap (λ (t : List ℕ). t ++ take n ys) front
    ∙ ap (λ (t : List ℕ). take d left ++ t) next ∙ sym (take-add d n left) ∙ ap (λ (j : ℕ). take j left) (sym sum)

-- the first t bytes and then n of the rest are the first t + n
pub take-append-rest : (t n : ℕ) (xs : List ℕ) → take t xs ++ take n (take (length xs - t) (drop t xs))
    ≡ take (t + n) xs
take-append-rest t n xs = ap (λ (rest : List ℕ). take t xs ++ take n rest) (take_rest xs t) ∙ sym (take-add t n xs)

-- the rest after t bytes has n bytes, so the list has t + n
pub rest_within : (t n : ℕ) (xs : List ℕ) → t ≤ length xs → n ≤ length (take (length xs - t) (drop t xs)) →
    t + n ≤ length xs
rest_within t n xs within more = omega (arith, ap (length {A = ℕ}) (take_rest xs t), length-drop t xs)

-- d bytes were read, and then n more
pub moved_by-next : (d n k : ℕ) (old mid new : Told) → k ≡ d + n → mid ≡ moved_by d old → new ≡ moved_by n mid →
    new ≡ moved_by k old
moved_by-next d n k old mid new sum first second = second ∙ ap (moved_by n) first ∙ moved_by-moved_by d n old
    ∙ ap (λ (j : ℕ). moved_by j old) (sym sum)
