-- What a header keeps of its bytes where its text is changed.
use Rattle.std.proofs.Common.{◌≡◌, ℕ, ◌+◌, ◌-◌, ◌^◌, ◌<◌, ◌≤◌, min, List, ◌++◌, length, take, drop, replicate, sym, ap, ◌∙◌, arith}
use Rattle.std.proofs.lemmas.List.{length-take-le, take_all, drop_at, take-append-drop, drop-take, drop-drop, drop-replicate}
use Rattle.std.proofs.Math.Seq.{take-append-add}
use Rattle.dada_model.specs.Fields.{fields_of, value_of, header_bytes}
use Rattle.dada_model.specs.Change.{changed}
use Rattle.dada_model.specs.ChangeLaws.{IsReadBack, IsHeader, StaysInPlace}
use Rattle.dada_header.specs.Space.{IsHeaderSpace}
use Rattle.dada_header.specs.Changes.{IsEdited}
use Rattle.dada_header.proofs.HeaderReads.{kept}

-- a number below 65537 is no greatest number
pub need_is : (need n size : ℕ) → need ≡ min n (2 ^ 64 - 1) → need < size → size ≤ 65536 → n < size
need_is need n size e low most = omega arith

-- the zeros after a text, from a later place on
zeros_after : (old : List ℕ) (len last size : ℕ) → IsHeaderSpace old len size → len ≤ last → last ≤ size →
    take (size - last) (drop last old) ≡ replicate (size - last) 0
unfolding header_bytes
zeros_after old len last size h low high =
    let space : length old ≡ 65536 = h.space in
    let most : size ≤ 65536 = h.most in
    let within : len ≤ size = h.within in
    let text = take len old in
    let count : length text ≡ len = length-take-le len old (omega arith) in
    let width : last + (size - last) ≡ size = omega arith in
    let further : len + (last - len) ≡ last = omega arith in
    let rest : size - length text - (last - len) ≡ size - last = omega arith in
    sym (drop-take last (size - last) old)
    ∙ ap (λ n. drop last (take n old)) width
    ∙ ap (drop last) h.padded
    ∙ ap (λ n. drop n (text ++ replicate (size - length text) 0)) (sym further)
    ∙ sym (drop-drop (last - len) len (text ++ replicate (size - length text) 0))
    ∙ ap (drop (last - len)) (drop_at text (replicate (size - length text) 0) len count)
    ∙ drop-replicate {X = ℕ} (last - len) (size - length text) 0
    ∙ ap (λ n. replicate {A = ℕ} n 0) rest

-- the changed text, and zeros after it
pub padded_again : (key value old new : List ℕ) (len last size : ℕ) → IsHeaderSpace old len size →
    IsEdited key value len old new last → length new ≡ 65536 →
    length (changed key value (take len old)) < size → StaysInPlace key (take len old) (changed key value
    (take len old)) →
    take size new ≡ changed key value (take len old) ++ replicate (size - length (changed key value (take len old))) 0
padded_again key value old new len last size h edited room fits stays =
    let text = changed key value (take len old) in
    let space : length old ≡ 65536 = h.space in
    let most : size ≤ 65536 = h.most in
    let within : len ≤ size = h.within in
    let count : length (take len old) ≡ len = length-take-le len old (omega arith) in
    let last_is : last ≡ length text = edited.end in
    let longer : length (take len old) ≤ length text = stays.no_shorter in
    let zeros = zeros_after old len last size h (omega arith) (omega arith) in
    let width : last + (size - last) ≡ size = omega arith in
    let front_count : length (take last new) ≡ last = length-take-le last new (omega arith) in
    ap (λ n. take n new) (sym width)
    ∙ ap (take (last + (size - last))) (sym (take-append-drop last new))
    ∙ ap (λ n. take (n + (size - last)) (take last new ++ drop last new)) (sym front_count)
    ∙ take-append-add (take last new) (drop last new) (size - last)
    ∙ ap (λ t. t ++ take (size - last) (drop last new)) edited.front
    ∙ ap (λ t. text ++ take (size - last) t) edited.rest
    ∙ ap (λ t. text ++ t) zeros
    ∙ ap (λ n. text ++ replicate {A = ℕ} (size - n) 0) last_is

pub kept_changed : (key value old new : List ℕ) (len last size : ℕ) → IsHeaderSpace old len size →
    IsEdited key value len old new last → length new ≡ 65536 →
    length (changed key value (take len old)) < size → StaysInPlace key (take len old) (changed key value
    (take len old)) →
    IsReadBack (record { size = size; text = changed key value (take len old) }) →
    IsHeader (record { size = size; text = changed key value (take len old) }) → IsHeaderSpace new last size
kept_changed key value old new len last size h edited room fits stays back is =
    let padded = padded_again key value old new len last size h edited room fits stays in
    rw edited.end (kept new (changed key value (take len old)) size room padded back is)

-- every other key has the value that it had
pub others_kept : (old new other : List ℕ) → ((n : ℕ) → value_of other (fields_of (take n new)) ≡ value_of other
    (fields_of (take n old))) → length old ≤ length new →
    value_of other (fields_of new) ≡ value_of other (fields_of old)
others_kept old new other same longer =
    let whole_new : take (length new) new ≡ new = take_all (length new) new (omega arith) in
    let whole_old : take (length new) old ≡ old = take_all (length new) old longer in
    sym (ap (λ t. value_of other (fields_of t)) whole_new) ∙ same (length new)
    ∙ ap (λ t. value_of other (fields_of t)) whole_old
