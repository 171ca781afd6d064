-- What the first bytes of a file say of its header.
use Rattle.std.proofs.Common.{◌≡◌, ℕ, ◌-◌, ◌+◌, ◌≤◌, ◌<◌, Bool, true, false, List, ◌++◌, length, take, drop, Option, Some, None, Ok, Err, inl, inr, refl, sym, ◌∙◌, ap, arith}
use Rattle.std.specs.Prelude.{codes, nat_lt, nat_le, ◌&&◌, if◌then◌else◌, unwrap_or, ℤ, pos, negsuc}
use Rattle.std.specs.List.{list_any, position_or_len}
use Rattle.std.proofs.lemmas.List.{take_all, take-take, length-take, length-take-le, drop-drop}
use Rattle.std.proofs.lemmas.Bool.{cases_lt, ltb-false, leb-true}
use Rattle.std.proofs.lemmas.Bool.Decides.{nat_tests}
use Rattle.std.proofs.Math.Seq.{take-add}
use Rattle.dada_model.specs.Fields.{HeaderText, ShortHeader, BadHeaderSize, NotTextAt, header_of, header_of_size, header_with_text, header_text, header_size, size_of_value, allowed_size, value_of, fields_of, before_nul, is_above_ascii}
use Rattle.dada_model.specs.Number.{number_value}
use Rattle.disk_feeder.specs.Front.{IsFrontRead, front_in, front_of, judged_after}

-- at least 4096 bytes have the size that the file has
header_size-front : (file : List ℕ) (k : ℕ) → 4096 ≤ k → header_size (take k file) ≡ header_size file
unfolding header_size
header_size-front file k long = ap (λ (front : List ℕ). size_of_value
    (value_of (codes "HDR_SIZE") (fields_of (before_nul front)))) (take-take 4096 k file long)

-- a header of long bytes goes by its size
header_of-long : (bytes : List ℕ) → 4096 ≤ length bytes → header_of bytes ≡ header_of_size bytes (header_size bytes)
unfolding header_of
header_of-long bytes long =
    let enough : nat_lt (length bytes) 4096 ≡ false = grind (arith, nat_tests) in
    ap (λ (b : Bool). if b then Err (ShortHeader (length bytes)) else header_of_size bytes (header_size bytes)) enough

header_of_size-front : (file : List ℕ) (k size : ℕ) → size ≤ k → k ≤ length file →
    header_of_size (take k file) (Some size) ≡ header_of_size file (Some size)
header_of_size-front file k size fits within =
    let count : length (take k file) ≡ k = length-take-le k file within in
    let enough : nat_lt (length (take k file)) size ≡ false = grind (arith, nat_tests, count) in
    let whole : nat_lt (length file) size ≡ false = grind (arith, nat_tests) in
    ap (λ (b : Bool). if b then Err (ShortHeader (length (take k file))) else header_with_text size
    (header_text size (take k file))) enough
    ∙ ap (λ (t : List ℕ). header_with_text size (before_nul t)) (take-take size k file fits)
    ∙ sym (ap (λ (b : Bool). if b then Err (ShortHeader (length file)) else header_with_text size
    (header_text size file)) whole)

-- the header's bytes say what the file says
header_of-front : (file : List ℕ) (size : ℕ) → 4096 ≤ size → header_size file ≡ Some size →
    header_of (take size file) ≡ header_of file
header_of-front file size long sized =
    elim (cases_lt (length file) size) [
      | inl shorter ↦ ap header_of (take_all size file (omega arith))
      | inr within ↦
          let count : length (take size file) ≡ size = length-take-le size file within in
          header_of-long (take size file) (omega (arith, count))
          ∙ ap (header_of_size (take size file)) (header_size-front file size long ∙ sized)
          ∙ header_of_size-front file size size (omega arith) within
          ∙ sym (header_of-long file (omega arith) ∙ ap (header_of_size file) sized)
    ]

header_of-refused : (file : List ℕ) → 4096 ≤ length file → header_size file ≡ None → header_of file ≡ Err BadHeaderSize
header_of-refused file long refused = header_of-long file long ∙ ap (header_of_size file) refused

-- a header has its size
size_of_text : (size : ℕ) (text : List ℕ) (h : HeaderText) → header_with_text size text ≡ Ok h → size ≡ h.size
size_of_text size text h is = by_test (list_any is_above_ascii text) is
  where
    by_test : (b : Bool) → (if b then Err (NotTextAt (position_or_len is_above_ascii text)) else Ok
        (record { size = size; text = text })) ≡ Ok h → size ≡ h.size
    by_test true e = absurd cc
    by_test false e = let it : HeaderText = record { size = size; text = text } in let same : it ≡ h =
        cc in ap (λ (x : HeaderText). x.size) same

size_of_size : (bytes : List ℕ) (size : ℕ) (h : HeaderText) → header_of_size bytes (Some size) ≡ Ok h → size ≡ h.size
size_of_size bytes size h is = by_test (nat_lt (length bytes) size) is
  where
    by_test : (b : Bool) → (if b then Err (ShortHeader (length bytes)) else header_with_text size
        (header_text size bytes)) ≡ Ok h → size ≡ h.size
    by_test true e = absurd cc
    by_test false e = size_of_text size (header_text size bytes) h e

short_has_none : (bytes : List ℕ) (h : HeaderText) → length bytes < 4096 → header_of bytes ≡ Ok h → ⊥
unfolding header_of
short_has_none bytes h short is = by_test (nat_lt (length bytes) 4096) (grind (arith, nat_tests)) is
  where
    by_test : (b : Bool) → b ≡ true → (if b then Err (ShortHeader (length bytes)) else header_of_size bytes
        (header_size bytes)) ≡ Ok h → ⊥
    by_test true tested e = absurd cc
    by_test false tested e = absurd cc

-- a header lies within its file
pub header_within : (file : List ℕ) (h : HeaderText) → header_of file ≡ Ok h → h.size ≤ length file
unfolding header_of
header_within file h is = by_least (nat_lt (length file) 4096) refl is
  where
    by_test : (size : ℕ) (b : Bool) → nat_lt (length file) size ≡ b → (if b then Err (ShortHeader (length file)) else
        header_with_text size (header_text size file)) ≡ Ok h → h.size ≤ length file
    by_test size true tested e = absurd cc
    by_test size false tested e =
        omega (arith, size_of_text size (header_text size file) h e, ltb-false (length file) size tested)

    by_size : (o : Option ℕ) → header_of_size file o ≡ Ok h → h.size ≤ length file
    by_size None e = absurd cc
    by_size (Some size) e = by_test size (nat_lt (length file) size) refl e

    by_least : (b : Bool) → nat_lt (length file) 4096 ≡ b → (if b then Err (ShortHeader (length file)) else
        header_of_size file (header_size file)) ≡ Ok h → h.size ≤ length file
    by_least true tested e = absurd cc
    by_least false tested e = by_size (header_size file) e

-- so it is all that comes before the data
pub front_is : (file : List ℕ) (h : HeaderText) → header_of file ≡ Ok h → front_of file ≡ h.size
unfolding front_of
front_is file h is = ap (front_in file) is

-- a header is judged by the least size at least
pub judged_least : (file : List ℕ) → 4096 ≤ judged_after file
unfolding judged_after header_size
judged_least file = by_value (value_of (codes "HDR_SIZE") (fields_of (before_nul (take 4096 file))))
  where
    by_test : (size : ℕ) (b c : Bool) → nat_le 4096 size ≡ b →
        4096 ≤ unwrap_or (if b && c then Some size else None) 4096
    by_test size true true tested = leb-true 4096 size tested
    by_test size true false tested = omega arith
    by_test size false true tested = omega arith
    by_test size false false tested = omega arith

    by_number : (o : Option ℤ) → 4096 ≤ unwrap_or (allowed_size o) 4096
    by_number None = omega arith
    by_number (Some (pos size)) = by_test size (nat_le 4096 size) (nat_le size 65536) refl
    by_number (Some (negsuc n)) = omega arith

    by_value : (o : Option (List ℕ)) → 4096 ≤ unwrap_or (size_of_value o) 4096
    by_value None = omega arith
    by_value (Some text) = by_number (number_value 0 text)

-- and by its own size, where that is known from its first bytes
pub judged_is : (front file : List ℕ) (size : ℕ) → front ≡ take 4096 file → header_size front ≡ Some size →
    judged_after file ≡ size
unfolding judged_after
judged_is front file size first sized =
    ap (λ (o : Option ℕ). unwrap_or o 4096)
    (sym (header_size-front file 4096 (omega arith)) ∙ ap header_size (sym first) ∙ sized)

-- bytes whose size is refused are those of no header
pub none_unsized : (front file : List ℕ) (h : HeaderText) → front ≡ take 4096 file → 4096 ≤ length front →
    header_size front ≡ None → header_of file ≡ Ok h → ⊥
none_unsized front file h first has refused is =
    let enough : 4096 ≤ length file = omega (arith, ap (length {A = ℕ}) first, length-take 4096 file) in
    let of_file : header_size file ≡ None = sym (header_size-front file 4096 (omega arith)) ∙ ap header_size (sym first)
    ∙ refused in
    let bad = header_of-refused file enough of_file in absurd cc

pub none_short : (front file : List ℕ) (h : HeaderText) → front ≡ take 4096 file → length front < 4096 →
    header_of file ≡ Ok h → ⊥
none_short front file h first short is =
    short_has_none file h (omega (arith, ap (length {A = ℕ}) first, length-take 4096 file)) is

-- the size that is read first is that of the file's header
pub size_is : (front file : List ℕ) (size : ℕ) (h : HeaderText) → front ≡ take 4096 file → 4096 ≤ length front →
    header_size front ≡ Some size → header_of file ≡ Ok h → size ≡ h.size
size_is front file size h first has sized is =
    let enough : 4096 ≤ length file = omega (arith, ap (length {A = ℕ}) first, length-take 4096 file) in
    let of_file : header_size file ≡ Some size = sym (header_size-front file 4096 (omega arith))
    ∙ ap header_size (sym first) ∙ sized in
    size_of_size file size h (sym (header_of-long file enough ∙ ap (header_of_size file) of_file) ∙ is)

-- the first 4096 bytes, and then the rest of the header
pub front_of_size : (front rest bytes file : List ℕ) (left : Option (List ℕ)) (size : ℕ) → front ≡ take 4096 file →
    rest ≡ take (size - 4096) (drop 4096 file) → bytes ≡ front ++ rest →
    4096 ≤ size → 4096 ≤ length front → header_size front ≡ Some size →
    left ≡ Some (drop (size - 4096) (drop 4096 file)) → IsFrontRead bytes left file
front_of_size front rest bytes file left size first second joined long has sized is_left =
    let whole : 4096 + (size - 4096) ≡ size = omega arith in
    let is : bytes ≡ take size file = joined ∙ ap (λ (xs : List ℕ). xs ++ rest) first
    ∙ ap (λ (ys : List ℕ). take 4096 file ++ ys) second ∙ sym (take-add 4096 (size - 4096) file)
    ∙ ap (λ (n : ℕ). take n file) whole in
    let of_file : header_size file ≡ Some size = sym (header_size-front file 4096 (omega arith))
    ∙ ap header_size (sym first) ∙ sized in
    let same = ap header_of is ∙ header_of-front file size long of_file in
    let enough : 4096 ≤ length file = omega (arith, ap (length {A = ℕ}) first, length-take 4096 file) in
    record {
      count = size;
      front = is;
      rest = is_left ∙ ap Some (drop-drop (size - 4096) 4096 file ∙ ap (λ (n : ℕ). drop n file) whole);
      header = same;
      size = λ h has_header. size_of_size file size h (sym (header_of-long file enough
          ∙ ap (header_of_size file) of_file) ∙ has_header);
    }

-- the first 4096 bytes of a shorter file
pub front_of_short : (front file : List ℕ) (left : Option (List ℕ)) → front ≡ take 4096 file → length front < 4096 →
    left ≡ Some (drop 4096 file) → IsFrontRead front left file
front_of_short front file left first short is_left =
    let all : front ≡ file = first ∙ take_all 4096 file
    (omega (arith, ap (length {A = ℕ}) first, length-take 4096 file)) in
    record {
      count = 4096;
      front = first;
      rest = is_left;
      header = ap header_of all;
      size = λ h has. absurd (short_has_none file h (omega (arith, ap (length {A = ℕ}) all)) has);
    }

-- those of a file whose size is refused
pub front_of_refused : (front file : List ℕ) (left : Option (List ℕ)) → front ≡ take 4096 file → 4096 ≤ length front →
    header_size front ≡ None → left ≡ Some (drop 4096 file) → IsFrontRead front left file
front_of_refused front file left first has refused is_left =
    let enough : 4096 ≤ length file = omega (arith, ap (length {A = ℕ}) first, length-take 4096 file) in
    let of_file : header_size file ≡ None = sym (header_size-front file 4096 (omega arith)) ∙ ap header_size (sym first)
    ∙ refused in
    let bad = header_of-refused file enough of_file in
    record {
      count = 4096;
      front = first;
      rest = is_left;
      header = header_of-refused front has refused ∙ sym bad;
      size = λ h has_header. absurd cc;
    }
