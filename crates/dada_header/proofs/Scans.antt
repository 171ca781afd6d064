-- The first byte that passes a test, and what stands before it.
use Rattle.std.proofs.Common.{◌≡◌, ℕ, ◌+◌, ◌-◌, ◌<◌, ◌≤◌, Bool, true, false, cond, not, eqb, ltb, List, [], ◌∷◌, ◌++◌, length, get_or, take, drop, refl, sym, ap, ◌∙◌, arith, Some, None}
use Rattle.std.specs.Prelude.{All, position, slice_range}
use Rattle.std.specs.List.{prefix_len, position_or_len}
use Rattle.std.proofs.lemmas.Bool.{ltb-true, ltb-false}
use Rattle.std.proofs.lemmas.List.{length-take, length-drop, get_or-take, take_all, take_rest, drop-drop, take-append-drop, drop_more}
use Rattle.std.proofs.lemmas.List.Elements.{All-from_get_or}
use Rattle.std.proofs.lemmas.List.Sums.{prefix_len-le-length, fails_before_first, passes_at_first}
use Rattle.std.proofs.lemmas.Bool.Decides.{nat_tests}
use Rattle.dada_model.specs.Fields.{is_white}
use Rattle.dada_model.specs.Change.{word_start, word_end}
use Rattle.dada_header.specs.Lines.{IsLineEnd}

found : (b : Bool) (n i : ℕ) → Some i ≡ cond b (Some n) None → (b ≡ true) × (n ≡ i)
found true n i e = (refl, (cc))
found false n i e = (cc)

missing : (b : Bool) (n : ℕ) → None ≡ cond b (Some n) None → b ≡ false
missing true n e = (cc)
missing false n e = refl

pub position_some : (p : ℕ → Bool) (xs : List ℕ) (i : ℕ) → Some i ≡ position p xs →
    (position_or_len p xs ≡ i) × (i < length xs)
position_some p xs i e =
    let parts = found (ltb (position_or_len p xs) (length xs)) (position_or_len p xs) i e in
    let low : position_or_len p xs < length xs = ltb-true (position_or_len p xs) (length xs) parts.0 in
    (parts.1, omega arith)

pub position_none : (p : ℕ → Bool) (xs : List ℕ) → None ≡ position p xs → position_or_len p xs ≡ length xs
position_none p xs e =
    let high : length xs ≤ position_or_len p xs = ltb-false (position_or_len p xs) (length xs) (missing (ltb
    (position_or_len p xs) (length xs)) (position_or_len p xs) e) in
    let low : position_or_len p xs ≤ length xs = prefix_len-le-length (λ x. not (p x)) xs in
    omega arith

not_not : (b : Bool) → not (not b) ≡ b
not_not true = refl
not_not false = refl

prefix_len-not_not : (p : ℕ → Bool) (xs : List ℕ) → prefix_len (λ x. not (not (p x))) xs ≡ prefix_len p xs
prefix_len-not_not p [] = refl
prefix_len-not_not p (x ∷ xs) = rw (not_not (p x)) (ap (λ n. cond (p x) (1 + n) 0) (prefix_len-not_not p xs))

-- ---- words

pub word_start_some : (line : List ℕ) (from count : ℕ) → Some count ≡ position (λ byte. not (is_white byte))
    (drop from line) → from + count ≡ word_start from line
unfolding word_start
word_start_some line from count e =
    let at : position_or_len (λ byte. not (is_white byte)) (drop from line) ≡ count =
    (position_some (λ byte. not (is_white byte)) (drop from line) count e).0 in
    ap (λ n. from + n) (sym at ∙ prefix_len-not_not is_white (drop from line))

pub word_start_none : (line : List ℕ) (from : ℕ) → from ≤ length line →
    None ≡ position (λ byte. not (is_white byte)) (drop from line) → length line ≡ word_start from line
unfolding word_start
word_start_none line from low e =
    let at = position_none (λ byte. not (is_white byte)) (drop from line) e in
    let same = prefix_len-not_not is_white (drop from line) in
    let rest = length-drop from line in
    let count : prefix_len is_white (drop from line) ≡ length line - from = sym same ∙ at ∙ rest in
    let whole : length line ≡ from + (length line - from) = omega arith in
    whole ∙ ap (λ n. from + n) (sym count)

pub word_end_some : (line : List ℕ) (start count : ℕ) → Some count ≡ position is_white (drop start line) →
    start + count ≡ word_end start line
unfolding word_end
word_end_some line start count e =
    let at : position_or_len is_white (drop start line) ≡ count =
    (position_some is_white (drop start line) count e).0 in
    ap (λ n. start + n) (sym at)

pub word_end_none : (line : List ℕ) (start : ℕ) → start ≤ length line → None ≡ position is_white (drop start line) →
    length line ≡ word_end start line
unfolding word_end
word_end_none line start low e =
    let at = position_none is_white (drop start line) e in
    let rest = length-drop start line in
    let count : position_or_len is_white (drop start line) ≡ length line - start = at ∙ rest in
    let whole : length line ≡ start + (length line - start) = omega arith in
    whole ∙ ap (λ n. start + n) (sym count)

-- ---- lines

line_front : (part : List ℕ) → All (λ byte. eqb byte 10 ≡ false) (take (position_or_len
    (λ byte. eqb byte 10) part) part)
line_front part = All-from_get_or (λ byte. eqb byte 10 ≡ false) (take (position_or_len
    (λ byte. eqb byte 10) part) part) 0
    (λ i h. let short = length-take (position_or_len
    (λ byte. eqb byte 10) part) part in let low : i < position_or_len (λ byte. eqb byte 10) part =
    omega arith in
    rw (get_or-take (position_or_len (λ byte. eqb byte 10) part) part i 0 low) (fails_before_first
    (λ byte. eqb byte 10) part i 0 low))

is_ten : (byte : ℕ) → eqb byte 10 ≡ true → byte ≡ 10
is_ten byte e = grind (arith, nat_tests)

line_range : (text : List ℕ) (from count : ℕ) → slice_range text from (from + count) ≡ take count (drop from text)
line_range text from count = let width : from + count - from ≡ count =
    omega arith in ap (λ n. take n (drop from text)) width

pub line_end_some : (text : List ℕ) (from count : ℕ) → from ≤ length text →
    Some count ≡ position (λ byte. eqb byte 10) (drop from text) → IsLineEnd text from (from + count)
line_end_some text from count low e =
    let part = drop from text in
    let at = position_some (λ byte. eqb byte 10) part count e in
    let n : position_or_len (λ byte. eqb byte 10) part ≡ count = at.0 in
    let below : count < length part = at.1 in
    let rest = length-drop from text in
    let front = line_front part in
    let below_n : position_or_len (λ byte. eqb byte 10) part < length part = omega arith in
    let byte : get_or part count 0 ≡ 10 = rw (← n) (is_ten (get_or part (position_or_len
    (λ byte. eqb byte 10) part) 0) (passes_at_first (λ byte. eqb byte 10) part 0 below_n)) in
    let more : drop count part ≡ get_or part count 0 ∷ drop (count + 1) part = drop_more part count 0 below in
    let place : from + (count + 1) ≡ from + count + 1 = omega arith in
    let after : drop (count + 1) part ≡ drop (from + count + 1) text = drop-drop (count + 1) from text
    ∙ ap (λ k. drop k text) place in
    record {
      ordered = omega arith;
      within = omega arith;
      line = rw (line_range text from count, ← n) front;
      rest = λ short. sym (take-append-drop count part) ∙ ap (λ r. take count part ++ r) (more
          ∙ (rw (byte, after) refl)) ∙ ap (λ l. l ++ (10 ∷ drop (from + count + 1) text)) (sym
          (line_range text from count));
      last = λ whole. absurd (omega arith);
    }

pub line_end_none : (text : List ℕ) (from : ℕ) → from ≤ length text →
    None ≡ position (λ byte. eqb byte 10) (drop from text) → IsLineEnd text from (length text)
line_end_none text from low e =
    let part = drop from text in
    let n : position_or_len (λ byte. eqb byte 10) part ≡ length part = position_none (λ byte. eqb byte 10) part e in
    let front = line_front part in
    let whole : take (length part) part ≡ part = take_all (length part) part (omega arith) in
    record {
      ordered = low;
      within = omega arith;
      line = rw (take_rest text from) (let f = rw n at front in rw whole at f);
      rest = λ short. absurd (omega arith);
      last = λ end. sym (take_rest text from);
    }
