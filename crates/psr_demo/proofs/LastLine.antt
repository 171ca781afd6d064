-- A text has one last line, which is the END line of a search's text.
use Rattle.std.proofs.Common.{◌≡◌, ◌≢◌, ℕ, zero, suc, ◌+◌, ◌-◌, ◌*◌, ◌^◌, ◌<◌, ◌≤◌, ◌⊎◌, inl, inr, List, [], ◌∷◌, ◌++◌, length, take, drop, slice_index, get_or, refl, sym, ap, subst, ◌∙◌, arith}
use Rattle.std.specs.Prelude.{All, codes}
use Rattle.std.specs.Fmt.{decimal}
use Rattle.std.specs.Char.{digit_value}
use Rattle.std.specs.Str.Parse.{AllDigits}
use Rattle.std.proofs.Math.Seq.{get_or-append_seam, get_or-append_right, drop-append_seam, take-suc}
use Rattle.std.proofs.Math.ListN.{get_or-append}
use Rattle.std.proofs.lemmas.Bool.{cases_lt}
use Rattle.std.proofs.lemmas.List.{length-append, append_assoc, take-append-drop, length-drop, get_or-drop, append-nil, nil_from_length}
use Rattle.std.proofs.lemmas.List.Concat.{flat_map-cons}
use Rattle.std.proofs.lemmas.List.Elements.{All-append, All-cons, All-get_or}
use Rattle.std.proofs.lemmas.Fmt.{decimal_is_IsNumeral}
use Rattle.search_model.specs.declared.candidate.Candidate.{Candidate}
use Rattle.search_model.specs.declared.candidate.Candidate.TheVariants.{Pulse, Fold}
use Rattle.search_model.specs.CandidateText.{Labels, thousandths, candidate_line, candidate_lines, end_line}
use Rattle.psr_demo.specs.LastLine.{EndsLine, IsOneLine, IsLastLine}

-- ---- one

-- where two texts are parted, the second later, a line that begins at the first part isn't bare
apart : (before line lines last : List ℕ) → before ++ line ≡ lines ++ last → EndsLine lines → IsOneLine line →
    0 < length last → length before < length lines → ⊥
apart before line lines last joined (inl none) one some less =
    let empty : length lines ≡ 0 = ap length none in omega (arith, empty, less)
apart before line lines last joined (inr (front, ends)) one some less =
    let count : length lines ≡ length front + 1 = ap length ends ∙ length-append front (10 ∷ []) in
    let sizes : length before + length line ≡ length lines + length last =
    sym (length-append before line) ∙ ap length joined ∙ length-append lines last in
    let k = length front in
    let there : slice_index (lines ++ last) k ≡ 10 = get_or-append lines last 0 k (omega (arith, count))
    ∙ ap (λ (xs : List ℕ). get_or xs k 0) ends ∙ get_or-append_seam front 10 [] 0 in
    let here : slice_index (before ++ line) k ≡ slice_index line (k - length before) =
    get_or-append_right before line k 0 (omega (arith, count, less)) in
    one.bare (k - length before) (omega (arith, count, less, sizes, some))
    (sym here ∙ ap (λ (xs : List ℕ). slice_index xs k) joined ∙ there)

module _ (lines last : List ℕ) (ends : EndsLine lines) (one : IsOneLine last) where
  same_by : (before line : List ℕ) → before ++ line ≡ lines ++ last → length before ≡ length lines → line ≡ last
  same_by before line joined same =
      sym (drop-append_seam before line) ∙ ap (λ (xs : List ℕ). drop (length before) xs) joined
      ∙ ap (λ n. drop n (lines ++ last)) same ∙ drop-append_seam lines last

  same_of : (before line : List ℕ) → before ++ line ≡ lines ++ last → EndsLine before → IsOneLine line → line ≡ last
  same_of before line joined stops bare = same_by before line joined
      (let first : ¬ (length before < length lines) = apart before line lines last joined ends bare one.some in
      let second : ¬ (length lines < length before) = apart lines last before line (sym joined) stops one bare.some in
      omega (arith, first, second))

  one_of : (text line : List ℕ) → text ≡ lines ++ last → (text ≡ []) ⊎ IsOneLine line → IsOneLine line
  one_of text line is (inl none) =
      let some = one.some in
      let size : length text ≡ length lines + length last = ap length is ∙ length-append lines last in
      let empty : length text ≡ 0 = ap length none in absurd (omega (arith, some, size, empty))
  one_of text line is (inr bare) = bare

  pub is_last : (text line : List ℕ) → text ≡ lines ++ last → IsLastLine text line → line ≡ last
  is_last text line is l =
      same_of l.before line (sym l.joined ∙ is) l.ends (one_of text line is l.one)

-- ---- the line that is found

begins_at : (text : List ℕ) (start : ℕ) → start ≤ length text → (start ≡ 0) ⊎ (slice_index text (start - 1) ≡ 10) →
    EndsLine (take start text)
begins_at text zero within at = inl refl
begins_at text (suc n) within (inl e) = absurd (omega (arith, e))
begins_at text (suc n) within (inr is) = inr (take n text, more)
  where
    last : slice_index text n ≡ 10
    last = let back : suc n - 1 ≡ n = omega arith in
        subst (λ k. slice_index text k ≡ 10) back is

    more : take (suc n) text ≡ take n text ++ 10 ∷ []
    more = take-suc text n 0 within ∙ ap (λ byte. take n text ++ byte ∷ []) last

pub last_from : (text : List ℕ) (start : ℕ) → start ≤ length text →
    (start ≡ 0) ⊎ (slice_index text (start - 1) ≡ 10) → (0 < length text → start < length text) →
    ((i : ℕ) → start ≤ i → i + 1 < length text → slice_index text i ≢ 10) → IsLastLine text (drop start text)
last_from text start within at some bare = record {
  before = take start text;
  joined = sym (take-append-drop start text);
  ends = begins_at text start within at;
  one = one_line;
}
  where
    rest : length (drop start text) ≡ length text - start
    rest = length-drop start text

    in_rest : (i : ℕ) → i + 1 < length (drop start text) → slice_index (drop start text) i ≢ 10
    in_rest i below = subst (λ byte. byte ≢ 10) (sym (get_or-drop start text i 0))
        (bare (start + i) (omega arith) (omega (arith, rest, below)))

    one_line : (text ≡ []) ⊎ IsOneLine (drop start text)
    one_line = elim (cases_lt 0 (length text)) [
      | inl more ↦ inr (record { some = let h = some more in omega (arith, rest, h); bare = in_rest })
      | inr none ↦ inl (nil_from_length text (omega (arith, none)))
    ]

-- ---- the text of a search

-- no byte is a line feed
abbrev IsBare : List ℕ → Type 0
IsBare text = All (λ (byte : ℕ). byte ≢ 10) text

-- no line feed is among digits
not_feed : ¬ (digit_value 10 < 10)
not_feed h = omega (arith, h)

digits_bare : (text : List ℕ) → AllDigits 10 text → IsBare text
digits_bare [] h = λ k d below. absurd (omega arith)
digits_bare (x ∷ xs) h =
    All-cons (λ byte. byte ≢ 10) x xs (λ e. not_feed (subst (λ c. digit_value c < 10) e h.0)) (digits_bare xs h.1)

number_bare : (n : ℕ) → n < 2 ^ 64 → IsBare (decimal n)
number_bare n small = digits_bare (decimal n) (decimal_is_IsNumeral n small).0.1

-- nor in the front of the END line
nothing_bare : IsBare []
nothing_bare = λ k d below. absurd (omega arith)

one_bare : (byte : ℕ) (text : List ℕ) → byte ≢ 10 → IsBare text → IsBare (byte ∷ text)
one_bare byte text other rest = All-cons (λ x. x ≢ 10) byte text other rest

space_bare : IsBare (codes " ")
space_bare = one_bare 32 [] (λ e. omega (arith, e)) nothing_bare

name_bare : IsBare (codes "END ")
name_bare = one_bare 69 (78 ∷ 68 ∷ codes " ") (λ e. omega (arith, e))
    (one_bare 78 (68 ∷ codes " ") (λ e. omega (arith, e)) (one_bare 68 (codes " ") (λ e. omega (arith, e)) space_bare))

both_bare : (xs ys : List ℕ) → IsBare xs → IsBare ys → IsBare (xs ++ ys)
both_bare xs ys first second = All-append (λ byte. byte ≢ 10) xs ys first second

line_of : (front : List ℕ) → IsBare front → IsOneLine (front ++ 10 ∷ [])
line_of front bare =
    let size : length (front ++ 10 ∷ []) ≡ length front + 1 = length-append front (10 ∷ []) in
    record {
      some = omega (arith, size);
      bare = λ i below. let here : i < length front = omega (arith, size, below) in
          subst (λ byte. byte ≢ 10) (sym (get_or-append front (10 ∷ []) 0 i here))
          (All-get_or (λ byte. byte ≢ 10) front i 0 here bare);
    }

pub end_is_line : (pulses folds spectra : ℕ) → pulses < 2 ^ 64 → folds < 2 ^ 64 → spectra < 2 ^ 64 →
    IsOneLine (end_line pulses folds spectra)
end_is_line pulses folds spectra some_pulses some_folds some_spectra =
    let one = codes "END " ++ decimal pulses in
    let first = both_bare one (codes " ")
    (both_bare (codes "END ") (decimal pulses) name_bare (number_bare pulses some_pulses)) space_bare in
    let two = one ++ codes " " ++ decimal folds in
    let second = both_bare two (codes " ")
    (both_bare (one ++ codes " ") (decimal folds) first (number_bare folds some_folds)) space_bare in
    line_of (two ++ codes " " ++ decimal spectra)
    (both_bare (two ++ codes " ") (decimal spectra) second (number_bare spectra some_spectra))

-- the lines of candidates end in line feeds
line_ends : (l : Labels) (c : Candidate) → (front : List ℕ) × (candidate_line l c ≡ front ++ 10 ∷ [])
line_ends l (Pulse end delay width sum) = (
  l.word end ++ codes " " ++ decimal end ++ codes " " ++ decimal delay ++ codes " " ++ thousandths (l.dm delay)
      ++ codes " " ++ decimal width ++ codes " " ++ decimal sum ++ codes " " ++ decimal (width * l.cells delay),
  refl,
)
line_ends l (Fold delay period halvings trial phase sum) = (
  codes "FOLD " ++ decimal delay ++ codes " " ++ thousandths (l.dm delay) ++ codes " " ++ decimal period
      ++ codes " " ++ decimal (2 ^ halvings) ++ codes " " ++ decimal trial ++ codes " " ++ decimal phase
      ++ codes " " ++ decimal sum ++ codes " " ++ decimal (2 ^ halvings * l.cells delay),
  refl,
)

ends_join : (xs ys : List ℕ) → (front : List ℕ) × (xs ≡ front ++ 10 ∷ []) → EndsLine ys → EndsLine (xs ++ ys)
ends_join xs ys ends (inl none) = inr (ends.0, rw none (append-nil xs ∙ ends.1))
ends_join xs ys ends (inr (front, is)) =
    inr (xs ++ front, ap (λ (zs : List ℕ). xs ++ zs) is ∙ sym (append_assoc xs front (10 ∷ [])))

pub lines_end : (l : Labels) (list : List Candidate) → EndsLine (candidate_lines l list)
lines_end l [] = inl refl
lines_end l (c ∷ list) =
    rw (flat_map-cons (candidate_line l) c list)
    (ends_join (candidate_line l c) (candidate_lines l list) (line_ends l c) (lines_end l list))
