-- The least sums of widths and delays, of one more.
use Rattle.std.proofs.Common.{◌≡◌, ℕ, ◌+◌, ◌-◌, ◌*◌, ◌<◌, ◌≤◌, ◌++◌, suc, inl, inr, Bool, true, false, cond, List, [], ◌∷◌, Option, Some, length, filter, take, drop, get_or, slice_get, slice_index, sym, ◌∙◌, ap, subst, arith, length-append, length-take, length-drop, append-nil}
use Rattle.std.proofs.lemmas.Bool.{cases_lt}
use Rattle.std.proofs.lemmas.List.{get_or_append_left, get_or-take, get_or-drop}
use Rattle.std.proofs.lemmas.List.Elements.{filter_more}
use Rattle.std.proofs.Math.Nat.{mul-le-mul_left, mul-suc}
use Rattle.std.proofs.Math.Seq.{get_or-append_seam}
use Rattle.std.proofs.lemmas.Option.{slice_get_within, get_or_from_slice_get, slice_get-get_or}
use Rattle.detect_rule.specs.Noise.{StandOutFrom}
use Rattle.search_model.specs.declared.search.Search.{Search}
use Rattle.shard_search.specs.declared.thresholds.BoxThresholds.{BoxThresholds}
use Rattle.fold_search.specs.Judging.{noise_of}
use Rattle.shard_search.specs.Sought.{Sought, cells_in}
use Rattle.shard_search.specs.Thresholds.{AreLeastSums, AreThresholds}

-- ---- places

-- n places more
pub places_more : (n i : ℕ) → n * (i + 1) ≡ n * i + n
places_more n i = ap (λ j. n * j) (let e : i + 1 ≡ suc i = omega arith in e) ∙ mul-suc n i

-- the places of a delay are there
pub places_within : (n first d end : ℕ) → first ≤ d → d < end → n * (d - first) + n ≤ n * (end - first)
places_within n first d end from below =
    let le : d - first + 1 ≤ end - first = omega arith in
    let most : n * (d - first + 1) ≤ n * (end - first) = mul-le-mul_left n le in
    let more = places_more n (d - first) in
    omega (arith, most, more)

-- so thresholds whose places are there are of a delay before the end
pub before_end : (n first d end : ℕ) → 0 < n → first ≤ d → n * (d - first) + n ≤ n * (end - first) → d < end
before_end n first d end some from within = elim (cases_lt d end) [
  | inl below ↦ below
  | inr past ↦
      let le : end - first ≤ d - first = omega arith in
      let more : n * (end - first) ≤ n * (d - first) = mul-le-mul_left n le in
      absurd (omega (arith, some, within, more))
]

not_before : (n i j at k : ℕ) → at < n → n * i + at ≡ n * j + k → ¬ (i < j)
not_before n i j at k inside same = λ less.
    let le : i + 1 ≤ j = omega arith in
    let most : n * (i + 1) ≤ n * j = mul-le-mul_left n le in
    let more = places_more n i in
    absurd (omega (arith, inside, same, most, more))

-- a place is of one delay, and of one width
delay_is : (n i j at k : ℕ) → at < n → k < n → n * i + at ≡ n * j + k → i ≡ j
delay_is n i j at k inside within same = elim (cases_lt i j) [
  | inl less ↦ absurd (not_before n i j at k inside same less)
  | inr from ↦ elim (cases_lt j i) [
    | inl less ↦ absurd (not_before n j i k at within (sym same) less)
    | inr to ↦ omega arith
  ]
]

width_is : (n i j at k : ℕ) → i ≡ j → n * i + at ≡ n * j + k → at ≡ k
width_is n i j at k delay same = let places = ap (λ a. n * a) delay in omega (arith, same, places)

-- ---- least sums

-- one more
pub leasts_more : (s : Search) (c : Sought) (first : ℕ) (ws : List ℕ) (sums : List (Option ℕ)) (j k : ℕ)
    (x : Option ℕ) → k < length ws →
    length sums ≡ length ws * j + k → StandOutFrom (noise_of s) (slice_index ws k * cells_in c (first + j)) x →
    AreLeastSums s c first ws sums → AreLeastSums s c first ws (sums ++ x ∷ [])
leasts_more s c first ws sums j k x within long is are =
    λ i at least inside e.
    let place : ℕ = length ws * i + at in
    let reached = slice_get_within (sums ++ x ∷ []) place least e in
    let value = get_or_from_slice_get (sums ++ x ∷ []) place least least e in
    let count = length-append sums (x ∷ []) in
    elim (cases_lt place (length sums)) [
      | inl before ↦
          let same = get_or_append_left sums (x ∷ []) least place before in
          are i at least inside (slice_get-get_or sums place least before ∙ ap Some (sym same ∙ value))
      | inr last ↦
          let last_is : place ≡ length sums = omega arith in
          let delay = delay_is (length ws) i j at k inside within (last_is ∙ long) in
          let width = width_is (length ws) i j at k delay (last_is ∙ long) in
          let same : x ≡ least = sym (get_or-append_seam sums x [] least)
          ∙ ap (λ p. get_or (sums ++ x ∷ []) p least) (sym last_is) ∙ value in
          let P : ℕ → Type 0 = λ a. StandOutFrom (noise_of s) (slice_index ws a * cells_in c (first + i)) least in
          let Q : ℕ → Type 0 = λ a. StandOutFrom (noise_of s) (slice_index ws k * cells_in c (first + a)) least in
          let R : Option ℕ → Type 0 = λ a. StandOutFrom (noise_of s) (slice_index ws k * cells_in c (first + j)) a in
          subst P (sym width) (subst Q (sym delay) (subst R same is))
    ]

-- that of a delay and a width
pub least_at : (s : Search) (c : Sought) (first end d at place : ℕ) (least : Option ℕ) (thresholds : BoxThresholds) →
    AreThresholds s c first end thresholds → first ≤ d → at < length thresholds.widths.items →
    place ≡ length thresholds.widths.items * (d - first) + at → place < length thresholds.least_sums.items →
    least ≡ get_or thresholds.least_sums.items place least →
    StandOutFrom (noise_of s) (slice_index thresholds.widths.items at * cells_in c d) least
least_at s c first end d at place least thresholds are above inside is within read =
    let delay : first + (d - first) ≡ d = omega arith in
    let P : ℕ → Type 0 =
    λ e. StandOutFrom (noise_of s) (slice_index thresholds.widths.items at * cells_in c e) least in
    subst P delay (are.least_sums (d - first) at least inside
    (ap (slice_get thresholds.least_sums.items) (sym is)
    ∙ slice_get-get_or thresholds.least_sums.items place least within ∙ ap Some (sym read)))

-- those of a delay stand together
pub least_in_part : (s : Search) (c : Sought) (first end d at from m : ℕ) (least : Option ℕ)
    (thresholds : BoxThresholds) (sums : List (Option ℕ)) → AreThresholds s c first end thresholds → first ≤ d →
    sums ≡ thresholds.least_sums.items → m ≡ length thresholds.widths.items → from ≡ m * (d - first) →
    slice_get (take m (drop from sums)) at ≡ Some least →
    StandOutFrom (noise_of s) (slice_index thresholds.widths.items at * cells_in c d) least
least_in_part s c first end d at from m least thresholds sums are above all long start e =
    let part : List (Option ℕ) = take m (drop from sums) in
    let reached = slice_get_within part at least e in
    let count = length-take m (drop from sums) in
    let rest = length-drop from sums in
    let inside : at < m = omega (arith, reached, count) in
    let within : from + at < length sums = omega (arith, reached, count, rest) in
    let value = sym (get_or-take m (drop from sums) at least inside ∙ get_or-drop from sums at least)
    ∙ get_or_from_slice_get part at least least e in
    let place : from + at ≡ length thresholds.widths.items * (d - first) + at =
    ap (λ n. n + at) (start ∙ ap (λ n. n * (d - first)) long) in
    least_at s c first end d at (from + at) least thresholds are above (subst (λ n. at < n) long inside) place
    (subst (λ (xs : List (Option ℕ)). from + at < length xs) all within)
    (sym (subst (λ (xs : List (Option ℕ)). get_or xs (from + at) least ≡ least) all value))

-- ---- widths

-- one more, which is searched
pub widths_more : (p : ℕ → Bool) (all ws : List ℕ) (w i : ℕ) → i < length all → ws ≡ filter p (take i all) →
    w ≡ get_or all i 0 → p (get_or all i 0) ≡ true → ws ++ w ∷ [] ≡ filter p (take (i + 1) all)
widths_more p all ws w i inside are width taken =
    ap (λ vs. vs ++ w ∷ []) are
    ∙ ap (λ v. filter p (take i all) ++ v ∷ []) width
    ∙ ap (λ b. filter p (take i all) ++ cond b (get_or all i 0 ∷ []) []) (sym taken)
    ∙ sym (filter_more p all i 0 inside)

-- and one that isn't
pub widths_same : (p : ℕ → Bool) (all ws : List ℕ) (i : ℕ) → i < length all →
    ws ≡ filter p (take i all) → p (get_or all i 0) ≡ false → ws ≡ filter p (take (i + 1) all)
widths_same p all ws i inside are left =
    are ∙ sym (append-nil (filter p (take i all)))
    ∙ ap (λ b. filter p (take i all) ++ cond b (get_or all i 0 ∷ []) []) (sym left)
    ∙ sym (filter_more p all i 0 inside)
