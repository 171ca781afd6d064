-- The widths of a search, and the pulses of a delay where there is one width.
use Rattle.std.proofs.Common.{◌≡◌, ℕ, zero, suc, inl, inr, ◌*◌, ◌^◌, ◌<◌, ◌≤◌, ◌++◌, All, Bool, true, false, IsTrue, cond, List, [], ◌∷◌, Option, Some, None, length, nat_le, get_or, slice_get, slice_index, refl, sym, ◌∙◌, ap, subst, arith, append-nil}
use Rattle.std.specs.Prelude.{filter}
use Rattle.std.specs.List.{flat_map}
use Rattle.std.proofs.lemmas.Bool.{cases_lt, false≢true, le-leb, leb-true}
use Rattle.std.proofs.lemmas.Nat.{pow_below}
use Rattle.std.proofs.lemmas.List.Elements.{All-cons, All-nil, All-filter, filter_passes}
use Rattle.std.proofs.lemmas.List.Sums.{length-filter, count_by-le-length}
use Rattle.std.proofs.lemmas.Option.{slice_get-get_or}
use Rattle.box_sums.specs.Rows.{IsWidth}
use Rattle.detect_rule.specs.Noise.{StandOutFrom}
use Rattle.fold_search.specs.Judging.{noise_of}
use Rattle.search_model.specs.declared.candidate.Candidate.{Candidate}
use Rattle.search_model.specs.Laws.{TestsDetection}
use Rattle.search_model.specs.declared.search.Search.{Search}
use Rattle.search_model.specs.Search.{box_widths, widths}
use Rattle.shard_search.specs.Pulses.{box_of, pulse_of, pulses_of_delay}
use Rattle.shard_search.specs.Sought.{Sought, cells_in}
use Rattle.shard_search.proofs.Boxes.{not_true, quiet_box}

pub widths_few : (s : Search) → length (widths s) ≤ 6
widths_few s =
    let p : ℕ → Bool = λ w. nat_le w s.widest in
    let count = length-filter p box_widths in
    let few = count_by-le-length p box_widths in
    omega (arith, count, few)

pub are_widths : (s : Search) → All IsWidth (widths s)
are_widths s =
    let P : ℕ → Type 0 = IsWidth in
    All-filter (λ w. nat_le w s.widest) P box_widths
    (All-cons P 1 (2 ∷ 4 ∷ 8 ∷ 16 ∷ 32 ∷ []) refl (All-cons P 2 (4 ∷ 8 ∷ 16 ∷ 32 ∷ []) refl
    (All-cons P 4 (8 ∷ 16 ∷ 32 ∷ []) refl (All-cons P 8 (16 ∷ 32 ∷ []) refl (All-cons P 16 (32 ∷ []) refl
    (All-cons P 32 [] refl (All-nil P)))))))

pub are_narrow : (s : Search) → All (λ w. w ≤ s.widest) (widths s)
are_narrow s = λ i w inside. leb-true _ s.widest (filter_passes (λ v. nat_le v s.widest) box_widths i w inside)

-- where boxes have one sum, there is one width
pub one_width : (s : Search) → s.widest ≡ 1 → widths s ≡ 1 ∷ []
one_width s one = ap (λ n. filter (λ w. nat_le w n) box_widths) one

pub pulses_of_one : (y : ℕ → ℕ → ℕ) (s : Search) (c : Sought) (u d : ℕ) → s.widest ≡ 1 →
    pulses_of_delay y s c u d ≡ pulse_of y s c u d 1
pulses_of_one y s c u d one =
    ap (flat_map (λ w. pulse_of y s c u d w)) (one_width s one) ∙ append-nil (pulse_of y s c u d 1)

-- a test that nothing passes leaves nothing
none_pass : (p : ℕ → Bool) (ws : List ℕ) → ((i : ℕ) → i < length ws → ¬ IsTrue (p (slice_index ws i))) →
    filter p ws ≡ []
none_pass p [] none = refl
none_pass p (w ∷ ws) none =
    ap (λ b. cond b (w ∷ filter p ws) (filter p ws)) (not_true (p w) (none 0 (omega arith)))
    ∙ none_pass p ws (λ i lt. none (suc i) (omega arith))

-- what passes a test that passes all before it is a front
front_by : (p : ℕ → Bool) (w : ℕ) (ws : List ℕ) (b : Bool) → p w ≡ b →
    ((j : ℕ) → j < length ws → p (slice_index ws j) ≡ true → p w ≡ true) →
    ((i : ℕ) → i < length (filter p ws) → slice_index (filter p ws) i ≡ slice_index ws i) →
    (i : ℕ) → i < length (cond b (w ∷ filter p ws) (filter p ws)) →
    slice_index (cond b (w ∷ filter p ws) (filter p ws)) i ≡ slice_index (w ∷ ws) i
front_by p w ws true is first rest zero lt = refl
front_by p w ws true is first rest (suc i) lt = rest i (omega arith)
front_by p w ws false is first rest i lt =
    let none = none_pass p ws (λ j inside passes. false≢true (sym is ∙ first j inside passes)) in
    absurd (let few = ap (λ (xs : List ℕ). length xs) none in omega (arith, few, lt))

front_at : (p : ℕ → Bool) (ws : List ℕ) →
    ((i j : ℕ) → i ≤ j → j < length ws → p (slice_index ws j) ≡ true → p (slice_index ws i) ≡ true) →
    (i : ℕ) → i < length (filter p ws) → slice_index (filter p ws) i ≡ slice_index ws i
front_at p [] front i lt = absurd (omega arith)
front_at p (w ∷ ws) front i lt =
    front_by p w ws (p w) refl (λ j inside passes. front 0 (suc j) (omega arith) (omega arith) passes)
    (front_at p ws (λ a b le inside passes. front (suc a) (suc b) (omega arith) (omega arith) passes)) i lt

box_width : (i : ℕ) → i < 6 → slice_index box_widths i ≡ 2 ^ i
box_width zero lt = refl
box_width (suc zero) lt = refl
box_width (suc (suc zero)) lt = refl
box_width (suc (suc (suc zero))) lt = refl
box_width (suc (suc (suc (suc zero)))) lt = refl
box_width (suc (suc (suc (suc (suc zero))))) lt = refl
box_width (suc (suc (suc (suc (suc (suc i)))))) lt = absurd (omega arith)

widths_rise : (i j : ℕ) → i ≤ j → j < 6 → slice_index box_widths i ≤ slice_index box_widths j
widths_rise i j le lt = elim (cases_lt i j) [
  | inl less ↦
      let narrower = pow_below i j less in
      let first = box_width i (omega arith) in
      let second = box_width j lt in
      omega (arith, narrower, first, second)
  | inr from ↦ let same : i ≡ j = omega arith in
      subst (λ k. slice_index box_widths i ≤ slice_index box_widths k) same (omega arith)
]

-- so the widths of a search are 1, 2, 4 and so on
pub width_at : (s : Search) (i : ℕ) → i < length (widths s) → slice_index (widths s) i ≡ 2 ^ i
width_at s i lt =
    let few = widths_few s in
    front_at (λ w. nat_le w s.widest) box_widths
    (λ a b le inside passes.
    let rises = widths_rise a b le inside in
    let within = leb-true (slice_index box_widths b) s.widest passes in
    le-leb (slice_index box_widths a) s.widest (omega (arith, rises, within))) i lt
    ∙ box_width i (omega (arith, few, lt))

-- no list has anything
none_of : (g : ℕ → List Candidate) (ws : List ℕ) → ((i : ℕ) → i < length ws → g (slice_index ws i) ≡ []) →
    flat_map g ws ≡ []
none_of g [] none = refl
none_of g (w ∷ ws) none =
    ap (λ xs. xs ++ flat_map g ws) (none 0 (omega arith))
    ∙ none_of g ws (λ i lt. none (suc i) (omega arith))

-- no pulse of a delay ends at a spectrum where each box is below the least sum of its width
pub quiet_widths : TestsDetection → (y : ℕ → ℕ → ℕ) (s : Search) (c : Sought) (u d : ℕ) (leasts : List (Option ℕ)) →
    length leasts ≡ length (widths s) →
    ((at : ℕ) (least : Option ℕ) → slice_get leasts at ≡ Some least →
    StandOutFrom (noise_of s) (slice_index (widths s) at * cells_in c d) least) →
    ((at : ℕ) → at < length leasts → box_of y d u (2 ^ at) < 2 ^ 32) →
    ((at least : ℕ) → at < length leasts → slice_get leasts at ≡ Some (Some least) → box_of y d u (2 ^ at) < least) →
    pulses_of_delay y s c u d ≡ []
quiet_widths tests y s c u d leasts long out fits below =
    none_of (λ w. pulse_of y s c u d w) (widths s)
    (λ i lt.
    let inside : i < length leasts = omega (arith, long, lt) in
    let least = get_or leasts i None in
    let there = slice_get-get_or leasts i None inside in
    let width = width_at s i lt in
    subst (λ w. pulse_of y s c u d w ≡ []) (sym width)
    (quiet_box tests y s c u d (2 ^ i) least
    (subst (λ w. StandOutFrom (noise_of s) (w * cells_in c d) least) width (out i least there)) (fits i inside)
    (λ x e. below i x inside (there ∙ ap Some e))))
