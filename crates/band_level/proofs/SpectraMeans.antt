-- The law on the means of spectra.
use Rattle.std.proofs.Common.{◌≡◌, ℕ, zero, suc, ◌+◌, ◌-◌, ◌*◌, ◌/◌, ◌<◌, ◌≤◌, inl, inr, Bool, true, false, cond, Option, Some, None, List, length, replicate, slice_index, refl, sym, ◌∙◌, ap, subst, arith}
use Rattle.std.proofs.Math.Nat.{div-mul-le_self}
use Rattle.std.proofs.lemmas.Bool.{cases_lt}
use Rattle.std.proofs.lemmas.Nat.{le-div, div-mul-add}
use Rattle.std.proofs.lemmas.Simd.{length-replicate}
use Rattle.std.proofs.lemmas.List.FromFn.{get_or-map-range_with_len, length-map-range_with_len}
use Rattle.band_level.specs.declared.plan.Plan.{Plan}
use Rattle.band_level.specs.Finished.{kept_before, kept_sum, kept_total, is_far, mean_value, clipped_by, clipped, means, share, gain, loss, balanced, without_mean, finished}
use Rattle.band_level.specs.Laws.{IsBalanced, SpectraHaveTheMean}
use Rattle.band_level.proofs.Kept.{kept_more, total_more, kept_none, total_none}

rises : (n a b : ℕ) → 0 < n → a ≤ b → a / n ≤ b / n
rises n a b some le = le-div (a / n) b n some (let h = div-mul-le_self a n in omega arith)

-- what the first values have, and one more
share_more : (n amount start j : ℕ) → 0 < n
    → ((j + 1) * amount + start) / n ≡ (j * amount + start) / n + share n amount start j
share_more n amount start j some =
    let h = rises n (j * amount + start) ((j + 1) * amount + start) some (omega arith) in
    omega arith

abbrev one_of : Bool → ℕ
one_of b = cond b 0 1

abbrev value_of : Bool → ℕ → ℕ
value_of b x = cond b 0 x

masked_value : (b : Bool) (x : ℕ) → one_of b ≡ 0 → value_of b x ≡ 0
masked_value true x h = refl
masked_value false x h = absurd (omega arith)

none_kept : (m : ℕ → Bool) (xs : List ℕ) (n : ℕ) → kept_before m n ≡ 0 → kept_sum m xs n ≡ 0
none_kept m xs zero none = total_none m xs
none_kept m xs (suc n) none =
    let e : suc n ≡ n + 1 = omega arith in
    let kept = ap (kept_before m) e ∙ kept_more m n in
    let sums = ap (kept_sum m xs) e ∙ total_more m xs n in
    let before = none_kept m xs n (omega arith) in
    let masks = masked_value (m n) (slice_index xs n) (omega arith) in
    omega arith

module _ (p : Plan) (m : ℕ → Bool) (old new : List ℕ) (n total : ℕ) (some : 0 < n)
    (levels : (i : ℕ) → i < length old → slice_index new i
    ≡ cond (m i) (slice_index old i) (balanced p n total (kept_before m i) (slice_index old i)))
    (uncut : (i : ℕ) → i < length old → m i ≡ false
    → IsBalanced p n total (kept_before m i) (slice_index old i)) where
  abbrev lost_by : ℕ → ℕ
  lost_by j = (j * (total - means p n) + 0) / n

  abbrev gained_by : ℕ → ℕ
  gained_by j = (j * (means p n - total) + (n - 1)) / n

  cell : (i : ℕ) (b : Bool) → m i ≡ b → i < length old
      → kept_sum m new i + lost_by (kept_before m i) ≡ kept_sum m old i + gained_by (kept_before m i)
      → kept_sum m new (i + 1) + lost_by (kept_before m (i + 1))
      ≡ kept_sum m old (i + 1) + gained_by (kept_before m (i + 1))
  cell i true masks lt so_far =
      let kept : kept_before m (i + 1) ≡ kept_before m i = omega (arith, rw masks at (kept_more m i)) in
      let news : kept_sum m new (i + 1) ≡ kept_sum m new i = omega (arith, rw masks at (total_more m new i)) in
      let olds : kept_sum m old (i + 1) ≡ kept_sum m old i = omega (arith, rw masks at (total_more m old i)) in
      let l = ap lost_by kept in
      let g = ap gained_by kept in
      omega arith
  cell i false keeps lt so_far =
      let j = kept_before m i in
      let kept : kept_before m (i + 1) ≡ j + 1 = rw keeps at (kept_more m i) in
      let news = rw keeps at (total_more m new i) in
      let olds = rw keeps at (total_more m old i) in
      let here : slice_index new i ≡ balanced p n total j (slice_index old i) = rw keeps at (levels i lt) in
      let u = uncut i lt keeps in
      let low = u.low in
      let high = u.high in
      let l : lost_by (kept_before m (i + 1)) ≡ lost_by j + loss p n total j =
      ap lost_by kept ∙ share_more n (total - means p n) 0 j some in
      let g : gained_by (kept_before m (i + 1)) ≡ gained_by j + gain p n total j =
      ap gained_by kept ∙ share_more n (means p n - total) (n - 1) j some in
      omega arith

  cells_before : (c : ℕ) → c ≤ length old
      → kept_sum m new c + lost_by (kept_before m c) ≡ kept_sum m old c + gained_by (kept_before m c)
  cells_before zero le =
      let none = kept_none m in
      let news = total_none m new in
      let olds = total_none m old in
      let l : lost_by (kept_before m 0) ≡ 0 =
      ap lost_by none ∙ ap (λ x. x / n) (let e : 0 * (total - means p n) + 0 ≡ 0 * n + 0 = omega arith in e)
      ∙ div-mul-add 0 n 0 some in
      let g : gained_by (kept_before m 0) ≡ 0 =
      ap gained_by none
      ∙ ap (λ x. x / n) (let e : 0 * (means p n - total) + (n - 1) ≡ 0 * n + (n - 1) = omega arith in e)
      ∙ div-mul-add 0 n (n - 1) (omega arith) in
      omega arith
  cells_before (suc c) le =
      let e : suc c ≡ c + 1 = omega arith in
      subst (λ (d : ℕ). kept_sum m new d + lost_by (kept_before m d) ≡ kept_sum m old d + gained_by (kept_before m d))
      (sym e) (cell c (m c) refl (omega arith) (cells_before c (omega arith)))

  all_cells : n ≡ kept_before m (length old) → total ≡ kept_sum m old (length old)
      → kept_sum m new (length old) ≡ means p n
  all_cells is_n is_total =
      let h = cells_before (length old) (omega arith) in
      let excess = total - means p n in
      let lack = means p n - total in
      let l : lost_by (kept_before m (length old)) ≡ excess =
      ap lost_by (sym is_n) ∙ ap (λ x. x / n) (let e : n * excess + 0 ≡ excess * n + 0 = omega arith in e)
      ∙ div-mul-add excess n 0 some in
      let g : gained_by (kept_before m (length old)) ≡ lack =
      ap gained_by (sym is_n) ∙ ap (λ x. x / n) (let e : n * lack + (n - 1) ≡ lack * n + (n - 1) = omega arith in e)
      ∙ div-mul-add lack n (n - 1) (omega arith) in
      omega arith

-- ---- clipped spectra have as many values

clipped_long_at : (b : Bool) (n v : ℕ) (xs : List ℕ) → length xs ≡ n → length (cond b (replicate n v) xs) ≡ n
clipped_long_at true n v xs long = length-replicate n v
clipped_long_at false n v xs long = long

clipped_long_by : (clip : Option ℕ) (p : Plan) (m : ℕ → Bool) (xs : List ℕ)
    → length (clipped_by clip p m xs) ≡ length xs
clipped_long_by None p m xs = refl
clipped_long_by (Some clip) p m xs =
    clipped_long_at (is_far p clip (kept_before m (length xs)) (kept_total m xs)) (length xs) (mean_value p) xs refl

-- ---- the law

without_mean_has : (p : Plan) (m : ℕ → Bool) (xs : List ℕ) (n : ℕ) → length xs ≡ n
    → ((i : ℕ) → i < n → m i ≡ false
    → IsBalanced p (kept_before m n) (kept_total m xs) (kept_before m i) (slice_index xs i))
    → kept_total m (without_mean p m xs) ≡ means p (kept_before m n)
without_mean_has p m xs n long uncut =
    let f : ℕ → ℕ = λ i. cond (m i) (slice_index xs i)
    (balanced p (kept_before m (length xs)) (kept_total m xs) (kept_before m i) (slice_index xs i)) in
    let ys = without_mean p m xs in
    let ys_long : length ys ≡ length xs = length-map-range_with_len f 0 (length xs) in
    let kept : kept_before m (length xs) ≡ kept_before m n = ap (kept_before m) long in
    let here : kept_total m ys ≡ kept_sum m ys (length xs) = ap (kept_sum m ys) ys_long in
    let on : means p (kept_before m (length xs)) ≡ means p (kept_before m n) = ap (means p) kept in
    elim (cases_lt 0 (kept_before m (length xs))) [
      | inl some ↦
          here
          ∙ all_cells p m xs ys (kept_before m (length xs)) (kept_total m xs) some
          (λ i lt. get_or-map-range_with_len f 0 (length xs) i i 0 lt (omega arith))
          (λ i lt keeps. subst (λ (c : ℕ). IsBalanced p c (kept_total m xs) (kept_before m i) (slice_index xs i))
          (sym kept) (uncut i (omega arith) keeps))
          refl refl
          ∙ on
      | inr none ↦
          let no : kept_before m (length xs) ≡ 0 = omega arith in
          let nothing : means p (kept_before m (length xs)) ≡ 0 =
          ap (means p) no ∙ (let e : 0 * p.mean ≡ 0 = omega arith in ap (λ x. x / 1000) e) in
          here ∙ none_kept m ys (length xs) no ∙ sym nothing ∙ on
    ]

pub spectra_have : SpectraHaveTheMean
unfolding finished
spectra_have p m values zero_dm uncut =
    let xs = clipped p m values in
    ap (λ b. kept_total m (cond b (without_mean p m xs) xs)) zero_dm
    ∙ without_mean_has p m xs (length values) (clipped_long_by p.clip p m values) uncut
