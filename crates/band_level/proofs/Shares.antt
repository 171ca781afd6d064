-- Shares of an amount.
use Rattle.std.proofs.Common.{◌≡◌, ℕ, ◌+◌, ◌-◌, ◌*◌, ◌/◌, ◌%◌, ◌<◌, ◌≤◌, ◌≢◌, inl, inr, min, Bool, true, false, cond, List, length, slice_index, refl, sym, ◌∙◌, ap, arith}
use Rattle.std.proofs.lemmas.Nat.{div-add-mod', div-mul-add, mod-mul-add, mod_below}
use Rattle.std.proofs.lemmas.Bool.{cases_lt}
use Rattle.std.proofs.lemmas.List.FromFn.{fill_by_all}
use Rattle.band_level.specs.declared.plan.Plan.{Plan}
use Rattle.band_level.specs.declared.finish.Spread.{Spread}
use Rattle.band_level.specs.Finished.{kept_before, kept_total, share, balanced, without_mean}
use Rattle.band_level.specs.Shares.{with_share, left_over, spread_level}
use Rattle.band_level.proofs.Fills.{Fills}
use Rattle.band_level.proofs.Kept.{kept_none, kept_more, kept_some}

-- ---- quotients and remainders

-- a sum, where the remainders stay below n
pub low_sum : (n m a left rest : ℕ) → left ≡ m % n → rest ≡ a % n → left + rest < n
    → ((m + a) / n ≡ m / n + a / n) × ((m + a) % n ≡ left + rest)
low_sum n m a left rest is_left is_rest lt =
    let e : m + a ≡ (m / n + a / n) * n + (left + rest) = omega (arith, div-add-mod' m n, div-add-mod' a n) in (
      ap (λ x. x / n) e ∙ div-mul-add (m / n + a / n) n (left + rest) lt,
      ap (λ x. x % n) e ∙ mod-mul-add (m / n + a / n) n (left + rest) lt,
    )

-- and where they come to n
pub high_sum : (n m a left rest : ℕ) → 0 < n → left ≡ m % n → rest ≡ a % n → n ≤ left + rest
    → ((m + a) / n ≡ m / n + a / n + 1) × ((m + a) % n ≡ left + rest - n)
high_sum n m a left rest some is_left is_rest ge =
    let lt : left + rest - n < n = omega (arith, mod_below m n some, mod_below a n some) in
    let e : m + a ≡ (m / n + a / n + 1) * n + (left + rest - n) =
    omega (arith, div-add-mod' m n, div-add-mod' a n) in (
      ap (λ x. x / n) e ∙ div-mul-add (m / n + a / n + 1) n (left + rest - n) lt,
      ap (λ x. x % n) e ∙ mod-mul-add (m / n + a / n + 1) n (left + rest - n) lt,
    )

-- the amount of one value more
pub amount_more : (j amount start : ℕ) → j * amount + start + amount ≡ (j + 1) * amount + start
amount_more j amount start = omega arith

-- ---- a row

unmasked_same : (b : Bool) (a x y : ℕ) → (b ≡ false → x ≡ y) → cond b a x ≡ cond b a y
unmasked_same true a x y same = refl
unmasked_same false a x y same = same refl

pub spread_is_balanced : (p : Plan) (is_masked : ℕ → Bool) (old new : List ℕ) (s : Spread) (count total : ℕ)
    → length new ≡ length old → count ≡ kept_before is_masked (length old) → total ≡ kept_total is_masked old
    → (0 < count → (j value : ℕ) → with_share s (share s.count s.amount s.start j) value ≡ balanced p count total j value)
    → ((i : ℕ) → i < length old → slice_index new i ≡ spread_level s is_masked old i)
    → new ≡ without_mean p is_masked old
spread_is_balanced p is_masked old new s count total long is_count is_total shares levels =
    fill_by_all
    (λ i. cond (is_masked i) (slice_index old i)
    (balanced p (kept_before is_masked (length old)) (kept_total is_masked old) (kept_before is_masked i)
    (slice_index old i)))
    new (length old) 0 long
    (λ i lt. levels i lt
    ∙ unmasked_same (is_masked i) (slice_index old i) _ _
    (λ keeps.
    let some = kept_some is_masked i (length old) lt keeps in
    shares (omega arith) (kept_before is_masked i) (slice_index old i)
    ∙ ap (λ n. balanced p n total (kept_before is_masked i) (slice_index old i)) is_count
    ∙ ap (λ t. balanced p (kept_before is_masked (length old)) t (kept_before is_masked i) (slice_index old i)) is_total))

-- ---- the loop over a row

pub spread_begins : (s : Spread) (m : ℕ → Bool) → s.start < s.count → s.start ≡ left_over s (kept_before m 0)
spread_begins s m lt =
    let none : kept_before m 0 * s.amount + s.start ≡ 0 * s.count + s.start =
    ap (λ j. j * s.amount + s.start) (kept_none m) ∙ omega arith in
    sym (ap (λ x. x % s.count) none ∙ mod-mul-add 0 s.count s.start lt)

pub kept_next : (m : ℕ → Bool) (i : ℕ) (b : Bool) → b ≡ m i
    → cond b (kept_before m i) (kept_before m i + 1) ≡ kept_before m (i + 1)
kept_next m i b is = count_next b (kept_before m i) ∙ ap (λ c. kept_before m i + cond c 0 1) is ∙ sym (kept_more m i)
  where
    count_next : (b : Bool) (j : ℕ) → cond b j (j + 1) ≡ j + cond b 0 1
    count_next true j = omega arith
    count_next false j = refl

pub spread_more : (s : Spread) (m : ℕ → Bool) (old now new : List ℕ) (i : ℕ) (b : Bool) → b ≡ m i
    → Fills old now i (spread_level s m old)
    → slice_index new i ≡ cond b (slice_index now i)
    (with_share s (share s.count s.amount s.start (kept_before m i)) (slice_index now i))
    → ((k : ℕ) → k ≢ i → slice_index new k ≡ slice_index now k)
    → Fills old new (i + 1) (spread_level s m old)
spread_more s m old now new i b is fills here others = record {
  done = λ k lt. elim (cases_lt k i) [
    | inl before ↦ others k (λ e. absurd (omega arith)) ∙ fills.done k before
    | inr last ↦
        let e : k ≡ i = omega arith in
        rw e (rw (is, fills.rest i (omega arith)) at here)
  ];
  rest = λ k le. others k (λ e. absurd (omega arith)) ∙ fills.rest k (omega arith);
}

pub level_most : (s : Spread) (m : ℕ → Bool) (old : List ℕ) (i : ℕ) → slice_index old i ≤ s.most
    → spread_level s m old i ≤ s.most
level_most s m old i small = of_mark (m i) (slice_index old i) _ s.most small
  where
    of_mark : (b : Bool) (y x most : ℕ) → y ≤ most → cond b y (min most x) ≤ most
    of_mark true y x most few = few
    of_mark false y x most few = omega arith
