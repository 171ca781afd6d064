-- Sums of what values have above a base, in 16 bits.
use Rattle.std.proofs.Common.{◌≡◌, ℕ, ◌+◌, ◌-◌, ◌*◌, ◌/◌, ◌%◌, ◌^◌, ◌<◌, ◌≤◌, List, length, take, drop, slice_index, sym, ap, subst, zero-add, ◌∙◌, arith}
use Rattle.std.proofs.lemmas.List.{get_or-map, take-map, drop-map}
use Rattle.std.proofs.Math.Nat.{mod-add-mod, mod-lt}
use Rattle.search_model.specs.Folds.{shift, fold_sum}
use Rattle.fdmt_rows.specs.Capped.{capped, capped_sum}
use Rattle.fdmt_rows.specs.Excess.{excess}
use Rattle.fast_fold.specs.Excess.{excesses, excess_sum, IsGreatestExcess}
use Rattle.fast_fold.proofs.Halves.{fold_halves, of_rows}
use Rattle.fast_fold.proofs.Ranges.{same_terms}

-- numbers of 16 bits, added
pub capped_twice : (x y : ℕ) → capped (capped x + capped y) ≡ capped (x + y)
capped_twice x y = omega arith

-- a phase counts within the period
pub phase_within : (ys : List ℕ) (p r j q : ℕ) → fold_sum ys p r j (q % p) ≡ fold_sum ys p r j q
phase_within ys p r j q =
    same_terms (λ i. slice_index ys (i * p + (q % p + shift r j i) % p))
    (λ i. slice_index ys (i * p + (q + shift r j i) % p)) (2 ^ r)
    (λ i h. ap (λ x. slice_index ys (i * p + x)) (mod-add-mod q p (shift r j i)))

-- a sum of twice as many rows is one of the first half and one of the second
pub excess_halves : (base : ℕ) (values : List ℕ) (p r j q : ℕ)
    → excess_sum base values p (r + 1) j q
    ≡ capped_sum (excess_sum base values p r (j / 2) q)
    (excess_sum base (drop (2 ^ r * p) values) p r (j / 2) (q + (j + 1) / 2))
excess_halves base values p r j q =
    let ys = excesses base values in
    let turned : ℕ = q + (j + 1) / 2 in
    let first : ℕ = fold_sum ys p r (j / 2) q in
    let second : ℕ = fold_sum (excesses base (drop (2 ^ r * p) values)) p r (j / 2) turned in
    let whole : fold_sum ys p (r + 1) j q ≡ first + second =
    fold_halves ys p r j q
    ∙ ap (λ s. first + s)
    (phase_within (drop (2 ^ r * p) ys) p r (j / 2) turned
    ∙ ap (λ xs. fold_sum xs p r (j / 2) turned) (drop-map (λ x. x - base) (2 ^ r * p) values)) in
    ap (λ s. capped s) whole ∙ sym (capped_twice first second)

-- a sum sees the rows alone
pub excess_of_rows : (base : ℕ) (values : List ℕ) (p r j q : ℕ) → 0 < p
    → excess_sum base (take (2 ^ r * p) values) p r j q ≡ excess_sum base values p r j q
excess_of_rows base values p r j q phases =
    ap (λ xs. capped (fold_sum xs p r j q)) (sym (take-map (λ x. x - base) (2 ^ r * p) values))
    ∙ ap (λ s. capped s) (of_rows (excesses base values) p r j q phases)

nothing_and : (p x : ℕ) → 0 * p + x ≡ x
nothing_and p x = omega arith

-- of one row
pub excess_of_row : (base : ℕ) (values : List ℕ) (p j q : ℕ) → length values ≡ p → 0 < p
    → excess_sum base values p 0 j q ≡ excess base (slice_index values (q % p))
excess_of_row base values p j q long phases =
    let inside : q % p < length values = omega (arith, mod-lt q phases) in
    let none : q + 0 ≡ q = omega arith in
    ap (λ s. capped s)
    (zero-add (slice_index (excesses base values) (0 * p + (q + 0) % p))
    ∙ ap (λ k. slice_index (excesses base values) k)
    (ap (λ x. 0 * p + x % p) none ∙ nothing_and p (q % p))
    ∙ get_or-map (λ x. x - base) values (q % p) 0 0 inside)

-- the greatest of the rows alone
pub greatest_of_rows : (base : ℕ) (rows values : List ℕ) (p m x : ℕ) → 0 < p → rows ≡ take (2 ^ m * p) values
    → IsGreatestExcess base rows p m x → IsGreatestExcess base values p m x
greatest_of_rows base rows values p m x phases is greatest =
    let same : (j q : ℕ) → excess_sum base rows p m j q ≡ excess_sum base values p m j q =
    λ j q. ap (λ xs. excess_sum base xs p m j q) is ∙ excess_of_rows base values p m j q phases in
    record {
      enough = λ j q lt phase. subst (λ (s : ℕ). s ≤ x) (same j q) (greatest.enough j q lt phase);
      least = λ bound all. greatest.least bound
          (λ j q lt phase. subst (λ (s : ℕ). s ≤ bound) (sym (same j q)) (all j q lt phase));
    }
