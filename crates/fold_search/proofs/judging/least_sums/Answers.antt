use Rattle.std.proofs.Common.{◌≡◌, ℕ, ◌*◌, ◌^◌, ◌<◌, ◌≤◌, ◌≢◌, inl, inr, List, length, Option, None, get_or, set, refl, sym, ap, subst, ◌∙◌, arith, length-set, get_or-set_same, get_or-set_other}
use Rattle.std.proofs.Math.Nat.{mul-le-mul_right}
use Rattle.std.proofs.lemmas.Bool.{cases_lt}
use Rattle.detect_rule.specs.Noise.{StandOutFrom}
use Rattle.fold_search.proofs.judging.least_sums.Goals as goal

-- as many cells as the rows of a fold have
rows_of_cells : (rows rows' cells cells' power : ℕ) → rows ≡ rows' → cells ≡ cells' → rows' ≡ power →
    rows * cells ≡ power * cells'
rows_of_cells rows rows' cells cells' power same_rows same_cells is =
    ap (λ n. n * cells) (same_rows ∙ is) ∙ ap (λ n. power * n) same_cells

pub least-requires : goal.least-requires
least-requires c =
    let most : c.fold_row_count.result * c.args.cells ≤ 4096 * c.args.cells =
    mul-le-mul_right c.args.cells c.fold_row_count.ensures.bound in
    let few = c.requires.cells in
    let same = rows_of_cells c.from-rows.result c.fold_row_count.result c.from.result c.args.cells
    c.fold_row_count.result c.from-rows.ensures c.from.ensures refl in
    omega (arith, most, few, same)

pub loop-halvings-preserved : goal.loop-halvings-preserved
loop-halvings-preserved c =
    let at : ℕ = c.loop-halvings.halvings in
    let before = c.loop-halvings.invariant in
    let old : List (Option ℕ) = c.loop-halvings.least in
    let few = c.requires.few in
    let room : at < length old = omega (arith, before.long) in
    let P : ℕ → Option ℕ → Type 0 = λ m found. StandOutFrom c.args.rule.now (2 ^ m * c.args.cells) found in
    let Q : ℕ → Type 0 = λ cells. StandOutFrom c.args.rule.now cells c.least.result in
    let R : ℕ → Type 0 = λ m. P m (get_or (set old at c.least.result) m None) in
    record {
      long = length-set old at c.least.result ∙ before.long;
      least = λ m small. elim (cases_lt m at) [
        | inl below ↦
            let other : m ≢ at = omega arith in
            subst (P m) (sym (get_or-set_other old at m c.least.result None other)) (before.least m below)
        | inr past ↦
            let is : at ≡ m = omega arith in
            subst R is
            (subst (P at) (sym (get_or-set_same old at c.least.result None room))
            (subst Q (rows_of_cells c.from-rows.result c.fold_row_count.result c.from.result c.args.cells (2 ^ at)
            c.from-rows.ensures c.from.ensures c.fold_row_count.ensures.value) c.least.ensures))
      ];
    }
