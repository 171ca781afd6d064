use Rattle.std.proofs.Common.{ℕ, ◌≡◌, ◌*◌, ◌^◌, ◌-◌, ◌<◌, ◌≤◌, List, length, ◌∙◌, sym, ap, subst, arith}
use Rattle.std.proofs.lemmas.List.{take_at}
use Rattle.fast_fold.specs.Folding.{Folding, StandsForSeries, AreFolded}
use Rattle.fast_fold.specs.Merging.{AreMerged}
use Rattle.fast_fold.proofs.Levels.{folded_more}
use Rattle.fast_fold.proofs.Room.{loaded_fits, all_blocks}
use Rattle.fast_fold.proofs.folder.Folder.halve.Goals as goal

-- all blocks lie within a table
blocks_fit : (longest most p m r blocks rows : ℕ) → p ≤ longest → m ≤ most → r < m
    → blocks ≡ 2 ^ (m - r - 1) → rows ≡ 2 ^ r → blocks * (2 * rows * p) ≤ longest * 2 ^ most
blocks_fit longest most p m r blocks rows short few more is_blocks is_rows =
    let fits = loaded_fits longest most p m short few in
    let all = all_blocks m r p more in
    let same : blocks * (2 * rows * p) ≡ 2 ^ (m - r - 1) * (2 * 2 ^ r * p) =
    ap (λ x. x * (2 * rows * p)) is_blocks ∙ ap (λ x. 2 ^ (m - r - 1) * (2 * x * p)) is_rows in
    omega (arith, fits, all, same)

pub merge_blocks-requires-clause-room : goal.merge_blocks-requires-clause-room
merge_blocks-requires-clause-room c =
    let f = c.self.inside in
    let level : f.level ≡ c.args.self.now.level = ap (λ (f : Folding). f.level) c.self.view_is in
    let halvings : f.halvings ≡ c.args.self.now.halvings = ap (λ (f : Folding). f.halvings) c.self.view_is in
    let fit = blocks_fit f.longest f.most f.period f.halvings f.level _ _ c.self.invariant.short
    c.self.invariant.few_halvings (omega arith) c.power-blocks.ensures.value c.power-rows.ensures.value in
    let long : length c.as_mut_slice.result.now ≡ length f.spare.items = ap length c.as_mut_slice.ensures.value in
    omega (arith, fit, long)

pub merge_blocks-requires-clause-given : goal.merge_blocks-requires-clause-given
merge_blocks-requires-clause-given c =
    let f = c.self.inside in
    let level : f.level ≡ c.args.self.now.level = ap (λ (f : Folding). f.level) c.self.view_is in
    let halvings : f.halvings ≡ c.args.self.now.halvings = ap (λ (f : Folding). f.halvings) c.self.view_is in
    let fit = blocks_fit f.longest f.most f.period f.halvings f.level _ _ c.self.invariant.short
    c.self.invariant.few_halvings (omega arith) c.power-blocks.ensures.value c.power-rows.ensures.value in
    let long : length c.as_slice.result.now ≡ length f.sums.items = ap length c.as_slice.ensures.value in
    omega (arith, fit, long)

-- the same blocks under other names
merged_same : (merged merged' sums sums' : List ℕ) (p rows rows' blocks blocks' : ℕ)
    → merged ≡ merged' → sums ≡ sums' → rows ≡ rows' → blocks ≡ blocks'
    → AreMerged merged sums p rows blocks → AreMerged merged' sums' p rows' blocks'
merged_same merged merged' sums sums' p rows rows' blocks blocks' same_merged same_sums same_rows same_blocks are =
    let P1 : List ℕ → Type 0 = λ xs. AreMerged xs sums p rows blocks in
    let P2 : List ℕ → Type 0 = λ xs. AreMerged merged' xs p rows blocks in
    let P3 : ℕ → Type 0 = λ n. AreMerged merged' sums' p n blocks in
    let P4 : ℕ → Type 0 = λ n. AreMerged merged' sums' p rows' n in
    subst P4 same_blocks (subst P3 same_rows (subst P2 same_sums (subst P1 same_merged are)))

pub returns-clause-sums : goal.returns-clause-sums
returns-clause-sums c = λ series stands.
    let f = c.self.inside in
    let level : f.level ≡ c.args.self.now.level = ap (λ (f : Folding). f.level) c.self.view_is in
    let halvings : f.halvings ≡ c.args.self.now.halvings = ap (λ (f : Folding). f.halvings) c.self.view_is in
    let items : c.swap.new.x.items ≡ c.merge_blocks.new.out =
    ap (λ v. v.items) c.swap.ensures.x_after
    ∙ take_at c.merge_blocks.new.out _ f.spare.len (c.merge_blocks.auto.out ∙ c.as_mut_slice.ensures.len) in
    let old : AreFolded f.period f.halvings f.level series f.sums.items =
    subst (λ (f : Folding). StandsForSeries f series) (sym c.self.view_is) stands in
    let are : AreMerged c.swap.new.x.items f.sums.items f.period (2 ^ f.level) (2 ^ (f.halvings - f.level - 1)) =
    merged_same c.merge_blocks.new.out c.swap.new.x.items _ f.sums.items f.period _ _ _ _ (sym items)
    c.as_slice.ensures.value c.power-rows.ensures.value c.power-blocks.ensures.value c.merge_blocks.ensures in
    folded_more f.period f.halvings f.level series f.sums.items c.swap.new.x.items
    (c.self.invariant.some_phases (omega arith)) (omega arith) are old
