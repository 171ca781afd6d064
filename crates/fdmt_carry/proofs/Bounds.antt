-- How great the sums of rows are.
use Rattle.std.proofs.Common.{◌≡◌, ℕ, zero, suc, ◌+◌, ◌*◌, ◌%◌, ◌^◌, ◌<◌, ◌≤◌, List, [], ◌∷◌, ◌++◌, arith, ap, sym, ◌∙◌, subst, refl, inl, inr}
use Rattle.std.specs.List.{All}
use Rattle.std.proofs.Math.Nat.{mod-eq_of_lt, mul-le-mul_left}
use Rattle.std.proofs.lemmas.Bool.{cases_lt, le-leb, lt-leb}
use Rattle.std.proofs.lemmas.List.Elements.{All-append, All-cons}
use Rattle.dada_model.specs.Edges.{AreEdges}
use Rattle.band_paths.specs.Edges.{channels_of}
use Rattle.search_model.specs.Samples.{Filterbank}
use Rattle.search_model.specs.Laws.{SplitsFit}
use Rattle.search_model.specs.Paths.{middle}
use Rattle.search_model.specs.Subbands.{node_sum}
use Rattle.subband_plan.specs.declared.nodes.Node.{Node}
use Rattle.subband_plan.specs.declared.rows.PlanRows.{PlanRows}
use Rattle.subband_plan.specs.Nodes.{BandPlan, IsPlan, nodes_of, node_at, root, split_of, tree, upper_half, lower_half}
use Rattle.subband_plan.specs.NodeLaws.{AreLaid}
use Rattle.subband_plan.specs.Rows.{ArePlanRows, IsRow, all_rows, node_of, delay_of}
use Rattle.subband_plan.specs.Values.{RowsAreBounded, cells_of, row_sum}
use Rattle.fdmt_carry.specs.Carrying.{IsStream}

-- the rows of the nodes below a node have no later delays
tree_of_two : (depth : ℕ) (edges : List ℕ) (n : Node) → n.lo + 2 ≤ n.hi → tree (suc depth) edges n
    ≡ n ∷ (tree depth edges (upper_half edges n) ++ tree depth edges (lower_half edges n))
unfolding tree
tree_of_two depth edges n two = rw (le-leb (n.lo + 2) n.hi two, tree) refl

tree_of_one : (depth : ℕ) (edges : List ℕ) (n : Node) → n.hi < n.lo + 2 → tree (suc depth) edges n ≡ n ∷ []
unfolding tree
tree_of_one depth edges n one = rw (lt-leb (n.lo + 2) n.hi one, tree) refl

abbrev EndsBy : ℕ → Node → Type 0
EndsBy most n = n.last_row ≤ most

only : (most : ℕ) (n : Node) → EndsBy most n → All (EndsBy most) (n ∷ [])
only most n ends = All-cons (EndsBy most) n [] ends (λ k d lt. absurd (omega arith))

tree_ends : SplitsFit → (depth : ℕ) (edges : List ℕ) (n : Node) (c most : ℕ) → AreEdges c edges → n.hi ≤ c →
    EndsBy most n → All (EndsBy most) (tree depth edges n)
unfolding tree split_of
tree_ends fit zero edges n c most band within ends = only most n ends
tree_ends fit (suc depth) edges n c most band within ends = elim (cases_lt n.hi (n.lo + 2)) [
  | inl one ↦ subst (λ (nodes : List Node). All (EndsBy most) nodes) (sym (tree_of_one depth edges n one))
      (only most n ends)
  | inr two ↦
      let part : split_of edges n n.last_row ≤ n.last_row = fit.fits _ _ _ n.last_row
      (band.falls (middle n.lo n.hi) n.hi (omega arith) within)
      (band.falls n.lo (middle n.lo n.hi) (omega arith) (omega arith)) in
      subst (λ (nodes : List Node). All (EndsBy most) nodes) (sym (tree_of_two depth edges n two))
      (All-cons (EndsBy most) n _ ends
      (All-append (EndsBy most) (tree depth edges (upper_half edges n)) (tree depth edges (lower_half edges n))
      (tree_ends fit depth edges (upper_half edges n) c most band (omega arith) (omega arith))
      (tree_ends fit depth edges (lower_half edges n) c most band within (omega arith))))
]

-- so a row has no more cells than the whole band has channels and spectra of delay
pub cells_fit : SplitsFit → (p : BandPlan) (rows : PlanRows) (r : ℕ) → AreLaid p.edges (nodes_of p) →
    ArePlanRows p rows → r < all_rows rows → cells_of p rows r ≤ channels_of p.edges + p.last
cells_fit fit p rows r laid is there =
    let label = is.label r there in
    let within = (laid.each (node_of rows r) label.node).branch.within in
    let most = label.kept.most in
    let ends : (node_at (nodes_of p) (node_of rows r)).last_row ≤ p.last =
    tree_ends fit 12 p.edges (root p) (channels_of p.edges) p.last laid.band (omega arith) (omega arith)
    (node_of rows r) _ label.node in
    omega arith

-- where the sums of the whole band have 32 bits, so have those of each row
pub sum_is_plain : SplitsFit → RowsAreBounded → (p : BandPlan) (rows : PlanRows) (f : Filterbank) (m r u : ℕ) →
    IsPlan p → AreLaid p.edges (nodes_of p) → ArePlanRows p rows → IsStream p m f →
    m * (channels_of p.edges + p.last) < 2 ^ 32 → r < all_rows rows →
    row_sum p rows f r u 0 % 2 ^ 32 ≡ row_sum p rows f r u 0
sum_is_plain fit bounded p rows f m r u plan laid is stream fits there =
    let bound = bounded p rows f (u + 1) m plan is stream.channels (λ c t within early. stream.small c t) r u 0
    (omega arith) in
    let cells = cells_fit fit p rows r laid is there in
    let most = mul-le-mul_left m cells in
    mod-eq_of_lt (omega arith)

-- they are the sums over its node
pub sum_of_node : (p : BandPlan) (rows : PlanRows) (f : Filterbank) (k d r u : ℕ) → IsRow rows k d r →
    row_sum p rows f r u 0
    ≡ node_sum f p.edges (node_at (nodes_of p) k).lo (node_at (nodes_of p) k).hi d u 0
unfolding row_sum
sum_of_node p rows f k d r u is =
    ap (λ j. node_sum f p.edges (node_at (nodes_of p) j).lo (node_at (nodes_of p) j).hi (delay_of rows r) u 0) is.node
    ∙ ap (λ e. node_sum f p.edges (node_at (nodes_of p) k).lo (node_at (nodes_of p) k).hi e u 0) is.delay
