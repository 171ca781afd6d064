-- The values of a plan's rows.
use Rattle.std.proofs.Common.{◌≡◌, ℕ, ◌+◌, ◌-◌, ◌*◌, ◌≤◌, ◌<◌, List, Some, length, slice_get, arith, refl, sym, ap, ◌∙◌, inl, inr}
use Rattle.std.proofs.lemmas.List.{get_or_past}
use Rattle.std.proofs.lemmas.Bool.{cases_lt}
use Rattle.std.proofs.lemmas.Option.{get_or_from_slice_get, slice_get_within}
use Rattle.dada_model.specs.Edges.{AreEdges}
use Rattle.band_paths.specs.Edges.{channels_of}
use Rattle.search_model.specs.Samples.{Filterbank}
use Rattle.search_model.specs.Sums.{path_sum}
use Rattle.search_model.specs.Laws.{SplitsFit}
use Rattle.search_model.specs.Subbands.{node_sum}
use Rattle.search_model.specs.SubbandLaws.{HalvesAdd, OneChannelAdds, OneChannelIsItsSample, TimeShifts, NothingBefore, WholeBandIsPathSum, SplitsStep, LatePathSums}
use Rattle.row_model.specs.declared.Merge.{Merge}
use Rattle.row_model.specs.declared.Source.{Source}
use Rattle.row_model.specs.declared.Source.TheVariants.{Channel, Sum}
use Rattle.row_model.specs.Sums.{Sums, AddUp}
use Rattle.subband_plan.specs.declared.nodes.Node.{Node}
use Rattle.subband_plan.specs.declared.rows.PlanRows.{PlanRows}
use Rattle.subband_plan.specs.Nodes.{BandPlan, HasKept, HasRow, split_of, root, nodes_of, node_at}
use Rattle.subband_plan.specs.NodeLaws.{AreLaid, lower_number}
use Rattle.subband_plan.specs.Rows.{ArePlanRows, all_rows, node_of, delay_of, row_at, source_at, sum_of}
use Rattle.subband_plan.specs.RowLaws.{AreNumbered}
use Rattle.subband_plan.specs.Values.{AreAtMost, row_sum, cells_of}
use Rattle.subband_plan.proofs.Bounds.{SumLaws, sums_bounded}
use Rattle.subband_plan.proofs.Growing.{ArePairs, channel_grows, halves_sum, pair_sums, pair_first, pair_grows, pair_stays}
use Rattle.subband_plan.proofs.Numbers.{halves_kept, halves_there, small_kept}
use Rattle.subband_plan.proofs.Ways.{Way, sample, sample_more, two_samples, upper_more, lower_more, both_halves, way_of, same_sum, same_channel, apart}

-- the sum over node k
abbrev value : Filterbank → List ℕ → List Node → ℕ → ℕ → ℕ → ℕ → ℕ
value f edges nodes k d u late = node_sum f edges (node_at nodes k).lo (node_at nodes k).hi d u late

-- y has the sums over the nodes at the rows that are kept
abbrev HasSums : Filterbank → List ℕ → List Node → List ℕ → Sums → Type 0
HasSums f edges nodes starts y = (k d u late : ℕ) → k < length nodes → HasKept (node_at nodes k) d →
    y (row_at nodes starts k d) u late ≡ value f edges nodes k d u late

-- the laws of sums that are needed
pub record GrowLaws : Type 0 where
  pub halves : HalvesAdd
  pub adds : OneChannelAdds
  pub fit : SplitsFit

-- sums of two rows
summed : (y : Sums) (m : Merge) (upper lower u late more whole a b : ℕ) → Sum m ≡ sum_of upper lower more →
    whole ≡ a + b → y upper u (late + more) ≡ a → y lower u late ≡ b →
    whole ≡ y m.upper u (late + m.late) + y m.lower u late
summed y m upper lower u late more whole a b is adds first second =
    rw (same_sum m upper lower more is, first, second) adds

-- the sums over two channels, node k
two_channels : GrowLaws → (f : Filterbank) (edges : List ℕ) (nodes : List Node) (k u : ℕ) → AreLaid edges nodes →
    k < length nodes → (node_at nodes k).hi ≡ (node_at nodes k).lo + 2 →
    ArePairs (λ d late. value f edges nodes k d u late) (λ d late. value f edges nodes (k + 1) d u late)
    (λ d late. value f edges nodes (lower_number (node_at nodes k) k) d u late) (split_of edges (node_at nodes k))
two_channels laws f edges nodes k u laid node two =
    let lays = laid.each k node in
    pair_sums laws.halves laws.adds laws.fit f edges (node_at nodes k) (node_at nodes (k + 1))
    (node_at nodes (lower_number (node_at nodes k) k)) u laid.band lays.branch two (lays.upper (omega arith))
    (lays.lower (omega arith))

way_adds : GrowLaws → (f : Filterbank) (edges : List ℕ) (nodes : List Node) (starts : List ℕ) (y : Sums) →
    AreLaid edges nodes → AreNumbered edges nodes starts → HasSums f edges nodes starts y → (k d u late : ℕ) →
    k < length nodes → HasKept (node_at nodes k) d → (m : Merge) → Way edges nodes starts k d (Sum m) →
    value f edges nodes k d u late ≡ y m.upper u (late + m.late) + y m.lower u late
way_adds laws f edges nodes starts y laid numbered sums k d u late node has m (sample one none is) =
    absurd (apart (node_at nodes k).lo m (sym is))
way_adds laws f edges nodes starts y laid numbered sums k d u late node has m (sample_more e one next is) =
    let n = node_at nodes k in
    let within = (laid.each k node).branch.within in
    let grows = channel_grows laws.adds f edges n.lo n.hi u laid.band one (omega arith) e late in
    summed y m _ _ u late d _ _ _ is (rw next grows)
    (sums k 0 u (late + d) node (small_kept n d 0 (omega arith) (omega arith) has))
    (sums k e u late node (small_kept n d e (omega arith) (omega arith) has))
way_adds laws f edges nodes starts y laid numbered sums k d u late node has m (two_samples two none is) =
    let pairs = two_channels laws f edges nodes k u laid node two in
    let there = halves_there edges nodes k laid node (omega arith) in
    let kept = halves_kept edges nodes k laid node two in
    summed y m _ _ u late 0 _ _ _ is (rw none (pair_first _ _ _ _ pairs late))
    (sums (k + 1) 0 u (late + 0) there.0 kept.0) (sums (lower_number (node_at nodes k) k) 0 u late there.1 kept.1)
way_adds laws f edges nodes starts y laid numbered sums k d u late node has m (upper_more e two next grows is) =
    let n = node_at nodes k in
    let pairs = two_channels laws f edges nodes k u laid node two in
    let there = halves_there edges nodes k laid node (omega arith) in
    let kept = halves_kept edges nodes k laid node two in
    summed y m _ _ u late d _ _ _ is (rw next (pair_grows _ _ _ _ pairs e late (rw next at grows)))
    (sums (k + 1) 0 u (late + d) there.0 kept.0)
    (sums k e u late node (small_kept n d e (omega arith) (omega arith) has))
way_adds laws f edges nodes starts y laid numbered sums k d u late node has m (lower_more e two next stays is) =
    let n = node_at nodes k in
    let pairs = two_channels laws f edges nodes k u laid node two in
    let there = halves_there edges nodes k laid node (omega arith) in
    let kept = halves_kept edges nodes k laid node two in
    summed y m _ _ u late 1 _ _ _ is (rw next (pair_stays _ _ _ _ pairs e late (rw next at stays)))
    (sums k e u (late + 1) node (small_kept n d e (omega arith) (omega arith) has))
    (sums (lower_number n k) 0 u late there.1 kept.1)
way_adds laws f edges nodes starts y laid numbered sums k d u late node has m (both_halves more is) =
    let n = node_at nodes k in
    let s : ℕ = split_of edges n d in
    let lays = laid.each k node in
    let there = halves_there edges nodes k laid node (omega arith) in
    let whole = halves_sum laws.halves f edges n d u late laid.band lays.branch (omega arith) in
    summed y m _ _ u late (d - s) _ _ _ is
    (rw (lays.upper (omega arith), lays.lower (omega arith)) whole)
    (sums (k + 1) s u (late + (d - s)) there.0 (numbered.upper k d node more has))
    (sums (lower_number n k) (d - s) u late there.1 (numbered.lower k d node more has))

-- the row of delay d of node k
row_value : (p : BandPlan) (rows : PlanRows) (f : Filterbank) → ArePlanRows p rows →
    HasSums f p.edges (nodes_of p) rows.starts.items (row_sum p rows f)
unfolding row_sum
row_value p rows f are k d u late node has =
    let row = are.row k d node has in
    rw (row.node, row.delay) refl

-- a row by its number
own_value : (p : BandPlan) (rows : PlanRows) (f : Filterbank) (r u late : ℕ) →
    row_sum p rows f r u late ≡ value f p.edges (nodes_of p) (node_of rows r) (delay_of rows r) u late
unfolding row_sum
own_value p rows f r u late = refl

pub row_way : SplitsStep → (p : BandPlan) (rows : PlanRows) → AreLaid p.edges (nodes_of p) → ArePlanRows p rows →
    (r : ℕ) (s : Source) → slice_get rows.rows.sources.items r ≡ Some s →
    (r < all_rows rows) × Way p.edges (nodes_of p) rows.starts.items (node_of rows r) (delay_of rows r) s
row_way steps p rows laid are r s is =
    let there = slice_get_within rows.rows.sources.items r s is in
    let source : source_at rows.rows.sources.items r ≡ s = get_or_from_slice_get rows.rows.sources.items r s _ is in (
      there,
      way_of steps p.edges (nodes_of p) rows.starts.items (node_of rows r) (delay_of rows r) s laid
          (are.label r there).node (rw source at (are.made r there)),
    )

way_samples : OneChannelIsItsSample → (f : Filterbank) (edges : List ℕ) (nodes : List Node) (starts : List ℕ) →
    AreLaid edges nodes → (k d u : ℕ) → k < length nodes → (c : ℕ) → Way edges nodes starts k d (Channel c) →
    value f edges nodes k d u 0 ≡ f.value c u
way_samples is_sample f edges nodes starts laid k d u node c (sample one none is) =
    let n = node_at nodes k in
    let within = (laid.each k node).branch.within in
    let same : u - 0 ≡ u = omega arith in
    let here = is_sample f edges (channels_of edges) n.lo u 0 laid.band (omega arith) (omega arith) in
    rw (none, one) (here ∙ ap (λ t. f.value n.lo t) same ∙ ap (λ c. f.value c u) (sym (same_channel c n.lo is)))
way_samples is_sample f edges nodes starts laid k d u node c (sample_more e one next is) = absurd (apart c _ is)
way_samples is_sample f edges nodes starts laid k d u node c (two_samples two none is) = absurd (apart c _ is)
way_samples is_sample f edges nodes starts laid k d u node c (upper_more e two next grows is) = absurd (apart c _ is)
way_samples is_sample f edges nodes starts laid k d u node c (lower_more e two next stays is) = absurd (apart c _ is)
way_samples is_sample f edges nodes starts laid k d u node c (both_halves more is) = absurd (apart c _ is)

pub add_up : GrowLaws → OneChannelIsItsSample → TimeShifts → SplitsStep → (p : BandPlan) (rows : PlanRows)
    (f : Filterbank) → AreLaid p.edges (nodes_of p) → AreNumbered p.edges (nodes_of p) rows.starts.items →
    ArePlanRows p rows → AddUp rows.rows.sources.items f.value (row_sum p rows f)
add_up laws is_sample shifts steps p rows f laid numbered are =
    let nodes = nodes_of p in
    let starts = rows.starts.items in
    record {
      samples = λ r c u is.
          let way = row_way steps p rows laid are r (Channel c) is in
          own_value p rows f r u 0
          ∙ way_samples is_sample f p.edges nodes starts laid (node_of rows r) (delay_of rows r) u
          (are.label r way.0).node c way.1;
      sums = λ r u late m is.
          let way = row_way steps p rows laid are r (Sum m) is in
          let label = are.label r way.0 in
          own_value p rows f r u late
          ∙ way_adds laws f p.edges nodes starts (row_sum p rows f) laid numbered (row_value p rows f are)
          (node_of rows r) (delay_of rows r) u late label.node label.kept m way.1;
      shifts = λ r u late q.
          own_value p rows f r (u + q) (late + q)
          ∙ shifts f p.edges (node_at nodes (node_of rows r)).lo (node_at nodes (node_of rows r)).hi (delay_of rows r)
          u late q
          ∙ sym (own_value p rows f r u late);
    }

-- the node of a row, and node 0 where there is no row
node_there : (p : BandPlan) (rows : PlanRows) → AreLaid p.edges (nodes_of p) → ArePlanRows p rows → (r : ℕ) →
    node_of rows r < length (nodes_of p)
node_there p rows laid are r = elim (cases_lt r (all_rows rows)) [
  | inl within ↦ (are.label r within).node
  | inr past ↦
      let entries = are.nodes_entries in
      let none = get_or_past rows.nodes.items r 0 (omega arith) in
      let count = laid.count in
      let few = laid.band.few in
      omega arith
]

pub bounded : SumLaws → (p : BandPlan) (rows : PlanRows) (f : Filterbank) (e m : ℕ) → AreLaid p.edges (nodes_of p) →
    ArePlanRows p rows → f.channels ≡ channels_of p.edges → AreAtMost f e m → (r u late : ℕ) → u < e + late →
    row_sum p rows f r u late ≤ m * cells_of p rows r
bounded laws p rows f e m laid are channels small r u late early =
    let n = node_at (nodes_of p) (node_of rows r) in
    let branch = (laid.each (node_of rows r) (node_there p rows laid are r)).branch in
    let within = branch.within in
    rw (own_value p rows f r u late) (sums_bounded laws f p.edges (channels_of p.edges) e m n.lo n.hi (delay_of rows r)
    u late laid.band branch.some (omega arith) (λ c t lt before. small c t (omega arith) before) early)

pub begins_empty : NothingBefore → (p : BandPlan) (rows : PlanRows) (f : Filterbank) → AreLaid p.edges (nodes_of p) →
    ArePlanRows p rows → (r u late : ℕ) → u < late → row_sum p rows f r u late ≡ 0
begins_empty nothing p rows f laid are r u late before =
    let n = node_at (nodes_of p) (node_of rows r) in
    let within = (laid.each (node_of rows r) (node_there p rows laid are r)).branch.within in
    own_value p rows f r u late
    ∙ nothing f p.edges (channels_of p.edges) n.lo n.hi (delay_of rows r) u late laid.band (omega arith) before

pub band_rows : WholeBandIsPathSum → LatePathSums → (p : BandPlan) (rows : PlanRows) (f : Filterbank) (d u : ℕ) →
    AreLaid p.edges (nodes_of p) → AreNumbered p.edges (nodes_of p) rows.starts.items →
    node_at (nodes_of p) 0 ≡ root p → ArePlanRows p rows → f.channels ≡ channels_of p.edges → HasRow (root p) d →
    row_sum p rows f (row_at (nodes_of p) rows.starts.items 0 d) u 0 ≡ path_sum f p.edges u d
band_rows whole late p rows f d u laid numbered head are channels has =
    let count = laid.count in
    let few = laid.band.few in
    let band : AreEdges f.channels p.edges = rw channels laid.band in
    let has_root : HasRow (node_at (nodes_of p) 0) d = rw head has in
    let same : u - 0 ≡ u = omega arith in
    row_value p rows f are 0 d u 0 (omega arith) (numbered.kept 0 d has_root)
    ∙ ap (λ (n : Node). node_sum f p.edges n.lo n.hi d u 0) head
    ∙ ap (λ hi. node_sum f p.edges 0 hi d u 0) (sym channels)
    ∙ whole f p.edges d u 0 band
    ∙ late.within f p.edges d u 0 (omega arith)
    ∙ ap (λ t. path_sum f p.edges t d) same
