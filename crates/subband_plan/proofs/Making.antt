-- The lists of a plan's rows, one row after another.
use Rattle.std.proofs.Common.{◌≡◌, ℕ, ◌+◌, ◌-◌, ◌^◌, ◌≤◌, ◌<◌, List, [], ◌∷◌, ◌++◌, length, slice_index, arith, refl, sym, ap, subst, ◌∙◌, inl, inr, length-append}
use Rattle.std.proofs.Math.ListN.{get_or-append}
use Rattle.std.proofs.Math.Seq.{get_or-append_seam}
use Rattle.std.proofs.lemmas.Bool.{cases_lt}
use Rattle.std.proofs.lemmas.Option.{get_or_from_slice_get, slice_get_within}
use Rattle.band_paths.specs.Edges.{channels_of}
use Rattle.row_model.specs.declared.Source.{Source}
use Rattle.row_model.specs.declared.Source.TheVariants.{Channel}
use Rattle.row_model.specs.Tails.{AreRows}
use Rattle.subband_plan.specs.declared.nodes.Node.{Node}
use Rattle.subband_plan.specs.declared.rows.PlanRows.{PlanRows}
use Rattle.subband_plan.specs.Nodes.{BandPlan, HasKept, least_row, nodes_of, node_at}
use Rattle.subband_plan.specs.NodeLaws.{AreLaid}
use Rattle.subband_plan.specs.Rows.{ArePlanRows, AreStarts, AreTails, IsLabelled, IsMade, IsRow, all_rows, row_at, source_at}
use Rattle.subband_plan.specs.RowLaws.{AreNumbered}
use Rattle.subband_plan.specs.Making.{AreLabels, AreLabelled, AreSources, AreWithin, IsWithin}
use Rattle.subband_plan.proofs.Numbers.{one_row, rows_fit}

-- what was there, and what was appended
old_number : (xs : List ℕ) (x r : ℕ) → r < length xs → slice_index (xs ++ x ∷ []) r ≡ slice_index xs r
old_number xs x r h = get_or-append xs (x ∷ []) 0 r h

new_number : (xs : List ℕ) (x r : ℕ) → r ≡ length xs → slice_index (xs ++ x ∷ []) r ≡ x
new_number xs x r e = ap (λ i. slice_index (xs ++ x ∷ []) i) e ∙ get_or-append_seam xs x [] 0

old_source : (sources : List Source) (s : Source) (r : ℕ) → r < length sources →
    source_at (sources ++ s ∷ []) r ≡ source_at sources r
old_source sources s r h = get_or-append sources (s ∷ []) _ r h

new_source : (sources : List Source) (s : Source) (r : ℕ) → r ≡ length sources →
    source_at (sources ++ s ∷ []) r ≡ s
new_source sources s r e = ap (λ i. source_at (sources ++ s ∷ []) i) e ∙ get_or-append_seam sources s [] _

-- the delay of a row, by how many rows of its node are before it
pub row_labelled : (nodes : List Node) (starts labels : List ℕ) (count r : ℕ) → AreStarts nodes starts →
    AreLabels nodes starts count labels → r < count → (d : ℕ) →
    d ≡ least_row (node_at nodes (slice_index labels r)) + (r - slice_index starts (slice_index labels r)) →
    IsLabelled nodes starts r (slice_index labels r) d
row_labelled nodes starts labels count r are labelled h d is =
    let k : ℕ = slice_index labels r in
    let node = labelled.node r h in
    let from = labelled.from r h in
    let to = labelled.to r h in
    let next = are.next k node in
    record {
      node = node;
      kept = record { least = omega arith; most = omega arith };
      number = omega arith;
    }

pub labelled_more : (nodes : List Node) (starts labels delays : List ℕ) (r d : ℕ) → length delays ≡ r →
    AreLabelled nodes starts labels delays → IsLabelled nodes starts r (slice_index labels r) d →
    (length (delays ++ d ∷ []) ≡ r + 1) × AreLabelled nodes starts labels (delays ++ d ∷ [])
labelled_more nodes starts labels delays r d long are is =
    let more = length-append delays (d ∷ []) in
    let each : AreLabelled nodes starts labels (delays ++ d ∷ []) = λ i h.
    elim (cases_lt i (length delays)) [
      | inl old ↦ rw (old_number delays d i old) (are i old)
      | inr late ↦
          let last : i ≡ r = omega arith in
          rw (new_number delays d i (omega arith), last) is
    ] in
    (omega arith, each)

pub sources_more : (edges : List ℕ) (nodes : List Node) (starts labels delays : List ℕ) (sources : List Source)
    (r : ℕ) (s : Source) → length sources ≡ r → AreSources edges nodes starts labels delays sources →
    IsMade edges nodes starts (slice_index labels r) (slice_index delays r) s →
    IsWithin (channels_of edges) (slice_index starts (length nodes)) s →
    AreSources edges nodes starts labels delays (sources ++ s ∷ [])
sources_more edges nodes starts labels delays sources r s long are made within =
    let more = length-append sources (s ∷ []) in
    record {
      made = λ i h. elim (cases_lt i (length sources)) [
        | inl old ↦ rw (old_source sources s i old) (are.made i old)
        | inr late ↦
            let last : i ≡ r = omega arith in
            rw (new_source sources s i (omega arith), last) made
      ];
      within = λ i h. elim (cases_lt i (length sources)) [
        | inl old ↦ rw (old_source sources s i old) (are.within i old)
        | inr late ↦ rw (new_source sources s i (omega arith)) within
      ];
    }

-- the label of the row of a kept delay
row_known : (edges : List ℕ) (nodes : List Node) (rows : PlanRows) → AreNumbered edges nodes rows.starts.items →
    all_rows rows ≡ slice_index rows.starts.items (length nodes) →
    ((r : ℕ) → r < all_rows rows → IsLabelled nodes rows.starts.items r (slice_index rows.nodes.items r)
    (slice_index rows.delays.items r)) →
    (k d : ℕ) → k < length nodes → HasKept (node_at nodes k) d → IsRow rows k d (row_at nodes rows.starts.items k d)
row_known edges nodes rows are count labelled k d node has =
    let r : ℕ = row_at nodes rows.starts.items k d in
    let above = are.above k d node has in
    let rise = are.rise (k + 1) (length nodes) (omega arith) (omega arith) in
    let there : r < all_rows rows = omega arith in
    let label = labelled r there in
    let same = one_row edges nodes rows.starts.items are (slice_index rows.nodes.items r)
    (slice_index rows.delays.items r) k d label.node node label.kept has label.number in
    record { there = there; node = same.0; delay = same.1 }

-- what is kept of rows is short
short_tails : (channels rows : ℕ) (sources : List Source) (tails : List ℕ) → AreWithin channels rows sources →
    AreTails sources (length sources) tails → (r : ℕ) → slice_index tails r ≤ 8192
short_tails channels rows sources tails within are r = are.least r 8192 refl (λ q m h is _. (within q h).late m is)

sources_are_rows : (channels : ℕ) (rows : PlanRows) → all_rows rows ≤ 2 ^ 26 →
    AreWithin channels (all_rows rows) rows.rows.sources.items →
    AreTails rows.rows.sources.items (all_rows rows) rows.rows.tails.items → AreRows channels rows.rows
sources_are_rows channels rows few within tails =
    let sources = rows.rows.sources.items in
    let entries = tails.entries in
    record {
      few = omega arith;
      tails_entries = entries;
      channel = λ r c is.
          (within r (slice_get_within sources r _ is)).channel c (get_or_from_slice_get sources r _ _ is);
      merge = λ r m is.
          let there = slice_get_within sources r _ is in
          let source = get_or_from_slice_get sources r _ (Channel 0) is in
          record {
            upper = (within r there).upper m source;
            lower = (within r there).lower m source;
            enough = tails.enough r m there source;
          };
      whole = tails.whole;
      short = λ r. let short = short_tails channels _ sources rows.rows.tails.items within tails r in omega arith;
    }

-- all lists together
lists_are_rows : (p : BandPlan) (rows : PlanRows) → AreLaid p.edges (nodes_of p) →
    AreNumbered p.edges (nodes_of p) rows.starts.items → AreStarts (nodes_of p) rows.starts.items →
    AreLabels (nodes_of p) rows.starts.items (slice_index rows.starts.items (length (nodes_of p))) rows.nodes.items →
    length rows.delays.items ≡ length rows.nodes.items →
    AreLabelled (nodes_of p) rows.starts.items rows.nodes.items rows.delays.items →
    all_rows rows ≡ length rows.nodes.items →
    AreSources p.edges (nodes_of p) rows.starts.items rows.nodes.items rows.delays.items rows.rows.sources.items →
    AreTails rows.rows.sources.items (all_rows rows) rows.rows.tails.items → ArePlanRows p rows
lists_are_rows p rows laid numbered starts labels delays_long labelled long sources tails =
    let nodes = nodes_of p in
    let entries = labels.entries in
    let fit = rows_fit p.edges nodes rows.starts.items laid numbered in
    let count : all_rows rows ≡ slice_index rows.starts.items (length nodes) = omega arith in
    let label : (r : ℕ) → r < all_rows rows → IsLabelled nodes rows.starts.items r (slice_index rows.nodes.items r)
    (slice_index rows.delays.items r) = λ r h. labelled r (omega arith) in
    let within : AreWithin (channels_of p.edges) (all_rows rows) rows.rows.sources.items =
    subst (λ n. AreWithin (channels_of p.edges) n rows.rows.sources.items) (sym count) sources.within in
    record {
      starts = starts;
      count = count;
      few = omega arith;
      nodes_entries = sym long;
      delays_entries = delays_long ∙ sym long;
      row = row_known p.edges nodes rows numbered count label;
      label = label;
      made = sources.made;
      tails = tails;
      short = short_tails (channels_of p.edges) _ rows.rows.sources.items rows.rows.tails.items sources.within tails;
      are_rows = sources_are_rows (channels_of p.edges) rows (omega arith) within tails;
    }

-- how many sources there are, and that they are within their number
pub sources_known : (edges : List ℕ) (nodes : List Node) (starts labels delays : List ℕ) (sources : List Source) →
    AreLabels nodes starts (slice_index starts (length nodes)) labels → length sources ≡ length labels →
    AreSources edges nodes starts labels delays sources →
    (length sources ≡ slice_index starts (length nodes)) × AreWithin (channels_of edges) (length sources) sources
sources_known edges nodes starts labels delays sources are long sources_are =
    let entries = are.entries in
    let count : length sources ≡ slice_index starts (length nodes) = omega arith in
    (count, subst (λ n. AreWithin (channels_of edges) n sources) (sym count) sources_are.within)

pub plan_rows : (p : BandPlan) (rows : PlanRows) (edges : List ℕ) (nodes : List Node) → edges ≡ p.edges →
    nodes ≡ nodes_of p → AreLaid edges nodes → AreNumbered edges nodes rows.starts.items →
    AreStarts nodes rows.starts.items →
    AreLabels nodes rows.starts.items (slice_index rows.starts.items (length nodes)) rows.nodes.items →
    length rows.delays.items ≡ length rows.nodes.items →
    AreLabelled nodes rows.starts.items rows.nodes.items rows.delays.items →
    all_rows rows ≡ length rows.nodes.items →
    AreSources edges nodes rows.starts.items rows.nodes.items rows.delays.items rows.rows.sources.items →
    AreTails rows.rows.sources.items (all_rows rows) rows.rows.tails.items → ArePlanRows p rows
plan_rows p rows edges nodes edges_is nodes_is laid numbered starts labels delays_long labelled long sources tails =
    lists_are_rows p rows (rw (edges_is, nodes_is) at laid) (rw (edges_is, nodes_is) at numbered)
    (rw nodes_is at starts) (rw nodes_is at labels) delays_long (rw nodes_is at labelled) long
    (rw (edges_is, nodes_is) at sources) tails
