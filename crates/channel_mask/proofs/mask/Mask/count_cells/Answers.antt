use Rattle.std.proofs.Common.{◌≡◌, ◌+◌, ℕ, Bool, List, length, sym, ap, subst, ◌∙◌, arith}
use Rattle.dada_model.specs.Edges.{AreEdges}
use Rattle.dada_model.specs.Observation.{edges as edges_of}
use Rattle.search_model.specs.Masks.{kept_cells}
use Rattle.search_engine.specs.Scope.{kept_by}
use Rattle.channel_mask.proofs.Counts.{delay_counted}
use Rattle.channel_mask.proofs.mask.Mask.count_cells.Goals as goal

pub returns-clause-cells : goal.returns-clause-cells
returns-clause-cells c = λ d below.
    let mask = c.as_slice-masked.result.now in
    let own = c.args.self.now in
    let o = c.args.obs.now in
    let edges = c.edges.result.now in
    let same : mask ≡ own = c.as_slice-masked.ensures.value ∙ c.self.view_is in
    let channels : length mask ≡ o.channels = ap (λ (m : List Bool). length m) same ∙ c.requires.channels in
    let band : AreEdges (length mask) edges = subst (λ (n : ℕ). AreEdges n edges) (sym channels) c.edges.ensures.falls in
    delay_counted edges mask band c.whole_band_is_path_sum.ensures c.path_sums_count_cells.ensures
    (c.args.max_delay + 1) c.in_ok-count_part.field-0.items c.in_ok-count_part.ensures d (omega arith)
    ∙ ap (λ (m : List Bool). kept_cells (kept_by m) edges (length mask) d) same
    ∙ ap (λ (es : List ℕ). kept_cells (kept_by own) es (length mask) d) c.edges.ensures.value
    ∙ ap (λ (n : ℕ). kept_cells (kept_by own) (edges_of o) n d) channels
