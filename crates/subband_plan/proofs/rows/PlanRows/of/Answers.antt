use Rattle.band_paths.specs.Edges.{channels_of}
use Rattle.subband_plan.specs.NodeLaws.{AreLaid}
use Rattle.subband_plan.proofs.Making.{plan_rows, sources_known}
use Rattle.subband_plan.proofs.rows.PlanRows.of.Goals as goal

pub keep_tails-requires : goal.keep_tails-requires
keep_tails-requires c =
    let edges = c.edges-edges.result.now in
    let labels = rw c.as_slice.ensures.value at c.in_ok-labels.ensures in
    let long = rw c.as_slice-5.ensures.value at c.in_ok-sources.ensures.entries in
    let made = rw (c.as_slice-4.ensures.value, c.as_slice-5.ensures.value) at c.in_ok-sources.ensures.made in
    let known = sources_known edges c.all_nodes-nodes.result.now c.in_ok-starts.starts.items
    c.in_ok-labels.labels.items _ c.in_ok-sources.sources.items labels long made in
    rw c.as_slice-7.ensures.value (record { within = (channels_of edges, known.1) })

pub returns : goal.returns
returns c =
    let edges = c.edges-edges.result.now in
    let nodes = c.all_nodes-nodes.result.now in
    let starts = c.in_ok-starts.starts.items in
    let laid : AreLaid edges nodes = rw c.edges-edges.ensures.value c.all_nodes-nodes.ensures.laid in
    plan_rows c.args.plan.now _ edges nodes c.edges-edges.ensures.value c.all_nodes-nodes.ensures.value
    laid (c.rows_are_numbered.ensures edges nodes starts laid c.in_ok-starts.ensures)
    c.in_ok-starts.ensures
    (rw c.as_slice.ensures.value at c.in_ok-labels.ensures)
    (rw c.as_slice-3.ensures.value at c.in_ok-delays.ensures.entries)
    (rw (c.as_slice-2.ensures.value, c.as_slice-3.ensures.value) at c.in_ok-delays.ensures.labelled)
    (rw c.as_slice-5.ensures.value at c.in_ok-sources.ensures.entries)
    (rw (c.as_slice-4.ensures.value, c.as_slice-5.ensures.value, c.as_slice-6.ensures.value)
    at c.in_ok-sources.ensures.made)
    (rw c.as_slice-7.ensures.value at c.in_ok-tails.ensures.tails)
