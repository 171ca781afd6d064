use Rattle.std.proofs.Common.{◌≡◌, ◌+◌, ◌-◌, ◌∙◌, arith, ap, ap₂, length}
use Rattle.std.proofs.lemmas.Result.{IfOk-weaker}
use Rattle.dada_model.specs.Observation.{edges}
use Rattle.search_model.specs.Paths.{path}
use Rattle.psr_make.specs.Made.{made_observation, made_path}
use Rattle.psr_make.proofs.band.delays_of.Goals as goal

pub returns-clause-path : goal.returns-clause-path
unfolding made_path
returns-clause-path c =
    let s = c.args.spec.now in
    let made : c.as_slice.result.now ≡ edges (made_observation s) =
    c.as_slice.ensures.value ∙ c.in_ok-edges.ensures.edges in
    let count : length c.as_slice.result.now ≡ s.channels + 1 =
    ap length c.as_slice.ensures.value ∙ c.in_ok-edges.ensures.falls.count in
    let n : length c.as_slice.result.now - 1 ≡ s.channels = omega arith in
    IfOk-weaker c.edge_delays.result _ _ (λ delays is. is ∙ ap₂ (λ e m. path e m s.delay) made n)
    c.edge_delays.ensures.value
