use Rattle.channel_mask.proofs.Kept.{kept_found, tells_cells}
use Rattle.channel_mask.proofs.engine.MaskEngine.of_engine.Goals as goal

pub invariant_of-result : goal.invariant_of-result
invariant_of-result c =
    let is = c.requires in
    tells_cells is.0 is.1 is.2 c.args.engine is.3

pub returns-clause-found : goal.returns-clause-found
returns-clause-found c = λ o s mask bytes searches part.
    kept_found c.candidates_are_listed.ensures c.one_shard_is_all.ensures c.cells_agree.ensures o s mask bytes
    c.args.engine searches part
