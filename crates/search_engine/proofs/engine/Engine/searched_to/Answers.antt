use Rattle.std.proofs.Common.{arith}
use Rattle.search_engine.proofs.Feeding.{few_spectra}
use Rattle.search_engine.proofs.engine.Engine.searched_to.Goals as goal

pub searched_to-requires : goal.searched_to-requires
searched_to-requires c =
    let w = c.self.invariant.0 in
    let few = few_spectra w.observation _ _ 0 w.holds (omega arith) in
    omega (arith, few)
