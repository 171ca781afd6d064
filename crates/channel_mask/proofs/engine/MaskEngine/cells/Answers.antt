use Rattle.std.proofs.Common.{◌∙◌}
use Rattle.channel_mask.proofs.Kept.{cells_at, small_at}
use Rattle.channel_mask.proofs.engine.MaskEngine.cells.Goals as goal

pub cells-requires : goal.cells-requires
cells-requires c = small_at c.self.inside.engine c.args.self.now c.args.d c.self.view_is c.self.invariant c.requires

pub returns : goal.returns
returns c = λ o s mask searches.
    c.cells.ensures
    ∙ cells_at o s mask c.self.inside.engine c.args.self.now c.args.d c.self.view_is searches c.requires
