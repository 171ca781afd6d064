use Rattle.std.proofs.Common.{arith, sym}
use Rattle.std.proofs.lemmas.List.{length-take-le}
use Rattle.psr_make.proofs.blocks.append_header.Goals as goal

pub slice_bounds-header-end-2 : goal.slice_bounds-header-end-2
slice_bounds-header-end-2 g c = sym (length-take-le 4096 c.args.block.now (omega (arith, c.requires.block)))

pub write_header-requires : goal.write_header-requires
write_header-requires g c = length-take-le 4096 c.args.block.now (omega (arith, c.requires.block))
