use Rattle.std.proofs.Common.{arith}
use Rattle.box_sums.proofs.Doubling.{first_level, first_bounds}
use Rattle.box_sums.proofs.sums.add_pairs.Goals as goal

pub returns-clause-made : goal.returns-clause-made
returns-clause-made c = λ stride.
    let a = c.args in
    let sums = first_level a.line.now c.add_neighbours.new.out stride a.total a.widest (omega arith) c.requires.inside
    c.requires.fits c.add_neighbours.ensures.sums in
    record {
      sums = sums;
      bounds = first_bounds c.add_neighbours.new.out a.line.now a.greatest.now stride a.total c.add_neighbours.result
          (omega arith) sums c.add_neighbours.ensures.bound;
    }
