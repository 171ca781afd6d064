use Rattle.std.proofs.Common.{◌≡◌, ◌≢◌, ◌-◌, length, slice_set, arith, ◌∙◌, get_or-set_same, get_or-set_other, length-set}
use Rattle.band_paths.proofs.delays.lay_path.Goals as goal

pub returns : goal.returns
returns c =
    let n = length c.args.edges.now - 1 in
    let least = c.requires.edges.few in
    let begun = slice_set c.args.delays.now 0 0 in
    let count : length begun ≡ length c.args.delays.now = length-set c.args.delays.now 0 0 in
    let count_after = length-set begun n c.args.d in
    let not_last : 0 ≢ n = omega arith in
    record {
      entries = omega arith;
      first = c.halve.ensures.kept.below 0 (omega arith) ∙ get_or-set_other begun n 0 c.args.d 0 not_last
          ∙ get_or-set_same c.args.delays.now 0 0 0 (omega arith);
      last = c.halve.ensures.kept.above n (omega arith) ∙ get_or-set_same begun n c.args.d 0 (omega arith);
      halves = c.halve.ensures.halved;
    }
