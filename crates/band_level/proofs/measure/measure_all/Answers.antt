use Rattle.std.proofs.Common.{◌≡◌, ℕ, ◌<◌, slice_index, replicate, ◌∙◌, ap, arith, rules}
use Rattle.std.proofs.lemmas.List.{get_or-replicate}
use Rattle.band_level.specs.Values.{cells}
use Rattle.band_level.specs.Holding.{held_value}
use Rattle.band_level.proofs.Columns.{all_moments, all_small}
use Rattle.band_level.proofs.Written.{written}
use Rattle.band_level.proofs.measure.measure_all.Goals as goal

pub returns : goal.returns
returns c =
    let filled : c.fill.new.self ≡ replicate (cells c.args.format) c.args.count = search rules in
    let counted : (i : ℕ) → i < cells c.args.format → slice_index c.fill.new.self i ≡ c.args.count =
    λ i lt. ap (λ xs. slice_index xs i) filled ∙ get_or-replicate (cells c.args.format) i c.args.count 0 lt in
    let counts = written c.fill.new.self c.args.sums.now.counts.items c.args.sums.now.counts.len
    (c.fill.ensures.len ∙ c.as_mut_slice-counts.ensures.len) in
    let totals = written c.add_up.new.totals c.args.sums.now.totals.items c.args.sums.now.totals.len
    (c.add_up.auto.totals ∙ c.as_mut_slice-totals.ensures.len) in
    let squares = written c.add_up.new.squares c.args.sums.now.squares.items c.args.sums.now.squares.len
    (c.add_up.auto.squares ∙ c.as_mut_slice-squares.ensures.len) in
    record {
      long = search rules;
      moments = rw (counts, totals, squares)
          (all_moments (held_value c.args.format c.args.held.now) (cells c.args.format) c.args.count _ _ _ counted
          c.add_up.ensures.sums);
      small = rw (counts, totals, squares)
          (all_small (cells c.args.format) c.args.count c.fill.new.self c.add_up.new.totals c.add_up.new.squares
          c.requires.most (omega arith) (omega arith) (omega arith) counted c.add_up.ensures.small);
      values = c.add_up.ensures.values;
    }
