use Rattle.std.proofs.Common.{◌≡◌, ℕ, ◌+◌, ◌≤◌, inl, inr, subst, arith}
use Rattle.std.proofs.lemmas.Bool.{cases_lt}
use Rattle.band_level.specs.Holding.{held_value}
use Rattle.band_level.proofs.Values.{most_small}
use Rattle.band_level.proofs.Columns.{below_more, totals_more}
use Rattle.band_level.proofs.Puts.{has_fewer}
use Rattle.band_level.proofs.moments.add_up.Goals as goal

pub loop-t-preserved : goal.loop-t-preserved
loop-t-preserved c = record {
  sums = totals_more _ _ c.loop-t.t c.read.new.row _ _ _ _ c.loop-t.invariant.sums c.add_totals.ensures
      c.add_squares.ensures (omega arith) c.read.ensures.values;
  small = below_more c.loop-t.t c.read.new.row _ _ _ _ c.loop-t.invariant.small
      (λ i. omega (arith, c.read.ensures.small i, most_small c.args.format c.requires.format)) (omega arith) (omega arith)
      c.add_totals.ensures c.add_squares.ensures;
  values = λ t i before here. elim (cases_lt t c.loop-t.t) [
    | inl earlier ↦ c.loop-t.invariant.values t i earlier here
    | inr now ↦
        let e : c.loop-t.t ≡ t = omega arith in
        let P : ℕ → Type 0 = λ n. held_value c.args.format c.args.held.now n i ≤ 4194303 in
        let small = most_small c.args.format c.requires.format in
        subst P e (omega (arith, c.read.ensures.values i here, c.read.ensures.small i, small))
  ];
}

pub read-requires-clause-held : goal.read-requires-clause-held
read-requires-clause-held c =
    has_fewer c.args.format c.args.held.now (c.loop-t.t + 1) c.args.count (omega arith) c.requires.held
