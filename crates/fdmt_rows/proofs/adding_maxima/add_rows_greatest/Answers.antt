use Rattle.std.proofs.Common.{rules, ℕ, ◌≡◌, List, length, max, ◌∙◌, ap, sym, subst, arith}
use Rattle.fdmt_rows.specs.Rows.{IsGreatest, sums_of}
use Rattle.fdmt_rows.proofs.GreatestValues.{one_more, at_is_in, greater_is_in, is_greatest}
use Rattle.fdmt_rows.proofs.AddedMaxima.{sum_at, all_written}
use Rattle.fdmt_rows.proofs.adding_maxima.add_rows_greatest.Goals as goal

pub loop-k-preserved : goal.loop-k-preserved
loop-k-preserved c =
    let s = sums_of c.args.a.now c.args.b.now in
    let greater = c.max-most.ensures
    ∙ ap (λ y. max c.loop-k.most y) (sym (sum_at c.args.a.now c.args.b.now c.loop-k.k (omega arith) (omega arith))) in
    record {
      written = search rules;
      bound = one_more s c.loop-k.k c.loop-k.most _ greater c.loop-k.invariant.bound;
      found = greater_is_in s c.loop-k.most _ _ greater c.loop-k.invariant.found (at_is_in s c.loop-k.k);
    }

pub returns-clause-greatest : goal.returns-clause-greatest
returns-clause-greatest c =
    let is : sums_of c.args.a.now c.args.b.now ≡ c.loop-k.out =
    all_written c.args.out.now c.loop-k.out c.args.a.now c.args.b.now c.loop-k.k (omega arith) (omega arith)
    (omega arith) c.loop-k.invariant.written in
    let long : length (sums_of c.args.a.now c.args.b.now) ≡ length c.loop-k.out = ap length is in
    subst (λ (row : List ℕ). IsGreatest row c.loop-k.most) is
    (is_greatest (sums_of c.args.a.now c.args.b.now) c.loop-k.most (λ k lt. c.loop-k.invariant.bound k (omega arith))
    c.loop-k.invariant.found)
