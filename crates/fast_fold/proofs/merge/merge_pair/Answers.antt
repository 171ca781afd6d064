use Rattle.std.proofs.Common.{ℕ, ◌+◌, ◌-◌, ◌%◌, ◌≡◌, ◌∙◌, ◌++◌, ap, arith, length, slice_index}
use Rattle.std.proofs.lemmas.List.{get_or_append_left, get_or-append_right, get_or-drop}
use Rattle.fdmt_rows.specs.Rows.{wrapping_sum}
use Rattle.fast_fold.proofs.merge.merge_pair.Goals as goal

pub returns : goal.returns
returns c =
    let even = c.add_twice.new.even in
    let odd = c.add_twice.new.odd in
    let first = c.args.first.now in
    let second = c.args.second.now in
    let p : ℕ = length first in
    let m : ℕ = length c.split_at_mut-even.result.0.now in
    let turn : ℕ = c.args.turn in
    let is_period : m ≡ p = c.split_at_mut-even.ensures.front_len in
    let long : length even ≡ p = c.add_twice.auto.even ∙ is_period in
    record {
      even = λ q lt.
          get_or_append_left even odd 0 q (omega arith)
          ∙ c.add_twice.ensures.even q (omega arith)
          ∙ ap (λ m. wrapping_sum (slice_index first q) (slice_index second ((q + turn) % m))) is_period;
      odd = λ q lt.
          get_or-drop p (even ++ odd) q 0
          ∙ get_or-append_right even odd p (p + q) 0 long (omega arith)
          ∙ ap (λ k. slice_index odd k) (let back : p + q - p ≡ q = omega arith in back)
          ∙ c.add_twice.ensures.odd q (omega arith)
          ∙ ap (λ m. wrapping_sum (slice_index first q) (slice_index second ((q + (turn + 1)) % m))) is_period;
    }
