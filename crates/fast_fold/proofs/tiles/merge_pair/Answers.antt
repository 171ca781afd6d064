use Rattle.std.proofs.Common.{◌≡◌, ℕ, ◌+◌, ◌-◌, ◌∙◌, ap, arith, length, slice_index}
use Rattle.std.proofs.lemmas.List.{get_or_append_left, get_or-append_right}
use Rattle.fdmt_rows.specs.Capped.{capped_sum}
use Rattle.fast_fold.proofs.Raising.{turned_at}
use Rattle.fast_fold.proofs.tiles.merge_pair.Goals as goal

pub returns-clause-even : goal.returns-clause-even
returns-clause-even c = λ x lt.
    let even = c.add_capped_rows.new.out in
    let first = c.args.first.now in
    let second = c.args.second.now in
    let long : length even ≡ length first = c.add_capped_rows.auto.out ∙ c.split_at_mut-even.ensures.front_len in
    get_or_append_left even c.add_capped_rows-2.new.out 0 x (omega arith)
    ∙ c.add_capped_rows.ensures.written x (omega arith) lt
    ∙ ap (λ y. capped_sum (slice_index first x) y) (turned_at second c.args.turn x (omega arith))

pub returns-clause-odd : goal.returns-clause-odd
returns-clause-odd c = λ x lt.
    let even = c.add_capped_rows.new.out in
    let odd = c.add_capped_rows-2.new.out in
    let first = c.args.first.now in
    let second = c.args.second.now in
    let n : ℕ = length first in
    let long : length even ≡ n = c.add_capped_rows.auto.out ∙ c.split_at_mut-even.ensures.front_len in
    get_or-append_right even odd n (n + x) 0 long (omega arith)
    ∙ ap (λ k. slice_index odd k) (let back : n + x - n ≡ x = omega arith in back)
    ∙ c.add_capped_rows-2.ensures.written x (omega arith) lt
    ∙ ap (λ y. capped_sum (slice_index first x) y) (turned_at second (c.args.turn + 1) x (omega arith))
