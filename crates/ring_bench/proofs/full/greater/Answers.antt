use Rattle.std.proofs.Common.{ltb, length, get_or, sym, ap, ◌∙◌, w8}
use lib.Lanes.{sel_l}
use Rattle.std.proofs.lemmas.Simd.{tops_compared}
use Rattle.ring_bench.proofs.Lanes.{chosen, chosen_long, both_zero}
use Rattle.ring_bench.proofs.full.greater.Goals as goal

pub returns-clause-long : goal.returns-clause-long
returns-clause-long c =
    let a = c.args.a in
    let b = c.args.b in
    ap (λ ms. length (sel_l ms b a)) (tops_compared w8 ltb a b)
    ∙ chosen_long ltb a b b a c.requires.first c.requires.second c.requires.second c.requires.first

pub returns-clause-first : goal.returns-clause-first
returns-clause-first c = λ zero k lane.
    let a = c.args.a in
    let b = c.args.b in
    (both_zero (get_or a k 0) (get_or b k 0)
    (sym (chosen ltb a b b a k c.requires.first c.requires.second c.requires.second c.requires.first lane)
    ∙ sym (ap (λ ms. get_or (sel_l ms b a) k 0) (tops_compared w8 ltb a b)) ∙ zero k lane)).0

pub returns-clause-second : goal.returns-clause-second
returns-clause-second c = λ zero k lane.
    let a = c.args.a in
    let b = c.args.b in
    (both_zero (get_or a k 0) (get_or b k 0)
    (sym (chosen ltb a b b a k c.requires.first c.requires.second c.requires.second c.requires.first lane)
    ∙ sym (ap (λ ms. get_or (sel_l ms b a) k 0) (tops_compared w8 ltb a b)) ∙ zero k lane)).1
