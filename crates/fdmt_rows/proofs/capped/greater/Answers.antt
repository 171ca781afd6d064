use Rattle.std.proofs.Common.{◌≡◌, false, refl, cond, ltb, length, get_or, ap, ◌∙◌, arith, w16}
use lib.Lanes.{zip2, sel_l}
use Rattle.std.proofs.lemmas.Simd.{tops_compared, length-zip2, length-sel_l, get_or-sel_l, get_or-zip2}
use Rattle.fdmt_rows.proofs.Raising.{raised_by_greater}
use Rattle.fdmt_rows.proofs.Steps.{greater_is_max}
use Rattle.fdmt_rows.proofs.capped.greater.Goals as goal

pub returns : goal.returns
returns c =
    let a = c.args.a in
    let b = c.args.b in
    let la : length a ≡ 16 = c.requires.first in
    let lb : length b ≡ 16 = c.requires.second in
    let long = length-zip2 ltb a b (omega arith) in
    let is = ap (λ ms. sel_l ms b a) (tops_compared w16 ltb a b) in
    raised_by_greater a b _ la lb
    (ap length is ∙ omega (arith, length-sel_l (zip2 ltb a b) b a (omega arith) (omega arith)))
    (λ j lt. ap (λ l. get_or l j 0) is
    ∙ get_or-sel_l (zip2 ltb a b) b a j 0 (omega arith) (omega arith) (omega arith)
    ∙ ap (λ t. cond t (get_or b j 0) (get_or a j 0)) (get_or-zip2 ltb a b j 0 0 false (omega arith) (omega arith))
    ∙ greater_is_max (get_or a j 0) (get_or b j 0) _ refl)
