use Rattle.std.proofs.Common.{◌≡◌, ℕ, ◌+◌, ◌-◌, ◌%◌, ◌^◌, ◌<◌, cond, ltb, length, get_or, replicate, ap, sym, ◌∙◌, arith, w16}
use Rattle.std.proofs.lemmas.Simd.{below_from_Fits, Each1-get_or, length-replicate, get_or-replicate, length-zip2, get_or-zip2}
use Rattle.fdmt_rows.proofs.Above.{above_is, chosen, chosen_length, chosen_at}
use Rattle.fdmt_rows.proofs.excess.lanes_above.Goals as goal

pub returns-clause-long : goal.returns-clause-long
returns-clause-long c =
    let a = c.args.lanes in
    let bases = replicate {A = ℕ} 16 c.args.base in
    let la : length a ≡ 16 = c.requires in
    let lb = length-replicate {A = ℕ} 16 c.args.base in
    let raised = chosen w16 a bases bases a in
    let lr = chosen_length w16 a bases bases a 16 la lb lb la in
    length-zip2 (λ x y. (x + (2 ^ 16 - y)) % 2 ^ 16) raised bases (lr ∙ sym lb) ∙ lr

pub returns-clause-above : goal.returns-clause-above
returns-clause-above c = λ k small.
    let base : ℕ = c.args.base in
    let a = c.args.lanes in
    let bases = replicate {A = ℕ} 16 base in
    let la : length a ≡ 16 = c.requires in
    let lb = length-replicate {A = ℕ} 16 base in
    let raised = chosen w16 a bases bases a in
    let lr = chosen_length w16 a bases bases a 16 la lb lb la in
    let f : ℕ → ℕ → ℕ = λ x y. (x + (2 ^ 16 - y)) % 2 ^ 16 in
    let base_at : get_or bases k 0 ≡ base = get_or-replicate {A = ℕ} 16 k base 0 small in
    let small_lane : get_or a k 0 < 2 ^ 16 =
    Each1-get_or (λ (x : ℕ). x < 2 ^ 16) a k 0 (omega arith) (below_from_Fits w16 a c.fits-lanes.1) in
    get_or-zip2 f raised bases k 0 0 0 (omega (arith, lr, small)) (omega (arith, lb, small))
    ∙ ap (λ b. f (get_or raised k 0) b) base_at
    ∙ above_is (get_or a k 0) base (get_or raised k 0) small_lane (omega arith)
    (chosen_at w16 a bases bases a 16 la lb lb la k small
    ∙ ap (λ b. cond (ltb (get_or a k 0) b) b (get_or a k 0)) base_at)
