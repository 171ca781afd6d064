use Rattle.std.proofs.Common.{◌≡◌, ℕ, ◌+◌, ◌-◌, ◌%◌, ◌^◌, cond, ltb, length, slice_index, get_or, replicate, sym, ap, ◌∙◌, arith, w32}
use Rattle.std.specs.Simd.Lanes.{zip2, chunk}
use Rattle.std.proofs.lemmas.Simd.{length-chunk, get_or-chunk, length-replicate, get_or-replicate, length-zip2, get_or-zip2}
use Rattle.fdmt_rows.specs.Capped.{capped}
use Rattle.fdmt_rows.proofs.Above.{chosen, chosen_length, chosen_at, excess_is}
use Rattle.fdmt_rows.proofs.excess.wide_excess_at.Goals as goal

pub returns-clause-long : goal.returns-clause-long
returns-clause-long c =
    let a = chunk c.args.at 16 c.args.values.now in
    let bases = replicate {A = ℕ} 16 c.args.base in
    let most = replicate {A = ℕ} 16 65535 in
    let la : length a ≡ 16 = length-chunk c.args.at 16 c.args.values.now (omega arith) in
    let lb = length-replicate {A = ℕ} 16 c.args.base in
    let lm = length-replicate {A = ℕ} 16 65535 in
    let raised = chosen w32 a bases bases a in
    let lr = chosen_length w32 a bases bases a 16 la lb lb la in
    let f : ℕ → ℕ → ℕ = λ x y. (x + (2 ^ 32 - y)) % 2 ^ 32 in
    let rest = zip2 f raised bases in
    let lu = length-zip2 f raised bases (lr ∙ sym lb) ∙ lr in
    chosen_length w32 rest most rest most 16 lu lm lu lm

pub returns-clause-excess : goal.returns-clause-excess
returns-clause-excess c = λ k small.
    let base : ℕ = c.args.base in
    let a = chunk c.args.at 16 c.args.values.now in
    let bases = replicate {A = ℕ} 16 base in
    let most = replicate {A = ℕ} 16 65535 in
    let la : length a ≡ 16 = length-chunk c.args.at 16 c.args.values.now (omega arith) in
    let lb = length-replicate {A = ℕ} 16 base in
    let lm = length-replicate {A = ℕ} 16 65535 in
    let raised = chosen w32 a bases bases a in
    let lr = chosen_length w32 a bases bases a 16 la lb lb la in
    let f : ℕ → ℕ → ℕ = λ x y. (x + (2 ^ 32 - y)) % 2 ^ 32 in
    let rest = zip2 f raised bases in
    let lu = length-zip2 f raised bases (lr ∙ sym lb) ∙ lr in
    let base_at : get_or bases k 0 ≡ base = get_or-replicate {A = ℕ} 16 k base 0 small in
    let value : get_or a k 0 ≡ slice_index c.args.values.now (c.args.at + k) =
    get_or-chunk c.args.at 16 c.args.values.now k 0 small in
    let fits = c.type_inv.values (c.args.at + k) in
    chosen_at w32 rest most rest most 16 lu lm lu lm k small
    ∙ ap (λ m. cond (ltb (get_or rest k 0) m) (get_or rest k 0) m) (get_or-replicate {A = ℕ} 16 k 65535 0 small)
    ∙ excess_is (get_or a k 0) base (get_or raised k 0) (get_or rest k 0) (omega (arith, fits, value)) (omega arith)
    (chosen_at w32 a bases bases a 16 la lb lb la k small
    ∙ ap (λ b. cond (ltb (get_or a k 0) b) b (get_or a k 0)) base_at)
    (get_or-zip2 f raised bases k 0 0 0 (omega (arith, lr, small)) (omega (arith, lb, small))
    ∙ ap (λ b. f (get_or raised k 0) b) base_at)
    ∙ ap (λ x. capped (x - base)) value
