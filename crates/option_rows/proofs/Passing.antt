-- Where none is found that fails a test, each passes.
use Rattle.std.proofs.Common.{◌≡◌, ◌<◌, Bool, true, false, not, cond, [], ◌∷◌, length, get_or, refl, arith, zero, suc}
use Rattle.std.specs.Prelude.{Option, Some, None, find}
use Rattle.option_rows.specs.Laws.{NoneFails}

head_passes : {Opt : Type 0} → (b : Bool) (opt : Opt) (rest : Option Opt) → cond (not b) (Some opt) rest ≡ None →
    (b ≡ true) × (rest ≡ None)
head_passes true opt rest e = (refl, e)
head_passes false opt rest e = (cc)

pub none_fails : {Opt : Type 0} → NoneFails Opt
none_fails test [] none i d within = absurd (omega arith)
none_fails test (opt ∷ options) none i d within =
    let first = head_passes (test opt) opt (find (λ o. not (test o)) options) none in
    elim i as (λ k. k < suc (length options) → test (get_or (opt ∷ options) k d) ≡ true) [
      | zero ↦ λ _. first.0
      | suc k ↦ λ less. none_fails test options first.1 k d (omega arith)
    ] within
