use Rattle.std.proofs.Common.{Result, Ok, Err, refl}
use Rattle.std.specs.Prelude.{IfOk}
use Rattle.psr_mask.proofs.masking.MaskWordScoping.scope.Goals as goal

map_ok : {T E : Type 0} (P Q : T → Type 0) (r : Result T E) → ((x : T) → P x → Q x) → IfOk r P → IfOk r Q
map_ok P Q (Ok x) so is = so x is
map_ok P Q (Err e) so is = tt

pub returns-clause-fits : goal.returns-clause-fits
returns-clause-fits c = map_ok _ _ c.scope.result (λ scope fits. fits c.args.search.now refl) c.scope.ensures.fits
