use Rattle.std.proofs.Common.{◌≡◌, ◌≢◌, ℕ, zero, suc, ◌<◌, List, [], ◌∷◌, Some, length, set, refl, ap, arith}
use Rattle.std.specs.Prelude.{slice_get}
use Rattle.disk_feeder.proofs.source.Source.accept.Goals as goal

get_set : {A : Type 0} (xs : List A) (i : ℕ) (x : A) → i < length xs → slice_get (set xs i x) i ≡ Some x
get_set [] i x below = absurd (omega arith)
get_set (y ∷ ys) zero x below = refl
get_set (y ∷ ys) (suc i) x below = get_set ys i x (omega arith)

get_other : {A : Type 0} (xs : List A) (i k : ℕ) (x : A) → k ≢ i → slice_get (set xs i x) k ≡ slice_get xs k
get_other [] i k x other = refl
get_other (y ∷ ys) zero zero x other = absurd (other refl)
get_other (y ∷ ys) zero (suc k) x other = refl
get_other (y ∷ ys) (suc i) zero x other = refl
get_other (y ∷ ys) (suc i) (suc k) x other = get_other ys i k x (λ same. other (ap suc same))

pub returns-clause-first : goal.returns-clause-first
returns-clause-first c = (
  c.of.result,
  get_set c.args.self.now.firsts c.args.transfer (Some c.of.result) (omega arith),
  c.of.ensures.profile,
  c.of.ensures.offset,
)

pub returns-clause-others : goal.returns-clause-others
returns-clause-others c = λ k other. get_other c.args.self.now.firsts c.args.transfer k (Some c.of.result) other
