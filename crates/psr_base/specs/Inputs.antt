-- What a call keeps of the inputs that it reads.
-- Source: this project's choice.
use Rattle.std.specs.Prelude.{◌≡◌, ℕ, ◌≤◌}
use Rattle.psr_base.specs.Count.{Rose}
use Rattle.psr_base.specs.Told.{Told}

-- Files stay as they are told, calm inputs stay calm, and a call has failed exactly where the count of faults rose. The
-- record is over what inputs tell, when they are calm, how many calls have failed, whether this one has, and the inputs
-- before and after it.
pub record HasReadFrom {I : Type 0} (told : I → Told) (is_calm : I → Type 0) (faults : I → ℕ)
    (failed : Type 0) (old new : I) : Type 0 where
  pub names : (told new).bytes_under ≡ (told old).bytes_under
  pub count : faults old ≤ faults new
  pub rose : failed → Rose (faults old) (faults new)
  pub quiet : ¬ failed → faults new ≡ faults old
  pub calm : is_calm old → is_calm new
