-- Files that are told still, and inputs that are read in two steps.
use Rattle.std.proofs.Common.{◌≡◌, ℕ, List, Option, Ok, Err, ap, ◌∙◌, subst, arith}
use Rattle.psr_base.specs.Count.{Rose}
use Rattle.psr_base.specs.Inputs.{HasReadFrom}
use Rattle.psr_base.specs.Told.{Told, OfFile}

-- what holds of a file that is told
pub file_before_reading : (old new : Told) (name : List ℕ) (P : List ℕ → Type 0) → new.bytes_under ≡ old.bytes_under →
    OfFile new name P → OfFile old name P
file_before_reading old new name P same holds file is =
    holds file (ap (λ (under : List ℕ → Option (List ℕ)). under name) same ∙ is)

-- ---- reading in two steps, of which the first did not fail

read_on : {I : Type 0} (told : I → Told) (is_calm : I → Type 0) (faults : I → ℕ) (first next : Type 0)
    (old mid new : I) → HasReadFrom told is_calm faults first old mid → ¬ first →
    HasReadFrom told is_calm faults next mid new → HasReadFrom told is_calm faults next old new
read_on told is_calm faults first next old mid new a not b =
    let still = a.quiet not in
    let more = b.count in
    record {
      names = b.names ∙ a.names;
      count = omega (arith, still, more);
      rose = λ failed. subst (λ n. Rose n (faults new)) still (b.rose failed);
      quiet = λ fine. b.quiet fine ∙ still;
      calm = λ calm. b.calm (a.calm calm);
    }

pub read_through : {I T E : Type 0} (told : I → Told) (is_calm : I → Type 0) (faults : I → ℕ) (next : Type 0)
    (found : T) (fault : E) (old start mid lent new : I) → start ≡ old →
    HasReadFrom told is_calm faults (Ok found ≡ Err fault) start mid → lent ≡ mid →
    HasReadFrom told is_calm faults next lent new → HasReadFrom told is_calm faults next old new
read_through told is_calm faults next found fault old start mid lent new begins first same more =
    let First : _ → Type 0 = λ i. HasReadFrom told is_calm faults (Ok found ≡ Err fault) i mid in
    let Next : _ → Type 0 = λ i. HasReadFrom told is_calm faults next i new in
    read_on told is_calm faults (Ok found ≡ Err fault) next old mid new (subst First begins first) never
    (subst Next same more)
  where
    never : Ok found ≡ Err fault → ⊥
    never is = absurd cc
