-- A pass over the next spectra.
use Rattle.std.proofs.Common.{◌≡◌, ℕ, true}
use Rattle.fdmt_carry.specs.Carrying.{Carrying}

-- it has come to the row of delay d
pub record GoesOn (before now : Carrying) (d : ℕ) : Type 0 where
  pub tables : now.tables ≡ before.tables
  pub last : now.last ≡ before.last
  pub passing : now.is_passing ≡ true
  pub next : now.next ≡ d
