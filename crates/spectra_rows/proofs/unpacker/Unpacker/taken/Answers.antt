use Rattle.std.proofs.Common.{◌≡◌, ℕ, ◌+◌, List, subst}
use Rattle.spectra_rows.specs.Unpacking.{Unpacking, HoldsBytes, StandsForBytes}
use Rattle.spectra_rows.proofs.Standing.{given_up, held}
use Rattle.spectra_rows.proofs.unpacker.Unpacker.taken.Goals as goal

emptied : (u v : Unpacking) → u ≡ v → (bytes : List ℕ) (gone : ℕ) → HoldsBytes v bytes gone
    → StandsForBytes (record u { whole = 0 }) bytes (gone + v.whole)
emptied u v is = subst (λ (w : Unpacking).
    (bytes : List ℕ) (gone : ℕ) → HoldsBytes w bytes gone
    → StandsForBytes (record u { whole = 0 }) bytes (gone + w.whole)) is (given_up u)

pub returns-clause-given_up : goal.returns-clause-given_up
returns-clause-given_up c = λ bytes gone stands.
    emptied _ c.args.self.now c.self.view_is bytes gone (held c.args.self.now bytes gone stands)

pub returns-clause-holds : goal.returns-clause-holds
returns-clause-holds c = emptied _ c.args.self.now c.self.view_is
