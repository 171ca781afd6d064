use Rattle.std.proofs.Common.{◌≡◌, ℕ, ◌+◌, List, subst}
use Rattle.spectra_rows.specs.Unpacking.{Unpacking, HoldsBytes, unpacked}
use Rattle.spectra_rows.proofs.Standing.{held, spectra_are}
use Rattle.spectra_rows.proofs.unpacker.Unpacker.spectra.Goals as goal

pub returns-clause-holds : goal.returns-clause-holds
returns-clause-holds c =
    subst (λ (u : Unpacking).
    (bytes : List ℕ) (gone : ℕ) → HoldsBytes u bytes gone → (unpacked u bytes).spectra ≡ gone + c.self.inside.ready)
    c.self.view_is
    (spectra_are _ c.self.invariant.values)

pub returns-clause-counts : goal.returns-clause-counts
returns-clause-counts c = λ bytes gone stands.
    returns-clause-holds c bytes gone (held c.args.self.now bytes gone stands)
