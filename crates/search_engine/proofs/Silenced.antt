-- An unpacker whose masked rows were set to 0, and which then gave up its spectra.
use Rattle.std.proofs.Common.{◌≡◌, ◌∙◌, ℕ, ◌+◌, ◌*◌, ◌<◌, Bool, List, slice_index, ap, subst}
use Rattle.search_model.specs.Masks.{kept_of}
use Rattle.spectra_rows.specs.Unpacking.{Unpacking, OpenedAlike, StandsForBytes, HoldsBytes, StandsForKept, unpacked}

-- v is u with other rows, and w is v without its spectra
pub record IsHidden (kept : ℕ → Bool) (u v w : Unpacking) : Type 0 where
  pub rows : v ≡ record u { rows = v.rows }
  pub none : w ≡ record v { whole = 0 }
  pub kept_is : (bytes : List ℕ) (gone : ℕ) → StandsForBytes u bytes gone → StandsForKept kept v bytes gone
  pub given_up : (bytes : List ℕ) (gone : ℕ) → HoldsBytes v bytes gone → StandsForBytes w bytes (gone + v.whole)

module _ (kept : ℕ → Bool) (u v w : Unpacking) (h : IsHidden kept u v w) where
  pub hidden_alike : OpenedAlike w u
  hidden_alike = record {
    channels = ap (λ (x : Unpacking). x.channels) h.none ∙ ap (λ (x : Unpacking). x.channels) h.rows;
    is_falling = ap (λ (x : Unpacking). x.is_falling) h.none ∙ ap (λ (x : Unpacking). x.is_falling) h.rows;
    nbit = ap (λ (x : Unpacking). x.nbit) h.none ∙ ap (λ (x : Unpacking). x.nbit) h.rows;
    npol = ap (λ (x : Unpacking). x.npol) h.none ∙ ap (λ (x : Unpacking). x.npol) h.rows;
    chunk = ap (λ (x : Unpacking). x.chunk) h.none ∙ ap (λ (x : Unpacking). x.chunk) h.rows;
    in_bytes = ap (λ (x : Unpacking). x.in_bytes) h.none ∙ ap (λ (x : Unpacking). x.in_bytes) h.rows;
  }

  pub hidden_given : (bytes : List ℕ) (gone : ℕ) → StandsForBytes u bytes gone →
      StandsForBytes w bytes (gone + u.whole)
  hidden_given bytes gone stands =
      subst (λ n. StandsForBytes w bytes (gone + n)) (ap (λ (x : Unpacking). x.whole) h.rows)
      (h.given_up bytes gone (h.kept_is bytes gone stands).holds)

-- the rows have the samples of the channels that are kept
pub hidden_rows : (kept : ℕ → Bool) (u v : Unpacking) (rows bytes : List ℕ) (gone c t : ℕ) →
    v ≡ record u { rows = v.rows } → rows ≡ v.rows → StandsForKept kept v bytes gone → c < u.channels →
    t < u.whole → slice_index rows (c * u.chunk + t) ≡ (kept_of kept (unpacked u bytes)).value c (gone + t)
hidden_rows kept u v rows bytes gone c t is same stands here low =
    let k : StandsForKept kept (record u { rows = v.rows }) bytes gone =
    subst (λ x. StandsForKept kept x bytes gone) is stands in
    ap (λ xs. slice_index xs (c * u.chunk + t)) same ∙ k.rows c t here low
