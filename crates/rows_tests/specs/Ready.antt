-- Tables that may be fed.
use Rattle.std.specs.Prelude.{◌≡◌, ℕ, ◌≤◌, false}
use Rattle.band_paths.specs.Edges.{channels_of}
use Rattle.fdmt_carry.specs.Carrying.{Carrying}

-- there may be a band of so many channels, these delays, and calls of so many spectra
pub record IsShape (channels first last chunk : ℕ) : Type 0 where
  pub some_channels : 2 ≤ channels
  pub most_channels : channels ≤ 4096
  pub order : first ≤ last
  pub short : last ≤ 8192
  pub some : 1 ≤ chunk
  pub most : chunk ≤ 65536

-- tables of this shape
pub record IsReady (c : Carrying) (channels first last chunk : ℕ) : Type 0 where
  pub shape : IsShape channels first last chunk
  pub channels_are : channels_of c.tables.plan.edges ≡ channels
  pub chunk_is : c.tables.chunk ≡ chunk
  pub most_is : c.tables.most ≡ chunk
  pub first_is : c.tables.plan.first ≡ first
  pub last_is : c.tables.plan.last ≡ last
  pub not_passing : c.is_passing ≡ false
