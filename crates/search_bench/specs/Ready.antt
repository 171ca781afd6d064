-- Tables that may be fed.
use Rattle.std.specs.Prelude.{◌≡◌, ℕ, ◌*◌, ◌≤◌, false}
use Rattle.band_paths.specs.Edges.{channels_of}
use Rattle.fdmt_carry.specs.Carrying.{Carrying}

-- tables over 1024 channels and delays from 0 to 1024, for calls of a chunk of so many samples
pub record IsReady (c : Carrying) (chunk size : ℕ) : Type 0 where
  pub channels : channels_of c.tables.plan.edges ≡ 1024
  pub first : c.tables.plan.first ≡ 0
  pub last : c.tables.plan.last ≡ 1024
  pub chunk_is : c.tables.chunk ≡ chunk
  pub most_is : c.tables.most ≡ chunk
  pub some : 1 ≤ chunk
  pub most : chunk ≤ 65536
  pub size_is : size ≡ 1024 * chunk
  pub not_passing : c.is_passing ≡ false
