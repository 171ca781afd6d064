-- The passes of readers are parted, place by place.
use Rattle.std.proofs.Common.{◌≡◌, ℕ, List, length, drop, take, Option}
use Rattle.ring_ends.specs.declared.passes.EndedReader.{EndedReader}
use Rattle.dada_hdu.specs.declared.ended.HduEnded.{HduEnded}
use Rattle.dada_hdu.specs.Passes.{header_ends, data_ends}

-- those of the first n readers
pub record Parting (all : List (Option HduEnded)) (n : ℕ) (left : List (Option HduEnded))
    (headers blocks : List (Option EndedReader)) : Type 0 where
  pub rest : left ≡ drop n all
  pub header_is : headers ≡ header_ends (take n all)
  pub block_is : blocks ≡ data_ends (take n all)
  pub header_count : length headers ≡ n
  pub block_count : length blocks ≡ n
