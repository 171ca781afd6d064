-- What a header keeps of its bytes.
-- Source: PSRDADA manual (a header is lines of keyword and value); the limits of size are this project's choice.
use Rattle.std.specs.Prelude.{◌≡◌, ℕ, ◌≤◌, List, length, take}
use Rattle.dada_model.specs.Fields.{least_header, most_header, HeaderText, header_bytes}
use Rattle.dada_model.specs.ChangeLaws.{IsReadBack}

-- the header whose text is the first `len` bytes of a space
abbrev pub header_in : List ℕ → ℕ → ℕ → HeaderText
header_in bytes len size = record { size = size; text = take len bytes }

-- a space as long as the greatest header begins with the bytes of a header
pub record IsHeaderSpace (bytes : List ℕ) (len size : ℕ) : Type 0 where
  pub space : length bytes ≡ most_header
  pub least : least_header ≤ size
  pub most : size ≤ most_header
  pub within : len ≤ size
  pub padded : take size bytes ≡ header_bytes (header_in bytes len size)
  pub read_back : IsReadBack (header_in bytes len size)
