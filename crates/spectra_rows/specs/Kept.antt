-- What rows keep, whatever the bits of their samples.
-- Source: this project's choice.
use Rattle.std.specs.Prelude.{ℕ, Bool, true, false, List}
use Rattle.spectra_rows.specs.declared.kept.Rows.{Rows}
use Rattle.spectra_rows.specs.declared.kept.Rows.TheVariants.{Words, Bytes}

-- the samples of the rows, one row behind the other
abbrev pub samples_kept : Rows → List ℕ
samples_kept (Words words) = words.items
samples_kept (Bytes bytes) = bytes.items

-- whether the rows are rows of bytes
abbrev pub are_bytes : Rows → Bool
are_bytes (Words words) = false
are_bytes (Bytes bytes) = true
