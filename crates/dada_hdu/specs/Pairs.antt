-- Passes of two rings that become one.
-- Source: PSRDADA manual (a header ring and a data ring as one data unit); the passes are this project's choice.
use Rattle.std.specs.Prelude.{◌≡◌, ℕ, List, slice_get, Option, Some}
use Rattle.ring_ends.specs.declared.passes.ReaderPass.{ReaderPass}
use Rattle.dada_hdu.specs.declared.passes.HduReader.{HduReader}

abbrev pub reader_with : ReaderPass → ReaderPass → HduReader
reader_with header blocks = record { header = header; blocks = blocks }

-- where there are both, they are one reader
abbrev pub Pairs : Option ReaderPass → Option ReaderPass → Option HduReader → Type 0
Pairs header blocks reader = (h b : ReaderPass) → header ≡ Some h → blocks ≡ Some b →
    reader ≡ Some (reader_with h b)

-- at each place
abbrev pub PairsEach : List (Option ReaderPass) → List (Option ReaderPass) →
    List (Option HduReader) → Type 0
PairsEach headers blocks readers =
    (i : ℕ) (h b : ReaderPass) → slice_get headers i ≡ Some (Some h) →
    slice_get blocks i ≡ Some (Some b) → slice_get readers i ≡ Some (Some (reader_with h b))
