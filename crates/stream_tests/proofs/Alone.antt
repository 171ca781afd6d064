-- One reader is all of them.
use Rattle.std.proofs.Common.{◌≡◌, ℕ, zero, suc, ◌<◌, [], ◌∷◌, Some, refl, sym, arith}
use Rattle.ring_ends.specs.Passes.{reader_knows}
use Rattle.dada_hdu.specs.declared.hdu.Hdu.{Hdu}
use Rattle.dada_hdu.specs.declared.passes.HduReader.{HduReader}
use Rattle.dada_hdu.specs.declared.ended.HduEnded.{HduEnded}
use Rattle.dada_hdu.specs.declared.ended.HduEnded.TheVariants.{Here}
use Rattle.dada_hdu.specs.Passes.{data_shape, number_of, ReadsBoth, EndedFromBoth}
use Rattle.dada_hdu.specs.Ended.{GivesBoth, AreBothInOrder}

pub alone : (hdu : Hdu) (reader : HduReader) → (data_shape hdu).readers ≡ 1 → ReadsBoth hdu reader →
    (reader_knows reader.blocks).number ≡ 0 → AreBothInOrder hdu (Some (Here reader) ∷ [])
alone hdu reader one reads number = record { count = sym one; each = stands }
  where
    stands : (j : ℕ) → j < 1 → (e : HduEnded) × GivesBoth (Some (Here reader) ∷ []) j e × EndedFromBoth hdu e
        × (number_of e ≡ j)
    stands zero near = (Here reader, refl, reads, number)
    stands (suc j) near = absurd (omega arith)
