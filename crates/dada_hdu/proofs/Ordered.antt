-- Readers that are given in the order of their numbers.
use Rattle.std.proofs.Common.{◌≡◌, ℕ, ◌<◌, List, length, map, Option, option_map, sym, ap, ◌∙◌, arith}
use Rattle.std.proofs.lemmas.List.{length-map}
use Rattle.std.proofs.lemmas.Option.{slice_get-map}
use Rattle.ring_words.specs.declared.shape.RingShape.{RingShape}
use Rattle.ring_ends.specs.declared.ring.Ring.{Ring}
use Rattle.ring_ends.specs.declared.passes.EndedReader.{EndedReader}
use Rattle.ring_ends.specs.Passes.{ring_shape, ended_knows, EndedFrom}
use Rattle.ring_ends.specs.Ended.{Gives, AreInOrder, OrderIsEnough as RingOrderIsEnough}
use Rattle.dada_hdu.specs.declared.hdu.Hdu.{Hdu}
use Rattle.dada_hdu.specs.declared.ended.HduEnded.{HduEnded}
use Rattle.dada_hdu.specs.Passes.{header_ring, data_ring, header_end, data_end, header_ends, data_ends}
use Rattle.dada_hdu.specs.Ended.{GivesBoth, AreBothInOrder, OrderIsEnough}

-- what is given as a reader of both rings is given as one of each
pub gives_part : (part : HduEnded → EndedReader) (readers : List (Option HduEnded)) (j : ℕ) (e : HduEnded) →
    GivesBoth readers j e → Gives (map (option_map part) readers) j (part e)
gives_part part readers j e gives =
    slice_get-map (option_map part) readers j ∙ ap (option_map (option_map part)) gives

part_in_order : (hdu : Hdu) (readers : List (Option HduEnded)) (ring : Ring) (part : HduEnded → EndedReader) →
    AreBothInOrder hdu readers → (ring_shape ring).readers ≡ length readers →
    ((j : ℕ) → j < length readers → (e : HduEnded) × GivesBoth readers j e × EndedFrom ring (part e)
    × ((ended_knows (part e)).number ≡ j)) → AreInOrder ring (map (option_map part) readers)
part_in_order hdu readers ring part order count each =
    let long = length-map readers (option_map part) in record {
      count = long ∙ sym count;
      each = λ j near. let h = each j (omega arith) in (part h.0, gives_part part readers j h.0 h.1, h.2, h.3);
    }

pub both_in_order : RingOrderIsEnough → OrderIsEnough
both_in_order law hdu readers order =
    record {
      header = law (header_ring hdu) (header_ends readers)
          (part_in_order hdu readers (header_ring hdu) header_end order
          (ap (λ (z : RingShape). z.readers) hdu.alike ∙ sym order.count)
          (λ j near. let h = order.each j near in (h.0, h.1, h.2.header, h.2.number ∙ h.3)));
      blocks = law (data_ring hdu) (data_ends readers)
          (part_in_order hdu readers (data_ring hdu) data_end order (sym order.count)
          (λ j near. let h = order.each j near in (h.0, h.1, h.2.blocks, h.3)));
    }
