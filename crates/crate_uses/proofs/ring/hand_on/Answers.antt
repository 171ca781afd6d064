use Rattle.std.proofs.Common.{◌≡◌, ◌++◌, List, [], ◌∷◌, length, slice_get, Option, Some, sym, subst, ap, ◌∙◌, arith}
use Rattle.ring_words.specs.declared.shape.RingShape.{RingShape}
use Rattle.ring_words.specs.Views.{fresh_reader}
use Rattle.ring_ends.specs.declared.passes.EndedReader.{EndedReader}
use Rattle.ring_ends.specs.declared.passes.EndedReader.TheVariants.{Here}
use Rattle.ring_ends.specs.declared.passes.ReaderPass.{ReaderPass}
use Rattle.ring_ends.specs.Ended.{AllReaders}
use Rattle.ring_ends.specs.Passes.{ring_shape, reader_knows}
use Rattle.crate_uses.proofs.Handing.{alone, found, handed, number_is}
use Rattle.crate_uses.proofs.ring.hand_on.Goals as goal

pub finish-requires-clause-readers : goal.finish-requires-clause-readers
finish-requires-clause-readers c = let opened = c.in-Ok.ensures in
    let count : length c.in-Ok.readers.items ≡ 1 = opened.count in
    let fresh = opened.readers 0 (omega (arith, count)) in
    let same = found c.in-Ok.readers.items 0 fresh.0 c.in_ok-reader.reader c.remove.result fresh.1
    c.remove.ensures.value c.in_ok-reader.was in
    let begun = subst (λ (p : ReaderPass). reader_knows p ≡ fresh_reader (ring_shape c.in-Ok.ring) 0) same fresh.3 in
    let number = number_is (ring_shape c.in-Ok.ring) 0 _ _ _ _ _ _ begun c.in-Ok-read.ensures.cases
    c.clear.ensures.cleared in
    let items = c.push.ensures.items ∙ ap (λ (l : List (Option EndedReader)).
    l ++ Some (Here c.clear.new.pass) ∷ []) c.new-ended.ensures in
    subst (λ (l : List (Option EndedReader)). AllReaders c.in-Ok.ring l) (sym items)
    (c.order_is_enough.ensures c.in-Ok.ring _ (alone c.in-Ok.ring (Here c.clear.new.pass)
    (ap (λ (s : RingShape). s.readers) opened.shape) c.clear.ensures.ring number))

pub returns : goal.returns
returns c = let opened = c.in-Ok.ensures in
    let count : length c.in-Ok.readers.items ≡ 1 = opened.count in
    let fresh = opened.readers 0 (omega (arith, count)) in
    let same = found c.in-Ok.readers.items 0 fresh.0 c.in_ok-reader.reader c.remove.result fresh.1
    c.remove.ensures.value c.in_ok-reader.was in
    let begun = subst (λ (p : ReaderPass). reader_knows p ≡ fresh_reader (ring_shape c.in-Ok.ring) 0) same fresh.3 in
    let items = c.push.ensures.items ∙ ap (λ (l : List (Option EndedReader)).
    l ++ Some (Here c.clear.new.pass) ∷ []) c.new-ended.ensures in
    let readers : (ring_shape c.in-Ok.ring).readers ≡ 1 = ap (λ (s : RingShape). s.readers) opened.shape in
    let back = c.finish.ensures.readers 0 (Here c.clear.new.pass)
    (ap (λ (l : List (Option EndedReader)). slice_get l 0) items) in
    handed (ring_shape c.in-Ok.ring) 0 _ _ _ _ _ _ begun c.in-Ok-read.ensures.cases c.clear.ensures.cleared
    c.finish.result _ _ _ _ _ _ opened.writer.1 c.in-Ok-write.ensures.cases c.finish.ensures.sealed back
    (c.finish.ensures.begins 0 (omega (arith, readers)))
