-- Readers that are given in the order in which the ring was opened.
use Rattle.std.proofs.Common.{◌≡◌, ℕ, List, Option, None, Some, unwrap_or, sym, ap, ◌∙◌, subst, arith}
use Rattle.std.proofs.lemmas.Option.{slice_get_within}
use Rattle.ring_ends.specs.declared.ring.Ring.{Ring}
use Rattle.ring_ends.specs.declared.passes.EndedReader.{EndedReader}
use Rattle.ring_ends.specs.Passes.{ended_knows}
use Rattle.ring_ends.specs.Ended.{Gives, AllReaders, AreInOrder}

module _ (ring : Ring) (readers : List (Option EndedReader)) (order : AreInOrder ring readers) where
  number_at : (j : ℕ) (e : EndedReader) → Gives readers j e → (ended_knows e).number ≡ j
  number_at j e gives = let h = order.each j (slice_get_within readers j (Some e) gives) in
      subst (λ (x : EndedReader). (ended_knows x).number ≡ j)
      (ap (λ (o : Option (Option EndedReader)). unwrap_or (unwrap_or o None) e) (sym h.1 ∙ gives)) h.3

  pub in_order : AllReaders ring readers
  in_order = record {
    count = order.count;
    each = λ j near. let h = order.each j near in (h.0, h.1, h.2);
    once = λ j k e f at_j at_k same. sym (number_at j e at_j) ∙ (same ∙ number_at k f at_k);
    all = λ i near. let count = order.count in let h = order.each i (omega arith) in (i, h.0, h.1, h.3);
  }
