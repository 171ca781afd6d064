-- At first nothing is sealed, and each reader is ready.
use Rattle.std.proofs.Common.{◌≡◌, ℕ, List, [], replicate, map, false, ap, sym, subst, ◌∙◌, arith}
use Rattle.ring_core.specs.Machine.{Machine, Reader, Phase, at_first}
use Rattle.ring_core.specs.State.{IsSoundCore, reader_of}
use Rattle.ring_core.proofs.Lists.{map_replicate}
use Rattle.ring_core.proofs.First.{first_ring}
use Rattle.ring_core.proofs.Core.open.Goals as goal

made : (sealed low : List ℕ) (readers : List Reader) (n : ℕ) → sealed ≡ [] → low ≡ replicate n 0 →
    readers ≡ replicate n (record { cleared = 0; phase = Phase.Ready }) →
    record { sealed = sealed; writing = false; low = low; readers = readers } ≡ at_first ℕ n
made sealed low readers n e f g = cc

pub returns-clause-first : goal.returns-clause-first
returns-clause-first c = made _ _ _ c.args.shape.readers c.in_ok-with_capacity.ensures.items
    (c.in_ok-from_elem.ensures.items_if_clones_equal (λ y e. e))
    (ap (map reader_of) (c.in_ok-from_elem-2.ensures.items_if_clones_equal (λ y e. e))
    ∙ map_replicate reader_of c.args.shape.readers _)

pub invariant_of-result : goal.invariant_of-result
invariant_of-result c = record {
  space = c.in_ok-with_capacity.ensures.capacity;
  ring = let P : Machine ℕ → Type 0 = λ m. IsSoundCore (record { shape = c.args.shape; machine = m }) in
      subst P (sym (returns-clause-first c)) (first_ring c.args.shape c.requires.buffers.0 c.requires.readers.1
      (omega arith));
}
