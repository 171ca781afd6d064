-- The first state is sound, and so is each that events leave.
use Rattle.std.specs.Prelude.{◌≡◌, ℕ, ◌≤◌}
use Rattle.std.proofs.Common.{arith, sym, ap, ⊎_elim, ◌∙◌}
use Rattle.std.proofs.Math.ListN.{length-replicate}
use Rattle.ring_core.specs.Machine.{Machine, Reader, Phase, IsReader, Reached, at_first, at_begin, by_event, greatest}
use Rattle.ring_core.specs.Sound.{IsSound}
use Rattle.ring_core.specs.State.{IsSoundCore}
use Rattle.ring_core.specs.declared.Shape.{Shape}
use Rattle.ring_core.proofs.Lists.{get_replicate, index_replicate}
use Rattle.ring_core.proofs.Kept.{does_keeps}

ready : (L : Type 0) (n i : ℕ) (r : Reader) → IsReader (at_first L n) i r →
    r ≡ record { cleared = 0; phase = Phase.Ready }
ready L n i r is = get_replicate n i _ r is

module _ {L : Type 0} where
  sound_first : (buffers limit n : ℕ) → IsSound buffers limit (at_first L n)
  sound_first buffers limit n = record {
    limited = omega arith;
    one_more = λ e. absurd cc;
    counts = λ i r is registered.
        let c = ap (λ (q : Reader). q.cleared) (ready L n i r is) in (omega arith, omega arith);
    remembered = λ i r is registered. omega (arith, index_replicate n i);
    room = λ e. absurd cc;
    was_sealed = λ i r is out. let p = ap (λ (q : Reader). q.phase) (ready L n i r is) in
        absurd (⊎_elim (λ e. let f : Phase.Ready ≡ Phase.Out = sym p ∙ e in cc)
        (λ e. let f : Phase.Ready ≡ Phase.Read = sym p ∙ e in cc) out);
    alone = λ i j k (r, is, out, count) other.
        let p = ap (λ (q : Reader). q.phase) (ready L n i r is) in let f : Phase.Ready ≡ Phase.Out = sym p
        ∙ out in absurd cc;
    one_each = length-replicate n 0 ∙ sym (length-replicate n _);
  }

  pub sound_reached : (buffers limit readers : ℕ) (m : Machine L) → limit ≤ greatest →
      Reached buffers limit readers m → IsSound buffers limit m
  sound_reached buffers limit readers m fits at_begin = sound_first buffers limit readers
  sound_reached buffers limit readers m fits (by_event old e a new reached does) =
      does_keeps buffers limit old e a m fits (sound_reached buffers limit readers old fits reached) does

pub first_ring : (s : Shape) → 2 ≤ s.buffers → s.readers ≤ 8 → s.max_blocks ≤ 1048576 →
    IsSoundCore (record { shape = s; machine = at_first ℕ s.readers })
first_ring s two few short = record {
  two = two;
  few = few;
  short = short;
  all_readers = length-replicate s.readers _;
  sound = sound_first s.buffers s.max_blocks s.readers;
}
