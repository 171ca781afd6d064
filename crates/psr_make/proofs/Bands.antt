-- The band of a made observation, and the path of its pulses.
use Rattle.std.proofs.Common.{◌≡◌, ℕ, ◌%◌, ◌≤◌, ◌⊎◌, inl, inr, List, refl, arith, lit≤}
use Rattle.dada_model.specs.Observation.{edges}
use Rattle.dada_model.specs.Edges.{AreEdges}
use Rattle.dada_model.specs.Bounds.{ObservationInRange}
use Rattle.dada_model.specs.Laws.{EdgesFall}
use Rattle.search_model.specs.Paths.{IsPath}
use Rattle.search_model.specs.Laws.{HasOnePath}
use Rattle.psr_make.specs.Made.{SpecInRange, made_observation, made_path}
use Rattle.psr_make.specs.declared.spec.MakeSpec.{MakeSpec}

whole_bytes : (nbit : ℕ) → (nbit ≡ 8) ⊎ (nbit ≡ 16) → (nbit % 8 ≡ 0) × (8 ≤ nbit) × (nbit ≤ 16)
whole_bytes nbit (inl e) = rw e (refl, omega arith, omega arith)
whole_bytes nbit (inr e) = rw e (refl, omega arith, omega arith)

pub is_in_range : (s : MakeSpec) → SpecInRange s → ObservationInRange (made_observation s)
is_in_range s r =
    let bytes = whole_bytes s.nbit r.bits in
    let low : 1 ≤ s.npol = elim r.polarisations [ inl e ↦ omega arith | inr e ↦ omega arith ] in
    let high : s.npol ≤ 2 = elim r.polarisations [ inl e ↦ omega arith | inr e ↦ omega arith ] in
    record {
      few_channels = r.few_channels;
      many_channels = r.many_channels;
      whole_bytes = bytes.0;
      few_bits = bytes.1;
      many_bits = bytes.2;
      few_polarisations = low;
      many_polarisations = high;
      short_sample = lit≤ tt;
      long_sample = lit≤ tt;
      low_centre = lit≤ tt;
      high_centre = lit≤ tt;
      foot = lit≤ tt;
      top = lit≤ tt;
      wide = let h = r.many_channels in omega arith;
      early = lit≤ tt;
    }

pub are_edges : EdgesFall → (s : MakeSpec) → SpecInRange s → AreEdges s.channels (edges (made_observation s))
are_edges fall s r = fall (made_observation s) (is_in_range s r)

pub path_is : EdgesFall → HasOnePath → (s : MakeSpec) (e : List ℕ) → SpecInRange s
    → IsPath (edges (made_observation s)) s.channels s.delay e → e ≡ made_path s
unfolding made_path
path_is fall one s e r is = (one (edges (made_observation s)) s.channels s.delay (are_edges fall s r)).1 e is
