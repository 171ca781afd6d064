-- The candidates of the demonstration are pulses, and their numbers are short; so is the text.
use Rattle.std.proofs.Common.{◌≡◌, ℕ, ◌+◌, ◌*◌, ◌/◌, ◌^◌, ◌<◌, ◌≤◌, List, length, Contains, refl, sym, ap, subst, ◌∙◌, arith, lit≤, inl, get_or, rules}
use Rattle.std.specs.Prelude.{All, ◌↔◌}
use Rattle.std.proofs.Math.Nat.{mul-le-mul_right}
use Rattle.std.proofs.lemmas.List.Elements.{All-from_get_or}
use Rattle.std.proofs.lemmas.List.FromFn.{get_or-map-range_with_len}
use Rattle.dada_model.specs.Bounds.{ObservationInRange}
use Rattle.dada_model.specs.Edges.{AreEdges}
use Rattle.dada_model.specs.Laws.{EdgesFall}
use Rattle.dada_model.specs.Observation.{Observation, edge, edges, signed_edge, dispersion_span, dm}
use Rattle.search_model.specs.declared.candidate.Candidate.{Candidate}
use Rattle.search_model.specs.declared.candidate.Candidate.TheVariants.{Pulse, Fold}
use Rattle.search_model.specs.CandidateLaws.{CandidatesAreListed, IsPulse, IsCandidate}
use Rattle.search_model.specs.Candidates.{plain_cells, candidates}
use Rattle.search_model.specs.Observed.{filterbank_of}
use Rattle.search_model.specs.SampleLaws.{SamplesOfBytes}
use Rattle.search_model.specs.Samples.{Filterbank}
use Rattle.search_model.specs.SubbandLaws.{SumsAreBounded}
use Rattle.psr_make.specs.Made.{made_observation, made_data, data_part, data_byte}
use Rattle.psr_demo.specs.Demo.{demo_spec, demo_search, demo_candidates, demo_text}
use Rattle.psr_demo.proofs.MadeData.{data_length}
use Rattle.psr_demo.proofs.TextLength.{IsShort, IsShortPulse, text_length}

-- a box of up to 8 spectra and delays up to 128 has few cells
few_cells : (width delay : ℕ) → width ≤ 8 → delay ≤ 128 → width * (64 + delay) ≤ 1536
few_cells width delay narrow short =
    let first = mul-le-mul_right (64 + delay) narrow in omega (arith, first, short)

small_sum : (width delay : ℕ) → width ≤ 8 → delay ≤ 128 → width * (255 * (64 + delay)) ≤ 391680
small_sum width delay narrow short =
    let first = mul-le-mul_right (255 * (64 + delay)) narrow in omega (arith, first, short)

module _ (number : ℕ) where
  abbrev bytes : List ℕ
  bytes = made_data (demo_spec number)

  abbrev observation : Observation
  observation = made_observation (demo_spec number)

  abbrev filterbank : Filterbank
  filterbank = filterbank_of observation bytes

  data_byte_small : (j : ℕ) → data_byte (demo_spec number) j < 256
  unfolding data_byte
  data_byte_small j = omega arith

  bytes_small : All (λ byte. byte < 256) bytes
  unfolding data_part
  bytes_small = All-from_get_or (λ byte. byte < 256) bytes 0 (λ i below.
      let at : get_or bytes i 0 ≡ data_byte (demo_spec number) i =
      get_or-map-range_with_len (data_byte (demo_spec number)) 0 262144 i i 0
      (subst (λ n. i < n) (data_length number) below) (omega arith) in
      subst (λ byte. byte < 256) (sym at) (data_byte_small i))

  in_range : ObservationInRange observation
  in_range = search rules

  span : dispersion_span observation ≡ 3162640888002
  unfolding dispersion_span edge signed_edge
  span = refl

  disperses : (delay : ℕ) → delay ≤ 128 → dm observation delay / 1000 < 10 ^ 10
  unfolding dm
  disperses delay short = rw span (omega (arith, short))

  module _ (samples : SamplesOfBytes) where
    pub spectra : filterbank.spectra ≡ 4096
    spectra = ap (λ (xs : List ℕ). length xs / 64) (samples.plain bytes) ∙ ap (λ n. n / 64) (data_length number)

    values_small : (c t : ℕ) → filterbank.value c t ≤ 255
    values_small c t = samples.bounded 8 1 bytes (t * 64 + c) (inl refl) bytes_small

    module _ (listed : CandidatesAreListed) (fall : EdgesFall) (bounded : SumsAreBounded) where
      falls : AreEdges 64 (edges observation)
      falls = fall observation in_range

      pulse_short : (end delay width sum : ℕ) →
          IsPulse filterbank (edges observation) (plain_cells 64) demo_search end delay width sum →
          IsShort (dm observation) 64 end delay width sum
      pulse_short end delay width sum p =
          let most = bounded.box filterbank (edges observation) delay end width 255 falls values_small in
          let small = small_sum width delay p.width_to p.delay_to in
          let cells = few_cells width delay p.width_to p.delay_to in
          let last = subst (λ n. end < n) spectra p.ends in
          record {
            ends = omega (arith, last);
            delays = let h = p.delay_to in omega (arith, h);
            disperses = disperses delay p.delay_to;
            widths = let h = p.width_to in omega (arith, h);
            sums = let h = p.adds in omega (arith, h, most, small);
            cells = omega (arith, cells);
          }

      listed_of : (c : Candidate) → Contains (candidates filterbank (edges observation) (plain_cells 64) demo_search) c
          ↔ IsCandidate filterbank (edges observation) (plain_cells 64) demo_search c
      listed_of c = listed filterbank (edges observation) (plain_cells 64) demo_search c

      candidate_short : (c : Candidate) → Contains (demo_candidates number) c →
          IsShortPulse (dm observation) 64 c
      unfolding demo_candidates
      candidate_short (Pulse end delay width sum) there = pulse_short end delay width sum
          ((listed_of (Pulse end delay width sum)).0 there)
      candidate_short (Fold delay period halvings trial phase sum) there =
          let f = (listed_of (Fold delay period halvings trial phase sum)).0 there in
          let least = f.period_from in let most = f.period_to in absurd (omega (arith, least, most))

      pub text_short : length (demo_candidates number) ≤ 100000 → length (demo_text number) ≤ 8388608
      unfolding demo_text demo_candidates
      text_short few =
          text_length (dm observation) 64 filterbank.spectra (demo_candidates number)
          candidate_short (rw spectra (lit≤ tt)) few
