-- Streams of samples that begin with given data bytes.
use Rattle.std.proofs.Common.{◌≡◌, ℕ, ◌+◌, ◌-◌, ◌*◌, ◌/◌, ◌≤◌, ◌<◌, ◌⊎◌, inl, inr, Bool, true, false, cond, List, ◌++◌, length, refl, ◌∙◌, ap, arith}
use Rattle.std.specs.Prelude.{All}
use Rattle.std.proofs.Math.Nat.{div-mul-le_self, mul-le-mul_right}
use Rattle.std.proofs.lemmas.Bool.{cases_lt}
use Rattle.dada_model.specs.Bounds.{ObservationInRange}
use Rattle.dada_model.specs.Observation.{Observation}
use Rattle.search_model.specs.Samples.{Filterbank, samples_of}
use Rattle.search_model.specs.SampleLaws.{SamplesOfBytes}
use Rattle.search_engine.specs.Engine.{BeginsWith}
use Rattle.search_engine.specs.Scope.{kept_by, kept_samples}

-- an accepted observation has 8 or 16 bits
pub bits : (o : Observation) → ObservationInRange o → (o.nbit ≡ 8) ⊎ (o.nbit ≡ 16)
bits o range =
    let whole = range.whole_bytes in
    let few = range.few_bits in
    let many = range.many_bits in
    elim (cases_lt 8 o.nbit) [
      | inl more ↦ inr (omega arith)
      | inr less ↦ inl (omega arith)
    ]

-- a channel of a whole spectrum is among the samples
pub sample_is_there : (n count spectra c t : ℕ) → spectra ≤ count / n → c < n → t < spectra → t * n + c < count
sample_is_there n count spectra c t whole channel early =
    let most = div-mul-le_self count n in
    let rows = mul-le-mul_right n (let next : t + 1 ≤ count / n = omega arith in next) in
    omega (arith, most, rows)

-- either order of the channels
pub place_in_spectrum : (is_falling : Bool) (c n : ℕ) → c < n → cond is_falling c (n - 1 - c) < n
place_in_spectrum true c n channel = channel
place_in_spectrum false c n channel = omega arith

-- more bytes change no whole spectrum
pub begins_before : SamplesOfBytes → (o : Observation) (masked : List Bool) (bytes more : List ℕ) (u v : ℕ)
    (f : Filterbank) → ObservationInRange o → u ≤ v → u ≤ (kept_samples o masked bytes).spectra →
    BeginsWith o (kept_samples o masked (bytes ++ more)) v f → BeginsWith o (kept_samples o masked bytes) u f
begins_before law o masked bytes more u v f range before whole begins = record {
  channels = begins.channels;
  small = begins.small;
  same = λ c t channel early.
      let some = range.few_polarisations in
      let place : ℕ = cond o.is_falling c (o.channels - 1 - c) in
      begins.same c t channel (omega arith)
      ∙ ap (λ (n : ℕ). cond (kept_by masked c) n 0)
      (law.kept o.nbit o.npol bytes more (t * o.channels + place) (bits o range) (omega arith)
      (sample_is_there o.channels (length (samples_of o.nbit o.npol bytes)) u place t whole
      (place_in_spectrum o.is_falling c o.channels channel) early));
}

-- a sample that is kept or 0 is no greater
small_kept : (b : Bool) (n most : ℕ) → n ≤ most → cond b n 0 ≤ most
small_kept true n most small = small
small_kept false n most small = omega arith

-- the samples of the data bytes themselves are such a stream
pub data_begin : SamplesOfBytes → (o : Observation) (masked : List Bool) (bytes : List ℕ) (u : ℕ) →
    ObservationInRange o → All (λ byte. byte < 256) bytes →
    BeginsWith o (kept_samples o masked bytes) u (kept_samples o masked bytes)
data_begin law o masked bytes u range numbers = record {
  channels = refl;
  small = λ c t. small_kept (kept_by masked c) _ _
      (law.bounded o.nbit o.npol bytes (t * o.channels + cond o.is_falling c (o.channels - 1 - c))
      (bits o range) numbers);
  same = λ c t channel early. refl;
}
