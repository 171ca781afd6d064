-- How many spectra some bytes have.
use Rattle.std.proofs.Common.{◌≡◌, ℕ, ◌+◌, ◌*◌, ◌/◌, ◌≤◌, ◌<◌, List, [], length, ◌∙◌, ap, arith}
use Rattle.std.proofs.Math.Nat.{div-div-eq-div-mul, div-eq_of_lt, div-le_of_le-mul, div-lt_iff_lt-mul, lt-div-mul-add, mul-le-mul}
use Rattle.std.proofs.lemmas.Nat.{le-div}
use Rattle.std.proofs.lemmas.List.FromFn.{length-map-range_with_len}
use Rattle.dada_model.specs.Bounds.{ObservationInRange}
use Rattle.dada_model.specs.Observation.{Observation}
use Rattle.search_model.specs.Observed.{filterbank_of}
use Rattle.search_model.specs.Samples.{sample_at, sample_bytes}
use Rattle.search_engine.specs.Scope.{spectrum_size}

pub size_some : (o : Observation) → ObservationInRange o → 2 ≤ spectrum_size o
size_some o range =
    let product : 1 * 8 ≤ o.npol * o.nbit = mul-le-mul range.few_polarisations range.few_bits in
    let sample : 1 ≤ sample_bytes o.nbit o.npol = le-div 1 (o.npol * o.nbit) 8 (omega arith) product in
    let all : 2 * 1 ≤ o.channels * sample_bytes o.nbit o.npol = mul-le-mul range.few_channels sample in
    omega (arith, all)

pub spectra_are : (o : Observation) (bytes : List ℕ) →
    (filterbank_of o bytes).spectra ≡ length bytes / spectrum_size o
spectra_are o bytes =
    let s : ℕ = sample_bytes o.nbit o.npol in
    let count = length-map-range_with_len (λ i. sample_at o.nbit o.npol bytes i) 0 (length bytes / s) in
    let turned : s * o.channels ≡ spectrum_size o = omega arith in
    ap (λ n. n / o.channels) count ∙ div-div-eq-div-mul (length bytes) s o.channels
    ∙ ap (λ n. length bytes / n) turned

pub no_spectra : (o : Observation) → ObservationInRange o → (filterbank_of o []).spectra ≡ 0
no_spectra o range =
    let some = size_some o range in
    spectra_are o [] ∙ div-eq_of_lt {n = 0} (omega (arith, some))

-- bytes of so many spectra before an end lie before its bytes
pub bytes_before_end : (o : Observation) (bytes : List ℕ) (until : ℕ) → ObservationInRange o →
    (filterbank_of o bytes).spectra < until → length bytes < until * spectrum_size o
bytes_before_end o bytes until range early =
    let some = size_some o range in
    let count = spectra_are o bytes in
    (div-lt_iff_lt-mul {x = length bytes} {y = until} (omega (arith, some))).0 (omega (arith, early, count))

-- and bytes before its bytes have spectra that do not pass it
pub spectra_within : (o : Observation) (bytes : List ℕ) (until : ℕ) → ObservationInRange o →
    length bytes ≤ until * spectrum_size o → (filterbank_of o bytes).spectra ≤ until
spectra_within o bytes until range few =
    let count = spectra_are o bytes in
    let most = div-le_of_le-mul (spectrum_size o) {m = length bytes} {n = until} (omega (arith, few)) in
    omega (arith, count, most)

-- more bytes have no fewer spectra
pub quotients : (a b z : ℕ) → 0 < z → a ≤ b → a / z ≤ b / z
quotients a b z some order =
    let below : b < b / z * z + z = lt-div-mul-add some in
    let split : (b / z + 1) * z ≡ b / z * z + z = omega arith in
    let less = (div-lt_iff_lt-mul {x = a} {y = b / z + 1} some).1 (omega (arith, order, below, split)) in
    omega (arith, less)

pub spectra_grow : (o : Observation) (bytes more : List ℕ) → ObservationInRange o → length bytes ≤ length more →
    (filterbank_of o bytes).spectra ≤ (filterbank_of o more).spectra
spectra_grow o bytes more range less =
    let some = size_some o range in
    let one = spectra_are o bytes in
    let two = spectra_are o more in
    let grows = quotients (length bytes) (length more) (spectrum_size o) (omega (arith, some)) less in
    omega (arith, one, two, grows)
