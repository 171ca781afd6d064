-- How many spectra some bytes have.
use Rattle.std.proofs.Common.{◌≡◌, ℕ, ◌+◌, ◌*◌, ◌/◌, ◌<◌, ◌≤◌, List, length, Option, sym, ◌∙◌, ap, subst, arith}
use Rattle.std.proofs.Math.Nat.{mul-le-mul, mul-le-mul_right, div-div-eq-div-mul}
use Rattle.std.proofs.lemmas.Nat.{le-div}
use Rattle.std.proofs.lemmas.List.FromFn.{length-map-range_with_len}
use Rattle.dada_model.specs.Bounds.{ObservationInRange}
use Rattle.dada_model.specs.Observation.{Observation}
use Rattle.search_model.specs.Observed.{filterbank_of}
use Rattle.search_engine.specs.Scope.{spectrum_size}
use Rattle.search_model.specs.Samples.{sample_at, sample_bytes, samples_of}
use Rattle.shard_search.specs.Sought.{Sought}
use Rattle.search_model.specs.declared.search.Search.{Search}
use Rattle.search_engine.specs.Engine.{KnowsSizes, chunk_of}
use Rattle.search_engine.specs.Scope.{limit_in_bytes}
use Rattle.spectra_rows.specs.Unpacking.{OpenedAlike, Unpacking, StandsForBytes, held_bytes, spectrum_bytes}

pub sample_some : (o : Observation) → ObservationInRange o → 1 ≤ sample_bytes o.nbit o.npol
sample_some o range =
    let product : 1 * 8 ≤ o.npol * o.nbit = mul-le-mul range.few_polarisations range.few_bits in
    le-div 1 (o.npol * o.nbit) 8 (omega arith) product

pub size_some : (o : Observation) → ObservationInRange o → 2 ≤ spectrum_size o
size_some o range =
    let product : 2 * 1 ≤ o.channels * sample_bytes o.nbit o.npol =
    mul-le-mul range.few_channels (sample_some o range) in
    omega (arith, product)

-- so many spectra are whole
pub whole_are : (o : Observation) → ObservationInRange o → (bytes : List ℕ) (g : ℕ) →
    g * spectrum_size o ≤ length bytes → g ≤ (filterbank_of o bytes).spectra
whole_are o range bytes g fits =
    let s : ℕ = sample_bytes o.nbit o.npol in
    let some = sample_some o range in
    let few = range.few_channels in
    let count = length-map-range_with_len (λ i. sample_at o.nbit o.npol bytes i) 0 (length bytes / s) in
    let product : g * o.channels * s ≤ length bytes = omega (arith, fits) in
    let samples : g * o.channels ≤ length bytes / s = le-div (g * o.channels) (length bytes) s (omega
    (arith, some)) product in
    le-div g (length (samples_of o.nbit o.npol bytes)) o.channels (omega (arith, few))
    (subst (λ n. g * o.channels ≤ n) (sym count) samples)

-- the spectra that were given up are among the bytes
pub given_fit : (u : Unpacking) (bytes : List ℕ) (gone : ℕ) → StandsForBytes u bytes gone →
    gone * spectrum_bytes u ≤ length bytes
given_fit u bytes gone stands = let size = stands.size in omega (arith, size)

-- and so are those that are held
pub held_fit : (u : Unpacking) (bytes : List ℕ) (gone : ℕ) → StandsForBytes u bytes gone →
    (gone + u.whole) * spectrum_bytes u ≤ length bytes
held_fit u bytes gone stands = let size = stands.size in omega (arith, size)

-- where fewer spectra than a chunk are held there is room for a byte
pub room_left : (u : Unpacking) → length u.part < spectrum_bytes u → u.whole < u.chunk →
    held_bytes u < u.chunk * spectrum_bytes u
room_left u part short =
    let all : (u.whole + 1) * spectrum_bytes u ≤ u.chunk * spectrum_bytes u = mul-le-mul_right (spectrum_bytes u)
    (let l : u.whole + 1 ≤ u.chunk = omega arith in l) in
    omega (arith, all, part)

-- a chunk has some spectra
pub chunk_has_some : (s : Search) → 1 ≤ s.chunk → 1 ≤ chunk_of s
chunk_has_some s some = omega (arith, some)

-- no whole spectrum is left where all were given up
pub none_left : (u v : Unpacking) → v ≡ record u { whole = 0 } → 1 ≤ u.chunk → v.whole < v.chunk
none_left u v is chunk = subst (λ (w : Unpacking). w.whole < w.chunk) (sym is) (omega (arith, chunk))

-- so many spectra are all bytes
pub spectra_are : (o : Observation) (bytes : List ℕ) →
    (filterbank_of o bytes).spectra ≡ length bytes / spectrum_size o
spectra_are o bytes =
    let s : ℕ = sample_bytes o.nbit o.npol in
    let count = length-map-range_with_len (λ i. sample_at o.nbit o.npol bytes i) 0 (length bytes / s) in
    let turned : s * o.channels ≡ spectrum_size o = omega arith in
    ap (λ n. n / o.channels) count ∙ div-div-eq-div-mul (length bytes) s o.channels
    ∙ ap (λ n. length bytes / n) turned

-- unpackers that were opened alike have spectra of one size
pub same_size : (u v : Unpacking) → OpenedAlike v u → spectrum_bytes v ≡ spectrum_bytes u
same_size u v alike =
    let a = alike.channels in
    let b = alike.nbit in
    let c = alike.npol in
    cc

-- and so the sizes that are kept stay
pub sizes_kept : (chunk spectrum skipped : ℕ) (stop : Option ℕ) (u v : Unpacking) (c d : Sought) →
    KnowsSizes chunk spectrum skipped stop u c → OpenedAlike v u → d ≡ c →
    KnowsSizes chunk spectrum skipped stop v d
sizes_kept chunk spectrum skipped stop u v c d knows alike is =
    let size = sym (same_size u v alike) in
    let P : Sought → Type 0 = λ x. KnowsSizes chunk spectrum skipped stop v x in
    subst P (sym is) (record {
      chunk_is = knows.chunk_is ∙ sym alike.chunk;
      spectrum_is = knows.spectrum_is ∙ size;
      skipped_is = knows.skipped_is ∙ ap (λ n. c.first * n) size;
      stop_is = knows.stop_is ∙ ap (λ n. limit_in_bytes n c.until) size;
    })
