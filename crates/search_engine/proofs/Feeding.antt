-- What an engine holds after bytes were pushed, and after its spectra were searched.
use Rattle.std.proofs.Common.{◌≡◌, ℕ, ◌+◌, ◌-◌, ◌*◌, ◌^◌, ◌<◌, ◌≤◌, ◌++◌, All, Bool, List, length, min, take, length-take-le, slice_index, refl, sym, ◌∙◌, ap, subst, arith, length-append}
use Rattle.std.proofs.Math.Nat.{mul-le-mul_left}
use Rattle.std.proofs.lemmas.List.Elements.{All-append, All-take}
use Rattle.band_paths.specs.Edges.{channels_of}
use Rattle.candidate_book.specs.Book.{BookContents}
use Rattle.dada_model.specs.Laws.{EdgesFall}
use Rattle.dada_model.specs.Observation.{Observation, edges}
use Rattle.fdmt_carry.specs.Carrying.{AreNext}
use Rattle.fdmt_carry.specs.Tables.{Tables}
use Rattle.search_model.specs.Masks.{kept_of}
use Rattle.search_model.specs.Observed.{filterbank_of}
use Rattle.search_model.specs.SampleLaws.{SamplesOfBytes}
use Rattle.search_model.specs.Samples.{Filterbank, filterbank, samples_of}
use Rattle.spectra_rows.specs.Unpacking.{OpenedAlike, Unpacking, StandsForBytes, spectrum_bytes, unpacked}
use Rattle.subband_plan.specs.Nodes.{BandPlan}
use Rattle.search_engine.specs.Engine.{EngineState, Searches, HoldsData, HasTakenChunks, BeginsWith, most_fed}
use Rattle.search_engine.specs.Scope.{kept_by, kept_samples, spectrum_size}
use Rattle.shard_search.specs.Sums.{ShardState, StandsForStream, ContinuesStream, SumsAlike}
use Rattle.search_engine.proofs.Data.{begins_before, data_begin}
use Rattle.search_engine.proofs.Sizes.{size_some, whole_are, given_fit, held_fit}

-- the unpacker's spectra are those of the observation
pub size_is : (o : Observation) (e : EngineState) → Searches o e → spectrum_bytes e.unpacker ≡ spectrum_size o
size_is o e s =
    let a = s.channels in
    let b = s.nbit in
    let c = s.npol in
    cc

pub unpacked_is : (o : Observation) (e : EngineState) (bytes : List ℕ) → Searches o e →
    unpacked e.unpacker bytes ≡ filterbank_of o bytes
unpacked_is o e bytes s =
    let u = e.unpacker in
    ap (λ n. filterbank n u.is_falling (samples_of u.nbit u.npol bytes)) s.channels
    ∙ ap (λ b. filterbank o.channels b (samples_of u.nbit u.npol bytes)) s.is_falling
    ∙ ap (λ n. filterbank o.channels o.is_falling (samples_of n u.npol bytes)) s.nbit
    ∙ ap (λ n. filterbank o.channels o.is_falling (samples_of o.nbit n bytes)) s.npol

-- there are no more marks than channels, and few of them
pub marks_fit : (o : Observation) (e : EngineState) → Searches o e → length e.masked ≤ e.unpacker.channels
marks_fit o e s = let marks = s.marks in let own = s.channels in omega (arith, marks, own)

pub few_channels : (o : Observation) (e : EngineState) → Searches o e → e.unpacker.channels ≤ 4096
few_channels o e s = let many = s.bounds.many_channels in let own = s.channels in omega (arith, many, own)

-- the samples that an unpacker has after its masked rows were hidden
pub kept_is : (o : Observation) (e : EngineState) (bytes : List ℕ) → Searches o e →
    kept_of (kept_by e.masked) (unpacked e.unpacker bytes) ≡ kept_samples o e.masked bytes
kept_is o e bytes s = ap (kept_of (kept_by e.masked)) (unpacked_is o e bytes s)

-- rows have the samples of the spectra that are held
abbrev pub HasRows : EngineState → List ℕ → List ℕ → Type 0
HasRows e bytes rows =
    (c t : ℕ) → c < e.unpacker.channels → t < e.unpacker.whole
    → slice_index rows (c * e.unpacker.chunk + t)
    ≡ (kept_of (kept_by e.masked) (unpacked e.unpacker bytes)).value c (e.sums.carry.fed + t)

pub channels_are : EdgesFall → (o : Observation) (e : EngineState) → Searches o e →
    channels_of e.sums.carry.tables.plan.edges ≡ o.channels
channels_are fall o e s =
    let count = (fall o s.bounds).count in
    ap (λ (p : BandPlan). channels_of p.edges) s.plan ∙ (let n : length (edges o) - 1 ≡ o.channels = omega arith in n)

-- the search is of the same observation with another unpacker that is opened alike
pub searches_with : (o : Observation) (e : EngineState) (u : Unpacking) (fed : ℕ) → Searches o e →
    OpenedAlike u e.unpacker → Searches o (record e { fed = fed; unpacker = u })
searches_with o e u fed s alike = record {
  bounds = s.bounds;
  range = s.range;
  shard = s.shard;
  accepted = s.accepted;
  marks = s.marks;
  channels = alike.channels ∙ s.channels;
  is_falling = alike.is_falling ∙ s.is_falling;
  nbit = alike.nbit ∙ s.nbit;
  npol = alike.npol ∙ s.npol;
  chunk = alike.chunk ∙ s.chunk;
  plan = s.plan;
  rows = s.rows;
  most = s.most;
  max_sample = s.max_sample;
  search = s.search;
}

-- ---- bytes are passed over

-- that more bytes were fed changes nothing
more_holds : (o : Observation) (taken : List ℕ) (e : EngineState) (n : ℕ) → HoldsData o taken e →
    e.fed + n ≤ most_fed → HoldsData o taken (record e { fed = e.fed + n })
more_holds o taken e n holds most =
    let few = holds.few in
    record {
      searches = searches_with o e e.unpacker (e.fed + n) holds.searches (record {
        channels = refl;
        is_falling = refl;
        nbit = refl;
        npol = refl;
        chunk = refl;
        in_bytes = refl;
      });
      numbers = holds.numbers;
      few = omega (arith, few);
      most = most;
      held = holds.held;
      sums = holds.sums;
    }

pub more_taken : (o : Observation) (taken : List ℕ) (e : EngineState) (n : ℕ) → HasTakenChunks o taken e →
    e.fed + n ≤ most_fed → HasTakenChunks o taken (record e { fed = e.fed + n })
more_taken o taken e n has most = record {
  holds = more_holds o taken e n has.holds most;
  chunks = has.chunks;
  book = has.book;
}

-- ---- bytes are pushed

pub pushed_holds : SamplesOfBytes → (o : Observation) (before piece : List ℕ) (e : EngineState) (u : Unpacking)
    (n : ℕ) → HoldsData o before e → OpenedAlike u e.unpacker → length piece ≡ n →
    (StandsForBytes e.unpacker before e.sums.carry.fed → StandsForBytes u (before ++ piece) e.sums.carry.fed) →
    All (λ byte. byte < 256) piece → e.fed + n ≤ most_fed →
    HoldsData o (before ++ piece) (record e { fed = e.fed + n; unpacker = u })
pushed_holds law o before piece e u n holds alike long pieces numbers most =
    let s = holds.searches in
    let gone = given_fit e.unpacker before e.sums.carry.fed holds.held in
    let size = size_is o e s in
    let P : ℕ → Type 0 = λ k. e.sums.carry.fed * k ≤ length before in
    let whole = whole_are o s.bounds before e.sums.carry.fed (subst P size gone) in
    let count = holds.few in
    let both = length-append before piece in
    record {
      searches = searches_with o e u (e.fed + n) s alike;
      numbers = All-append (λ byte. byte < 256) before piece holds.numbers numbers;
      few = omega (arith, count, both, long);
      most = most;
      held = pieces holds.held;
      sums = λ f begins. holds.sums f (begins_before law o e.masked before piece e.sums.carry.fed e.sums.carry.fed f
          s.bounds (let l : e.sums.carry.fed ≤ e.sums.carry.fed = omega arith in l) whole begins);
    }

-- the same of bytes of which n are taken
pub piece_holds : SamplesOfBytes → (o : Observation) (before bytes : List ℕ) (e : EngineState) (u : Unpacking)
    (n room : ℕ) → HoldsData o before e → n ≡ min room (length bytes) → OpenedAlike u e.unpacker →
    (StandsForBytes e.unpacker before e.sums.carry.fed →
    StandsForBytes u (before ++ take n bytes) e.sums.carry.fed) →
    All (λ byte. byte < 256) bytes → e.fed + length bytes ≤ most_fed →
    HoldsData o (before ++ take n bytes) (record e { fed = e.fed + n; unpacker = u })
piece_holds law o before bytes e u n room holds count alike pieces numbers most =
    let within : n ≤ length bytes = omega (arith, count) in
    pushed_holds law o before (take n bytes) e u n holds alike (length-take-le n bytes within) pieces
    (All-take (λ byte. byte < 256) n bytes numbers) (omega (arith, most, within))

-- a stream that begins with more data begins with those before
pub begins_old : SamplesOfBytes → (o : Observation) (before piece : List ℕ) (e : EngineState) (v : ℕ) (f : Filterbank) →
    HoldsData o before e → e.sums.carry.fed ≤ v → BeginsWith o (kept_samples o e.masked (before ++ piece)) v f →
    BeginsWith o (kept_samples o e.masked before) e.sums.carry.fed f
begins_old law o before piece e v f holds less begins =
    let s = holds.searches in
    let P : ℕ → Type 0 = λ k. e.sums.carry.fed * k ≤ length before in
    begins_before law o e.masked before piece e.sums.carry.fed v f s.bounds less
    (whole_are o s.bounds before e.sums.carry.fed (subst P (size_is o e s)
    (given_fit e.unpacker before e.sums.carry.fed holds.held))) begins

-- ---- the spectra that are held are searched

pub rows_long : EdgesFall → (o : Observation) (e : EngineState) (count : ℕ) → Searches o e →
    count ≡ e.unpacker.channels * e.unpacker.chunk →
    count ≡ channels_of e.sums.carry.tables.plan.edges * e.sums.carry.tables.chunk
rows_long fall o e count s is =
    is ∙ ap (λ n. n * e.unpacker.chunk) (s.channels ∙ sym (channels_are fall o e s))
    ∙ ap (λ n. channels_of e.sums.carry.tables.plan.edges * n) (s.chunk ∙ sym s.rows)

-- a stream that begins with more of the data begins with less of them
pub begins_less : (o : Observation) (g : Filterbank) (u v : ℕ) (f : Filterbank) → u ≤ v → BeginsWith o g v f →
    BeginsWith o g u f
begins_less o g u v f less begins = record {
  channels = begins.channels;
  small = begins.small;
  same = λ c t channel early. begins.same c t channel (omega arith);
}

pub next_spectra : (o : Observation) (bytes rows : List ℕ) (e : EngineState) (r : ℕ) → HoldsData o bytes e →
    r ≤ e.unpacker.whole →
    HasRows e bytes rows →
    (f : Filterbank) → BeginsWith o (kept_samples o e.masked bytes) (e.sums.carry.fed + r) f →
    AreNext e.sums.carry f rows r
next_spectra o bytes rows e r holds few samples f begins = λ channel i within early.
    let s = holds.searches in
    let channels = begins.channels in
    let own = s.channels in
    let chunk : e.sums.carry.tables.chunk ≡ e.unpacker.chunk = s.rows ∙ sym s.chunk in
    ap (λ n. slice_index rows (channel * n + i)) chunk
    ∙ samples channel i (omega (arith, channels, own, within)) (omega (arith, few, early))
    ∙ ap (λ (g : Filterbank). g.value channel (e.sums.carry.fed + i)) (kept_is o e bytes s)
    ∙ sym (begins.same channel (e.sums.carry.fed + i) (omega (arith, channels, within)) (omega (arith, early)))

pub goes_on : SamplesOfBytes → (o : Observation) (bytes rows : List ℕ) (e : EngineState) (r : ℕ) →
    HoldsData o bytes e → r ≤ e.unpacker.whole →
    HasRows e bytes rows →
    ContinuesStream e.sums.carry rows r
goes_on law o bytes rows e r holds few samples =
    let f = kept_samples o e.masked bytes in
    let bounds = holds.searches.bounds in
    record {
      stream = f;
      stands = (holds.sums f (data_begin law o e.masked bytes e.sums.carry.fed bounds holds.numbers)).carry;
      next = next_spectra o bytes rows e r holds few samples f
          (data_begin law o e.masked bytes (e.sums.carry.fed + r) bounds holds.numbers);
    }

-- there are few spectra in all
pub few_spectra : (o : Observation) (bytes : List ℕ) (e : EngineState) (r : ℕ) → HoldsData o bytes e →
    r ≤ e.unpacker.whole → e.sums.carry.fed + r ≤ 2 ^ 47 + 2 ^ 27
few_spectra o bytes e r holds few =
    let s = holds.searches in
    let fits = held_fit e.unpacker bytes e.sums.carry.fed holds.held in
    let some = size_some o s.bounds in
    let size = size_is o e s in
    let count = holds.few in
    let most = holds.most in
    let all : ℕ = e.sums.carry.fed + e.unpacker.whole in
    let twice : all * 2 ≤ all * spectrum_bytes e.unpacker =
    mul-le-mul_left all (let l : 2 ≤ spectrum_bytes e.unpacker = omega (arith, some, size) in l) in
    omega (arith, fits, count, most, twice, few)

pub searched_holds : (o : Observation) (bytes rows : List ℕ) (e : EngineState) (u : Unpacking) (t : ShardState)
    (b : BookContents) (h : Bool) (r : ℕ) → HoldsData o bytes e → OpenedAlike u e.unpacker →
    r ≡ e.unpacker.whole →
    (StandsForBytes e.unpacker bytes e.sums.carry.fed →
    StandsForBytes u bytes (e.sums.carry.fed + e.unpacker.whole)) →
    SumsAlike t e.sums → t.carry.fed ≡ e.sums.carry.fed + r →
    HasRows e bytes rows →
    ((f : Filterbank) → StandsForStream e.sums f → AreNext e.sums.carry f rows r → StandsForStream t f) →
    HoldsData o bytes (record e { has_ended = h; unpacker = u; sums = t; book = b })
searched_holds o bytes rows e u t b h r holds is_alike whole given alike fed samples stands =
    let s = holds.searches in
    let few : r ≤ e.unpacker.whole = omega (arith, whole) in
    let P : ℕ → Type 0 = λ n. StandsForBytes u bytes n in
    let total : e.sums.carry.fed + e.unpacker.whole ≡ t.carry.fed = omega (arith, fed, whole) in
    record {
      searches = record {
        bounds = s.bounds;
        range = s.range;
        shard = s.shard;
        accepted = s.accepted;
        marks = s.marks;
        channels = is_alike.channels ∙ s.channels;
        is_falling = is_alike.is_falling ∙ s.is_falling;
        nbit = is_alike.nbit ∙ s.nbit;
        npol = is_alike.npol ∙ s.npol;
        chunk = is_alike.chunk ∙ s.chunk;
        plan = ap (λ (x : Tables). x.plan) alike.tables ∙ s.plan;
        rows = ap (λ (x : Tables). x.chunk) alike.tables ∙ s.rows;
        most = ap (λ (x : Tables). x.most) alike.tables ∙ s.most;
        max_sample = alike.max_sample ∙ s.max_sample;
        search = alike.search ∙ s.search;
      };
      numbers = holds.numbers;
      few = holds.few;
      most = holds.most;
      held = subst P total (given holds.held);
      sums = λ f begins.
          let B : ℕ → Type 0 = λ n. BeginsWith o (kept_samples o e.masked bytes) n f in
          let later = subst B fed begins in
          stands f
          (holds.sums f (begins_less o (kept_samples o e.masked bytes) e.sums.carry.fed (e.sums.carry.fed + r) f
          (omega arith) later))
          (next_spectra o bytes rows e r holds few samples f later);
    }
