-- What the book of an engine has that looks for a part.
use Rattle.std.proofs.Common.{◌≡◌, ◌∙◌, ℕ, ◌+◌, ◌-◌, ◌*◌, ◌/◌, ◌%◌, ◌≤◌, ◌<◌, ◌&&◌, ◌++◌, inl, inr, All, Bool, cond, leb, ltb, List, [], length, take, drop, min, refl, sym, ap, subst, arith, length-drop, length-append}
use Rattle.std.specs.Prelude.{Option, None, Some}
use Rattle.std.proofs.Math.Nat.{div-eq_of_lt-le, mul-le-mul_right}
use Rattle.std.proofs.lemmas.Bool.{cases_lt, le-leb, lt-leb, lt-ltb}
use Rattle.std.proofs.lemmas.Nat.{le-div}
use Rattle.std.proofs.lemmas.List.{append-nil, take_all}
use Rattle.std.proofs.lemmas.List.Elements.{All-append}
use Rattle.candidate_book.specs.Book.{book_of}
use Rattle.dada_model.specs.Bounds.{ObservationInRange}
use Rattle.dada_model.specs.Edges.{AreEdges}
use Rattle.dada_model.specs.Laws.{EdgesFall}
use Rattle.dada_model.specs.Observation.{Observation, edges}
use Rattle.fold_search.specs.Cells.{CellCounts, cells_by}
use Rattle.fold_search.specs.Cells.CellCounts.{Plain}
use Rattle.search_model.specs.declared.search.Search.{Search}
use Rattle.search_model.specs.Candidates.{plain_cells, candidates, folds, shard_part, within_delays}
use Rattle.search_model.specs.Observed.{candidates_of, filterbank_of}
use Rattle.search_model.specs.Parts.{first_needed, within_part, without_first}
use Rattle.search_model.specs.Plan.{plan_refusal}
use Rattle.search_model.specs.SampleLaws.{SamplesOfBytes}
use Rattle.search_model.specs.Samples.{Filterbank, samples_of}
use Rattle.search_model.specs.Search.{SettingsInRange, shard_start}
use Rattle.shard_search.specs.Laws.{ShardsAreListed}
use Rattle.shard_search.specs.Pulses.{pulses_of_ends}
use Rattle.shard_search.specs.Sought.{Sought, part_of, sought_of}
use Rattle.shard_search.specs.Sums.{sums_of}
use Rattle.search_engine.specs.Engine.{BeginsWith, EngineState, HasFoundIn, HoldsNoFullChunk, SameShard, Searches, StandsForPart, chunk_of, scope_of, searched_to}
use Rattle.search_engine.specs.Scope.{Scope, bytes_before, bytes_in, kept_samples, limit_in_bytes, scope_of_part, spectrum_size}
use Rattle.search_engine.proofs.Data.{bits, data_begin, place_in_spectrum, sample_is_there}
use Rattle.search_engine.proofs.Feeding.{size_is}
use Rattle.search_engine.proofs.PartFound.{begins, long, part_values}
use Rattle.search_engine.proofs.PartFound.{needed as wanted}
use Rattle.search_engine.proofs.PartLists.{cut_part, no_folds}
use Rattle.search_engine.proofs.PartSamples.{length_take, rest_is}
use Rattle.search_engine.proofs.PlanFits.{shard_delays}
use Rattle.search_engine.proofs.Sizes.{given_fit, size_some, spectra_are}
use Rattle.search_engine.proofs.WholeChunks.{rest_of}
use Rattle.search_engine.proofs.Windows.{IsInside, part_of_delays, part_of_part, window_kept}

-- ---- the pulses of a part, in the spectra that are needed

-- ends before `limit` are sought from `place` on, and in the larger window from `needed` on
inside_window : (n first needed place until limit u : ℕ) → needed ≤ place → first + u < limit → limit ≤ until →
    IsInside (part_of n first place until) place limit (part_of n first needed limit) u
inside_window n first needed place until limit u less below within = (
  ap (λ b. leb place (first + u) && b)
      (lt-ltb (first + u) limit below ∙ sym (lt-ltb (first + u) until (omega (arith, below, within)))),
  elim (cases_lt (first + u) place) [
    | inl before ↦ inl (ap (λ b. b && ltb (first + u) until) (lt-leb place (first + u) before))
    | inr from ↦ inr (ap (λ b. b && ltb (first + u) limit) (le-leb needed (first + u) (omega (arith, from, less)))
        ∙ lt-ltb (first + u) limit below)
  ],
)

-- a shard of a search of an observation
pub record IsShardOf (o : Observation) (s : Search) (k : ℕ) : Type 0 where
  pub bounds : ObservationInRange o
  pub range : SettingsInRange s
  pub shard : k < s.shards
  pub accepted : plan_refusal o s ≡ None

module _ (listed : ShardsAreListed) (fall : EdgesFall) (o : Observation) (s : Search) (k : ℕ) (is : IsShardOf o s k)
    (off : s.fold_max < s.fold_min) (needed place until limit : ℕ) (less : needed ≤ place)
    (within : limit ≤ until) (f : Filterbank) (channels : f.channels ≡ o.channels) where
  abbrev first : ℕ
  first = first_needed s needed

  -- the spectra before the limit, and those of them that are needed
  abbrev before : Filterbank
  before = record f { spectra = min f.spectra limit }

  abbrev rest : Filterbank
  rest = without_first first before

  abbrev lo : ℕ
  lo = shard_start s k

  abbrev hi : ℕ
  hi = shard_start s (k + 1)

  -- all that is sought are pulses
  pub sought_is : (c : Sought) → c.counts ≡ Plain o.channels →
      pulses_of_ends (sums_of rest (edges o)) s c lo hi 0 rest.spectra
      ≡ shard_part s k (sought_of c (candidates rest (edges o) (plain_cells o.channels) s))
  sought_is c plain =
      let list = pulses_of_ends (sums_of rest (edges o)) s c lo hi 0 rest.spectra in
      let Cells : CellCounts → Type 0 = λ x. list ++ within_delays lo hi (folds rest (edges o) (cells_by x) s)
      ≡ shard_part s k (sought_of c (candidates rest (edges o) (cells_by x) s)) in
      let both = subst Cells plain (listed.part rest (edges o) s c k
      (subst (λ n. AreEdges n (edges o)) (sym channels) (fall o is.bounds))
      (shard_delays o s k is.range is.accepted is.shard)) in
      sym (ap (λ xs. list ++ within_delays lo hi xs) (no_folds rest (edges o) (plain_cells o.channels) s off)
      ∙ append-nil list) ∙ both

  pub part_is : pulses_of_ends (sums_of rest (edges o)) s (part_of o.channels first place until) lo hi 0 rest.spectra
      ≡ shard_part s k (within_part place limit (candidates f (edges o) (plain_cells o.channels) s))
  part_is =
      let c = part_of o.channels first place until in
      let d = part_of o.channels first needed limit in
      let y = sums_of rest (edges o) in
      let all = candidates before (edges o) (plain_cells o.channels) s in
      sym (window_kept y s c d place limit lo hi rest.spectra refl refl
      (λ u early. inside_window o.channels first needed place until limit u less (omega (arith, early)) within))
      ∙ ap (within_part place limit) (sought_is d refl)
      ∙ ap (λ xs. within_part place limit (shard_part s k xs))
      (listed.needed before (edges o) (Plain o.channels) s needed limit off)
      ∙ part_of_delays place limit lo hi (within_part needed limit all)
      ∙ ap (within_delays lo hi) (part_of_part needed place limit less all
      ∙ cut_part f (edges o) (plain_cells o.channels) s place limit off)

-- ---- how many spectra were searched

-- the bytes that are searched of some that all come before the limit
bytes_long : (z : ℕ) (bytes : List ℕ) (first until : ℕ) → length bytes ≤ until * z →
    length (drop (first * z) (take (until * z) bytes)) ≡ length bytes - first * z
bytes_long z bytes first until few =
    length-drop (first * z) (take (until * z) bytes)
    ∙ ap (λ (ys : List ℕ). length ys - first * z) (take_all (until * z) bytes few)

chunks_of : (z gone whole part chunk all : ℕ) → 0 < z → all ≡ (gone + whole) * z + part → part < z →
    gone % chunk ≡ 0 → whole < chunk → gone ≡ all / z - all / z % chunk
chunks_of z gone whole part chunk all some size short even few =
    let next : (gone + whole + 1) * z ≡ (gone + whole) * z + z = omega arith in
    let count : all / z ≡ gone + whole = div-eq_of_lt-le z (omega (arith, size)) (omega (arith, size, short, next)) in
    let left = rest_of gone whole chunk (all / z) count even few in
    omega (arith, count, left)

pub chunks_searched : (o : Observation) (bytes : List ℕ) (e : EngineState) (until : ℕ) →
    e.sums.pulses.sought.until ≡ Some until → length bytes ≤ until * spectrum_size o →
    StandsForPart o bytes e → HoldsNoFullChunk e →
    e.sums.carry.fed ≡ ((filterbank_of o bytes).spectra - e.sums.pulses.sought.first)
    - ((filterbank_of o bytes).spectra - e.sums.pulses.sought.first) % chunk_of e.search
chunks_searched o bytes e until limit few stands short =
    let holds = stands.chunks.holds in
    let s = holds.searches in
    let z = spectrum_size o in
    let first = e.sums.pulses.sought.first in
    let some = size_some o s.bounds in
    let size = size_is o e s in
    let xs : List ℕ = bytes_in o e.sums.pulses.sought bytes in
    let long : length xs ≡ length bytes - first * z =
    ap (λ (m : Option ℕ). length (drop (first * z) (bytes_before
    (limit_in_bytes z m) bytes))) limit ∙ bytes_long z bytes first until few in
    let P : ℕ → Type 0 = λ n. length xs ≡ (e.sums.carry.fed + e.unpacker.whole) * n + length e.unpacker.part in
    let count = subst P size holds.held.size in
    let part = holds.held.short in
    let chunk = s.chunk in
    let fed = chunks_of z e.sums.carry.fed e.unpacker.whole (length e.unpacker.part) (chunk_of e.search) (length xs)
    (omega (arith, some)) count (omega (arith, part, size)) stands.chunks.chunks
    (subst (λ n. e.unpacker.whole < n) chunk short) in
    let whole : length xs / z ≡ (filterbank_of o bytes).spectra - first =
    ap (λ n. n / z) long ∙ rest_is z (length bytes) first (omega (arith, some))
    ∙ ap (λ n. n - first) (sym (spectra_are o bytes)) in
    fed ∙ ap (λ n. n - n % chunk_of e.search) whole

-- ---- the part so far

-- data that follow change no sample before them
value_more : SamplesOfBytes → (o : Observation) (bytes more : List ℕ) → ObservationInRange o → (c t : ℕ) →
    c < o.channels → t < (filterbank_of o bytes).spectra →
    (filterbank_of o (bytes ++ more)).value c t ≡ (filterbank_of o bytes).value c t
value_more law o bytes more bounds c t channel early =
    let some = bounds.few_polarisations in
    let place : ℕ = cond o.is_falling c (o.channels - 1 - c) in
    law.kept o.nbit o.npol bytes more (t * o.channels + place) (bits o bounds) (omega arith)
    (sample_is_there o.channels (length (samples_of o.nbit o.npol bytes)) (filterbank_of o bytes).spectra place t
    (let l : (filterbank_of o bytes).spectra ≤ (filterbank_of o bytes).spectra = omega arith in l)
    (place_in_spectrum o.is_falling c o.channels channel) early)

-- the spectra that were searched are among those of the data
among : (z gone long all first spectra : ℕ) → 0 < z → gone * z ≤ long → long ≤ all - first * z → spectra ≡ all / z →
    min spectra (first + gone) - first ≡ gone
among z gone long all first spectra some fits few count = elim (cases_lt 0 gone) [
  | inl more ↦
      let split : (first + gone) * z ≡ first * z + gone * z = omega arith in
      let rows : 1 * z ≤ gone * z = mul-le-mul_right z more in
      let there : first + gone ≤ all / z = le-div (first + gone) all z some (omega (arith, split, fits, few, rows, some)) in
      omega (arith, there, count)
  | inr none ↦ omega (arith, none)
]

-- how many bytes are searched of some
fewer : (z : ℕ) (bytes : List ℕ) (first until : ℕ) →
    length (drop (first * z) (take (until * z) bytes)) ≤ length bytes - first * z
fewer z bytes first until =
    let cut = length_take (until * z) bytes in
    let rest = length-drop (first * z) (take (until * z) bytes) in
    omega (arith, cut, rest)

module _ (law : SamplesOfBytes) (listed : ShardsAreListed) (fall : EdgesFall) (o : Observation)
    (bytes more : List ℕ) (e : EngineState) (needed place until : ℕ)
    (off : e.search.fold_max < e.search.fold_min) (less : needed ≤ place) (within : searched_to e ≤ until)
    (scope : scope_of e ≡ scope_of_part o.channels (first_needed e.search needed) place until)
    (numbers : All (λ byte. byte < 256) more) (stands : StandsForPart o bytes e) where
  s : Searches o e
  s = stands.chunks.holds.searches

  is : IsShardOf o e.search e.shard
  is = record { bounds = s.bounds; range = s.range; shard = s.shard; accepted = s.accepted }

  abbrev begin : ℕ
  begin = first_needed e.search needed

  abbrev window : Sought
  window = part_of o.channels begin place until

  sought : e.sums.pulses.sought ≡ window
  sought = ap (λ (c : Scope). c.sought) scope

  masked : e.masked ≡ []
  masked = ap (λ (c : Scope). c.masked) scope

  abbrev all : Filterbank
  all = filterbank_of o (bytes ++ more)

  abbrev so_far : Filterbank
  so_far = without_first begin (record all { spectra = min all.spectra (begin + e.sums.carry.fed) })

  -- the bytes that were searched
  abbrev own : List ℕ
  own = bytes_in o window bytes

  held : e.sums.carry.fed * spectrum_size o ≤ length own
  held =
      let Own : Sought → Type 0 = λ c. e.sums.carry.fed * spectrum_size o ≤ length (bytes_in o c bytes) in
      let Size : ℕ → Type 0 = λ z. e.sums.carry.fed * z ≤ length (bytes_in o e.sums.pulses.sought bytes) in
      subst Own sought (subst Size (size_is o e s)
      (given_fit e.unpacker (bytes_in o e.sums.pulses.sought bytes) e.sums.carry.fed stands.chunks.holds.held))

  so_long : so_far.spectra ≡ e.sums.carry.fed
  so_long =
      let some = size_some o s.bounds in
      let both = length-append bytes more in
      let few = fewer (spectrum_size o) bytes begin until in
      among (spectrum_size o) e.sums.carry.fed (length own) (length (bytes ++ more)) begin all.spectra
      (omega (arith, some)) held (omega (arith, few, both)) (spectra_are o (bytes ++ more))

  -- a spectrum that was searched is a whole one of the bytes
  early_own : (t : ℕ) → t < e.sums.carry.fed → t < (filterbank_of o own).spectra
  early_own t early =
      let some = size_some o s.bounds in
      let there = le-div e.sums.carry.fed (length own) (spectrum_size o) (omega (arith, some)) held in
      let count = spectra_are o own in
      omega (arith, there, count, early)

  early_all : (t : ℕ) → t < e.sums.carry.fed → begin + t < (filterbank_of o bytes).spectra
  early_all t early =
      let z = spectrum_size o in
      let some = size_some o s.bounds in
      let few = fewer z bytes begin until in
      let same = among z e.sums.carry.fed (length own) (length bytes) begin (filterbank_of o bytes).spectra
      (omega (arith, some)) held few (spectra_are o bytes) in
      omega (arith, same, early)

  values : (c t : ℕ) → c < o.channels → t < e.sums.carry.fed →
      so_far.value c t ≡ (kept_samples o [] own).value c t
  values c t channel early =
      value_more law o bytes more s.bounds c (begin + t) channel (early_all t early)
      ∙ part_values law o bytes begin until s.bounds c t channel (early_own t early)

  so_begins : BeginsWith o (kept_samples o [] own) e.sums.carry.fed so_far
  so_begins = record {
    channels = refl;
    small = λ c t. (data_begin law o [] (bytes ++ more) 0 s.bounds
        (All-append (λ byte. byte < 256) bytes more stands.numbers numbers)).small c (begin + t);
    same = values;
  }

  pub found_so_far : e.book ≡ book_of e.search.max_candidates (shard_part e.search e.shard
      (within_part place (searched_to e) (candidates_of o e.search (bytes ++ more))))
  found_so_far =
      let Marks : List Bool → Sought → Type 0 =
      λ m c. BeginsWith o (kept_samples o m (bytes_in o c bytes)) e.sums.carry.fed so_far in
      let begun = subst (λ m. Marks m e.sums.pulses.sought) (sym masked) (subst (Marks []) (sym sought) so_begins) in
      let to : searched_to e ≡ begin + e.sums.carry.fed = ap (λ (c : Sought). c.first + e.sums.carry.fed) sought in
      stands.chunks.book so_far begun
      ∙ ap (λ (c : Sought). book_of e.search.max_candidates (pulses_of_ends (sums_of so_far (edges o)) e.search c
      (shard_start e.search e.shard) (shard_start e.search (e.shard + 1)) 0 e.sums.carry.fed)) sought
      ∙ ap (λ n. book_of e.search.max_candidates (pulses_of_ends (sums_of so_far (edges o)) e.search window
      (shard_start e.search e.shard) (shard_start e.search (e.shard + 1)) 0 n)) (sym so_long)
      ∙ ap (λ xs. book_of e.search.max_candidates xs)
      (part_is listed fall o e.search e.shard is off needed place until (begin + e.sums.carry.fed) less
      (omega (arith, within, to)) all refl)
      ∙ ap (λ n. book_of e.search.max_candidates (shard_part e.search e.shard
      (within_part place n (candidates_of o e.search (bytes ++ more))))) (sym to)

-- ---- all of the part

pub found_all : SamplesOfBytes → ShardsAreListed → EdgesFall → (o : Observation) (front bytes : List ℕ)
    (d e : EngineState) (needed place until : ℕ) → e.search.fold_max < e.search.fold_min → needed ≤ place →
    StandsForPart o front d → SameShard e d →
    HasFoundIn o (scope_of_part o.channels (first_needed e.search needed) place until) bytes e →
    e.book ≡ book_of e.search.max_candidates (shard_part e.search e.shard
    (within_part place until (candidates_of o e.search bytes)))
found_all law listed fall o front bytes d e needed place until off less stands same found =
    let s = stands.chunks.holds.searches in
    let first = first_needed e.search needed in
    let Is : Search → ℕ → Type 0 = λ x k. IsShardOf o x k in
    let opened : Is d.search d.shard = record {
      bounds = s.bounds;
      range = s.range;
      shard = s.shard;
      accepted = s.accepted;
    } in
    let is = subst (λ x. Is x e.shard) (sym same.search) (subst (Is d.search) (sym same.shard) opened) in
    let f = filterbank_of o bytes in
    let most : until ≤ until = omega arith in
    found.alike (wanted law o bytes e first place until found) (begins law o bytes e first place until found)
    (long law o bytes e first place until found)
    ∙ ap (λ xs. book_of e.search.max_candidates xs)
    (sym (sought_is listed fall o e.search e.shard is off needed place until until less most f refl
    (part_of o.channels first place until) refl)
    ∙ part_is listed fall o e.search e.shard is off needed place until until less most f refl)
