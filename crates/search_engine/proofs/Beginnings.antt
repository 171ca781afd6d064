-- An engine that begins a part.
use Rattle.std.proofs.Common.{◌≡◌, ℕ, ◌+◌, ◌%◌, ◌<◌, ◌&&◌, false, List, [], max, sym, ◌∙◌, ap, subst, arith}
use Rattle.std.specs.Prelude.{Option}
use Rattle.std.proofs.lemmas.Bool.{lt-leb}
use Rattle.candidate_book.specs.Book.{BookContents, book_of}
use Rattle.dada_model.specs.Observation.{Observation, edges}
use Rattle.fdmt_carry.specs.Carrying.{Carrying}
use Rattle.search_model.specs.Samples.{Filterbank}
use Rattle.search_model.specs.Search.{shard_start}
use Rattle.shard_search.specs.Pulses.{pulses_of_ends}
use Rattle.shard_search.specs.Sought.{Sought, is_before, is_sought_end, sought_from}
use Rattle.shard_search.specs.Sums.{ShardState, StandsForStream, sums_of}
use Rattle.spectra_rows.specs.Unpacking.{StandsForBytes}
use Rattle.search_engine.specs.Engine.{BeginsWith, EngineIsSound, EngineState, HasTakenChunks, HoldsData, KnowsSizes, Searches, StandsForPart, chunk_of, searched_to}
use Rattle.search_engine.specs.Scope.{bytes_in, kept_samples}
use Rattle.search_engine.proofs.Windows.{none_sought}

-- what its parts become
pub record Begins (e : EngineState) (t : ShardState) (b : BookContents) : Type 0 where
  pub sought : t.pulses.sought ≡ sought_from (searched_to e) e.sums.pulses.sought
  pub search : t.pulses.search ≡ e.sums.pulses.search
  pub carry : t.carry ≡ e.sums.carry
  pub stands : (f : Filterbank) → StandsForStream e.sums f → StandsForStream t f
  pub empty : b ≡ book_of e.book.limit []

abbrev pub begun : EngineState → ShardState → BookContents → EngineState
begun e t b = record e { sums = t; book = b }

module _ (e : EngineState) (t : ShardState) (b : BookContents) (begins : Begins e t b) where
  searches : (o : Observation) → Searches o e → Searches o (begun e t b)
  searches o s =
      let same = begins.carry in
      record {
        bounds = s.bounds;
        range = s.range;
        shard = s.shard;
        accepted = s.accepted;
        marks = s.marks;
        channels = s.channels;
        is_falling = s.is_falling;
        nbit = s.nbit;
        npol = s.npol;
        chunk = s.chunk;
        plan = ap (λ (c : Carrying). c.tables.plan) same ∙ s.plan;
        rows = ap (λ (c : Carrying). c.tables.chunk) same ∙ s.rows;
        most = ap (λ (c : Carrying). c.tables.most) same ∙ s.most;
        max_sample = ap (λ (c : Carrying). c.max_sample) same ∙ s.max_sample;
        search = begins.search ∙ s.search;
      }

  fed : t.carry.fed ≡ e.sums.carry.fed
  fed = ap (λ (c : Carrying). c.fed) begins.carry

  pub begun_holds : (o : Observation) (bytes : List ℕ) → HoldsData o bytes e → HoldsData o bytes (begun e t b)
  begun_holds o bytes holds = record {
    searches = searches o holds.searches;
    numbers = holds.numbers;
    few = holds.few;
    most = holds.most;
    held = subst (λ n. StandsForBytes e.unpacker bytes n) (sym fed) holds.held;
    sums = λ f starts. begins.stands f (holds.sums f
        (subst (λ n. BeginsWith o
        (kept_samples o e.masked bytes) n f) fed starts));
  }

  -- no end of the spectra that were searched is sought
  past : (u : ℕ) → u < e.sums.carry.fed →
      is_sought_end (sought_from (searched_to e) e.sums.pulses.sought) u ≡ false
  past u early =
      let c = e.sums.pulses.sought in
      ap (λ x. x && is_before c.until (c.first + u))
      (lt-leb (max c.place (searched_to e)) (c.first + u) (omega (arith, early)))

  pub begun_chunks : (o : Observation) (bytes : List ℕ) → HasTakenChunks o bytes e →
      HasTakenChunks o bytes (begun e t b)
  begun_chunks o bytes has =
      let s = has.holds.searches in
      record {
        holds = begun_holds o bytes has.holds;
        chunks = subst (λ n. n % chunk_of e.search ≡ 0) (sym fed) has.chunks;
        book = λ f starts.
            let y = sums_of f (edges o) in
            let lo = shard_start e.search e.shard in
            let hi = shard_start e.search (e.shard + 1) in
            let B : ℕ → Type 0 = λ n. BeginsWith o (kept_samples o e.masked bytes) n f in
            let limit = ap (λ (x : BookContents). x.limit) (has.book f (subst B fed starts)) in
            begins.empty
            ∙ ap (λ n. book_of n []) limit
            ∙ ap (λ xs. book_of e.search.max_candidates xs)
            (sym (none_sought y e.search (sought_from (searched_to e) e.sums.pulses.sought) lo hi e.sums.carry.fed past))
            ∙ ap (λ n. book_of e.search.max_candidates (pulses_of_ends y e.search
            (sought_from (searched_to e) e.sums.pulses.sought) lo hi 0 n)) (sym fed)
            ∙ ap (λ c. book_of e.search.max_candidates (pulses_of_ends y e.search c lo hi 0 t.carry.fed))
            (sym begins.sought);
      }

  pub begun_part : (o : Observation) (bytes : List ℕ) → StandsForPart o bytes e → StandsForPart o bytes (begun e t b)
  begun_part o bytes stands = record {
    numbers = stands.numbers;
    count = stands.count;
    chunks = subst (λ (c : Sought). HasTakenChunks o (bytes_in o c bytes) (begun e t b)) (sym begins.sought)
        (begun_chunks o (bytes_in o e.sums.pulses.sought bytes) stands.chunks);
  }

  pub begun_sound : EngineIsSound e → EngineIsSound (begun e t b)
  begun_sound sound = record {
    observation = sound.observation;
    bytes = sound.bytes;
    holds = begun_holds sound.observation sound.bytes sound.holds;
    room = λ running. let none = ap (λ (x : BookContents). x.count) begins.empty in omega (arith, none);
  }

  pub begun_sizes : (chunk spectrum skipped : ℕ) (stop : Option ℕ) →
      KnowsSizes chunk spectrum skipped stop e.unpacker e.sums.pulses.sought →
      KnowsSizes chunk spectrum skipped stop e.unpacker t.pulses.sought
  begun_sizes chunk spectrum skipped stop knows =
      subst (λ (c : Sought). KnowsSizes chunk spectrum skipped stop e.unpacker c) (sym begins.sought) (record {
        chunk_is = knows.chunk_is;
        spectrum_is = knows.spectrum_is;
        skipped_is = knows.skipped_is;
        stop_is = knows.stop_is;
      })
