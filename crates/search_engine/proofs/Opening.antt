-- An engine that was opened, and fed nothing.
use Rattle.std.proofs.Common.{◌≡◌, ◌∙◌, ℕ, ◌+◌, ◌*◌, ◌%◌, ◌<◌, ◌≤◌, Bool, List, Option, length, false, None, [], min, refl, sym, ap, subst, arith}
use Rattle.std.proofs.Math.Nat.{zero-mod}
use Rattle.std.proofs.lemmas.List.Elements.{All-nil}
use Rattle.dada_model.specs.Bounds.{ObservationInRange}
use Rattle.dada_model.specs.Edges.{AreEdges}
use Rattle.dada_model.specs.Observation.{Observation, edges}
use Rattle.search_model.specs.declared.search.Search.{Search}
use Rattle.search_model.specs.Plan.{plan_refusal}
use Rattle.search_model.specs.Search.{SettingsInRange, shard_start}
use Rattle.candidate_book.specs.Book.{BookContents, book_of}
use Rattle.spectra_rows.specs.Unpacking.{Unpacking, StandsForBytes, spectrum_bytes}
use Rattle.shard_search.specs.declared.tables.TheConstants.{MOST_TABLES}
use Rattle.shard_search.specs.Pulses.{pulses_of_ends}
use Rattle.shard_search.specs.Sought.{Sought}
use Rattle.shard_search.specs.Sums.{ShardState, sums_of}
use Rattle.search_engine.proofs.Slices.{none_in}
use Rattle.search_engine.specs.Engine.{EngineState, Searches, HoldsData, HasTakenChunks, StandsForPart, EngineIsSound, IsOpenedSums, IsOpenedUnpacker, KnowsSizes, chunk_of}
use Rattle.search_engine.specs.Scope.{limit_in_bytes, spectrum_size}

-- the parts of an engine
pub record OpenedParts
    (o : Observation) (s : Search) (k : ℕ) (masked : List Bool) (x : Sought) (chunk : ℕ) (u : Unpacking)
    (sums : ShardState) (book : BookContents) : Type 0 where
  pub bounds : ObservationInRange o
  pub band : AreEdges o.channels (edges o)
  pub range : SettingsInRange s
  pub shard : k < s.shards
  pub accepted : plan_refusal o s ≡ None
  pub marks : length masked ≤ o.channels
  pub chunk_is : chunk ≡ chunk_of s
  pub unpacker : IsOpenedUnpacker o chunk u
  pub nothing : StandsForBytes u [] 0
  pub path_sums : IsOpenedSums o s k chunk x sums
  pub empty : book ≡ book_of s.max_candidates []

-- the engine of these parts
abbrev pub opened_state : Search → ℕ → List Bool → Unpacking → ShardState → BookContents → EngineState
opened_state s k masked u sums book = record {
  search = s;
  shard = k;
  masked = masked;
  fed = 0;
  has_ended = false;
  unpacker = u;
  sums = sums;
  book = book;
}

module _ (o : Observation) (s : Search) (k : ℕ) (masked : List Bool) (x : Sought) (chunk : ℕ) (u : Unpacking)
    (sums : ShardState) (book : BookContents) (p : OpenedParts o s k masked x chunk u sums book) where
  opened_searches : Searches o (opened_state s k masked u sums book)
  opened_searches = record {
    bounds = p.bounds;
    range = p.range;
    shard = p.shard;
    accepted = p.accepted;
    marks = p.marks;
    channels = ap (λ (u : Unpacking). u.channels) p.unpacker;
    is_falling = ap (λ (u : Unpacking). u.is_falling) p.unpacker;
    nbit = ap (λ (u : Unpacking). u.nbit) p.unpacker;
    npol = ap (λ (u : Unpacking). u.npol) p.unpacker;
    chunk = ap (λ (u : Unpacking). u.chunk) p.unpacker ∙ p.chunk_is;
    plan = p.path_sums.plan;
    rows = p.path_sums.rows ∙ p.chunk_is;
    most = p.path_sums.most ∙ ap (λ n. min n MOST_TABLES) p.chunk_is;
    max_sample = p.path_sums.greatest;
    search = p.path_sums.search_is;
  }

  opened_holds : HoldsData o [] (opened_state s k masked u sums book)
  opened_holds = record {
    searches = opened_searches;
    numbers = All-nil (λ (byte : ℕ). byte < 256);
    few = omega arith;
    most = omega arith;
    held = (let P : ℕ → Type 0 = λ n. StandsForBytes u [] n in subst P (sym p.path_sums.nothing_fed) p.nothing);
    sums = λ f begins.
        let count = p.band.count in
        let channels = begins.channels in
        p.path_sums.stands f (record { channels = omega arith; small = begins.small });
  }

  opened_chunks : HasTakenChunks o [] (opened_state s k masked u sums book)
  opened_chunks = record {
    holds = opened_holds;
    chunks = ap (λ n. n % chunk_of s) p.path_sums.nothing_fed ∙ zero-mod (chunk_of s);
    book = λ f begins. p.empty ∙ ap (λ n. book_of s.max_candidates (pulses_of_ends (sums_of f (edges o)) s
        sums.pulses.sought (shard_start s k) (shard_start s (k + 1)) 0 n)) (sym p.path_sums.nothing_fed);
  }

  pub opened_stands : StandsForPart o [] (opened_state s k masked u sums book)
  opened_stands = record {
    numbers = All-nil (λ (byte : ℕ). byte < 256);
    count = refl;
    chunks = subst (λ xs. HasTakenChunks o xs (opened_state s k masked u sums book))
        (sym (none_in o sums.pulses.sought)) opened_chunks;
  }

  pub opened_sound : EngineIsSound (opened_state s k masked u sums book)
  opened_sound = record {
    observation = o;
    bytes = [];
    holds = opened_holds;
    room = λ _. let empty = ap (λ (b : BookContents). b.count) p.empty in omega arith;
  }

-- the sizes that are kept
pub opened_sizes : (o : Observation) (u : Unpacking) (sums : ShardState) (c : Sought) (chunk spectrum first : ℕ)
    (until stop : Option ℕ) → IsOpenedUnpacker o chunk u → sums.pulses.sought ≡ c → spectrum ≡ spectrum_size o →
    first ≡ c.first → until ≡ c.until → stop ≡ limit_in_bytes spectrum until →
    KnowsSizes chunk spectrum (first * spectrum) stop u sums.pulses.sought
opened_sizes o u sums c chunk spectrum first until stop opened is size first_is until_is stop_is =
    let own : spectrum ≡ spectrum_bytes u = size ∙ ap spectrum_bytes (sym opened) in
    let P : Sought → Type 0 = λ x. KnowsSizes chunk spectrum (first * spectrum) stop u x in
    subst P (sym is) (record {
      chunk_is = sym (ap (λ (u : Unpacking). u.chunk) opened);
      spectrum_is = own;
      skipped_is = ap (λ n. n * spectrum) first_is ∙ ap (λ n. c.first * n) own;
      stop_is = stop_is ∙ ap (λ (l : Option ℕ). limit_in_bytes spectrum l) until_is
          ∙ ap (λ n. limit_in_bytes n c.until) own;
    })
