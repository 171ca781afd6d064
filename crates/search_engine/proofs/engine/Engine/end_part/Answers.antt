use Rattle.std.proofs.Common.{◌≡◌, ℕ, ◌+◌, ◌*◌, ◌/◌, ◌<◌, Bool, List, true, false, sym, ◌∙◌, ap, subst, arith}
use Rattle.candidate_book.specs.Book.{book_of}
use Rattle.dada_model.specs.Observation.{edges}
use Rattle.fdmt_carry.specs.Carrying as carry
use Rattle.fdmt_carry.specs.Carrying.{AreNext}
use Rattle.search_model.specs.Candidates.{candidates, shard_part}
use Rattle.fdmt_carry.specs.Tables.{Tables}
use Rattle.search_model.specs.declared.search.Search.{Search}
use Rattle.row_schedule.specs.Samples.{values_of}
use Rattle.search_model.specs.Samples.{Filterbank}
use Rattle.spectra_rows.specs.Unpacking.{Unpacking}
use Rattle.shard_search.specs.declared.tables.TheConstants.{MOST_TABLES}
use Rattle.search_engine.specs.Engine.{BeginsWith, EngineState, HasFoundIn, HoldsData, HoldsNoFullChunk, StandsForPart, chunk_of, scope_of}
use Rattle.search_engine.specs.Scope.{Scope, bytes_in, kept_by, kept_samples, marks_of, spectrum_size}
use Rattle.fold_search.specs.Judging.{Adds}
use Rattle.shard_search.specs.Sought.{Sought, cells_in, sought_of}
use Rattle.shard_search.specs.Sums.{ShardState, StandsForStream, folds_of_plan}
use Rattle.search_engine.proofs.Data.{data_begin}
use Rattle.search_engine.proofs.Feeding.{begins_less, size_is, rows_long, next_spectra, goes_on, few_spectra, searched_holds, kept_is, marks_fit, few_channels}
use Rattle.search_engine.proofs.Silenced.{IsHidden, hidden_alike, hidden_given, hidden_rows}
use Rattle.search_engine.proofs.Whole.{found_in, has_searched, scope_at}
use Rattle.search_engine.proofs.WholeChunks.{last_are}
use Rattle.search_engine.proofs.Searched.{book_more, book_of_all, pulses_so_far}
use Rattle.search_engine.proofs.Sizes.{same_size, sizes_kept, spectra_are}
use Rattle.search_engine.proofs.engine.Engine.end_part.Goals as goal

pub hide-requires-clause-count : goal.hide-requires-clause-count
hide-requires-clause-count c = marks_fit c.self.invariant.0.observation _ c.self.invariant.0.holds.searches

pub hide-requires-clause-few : goal.hide-requires-clause-few
hide-requires-clause-few c = few_channels c.self.invariant.0.observation _ c.self.invariant.0.holds.searches

pub take-requires-clause-rows : goal.take-requires-clause-rows
take-requires-clause-rows c =
    let w = c.self.invariant.0 in
    rows_long c.edges_fall.ensures w.observation _ _ w.holds.searches
    (c.samples.ensures.long ∙ ap (λ (x : Unpacking). x.channels * x.chunk) c.hide.ensures.same)

pub take-requires-clause-few : goal.take-requires-clause-few
take-requires-clause-few c =
    let w = c.self.invariant.0 in
    let whole = c.spectra-spectra.ensures.whole in
    let few = few_spectra w.observation _ _ c.spectra-spectra.result w.holds (omega (arith, whole)) in
    omega (arith, few)

pub take-requires-clause-stream : goal.take-requires-clause-stream
take-requires-clause-stream c =
    let w = c.self.invariant.0 in
    let whole = c.spectra-spectra.ensures.whole in
    goes_on c.samples_of_bytes.ensures w.observation _ (values_of c.samples.result) _ c.spectra-spectra.result
    w.holds (omega (arith, whole)) (λ k t. hidden_rows _ c.self.inside.unpacker c.hide.new.unpacker
    (values_of c.samples.result) _ _ k t c.hide.ensures.same c.samples.ensures.rows
    (c.hide.ensures.kept _ _ w.holds.held))

pub take-requires-clause-room : goal.take-requires-clause-room
take-requires-clause-room c =
    let w = c.self.invariant.0 in
    let whole = c.spectra-spectra.ensures.whole in
    let few = few_spectra w.observation _ _ c.spectra-spectra.result w.holds (omega (arith, whole)) in
    let room = w.room (ap (λ (e : EngineState). e.has_ended) c.self.view_is ∙ c.requires.running) in
    omega (arith, few, room)

pub end-requires : goal.end-requires
end-requires c =
    let w = c.self.invariant.0 in
    let whole = c.spectra-spectra.ensures.whole in
    let few = few_spectra w.observation _ _ c.spectra-spectra.result w.holds (omega (arith, whole)) in
    let room = w.room (ap (λ (e : EngineState). e.has_ended) c.self.view_is ∙ c.requires.running) in
    let count = c.take.ensures.taken.count in
    omega (arith, few, room, count)

pub invariant_of-self : goal.invariant_of-self
invariant_of-self c =
    let w = c.self.invariant.0 in
    let holds = w.holds in
    let i = c.self.inside in
    let whole = c.spectra-spectra.ensures.whole in
    let hidden : IsHidden (kept_by (marks_of i.masked)) i.unpacker c.hide.new.unpacker c.taken.new.self = record {
      rows = c.hide.ensures.same;
      none = c.taken.ensures.part;
      kept_is = c.hide.ensures.kept;
      given_up = c.taken.ensures.holds;
    } in
    let P : ShardState → Type 0 = λ t. HoldsData w.observation w.bytes (record {
      search = i.search;
      shard = i.shard;
      masked = marks_of i.masked;
      fed = i.fed;
      has_ended = true;
      unpacker = c.taken.new.self;
      sums = t;
      book = c.end.new.book;
    }) in
    let searched = searched_holds w.observation w.bytes (values_of c.samples.result) _ c.taken.new.self c.take.new.self
    c.end.new.book true c.spectra-spectra.result holds (hidden_alike _ _ _ _ hidden) whole
    (hidden_given _ _ _ _ hidden _ _) c.take.ensures.taken.alike c.take.ensures.taken.fed
    (λ k t. hidden_rows _ i.unpacker c.hide.new.unpacker (values_of c.samples.result) _ _ k t c.hide.ensures.same
    c.samples.ensures.rows (c.hide.ensures.kept _ _ holds.held))
    c.take.ensures.taken.stands in (
      record {
        observation = w.observation;
        bytes = w.bytes;
        holds = subst P (sym c.end.ensures.same) searched;
        room = λ running. absurd (let other : true ≡ false = running in cc);
      },
      sizes_kept _ _ _ _ i.unpacker c.taken.new.self i.sums.pulses.sought c.end.new.self.pulses.sought
          c.self.invariant.1 (hidden_alike _ _ _ _ hidden)
          (ap (λ (t : ShardState). t.pulses.sought) c.end.ensures.same ∙ c.take.ensures.taken.alike.sought),
    )

pub returns-clause-found : goal.returns-clause-found
returns-clause-found c = λ o bytes stands.
    let i = c.self.inside in
    let P : EngineState → Type 0 = λ e. StandsForPart o bytes e in
    let part = subst P (sym c.self.view_is) stands in
    let old = part.chunks in
    let holds = old.holds in
    let s = holds.searches in
    let H : EngineState → Type 0 = λ e. HoldsNoFullChunk e in
    let short = subst H (sym c.self.view_is) c.requires.part in
    let masked : List Bool = marks_of i.masked in
    let sought : Sought = i.sums.pulses.sought in
    let xs : List ℕ = bytes_in o sought bytes in
    let g : Filterbank = kept_samples o masked xs in
    let r = c.spectra-spectra.result in
    let u = i.sums.carry.fed in
    let whole = c.spectra-spectra.ensures.whole in
    let all : g.spectra ≡ u + r = ap (λ (g : Filterbank). g.spectra) (sym (kept_is o _ xs s))
    ∙ c.spectra-spectra.ensures.counts xs u holds.held in
    let next : (f : Filterbank) → BeginsWith o g (u + r) f → AreNext i.sums.carry f (values_of c.samples.result) r =
    next_spectra o xs (values_of c.samples.result) _ r holds (omega (arith, whole))
    (λ k t. hidden_rows _ i.unpacker c.hide.new.unpacker (values_of c.samples.result) _ _ k t c.hide.ensures.same
    c.samples.ensures.rows (c.hide.ensures.kept _ _ holds.held)) in
    let less : (f : Filterbank) → BeginsWith o g (u + r) f → BeginsWith o g u f =
    λ f begins. begins_less o g u (u + r) f (omega arith) begins in
    let after : (f : Filterbank) → BeginsWith o g (u + r) f → StandsForStream c.take.new.self f =
    λ f begins. c.take.ensures.taken.stands f (holds.sums f (less f begins)) (next f begins) in
    let same = c.end.ensures.same in
    let fed : c.end.new.self.carry.fed ≡ u + r = ap (λ (t : ShardState). t.carry.fed) same ∙ c.take.ensures.taken.fed in
    let book : (f : Filterbank) → BeginsWith o g (u + r) f → f.spectra ≡ u + r → c.end.new.book
    ≡ book_of i.search.max_candidates (shard_part i.search i.shard
    (sought_of sought (candidates f (edges o) (cells_in sought) i.search))) = λ f begins long.
    let Q : ℕ → Type 0 = λ n. c.take.new.book ≡ book_of i.search.max_candidates
    (pulses_so_far o i.search sought i.shard f n) in
    let pulses = subst Q (sym long) (book_more c.shards_are_listed.ensures o _ f c.take.new.book u r s
    (old.book f (less f begins))
    (c.take.ensures.taken.pulses f (holds.sums f (less f begins)) (next f begins))) in
    let T : Tables → Type 0 = λ t. Adds c.take.new.book c.end.new.book
    (folds_of_plan f t.plan c.take.new.self.pulses.search c.take.new.self.pulses.sought) in
    let S : Search → Type 0 = λ t. Adds c.take.new.book c.end.new.book
    (folds_of_plan f i.sums.carry.tables.plan t c.take.new.self.pulses.sought) in
    let C : Sought → Type 0 = λ t. Adds c.take.new.book c.end.new.book
    (folds_of_plan f i.sums.carry.tables.plan i.sums.pulses.search t) in
    let folds = subst C c.take.ensures.taken.alike.sought (subst S c.take.ensures.taken.alike.search
    (subst T c.take.ensures.taken.alike.tables
    (c.end.ensures.folds f (after f begins) (long ∙ sym c.take.ensures.taken.fed)))) in
    book_of_all c.shards_are_listed.ensures c.edges_fall.ensures o _ f c.take.new.book c.end.new.book s
    begins.channels pulses folds in
    let own : BeginsWith o g (u + r) g =
    data_begin c.samples_of_bytes.ensures o masked xs (u + r) s.bounds holds.numbers in
    let scope : Scope = scope_at masked sought in
    let new : EngineState = record {
      search = i.search;
      shard = i.shard;
      masked = marks_of i.masked;
      fed = i.fed;
      has_ended = true;
      unpacker = c.taken.new.self;
      sums = c.end.new.self;
      book = c.end.new.book;
    } in
    let hidden : IsHidden (kept_by masked) i.unpacker c.hide.new.unpacker c.taken.new.self = record {
      rows = c.hide.ensures.same;
      none = c.taken.ensures.part;
      kept_is = c.hide.ensures.kept;
      given_up = c.taken.ensures.holds;
    } in
    let found : HasFoundIn o scope bytes new = record {
      bounds = s.bounds;
      numbers = part.numbers;
      book = book g own all;
      spectra = fed ∙ sym all;
      plan = ap (λ (t : ShardState). t.carry.tables.plan) same
          ∙ ap (λ (t : Tables). t.plan) c.take.ensures.taken.alike.tables ∙ s.plan;
      carry = subst (λ (t : ShardState). carry.StandsForSamples t.carry g) (sym same) (after g own).carry;
      tables = ap (λ (t : ShardState). t.carry.has_tables) same ∙ c.take.ensures.tables;
      last = ap (λ (t : ShardState). t.carry.last) same ∙ c.take.ensures.last
          ∙ last_are u r (chunk_of i.search) g.spectra MOST_TABLES i.sums.carry.tables.most s.most all old.chunks
          (subst (λ n. r < n) s.chunk (omega (arith, short, whole)));
      all = ap (λ n. i.fed / n) (same_size _ _ (hidden_alike _ _ _ _ hidden) ∙ size_is o _ s)
          ∙ ap (λ n. n / spectrum_size o) (sym part.count) ∙ sym (spectra_are o bytes);
      alike = λ f begins long.
          book f (subst (λ n. BeginsWith o g n f) fed begins) (long ∙ fed);
    } in
    found_in o scope bytes new (ap (scope_at (marks_of i.masked))
    (ap (λ (t : ShardState). t.pulses.sought) same ∙ c.take.ensures.taken.alike.sought)) found

pub returns-clause-scope : goal.returns-clause-scope
returns-clause-scope c =
    ap (scope_at (marks_of c.self.inside.masked)) (ap (λ (t : ShardState). t.pulses.sought) c.end.ensures.same
    ∙ c.take.ensures.taken.alike.sought) ∙ ap scope_of c.self.view_is

pub returns-clause-searched : goal.returns-clause-searched
returns-clause-searched c = λ o bytes stands.
    has_searched c.shards_are_listed.ensures o bytes _ (returns-clause-scope c ∙ stands.whole)
    (returns-clause-found c o bytes stands.part)
