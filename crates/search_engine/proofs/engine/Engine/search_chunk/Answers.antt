use Rattle.std.proofs.Common.{◌≡◌, ℕ, ◌+◌, ◌*◌, sym, ◌∙◌, ap, subst, arith}
use Rattle.spectra_rows.specs.Unpacking.{Unpacking}
use Rattle.candidate_book.specs.Book.{book_of}
use Rattle.row_schedule.specs.Samples.{values_of}
use Rattle.search_engine.specs.Engine.{EngineState, BeginsWith, HasTakenChunks, chunk_of, scope_of}
use Rattle.search_engine.specs.Scope.{kept_by, kept_samples, marks_of}
use Rattle.shard_search.specs.Sought.{Sought}
use Rattle.search_engine.proofs.Feeding.{begins_less, rows_long, next_spectra, goes_on, few_spectra, searched_holds, marks_fit, few_channels}
use Rattle.search_engine.proofs.Searched.{book_more, pulses_so_far}
use Rattle.search_engine.proofs.Silenced.{IsHidden, hidden_alike, hidden_given, hidden_rows}
use Rattle.search_engine.proofs.Sizes.{chunk_has_some, none_left, sizes_kept}
use Rattle.search_engine.proofs.Whole.{scope_at}
use Rattle.search_engine.proofs.WholeChunks.{chunk_more}
use Rattle.search_engine.proofs.engine.Engine.search_chunk.Goals as goal

pub hide-requires-clause-count : goal.hide-requires-clause-count
hide-requires-clause-count c = marks_fit c.self.invariant.0.observation _ c.self.invariant.0.holds.searches

pub hide-requires-clause-few : goal.hide-requires-clause-few
hide-requires-clause-few c = few_channels c.self.invariant.0.observation _ c.self.invariant.0.holds.searches

pub pass-requires-clause-rows : goal.pass-requires-clause-rows
pass-requires-clause-rows c =
    let w = c.self.invariant.0 in
    rows_long c.edges_fall.ensures w.observation _ _ w.holds.searches
    (c.samples-rows.ensures.long ∙ ap (λ (x : Unpacking). x.channels * x.chunk) c.hide.ensures.same)

-- a chunk has as many spectra as are held
pub pass-requires-clause-few : goal.pass-requires-clause-few
pass-requires-clause-few c =
    let w = c.self.invariant.0 in
    let F : EngineState → Type 0 = λ e. e.unpacker.whole ≡ e.unpacker.chunk in
    let full = subst F (sym c.self.view_is) c.requires.full in
    let chunk = c.self.invariant.1.chunk_is in
    let few = few_spectra w.observation _ _ c.self.inside.chunk w.holds (omega (arith, full, chunk)) in
    omega (arith, few)

pub pass-requires-clause-stream : goal.pass-requires-clause-stream
pass-requires-clause-stream c =
    let w = c.self.invariant.0 in
    let F : EngineState → Type 0 = λ e. e.unpacker.whole ≡ e.unpacker.chunk in
    let full = subst F (sym c.self.view_is) c.requires.full in
    let chunk = c.self.invariant.1.chunk_is in
    goes_on c.samples_of_bytes.ensures w.observation _ (values_of c.samples-rows.result) _ c.self.inside.chunk w.holds
    (omega (arith, full, chunk))
    (λ k t. hidden_rows _ c.self.inside.unpacker c.hide.new.unpacker (values_of c.samples-rows.result) _ _ k t
    c.hide.ensures.same c.samples-rows.ensures.rows (c.hide.ensures.kept _ _ w.holds.held))

pub pass-requires-clause-room : goal.pass-requires-clause-room
pass-requires-clause-room c =
    let w = c.self.invariant.0 in
    let F : EngineState → Type 0 = λ e. e.unpacker.whole ≡ e.unpacker.chunk in
    let full = subst F (sym c.self.view_is) c.requires.full in
    let chunk = c.self.invariant.1.chunk_is in
    let few = few_spectra w.observation _ _ c.self.inside.chunk w.holds (omega (arith, full, chunk)) in
    let room = w.room (ap (λ (e : EngineState). e.has_ended) c.self.view_is ∙ c.requires.running) in
    omega (arith, few, room)

pub invariant_of-self : goal.invariant_of-self
invariant_of-self c =
    let w = c.self.invariant.0 in
    let holds = w.holds in
    let i = c.self.inside in
    let F : EngineState → Type 0 = λ e. e.unpacker.whole ≡ e.unpacker.chunk in
    let full = subst F (sym c.self.view_is) c.requires.full in
    let hidden : IsHidden (kept_by (marks_of i.masked)) i.unpacker c.hide.new.unpacker c.taken.new.self = record {
      rows = c.hide.ensures.same;
      none = c.taken.ensures.part;
      kept_is = c.hide.ensures.kept;
      given_up = c.taken.ensures.holds;
    } in (
      record {
        observation = w.observation;
        bytes = w.bytes;
        holds = searched_holds w.observation w.bytes (values_of c.samples-rows.result) _ c.taken.new.self
            c.pass.new.self c.pass.new.book i.has_ended i.chunk holds (hidden_alike _ _ _ _ hidden)
            (c.self.invariant.1.chunk_is ∙ sym full)
            (hidden_given _ _ _ _ hidden _ _) c.pass.ensures.alike c.pass.ensures.fed
            (λ k t. hidden_rows _ i.unpacker c.hide.new.unpacker (values_of c.samples-rows.result) _ _ k t
            c.hide.ensures.same c.samples-rows.ensures.rows (c.hide.ensures.kept _ _ holds.held))
            c.pass.ensures.stands;
        room = λ running.
            let room = w.room running in
            let count = c.pass.ensures.count in
            let total = c.pass.ensures.fed in
            omega (arith, room, count, total);
      },
      sizes_kept _ _ _ _ i.unpacker c.taken.new.self i.sums.pulses.sought c.pass.new.self.pulses.sought
          c.self.invariant.1 (hidden_alike _ _ _ _ hidden) c.pass.ensures.alike.sought,
    )

pub returns-clause-scope : goal.returns-clause-scope
returns-clause-scope c =
    ap (scope_at (marks_of c.self.inside.masked)) c.pass.ensures.alike.sought ∙ ap scope_of c.self.view_is

pub returns-clause-searched : goal.returns-clause-searched
returns-clause-searched c =
    let s = c.self.invariant.0.holds.searches in
    let chunk = s.chunk in
    let some = chunk_has_some c.self.inside.search s.range.parts.least_chunk in
    let same = ap (λ (x : Unpacking). x.chunk) c.hide.ensures.same in
    none_left c.hide.new.unpacker c.taken.new.self c.taken.ensures.part (omega (arith, same, chunk, some))

pub returns-clause-taken : goal.returns-clause-taken
returns-clause-taken c = λ o bytes stands.
    let P : EngineState → Type 0 = λ e. HasTakenChunks o bytes e in
    let old = subst P (sym c.self.view_is) stands in
    let holds = old.holds in
    let i = c.self.inside in
    let F : EngineState → Type 0 = λ e. e.unpacker.whole ≡ e.unpacker.chunk in
    let full = subst F (sym c.self.view_is) c.requires.full in
    let chunk = c.self.invariant.1.chunk_is in
    let hidden : IsHidden (kept_by (marks_of i.masked)) i.unpacker c.hide.new.unpacker c.taken.new.self = record {
      rows = c.hide.ensures.same;
      none = c.taken.ensures.part;
      kept_is = c.hide.ensures.kept;
      given_up = c.taken.ensures.holds;
    } in
    let r = i.chunk in
    let u = i.sums.carry.fed in
    record {
      holds = searched_holds o bytes (values_of c.samples-rows.result) _ c.taken.new.self c.pass.new.self
          c.pass.new.book i.has_ended r holds (hidden_alike _ _ _ _ hidden) (chunk ∙ sym full)
          (hidden_given _ _ _ _ hidden _ _) c.pass.ensures.alike c.pass.ensures.fed
          (λ k t. hidden_rows _ i.unpacker c.hide.new.unpacker (values_of c.samples-rows.result) _ _ k t
          c.hide.ensures.same c.samples-rows.ensures.rows (c.hide.ensures.kept _ _ holds.held))
          c.pass.ensures.stands;
      chunks = chunk_more u r (chunk_of i.search) c.pass.new.self.carry.fed (chunk ∙ holds.searches.chunk)
          c.pass.ensures.fed old.chunks;
      book = λ f begins.
          let g = kept_samples o (marks_of i.masked) bytes in
          let B : ℕ → Type 0 = λ n. BeginsWith o g n f in
          let later = subst B c.pass.ensures.fed begins in
          let less = begins_less o g u (u + r) f (omega arith) later in
          let Q : ℕ → Type 0 =
          λ n. c.pass.new.book ≡ book_of i.search.max_candidates
          (pulses_so_far o i.search i.sums.pulses.sought i.shard f n) in
          let R : Sought → Type 0 =
          λ x. c.pass.new.book ≡ book_of i.search.max_candidates
          (pulses_so_far o i.search x i.shard f c.pass.new.self.carry.fed) in
          subst R (sym c.pass.ensures.alike.sought) (subst Q (sym c.pass.ensures.fed)
          (book_more c.shards_are_listed.ensures o _ f c.pass.new.book u r holds.searches (old.book f less)
          (c.pass.ensures.pulses f (holds.sums f less)
          (next_spectra o bytes (values_of c.samples-rows.result) _ r holds (omega (arith, full, chunk))
          (λ k t. hidden_rows _ i.unpacker c.hide.new.unpacker (values_of c.samples-rows.result) _ _ k t
          c.hide.ensures.same c.samples-rows.ensures.rows (c.hide.ensures.kept _ _ holds.held)) f later))));
    }
