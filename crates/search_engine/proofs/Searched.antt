-- What the book has after the spectra that are held were searched, and after the folds.
use Rattle.std.proofs.Common.{◌≡◌, ℕ, ◌+◌, ◌-◌, ◌++◌, List, sym, ◌∙◌, ap, subst, arith}
use Rattle.candidate_book.specs.Book.{BookContents, book_of}
use Rattle.dada_model.specs.Edges.{AreEdges}
use Rattle.dada_model.specs.Laws.{EdgesFall}
use Rattle.dada_model.specs.Observation.{Observation, edges}
use Rattle.search_model.specs.declared.candidate.Candidate.{Candidate}
use Rattle.search_model.specs.declared.search.Search.{Search}
use Rattle.search_model.specs.Candidates.{candidates, folds, within_delays, shard_part}
use Rattle.search_model.specs.Samples.{Filterbank}
use Rattle.search_model.specs.Search.{shard_start}
use Rattle.subband_plan.specs.Nodes.{BandPlan}
use Rattle.search_engine.specs.Engine.{EngineState, Searches}
use Rattle.fold_search.specs.Judging.{Adds}
use Rattle.shard_search.specs.Laws.{ShardsAreListed}
use Rattle.shard_search.specs.Pulses.{pulses_of_ends}
use Rattle.shard_search.specs.Sought.{Sought, cells_in, sought_of}
use Rattle.shard_search.specs.Sums.{sums_of, pulses_of_plan, folds_of_plan}
use Rattle.search_engine.proofs.PlanFits.{shard_rises, shard_delays}

-- what was added to a book of a list
pub book_with : (b c : BookContents) (limit : ℕ) (list more : List Candidate) → b ≡ book_of limit list → Adds b c more →
    c ≡ book_of limit (list ++ more)
book_with b c limit list more is adds =
    let same : b.limit ≡ limit = ap (λ (x : BookContents). x.limit) is in
    adds list (is ∙ ap (λ n. book_of n list) (sym same)) ∙ ap (λ n. book_of n (list ++ more)) same

-- the pulses of the shard that end at the first u spectra
abbrev pub pulses_so_far : Observation → Search → Sought → ℕ → Filterbank → ℕ → List Candidate
pulses_so_far o s c k f u =
    pulses_of_ends (sums_of f (edges o)) s c (shard_start s k) (shard_start s (k + 1)) 0 u

-- the delays of the carry are those of the shard
pub pulses_are : (o : Observation) (e : EngineState) (f : Filterbank) (m n : ℕ) → Searches o e →
    pulses_of_plan f e.sums.carry.tables.plan e.sums.pulses.search e.sums.pulses.sought m n
    ≡ pulses_of_ends (sums_of f (edges o)) e.search e.sums.pulses.sought (shard_start e.search e.shard)
    (shard_start e.search (e.shard + 1)) m n
pulses_are o e f m n s =
    let first = shard_start e.search e.shard in
    let end = shard_start e.search (e.shard + 1) in
    let y = sums_of f (edges o) in
    let rises = shard_rises o e.search e.shard s.range s.accepted in
    let last : end - 1 + 1 ≡ end = omega arith in
    ap (λ (p : BandPlan). pulses_of_plan f p e.sums.pulses.search e.sums.pulses.sought m n) s.plan
    ∙ ap (λ (t : Search). pulses_of_ends y t e.sums.pulses.sought first (end - 1 + 1) m n) s.search
    ∙ ap (λ b. pulses_of_ends y e.search e.sums.pulses.sought first b m n) last

pub folds_are : (o : Observation) (e : EngineState) (f : Filterbank) → Searches o e →
    folds_of_plan f e.sums.carry.tables.plan e.sums.pulses.search e.sums.pulses.sought
    ≡ within_delays (shard_start e.search e.shard) (shard_start e.search (e.shard + 1))
    (folds f (edges o) (cells_in e.sums.pulses.sought) e.search)
folds_are o e f s =
    let first = shard_start e.search e.shard in
    let end = shard_start e.search (e.shard + 1) in
    let rises = shard_rises o e.search e.shard s.range s.accepted in
    let last : end - 1 + 1 ≡ end = omega arith in
    ap (λ (p : BandPlan). folds_of_plan f p e.sums.pulses.search e.sums.pulses.sought) s.plan
    ∙ ap (λ (t : Search). within_delays first (end - 1 + 1) (folds f (edges o) (cells_in e.sums.pulses.sought) t))
    s.search
    ∙ ap (λ b. within_delays first b (folds f (edges o) (cells_in e.sums.pulses.sought) e.search)) last

-- the book has the pulses of the spectra that were searched
pub book_more : ShardsAreListed → (o : Observation) (e : EngineState) (f : Filterbank) (b : BookContents) (u r : ℕ) →
    Searches o e →
    e.book ≡ book_of e.search.max_candidates (pulses_so_far o e.search e.sums.pulses.sought e.shard f u) →
    Adds e.book b (pulses_of_plan f e.sums.carry.tables.plan e.sums.pulses.search e.sums.pulses.sought u r) →
    b ≡ book_of e.search.max_candidates (pulses_so_far o e.search e.sums.pulses.sought e.shard f (u + r))
book_more listed o e f b u r s is adds =
    let more = pulses_of_plan f e.sums.carry.tables.plan e.sums.pulses.search e.sums.pulses.sought u r in
    book_with e.book b e.search.max_candidates (pulses_so_far o e.search e.sums.pulses.sought e.shard f u) more is adds
    ∙ ap (λ xs. book_of e.search.max_candidates (pulses_so_far o e.search e.sums.pulses.sought e.shard f u ++ xs))
    (pulses_are o e f u r s)
    ∙ ap (λ xs. book_of e.search.max_candidates xs) (listed.ends (sums_of f (edges o)) e.search e.sums.pulses.sought
    (shard_start e.search e.shard) (shard_start e.search (e.shard + 1)) 0 u r u (omega arith))

-- and with the folds it has the shard's part of all that is sought
pub book_of_all : ShardsAreListed → EdgesFall → (o : Observation) (e : EngineState) (f : Filterbank)
    (b c : BookContents) → Searches o e → f.channels ≡ o.channels →
    b ≡ book_of e.search.max_candidates (pulses_so_far o e.search e.sums.pulses.sought e.shard f f.spectra) →
    Adds b c (folds_of_plan f e.sums.carry.tables.plan e.sums.pulses.search e.sums.pulses.sought) →
    c ≡ book_of e.search.max_candidates (shard_part e.search e.shard
    (sought_of e.sums.pulses.sought (candidates f (edges o) (cells_in e.sums.pulses.sought) e.search)))
book_of_all listed fall o e f b c s channels is adds =
    let more = folds_of_plan f e.sums.carry.tables.plan e.sums.pulses.search e.sums.pulses.sought in
    let so_far = pulses_so_far o e.search e.sums.pulses.sought e.shard f f.spectra in
    book_with b c e.search.max_candidates so_far more is adds
    ∙ ap (λ xs. book_of e.search.max_candidates (so_far ++ xs)) (folds_are o e f s)
    ∙ ap (λ xs. book_of e.search.max_candidates xs)
    (listed.part f (edges o) e.search e.sums.pulses.sought e.shard
    (subst (λ n. AreEdges n (edges o)) (sym channels) (fall o s.bounds))
    (shard_delays o e.search e.shard s.range s.accepted s.shard))
