-- A chunk: from what stands before it to what stands after it.
use Rattle.std.proofs.Common.{◌≡◌, ℕ, ◌+◌, ◌-◌, ◌*◌, ◌≤◌, All, List, [], sym, ◌∙◌, ap, subst, arith}
use Rattle.std.specs.List.{range_with_len, flat_map}
use Rattle.std.proofs.Math.Nat.{mul-le-mul_left}
use Rattle.fdmt_carry.specs.Carrying.{Carrying}
use Rattle.fdmt_carry.specs.Tables.{Tables}
use Rattle.search_model.specs.declared.candidate.Candidate.{Candidate}
use Rattle.search_model.specs.Samples.{Filterbank}
use Rattle.fold_search.specs.FoldSearch.{Fronts, HasDelay, KeepsFrontOf}
use Rattle.shard_search.specs.Thresholds.{pulses_of_hits}
use Rattle.shard_search.specs.PulseSearch.{PulseState, SearchAlike, RowsStandFor, HitIsKept}
use Rattle.shard_search.specs.Pulses.{pulses_of_delay, pulses_of_end, pulses_of_ends}
use Rattle.shard_search.specs.Sums.{HaveTaken, sums_of, sums_from_delay, pulses_of_plan}
use Rattle.subband_plan.specs.Nodes.{BandPlan}
use Rattle.shard_search.proofs.Ranges.{flat_agree}

-- before the first row
pub started : (y : ℕ → ℕ → ℕ) (p q : PulseState) (g : Fronts) (m n first : ℕ) → q ≡ record p { hits = [] } →
    p.first ≡ first → g.first ≡ first → RowsStandFor y p m →
    ((d : ℕ) → HasDelay g d → KeepsFrontOf g d (sums_from_delay y d m)) → HaveTaken y q g m n first
started y p q g m n first is at fold_at rows fronts =
    let none : first - p.first ≡ 0 = omega arith in
    let start : HaveTaken y (record p { hits = [] }) g m n first = record {
      rows_below = λ e h below. absurd (let above = h.above in omega arith);
      rows_from = λ e h from. rows e (record { above = h.above; below = h.below });
      folds_below = λ e h below. absurd (let above = h.above in omega arith);
      folds_from = λ e h from. fronts e h;
      hits = λ k below. sym (ap (λ i. flat_map (λ d. pulses_of_delay y p.search p.sought (m + k) d)
          (range_with_len p.first i)) none);
      kept = λ i h inside. absurd (omega arith);
    } in
    let P : PulseState → Type 0 = λ r. HaveTaken y r g m n first in
    subst P (sym is) start

-- the same in the words of a carry before and after it took the chunk
pub begun : (f : Filterbank) (old new : Carrying) (p q : PulseState) (g : Fronts) (start n first : ℕ) →
    q ≡ record p { hits = [] } → new.tables ≡ old.tables → start ≡ old.fed → p.first ≡ first → g.first ≡ first →
    RowsStandFor (sums_of f old.tables.plan.edges) p old.fed →
    ((d : ℕ) → HasDelay g d → KeepsFrontOf g d (sums_from_delay (sums_of f old.tables.plan.edges) d old.fed)) →
    HaveTaken (sums_of f new.tables.plan.edges) q g start n first
begun f old new p q g start n first is tables fed at fold_at rows fronts =
    let before = started (sums_of f old.tables.plan.edges) p q g old.fed n first is at fold_at rows fronts in
    let P : Tables → Type 0 = λ t. HaveTaken (sums_of f t.plan.edges) q g old.fed n first in
    let Q : ℕ → Type 0 = λ m. HaveTaken (sums_of f new.tables.plan.edges) q g m n first in
    subst Q (sym fed) (subst P (sym tables) before)

-- after the last row
pub all_rows : (y : ℕ → ℕ → ℕ) (p : PulseState) (g : Fronts) (m n end u : ℕ) → HaveTaken y p g m n end →
    p.end ≡ end → m + n ≡ u → RowsStandFor y p u
all_rows y p g m n end u have at sum = λ d h.
    let P : ℕ → Type 0 = λ k. RowsStandFor y p k in
    subst P sum (λ e k. have.rows_below e k (let below = k.below in omega arith)) d h

pub all_fronts : (y : ℕ → ℕ → ℕ) (p : PulseState) (g : Fronts) (m n end u : ℕ) → HaveTaken y p g m n end →
    g.end ≡ end → m + n ≡ u → (d : ℕ) → HasDelay g d → KeepsFrontOf g d (sums_from_delay y d u)
all_fronts y p g m n end u have at sum = λ d h.
    let P : ℕ → Type 0 = λ k. KeepsFrontOf g d (sums_from_delay y d k) in
    subst P sum (have.folds_below d h (let below = h.below in omega arith))

-- boxes can be asked for over the rows of all hits
pub all_kept : (y : ℕ → ℕ → ℕ) (p : PulseState) (g : Fronts) (m n end : ℕ) → HaveTaken y p g m n end →
    All (HitIsKept y p.boxes m n) p.hits
all_kept y p g m n end have = λ i h inside. (have.kept i h inside).kept

-- the pulses of the hits are those of all delays
pub all_pulses : (y : ℕ → ℕ → ℕ) (p : PulseState) (g : Fronts) (m n end : ℕ) → HaveTaken y p g m n end →
    p.end ≡ end →
    flat_map (λ u. pulses_of_hits y p.search p.sought u p.hits) (range_with_len m n)
    ≡ pulses_of_ends y p.search p.sought p.first p.end m n
all_pulses y p g m n end have at =
    let A : ℕ → List Candidate = λ u. pulses_of_hits y p.search p.sought u p.hits in
    let B : ℕ → List Candidate = λ u. pulses_of_end y p.search p.sought p.first p.end u in
    flat_agree A B m n
    (λ u from to.
    let place : m + (u - m) ≡ u = omega arith in
    let P : ℕ → Type 0 = λ v. pulses_of_hits y p.search p.sought v p.hits
    ≡ pulses_of_end y p.search p.sought p.first p.end v in
    let Q : ℕ → Type 0 = λ e. pulses_of_hits y p.search p.sought (m + (u - m)) p.hits
    ≡ pulses_of_end y p.search p.sought p.first e (m + (u - m)) in
    subst P place (subst Q (sym at) (have.hits (u - m) (omega arith))))

pub same_ends : (y : ℕ → ℕ → ℕ) (p q : PulseState) (m n : ℕ) → SearchAlike q p →
    pulses_of_ends y q.search q.sought q.first q.end m n ≡ pulses_of_ends y p.search p.sought p.first p.end m n
same_ends y p q m n alike =
    ap (λ s. pulses_of_ends y s q.sought q.first q.end m n) alike.search_is
    ∙ ap (λ c. pulses_of_ends y p.search c q.first q.end m n) alike.sought_is
    ∙ ap (λ a. pulses_of_ends y p.search p.sought a q.end m n) alike.first_is
    ∙ ap (λ b. pulses_of_ends y p.search p.sought p.first b m n) alike.end_is

-- the delays of a search are those of its plan
pub plan_pulses : (f : Filterbank) (p : BandPlan) (q : PulseState) (m n : ℕ) → q.first ≡ p.first →
    q.end ≡ p.last + 1 →
    pulses_of_ends (sums_of f p.edges) q.search q.sought q.first q.end m n ≡ pulses_of_plan f p q.search q.sought m n
plan_pulses f p q m n first end =
    ap (λ a. pulses_of_ends (sums_of f p.edges) q.search q.sought a q.end m n) first
    ∙ ap (λ b. pulses_of_ends (sums_of f p.edges) q.search q.sought p.first b m n) end

-- how many pulses a chunk can have
pub few_pulses : (hits spectra delays : ℕ) → hits ≤ 6 * delays → delays ≤ 8193 → spectra * hits ≤ 49158 * spectra
few_pulses hits spectra delays few most =
    let all : spectra * hits ≤ spectra * 49158 = mul-le-mul_left spectra (let l : hits ≤ 49158 = omega arith in l) in
    omega arith
