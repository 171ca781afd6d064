-- A call with the next spectra, of what its parts do.
use Rattle.std.proofs.Common.{◌≡◌, ℕ, ◌+◌, ◌-◌, ◌*◌, ◌^◌, ◌<◌, ◌≤◌, All, List, [], length, sym, ◌∙◌, ap, subst, arith}
use Rattle.std.specs.List.{range_with_len, flat_map}
use Rattle.candidate_book.specs.Book.{BookContents}
use Rattle.fdmt_carry.specs.Carrying.{Carrying, AreNext, StandsForSamples}
use Rattle.fdmt_carry.specs.Tables.{Tables}
use Rattle.search_model.specs.Samples.{Filterbank}
use Rattle.shard_search.specs.Counts.{most_pulses_at_end}
use Rattle.fold_search.specs.FoldSearch.{FoldsAlike, HasDelay, KeepsFrontOf}
use Rattle.fold_search.specs.Judging.{Adds}
use Rattle.shard_search.specs.PulseSearch.{PulseState, SearchAlike, RowsStandFor, HitIsKept}
use Rattle.shard_search.specs.Pulses.{pulses_of_ends}
use Rattle.shard_search.specs.Thresholds.{pulses_of_hits}
use Rattle.shard_search.specs.Sums.{ShardState, AreDelaysOf, FitTogether, HasTakenNext, HaveTaken, StandsForStream, pulses_of_plan, sums_from_delay, sums_of}
use Rattle.shard_search.proofs.Adding.{adds_same}
use Rattle.shard_search.proofs.Chunks.{begun, all_rows, all_fronts, all_kept, all_pulses, same_ends, plan_pulses, few_pulses}

-- The rows of all delays, from `first` up to, but without, `end`, were made by a carry and taken; they are of so many
-- spectra, from spectrum `start` on. Before the first row the hits were forgotten, after the last they were reported.
pub record TakesRows
    (old new : ShardState) (mid : Carrying) (p : PulseState) (rows : List ℕ) (start spectra first end : ℕ)
    (before after : BookContents) : Type 0 where
  pub fit : FitTogether old
  pub first_is : first ≡ old.pulses.first
  pub end_is : end ≡ old.pulses.end
  pub start_is : start ≡ old.carry.fed
  pub forgot : p ≡ record old.pulses { hits = [] }
  pub mid_tables : mid.tables ≡ old.carry.tables
  pub mid_last : mid.last ≡ spectra
  pub tables : new.carry.tables ≡ old.carry.tables
  pub max_sample : new.carry.max_sample ≡ old.carry.max_sample
  pub fed : new.carry.fed ≡ old.carry.fed + spectra
  pub pulses : SearchAlike new.pulses p
  pub folds : FoldsAlike new.folds old.folds
  pub few : length new.pulses.hits ≤ 6 * (end - first)
  pub carried : (f : Filterbank) → StandsForSamples old.carry f → AreNext old.carry f rows spectra →
      StandsForSamples new.carry f
  pub taken : (f : Filterbank) → StandsForSamples old.carry f → AreNext old.carry f rows spectra →
      HaveTaken (sums_of f mid.tables.plan.edges) p old.folds start mid.last first →
      HaveTaken (sums_of f mid.tables.plan.edges) new.pulses new.folds start mid.last end
  pub count : after.count ≤ before.count + spectra * length new.pulses.hits
  pub reported : (y : ℕ → ℕ → ℕ) → All (HitIsKept y new.pulses.boxes start spectra) new.pulses.hits →
      Adds before after (flat_map (λ u. pulses_of_hits y new.pulses.search new.pulses.sought u new.pulses.hits)
      (range_with_len start spectra))

-- the delays of a shard, when its hits are forgotten
pub delays_are : (s : ShardState) (first end : ℕ) (p : PulseState) → FitTogether s → first ≡ s.pulses.first →
    end ≡ s.pulses.end → p ≡ record s.pulses { hits = [] } → AreDelaysOf p first end
delays_are s first end p fit first_is end_is forgot =
    let from = fit.pulses.first_is in
    let to = fit.pulses.end_is in
    let order = fit.order in
    record {
      first_is = ap (λ (q : PulseState). q.first) forgot ∙ sym first_is;
      end_is = ap (λ (q : PulseState). q.end) forgot ∙ sym end_is;
      order = omega (arith, first_is, end_is, from, to, order);
    }

-- the hits of a chunk are few
few_hits : (s : ShardState) (hits spectra first end : ℕ) → FitTogether s → end ≡ s.pulses.end →
    hits ≤ 6 * (end - first) → spectra * hits ≤ most_pulses_at_end * spectra
few_hits s hits spectra first end fit end_is few =
    let at = fit.pulses.end_is in
    let within = fit.within in
    let most = fit.range.delays.most in
    few_pulses hits spectra (end - first) few (omega (arith, end_is, at, within, most))

-- so there is room for their pulses
pub room_for_hits : (s : ShardState) (hits spectra first end count : ℕ) → FitTogether s → end ≡ s.pulses.end →
    hits ≤ 6 * (end - first) → count + most_pulses_at_end * spectra < 2 ^ 63 → count + spectra * hits < 2 ^ 63
room_for_hits s hits spectra first end count fit end_is few room =
    let all = few_hits s hits spectra first end fit end_is few in
    omega (arith, all, room)

module _ (old new : ShardState) (mid : Carrying) (p : PulseState) (rows : List ℕ) (start spectra first end : ℕ)
    (before after : BookContents) (t : TakesRows old new mid p rows start spectra first end before after) where
  have_taken : (f : Filterbank) → StandsForStream old f → AreNext old.carry f rows spectra →
      HaveTaken (sums_of f old.carry.tables.plan.edges) new.pulses new.folds start spectra end
  have_taken f stands next =
      let T : Tables → Type 0 = λ x. HaveTaken (sums_of f x.plan.edges) new.pulses new.folds start spectra end in
      let N : ℕ → Type 0 = λ n. HaveTaken (sums_of f mid.tables.plan.edges) new.pulses new.folds start n end in
      subst T t.mid_tables (subst N t.mid_last (t.taken f stands.carry next
      (begun f old.carry mid old.pulses p old.folds start mid.last first t.forgot t.mid_tables t.start_is
      (sym t.first_is) (t.fit.folds.first_is ∙ sym t.fit.pulses.first_is ∙ sym t.first_is) stands.pulses
      stands.folds)))

  same_search : SearchAlike new.pulses old.pulses
  same_search = let A : PulseState → Type 0 = λ q. SearchAlike new.pulses q in subst A t.forgot t.pulses

  after_stands : (f : Filterbank) → StandsForStream old f → AreNext old.carry f rows spectra → StandsForStream new f
  after_stands f stands next =
      let have = have_taken f stands next in
      let y = sums_of f old.carry.tables.plan.edges in
      let sum : start + spectra ≡ new.carry.fed = (let from = t.start_is in let all = t.fed in omega arith) in
      let R : Tables → Type 0 = λ x. RowsStandFor (sums_of f x.plan.edges) new.pulses new.carry.fed in
      let F : Tables → Type 0 = λ x. (d : ℕ) → HasDelay new.folds d →
      KeepsFrontOf new.folds d (sums_from_delay (sums_of f x.plan.edges) d new.carry.fed) in
      record {
        carry = t.carried f stands.carry next;
        pulses = subst R (sym t.tables) (all_rows y new.pulses new.folds start spectra end new.carry.fed have
            (same_search.end_is ∙ sym t.end_is) sum);
        folds = subst F (sym t.tables) (all_fronts y new.pulses new.folds start spectra end new.carry.fed have
            (t.folds.end ∙ t.fit.folds.end_is ∙ sym t.fit.pulses.end_is ∙ sym t.end_is) sum);
      }

  pulses_are_added : (f : Filterbank) → StandsForStream old f → AreNext old.carry f rows spectra →
      Adds before after
      (pulses_of_plan f old.carry.tables.plan old.pulses.search old.pulses.sought old.carry.fed spectra)
  pulses_are_added f stands next =
      let have = have_taken f stands next in
      let q = old.pulses in
      let y = sums_of f old.carry.tables.plan.edges in
      adds_same before after _ _
      (all_pulses y new.pulses new.folds start spectra end have (same_search.end_is ∙ sym t.end_is)
      ∙ same_ends y q new.pulses start spectra same_search
      ∙ ap (λ m. pulses_of_ends y q.search q.sought q.first q.end m spectra) t.start_is
      ∙ plan_pulses f old.carry.tables.plan q old.carry.fed spectra t.fit.pulses.first_is t.fit.pulses.end_is)
      (t.reported y (all_kept y new.pulses new.folds start spectra end have))

  old_to_new : HasTakenNext old new rows spectra before after
  old_to_new = record {
    alike = record {
      tables = t.tables;
      max_sample = t.max_sample;
      search = same_search.search_is;
      sought = same_search.sought_is;
    };
    fed = t.fed;
    count = (let few = few_hits old (length new.pulses.hits) spectra first end t.fit t.end_is t.few in
        let count = t.count in omega (arith, few, count));
    carried = t.carried;
    stands = after_stands;
    pulses = pulses_are_added;
  }

  -- the call, of a shard that is seen as `old` before it
  pub takes_next : (s : ShardState) → old ≡ s → HasTakenNext s new rows spectra before after
  takes_next s is =
      let P : ShardState → Type 0 = λ x. HasTakenNext x new rows spectra before after in
      subst P is old_to_new
