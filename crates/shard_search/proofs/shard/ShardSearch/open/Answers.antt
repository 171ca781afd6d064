use Rattle.std.proofs.Common.{◌≡◌, ℕ, ◌+◌, ◌-◌, ◌*◌, ◌<◌, List, map, refl, sym, ◌∙◌, ap, subst, arith}
use Rattle.std.specs.List.{range_with_len}
use Rattle.band_paths.specs.Edges.{channels_of}
use Rattle.dada_model.specs.Edges.{AreEdges}
use Rattle.fdmt_carry.specs.Carrying.{Carrying, IsOpened, IsStream}
use Rattle.search_model.specs.declared.search.Search.{Search}
use Rattle.search_model.specs.Samples.{Filterbank}
use Rattle.search_model.specs.Search.{SettingsInRange}
use Rattle.subband_plan.specs.Plans.{band_plan}
use Rattle.subband_plan.specs.Nodes.{BandPlan}
use Rattle.fold_search.specs.FoldSearch.{Fronts, FoldsFor, IsDelayRange, KeepsFrontOf}
use Rattle.shard_search.specs.PulseSearch.{PulseState, SearchesFor, RowsStandFor}
use Rattle.shard_search.specs.Sought.{Sought}
use Rattle.shard_search.specs.Sums.{FitTogether, sums_of}
use Rattle.shard_search.proofs.Ends.{over_more}
use Rattle.shard_search.proofs.shard.ShardSearch.open.Goals as goal

-- the parts that are opened search the same delays
opened_fit : (s : Search) (x : Sought) (edges : List ℕ) (first end chunk most max_sample channels bound : ℕ)
    (plan : BandPlan) (c : Carrying) (p : PulseState) (g : Fronts) → AreEdges (channels_of edges) edges →
    SettingsInRange s →
    IsDelayRange s first end → first < end → channels ≡ channels_of edges →
    bound ≡ max_sample * (channels + s.max_delay) → plan ≡ band_plan edges first (end - 1) →
    IsOpened c plan chunk most max_sample → SearchesFor p s x first end chunk bound →
    FoldsFor g s first end bound → FitTogether (record { carry = c; pulses = p; folds = g })
opened_fit s x edges first end chunk most max_sample channels bound plan c p g band range delays some count is_bound is
    carry pulses folds =
    let plan_is : c.tables.plan ≡ band_plan edges first (end - 1) = carry.plan_is ∙ is in
    let edges_are : c.tables.plan.edges ≡ edges = ap (λ (q : BandPlan). q.edges) plan_is in
    let first_is : c.tables.plan.first ≡ first = ap (λ (q : BandPlan). q.first) plan_is in
    let last_is : c.tables.plan.last ≡ end - 1 = ap (λ (q : BandPlan). q.last) plan_is in
    let channels_are : channels ≡ channels_of c.tables.plan.edges = count ∙ ap channels_of (sym edges_are) in
    let most : s.max_delay ≡ p.search.max_delay = ap (λ (t : Search). t.max_delay) (sym pulses.search_is) in
    let end_is : end ≡ c.tables.plan.last + 1 = omega (arith, last_is, some) in
    let same_bound : bound ≡ c.max_sample * (channels_of c.tables.plan.edges + p.search.max_delay) =
    is_bound ∙ ap (λ m. m * (channels + s.max_delay)) (sym carry.max_sample_is)
    ∙ ap (λ n. c.max_sample * (n + s.max_delay)) channels_are
    ∙ ap (λ d. c.max_sample * (channels_of c.tables.plan.edges + d)) most in
    let to = delays.to in
    record {
      band = subst (λ (xs : List ℕ). AreEdges (channels_of xs) xs) (sym edges_are) band;
      range = subst SettingsInRange (sym pulses.search_is) range;
      order = omega (arith, first_is, last_is, some);
      within = omega (arith, last_is, to, most);
      pulses = record {
        search_is = refl;
        sought_is = refl;
        first_is = pulses.first_is ∙ sym first_is;
        end_is = pulses.end_is ∙ end_is;
        chunk_is = pulses.chunk_is ∙ sym carry.chunk_is;
        bound_is = pulses.bound_is ∙ same_bound;
      };
      folds = record {
        search_is = folds.search_is ∙ sym pulses.search_is;
        first_is = folds.first_is ∙ sym first_is;
        end_is = folds.end_is ∙ end_is;
        bound_is = folds.bound_is ∙ same_bound;
      };
    }

pub invariant_of-result : goal.invariant_of-result
invariant_of-result c = (
  opened_fit c.args.search.now c.args.sought c.args.edges.now c.args.first c.args.end c.args.chunk _
      c.args.max_sample _ _
      c.in_ok-plan.plan c.in_ok-carry.carry c.in_ok-pulses.pulses c.in_ok-folds.folds c.requires.band c.requires.range
      c.requires.delays c.requires.some_delays refl refl c.in_ok-plan.ensures c.in_ok-carry.ensures.opened
      c.in_ok-pulses.ensures.opened c.in_ok-folds.ensures.opened,
  sym c.in_ok-pulses.ensures.opened.first_is,
  sym c.in_ok-pulses.ensures.opened.end_is,
  c.in_ok-carry.ensures.opened.not_passing,
)

pub open-requires-clause-sought : goal.open-requires-clause-sought
open-requires-clause-sought c =
    over_more c.args.sought (channels_of c.args.edges.now) 4096 c.args.end c.requires.few_channels c.requires.sought

pub returns : goal.returns
returns c =
    let carry = c.in_ok-carry.carry in
    let opened = c.in_ok-carry.ensures.opened in
    let pulses = c.in_ok-pulses.ensures.opened in
    let y = λ (f : Filterbank). sums_of f carry.tables.plan.edges in
    let P : Filterbank → BandPlan → Type 0 = λ f p. IsStream p c.args.max_sample f in
    let Q : Filterbank → ℕ → Type 0 = λ f n. RowsStandFor (y f) c.in_ok-pulses.pulses n in
    record {
      plan = opened.plan_is ∙ c.in_ok-plan.ensures;
      rows = opened.chunk_is;
      most = opened.most_is;
      greatest = opened.max_sample_is;
      search_is = pulses.search_is;
      sought_is = pulses.sought_is;
      nothing_fed = opened.nothing_fed;
      stands = λ f stream. record {
        carry = c.in_ok-carry.ensures.stands f (subst (P f) (sym c.in_ok-plan.ensures) stream);
        pulses = subst (Q f) (sym opened.nothing_fed) (c.in_ok-pulses.ensures.stands (y f));
        folds = λ d h.
            let K : ℕ → Type 0 = λ n. KeepsFrontOf c.in_ok-folds.folds d
            (map (λ i. y f d (d + i)) (range_with_len 0 n)) in
            let fed = opened.nothing_fed in
            let none : 0 ≡ carry.fed - d = omega (arith, fed) in
            subst K none (c.in_ok-folds.ensures.none d h);
      };
    }
