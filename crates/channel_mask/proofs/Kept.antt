-- The search of the channels that a mask keeps: it can be opened, and finds their candidates.
use Rattle.std.proofs.Common.{lit≤, ◌≡◌, ℕ, zero, suc, ◌+◌, ◌<◌, ◌≤◌, true, false, not, Bool, cond, List, [], ◌∷◌, length, map, drop, slice_index, get_or, filter, sum_by, Option, Some, None, refl, sym, ap, subst, ◌∙◌, arith}
use Rattle.std.specs.Prelude.{All, Contains, IfSome, ◌-◌, ◌*◌, ◌^◌, ◌&&◌, nat_lt}
use Rattle.std.specs.List.{list_all, range_with_len}
use Rattle.std.proofs.Math.Path.{fun_ext}
use Rattle.std.proofs.lemmas.Bool.{le-leb, le-ltb}
use Rattle.std.proofs.lemmas.List.Sums.{sum_by-cons}
use Rattle.std.proofs.lemmas.List.Elements.{All-take, Contains-get_or}
use Rattle.dada_model.specs.Bounds.{most_delay}
use Rattle.dada_model.specs.Edges.{AreEdges}
use Rattle.dada_model.specs.Observation.{Observation, edges, max_sample}
use Rattle.search_model.specs.declared.candidate.Candidate.{Candidate}
use Rattle.search_model.specs.declared.candidate.Candidate.TheVariants.{Pulse, Fold}
use Rattle.search_model.specs.declared.search.Search.{Search}
use Rattle.search_model.specs.Search.{SettingsInRange, delay_count, fold_delays, folds_are_on, in_one_shard}
use Rattle.search_model.specs.CandidateLaws.{CandidatesAreListed, CellsAgree, IsCandidate, OneShardIsAll}
use Rattle.search_model.specs.Masks.{kept_cells, kept_of, masked_candidates_of}
use Rattle.search_model.specs.MaskLaws.{PlainIsUnmasked}
use Rattle.search_model.specs.Observed.{filterbank_of}
use Rattle.search_model.specs.Parts.{later}
use Rattle.search_model.specs.Paths.{path}
use Rattle.search_model.specs.Plan.{PlanRefusal, plan_refusal, most_added}
use Rattle.search_model.specs.Plan.PlanRefusal.{SumBound, FoldTooLarge, TooManyFolds, TooManyShards}
use Rattle.search_model.specs.Samples.{Filterbank}
use Rattle.search_model.specs.Sums.{between}
use Rattle.search_model.specs.Candidates.{candidates, delay_of, shard_part}
use Rattle.candidate_book.specs.Book.{BookContents, book_of}
use Rattle.candidate_book.specs.Conditions.{IsSearched}
use Rattle.shard_search.specs.Sought.{Sought, cells_in, is_sought, is_sought_end, sought_of}
use Rattle.search_engine.specs.Engine.{EngineState, HasFoundPart, SameShard, scope_of}
use Rattle.search_engine.specs.Plan.{Explains}
use Rattle.search_engine.specs.declared.fault.PlanFault.{PlanFault}
use Rattle.search_engine.specs.Scope.{FitsObservation, Scope, candidates_in, kept_by, kept_samples, scope_of_channels, searched as samples_in, spectrum_size, whole_scope}
use Rattle.channel_mask.specs.Masked.{HasFoundKept, IsScopeOf, SearchesKept, TellsCells}

-- ---- one shard

pub explained : {fault : PlanFault} → (r q : Option PlanRefusal) → r ≡ q → Explains r fault → Explains q fault
explained {fault} r q same why = subst (λ (k : Option PlanRefusal). Explains k fault) same why

-- what is not refused is not where the last cause is gone
last_gone : {T : Type 0} (a b c d e : Bool) (v w x y z : T) →
    cond a (Some v) (cond b (Some w) (cond c (Some x) (cond d (Some y) None))) ≡ None → e ≡ false →
    cond a (Some v) (cond b (Some w) (cond c (Some x) (cond e (Some z) None))) ≡ None
last_gone true b c d e v w x y z not_refused gone = not_refused
last_gone false true c d e v w x y z not_refused gone = not_refused
last_gone false false true d e v w x y z not_refused gone = not_refused
last_gone false false false d e v w x y z not_refused gone =
    ap (λ (q : Bool). cond q (Some z) None) gone

module _ (o : Observation) (s : Search) where
  abbrev sums : Bool
  sums = nat_lt (2 ^ 32 - 1) (max_sample o * (o.channels + s.max_delay) * most_added s)

  abbrev large : Bool
  large = folds_are_on s && nat_lt (2 ^ 22) (s.fold_max * 2 ^ s.fold_rows)

  abbrev many : Bool
  many = folds_are_on s && nat_lt 64 (length (fold_delays s))

  one_is_few : SettingsInRange s → nat_lt (delay_count s) 1 ≡ false
  one_is_few range =
      let rise = range.delays.rise in
      le-ltb (delay_count s) 1 (omega (arith, rise))

  -- one shard is not too many
  pub one_shard_fits : SettingsInRange s → plan_refusal o s ≡ None → plan_refusal o (in_one_shard s) ≡ None
  one_shard_fits range accepted =
      last_gone sums large many (nat_lt (delay_count s) s.shards) (nat_lt (delay_count s) 1)
      (SumBound (max_sample o) (o.channels + s.max_delay) (most_added s)) (FoldTooLarge s.fold_max s.fold_rows)
      (TooManyFolds (length (fold_delays s))) (TooManyShards s.shards (delay_count s))
      (TooManyShards 1 (delay_count s)) accepted (one_is_few range)

-- ---- cells

less_first : (w : ℕ → ℕ) (x : ℕ) (ys zs : List ℕ) (b : Bool) → sum_by w ys ≤ sum_by w zs →
    sum_by w (cond b (x ∷ ys) ys) ≤ sum_by w (x ∷ zs)
less_first w x ys zs true less =
    let here = sum_by-cons w x ys in
    let there = sum_by-cons w x zs in
    omega (arith, here, there, less)
less_first w x ys zs false less =
    let there = sum_by-cons w x zs in
    omega (arith, there, less)

less_by_filter : (w : ℕ → ℕ) (kept : ℕ → Bool) (xs : List ℕ) →
    sum_by w (filter kept xs) ≤ sum_by w (filter (λ c. true) xs)
less_by_filter w kept [] = lit≤ tt
less_by_filter w kept (x ∷ xs) =
    less_first w x (filter kept xs) (filter (λ c. true) xs) (kept x) (less_by_filter w kept xs)

pub few_cells : PlainIsUnmasked → (kept : ℕ → Bool) (band : List ℕ) (n d : ℕ) → AreEdges n band →
    kept_cells kept band n d ≤ n + d
few_cells law kept band n d are =
    let e = path band n d in
    let less = less_by_filter (λ c. length (between (slice_index e c) (slice_index e (c + 1)))) kept
    (range_with_len 0 n) in
    subst (λ m. kept_cells kept band n d ≤ m) (law.cells (λ c. true) band n d are (λ c. refl)) less

-- counts that rise no faster than their places, and no more past the last of them
few_counts : (counts : List ℕ) (n : ℕ) → ((d : ℕ) → d < length counts → slice_index counts d ≤ n + d) →
    (d : ℕ) → slice_index counts d ≤ n + d
few_counts [] n few d = omega arith
few_counts (x ∷ xs) n few zero = few 0 (omega arith)
few_counts (x ∷ xs) n few (suc d) =
    let more : slice_index xs d ≤ n + 1 + d = few_counts xs (n + 1)
    (λ i below. let next : slice_index xs i ≤ n + suc i = few (suc i) (omega (arith, below)) in omega (arith, next))
    d in
    let is : slice_index xs d ≤ n + suc d = omega (arith, more) in is

-- the channels without a mark are searched, by their cells
pub counted_is_scope : PlainIsUnmasked → (o : Observation) (max_delay : ℕ) (mask : List Bool) (counts : List ℕ) →
    AreEdges o.channels (edges o) → length counts ≡ max_delay + 1 →
    ((d : ℕ) → d ≤ max_delay → slice_index counts d ≡ kept_cells (kept_by mask) (edges o) o.channels d) →
    IsScopeOf o max_delay mask (scope_of_channels mask counts)
counted_is_scope law o max_delay mask counts are long each = record {
  keeps = λ c. refl;
  cells = each;
  few = few_counts counts o.channels (λ d below.
      subst (λ m. m ≤ o.channels + d) (sym (each d (omega (arith, below, long))))
      (few_cells law (kept_by mask) (edges o) o.channels d are));
  first = refl;
  place = refl;
  until = refl;
}

all_kept : (mask : List Bool) → list_all (λ mark. not mark) mask ≡ true → (c : ℕ) → kept_by mask c ≡ true
all_kept [] none c = refl
all_kept (true ∷ mask) none c = (cc)
all_kept (false ∷ mask) none zero = refl
all_kept (false ∷ mask) none (suc c) = all_kept mask none c

-- where no channel is marked, all of the observation is searched
pub whole_is_scope : PlainIsUnmasked → (o : Observation) (max_delay : ℕ) (mask : List Bool) →
    AreEdges o.channels (edges o) → list_all (λ mark. not mark) mask ≡ true →
    IsScopeOf o max_delay mask (whole_scope o.channels)
whole_is_scope law o max_delay mask are none = record {
  keeps = λ c. sym (all_kept mask none c);
  cells = λ d below. sym (law.cells (kept_by mask) (edges o) o.channels d are (all_kept mask none));
  few = λ d. omega arith;
  first = refl;
  place = refl;
  until = refl;
}

pub fits : (o : Observation) (max_delay : ℕ) (mask : List Bool) (scope : Scope) → IsScopeOf o max_delay mask scope →
    length scope.masked ≤ o.channels → (s : Search) → FitsObservation o s scope
fits o max_delay mask scope is marks s = record {
  marks = marks;
  sought = record {
    cells = λ d below. is.few d;
    early = subst (λ n. n ≤ 2 ^ 61) (sym is.first) (lit≤ tt);
  };
  first = subst (λ n. n ≤ 2 ^ 48) (sym is.first) (lit≤ tt);
  until = subst (λ (u : Option ℕ). IfSome u (λ m. m ≤ 2 ^ 48)) (sym is.until) tt;
}

pub tells_cells : (o : Observation) (s : Search) (mask : List Bool) (e : EngineState) → SearchesKept o s mask e →
    TellsCells e
tells_cells o s mask e searches =
    let channels : o.channels ≤ 4096 = searches.bounds.many_channels in
    record {
      most = subst (λ (t : Search). t.max_delay ≤ most_delay) (sym searches.search_is) searches.range.delays.most;
      small = λ d below. let few = searches.scope.few d in omega (arith, channels, few, below);
    }

pub tells_still : (old new : EngineState) → SameShard new old → scope_of new ≡ scope_of old → TellsCells old →
    TellsCells new
tells_still old new same scope tells = record {
  most = subst (λ (t : Search). t.max_delay ≤ most_delay) (sym same.search) tells.most;
  small = λ d below. subst (λ (c : Scope). cells_in c.sought d < 2 ^ 32) (sym scope) (tells.small d below);
}

-- the cells that an engine tells of, whose view is another name of it
pub small_at : (e view : EngineState) (d : ℕ) → e ≡ view → TellsCells e → d ≤ view.search.max_delay →
    cells_in (scope_of e).sought d < 2 ^ 32
small_at e view d same tells within =
    let here = subst (λ (x : EngineState). d ≤ x.search.max_delay) (sym same) within in
    let most = tells.most in
    tells.small d (omega (arith, here, most))

pub cells_at : (o : Observation) (s : Search) (mask : List Bool) (e view : EngineState) (d : ℕ) → e ≡ view →
    SearchesKept o s mask view → d ≤ view.search.max_delay →
    cells_in (scope_of e).sought d ≡ kept_cells (kept_by mask) (edges o) o.channels d
cells_at o s mask e view d same searches within =
    ap (λ (x : EngineState). cells_in (scope_of x).sought d) same
    ∙ searches.scope.cells d (subst (λ (t : Search). d ≤ t.max_delay) searches.search_is within)

-- ---- all is sought

kept_first : (g : Candidate → Candidate) (x : Candidate) (xs : List Candidate) (b : Bool) → b ≡ true →
    map g (cond b (x ∷ xs) xs) ≡ g x ∷ map g xs
kept_first g x xs b is = ap (λ t. map g (cond t (x ∷ xs) xs)) is

module _ (c : Sought) where
  -- all ends, from the first spectrum on
  abbrev all_of : Sought
  all_of = record c { first = 0; place = 0; until = None }

  all_ends : (end : ℕ) → is_sought_end all_of end ≡ true
  all_ends end = ap (λ b. b && true) (le-leb 0 (0 + end) (omega arith))

  all_sought : (list : List Candidate) → sought_of all_of list ≡ list
  all_sought [] = refl
  all_sought (Pulse end d w sum ∷ list) =
      kept_first (later 0) (Pulse end d w sum) (filter (is_sought all_of) list) (is_sought_end all_of end)
      (all_ends end)
      ∙ ap (λ e. Pulse e d w sum ∷ sought_of all_of list) (let same : 0 + end ≡ end = omega arith in same)
      ∙ ap (λ xs. Pulse end d w sum ∷ xs) (all_sought list)
  all_sought (Fold d p m j q sum ∷ list) = ap (λ xs. Fold d p m j q sum ∷ xs) (all_sought list)

-- ---- what is found

module _ (listed : CandidatesAreListed) (o : Observation) (s : Search) (range : SettingsInRange s)
    (mask : List Bool) (bytes : List ℕ) where
  abbrev found : List Candidate
  found = masked_candidates_of o s (kept_by mask) bytes

  abbrev IsFound : Candidate → Type 0
  IsFound = IsCandidate (kept_of (kept_by mask) (filterbank_of o bytes)) (edges o)
      (kept_cells (kept_by mask) (edges o) o.channels) s

  is_found : (c : Candidate) → Contains found c → IsFound c
  is_found c there = (listed (kept_of (kept_by mask) (filterbank_of o bytes)) (edges o)
      (kept_cells (kept_by mask) (edges o) o.channels) s c).0 there

  searched : (c : Candidate) → IsFound c → IsSearched c
  searched (Pulse end delay width sum) is = (omega (arith, is.delay_to, range.delays.most), is.box)
  searched (Fold delay period halvings trial phase sum) is = (
    omega (arith, is.delay_to, range.delays.most),
    is.rows.some,
    omega (arith, is.rows.within, range.folds.most_rows),
  )

  early : (c : Candidate) → IsFound c → delay_of c ≤ s.max_delay
  early (Pulse end delay width sum) is = is.delay_to
  early (Fold delay period halvings trial phase sum) is = is.delay_to

  pub all_searched : All IsSearched found
  all_searched = λ i d within.
      searched (get_or found i d) (is_found (get_or found i d) (Contains-get_or found i d within))

  pub all_early : (c : Candidate) → Contains found c → delay_of c ≤ s.max_delay
  all_early c there = early c (is_found c there)

-- the search goes on in the same engine
pub same_searches : (o : Observation) (s : Search) (mask : List Bool) (old new : EngineState) → SameShard new old →
    scope_of new ≡ scope_of old → SearchesKept o s mask old → SearchesKept o s mask new
same_searches o s mask old new same scope searches = record {
  bounds = searches.bounds;
  range = searches.range;
  search_is = same.search ∙ searches.search_is;
  shard_is = same.shard ∙ searches.shard_is;
  scope = subst (IsScopeOf o s.max_delay mask) (sym scope) searches.scope;
}

-- what is found in the scope of a mask are the candidates of the channels that it keeps
scope_found : CellsAgree → (o : Observation) (s : Search) (max_delay : ℕ) (mask : List Bool) (scope : Scope)
    (bytes : List ℕ) → IsScopeOf o max_delay mask scope → s.max_delay ≡ max_delay →
    candidates_in o scope s bytes ≡ masked_candidates_of o s (kept_by mask) bytes
scope_found agree o s max_delay mask scope bytes is most =
    let c = scope.sought in
    let own : List Bool → Sought → List Candidate = λ masked sought.
    candidates_in o (record { masked = masked; sought = sought }) s bytes in
    let cells = cells_in c in
    let list : Filterbank → List Candidate = λ f. candidates f (edges o) cells s in
    ap (λ n. own scope.masked (record c { first = n })) is.first
    ∙ ap (λ n. own scope.masked (record c { first = 0; place = n })) is.place
    ∙ ap (λ u. own scope.masked (record c { first = 0; place = 0; until = u })) is.until
    ∙ all_sought c (list (samples_in o (record { masked = scope.masked; sought = all_of c }) bytes))
    ∙ ap (λ n. list (kept_samples o scope.masked (drop n bytes)))
    (let none : 0 * spectrum_size o ≡ 0 = omega arith in none)
    ∙ ap (λ (kept : ℕ → Bool). list (kept_of kept (filterbank_of o bytes))) (fun_ext is.keeps)
    ∙ agree (kept_of (kept_by mask) (filterbank_of o bytes)) (edges o) cells
    (kept_cells (kept_by mask) (edges o) o.channels) s (λ d from to. is.cells d (omega (arith, to, most)))

pub kept_found : CandidatesAreListed → OneShardIsAll → CellsAgree → (o : Observation) (s : Search)
    (mask : List Bool) (bytes : List ℕ) (e : EngineState) → SearchesKept o s mask e → HasFoundPart o bytes e →
    HasFoundKept o s mask bytes e
kept_found listed one agree o s mask bytes e searches part =
    let one_of = in_one_shard s in
    let all : List Candidate = masked_candidates_of o s (kept_by mask) bytes in
    let is : Search → ℕ → List Candidate → BookContents = λ t k list. book_of t.max_candidates (shard_part t k list) in
    let list : candidates_in o (scope_of e) e.search bytes ≡ all =
    ap (λ (t : Search). candidates_in o (scope_of e) t bytes) searches.search_is
    ∙ scope_found agree o one_of s.max_delay mask (scope_of e) bytes searches.scope refl in
    let book : e.book ≡ book_of s.max_candidates all =
    part.book ∙ ap (is e.search e.shard) list ∙ ap (λ (t : Search). is t e.shard all) searches.search_is
    ∙ ap (λ (k : ℕ). is one_of k all) searches.shard_is
    ∙ ap (λ (xs : List Candidate). book_of s.max_candidates xs)
    (one (kept_of (kept_by mask) (filterbank_of o bytes)) (edges o) (kept_cells (kept_by mask) (edges o) o.channels)
    one_of refl) in
    record {
      searches = searches;
      book = book;
      spectra = part.all;
      searched = subst (All IsSearched) (sym (ap (λ (b : BookContents). b.kept) book))
          (All-take IsSearched s.max_candidates all (all_searched listed o s searches.range mask bytes));
    }
