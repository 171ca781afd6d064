-- A row more of a pass.
use Rattle.std.proofs.Common.{◌≡◌, ℕ, ◌+◌, ◌-◌, ◌*◌, ◌<◌, ◌≤◌, List, length, get_or, slice_index, refl, sym, ◌∙◌, ap, subst, arith}
use Rattle.std.proofs.lemmas.List.Elements.{All-from_get_or}
use Rattle.fdmt_carry.specs.Carrying.{Carrying, IsBegun, IsReached, IsRowOn, IsStream, AreNext, StandsMidway}
use Rattle.fdmt_carry.specs.Tables.{Tables}
use Rattle.search_model.specs.Samples.{Filterbank}
use Rattle.search_model.specs.SubbandLaws.{SumsAreBounded}
use Rattle.search_model.specs.Sums.{path_sum}
use Rattle.fold_search.specs.FoldSearch.{Fronts}
use Rattle.row_schedule.specs.declared.halves.Halves.{Halves}
use Rattle.row_schedule.specs.Halves.{HaveLength, half_sum}
use Rattle.shard_search.specs.PulseSearch.{PulseState, SearchAlike, SearchesDelay, CanTakeHalves, half_row}
use Rattle.shard_search.specs.Pulses.{IsRowOf}
use Rattle.shard_search.specs.Sums.{FitTogether, HasSmallRow, HaveTaken, IsAtRow, IsPassedTo, sums_of}
use Rattle.shard_search.proofs.Bounds.{sum_is_small}
use Rattle.shard_search.proofs.Quiet.{half_at, half_length}

-- a length that is said of both halves is that of the upper one
of_upper : (n : ℕ) (halves : Halves) → HaveLength n halves → HaveLength (length halves.upper.now) halves
of_upper n halves long = record { upper = refl; lower = long.lower ∙ sym long.upper }

pub passed_more : (c mid new : Carrying) (d : ℕ) → IsPassedTo c mid d → IsRowOn mid new → IsPassedTo c new (d + 1)
passed_more c mid new d passed row = record {
  tables = row.tables ∙ passed.tables;
  max_sample = row.max_sample ∙ passed.max_sample;
  fed = row.fed ∙ passed.fed;
  last = row.last ∙ passed.last;
  passing = row.passing;
  next = row.next ∙ ap (λ n. n + 1) passed.next;
}

-- the samples are those of the next spectra when a pass begins
pub begun_next : (c new : Carrying) (f : Filterbank) (rows : List ℕ) (spectra : ℕ) → IsBegun c new spectra →
    AreNext c f rows spectra → AreNext new f rows new.last
begun_next c new f rows spectra begun next = λ channel i within early.
    let last = begun.last in
    ap (λ (t : Tables). slice_index rows (channel * t.chunk + i)) begun.tables
    ∙ next channel i within (omega (arith, early, last))
    ∙ ap (λ u. f.value channel (u + i)) (sym begun.fed)

-- and while it goes on
pub still_next : (c mid : Carrying) (f : Filterbank) (rows : List ℕ) (d : ℕ) → IsPassedTo c mid d →
    AreNext c f rows c.last → AreNext mid f rows mid.last
still_next c mid f rows d passed next = λ channel i within early.
    let last = passed.last in
    ap (λ (t : Tables). slice_index rows (channel * t.chunk + i)) passed.tables
    ∙ next channel i within (omega (arith, early, last))
    ∙ ap (λ u. f.value channel (u + i)) (sym passed.fed)

-- a row that was made is that of its delay
pub row_is_made : (c new : Carrying) (f : Filterbank) (row : List ℕ) (d : ℕ) → IsPassedTo c new (d + 1) →
    ((k : ℕ) → k < new.last → get_or row k 0 ≡ path_sum f new.tables.plan.edges (new.fed + k) (new.next - 1)) →
    (k : ℕ) → k < c.last → get_or row k 0 ≡ path_sum f c.tables.plan.edges (c.fed + k) d
row_is_made c new f row d passed is = λ k inside.
    let last = passed.last in
    let next = passed.next in
    is k (omega (arith, inside, last))
    ∙ ap (λ (t : Tables). path_sum f t.plan.edges (new.fed + k) (new.next - 1)) passed.tables
    ∙ ap (λ u. path_sum f c.tables.plan.edges (u + k) (new.next - 1)) passed.fed
    ∙ ap (λ e. path_sum f c.tables.plan.edges (c.fed + k) e) (let e : new.next - 1 ≡ d = omega (arith, next) in e)

-- it goes on where it has come to what the next row is made of
pub passed_reach : (c mid new : Carrying) (d : ℕ) → IsPassedTo c mid d → IsReached mid new → IsPassedTo c new d
passed_reach c mid new d passed reached = record {
  tables = reached.tables ∙ passed.tables;
  max_sample = reached.max_sample ∙ passed.max_sample;
  fed = reached.fed ∙ passed.fed;
  last = reached.last ∙ passed.last;
  passing = reached.passing;
  next = reached.next ∙ passed.next;
}

-- as many sums as both halves have values
pub half_row_length : (n : ℕ) (halves : Halves) → HaveLength n halves → length (half_row halves) ≡ n
half_row_length n halves long = half_length halves (of_upper n halves long) ∙ long.upper

-- the sums of the halves of the next row are those of its delay
pub half_row_is : (c : Carrying) (halves : Halves) (f : Filterbank) (d : ℕ) → IsAtRow c d c.fed →
    HaveLength c.last halves →
    ((k : ℕ) → k < c.last → half_sum halves k ≡ path_sum f c.tables.plan.edges (c.fed + k) c.next) →
    IsRowOf (sums_of f c.tables.plan.edges) d c.fed (half_row halves)
unfolding sums_of
half_row_is c halves f d at long sums k inside =
    let own = of_upper c.last halves long in
    let count = long.upper in
    let many = half_length halves own in
    half_at halves k own inside
    ∙ sums k (omega (arith, count, many, inside))
    ∙ ap (λ e. path_sum f c.tables.plan.edges (c.fed + k) e) at.next_is

-- so they can be taken
pub can_take_halves : (c : Carrying) (p : PulseState) (halves : Halves) (d : ℕ) → SearchesDelay p d →
    HasSmallRow c p d → HaveLength c.last halves →
    ((f : Filterbank) (k : ℕ) → StandsMidway c f → k < c.last →
    half_sum halves k ≡ path_sum f c.tables.plan.edges (c.fed + k) c.next) → CanTakeHalves p d halves
can_take_halves c p halves d has row long sums =
    let own = of_upper c.last halves long in
    let count = long.upper in
    let many = half_length halves own in
    let short = row.short in
    let is = half_row_is c halves row.stream d row.at long (λ k lt. sums row.stream k row.stands lt) in
    record {
      delay = has;
      long = own;
      short = omega (arith, short, count);
      small = All-from_get_or (λ x. x ≤ p.boxes.bound) (half_row halves) 0
          (λ k inside. subst (λ x. x ≤ p.boxes.bound) (sym (is k inside))
          (row.small k (omega (arith, inside, many, count))));
    }

-- a pass over a stream has come to a row, whose sums are small
pub has_small_row : SumsAreBounded → (old c : Carrying) (q p : PulseState) (g : Fronts) (f : Filterbank) (d : ℕ) →
    FitTogether (record { carry = old; pulses = q; folds = g }) → old.last ≤ old.tables.chunk →
    IsStream old.tables.plan old.max_sample f → IsPassedTo old c d → SearchAlike p q → d ≤ old.tables.plan.last →
    StandsMidway c f → HasSmallRow c p d
unfolding sums_of
has_small_row law old c q p g f d fit short stream passed alike within stands =
    let last = passed.last in
    let chunk = ap (λ (t : Tables). t.chunk) passed.tables in
    let end = ap (λ (t : Tables). t.plan.last) passed.tables in
    let own_chunk = alike.chunk_is ∙ fit.pulses.chunk_is in
    let bound = alike.bound_is ∙ fit.pulses.bound_is in
    let delays = fit.within in
    record {
      at = record {
        passing = passed.passing;
        next_is = passed.next;
        short = omega (arith, short, last, chunk);
        start_is = refl;
      };
      within = omega (arith, within, end);
      short = omega (arith, short, last, own_chunk);
      stream = f;
      stands = stands;
      small = λ k inside.
          let small = sum_is_small law old q.search f (c.fed + k) d fit.band stream (omega (arith, within, delays)) in
          subst (λ (t : Tables). path_sum f t.plan.edges (c.fed + k) d ≤ p.boxes.bound) (sym passed.tables)
          (subst (λ b. path_sum f old.tables.plan.edges (c.fed + k) d ≤ b) (sym bound) small);
    }

-- what was taken in the words of a carry that came so far, in those of the one before
pub taken_before : (old c : Carrying) (f : Filterbank) (p p' : PulseState) (g : Fronts) (d start : ℕ) →
    IsPassedTo old c d → start ≡ old.fed →
    (HaveTaken (sums_of f c.tables.plan.edges) p g c.fed c.last d →
    HaveTaken (sums_of f c.tables.plan.edges) p' g c.fed c.last (d + 1)) →
    HaveTaken (sums_of f old.tables.plan.edges) p g start old.last d →
    HaveTaken (sums_of f old.tables.plan.edges) p' g start old.last (d + 1)
taken_before old c f p p' g d start passed from taken =
    let T : Tables → ℕ → ℕ → Type 0 = λ t m n. HaveTaken (sums_of f t.plan.edges) p g m n d →
    HaveTaken (sums_of f t.plan.edges) p' g m n (d + 1) in
    subst (λ (t : Tables). T t start old.last) passed.tables
    (subst (λ m. T c.tables m old.last) (passed.fed ∙ sym from) (subst (λ n. T c.tables c.fed n) passed.last taken))
