use Rattle.std.proofs.Common.{◌≡◌, ℕ, ◌+◌, ◌-◌, ◌*◌, ◌<◌, List, length, Ok, Err, IfOk, sym, ap, subst, ◌∙◌, arith, rules}
use Rattle.std.specs.Prelude.{Result, slice_index}
use Rattle.band_paths.specs.Edges.{channels_of}
use Rattle.search_model.specs.Sums.{path_sum}
use Rattle.fdmt_carry.specs.Carrying.{IsStream}
use Rattle.crate_uses.proofs.transform.dedispersed.Goals as goal

if_ok : {T E : Type 0} (r : Result T E) (P Q : T → Type 0) → IfOk r P → ((x : T) → P x → Q x) → IfOk r Q
if_ok (Ok x) P Q p f = f x p
if_ok (Err e) P Q p f = tt

pub returns-clause-long : goal.returns-clause-long
returns-clause-long c =
    let long : length c.row.result.now ≡ c.args.spectra = c.row.ensures.long ∙ c.feed.ensures.fed.last in
    if_ok c.copied.result _ _ c.copied.ensures (λ sums is. ap length is ∙ long)

pub returns-clause-sums : goal.returns-clause-sums
returns-clause-sums c =
    let edges = c.args.edges.now in
    let rows = c.args.rows.now in
    let fresh = c.in_ok-carry.carry in
    let fed = c.feed.new.self in
    let opened = c.in_ok-carry.ensures.opened in
    let plan_is : c.in_ok-plan.plan.edges ≡ edges = search rules in
    let edges_are : fed.tables.plan.edges ≡ edges = ap (λ t. t.plan.edges) c.feed.ensures.fed.tables
    ∙ ap (λ p. p.edges) opened.plan_is ∙ plan_is in
    let at_next : (i : ℕ) → i ≡ fresh.fed + i = λ i. omega (arith, opened.nothing_fed) in
    if_ok c.copied.result _ _ c.copied.ensures (λ sums is f u begins below.
    let stream : IsStream c.in_ok-plan.plan 255 f = record {
      channels = begins.channels_are ∙ ap channels_of (sym plan_is);
      small = begins.small;
    } in
    let stands = c.feed.ensures.stands f (c.in_ok-carry.ensures.stands f stream) (λ channel i there within.
    ap (λ (n : ℕ). slice_index rows (channel * n + i)) opened.chunk_is
    ∙ begins.samples channel i (subst (λ (n : ℕ). channel < n) begins.channels_are there) within
    ∙ ap (f.value channel) (at_next i)) in
    let place : fed.fed - fed.last + u ≡ u = omega (
      arith,
      c.feed.ensures.fed.fed,
      c.feed.ensures.fed.last,
      opened.nothing_fed,
    ) in
    ap (λ (xs : List ℕ). slice_index xs u) is
    ∙ c.row.ensures.sums f u stands (omega (arith, below, c.feed.ensures.fed.last))
    ∙ ap (λ (es : List ℕ). path_sum f es (fed.fed - fed.last + u) c.args.delay) edges_are
    ∙ ap (λ (n : ℕ). path_sum f edges n c.args.delay) place)
