use Rattle.std.proofs.Common.{◌≡◌, ℕ, ◌+◌, ◌<◌, ◌++◌, All, List, length, vec_len, get_or, sym, ◌∙◌, ap, subst, arith, rules}
use Rattle.box_sums.specs.Tails.{RowTails, AreAlike, IsNewest, IsKept}
use Rattle.shard_search.specs.PulseSearch.{PulseState, WideRowHas, IsTakenRow, IsHitBelow}
use Rattle.shard_search.specs.Pulses.{first_sums, IsRowOf}
use Rattle.shard_search.proofs.Hits.{can_judge, keeps_hit, kept_more, kept_same, row_pulses}
use Rattle.shard_search.proofs.Rows.{sums_more}
use Rattle.shard_search.proofs.WidthCounts.{widths_few}
use Rattle.shard_search.proofs.pulse_search.PulseSearch.take.Goals as goal

-- a row that was taken
taken_row : (y : ℕ → ℕ → ℕ) (inside seen b : RowTails) (d m : ℕ) (row : List ℕ) → inside ≡ seen → IsRowOf y d m row →
    WideRowHas seen d (first_sums y d m) →
    ((xs : List ℕ) → WideRowHas inside d xs → 1 < b.widest → IsNewest b d (length row) (xs ++ row)) →
    IsTakenRow y b d m row
taken_row y inside seen b d m row same is has fed = record {
  values = is;
  newest = λ wide. subst (IsNewest b d (length row)) (sums_more y d m row is)
      (fed (first_sums y d m)
      (subst (λ (r : RowTails). WideRowHas r d (first_sums y d m)) (sym same) has) wide);
}

pub note_hits-requires-clause-room : goal.note_hits-requires-clause-room
note_hits-requires-clause-room c =
    let f = c.self.inside in
    let hits = ap (λ (p : PulseState). length p.hits) c.self.view_is in
    let first = ap (λ (p : PulseState). p.first) c.self.view_is in
    let end = ap (λ (p : PulseState). p.end) c.self.view_is in
    let few = widths_few f.search in
    let widths = ap (λ (xs : List ℕ). length xs) c.self.invariant.thresholds_are.widths_are in
    let len : vec_len f.hits ≡ length f.hits.items = search rules in
    let room = c.requires.room in
    let capacity = c.self.invariant.room in
    omega (arith, hits, first, end, few, widths, len, room, capacity)

pub note_hits-requires-clause-judge : goal.note_hits-requires-clause-judge
note_hits-requires-clause-judge c =
    let f = c.self.inside in
    let i = c.self.invariant in
    let first = ap (λ (p : PulseState). p.first) c.self.view_is in
    let end = ap (λ (p : PulseState). p.end) c.self.view_is in
    let above = c.requires.delay.above in
    let below = c.requires.delay.below in
    can_judge f.search f.sought f.first f.end c.args.d f.thresholds c.feed_boxes.new.boxes i.thresholds_are
    (c.feed_boxes.ensures.alike.widest ∙ i.boxes.widest) (omega (arith, first, above)) (omega (arith, end, below))

pub invariant_of-self : goal.invariant_of-self
invariant_of-self c =
    let f = c.self.inside in
    let i = c.self.invariant in
    let fed : AreAlike c.note_hits.new.boxes f.boxes =
    subst (λ (b : RowTails). AreAlike b f.boxes) (sym c.note_hits.ensures.same) c.feed_boxes.ensures.alike in
    let kept = c.keep_row.ensures.alike in
    record {
      range = i.range;
      sought = i.sought;
      few_delays = i.few_delays;
      boxes = record {
        first_row = kept.first ∙ fed.first ∙ i.boxes.first_row;
        last_row = ap (λ n. n + 1) (kept.last ∙ fed.last) ∙ i.boxes.last_row;
        widest = kept.widest ∙ fed.widest ∙ i.boxes.widest;
      };
      thresholds_are = i.thresholds_are;
      hits = c.note_hits.ensures.hits f.search f.sought f.end i.thresholds_are i.hits;
      room = let same = c.note_hits.ensures.capacity in let room = i.room in omega (arith, same, room);
    }

pub returns-then-len-before-clause-few : goal.returns-then-len-before-clause-few
returns-then-len-before-clause-few c =
    let f = c.self.inside in
    let hits = ap (λ (p : PulseState). length p.hits) c.self.view_is in
    let few = widths_few f.search in
    let widths = ap (λ (xs : List ℕ). length xs) c.self.invariant.thresholds_are.widths_are in
    let more = c.note_hits.ensures.few in
    omega (arith, hits, few, widths, more)

pub returns-then-len-before-clause-hits : goal.returns-then-len-before-clause-hits
returns-then-len-before-clause-hits c = λ y m k is has below.
    let f = c.self.inside in
    let s = c.args.self.now in
    let taken = taken_row y f.boxes s.boxes c.feed_boxes.new.boxes c.args.d m c.args.row.now
    (ap (λ (p : PulseState). p.boxes) c.self.view_is) is has c.feed_boxes.ensures.newest in
    row_pulses y f.search f.sought (m + k) c.args.d f.hits.items c.note_hits.new.hits.items s
    (c.note_hits.ensures.pulses f.search f.sought f.end m k y c.self.invariant.thresholds_are taken below)
    (ap (λ (p : PulseState). p.search) c.self.view_is) (ap (λ (p : PulseState). p.sought) c.self.view_is)
    (ap (λ (p : PulseState). p.hits) c.self.view_is)

pub returns-else-len-before-clause-hits : goal.returns-else-len-before-clause-hits
returns-else-len-before-clause-hits c = λ y m k is has below.
    let f = c.self.inside in
    let s = c.args.self.now in
    let taken = taken_row y f.boxes s.boxes c.feed_boxes.new.boxes c.args.d m c.args.row.now
    (ap (λ (p : PulseState). p.boxes) c.self.view_is) is has c.feed_boxes.ensures.newest in
    row_pulses y f.search f.sought (m + k) c.args.d f.hits.items c.note_hits.new.hits.items s
    (c.note_hits.ensures.pulses f.search f.sought f.end m k y c.self.invariant.thresholds_are taken below)
    (ap (λ (p : PulseState). p.search) c.self.view_is) (ap (λ (p : PulseState). p.sought) c.self.view_is)
    (ap (λ (p : PulseState). p.hits) c.self.view_is)

-- the hits before are those of the fields
hits_seen : (y : ℕ → ℕ → ℕ) (m n d : ℕ) (p q : PulseState) → p ≡ q → All (IsHitBelow y q.boxes m n d) q.hits →
    All (IsHitBelow y p.boxes m n d) p.hits
hits_seen y m n d p q same all = subst (λ (r : PulseState). All (IsHitBelow y r.boxes m n d) r.hits) (sym same) all

pub returns-then-len-before-clause-kept : goal.returns-then-len-before-clause-kept
returns-then-len-before-clause-kept c = λ y m is has before.
    let f = c.self.inside in
    let i = c.self.invariant in
    let d : ℕ = c.args.d in
    let n : ℕ = length c.args.row.now in
    let same = c.note_hits.ensures.same in
    let alike : AreAlike c.note_hits.new.boxes f.boxes =
    subst (λ (b : RowTails). AreAlike b f.boxes) (sym same) c.feed_boxes.ensures.alike in
    let first = alike.first in
    let last = alike.last in
    let taken = subst (λ (b : RowTails). IsTakenRow y b d m c.args.row.now) (sym same)
    (taken_row y f.boxes c.args.self.now.boxes c.feed_boxes.new.boxes d m c.args.row.now
    (ap (λ (p : PulseState). p.boxes) c.self.view_is) is has c.feed_boxes.ensures.newest) in
    let sums = sums_more y d m c.args.row.now is in
    kept_more y f.boxes c.keep_row.new.boxes m n d f.hits.items c.note_hits.new.hits.items c.note_hits.ensures.own
    (λ j h inside. keeps_hit f.search f.sought f.first f.end f.boxes (get_or f.hits.items j h) i.boxes
    (i.hits j h inside))
    (hits_seen y m n d _ c.args.self.now c.self.view_is before)
    (λ e keeps apart kept. c.keep_row.ensures.others e n (first_sums y e (m + n))
    (record {
      above = (let above = keeps.above in omega (arith, above, first));
      below = (let below = keeps.below in omega (arith, below, last));
    })
    apart (subst (λ (b : RowTails). IsKept b e n (first_sums y e (m + n))) (sym same)
    (c.feed_boxes.ensures.kept e n (first_sums y e (m + n)) kept)))
    (subst (IsKept c.keep_row.new.boxes d n) sums
    (c.keep_row.ensures.own (first_sums y d m)
    (λ wide. subst (IsNewest c.note_hits.new.boxes d n) (sym sums) (taken.newest wide))))

pub returns-else-len-before-clause-kept : goal.returns-else-len-before-clause-kept
returns-else-len-before-clause-kept c = λ y m is has before.
    let f = c.self.inside in
    let n : ℕ = length c.args.row.now in
    let old : vec_len f.hits ≡ length f.hits.items = search rules in
    let new : vec_len c.note_hits.new.hits ≡ length c.note_hits.new.hits.items = search rules in
    let first = c.len-before.ensures in
    let second = c.len.ensures in
    let few = c.if-len-before.false in
    kept_same y f.boxes c.note_hits.new.boxes m n c.args.d f.hits.items c.note_hits.new.hits.items
    c.note_hits.ensures.own (omega (arith, old, new, first, second, few))
    (hits_seen y m n c.args.d _ c.args.self.now c.self.view_is before)
    (λ e kept. subst (λ (b : RowTails). IsKept b e n (first_sums y e (m + n))) (sym c.note_hits.ensures.same)
    (c.feed_boxes.ensures.kept e n (first_sums y e (m + n)) kept))
