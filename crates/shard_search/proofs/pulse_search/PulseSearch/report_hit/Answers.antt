use Rattle.std.proofs.Common.{◌≡◌, ℕ, ◌+◌, ◌-◌, ◌<◌, [], ◌∷◌, List, length, sym, ◌∙◌, ap, subst, arith}
use Rattle.box_sums.specs.Rows.{SumsAddValues, sum_ending}
use Rattle.box_sums.specs.Tails.{RowTails, IsKept}
use Rattle.search_model.specs.declared.candidate.Candidate.TheVariants.{Pulse}
use Rattle.shard_search.specs.PulseSearch.{PulseState}
use Rattle.shard_search.specs.Pulses.{first_sums, box_of}
use Rattle.shard_search.proofs.Adding.{adds_none, adds_same}
use Rattle.shard_search.proofs.Reports.{ending_is_box, early_box, reported_box, missed_box}
use Rattle.shard_search.proofs.pulse_search.PulseSearch.report_hit.Goals as goal

-- the sum of the boxes is that of what contracts see
sum_seen : SumsAddValues → (y : ℕ → ℕ → ℕ) (d start n k w sum : ℕ) (inside seen : RowTails) →
    inside ≡ seen → IsKept seen d n (first_sums y d (start + n)) → k < n →
    ((n : ℕ) (xs : List ℕ) → IsKept inside d n xs → k < n → sum ≡ sum_ending xs (length xs - n + k) w) →
    sum ≡ box_of y d (start + k) w
sum_seen adds y d start n k w sum inside seen same kept below is =
    is n (first_sums y d (start + n)) (subst (λ (b : RowTails). IsKept b d n (first_sums y d (start + n))) (sym same)
    kept) below
    ∙ ending_is_box adds y d start n k w below

-- the end, as the observation counts it
end_seen : (start k k' first first' : ℕ) → first ≡ first' → k' ≡ k → first + (start + k') ≡ first' + (start + k)
end_seen start k k' first first' ef ek = ap (λ n. n + (start + k')) ef ∙ ap (λ n. first' + (start + n)) ek

pub returns-then-from-end-clause-pulse : goal.returns-then-from-end-clause-pulse
returns-then-from-end-clause-pulse c = λ y n below kept.
    let h = c.args.hit.now in
    let s = c.args.self.now in
    let early = c.if-from-end.true in
    adds_same c.args.book.now c.args.book.now [] _
    (sym (early_box y s.search s.sought (c.args.start + c.args.k) h.delay h.width
    (let k = c.from.ensures in let d = c.from-2.ensures in let w = c.from-3.ensures in omega arith)))
    (adds_none c.args.book.now)

pub returns-then-sum-least-clause-pulse : goal.returns-then-sum-least-clause-pulse
returns-then-sum-least-clause-pulse c = λ y n below kept.
    let h = c.args.hit.now in
    let s = c.args.self.now in
    let late = c.if-from-end.false in
    let is = sum_seen c.sums_add_values.ensures y h.delay c.args.start n c.args.k h.width c.kept_sum-sum.result
    c.self.inside.boxes s.boxes (ap (λ (p : PulseState). p.boxes) c.self.view_is) kept below c.kept_sum-sum.ensures in
    adds_same c.args.book.now c.add.new.self _ _
    (ap (λ u. Pulse u h.delay h.width c.kept_sum-sum.result ∷ []) (end_seen c.args.start c.args.k _ _ s.sought.first
    (c.first.ensures ∙ ap (λ (p : PulseState). p.sought.first) c.self.view_is) c.from.ensures)
    ∙ reported_box c.tests_detection.ensures y s.search s.sought (c.args.start + c.args.k) h.delay h.width
    c.kept_sum-sum.result h.least is c.kept_sum-sum.type_inv c.requires.hit.least c.if-sum-least.true
    (let k = c.from.ensures in let d = c.from-2.ensures in let w = c.from-3.ensures in omega arith) c.requires.sought)
    c.add.ensures.list

pub returns-else-sum-least-clause-pulse : goal.returns-else-sum-least-clause-pulse
returns-else-sum-least-clause-pulse c = λ y n below kept.
    let h = c.args.hit.now in
    let s = c.args.self.now in
    let is = sum_seen c.sums_add_values.ensures y h.delay c.args.start n c.args.k h.width c.kept_sum-sum.result
    c.self.inside.boxes s.boxes (ap (λ (p : PulseState). p.boxes) c.self.view_is) kept below c.kept_sum-sum.ensures in
    adds_same c.args.book.now c.args.book.now [] _
    (sym (missed_box c.tests_detection.ensures y s.search s.sought (c.args.start + c.args.k) h.delay h.width
    c.kept_sum-sum.result h.least is c.kept_sum-sum.type_inv c.requires.hit.least c.if-sum-least.false))
    (adds_none c.args.book.now)
