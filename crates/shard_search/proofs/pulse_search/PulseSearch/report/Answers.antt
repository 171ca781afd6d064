use Rattle.std.proofs.Common.{◌≡◌, ℕ, ◌+◌, ◌-◌, ◌<◌, ◌≤◌, ◌++◌, false, List, [], refl, sym, ◌∙◌, ap, subst, arith}
use Rattle.std.specs.List.{range_with_len, flat_map}
use Rattle.std.proofs.lemmas.Grind.{flat_map-append}
use Rattle.std.proofs.lemmas.List.{append-nil}
use Rattle.search_model.specs.declared.candidate.Candidate.{Candidate}
use Rattle.shard_search.specs.PulseSearch.{PulseState}
use Rattle.shard_search.specs.Sought.{AreSoughtEnds, is_sought_end}
use Rattle.shard_search.specs.Thresholds.{pulses_of_hits}
use Rattle.shard_search.proofs.Adding.{adds_none, adds_same, adds_more}
use Rattle.shard_search.proofs.Ranges.{flat_nothing, range_join}
use Rattle.shard_search.proofs.Reports.{unsought_hits}
use Rattle.shard_search.proofs.pulse_search.PulseSearch.report.Goals as goal

-- which ends are sought is what contracts see
ends_seen : (start spectra from to : ℕ) (p q : PulseState) → p ≡ q → AreSoughtEnds p.sought start spectra from to →
    AreSoughtEnds q.sought start spectra from to
ends_seen start spectra from to p q same are =
    subst (λ (r : PulseState). AreSoughtEnds r.sought start spectra from to) same are

-- no pulse ends at spectra that are not sought
none_ends : (y : ℕ → ℕ → ℕ) (p : PulseState) (start m n : ℕ) →
    ((k : ℕ) → m ≤ k → k < m + n → is_sought_end p.sought (start + k) ≡ false) →
    flat_map (λ u. pulses_of_hits y p.search p.sought u p.hits) (range_with_len (start + m) n) ≡ []
none_ends y p start m n out =
    flat_nothing (λ u. pulses_of_hits y p.search p.sought u p.hits) (start + m) n
    (λ u from to. unsought_hits y p.search p.sought u p.hits
    (let at : start + (u - start) ≡ u = omega arith in
    subst (λ v. is_sought_end p.sought v ≡ false) at (out (u - start) (omega arith) (omega arith))))

pub loop-k-init : goal.loop-k-init
loop-k-init c =
    let s = c.args.self.now in
    let ends = ends_seen c.args.start c.args.spectra _ _ _ s c.self.view_is c.ends-ends.ensures in
    record {
      count = omega arith;
      pulses = λ y kept. adds_same c.args.book.now c.args.book.now [] _
          (sym (ap (λ a. flat_map (λ u. pulses_of_hits y s.search s.sought u s.hits)
          (range_with_len a c.ends-ends.result.from))
          (let e : c.args.start ≡ c.args.start + 0 = omega arith in e)
          ∙ none_ends y s c.args.start 0 c.ends-ends.result.from (λ k _ below. ends.before k (omega arith))))
          (adds_none c.args.book.now);
    }

pub report_end-requires-clause-sought : goal.report_end-requires-clause-sought
report_end-requires-clause-sought c =
    let ends = ends_seen c.args.start c.args.spectra _ _ _ c.args.self.now c.self.view_is c.ends-ends.ensures in
    let from = c.loop-k.auto.k in
    ends.within c.loop-k.k (omega arith) (omega arith)

pub loop-k-preserved : goal.loop-k-preserved
loop-k-preserved c =
    let s = c.args.self.now in
    let before = c.loop-k.invariant in
    let few = c.report_end.ensures.count in
    let many = before.count in
    let most = c.ends-ends.ensures.most in
    record {
      count = omega (arith, few, many);
      pulses = λ y kept.
          adds_more c.args.book.now c.loop-k.book c.report_end.new.book
          (λ u. pulses_of_hits y s.search s.sought u s.hits) c.args.start c.loop-k.k _ refl
          (before.pulses y kept) (c.report_end.ensures.pulses y c.args.spectra (omega (arith, most)) kept);
    }

-- the spectra past those that are sought
all_ends : (y : ℕ → ℕ → ℕ) (p : PulseState) (start spectra from to : ℕ) → AreSoughtEnds p.sought start spectra from to →
    flat_map (λ u. pulses_of_hits y p.search p.sought u p.hits) (range_with_len start to)
    ≡ flat_map (λ u. pulses_of_hits y p.search p.sought u p.hits) (range_with_len start spectra)
all_ends y p start spectra from to ends =
    let g : ℕ → List Candidate = λ u. pulses_of_hits y p.search p.sought u p.hits in
    let most = ends.most in
    let rest : ℕ = spectra - to in
    let all : to + rest ≡ spectra = omega (arith, most) in
    sym (ap (λ n. flat_map g (range_with_len start n)) (sym all)
    ∙ ap (flat_map g) (range_join start to rest)
    ∙ flat_map-append g (range_with_len start to) (range_with_len (start + to) rest)
    ∙ ap (λ xs. flat_map g (range_with_len start to) ++ xs)
    (none_ends y p start to rest (λ k more less. ends.past k more (omega (arith, all, less))))
    ∙ append-nil (flat_map g (range_with_len start to)))

pub returns-clause-pulses : goal.returns-clause-pulses
returns-clause-pulses c = λ y kept.
    let s = c.args.self.now in
    let ends = ends_seen c.args.start c.args.spectra _ _ _ s c.self.view_is c.ends-ends.ensures in
    let order = ends.order in
    let end : c.loop-k.k ≡ c.ends-ends.result.to =
    (let past = c.loop-k-test.false in let to = c.loop-k.auto.k-end in omega arith) in
    adds_same c.args.book.now c.loop-k.book _ _
    (ap (λ n. flat_map (λ u. pulses_of_hits y s.search s.sought u s.hits) (range_with_len c.args.start n)) end
    ∙ all_ends y s c.args.start c.args.spectra _ _ ends)
    (c.loop-k.invariant.pulses y kept)
