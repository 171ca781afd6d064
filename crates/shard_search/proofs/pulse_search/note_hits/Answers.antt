use Rattle.std.proofs.Common.{◌≡◌, ◌+◌, ◌*◌, ◌≤◌, ◌<◌, ◌++◌, ℕ, All, List, Option, Some, None, length, vec_len, slice_index, sym, ◌∙◌, ap, subst, arith, rules, length-append}
use Rattle.std.specs.List.{flat_map}
use Rattle.std.specs.Prelude.{option_to_list}
use Rattle.std.proofs.lemmas.Grind.{get_or_default_zero}
use Rattle.std.proofs.lemmas.List.{take_all}
use Rattle.std.proofs.lemmas.List.Elements.{All-get_or}
use Rattle.detect_rule.specs.Noise.{StandOutFrom}
use Rattle.fold_search.specs.Judging.{noise_of}
use Rattle.search_model.specs.declared.search.Search.{Search}
use Rattle.shard_search.specs.declared.thresholds.Hit.{Hit}
use Rattle.shard_search.specs.Thresholds.{AreThresholds, IsHit, pulses_of_hits, pulse_of_hit}
use Rattle.shard_search.specs.PulseSearch.{IsTakenRow, AddsHitsOf}
use Rattle.shard_search.specs.Pulses.{pulse_of}
use Rattle.shard_search.specs.Sought.{Sought, cells_in}
use Rattle.shard_search.proofs.Hits.{one_noted}
use Rattle.shard_search.proofs.Pieces.{noted_more, all_noted}
use Rattle.shard_search.proofs.WidthCounts.{are_narrow}
use Rattle.shard_search.proofs.WidthLists.{before_end}
use Rattle.shard_search.proofs.pulse_search.note_hits.Goals as goal

one_at_most : (o : Option Hit) → length (option_to_list o) ≤ 1
one_at_most (Some x) = omega arith
one_at_most None = omega arith

pub loop-at-preserved : goal.loop-at-preserved
loop-at-preserved c =
    let a = c.args in
    let ws = a.thresholds.now.widths.items in
    let i = c.loop-at.at in
    let w = c.index-width.result.now in
    let hit = c.find_hit.result in
    let before = c.loop-at.invariant in
    let len : vec_len a.thresholds.now.widths ≡ length ws = search rules in
    let to = c.len-at-end.ensures in
    let test = c.loop-at-test.true in
    let inside : i < length ws = omega (arith, len, to, test) in
    let width : w ≡ slice_index ws i = c.index-width.ensures ∙ get_or_default_zero ws i w inside in
    let Least : Search → Sought → ℕ → Type 0 =
    λ s x v. StandOutFrom (noise_of s) (v * cells_in x a.d) c.least-least.result in
    let least = λ (s : Search) (x : Sought) (end : ℕ) (are : AreThresholds s x a.first end a.thresholds.now).
    subst (Least s x) (sym width) (c.least-least.ensures s x end are) in
    record {
      same = c.find_hit.ensures.same ∙ before.same;
      capacity = c.note.ensures.capacity ∙ before.capacity;
      few = let more = length-append c.loop-at.hits.items (option_to_list hit) in
          let one = one_at_most hit in let few = before.few in
          subst (λ (xs : List Hit). length xs ≤ length a.hits.now.items + (i + 1)) (sym c.note.ensures.items)
          (omega (arith, more, one, few));
      hits = λ s x end are start.
          let count = are.count in
          let places = c.requires.judge.inside in
          let below = before_end (length ws) a.first a.d end (omega (arith, inside)) c.requires.judge.above
          (omega (arith, count, places)) in
          let narrow = subst (λ v. v ≤ s.widest) (sym c.index-width.ensures)
          (All-get_or (λ v. v ≤ s.widest) ws i w inside
          (subst (All (λ v. v ≤ s.widest)) (sym are.widths_are) (are_narrow s))) in
          subst (All (IsHit s x a.first end)) (sym c.note.ensures.items)
          (all_noted (IsHit s x a.first end) c.loop-at.hits.items hit (before.hits s x end are start)
          (c.find_hit.ensures.hit s x a.first end c.requires.judge.above below narrow (least s x end are)));
      own = subst (AddsHitsOf a.d a.hits.now.items) (sym c.note.ensures.items)
          (one_noted a.d a.hits.now.items c.loop-at.hits.items hit before.own c.find_hit.ensures.own);
      pulses = λ s x end m k y are stands below.
          noted_more (λ h. pulse_of_hit y s x (m + k) h) (λ v. pulse_of y s x (m + k) a.d v)
          a.hits.now.items c.loop-at.hits.items c.note.new.hits.items hit ws i w
          c.note.ensures.items (before.pulses s x end m k y are stands below)
          (c.find_hit.ensures.pulses s x m k y (least s x end are)
          (subst (λ b. IsTakenRow y b a.d m a.row.now) (sym before.same) stands) below)
          inside c.index-width.ensures;
    }

pub returns-clause-pulses : goal.returns-clause-pulses
returns-clause-pulses c = λ s x end m k y are stands below.
    let a = c.args in
    let ws = a.thresholds.now.widths.items in
    let len : vec_len a.thresholds.now.widths ≡ length ws = search rules in
    let to = c.len-at-end.ensures in
    let test = c.loop-at-test.false in
    c.loop-at.invariant.pulses s x end m k y are stands below
    ∙ ap (λ (vs : List ℕ). pulses_of_hits y s x (m + k) a.hits.now.items
    ++ flat_map (λ v. pulse_of y s x (m + k) a.d v) vs)
    (take_all c.loop-at.at ws (omega (arith, len, to, test)) ∙ are.widths_are)
