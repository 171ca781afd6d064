use Rattle.std.proofs.Common.{◌≡◌, ◌<◌, ◌∙◌, List, length, get_or, take, sym, ap, arith, rules, SFits}
use Rattle.std.specs.Int.{w128}
use Rattle.std.specs.Prelude.{ℤ, pos, filter_map}
use Rattle.dada_model.specs.declared.key.Key.{Key}
use Rattle.dada_model.specs.declared.key.Key.TheVariants.{Nchan, ObsOffset}
use Rattle.dada_model.specs.Fields.{fields_of}
use Rattle.dada_model.specs.Observation.{number_of}
use Rattle.obs_plan.specs.Offset.{has_value, offset_or_fault}
use Rattle.std.proofs.lemmas.Int.{to_z-of_z}
use Rattle.std.proofs.lemmas.List.{take_all}
use Rattle.obs_plan.specs.Later.{difference, unless_differs, profile_values, later_offset_of}
use Rattle.obs_plan.proofs.Differences.{same_next, differs_first, same_value, other_value}
use Rattle.obs_plan.proofs.profile.Profile.later_offset.Goals as goal
use Rattle.obs_plan.proofs.profile.Profile.later_offset.Goals.{After-has_value}

-- the value that is compared
abbrev compared : After-has_value → Key × ℤ
compared c = get_or c.values-key-items.result c.loop-key.key-index (Nchan, pos 0)

within : (c : After-has_value) → c.loop-key.key-index < length c.values-key-items.result
within c = let count = ap length c.loop-key.invariant.items in omega arith

judged : (c : After-has_value) →
    c.has_value.result ≡ has_value (number_of (fields_of c.args.later.now.text) (compared c).0) (compared c).1
judged c =
    let fits : SFits w128 (compared c).1 = search rules in
    c.has_value.ensures ∙ ap (has_value (number_of (fields_of c.args.later.now.text) (compared c).0))
    (to_z-of_z w128 (compared c).1 fits)

pub loop-key-preserved : goal.loop-key-preserved
loop-key-preserved c =
    let here = (goal.at.loop-key-preserved c).After-has_value in
    let fields = fields_of c.args.later.now.text in
    let same = same_value fields (compared here) (sym (judged here) ∙ c.if-not-has_value.false) in
    record {
      items = c.loop-key.invariant.items;
      same = same_next (difference fields) c.values-key-items.result c.loop-key.key-index (Nchan, pos 0) (within here)
          c.loop-key.invariant.same same;
    }

pub returns-then-not-has_value : goal.returns-then-not-has_value
unfolding later_offset_of
returns-then-not-has_value c =
    let here = (goal.at.returns-then-not-has_value c).After-has_value in
    let fields = fields_of c.args.later.now.text in
    let offset = offset_or_fault (number_of fields ObsOffset) in
    let other = other_value fields (compared here) (sym (judged here) ∙ c.if-not-has_value.true) in
    let first = differs_first (difference fields) c.values-key-items.result c.loop-key.key-index (Nchan, pos 0)
    (within here) c.loop-key.invariant.same _ other offset in
    sym (ap (λ (es : List (Key × ℤ)). unless_differs (filter_map (difference fields) es) offset)
    (sym c.loop-key.invariant.items) ∙ first)

pub returns : goal.returns
unfolding later_offset_of
returns c =
    let fields = fields_of c.args.later.now.text in
    let all : filter_map (difference fields) (profile_values c.args.self.now) ≡ filter_map (difference fields)
    (take c.loop-key.key-index c.values-key-items.result) =
    let count = ap length c.loop-key.invariant.items in
    ap (filter_map (difference fields)) (sym c.loop-key.invariant.items
    ∙ sym (take_all c.loop-key.key-index c.values-key-items.result (omega arith))) in
    c.offset.ensures ∙ sym (ap (λ es. unless_differs es (offset_or_fault (number_of fields ObsOffset))) (all
    ∙ c.loop-key.invariant.same))
