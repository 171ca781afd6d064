-- What holds of a search that is not refused.
use Rattle.std.proofs.Common.{◌≡◌, ℕ, ◌+◌, ◌-◌, ◌*◌, ◌/◌, ◌^◌, ◌≤◌, ◌<◌, Bool, true, false, cond, ◌&&◌, IsTrue, length, ltb, Option, Some, None, refl, sym, ap, ◌∙◌, arith}
use Rattle.std.proofs.Math.Nat.{div-mul-le_self, div-le_of_le-mul, mul-le-mul_left, mul-le-mul_right}
use Rattle.std.proofs.lemmas.Bool.{cond-true, ltb-false}
use Rattle.std.proofs.lemmas.Nat.{le-div}
use Rattle.dada_model.specs.Observation.{Observation, max_sample}
use Rattle.search_model.specs.declared.search.Search.{Search}
use Rattle.search_model.specs.Plan.{PlanRefusal, most_added, plan_refusal}
use Rattle.search_model.specs.Search.{SettingsInRange, folds_are_on, fold_delays, delay_count, shard_start}
use Rattle.fold_search.specs.FoldSearch.{FoldsFit, IsDelayRange}
use Rattle.shard_search.specs.Opening.{SumsFit}

-- the tests of a refusal, one after another
refusal_after : (b : Bool) (refusal : PlanRefusal) (rest : Option PlanRefusal) →
    cond b (Some refusal) rest ≡ None → (b ≡ false) × (rest ≡ None)
refusal_after true refusal rest none = absurd (cc)
refusal_after false refusal rest none = (refl, none)

-- what is not refused: sums past 32 bits, large folds, many folds, many shards
record NotRefused (o : Observation) (s : Search) : Type 0 where
  sums : ltb (2 ^ 32 - 1) (max_sample o * (o.channels + s.max_delay) * most_added s) ≡ false
  folds : folds_are_on s && ltb (2 ^ 22) (s.fold_max * 2 ^ s.fold_rows) ≡ false
  shards : ltb (delay_count s) s.shards ≡ false

not_refused : (o : Observation) (s : Search) → plan_refusal o s ≡ None → NotRefused o s
not_refused o s none =
    let first = refusal_after (ltb (2 ^ 32 - 1) (max_sample o * (o.channels + s.max_delay) * most_added s)) _ _ none in
    let second = refusal_after (folds_are_on s && ltb (2 ^ 22) (s.fold_max * 2 ^ s.fold_rows)) _ _ first.1 in
    let third = refusal_after (folds_are_on s && ltb 64 (length (fold_delays s))) _ _ second.1 in
    let fourth = refusal_after (ltb (delay_count s) s.shards) _ _ third.1 in
    record { sums = first.0; folds = second.0; shards = fourth.0 }

-- a part of the path sums that are added
part_fits : (bound part all : ℕ) → part ≤ all → ltb (2 ^ 32 - 1) (bound * all) ≡ false → bound * part < 2 ^ 32
part_fits bound part all few fits =
    let most = ltb-false (2 ^ 32 - 1) (bound * all) fits in
    let less = mul-le-mul_left bound few in
    omega (arith, most, less)

-- box sums fit into 32 bits
boxes_fit : (o : Observation) (s : Search) → plan_refusal o s ≡ None →
    max_sample o * (o.channels + s.max_delay) * s.widest < 2 ^ 32
boxes_fit o s none =
    part_fits (max_sample o * (o.channels + s.max_delay)) s.widest (most_added s) (omega arith)
    (not_refused o s none).sums

-- and so do folds, where they are on
folds_fit : (o : Observation) (s : Search) → plan_refusal o s ≡ None → IsTrue (folds_are_on s) →
    FoldsFit s (max_sample o * (o.channels + s.max_delay))
folds_fit o s none on =
    let not = not_refused o s none in
    let added : cond (folds_are_on s) (2 ^ s.fold_rows) 1 ≡ 2 ^ s.fold_rows =
    cond-true (folds_are_on s) (2 ^ s.fold_rows) 1 on in
    let size : ltb (2 ^ 22) (s.fold_max * 2 ^ s.fold_rows) ≡ false =
    ap (λ b. b && ltb (2 ^ 22) (s.fold_max * 2 ^ s.fold_rows)) (sym on) ∙ not.folds in
    record {
      size = ltb-false (2 ^ 22) (s.fold_max * 2 ^ s.fold_rows) size;
      sums = part_fits (max_sample o * (o.channels + s.max_delay)) (2 ^ s.fold_rows) (most_added s)
          (omega (arith, added)) not.sums;
    }

pub sums_fit : (o : Observation) (s : Search) → plan_refusal o s ≡ None →
    SumsFit s (max_sample o * (o.channels + s.max_delay))
sums_fit o s none = record { boxes = boxes_fit o s none; folds = folds_fit o s none }

-- ---- the delays of a shard

-- of as many delays as parts or more, each part has one
parts_rise : (k count parts : ℕ) → 0 < parts → parts ≤ count → k * count / parts < (k + 1) * count / parts
parts_rise k count parts some enough =
    let below = div-mul-le_self (k * count) parts in
    let next = le-div (k * count / parts + 1) ((k + 1) * count) parts some (omega (arith, below)) in
    omega (arith, next)

-- and the last ends with the last delay
parts_end : (k count parts : ℕ) → 0 < parts → k < parts → (k + 1) * count / parts ≤ count
parts_end k count parts some within =
    div-le_of_le-mul parts (mul-le-mul_right count (let last : k + 1 ≤ parts = omega arith in last))

pub shard_rises : (o : Observation) (s : Search) (k : ℕ) → SettingsInRange s → plan_refusal o s ≡ None →
    shard_start s k < shard_start s (k + 1)
shard_rises o s k range none =
    let some = range.parts.least_shards in
    let enough = ltb-false (delay_count s) s.shards (not_refused o s none).shards in
    let rise = parts_rise k (delay_count s) s.shards some enough in
    omega (arith, rise)

pub shard_delays : (o : Observation) (s : Search) (k : ℕ) → SettingsInRange s → plan_refusal o s ≡ None →
    k < s.shards → IsDelayRange s (shard_start s k) (shard_start s (k + 1))
shard_delays o s k range none within =
    let some = range.parts.least_shards in
    let rise = shard_rises o s k range none in
    let last = parts_end k (delay_count s) s.shards some within in
    let order = range.delays.rise in
    record {
      from = omega arith;
      order = omega (arith, rise);
      to = omega (arith, last, order);
    }
