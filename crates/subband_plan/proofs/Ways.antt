-- The six ways in which a row is made.
use Rattle.std.proofs.Common.{◌≡◌, ℕ, ◌+◌, ◌-◌, ◌≤◌, ◌<◌, Bool, true, false, List, length, arith, ap, sym, inl, inr}
use Rattle.std.proofs.lemmas.Bool.{cases_lt}
use Rattle.search_model.specs.SubbandLaws.{SplitsStep}
use Rattle.row_model.specs.declared.Merge.{Merge}
use Rattle.row_model.specs.declared.Source.{Source}
use Rattle.row_model.specs.declared.Source.TheVariants.{Channel, Sum}
use Rattle.subband_plan.specs.declared.nodes.Node.{Node}
use Rattle.subband_plan.specs.Nodes.{split_of, node_at}
use Rattle.subband_plan.specs.NodeLaws.{AreLaid, lower_number}
use Rattle.subband_plan.specs.Rows.{IsMade, row_at, sum_of, halves_of}
use Rattle.subband_plan.proofs.Splits.{node_steps}

abbrev merge_of : Source → Merge
merge_of (Channel c) = record { upper = 0; lower = 0; late = 0 }
merge_of (Sum m) = m

abbrev channel_of : Source → ℕ
channel_of (Channel c) = c
channel_of (Sum m) = 0

abbrev is_sum : Source → Bool
is_sum (Channel c) = false
is_sum (Sum m) = true

-- what a sum is made of
pub same_sum : (m : Merge) (upper lower late : ℕ) → Sum m ≡ sum_of upper lower late →
    m ≡ record { upper = upper; lower = lower; late = late }
same_sum m upper lower late e = ap merge_of e

pub same_channel : (a b : ℕ) → Channel a ≡ Channel b → a ≡ b
same_channel a b e = ap channel_of e

pub apart : (c : ℕ) (m : Merge) → Channel c ≡ Sum m → ⊥
apart c m e = let clash : false ≡ true = ap is_sum e in cc

-- how s makes the row of delay d of node k
pub data Way (edges : List ℕ) (nodes : List Node) (starts : List ℕ) (k d : ℕ) (s : Source) : Type 0 where
  sample : (node_at nodes k).hi ≡ (node_at nodes k).lo + 1 → d ≡ 0 → s ≡ Channel (node_at nodes k).lo →
      Way edges nodes starts k d s
  sample_more : (e : ℕ) → (node_at nodes k).hi ≡ (node_at nodes k).lo + 1 → d ≡ e + 1 →
      s ≡ sum_of (row_at nodes starts k 0) (row_at nodes starts k e) d → Way edges nodes starts k d s
  two_samples : (node_at nodes k).hi ≡ (node_at nodes k).lo + 2 → d ≡ 0 →
      s ≡ sum_of (row_at nodes starts (k + 1) 0) (row_at nodes starts (lower_number (node_at nodes k) k) 0) 0 →
      Way edges nodes starts k d s
  upper_more : (e : ℕ) → (node_at nodes k).hi ≡ (node_at nodes k).lo + 2 → d ≡ e + 1 →
      split_of edges (node_at nodes k) d ≡ split_of edges (node_at nodes k) e + 1 →
      s ≡ sum_of (row_at nodes starts (k + 1) 0) (row_at nodes starts k e) d → Way edges nodes starts k d s
  lower_more : (e : ℕ) → (node_at nodes k).hi ≡ (node_at nodes k).lo + 2 → d ≡ e + 1 →
      split_of edges (node_at nodes k) d ≡ split_of edges (node_at nodes k) e →
      s ≡ sum_of (row_at nodes starts k e) (row_at nodes starts (lower_number (node_at nodes k) k) 0) 1 →
      Way edges nodes starts k d s
  both_halves : (node_at nodes k).lo + 3 ≤ (node_at nodes k).hi →
      s ≡ halves_of nodes starts k d (split_of edges (node_at nodes k) d) → Way edges nodes starts k d s

way_of_two : SplitsStep → (edges : List ℕ) (nodes : List Node) (starts : List ℕ) (k d e : ℕ) (s : Source) →
    AreLaid edges nodes → k < length nodes → (node_at nodes k).hi ≡ (node_at nodes k).lo + 2 → d ≡ e + 1 →
    IsMade edges nodes starts k d s → Way edges nodes starts k d s
way_of_two steps edges nodes starts k d e s laid node two next made =
    let n = node_at nodes k in
    let step = rw (sym next) at (node_steps steps edges n laid.band (laid.each k node).branch (omega arith) e) in
    let rises = step.rises in
    let by_one = step.by_one in
    elim (cases_lt (split_of edges n e) (split_of edges n d)) [
      | inl more ↦
          let grows : split_of edges n d ≡ split_of edges n e + 1 = omega arith in
          upper_more e two next grows ((made.two two).grows e next grows)
      | inr same ↦
          let stays : split_of edges n d ≡ split_of edges n e = omega arith in
          lower_more e two next stays ((made.two two).stays e next stays)
    ]

pub way_of : SplitsStep → (edges : List ℕ) (nodes : List Node) (starts : List ℕ) (k d : ℕ) (s : Source) →
    AreLaid edges nodes → k < length nodes → IsMade edges nodes starts k d s → Way edges nodes starts k d s
way_of steps edges nodes starts k d s laid node made =
    let n = node_at nodes k in
    let some = (laid.each k node).branch.some in
    elim (cases_lt n.hi (n.lo + 3)) [
      | inr more ↦ both_halves more (made.more more)
      | inl small ↦ elim (cases_lt n.hi (n.lo + 2)) [
        | inl single ↦
            let one : n.hi ≡ n.lo + 1 = omega arith in
            elim (cases_lt d 1) [
              | inl first ↦
                  let none : d ≡ 0 = omega arith in
                  sample one none ((made.one one).first none)
              | inr later ↦
                  let next : d ≡ d - 1 + 1 = omega arith in
                  sample_more (d - 1) one next ((made.one one).next (d - 1) next)
            ]
        | inr pair ↦
            let two : n.hi ≡ n.lo + 2 = omega arith in
            elim (cases_lt d 1) [
              | inl first ↦
                  let none : d ≡ 0 = omega arith in
                  two_samples two none ((made.two two).first none)
              | inr later ↦ way_of_two steps edges nodes starts k d (d - 1) s laid node two (omega arith) made
            ]
      ]
    ]
