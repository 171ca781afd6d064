-- Rows of 16 bits.
use Rattle.std.proofs.Common.{◌≡◌, ℕ, ◌+◌, ◌-◌, ◌*◌, ◌^◌, ◌<◌, true, false, Bool, List, [], ◌∷◌, ◌++◌, length, slice_index_or, replicate, arith, ap, sym, ◌∙◌, subst, refl, inl, inr}
use Rattle.std.proofs.Math.ListN.{get_or-append, get_or-eq_default}
use Rattle.std.proofs.Math.Seq.{get_or-append_seam}
use Rattle.std.proofs.lemmas.List.{length_push, get_or-replicate, length-replicate}
use Rattle.std.proofs.lemmas.Bool.{cases_lt, false≢true}
use Rattle.row_model.specs.Sums.{is_narrow}
use Rattle.subband_plan.specs.declared.nodes.Node.{Node}
use Rattle.subband_plan.specs.declared.rows.PlanRows.{PlanRows}
use Rattle.subband_plan.specs.Nodes.{BandPlan, nodes_of, node_at}
use Rattle.subband_plan.specs.Rows.{node_of, delay_of}
use Rattle.fdmt_carry.specs.Orders.{AreLow, AreParts, AreWide}

pub not_true : (b : Bool) → (b ≡ true → ⊥) → b ≡ false
not_true true never = absurd (never refl)
not_true false never = refl

-- rows that all have 32 bits
pub none_narrow : (n : ℕ) (narrow : List Bool) → narrow ≡ replicate n false → AreWide narrow
none_narrow n narrow is r = elim (cases_lt r n) [
  | inl within ↦ ap (λ (xs : List Bool). slice_index_or xs r false) is ∙ get_or-replicate n r false false within
  | inr past ↦ ap (λ (xs : List Bool). slice_index_or xs r false) is
      ∙ get_or-eq_default (replicate n false) false (let e = length-replicate n false in omega arith)
]

-- a row that has 16 bits is none of the whole band, and its sums have 16 bits
pub record IsLowRow (p : BandPlan) (rows : PlanRows) (m r : ℕ) : Type 0 where
  pub part : 0 < node_of rows r
  pub low : m * ((node_at (nodes_of p) (node_of rows r)).hi - (node_at (nodes_of p) (node_of rows r)).lo
      + delay_of rows r) < 2 ^ 16

pub low_row : (p : BandPlan) (rows : PlanRows) (m r k d : ℕ) (nodes : List Node) → nodes ≡ nodes_of p →
    k ≡ node_of rows r → d ≡ delay_of rows r → 0 < k →
    m * ((node_at nodes k).hi - (node_at nodes k).lo + d) < 2 ^ 16 → IsLowRow p rows m r
low_row p rows m r k d nodes all same delay part low = record {
  part = subst (λ k. 0 < k) same part;
  low = subst (λ k. m * ((node_at (nodes_of p) k).hi - (node_at (nodes_of p) k).lo + delay_of rows r) < 2 ^ 16) same
      (subst (λ (nodes : List Node). m * ((node_at nodes k).hi - (node_at nodes k).lo + delay_of rows r) < 2 ^ 16) all
      (subst (λ d. m * ((node_at nodes k).hi - (node_at nodes k).lo + d) < 2 ^ 16) delay low));
}

-- so it is with the first rows
pub record AreLowRows (p : BandPlan) (rows : PlanRows) (m count : ℕ) (narrow : List Bool) : Type 0 where
  pub entries : length narrow ≡ count
  pub each : (r : ℕ) → is_narrow narrow r ≡ true → IsLowRow p rows m r

pub low_more : (p : BandPlan) (rows : PlanRows) (m count : ℕ) (narrow : List Bool) (b : Bool) →
    AreLowRows p rows m count narrow → (b ≡ true → IsLowRow p rows m count) →
    AreLowRows p rows m (count + 1) (narrow ++ b ∷ [])
low_more p rows m count narrow b low here =
    let size = low.entries in
    record {
      entries = length_push narrow b ∙ ap (λ n. n + 1) size;
      each = λ r has. elim (cases_lt r count) [
        | inl before ↦ low.each r (sym (get_or-append narrow (b ∷ []) false r (omega arith)) ∙ has)
        | inr after ↦ elim (cases_lt count r) [
          | inl past ↦ absurd (false≢true (sym (get_or-eq_default (narrow ++ b ∷ []) false
              (let e = length_push narrow b in omega arith)) ∙ has))
          | inr last ↦
              let same : count ≡ r = omega arith in
              subst (λ r. IsLowRow p rows m r) same (here
              (sym (get_or-append_seam narrow b [] false)
              ∙ ap (λ n. slice_index_or (narrow ++ b ∷ []) n false) (size ∙ same) ∙ has))
        ]
      ];
    }

pub are_low : (p : BandPlan) (rows : PlanRows) (m count : ℕ) (narrow : List Bool) →
    AreLowRows p rows m count narrow → AreLow p rows narrow m
are_low p rows m count narrow low r has = (low.each r has).low

-- no row has 16 bits
pub none_low : (p : BandPlan) (rows : PlanRows) (n m : ℕ) (narrow : List Bool) → narrow ≡ replicate n false →
    AreLow p rows narrow m × AreParts rows narrow
none_low p rows n m narrow is = (
  λ r has. absurd (false≢true (sym (none_narrow n narrow is r) ∙ has)),
  λ r has. absurd (false≢true (sym (none_narrow n narrow is r) ∙ has)),
)
