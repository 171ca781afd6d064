-- Orders, and one more of them.
use Rattle.std.proofs.Common.{◌≡◌, ℕ, zero, suc, ◌<◌, true, Bool, List, [], ◌∷◌, ◌++◌, Some, length, take, arith, sym, ◌∙◌, subst, refl, add-one, inl, inr}
use Rattle.std.proofs.Math.ListN.{get_or-append}
use Rattle.std.proofs.Math.Seq.{get_or-append_seam}
use Rattle.std.proofs.lemmas.Bool.{cases_lt, eq-eqb, ne_eqb}
use Rattle.std.proofs.lemmas.List.{get_or-take, length_push}
use Rattle.row_model.specs.declared.Rows.{Rows}
use Rattle.row_schedule.specs.declared.builder.Order.{Order}
use Rattle.row_schedule.specs.Orders.{AreInOrder, IsReady, StandsBeside, holds, is_made, order_at}

-- the first j orders are the same
abbrev pub SameFront : List Order → List Order → ℕ → Type 0
SameFront orders other j = (i : ℕ) → i < j → order_at other i ≡ order_at orders i

pub holds_front : (orders other : List Order) (j slot : ℕ) → SameFront orders other j →
    holds other j slot ≡ holds orders j slot
unfolding holds
holds_front orders other zero slot same = refl
holds_front orders other (suc j) slot same =
    rw (same j (omega arith), holds_front orders other j slot (λ i lt. same i (omega arith))) refl

pub made_front : (orders other : List Order) (j r : ℕ) → SameFront orders other j →
    is_made other j r ≡ is_made orders j r
unfolding is_made
made_front orders other zero r same = refl
made_front orders other (suc j) r same =
    rw (same j (omega arith), made_front orders other j r (λ i lt. same i (omega arith))) refl

beside_front : (orders other : List Order) (j slot r : ℕ) → SameFront orders other j →
    StandsBeside orders j slot r → StandsBeside other j slot r
beside_front orders other j slot r same stands =
    (stands.0, holds_front orders other j stands.0 same ∙ stands.1, stands.2)

-- so what can be made after them is the same
pub ready_front : (rows : Rows) (narrow slots : List Bool) (orders other : List Order) (j : ℕ) (o : Order) →
    SameFront orders other j → IsReady rows narrow slots orders j o → IsReady rows narrow slots other j o
ready_front rows narrow slots orders other j o same ready = record {
  row = ready.row;
  slot = ready.slot;
  width = ready.width;
  once = made_front orders other j o.row same ∙ ready.once;
  upper = λ m is. beside_front orders other j o.slot m.upper same (ready.upper m is);
  lower = λ m is. beside_front orders other j o.slot m.lower same (ready.lower m is);
  narrow_sums = ready.narrow_sums;
}

-- one order more
pub order_before : (orders : List Order) (o : Order) (i : ℕ) → i < length orders →
    order_at (orders ++ o ∷ []) i ≡ order_at orders i
order_before orders o i lt = get_or-append orders (o ∷ []) _ i lt

pub order_last : (orders : List Order) (o : Order) → order_at (orders ++ o ∷ []) (length orders) ≡ o
order_last orders o = get_or-append_seam orders o [] _

pub order_taken : (orders : List Order) (n i : ℕ) → i < n → order_at (take n orders) i ≡ order_at orders i
order_taken orders n i lt = get_or-take n orders i _ lt

-- an order more makes its row, and its slot has this
pub made_last : (orders : List Order) (o : Order) (r : ℕ) → o.row ≡ r →
    is_made (orders ++ o ∷ []) (length (orders ++ o ∷ [])) r ≡ true
unfolding is_made
made_last orders o r same =
    rw (length_push orders o, add-one, order_last orders o, eq-eqb o.row r same) refl

pub made_more : (orders : List Order) (o : Order) (r : ℕ) → (o.row ≡ r → ⊥) →
    is_made (orders ++ o ∷ []) (length (orders ++ o ∷ [])) r ≡ is_made orders (length orders) r
unfolding is_made
made_more orders o r other =
    rw (length_push orders o, add-one, order_last orders o, ne_eqb o.row r other)
    (made_front orders (orders ++ o ∷ []) (length orders) r (λ i lt. order_before orders o i lt))

pub held_last : (orders : List Order) (o : Order) (slot : ℕ) → o.slot ≡ slot →
    holds (orders ++ o ∷ []) (length (orders ++ o ∷ [])) slot ≡ Some o.row
unfolding holds
held_last orders o slot same =
    rw (length_push orders o, add-one, order_last orders o, eq-eqb o.slot slot same) refl

pub held_more : (orders : List Order) (o : Order) (slot : ℕ) → (o.slot ≡ slot → ⊥) →
    holds (orders ++ o ∷ []) (length (orders ++ o ∷ [])) slot ≡ holds orders (length orders) slot
unfolding holds
held_more orders o slot other =
    rw (length_push orders o, add-one, order_last orders o, ne_eqb o.slot slot other)
    (holds_front orders (orders ++ o ∷ []) (length orders) slot (λ i lt. order_before orders o i lt))

-- and all can be carried out one after another
pub in_order_more : (rows : Rows) (narrow slots : List Bool) (orders : List Order) (o : Order) →
    AreInOrder rows narrow slots orders → IsReady rows narrow slots orders (length orders) o →
    AreInOrder rows narrow slots (orders ++ o ∷ [])
in_order_more rows narrow slots orders o in_order ready j lt = elim (cases_lt j (length orders)) [
  | inl before ↦
      subst (λ (x : Order). IsReady rows narrow slots (orders ++ o ∷ []) j x) (sym (order_before orders o j before))
      (ready_front rows narrow slots orders (orders ++ o ∷ []) j (order_at orders j)
      (λ i less. order_before orders o i (omega arith)) (in_order j before))
  | inr after ↦
      let size = length_push orders o in
      let last : length orders ≡ j = omega arith in
      subst (λ (j : ℕ). IsReady rows narrow slots (orders ++ o ∷ []) j (order_at (orders ++ o ∷ []) j)) last
      (subst (λ (x : Order). IsReady rows narrow slots (orders ++ o ∷ []) (length orders) x) (sym (order_last orders o))
      (ready_front rows narrow slots orders (orders ++ o ∷ []) (length orders) o
      (λ i less. order_before orders o i less) ready))
]
