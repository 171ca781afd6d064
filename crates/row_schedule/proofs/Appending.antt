-- One order more.
use Rattle.std.proofs.Common.{◌≡◌, ℕ, zero, suc, ◌≤◌, ◌<◌, false, Bool, List, [], ◌∷◌, ◌++◌, length, refl, arith, sym, ap, subst, ◌∙◌, inl, inr}
use Rattle.std.proofs.lemmas.Bool.{cases_lt}
use Rattle.std.proofs.lemmas.List.{get_or_append_left, length_push}
use Rattle.std.proofs.Math.Seq.{get_or-append_seam}
use Rattle.row_model.specs.declared.Rows.{Rows}
use Rattle.row_schedule.specs.declared.builder.Order.{Order}
use Rattle.row_schedule.specs.Orders.{AreInOrder, IsReady, StandsBeside, order_at, holds, is_made}
use Rattle.row_schedule.specs.Marks.{AreMadeOnce, slot_of}

pub order_before : (orders : List Order) (o : Order) (j : ℕ) → j < length orders →
    order_at (orders ++ o ∷ []) j ≡ order_at orders j
order_before orders o j lt = get_or_append_left orders (o ∷ []) _ j lt

pub order_last : (orders : List Order) (o : Order) → order_at (orders ++ o ∷ []) (length orders) ≡ o
order_last orders o = get_or-append_seam orders o [] _

pub holds_before : (orders : List Order) (o : Order) (j slot : ℕ) → j ≤ length orders →
    holds (orders ++ o ∷ []) j slot ≡ holds orders j slot
unfolding holds
holds_before orders o zero slot le = refl
holds_before orders o (suc j) slot le =
    rw (order_before orders o j (omega arith), holds_before orders o j slot (omega arith)) refl

pub made_before_it : (orders : List Order) (o : Order) (j r : ℕ) → j ≤ length orders →
    is_made (orders ++ o ∷ []) j r ≡ is_made orders j r
unfolding is_made
made_before_it orders o zero r le = refl
made_before_it orders o (suc j) r le =
    rw (order_before orders o j (omega arith), made_before_it orders o j r (omega arith)) refl

pub found_before_it : (orders : List Order) (o : Order) (j r : ℕ) → j ≤ length orders →
    slot_of (orders ++ o ∷ []) j r ≡ slot_of orders j r
unfolding slot_of
found_before_it orders o zero r le = refl
found_before_it orders o (suc j) r le =
    rw (order_before orders o j (omega arith), found_before_it orders o j r (omega arith)) refl

stands_before : (orders : List Order) (o : Order) (j slot r : ℕ) → j ≤ length orders →
    StandsBeside orders j slot r → StandsBeside (orders ++ o ∷ []) j slot r
stands_before orders o j slot r le (s, has, other) = (s, holds_before orders o j s le ∙ has, other)

ready_before : (rows : Rows) (narrow slots : List Bool) (orders : List Order) (o x : Order) (j : ℕ) →
    j ≤ length orders → IsReady rows narrow slots orders j x → IsReady rows narrow slots (orders ++ o ∷ []) j x
ready_before rows narrow slots orders o x j le ready = record {
  row = ready.row;
  slot = ready.slot;
  width = ready.width;
  once = made_before_it orders o j x.row le ∙ ready.once;
  upper = λ m is. stands_before orders o j x.slot m.upper le (ready.upper m is);
  lower = λ m is. stands_before orders o j x.slot m.lower le (ready.lower m is);
  narrow_sums = ready.narrow_sums;
}

-- it can be carried out, as those before it
pub in_order_more : (rows : Rows) (narrow slots : List Bool) (orders : List Order) (o : Order) →
    AreInOrder rows narrow slots orders → IsReady rows narrow slots orders (length orders) o →
    AreInOrder rows narrow slots (orders ++ o ∷ [])
in_order_more rows narrow slots orders o are ready j lt =
    let long = length_push orders o in
    elim (cases_lt j (length orders)) [
      | inl before ↦
          subst (λ x. IsReady rows narrow slots (orders ++ o ∷ []) j x) (sym (order_before orders o j before))
          (ready_before rows narrow slots orders o (order_at orders j) j (omega arith) (are j before))
      | inr last ↦
          let e : length orders ≡ j = omega arith in
          subst (λ k. IsReady rows narrow slots (orders ++ o ∷ []) k (order_at (orders ++ o ∷ []) k)) e
          (subst (λ x. IsReady rows narrow slots (orders ++ o ∷ []) (length orders) x) (sym (order_last orders o))
          (ready_before rows narrow slots orders o o (length orders) (omega arith) ready))
    ]

-- it makes a row that none before it made
pub once_more : (orders : List Order) (o : Order) → AreMadeOnce orders → is_made orders (length orders) o.row ≡ false →
    AreMadeOnce (orders ++ o ∷ [])
once_more orders o once new j lt =
    let long = length_push orders o in
    elim (cases_lt j (length orders)) [
      | inl before ↦
          made_before_it orders o j _ (omega arith)
          ∙ ap (λ (x : Order). is_made orders j x.row) (order_before orders o j before) ∙ once j before
      | inr last ↦
          let e : length orders ≡ j = omega arith in
          subst (λ k. is_made (orders ++ o ∷ []) k (order_at (orders ++ o ∷ []) k).row ≡ false) e
          (made_before_it orders o (length orders) _ (omega arith)
          ∙ ap (λ (x : Order). is_made orders (length orders) x.row) (order_last orders o) ∙ new)
    ]
