-- What slots hold after some orders, and which rows were made.
use Rattle.std.proofs.Common.{◌≡◌, ◌≢◌, ℕ, zero, suc, ◌≤◌, ◌<◌, true, false, List, None, Some, length, refl, arith, sym, ap, ◌∙◌, inl, inr}
use Rattle.std.proofs.lemmas.Bool.{cases_lt, cases_eq}
use Rattle.std.proofs.lemmas.Bool.Decides.{eqb_tells}
use Rattle.row_schedule.specs.declared.builder.Order.{Order}
use Rattle.row_schedule.specs.Orders.{order_at, holds, is_made}
use Rattle.row_schedule.specs.Marks.{AreMadeOnce, slot_of}

abbrev pub row_at : List Order → ℕ → ℕ
row_at orders j = (order_at orders j).row

abbrev pub slot_at : List Order → ℕ → ℕ
slot_at orders j = (order_at orders j).slot

-- order j makes a row in a slot, or leaves what the slot holds
pub holds_here : (orders : List Order) (j slot : ℕ) → slot_at orders j ≡ slot →
    holds orders (suc j) slot ≡ Some (row_at orders j)
unfolding holds
holds_here orders j slot same = elim (eqb_tells (slot_at orders j) slot) [
  | inl (is_so, _) ↦ rw is_so refl
  | inr (not_so, other) ↦ absurd (other same)
]

pub holds_other : (orders : List Order) (j slot : ℕ) → slot_at orders j ≢ slot →
    holds orders (suc j) slot ≡ holds orders j slot
unfolding holds
holds_other orders j slot other = elim (eqb_tells (slot_at orders j) slot) [
  | inl (is_so, same) ↦ absurd (other same)
  | inr (not_so, _) ↦ rw not_so refl
]

pub made_here : (orders : List Order) (j r : ℕ) → row_at orders j ≡ r → is_made orders (suc j) r ≡ true
unfolding is_made
made_here orders j r same = elim (eqb_tells (row_at orders j) r) [
  | inl (is_so, _) ↦ rw is_so refl
  | inr (not_so, other) ↦ absurd (other same)
]

pub made_other : (orders : List Order) (j r : ℕ) → row_at orders j ≢ r →
    is_made orders (suc j) r ≡ is_made orders j r
unfolding is_made
made_other orders j r other = elim (eqb_tells (row_at orders j) r) [
  | inl (is_so, same) ↦ absurd (other same)
  | inr (not_so, _) ↦ rw not_so refl
]

pub found_here : (orders : List Order) (j r : ℕ) → row_at orders j ≡ r →
    slot_of orders (suc j) r ≡ Some (slot_at orders j)
unfolding slot_of
found_here orders j r same = elim (eqb_tells (row_at orders j) r) [
  | inl (is_so, _) ↦ rw is_so refl
  | inr (not_so, other) ↦ absurd (other same)
]

pub found_other : (orders : List Order) (j r : ℕ) → row_at orders j ≢ r →
    slot_of orders (suc j) r ≡ slot_of orders j r
unfolding slot_of
found_other orders j r other = elim (eqb_tells (row_at orders j) r) [
  | inl (is_so, same) ↦ absurd (other same)
  | inr (not_so, _) ↦ rw not_so refl
]

-- after no order
pub holds_none : (orders : List Order) (slot : ℕ) → holds orders 0 slot ≡ None
unfolding holds
holds_none orders slot = refl

pub made_none : (orders : List Order) (r : ℕ) → is_made orders 0 r ≡ false
unfolding is_made
made_none orders r = refl

pub found_none : (orders : List Order) (r : ℕ) → slot_of orders 0 r ≡ None
unfolding slot_of
found_none orders r = refl

-- among the first j orders is one that makes row r in a slot
pub record MakesIn (orders : List Order) (j slot r : ℕ) : Type 0 where
  pub number : ℕ
  pub before : number < j
  pub slot_is : slot_at orders number ≡ slot
  pub row_is : row_at orders number ≡ r

one_later : (orders : List Order) (j slot r : ℕ) → MakesIn orders j slot r → MakesIn orders (suc j) slot r
one_later orders j slot r m =
    let before = m.before in
    record {
      number = m.number;
      before = omega arith;
      slot_is = m.slot_is;
      row_is = m.row_is;
    }

-- what a slot holds was made in it
pub holds_made : (orders : List Order) (j slot r : ℕ) → holds orders j slot ≡ Some r → MakesIn orders j slot r
holds_made orders zero slot r has = let none = holds_none orders slot in absurd cc
holds_made orders (suc j) slot r has = elim (cases_eq (slot_at orders j) slot) [
  | inl same ↦
      let here = holds_here orders j slot same in
      record { number = j; before = omega arith; slot_is = same; row_is = cc }
  | inr other ↦ one_later orders j slot r (holds_made orders j slot r (sym (holds_other orders j slot other) ∙ has))
]

-- a row that was made
pub record MakesRow (orders : List Order) (j r : ℕ) : Type 0 where
  pub number : ℕ
  pub before : number < j
  pub row_is : row_at orders number ≡ r

row_later : (orders : List Order) (j r : ℕ) → MakesRow orders j r → MakesRow orders (suc j) r
row_later orders j r m =
    let before = m.before in
    record { number = m.number; before = omega arith; row_is = m.row_is }

pub made_before : (orders : List Order) (j r : ℕ) → is_made orders j r ≡ true → MakesRow orders j r
made_before orders zero r made = let none = made_none orders r in absurd cc
made_before orders (suc j) r made = elim (cases_eq (row_at orders j) r) [
  | inl same ↦ record { number = j; before = omega arith; row_is = same }
  | inr other ↦ row_later orders j r (made_before orders j r (sym (made_other orders j r other) ∙ made))
]

pub made_of : (orders : List Order) (j i r : ℕ) → i < j → row_at orders i ≡ r → is_made orders j r ≡ true
made_of orders zero i r before row = absurd (omega arith)
made_of orders (suc j) i r before row = elim (cases_eq (row_at orders j) r) [
  | inl same ↦ made_here orders j r same
  | inr other ↦
      elim (cases_eq i j) [
        | inl last ↦ absurd (other (ap (row_at orders) (sym last) ∙ row))
        | inr earlier ↦ made_other orders j r other ∙ made_of orders j i r (omega arith) row
      ]
]

-- one order makes it
pub one_makes : (orders : List Order) (i j : ℕ) → AreMadeOnce orders → i < length orders → j < length orders →
    row_at orders i ≡ row_at orders j → i ≡ j
one_makes orders i j once in_i in_j same = elim (cases_lt i j) [
  | inl before ↦
      let made = made_of orders j i (row_at orders j) before same in
      let not_made = once j in_j in
      absurd cc
  | inr from ↦ elim (cases_lt j i) [
    | inl before ↦
        let made = made_of orders i j (row_at orders i) before (sym same) in
        let not_made = once i in_i in
        absurd cc
    | inr to ↦ omega arith
  ]
]

-- so it is found in the slot in which that one makes it
pub found_of : (orders : List Order) (j i : ℕ) → AreMadeOnce orders → j ≤ length orders → i < j →
    slot_of orders j (row_at orders i) ≡ Some (slot_at orders i)
found_of orders zero i once few before = absurd (omega arith)
found_of orders (suc j) i once few before = elim (cases_eq (row_at orders j) (row_at orders i)) [
  | inl same ↦
      let one = one_makes orders j i once (omega arith) (omega arith) same in
      found_here orders j (row_at orders i) same ∙ ap (λ k. Some (slot_at orders k)) one
  | inr other ↦
      let earlier : i < j = elim (cases_eq i j) [
        | inl last ↦ absurd (other (ap (row_at orders) (sym last)))
        | inr not_last ↦ omega arith
      ] in
      found_other orders j (row_at orders i) other ∙ found_of orders j i once (omega arith) earlier
]

-- one that was not made is found nowhere
pub found_nowhere : (orders : List Order) (j r : ℕ) → is_made orders j r ≡ false → slot_of orders j r ≡ None
found_nowhere orders zero r not_made = found_none orders r
found_nowhere orders (suc j) r not_made = elim (cases_eq (row_at orders j) r) [
  | inl same ↦ let made = made_here orders j r same in absurd cc
  | inr other ↦
      found_other orders j r other
      ∙ found_nowhere orders j r (sym (made_other orders j r other) ∙ not_made)
]

-- where a slot has a row, the row is found there
pub held_found : (orders : List Order) (j k slot r : ℕ) → AreMadeOnce orders → k ≤ j → j ≤ length orders →
    holds orders k slot ≡ Some r → slot_of orders j r ≡ Some slot
held_found orders j k slot r once from few has =
    let m = holds_made orders k slot r has in
    let before = m.before in
    ap (slot_of orders j) (sym m.row_is) ∙ found_of orders j m.number once few (omega arith) ∙ ap Some m.slot_is
