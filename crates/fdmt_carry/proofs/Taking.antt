-- Orders that are taken one by one.
use Rattle.std.proofs.Common.{◌≡◌, ℕ, ◌+◌, ◌<◌, false, Bool, List, [], ◌∷◌, ◌++◌, length, take, arith, ap, sym, ◌∙◌, subst}
use Rattle.std.proofs.lemmas.List.{take_more, length-take-le}
use Rattle.std.proofs.lemmas.Bool.{false≢true}
use Rattle.std.specs.Bool.{IsTrue}
use Rattle.row_model.specs.declared.Rows.{Rows}
use Rattle.row_schedule.specs.declared.builder.Order.{Order}
use Rattle.row_schedule.specs.Orders.{AreInOrder, IsReady, order_at}
use Rattle.row_schedule.specs.Schedules.{Building, building}
use Rattle.fdmt_carry.proofs.Orders.{ready_front, order_taken}

-- one more was taken
pub taken_more : (narrow slots : List Bool) (orders : List Order) (i : ℕ) (b new : Building) → i < length orders →
    b ≡ building narrow slots (take i orders) →
    new ≡ building b.narrow b.slots (b.orders ++ order_at orders i ∷ []) →
    new ≡ building narrow slots (take (i + 1) orders)
taken_more narrow slots orders i b new lt is more =
    more
    ∙ ap (λ (x : Building). building x.narrow x.slots (x.orders ++ order_at orders i ∷ [])) is
    ∙ ap (λ (xs : List Order). building narrow slots xs) (sym (take_more orders i (record { row = 0; slot = 0 }) lt))

-- one of orders that can be carried out one after another is not refused
pub not_refused : (rows : Rows) (narrow slots : List Bool) (orders : List Order) (i : ℕ) (b : Building) (taken : Bool) →
    i < length orders → b ≡ building narrow slots (take i orders) →
    (IsReady rows b.narrow b.slots b.orders (length b.orders) (order_at orders i) → IsTrue taken) → taken ≡ false →
    AreInOrder rows narrow slots orders → ⊥
not_refused rows narrow slots orders i b taken lt is exact refused in_order =
    let size : length (take i orders) ≡ i = length-take-le i orders (omega arith) in
    let here : IsReady rows narrow slots (take i orders) i (order_at orders i) =
    ready_front rows narrow slots orders (take i orders) i (order_at orders i) (λ j less. order_taken orders i j less)
    (in_order i lt) in
    let now : IsReady rows narrow slots (take i orders) (length (take i orders)) (order_at orders i) =
    subst (λ (n : ℕ). IsReady rows narrow slots (take i orders) n (order_at orders i)) (sym size) here in
    let there : IsReady rows b.narrow b.slots b.orders (length b.orders) (order_at orders i) =
    subst (λ (x : Building). IsReady rows x.narrow x.slots x.orders (length x.orders) (order_at orders i))
    (sym is) now in
    let yes : IsTrue taken = exact there in
    false≢true (sym refused ∙ yes)
