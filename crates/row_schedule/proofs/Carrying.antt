-- What one step does to rows and to what is kept of them.
use Rattle.std.proofs.Common.{◌≡◌, ◌≢◌, ℕ, ◌+◌, ◌-◌, ◌%◌, ◌^◌, ◌≤◌, ◌<◌, true, false, Bool, List, Some, not, length, replicate, slice_get, slice_index, slice_index_or, refl, arith, sym, ap, subst, ◌∙◌, inl, inr, add-one}
use Rattle.std.proofs.lemmas.Bool.{cases_lt, cases_eq}
use Rattle.std.proofs.lemmas.List.{get_or-replicate, get_or_past, length-replicate}
use Rattle.std.proofs.lemmas.Option.{slice_get-get_or}
use Rattle.std.proofs.Math.Nat.{mod-eq_of_lt}
use Rattle.row_model.specs.declared.Merge.{Merge}
use Rattle.row_model.specs.declared.Rows.{Rows}
use Rattle.row_model.specs.declared.Source.{Source}
use Rattle.row_model.specs.declared.Source.TheVariants.{Channel, Sum}
use Rattle.row_model.specs.Sums.{Sums, AddUp, Fit, is_narrow, value_of}
use Rattle.row_model.specs.Tails.{row_count}
use Rattle.row_schedule.specs.declared.step.Step.{Step}
use Rattle.row_schedule.specs.Samples.{AreNext}
use Rattle.row_schedule.specs.Orders.{holds, is_made}
use Rattle.row_schedule.specs.Schedules.{Scheduled}
use Rattle.row_schedule.specs.declared.step.Kind.TheVariants.{AddWidened}
use Rattle.row_schedule.specs.Steps.{AreApart, copies, makes_narrow, upper_narrow, lower_narrow, step_at}
use Rattle.row_schedule.specs.Layout.{hold_of, slot_narrow, tail_of}
use Rattle.row_schedule.specs.Follows.{Follows, IsStep, BeginsAt}
use Rattle.row_schedule.specs.Running.{Stores, IsLast, IsUsed, Kept, KeepsRow, SlotHas, Running, Stands, kept_of, list_of, stores}
use Rattle.row_schedule.specs.Making.{StepMade, next_value}
use Rattle.row_schedule.specs.Laws.{BeginEmpty}
use Rattle.row_schedule.proofs.Holding.{MakesIn, holds_here, holds_made, holds_none, holds_other, made_here, made_none, made_other, row_at, slot_at}
use Rattle.row_schedule.proofs.Keeping.{kept_apart, same_or_not}
use Rattle.row_schedule.proofs.Values.{value_at, value_later, value_now, summed_value, sampled_value}

-- no order was carried out
pub begins : (rows : Rows) (s : Scheduled) (y : Sums) (u spectra : ℕ) (st : Stores) → Kept rows s.narrow y u st →
    Running rows s y u spectra 0 st
begins rows s y u spectra st kept = record {
  slots = λ slot r has _. let none = holds_none s.orders slot in absurd cc;
  made = λ r lt made. let none = made_none s.orders r in absurd cc;
  others = λ r lt _. kept r lt;
}

-- all orders were
pub ends : (rows : Rows) (s : Scheduled) (y : Sums) (u spectra : ℕ) (st : Stores) → Follows rows s →
    Running rows s y u spectra (length s.orders) st → Kept rows s.narrow y (u + spectra) st
ends rows s y u spectra st follows running r lt =
    by_tail (is_made s.orders (length s.orders) r) refl
  where
    by_tail : (made : Bool) → is_made s.orders (length s.orders) r ≡ made →
        KeepsRow rows s.narrow y (u + spectra) st r
    by_tail true e = running.made r lt e
    by_tail false e = λ i small.
        let all = follows.all r lt (omega arith) in
        absurd cc

-- one whose row is a last one was left out
pub left_out : (rows : Rows) (s : Scheduled) (y : Sums) (u spectra j : ℕ) (st : Stores) →
    IsLast rows (row_at s.orders j) → Running rows s y u spectra j st → Running rows s y u spectra (j + 1) st
left_out rows s y u spectra j st last running = rw add-one (record {
  slots = λ slot r has used. elim (cases_eq (slot_at s.orders j) slot) [
    | inl same ↦
        let here = holds_here s.orders j slot same in
        let row : r ≡ row_at s.orders j = cc in
        absurd (last.unused (subst (λ r. IsUsed rows r) row used))
    | inr other ↦ running.slots slot r (sym (holds_other s.orders j slot other) ∙ has) used
  ];
  made = λ r lt made. elim (cases_eq (row_at s.orders j) r) [
    | inl same ↦ λ i small.
        let nothing : tail_of rows r ≡ 0 = ap (tail_of rows) (sym same) ∙ last.nothing_kept in
        absurd (omega arith)
    | inr other ↦ running.made r lt (sym (made_other s.orders j r other) ∙ made)
  ];
  others = λ r lt not_made. elim (cases_eq (row_at s.orders j) r) [
    | inl same ↦ absurd (let made = made_here s.orders j r same in cc)
    | inr other ↦ running.others r lt (sym (made_other s.orders j r other) ∙ not_made)
  ];
})

zero_at : (n k : ℕ) → slice_index (replicate n 0) k ≡ 0
zero_at n k = elim (cases_lt k n) [
  | inl there ↦ get_or-replicate n k 0 0 there
  | inr past ↦ get_or_past (replicate n 0) k 0 (rw length-replicate past)
]

-- before the first spectrum
pub zeros : (rows : Rows) (narrow : List Bool) (y : Sums) (a b : List ℕ) (n m : ℕ) → BeginEmpty y →
    Kept rows narrow y 0 (stores a b (replicate n 0) (replicate m 0))
unfolding value_of
zeros rows narrow y a b n m empty r lt i small =
    by_width (is_narrow narrow r) (hold_of rows narrow (is_narrow narrow r) r + i)
    ∙ ap (λ v. v % 2 ^ 32) (sym (empty r (0 + i) (tail_of rows r) (omega arith)))
  where
    by_width : (narrow : Bool) (k : ℕ) →
        slice_index (kept_of narrow (stores a b (replicate n 0) (replicate m 0))) k ≡ 0
    by_width true k = zero_at n k
    by_width false k = zero_at m k

-- a value of a row that is added
added_value : (rows : Rows) (s : Scheduled) (y : Sums) (u spectra j : ℕ) (st : Stores) → Follows rows s →
    j < length s.orders → Running rows s y u spectra j st → (r late place i k : ℕ) (v : Bool) → IsUsed rows r →
    BeginsAt rows s.orders s.places j r (place + late) → v ≡ is_narrow s.narrow r →
    k + late ≡ tail_of rows r + i → i < spectra →
    slice_index (list_of v st) (place + i) ≡ value_of y rows.tails.items u r k
added_value rows s y u spectra j st follows number running r late place i k v used at v_is e lt =
    let m : MakesIn s.orders j at.slot r = holds_made s.orders j at.slot r at.has in
    let before = m.before in
    let ready = follows.order m.number (omega arith) in
    let there = at.place in
    let same : v ≡ slot_narrow s.slots at.slot =
    v_is ∙ ap (is_narrow s.narrow) (sym m.row_is) ∙ sym ready.width ∙ ap (slot_narrow s.slots) m.slot_is in
    let was = running.slots at.slot r at.has used k (omega arith) in
    ap (λ v. slice_index (list_of v st) (place + i)) same
    ∙ ap (λ p. slice_index (list_of (slot_narrow s.slots at.slot) st) p)
    (let p : place + i ≡ slice_index s.places at.slot + k = omega arith in p)
    ∙ was

-- a value of the upper one of two rows that are added, which ends earlier
upper_value : (rows : Rows) (s : Scheduled) (y : Sums) (u spectra j : ℕ) (st : Stores) → Follows rows s →
    j < length s.orders → Running rows s y u spectra j st → (m : Merge) (i k : ℕ) (v : Bool) →
    slice_get rows.sources.items (row_at s.orders j) ≡ Some (Sum m) → v ≡ is_narrow s.narrow m.upper →
    k + m.late ≡ tail_of rows m.upper + i → i < spectra →
    slice_index (list_of v st) ((step_at s.steps j).upper + i) ≡ value_of y rows.tails.items u m.upper k
upper_value rows s y u spectra j st follows number running m i k v source v_is e lt =
    let entries = follows.entries in
    let sum = (follows.steps_are j (omega arith)).sum m source in
    added_value rows s y u spectra j st follows number running m.upper m.late (step_at s.steps j).upper i k v
    (record { by = row_at s.orders j; merge = m; source = source; half = inl refl }) sum.upper v_is e lt

-- and of the lower one
lower_value : (rows : Rows) (s : Scheduled) (y : Sums) (u spectra j : ℕ) (st : Stores) → Follows rows s →
    j < length s.orders → Running rows s y u spectra j st → (m : Merge) (i : ℕ) (v : Bool) →
    slice_get rows.sources.items (row_at s.orders j) ≡ Some (Sum m) → v ≡ is_narrow s.narrow m.lower → i < spectra →
    slice_index (list_of v st) ((step_at s.steps j).lower + i)
    ≡ value_of y rows.tails.items u m.lower (tail_of rows m.lower + i)
lower_value rows s y u spectra j st follows number running m i v source v_is lt =
    let entries = follows.entries in
    let sum = (follows.steps_are j (omega arith)).sum m source in
    let place : ℕ = (step_at s.steps j).lower in
    let at = subst (λ p. BeginsAt rows s.orders s.places j m.lower p)
    (let z : place ≡ place + 0 = omega arith in z) sum.lower in
    added_value rows s y u spectra j st follows number running m.lower 0 place i (tail_of rows m.lower + i) v
    (record { by = row_at s.orders j; merge = m; source = source; half = inr refl }) at v_is (omega arith) lt

-- What is known where order j is carried out on the spectra from spectrum u on.
pub record OneMore (rows : Rows) (s : Scheduled) (x : ℕ → ℕ → ℕ) (y : Sums) (u spectra j : ℕ) (samples : List ℕ)
    (old new : Stores) : Type 0 where
  pub follows : Follows rows s
  pub adds : AddUp rows.sources.items x y
  pub fits : Fit s.narrow y (u + spectra)
  pub next : AreNext x s.channels s.chunk u spectra samples
  pub number : j < length s.orders
  pub short : spectra ≤ s.most
  pub made : StepMade (step_at s.steps j).kind (step_at s.steps j) spectra samples old new
  pub before : Running rows s y u spectra j old

module _ (rows : Rows) (s : Scheduled) (x : ℕ → ℕ → ℕ) (y : Sums) (u spectra j : ℕ) (samples : List ℕ)
    (old new : Stores) (o : OneMore rows s x y u spectra j samples old new) where
  abbrev step : Step
  step = step_at s.steps j

  abbrev width : Bool
  width = makes_narrow step.kind

  is_step : IsStep rows s.narrow s.orders s.places s.chunk j step
  is_step =
      let entries = o.follows.entries in
      let number = o.number in
      o.follows.steps_are j (omega arith)

  -- a list of the other width stays
  list_stays : (v : Bool) → v ≡ not width → list_of v new ≡ list_of v old
  list_stays v e = subst (λ v. list_of v new ≡ list_of v old) (sym e) o.made.rest

  kept_stays : (v : Bool) → v ≡ not width → kept_of v new ≡ kept_of v old
  kept_stays v e = subst (λ v. kept_of v new ≡ kept_of v old) (sym e) o.made.kept_rest

  -- the row of another slot stays
  slot_stays : (slot r : ℕ) → slot_at s.orders j ≢ slot → holds s.orders j slot ≡ Some r → IsUsed rows r →
      SlotHas rows s y u spectra new slot r
  slot_stays slot r other has used i lt =
      let m : MakesIn s.orders j slot r = holds_made s.orders j slot r has in
      let before = m.before in
      let number = o.number in
      let was = o.before.slots slot r has used i lt in
      let k : ℕ = slice_index s.places slot + i in
      let v : Bool = slot_narrow s.slots slot in
      elim (same_or_not v width) [
        | inr off ↦ ap (λ xs. slice_index xs k) (list_stays v off) ∙ was
        | inl on ↦
            let is = is_step in
            let out = is.out in
            let tail = is.tail in
            let short = o.short in
            let ready = o.follows.order j number in
            let tail_is : tail_of rows (row_at s.orders m.number) ≡ tail_of rows r = ap (tail_of rows) m.row_is in
            let at_is : slice_index s.places (slot_at s.orders m.number) ≡ slice_index s.places slot =
            ap (slice_index s.places) m.slot_is in
            let apart : AreApart k 1 step.out (step.tail + spectra) = elim
            (o.follows.apart m.number j (omega arith) number (λ e. other (sym (sym m.slot_is ∙ e)))
            (ap (slot_narrow s.slots) m.slot_is ∙ on ∙ is.width ∙ sym ready.width)) [
              | inl one ↦ inl (omega arith)
              | inr two ↦ inr (omega arith)
            ] in
            let stays = subst (λ v. slice_index (list_of v new) k ≡ slice_index (list_of v old) k) (sym on)
            (o.made.own.stays k apart) in
            stays ∙ was
      ]

  -- what is kept of another row stays
  row_stays : (v r : ℕ) → r < row_count rows → row_at s.orders j ≢ r → KeepsRow rows s.narrow y v old r →
      KeepsRow rows s.narrow y v new r
  row_stays v r lt other keeps i small =
      let number = o.number in
      let w : Bool = is_narrow s.narrow r in
      let k : ℕ = hold_of rows s.narrow w r + i in
      elim (same_or_not w width) [
        | inr off ↦ ap (λ xs. slice_index xs k) (kept_stays w off) ∙ keeps i small
        | inl on ↦
            let is = is_step in
            let tail = is.tail in
            let hold : step.hold ≡ hold_of rows s.narrow w (row_at s.orders j) =
            is.hold ∙ ap (λ b. hold_of rows s.narrow b (row_at s.orders j)) (sym (on ∙ is.width)) in
            let apart : AreApart k 1 step.hold step.tail = elim
            (kept_apart rows s.narrow w r (row_at s.orders j) refl (sym (on ∙ is.width)) (λ e. other (sym e))) [
              | inl one ↦ inl (omega arith)
              | inr two ↦ inr (omega arith)
            ] in
            let stays = subst (λ v. slice_index (kept_of v new) k ≡ slice_index (kept_of v old) k) (sym on)
            (o.made.own.kept_stays k apart) in
            stays ∙ keeps i small
      ]

  -- the next values of the row that is made
  next_values : (i : ℕ) → i < spectra → next_value step.kind step samples old i
      ≡ value_of y rows.tails.items u (row_at s.orders j) (tail_of rows (row_at s.orders j) + i)
  next_values i lt =
      let ready = o.follows.order j o.number in
      by_source (slice_index_or rows.sources.items (row_at s.orders j) (Channel 0))
      (slice_get-get_or rows.sources.items (row_at s.orders j) (Channel 0) ready.row)
    where
      by_source : (source : Source) → slice_get rows.sources.items (row_at s.orders j) ≡ Some source →
          next_value step.kind step samples old i
          ≡ value_of y rows.tails.items u (row_at s.orders j) (tail_of rows (row_at s.orders j) + i)
      by_source (Channel c) e =
          let copy = is_step.channel c e in
          let there = o.follows.rows_are.channel (row_at s.orders j) c e in
          let sample : slice_index samples (step.upper + i) ≡ x c (u + i) =
          ap (λ p. slice_index samples (p + i)) copy.from ∙ o.next c i there lt in
          rw (copy.copies_it, sample, is_step.width)
          (sampled_value rows s.narrow x y u (row_at s.orders j) i c (u + spectra) o.adds o.fits (omega arith) e)
      by_source (Sum m) e =
          let sum = is_step.sum m e in
          let merge = o.follows.rows_are.merge (row_at s.orders j) m e in
          let enough = merge.enough in
          let k : ℕ = tail_of rows m.upper - m.late + i in
          let e' : k + m.late ≡ tail_of rows m.upper + i = omega arith in
          let above = upper_value rows s y u spectra j old o.follows o.number o.before m i k (upper_narrow step.kind) e
          sum.upper_width e' lt in
          let below = lower_value rows s y u spectra j old o.follows o.number o.before m i (lower_narrow step.kind) e
          sum.lower_width lt in
          rw (sum.adds, above, below, is_step.width)
          (summed_value rows s.narrow x y u (row_at s.orders j) i k (u + spectra) m o.adds o.fits
          (omega arith) e e' enough)

  -- the slot has the row
  pub slot_made : Stands rows s y u spectra new j
  slot_made i lt =
      let is = is_step in
      let out = is.out in
      let tail = is.tail in
      let ready = o.follows.order j o.number in
      let r : ℕ = row_at s.orders j in
      let on : slot_narrow s.slots (slot_at s.orders j) ≡ width = ready.width ∙ sym is.width in
      let own = ap (λ v. slice_index (list_of v new) (slice_index s.places (slot_at s.orders j) + i)) on in
      elim (cases_lt i (tail_of rows r)) [
        | inl front ↦
            let keeps = o.before.others r ready.row ready.once i front in
            own
            ∙ ap (λ p. slice_index (list_of width new) (p + i)) (sym out)
            ∙ o.made.own.front i (omega arith)
            ∙ ap (λ p. slice_index (kept_of width old) (p + i)) is.hold
            ∙ ap (λ v. slice_index (kept_of v old) (hold_of rows s.narrow (is_narrow s.narrow r) r + i)) is.width
            ∙ keeps
        | inr behind ↦
            let q : ℕ = i - tail_of rows r in
            own
            ∙ ap (λ p. slice_index (list_of width new) p)
            (let p : slice_index s.places (slot_at s.orders j) + i ≡ step.out + (step.tail + q) = omega arith in p)
            ∙ o.made.own.behind q (omega arith)
            ∙ next_values q (omega arith)
            ∙ ap (λ p. value_of y rows.tails.items u r p) (let p : tail_of rows r + q ≡ i = omega arith in p)
      ]

  -- and its end is kept
  row_made : KeepsRow rows s.narrow y (u + spectra) new (row_at s.orders j)
  row_made i lt =
      let is = is_step in
      let out = is.out in
      let tail = is.tail in
      let ready = o.follows.order j o.number in
      let r : ℕ = row_at s.orders j in
      let on : slot_narrow s.slots (slot_at s.orders j) ≡ width = ready.width ∙ sym is.width in
      ap (λ v. slice_index (kept_of v new) (hold_of rows s.narrow (is_narrow s.narrow r) r + i)) (sym is.width)
      ∙ ap (λ p. slice_index (kept_of width new) (p + i)) (sym is.hold)
      ∙ o.made.own.keeps i (omega arith)
      ∙ ap (λ p. slice_index (list_of width new) (p + (spectra + i))) out
      ∙ ap (λ v. slice_index (list_of v new) (slice_index s.places (slot_at s.orders j) + (spectra + i))) (sym on)
      ∙ slot_made (spectra + i) (omega arith)
      ∙ sym (value_later y rows.tails.items u spectra r i)

  -- one order more was carried out
  pub one_more : Running rows s y u spectra (j + 1) new
  one_more = rw add-one (record {
    slots = λ slot r has used. elim (cases_eq (slot_at s.orders j) slot) [
      | inl same ↦
          let here = holds_here s.orders j slot same in
          let row : row_at s.orders j ≡ r = cc in
          subst (λ slot. SlotHas rows s y u spectra new slot r) same
          (subst (λ r. SlotHas rows s y u spectra new (slot_at s.orders j) r) row slot_made)
      | inr other ↦ slot_stays slot r other (sym (holds_other s.orders j slot other) ∙ has) used
    ];
    made = λ r lt made. elim (cases_eq (row_at s.orders j) r) [
      | inl same ↦ subst (λ r. KeepsRow rows s.narrow y (u + spectra) new r) same row_made
      | inr other ↦
          row_stays (u + spectra) r lt other
          (o.before.made r lt (sym (made_other s.orders j r other) ∙ made))
    ];
    others = λ r lt not_made. elim (cases_eq (row_at s.orders j) r) [
      | inl same ↦ absurd (let made = made_here s.orders j r same in cc)
      | inr other ↦
          row_stays u r lt other (o.before.others r lt (sym (made_other s.orders j r other) ∙ not_made))
    ];
  })

-- a value of a row of 32 bits that stands in its slot
pub row_read : (rows : Rows) (s : Scheduled) (x : ℕ → ℕ → ℕ) (y : Sums) (u spectra order k : ℕ) (st : Stores)
    (wide : List ℕ) → Follows rows s → order < length s.orders →
    is_narrow s.narrow (row_at s.orders order) ≡ false → AddUp rows.sources.items x y → st.wide ≡ wide →
    Stands rows s y u spectra st order → k < spectra →
    slice_index wide (slice_index s.places (slot_at s.orders order) + tail_of rows (row_at s.orders order) + k)
    ≡ y (row_at s.orders order) (u + k) 0 % 2 ^ 32
row_read rows s x y u spectra order k st wide follows in_orders off adds wide_is stands lt =
    let ready = follows.order order in_orders in
    let slot : ℕ = slot_at s.orders order in
    let r : ℕ = row_at s.orders order in
    let on : slot_narrow s.slots slot ≡ false = ready.width ∙ off in
    ap (λ xs. slice_index xs (slice_index s.places slot + tail_of rows r + k)) (sym wide_is)
    ∙ ap (λ v. slice_index (list_of v st) (slice_index s.places slot + tail_of rows r + k)) (sym on)
    ∙ ap (λ p. slice_index (list_of (slot_narrow s.slots slot) st) p)
    (let p : slice_index s.places slot + tail_of rows r + k ≡ slice_index s.places slot + (tail_of rows r + k) =
    omega arith in p)
    ∙ stands (tail_of rows r + k) (omega arith)
    ∙ value_now rows x y u r k adds

-- a value of the row that is made of two rows of 16 bits
pub halves_add_up : (rows : Rows) (s : Scheduled) (x : ℕ → ℕ → ℕ) (y : Sums) (u spectra j k : ℕ) (st : Stores) →
    (step_at s.steps j).kind ≡ AddWidened → j < length s.orders →
    Follows rows s → AddUp rows.sources.items x y → Fit s.narrow y (u + spectra) →
    Running rows s y u spectra j st → k < spectra →
    slice_index st.narrow ((step_at s.steps j).upper + k) + slice_index st.narrow ((step_at s.steps j).lower + k)
    ≡ y (row_at s.orders j) (u + k) 0
halves_add_up rows s x y u spectra j k st kind_is number follows adds fits running lt =
    let ready = follows.order j number in
    let entries = follows.entries in
    by_source (slice_index_or rows.sources.items (row_at s.orders j) (Channel 0)) (follows.steps_are j (omega arith))
    (slice_get-get_or rows.sources.items (row_at s.orders j) (Channel 0) ready.row)
  where
    by_source : (source : Source) → IsStep rows s.narrow s.orders s.places s.chunk j (step_at s.steps j) →
        slice_get rows.sources.items (row_at s.orders j) ≡ Some source →
        slice_index st.narrow ((step_at s.steps j).upper + k) + slice_index st.narrow ((step_at s.steps j).lower + k)
        ≡ y (row_at s.orders j) (u + k) 0
    by_source (Channel c) is e =
        let copy = (is.channel c e).copies_it in
        let adds_it : copies (step_at s.steps j).kind ≡ false = ap copies kind_is in
        absurd cc
    by_source (Sum m) is e =
        let sum = is.sum m e in
        let merge = follows.rows_are.merge (row_at s.orders j) m e in
        let enough = merge.enough in
        let q : ℕ = tail_of rows m.upper - m.late + k in
        let q_is : q + m.late ≡ tail_of rows m.upper + k = omega arith in
        let upper_on : true ≡ is_narrow s.narrow m.upper = sym (ap upper_narrow kind_is) ∙ sum.upper_width in
        let lower_on : true ≡ is_narrow s.narrow m.lower = sym (ap lower_narrow kind_is) ∙ sum.lower_width in
        let upper_fits = fits m.upper (u + k) m.late (sym upper_on) (omega arith) in
        let lower_fits = fits m.lower (u + k) 0 (sym lower_on) (omega arith) in
        let above : slice_index st.narrow ((step_at s.steps j).upper + k) ≡ y m.upper (u + k) m.late =
        upper_value rows s y u spectra j st follows number running m k q true e upper_on q_is lt
        ∙ value_at rows x y u m.upper k q m.late adds q_is enough ∙ mod-eq_of_lt (omega arith) in
        let below : slice_index st.narrow ((step_at s.steps j).lower + k) ≡ y m.lower (u + k) 0 =
        lower_value rows s y u spectra j st follows number running m k true e lower_on lt
        ∙ value_now rows x y u m.lower k adds ∙ mod-eq_of_lt (omega arith) in
        let none : 0 + m.late ≡ m.late = omega arith in
        let whole : y (row_at s.orders j) (u + k) 0 ≡ y m.upper (u + k) m.late + y m.lower (u + k) 0 =
        adds.sums (row_at s.orders j) (u + k) 0 m e
        ∙ ap (λ l. y m.upper (u + k) l + y m.lower (u + k) 0) none in
        omega arith
