-- What is noted of orders says where rows stand.
use Rattle.std.proofs.Common.{◌≡◌, ◌≢◌, ℕ, suc, ◌^◌, ◌≤◌, ◌<◌, true, false, Bool, List, [], ◌∷◌, ◌++◌, Option, None, Some, length, replicate, slice_get, slice_index_or, slice_set, refl, arith, sym, ap, subst, ◌∙◌, inl, inr, add-one}
use Rattle.std.proofs.lemmas.Bool.{cases_lt, cases_eq}
use Rattle.std.proofs.lemmas.List.{length_push, get_or-replicate, get_or_past, get_or-set_other, length-replicate, length-set}
use Rattle.std.proofs.lemmas.Grind.{get_or-set_at}
use Rattle.std.proofs.lemmas.Option.{slice_get_within}
use Rattle.std.specs.Option.{is_some}
use Rattle.row_model.specs.declared.Merge.{Merge}
use Rattle.row_model.specs.declared.Rows.{Rows}
use Rattle.row_model.specs.declared.Source.{Source}
use Rattle.row_model.specs.declared.Source.TheVariants.{Sum}
use Rattle.row_schedule.specs.declared.builder.Order.{Order}
use Rattle.row_schedule.specs.Orders.{IsReady, StandsBeside, holds, is_made}
use Rattle.row_schedule.specs.Schedules.{Building, building}
use Rattle.row_schedule.specs.Marks.{AreMarked, HasBoth, HasWidth, slot_of}
use Rattle.row_schedule.proofs.Holding.{holds_here, holds_other, found_here, found_other, found_of, found_nowhere, held_found, holds_none, found_none, made_before, row_at, slot_at, MakesRow}
use Rattle.row_schedule.proofs.Appending.{order_last, holds_before, found_before_it, once_more}

-- a row stands in the slot that it is found in, if it still has it
pub stands : (b : Building) (marks found : List (Option ℕ)) (slot place r : ℕ) → AreMarked b marks found →
    place ≢ slot → slice_index_or marks place None ≡ Some r → StandsBeside b.orders (length b.orders) slot r
stands b marks found slot place r are other has = (place, sym (are.marks_are place) ∙ has, other)

-- and only there
pub stands_there : (b : Building) (marks found : List (Option ℕ)) (slot place r : ℕ) → AreMarked b marks found →
    slice_index_or found r None ≡ Some place → StandsBeside b.orders (length b.orders) slot r →
    (slice_index_or marks place None ≡ Some r) × (place ≢ slot)
stands_there b marks found slot place r are is (s, has, other) =
    let there = held_found b.orders (length b.orders) (length b.orders) s r are.once (omega arith) (omega arith) has in
    let found_is = are.found_are r in
    let same : s ≡ place = cc in
    subst (λ p. (slice_index_or marks p None ≡ Some r) × (p ≢ slot)) same (are.marks_are s ∙ has, other)

pub stands_nowhere : (b : Building) (marks found : List (Option ℕ)) (slot r : ℕ) → AreMarked b marks found →
    slice_index_or found r None ≡ None → StandsBeside b.orders (length b.orders) slot r → ⊥
stands_nowhere b marks found slot r are is (s, has, other) =
    let there = held_found b.orders (length b.orders) (length b.orders) s r are.once (omega arith) (omega arith) has in
    let found_is = are.found_are r in
    cc

-- a row is found that was made, and no other
pub found_made : (b : Building) (marks found : List (Option ℕ)) (r slot : ℕ) → AreMarked b marks found →
    slice_index_or found r None ≡ Some slot → is_made b.orders (length b.orders) r ≡ true
found_made b marks found r slot are is = by_made (is_made b.orders (length b.orders) r) refl
  where
    by_made : (made : Bool) → is_made b.orders (length b.orders) r ≡ made → made ≡ true
    by_made true e = refl
    by_made false e =
        let none = found_nowhere b.orders (length b.orders) r e in
        let found_is = are.found_are r in
        absurd cc

pub found_not_made : (b : Building) (marks found : List (Option ℕ)) (r : ℕ) → AreMarked b marks found →
    slice_index_or found r None ≡ None → is_made b.orders (length b.orders) r ≡ false
found_not_made b marks found r are is = by_made (is_made b.orders (length b.orders) r) refl
  where
    by_made : (made : Bool) → is_made b.orders (length b.orders) r ≡ made → made ≡ false
    by_made false e = refl
    by_made true e =
        let m : MakesRow b.orders (length b.orders) r = made_before b.orders (length b.orders) r e in
        let there = found_of b.orders (length b.orders) m.number are.once (omega arith) m.before in
        let row = m.row_is in
        let found_is = are.found_are r in
        let same :
        slot_of b.orders (length b.orders) (row_at b.orders m.number) ≡ slot_of b.orders (length b.orders) r =
        ap (slot_of b.orders (length b.orders)) row in
        absurd cc

-- one order more is noted
pub marked_more : (narrow slots : List Bool) (orders : List Order) (o : Order) (marks found wider : List (Option ℕ)) →
    AreMarked (building narrow slots orders) marks found → o.slot < length slots →
    is_made orders (length orders) o.row ≡ false →
    ((r : ℕ) → slice_index_or wider r None ≡ slice_index_or found r None) → o.row < length wider →
    AreMarked (building narrow slots (orders ++ o ∷ [])) (slice_set marks o.slot (Some o.row))
    (slice_set wider o.row (Some o.slot))
marked_more narrow slots orders o marks found wider are in_slots new alike in_found =
    let n : ℕ = length orders in
    let all = orders ++ o ∷ [] in
    let entries = are.entries in
    let long : length all ≡ suc n = length_push orders o ∙ add-one n in
    let slot_is : slot_at all n ≡ o.slot = ap (λ (x : Order). x.slot) (order_last orders o) in
    let row_is : row_at all n ≡ o.row = ap (λ (x : Order). x.row) (order_last orders o) in
    record {
      few = are.few;
      entries = length-set marks o.slot (Some o.row) ∙ entries;
      marks_are = λ slot. elim (cases_eq slot o.slot) [
        | inl same ↦
            get_or-set_at marks o.slot slot (Some o.row) None same (omega arith)
            ∙ ap Some (sym row_is)
            ∙ sym (holds_here all n slot (slot_is ∙ sym same))
            ∙ ap (λ j. holds all j slot) (sym long)
        | inr other ↦
            get_or-set_other marks o.slot slot (Some o.row) None other ∙ are.marks_are slot
            ∙ sym (holds_before orders o n slot (omega arith))
            ∙ sym (holds_other all n slot (λ e. other (sym e ∙ slot_is)))
            ∙ ap (λ j. holds all j slot) (sym long)
      ];
      found_are = λ r. elim (cases_eq r o.row) [
        | inl same ↦
            get_or-set_at wider o.row r (Some o.slot) None same in_found
            ∙ ap Some (sym slot_is)
            ∙ sym (found_here all n r (row_is ∙ sym same))
            ∙ ap (λ j. slot_of all j r) (sym long)
        | inr other ↦
            get_or-set_other wider o.row r (Some o.slot) None other ∙ alike r ∙ are.found_are r
            ∙ sym (found_before_it orders o n r (omega arith))
            ∙ sym (found_other all n r (λ e. other (sym e ∙ row_is)))
            ∙ ap (λ j. slot_of all j r) (sym long)
      ];
      once = once_more orders o are.once new;
    }

-- the same lists by other names
pub marked_by : (b b' : Building) (marks marks' found found' : List (Option ℕ)) → AreMarked b marks found →
    b ≡ b' → marks' ≡ marks → found' ≡ found → AreMarked b' marks' found'
marked_by b b' marks marks' found found' are b_is marks_are found_are =
    subst (λ f. AreMarked b' marks' f) (sym found_are)
    (subst (λ m. AreMarked b' m found) (sym marks_are) (subst (λ x. AreMarked x marks found) b_is are))

-- whether a row is found tells whether it was made
pub found_tells : (b : Building) (marks found : List (Option ℕ)) (r : ℕ) (slot : Option ℕ) → AreMarked b marks found →
    slice_index_or found r None ≡ slot → is_some slot ≡ is_made b.orders (length b.orders) r
found_tells b marks found r (Some slot) are is = sym (found_made b marks found r slot are is)
found_tells b marks found r None are is = sym (found_not_made b marks found r are is)

-- what has to be seen of an order
pub ready : (rows : Rows) (b : Building) (o : Order) (source : Source) →
    slice_get rows.sources.items o.row ≡ Some source → HasWidth b o → is_made b.orders (length b.orders) o.row ≡ false →
    ((m : Merge) → source ≡ Sum m → HasBoth b o m) →
    IsReady rows b.narrow b.slots b.orders (length b.orders) o
ready rows b o source is width once both = record {
  row = slice_get_within rows.sources.items o.row source is;
  slot = width.slot;
  width = width.width;
  once = once;
  upper = λ m e. (both m (let same : source ≡ Sum m = cc in same)).upper;
  lower = λ m e. (both m (let same : source ≡ Sum m = cc in same)).lower;
  narrow_sums = λ m e. (both m (let same : source ≡ Sum m = cc in same)).narrow_sums;
}

unmarked : (n k : ℕ) → slice_index_or (replicate {A = Option ℕ} n None) k None ≡ None
unmarked n k = elim (cases_lt k n) [
  | inl below ↦ get_or-replicate n k None None below
  | inr past ↦ get_or_past (replicate n None) k None (rw length-replicate past)
]

-- no order is noted
pub none_marked : (narrow slots : List Bool) (orders : List Order) (marks found : List (Option ℕ)) (n m : ℕ) →
    orders ≡ [] → length slots ≤ 2 ^ 27 → n ≡ length slots → marks ≡ replicate n None → found ≡ replicate m None →
    AreMarked (building narrow slots orders) marks found
none_marked narrow slots orders marks found n m none few n_is marks_are found_are = rw (none, marks_are, found_are)
    (record {
      few = few;
      entries = length-replicate n None ∙ n_is;
      marks_are = λ slot. unmarked n slot ∙ sym (holds_none [] slot);
      found_are = λ r. unmarked m r ∙ sym (found_none [] r);
      once = λ j lt. absurd (omega arith);
    })

pub both_of : (rows : Rows) (b : Building) (o : Order) (m : Merge) → slice_get rows.sources.items o.row ≡ Some (Sum m) →
    IsReady rows b.narrow b.slots b.orders (length b.orders) o → HasBoth b o m
both_of rows b o m is all = record {
  upper = all.upper m is;
  lower = all.lower m is;
  narrow_sums = all.narrow_sums m is;
}
