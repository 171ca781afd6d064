-- Where slots stand.
use Rattle.std.proofs.Common.{◌≡◌, ℕ, ◌+◌, ◌^◌, ◌≤◌, ◌<◌, true, false, Bool, List, [], ◌∷◌, ◌++◌, length, replicate, slice_index, if◌then◌else◌, arith, sym, ap, subst, ◌∙◌, inl, inr}
use Rattle.std.proofs.lemmas.Bool.{cases_lt}
use Rattle.std.proofs.lemmas.List.{get_or_append_left, get_or-replicate, get_or_past, length-replicate, length_push}
use Rattle.std.proofs.Math.Seq.{get_or-append_seam}
use Rattle.row_model.specs.declared.Rows.{Rows}
use Rattle.row_schedule.specs.declared.builder.Order.{Order}
use Rattle.row_schedule.specs.Steps.{AreApart}
use Rattle.row_schedule.specs.Orders.{order_at}
use Rattle.row_schedule.specs.Schedules.{building}
use Rattle.row_schedule.specs.Layout.{AreLaid, AreSizes, IsLaid, slot_narrow, tail_of}

-- the size of the list of a width
abbrev pub size_in : Bool → ℕ → ℕ → ℕ
size_in narrow n w = if narrow then n else w

size_grows : (b : Bool) (n w n' w' : ℕ) → n ≤ n' → w ≤ w' → size_in b n w ≤ size_in b n' w'
size_grows true n w n' w' le le' = le
size_grows false n w n' w' le le' = le'

grown : (b : Bool) (n w n' w' size : ℕ) → n' ≡ n + (if b then size else 0) → w' ≡ w + (if b then 0 else size) →
    (n ≤ n') × (w ≤ w') × (size_in b n' w' ≡ size_in b n w + size)
grown true n w n' w' size first second = (omega arith, omega arith, first)
grown false n w n' w' size first second = (omega arith, omega arith, second)

pub parts_short : (b : Bool) (size m : ℕ) → size ≤ m →
    ((if b then size else 0) ≤ m) × ((if b then 0 else size) ≤ m)
parts_short true size m le = (le, omega arith)
parts_short false size m le = (omega arith, le)

-- no slot
pub none_laid : (slots : List Bool) (sizes : List ℕ) (places : List ℕ) (n w : ℕ) → places ≡ [] →
    AreLaid slots sizes 0 places n w
none_laid slots sizes places n w none = record {
  entries = ap length none;
  within = λ s lt. absurd (omega arith);
  apart = λ s t lt _ _ _. absurd (omega arith);
}

-- one slot more
pub one_laid : (slots : List Bool) (sizes places places' : List ℕ) (k n w n' w' size : ℕ) (b : Bool) →
    AreLaid slots sizes k places n w → b ≡ slot_narrow slots k → size ≡ slice_index sizes k →
    places' ≡ places ++ size_in b n w ∷ [] → n' ≡ n + (if b then size else 0) → w' ≡ w + (if b then 0 else size) →
    AreLaid slots sizes (k + 1) places' n' w'
one_laid slots sizes places places' k n w n' w' size b laid b_is size_is places_are n_is w_is =
    let entries = laid.entries in
    let grow = grown b n w n' w' size n_is w_is in
    let long = ap length places_are ∙ length_push places (size_in b n w) in
    let before : (s : ℕ) → s < k → slice_index places' s ≡ slice_index places s = λ s lt.
    ap (λ xs. slice_index xs s) places_are ∙ get_or_append_left places (size_in b n w ∷ []) 0 s (omega arith) in
    let here : slice_index places' k ≡ size_in (slot_narrow slots k) n w =
    ap (λ j. slice_index places' j) (sym entries) ∙ ap (λ xs. slice_index xs (length places)) places_are
    ∙ get_or-append_seam places (size_in b n w) [] 0 ∙ ap (λ v. size_in v n w) b_is in
    let last : size_in (slot_narrow slots k) n' w' ≡ size_in (slot_narrow slots k) n w + slice_index sizes k =
    ap (λ v. size_in v n' w') (sym b_is) ∙ grow.2 ∙ ap (λ v. size_in v n w + size) b_is
    ∙ ap (λ z. size_in (slot_narrow slots k) n w + z) size_is in
    let below : (s : ℕ) → s < k → slot_narrow slots s ≡ slot_narrow slots k →
    AreApart (slice_index places' s) (slice_index sizes s) (slice_index places' k) (slice_index sizes k) =
    λ s lt same.
    let within = laid.within s lt in
    let e : size_in (slot_narrow slots s) n w ≡ size_in (slot_narrow slots k) n w = ap (λ v. size_in v n w) same in
    let at = before s lt in
    inl (omega arith) in
    record {
      entries = omega arith;
      within = λ s lt. elim (cases_lt s k) [
        | inl old ↦
            let within = laid.within s old in
            let more = size_grows (slot_narrow slots s) n w n' w' grow.0 grow.1 in
            let at = before s old in
            omega arith
        | inr new ↦
            let e : k ≡ s = omega arith in
            subst (λ s. slice_index places' s + slice_index sizes s ≤ size_in (slot_narrow slots s) n' w') e
            (omega arith)
      ];
      apart = λ s t lt lt' other same. elim (cases_lt s k) [
        | inl old ↦ elim (cases_lt t k) [
          | inl old' ↦
              let at = before s old in
              let at' = before t old' in
              elim (laid.apart s t old old' other same) [
                | inl one ↦ inl (omega arith)
                | inr two ↦ inr (omega arith)
              ]
          | inr new' ↦
              let e : k ≡ t = omega arith in
              let e' : t ≡ k = omega arith in
              subst (λ t. AreApart (slice_index places' s) (slice_index sizes s) (slice_index places' t)
              (slice_index sizes t)) e (below s old (same ∙ ap (λ t. slot_narrow slots t) e'))
        ]
        | inr new ↦ elim (cases_lt t k) [
          | inl old' ↦
              let e : k ≡ s = omega arith in
              let e' : s ≡ k = omega arith in
              subst (λ s. AreApart (slice_index places' s) (slice_index sizes s) (slice_index places' t)
              (slice_index sizes t)) e
              (turned _ _ _ _ (below t old' (sym same ∙ ap (λ s. slot_narrow slots s) e')))
          | inr new' ↦ absurd (other (omega arith))
        ]
      ];
    }
  where
    turned : (a n b m : ℕ) → AreApart a n b m → AreApart b m a n
    turned a n b m (inl x) = inr x
    turned a n b m (inr x) = inl x

-- no slot begins far on
pub near : (slots : List Bool) (sizes : List ℕ) (k : ℕ) (places : List ℕ) (n w m : ℕ) →
    AreLaid slots sizes k places n w → n ≤ m → w ≤ m → (s : ℕ) → slice_index places s ≤ m
near slots sizes k places n w m laid le le' s = elim (cases_lt s k) [
  | inl there ↦
      let within = laid.within s there in
      let small = most (slot_narrow slots s) in
      omega arith
  | inr past ↦
      let entries = laid.entries in
      let zero_there : slice_index places s ≡ 0 = get_or_past places s 0 (omega arith) in
      omega arith
]
  where
    most : (b : Bool) → size_in b n w ≤ m
    most true = le
    most false = le'

-- slots of one size
pub filled_short : (slots size m s : ℕ) → size ≤ m → slice_index (replicate slots size) s ≤ m
filled_short slots size m s le = elim (cases_lt s slots) [
  | inl there ↦ let e = get_or-replicate slots s size 0 there in omega arith
  | inr past ↦ let e = get_or_past (replicate slots size) s 0 (rw length-replicate past) in omega arith
]

-- they are raised for one order more
pub longer : (rows : Rows) (orders : List Order) (chunk : ℕ) (sizes sizes' : List ℕ) (k : ℕ) →
    ((j : ℕ) → j < k → tail_of rows (order_at orders j).row + chunk ≤ slice_index sizes (order_at orders j).slot) →
    ((s : ℕ) → slice_index sizes s ≤ slice_index sizes' s) →
    tail_of rows (order_at orders k).row + chunk ≤ slice_index sizes' (order_at orders k).slot →
    (j : ℕ) → j < k + 1 →
    tail_of rows (order_at orders j).row + chunk ≤ slice_index sizes' (order_at orders j).slot
longer rows orders chunk sizes sizes' k enough grows here j lt = elim (cases_lt j k) [
  | inl before ↦
      let old = enough j before in
      let more = grows (order_at orders j).slot in
      omega arith
  | inr last ↦
      let e : k ≡ j = omega arith in
      subst (λ j. tail_of rows (order_at orders j).row + chunk ≤ slice_index sizes' (order_at orders j).slot) e here
]

-- the slots of a builder
pub is_laid : (rows : Rows) (narrow slots : List Bool) (orders : List Order) (chunk count : ℕ) (orders' : List Order)
    (slots' : List Bool) (sizes' sizes : List ℕ) (places : List ℕ) (n w : ℕ) → orders' ≡ orders →
    count ≡ length slots → slots' ≡ slots → sizes' ≡ sizes → AreSizes rows orders' count chunk sizes →
    AreLaid slots' sizes' (length slots') places n w → ((s : ℕ) → slice_index places s ≤ 2 ^ 50) →
    IsLaid rows (building narrow slots orders) chunk places n w
is_laid rows narrow slots orders chunk count orders' slots' sizes' sizes places n w orders_are count_is slots_are
    sizes_are enough laid near = record {
      sizes = sizes;
      laid = subst (λ slots. AreLaid slots sizes (length slots) places n w) slots_are
          (subst (λ sizes. AreLaid slots' sizes (length slots') places n w) sizes_are laid);
      enough = subst (λ orders. AreSizes rows orders (length slots) chunk sizes) orders_are
          (subst (λ count. AreSizes rows orders' count chunk sizes) count_is enough);
      near = near;
    }
