-- What is kept of rows stands row by row, in the list of each width.
use Rattle.std.proofs.Common.{◌≡◌, ◌≢◌, ℕ, zero, suc, ◌+◌, ◌*◌, ◌^◌, ◌≤◌, ◌<◌, ◌⊎◌, true, false, Bool, List, [], ◌∷◌, ◌++◌, not, length, slice_index, if◌then◌else◌, refl, arith, sym, ap, ◌∙◌, inl, inr, add-one}
use Rattle.std.proofs.Math.ListN.{get_or-append}
use Rattle.std.proofs.Math.Seq.{get_or-append_seam}
use Rattle.std.proofs.lemmas.Bool.{cases_lt, cases_eq}
use Rattle.row_model.specs.declared.Rows.{Rows}
use Rattle.row_model.specs.Sums.{is_narrow}
use Rattle.row_model.specs.Tails.{AreRows, row_count}
use Rattle.row_schedule.specs.Schedules.{Scheduled}
use Rattle.row_schedule.specs.Steps.{AreApart}
use Rattle.row_schedule.specs.Layout.{HasHolds, hold_of, kept_before, kept_in, kept_room, lead_of, tail_of}
use Rattle.row_schedule.specs.Moving.{IsHold}

pub same_or_not : (v w : Bool) → (v ≡ w) ⊎ (v ≡ not w)
same_or_not true true = inl refl
same_or_not true false = inr refl
same_or_not false true = inr refl
same_or_not false false = inl refl

-- one row more: its values are kept in its own width
before_next : (rows : Rows) (narrow : List Bool) (w : Bool) (r : ℕ) →
    kept_before rows narrow w (r + 1) ≡ kept_before rows narrow w r + kept_in rows narrow w r
unfolding kept_before
before_next rows narrow w r = rw add-one refl

own_in : (rows : Rows) (narrow : List Bool) (w : Bool) (r : ℕ) → is_narrow narrow r ≡ w →
    kept_in rows narrow w r ≡ tail_of rows r
own_in rows narrow true r on = rw on refl
own_in rows narrow false r off = rw off refl

in_most : (w v : Bool) (n : ℕ) → (if w then (if v then n else 0) else (if v then 0 else n)) ≤ n
in_most true true n = omega arith
in_most true false n = omega arith
in_most false true n = omega arith
in_most false false n = omega arith

hold_next : (rows : Rows) (narrow : List Bool) (w : Bool) (r : ℕ) →
    hold_of rows narrow w (r + 1) ≡ hold_of rows narrow w r + kept_in rows narrow w r
hold_next rows narrow w r = let next = before_next rows narrow w r in omega arith

none_before : (rows : Rows) (narrow : List Bool) (w : Bool) → kept_before rows narrow w 0 ≡ 0
unfolding kept_before
none_before rows narrow w = refl

pub first_narrow : (rows : Rows) (narrow : List Bool) → 24 ≡ hold_of rows narrow true 0
first_narrow rows narrow = let none = none_before rows narrow true in omega arith

pub first_wide : (rows : Rows) (narrow : List Bool) → 12 ≡ hold_of rows narrow false 0
first_wide rows narrow = let none = none_before rows narrow false in omega arith

-- they are not many
kept_few : (channels : ℕ) (rows : Rows) → AreRows channels rows → (narrow : List Bool) (w : Bool) (r : ℕ) →
    kept_before rows narrow w r ≤ r * 16384
kept_few channels rows are narrow w zero = let none = none_before rows narrow w in omega arith
kept_few channels rows are narrow w (suc r) =
    let next = before_next rows narrow w r in
    let most = in_most w (is_narrow narrow r) (tail_of rows r) in
    let short = are.short r in
    let before = kept_few channels rows are narrow w r in
    let e : suc r ≡ r + 1 = omega arith in
    rw e (omega arith)

lead_few : (w : Bool) → lead_of w ≤ 24
lead_few true = omega arith
lead_few false = omega arith

pub hold_few : (channels : ℕ) (rows : Rows) → AreRows channels rows → (narrow : List Bool) (w : Bool) (r : ℕ) →
    r ≤ row_count rows → hold_of rows narrow w r ≤ 2 ^ 42
hold_few channels rows are narrow w r le =
    let few = are.few in
    let before = kept_few channels rows are narrow w r in
    let lead = lead_few w in
    omega arith

kept_rise : (rows : Rows) (narrow : List Bool) (w : Bool) (q r : ℕ) → q ≤ r →
    kept_before rows narrow w q ≤ kept_before rows narrow w r
kept_rise rows narrow w q zero le = let e : q ≡ 0 = omega arith in rw e (omega arith)
kept_rise rows narrow w q (suc r) le = elim (cases_eq q (suc r)) [
  | inl same ↦ rw same (omega arith)
  | inr other ↦
      let next = before_next rows narrow w r in
      let before = kept_rise rows narrow w q r (omega arith) in
      let e : suc r ≡ r + 1 = omega arith in
      rw e (omega arith)
]

-- those of row r end before those of all rows of its width do
pub hold_within : (rows : Rows) (narrow : List Bool) (w : Bool) (r : ℕ) → r < row_count rows → is_narrow narrow r ≡ w →
    hold_of rows narrow w r + tail_of rows r ≤ kept_room rows narrow w
hold_within rows narrow w r lt own =
    let next = before_next rows narrow w r in
    let all = own_in rows narrow w r own in
    let rise = kept_rise rows narrow w (r + 1) (row_count rows) (omega arith) in
    omega arith

-- and those of two rows of a width stand apart
pub kept_apart : (rows : Rows) (narrow : List Bool) (w : Bool) (q r : ℕ) → is_narrow narrow q ≡ w →
    is_narrow narrow r ≡ w → q ≢ r →
    AreApart (hold_of rows narrow w q) (tail_of rows q) (hold_of rows narrow w r) (tail_of rows r)
kept_apart rows narrow w q r own_q own_r other = elim (cases_lt q r) [
  | inl before ↦
      let next = before_next rows narrow w q in
      let all = own_in rows narrow w q own_q in
      let rise = kept_rise rows narrow w (q + 1) r (omega arith) in
      inl (omega arith)
  | inr after ↦
      let next = before_next rows narrow w r in
      let all = own_in rows narrow w r own_r in
      let past : r + 1 ≤ q = elim (cases_eq q r) [
        | inl same ↦ absurd (other same)
        | inr _ ↦ omega arith
      ] in
      let rise = kept_rise rows narrow w (r + 1) q past in
      inr (omega arith)
]

-- where they begin, row by row
pub one_hold : (rows : Rows) (narrow : List Bool) (r place : ℕ) (held held' : List ℕ) → length held ≡ r →
    held' ≡ held ++ place ∷ [] → place ≡ hold_of rows narrow (is_narrow narrow r) r →
    ((q : ℕ) → q < r → slice_index held q ≡ hold_of rows narrow (is_narrow narrow q) q) → (q : ℕ) → q < r + 1 →
    slice_index held' q ≡ hold_of rows narrow (is_narrow narrow q) q
one_hold rows narrow r place held held' long is place_is each q le =
    ap (λ xs. slice_index xs q) is
    ∙ elim (cases_lt q r) [
      | inl before ↦ get_or-append held (place ∷ []) 0 q (omega arith) ∙ each q before
      | inr last ↦
          let here : length held ≡ q = omega arith in
          let same : r ≡ q = omega arith in
          ap (λ i. slice_index (held ++ place ∷ []) i) (sym here) ∙ get_or-append_seam held place [] 0 ∙ place_is
          ∙ ap (λ i. hold_of rows narrow (is_narrow narrow i) i) same
    ]

-- in the list of the width of the row
pub placed : (rows : Rows) (narrow : List Bool) (r a b : ℕ) (v w : Bool) → v ≡ w → a ≡ hold_of rows narrow true r →
    b ≡ hold_of rows narrow false r → (if v then a else b) ≡ hold_of rows narrow w r
placed rows narrow r a b true true same first second = first
placed rows narrow r a b true false same first second = absurd (let e : true ≡ false = same in cc)
placed rows narrow r a b false true same first second = absurd (let e : false ≡ true = same in cc)
placed rows narrow r a b false false same first second = second

-- both lists grow by what is kept of one row
pub grown_narrow : (rows : Rows) (narrow : List Bool) (r size new old : ℕ) (v : Bool) → v ≡ is_narrow narrow r →
    size ≡ tail_of rows r → old ≡ hold_of rows narrow true r → new ≡ old + (if v then size else 0) →
    new ≡ hold_of rows narrow true (r + 1)
grown_narrow rows narrow r size new old v v_is size_is old_is new_is =
    new_is
    ∙ ap (λ b. old + (if b then size else 0)) v_is
    ∙ ap (λ n. old + (if is_narrow narrow r then n else 0)) size_is
    ∙ ap (λ n. n + kept_in rows narrow true r) old_is
    ∙ sym (hold_next rows narrow true r)

pub grown_wide : (rows : Rows) (narrow : List Bool) (r size new old : ℕ) (v : Bool) → v ≡ is_narrow narrow r →
    size ≡ tail_of rows r → old ≡ hold_of rows narrow false r → new ≡ old + (if v then 0 else size) →
    new ≡ hold_of rows narrow false (r + 1)
grown_wide rows narrow r size new old v v_is size_is old_is new_is =
    new_is
    ∙ ap (λ b. old + (if b then 0 else size)) v_is
    ∙ ap (λ n. old + (if is_narrow narrow r then 0 else n)) size_is
    ∙ ap (λ n. n + kept_in rows narrow false r) old_is
    ∙ sym (hold_next rows narrow false r)

pub is_hold : (channels : ℕ) (rows : Rows) → AreRows channels rows → (s : Scheduled) (r at size : ℕ) (w : Bool) →
    HasHolds rows s.narrow s.held → r < row_count rows → w ≡ is_narrow s.narrow r → at ≡ slice_index s.held r →
    size ≡ tail_of rows r → IsHold rows s.narrow r (record { narrow = w; at = at; size = size })
is_hold channels rows are s r at size w holds lt w_is at_is size_is =
    let place = at_is ∙ holds.each r lt in
    let few = hold_few channels rows are s.narrow (is_narrow s.narrow r) r (omega arith) in
    let short = are.short r in
    let within = hold_within rows s.narrow (is_narrow s.narrow r) r lt refl in
    record {
      narrow_is = w_is;
      at_is = place;
      size_is = size_is;
      few = omega arith;
      short = omega arith;
      within = omega arith;
    }
