-- What is kept of rows is written for the next spectra, or for another schedule.
use Rattle.std.proofs.Common.{◌≡◌, ◌≢◌, ℕ, ◌+◌, ◌-◌, ◌%◌, ◌^◌, ◌≤◌, ◌<◌, true, false, Bool, List, not, length, slice_index, refl, arith, sym, ap, subst, ◌∙◌, inl, inr}
use Rattle.std.proofs.Math.Nat.{mod-eq_of_lt}
use Rattle.std.proofs.lemmas.Bool.{cases_lt}
use Rattle.row_model.specs.declared.Rows.{Rows}
use Rattle.row_model.specs.Sums.{Sums, AddUp, Fit, is_narrow, value_of}
use Rattle.row_model.specs.Tails.{row_count}
use Rattle.row_schedule.specs.declared.kept.Hold.{Hold}
use Rattle.row_schedule.specs.Follows.{Follows}
use Rattle.row_schedule.specs.declared.stores.Sizes.{Sizes}
use Rattle.row_schedule.specs.Schedules.{Scheduled}
use Rattle.row_schedule.specs.Sizes.{AreEnough}
use Rattle.row_schedule.specs.Steps.{AreApart}
use Rattle.row_schedule.specs.Layout.{hold_of, tail_of}
use Rattle.row_schedule.specs.Running.{Stores, HaveRoom, Kept, KeepsRow, kept_of, kept_value}
use Rattle.row_schedule.specs.Moving.{HaveKeptRoom, IsHold, KeepFirst, PutsKept, kept_lists}
use Rattle.row_schedule.specs.Filling.{AreKeptOn, GoesOnBy, StandsAtPlace, own_place}
use Rattle.row_schedule.proofs.Keeping.{kept_apart, same_or_not}
use Rattle.row_schedule.proofs.Fitting.{kept_size}
use Rattle.row_schedule.proofs.Values.{value_later, value_now}

-- a value that is kept of a row of 16 bits fits
value_fits : (rows : Rows) (narrow : List Bool) (y : Sums) (u r i e : ℕ) → Fit narrow y e →
    is_narrow narrow r ≡ true → u + i < e + tail_of rows r → value_of y rows.tails.items u r i < 2 ^ 16
unfolding value_of
value_fits rows narrow y u r i e fits on early =
    let fit = fits r (u + i) (tail_of rows r) on early in
    let whole : y r (u + i) (tail_of rows r) % 2 ^ 32 ≡ y r (u + i) (tail_of rows r) = mod-eq_of_lt (omega arith) in
    subst (λ n. n < 2 ^ 16) (sym whole) fit

-- a value that is kept, in the list and at the place that are given
pub kept_here : (rows : Rows) (narrow : List Bool) (r i : ℕ) (hold : Hold) (w : Bool) (st : Stores) →
    IsHold rows narrow r hold → hold.narrow ≡ w →
    slice_index (kept_of w st) (hold.at + i) ≡ kept_value rows narrow st r i
kept_here rows narrow r i hold w st is w_is =
    ap (λ b. slice_index (kept_of b st) (hold.at + i)) (sym w_is ∙ is.narrow_is)
    ∙ ap (λ p. slice_index (kept_of (is_narrow narrow r) st) (p + i)) is.at_is

-- there is room for it
pub hold_room : (rows : Rows) (narrow : List Bool) (r : ℕ) (hold : Hold) (w : Bool) (st : Stores) →
    IsHold rows narrow r hold → hold.narrow ≡ w → HaveKeptRoom rows narrow st →
    hold.at + hold.size ≤ length (kept_of w st)
hold_room rows narrow r hold w st is w_is room =
    let within = is.within in
    let most = room (is_narrow narrow r) in
    let same = ap (λ b. length (kept_of b st)) (sym w_is ∙ is.narrow_is) in
    omega arith

-- also in lists that are as long
pub kept_room_stays : (rows : Rows) (narrow : List Bool) (a b a' b' : List ℕ) → length a' ≡ length a →
    length b' ≡ length b → HaveKeptRoom rows narrow (kept_lists a b) → HaveKeptRoom rows narrow (kept_lists a' b')
kept_room_stays rows narrow a b a' b' first second room true = let most = room true in omega arith
kept_room_stays rows narrow a b a' b' first second room false = let most = room false in omega arith

-- and in those on which a schedule works
pub schedule_room : (rows : Rows) (s : Scheduled) (st : Stores) → Follows rows s → HaveRoom s st →
    HaveKeptRoom rows s.narrow st
schedule_room rows s st follows room true =
    let size = kept_size rows s true follows.holds_are in
    let most = room.kept_narrow_room in
    omega arith
schedule_room rows s st follows room false =
    let size = kept_size rows s false follows.holds_are in
    let most = room.kept_wide_room in
    omega arith

-- and in lists of its sizes
pub sizes_room : (rows : Rows) (s : Scheduled) (sizes : Sizes) (a b : List ℕ) → Follows rows s → AreEnough s sizes →
    sizes.kept_narrow ≤ length a → sizes.kept_wide ≤ length b → HaveKeptRoom rows s.narrow (kept_lists a b)
sizes_room rows s sizes a b follows enough first second true =
    let size = kept_size rows s true follows.holds_are in
    let most = enough.kept_narrow in
    omega arith
sizes_room rows s sizes a b follows enough first second false =
    let size = kept_size rows s false follows.holds_are in
    let most = enough.kept_wide in
    omega arith

-- what is kept is so in the same lists by other names
pub kept_by : (rows : Rows) (narrow : List Bool) (y : Sums) (u : ℕ) (a b a' b' : List ℕ) → a' ≡ a → b' ≡ b →
    Kept rows narrow y u (kept_lists a b) → Kept rows narrow y u (kept_lists a' b')
kept_by rows narrow y u a b a' b' first second kept r lt i small =
    by_width (is_narrow narrow r) (hold_of rows narrow (is_narrow narrow r) r + i) ∙ kept r lt i small
  where
    by_width : (w : Bool) (k : ℕ) →
        slice_index (kept_of w (kept_lists a' b')) k ≡ slice_index (kept_of w (kept_lists a b)) k
    by_width true k = ap (λ xs. slice_index xs k) first
    by_width false k = ap (λ xs. slice_index xs k) second

-- of what is kept, the list of a width alone was written, and only so many values from a place on
pub record WroteIn (width : Bool) (at count : ℕ) (old new : Stores) : Type 0 where
  pub stays : (k : ℕ) → AreApart k 1 at count →
      slice_index (kept_of width new) k ≡ slice_index (kept_of width old) k
  pub rest : kept_of (not width) new ≡ kept_of (not width) old

-- what is kept of other rows stays
others_keep : (rows : Rows) (narrow : List Bool) (y : Sums) (v r q : ℕ) (hold : Hold) (w : Bool) (old new : Stores) →
    IsHold rows narrow r hold → hold.narrow ≡ w → WroteIn w hold.at hold.size old new → q ≢ r →
    KeepsRow rows narrow y v old q → KeepsRow rows narrow y v new q
others_keep rows narrow y v r q hold w old new is w_is wrote other keeps i small =
    let own : Bool = is_narrow narrow q in
    let k : ℕ = hold_of rows narrow own q + i in
    let here : w ≡ is_narrow narrow r = sym w_is ∙ is.narrow_is in
    elim (same_or_not own w) [
      | inr off ↦
          ap (λ xs. slice_index xs k) (subst (λ b. kept_of b new ≡ kept_of b old) (sym off) wrote.rest)
          ∙ keeps i small
      | inl on ↦
          let at : hold.at ≡ hold_of rows narrow own r =
          is.at_is ∙ ap (λ b. hold_of rows narrow b r) (sym (on ∙ here)) in
          let size = is.size_is in
          let apart : AreApart k 1 hold.at hold.size = elim
          (kept_apart rows narrow own q r refl (sym (on ∙ here)) other) [
            | inl one ↦ inl (omega arith)
            | inr two ↦ inr (omega arith)
          ] in
          subst (λ b. slice_index (kept_of b new) k ≡ slice_index (kept_of b old) k) (sym on) (wrote.stays k apart)
          ∙ keeps i small
    ]

-- one row goes on
row_goes_on : (rows : Rows) (narrow : List Bool) (x : ℕ → ℕ → ℕ) (y : Sums) (u room spectra r from : ℕ) (hold : Hold)
    (w : Bool) (wide : List ℕ) (old new : Stores) → IsHold rows narrow r hold → hold.narrow ≡ w →
    from ≡ own_place room r →
    GoesOnBy w hold.at hold.size from spectra wide (kept_of w old) (kept_of w new) →
    AddUp rows.sources.items x y → Fit narrow y (u + spectra) → StandsAtPlace room y u spectra wide r →
    KeepsRow rows narrow y u old r → KeepsRow rows narrow y (u + spectra) new r
row_goes_on rows narrow x y u room spectra r from hold w wide old new is w_is from_is goes adds fits stands keeps i
    small =
    let size = is.size_is in
    let later = sym (value_later y rows.tails.items u spectra r i) in
    sym (kept_here rows narrow r i hold w new is w_is)
    ∙ elim (cases_lt (i + spectra) (tail_of rows r)) [
      | inl left ↦
          goes.left i (omega arith) ∙ kept_here rows narrow r (spectra + i) hold w old is w_is
          ∙ keeps (spectra + i) (omega arith) ∙ later
      | inr past ↦
          let j : ℕ = i + spectra - hold.size in
          let e : tail_of rows r + j ≡ spectra + i = omega arith in
          let value : slice_index wide (from + j) ≡ value_of y rows.tails.items (u + spectra) r i =
          ap (λ p. slice_index wide (p + j)) from_is ∙ stands j (omega arith)
          ∙ sym (value_now rows x y u r j adds) ∙ ap (λ k. value_of y rows.tails.items u r k) e ∙ later in
          goes.new_ones i (omega arith) (omega arith)
          (λ on. subst (λ n. n < 2 ^ 16) (sym value)
          (value_fits rows narrow y (u + spectra) r i (u + spectra) fits (sym is.narrow_is ∙ w_is ∙ on) (omega arith)))
          ∙ value
    ]

pub kept_on_more : (rows : Rows) (narrow : List Bool) (x : ℕ → ℕ → ℕ) (y : Sums) (u room spectra r from : ℕ)
    (hold : Hold) (w : Bool) (wide : List ℕ) (old new : Stores) → r < row_count rows → IsHold rows narrow r hold →
    hold.narrow ≡ w → from ≡ own_place room r →
    GoesOnBy w hold.at hold.size from spectra wide (kept_of w old) (kept_of w new) →
    kept_of (not w) new ≡ kept_of (not w) old →
    AddUp rows.sources.items x y → Fit narrow y (u + spectra) → StandsAtPlace room y u spectra wide r →
    AreKeptOn rows narrow y u spectra r old → AreKeptOn rows narrow y u spectra (r + 1) new
kept_on_more rows narrow x y u room spectra r from hold w wide old new in_r is w_is from_is goes rest adds fits stands
    so_far =
    let wrote : WroteIn w hold.at hold.size old new = record { stays = goes.stays; rest = rest } in
    record {
      first = λ q lt. elim (cases_lt q r) [
        | inl before ↦
            others_keep rows narrow y (u + spectra) r q hold w old new is w_is wrote (λ e. absurd (omega arith))
            (so_far.first q before)
        | inr last ↦
            let e : r ≡ q = omega arith in
            subst (λ q. KeepsRow rows narrow y (u + spectra) new q) e
            (row_goes_on rows narrow x y u room spectra r from hold w wide old new is w_is from_is goes adds fits stands
            (so_far.others r (omega arith) in_r))
      ];
      others = λ q past lt.
          others_keep rows narrow y u r q hold w old new is w_is wrote (λ e. absurd (omega arith))
          (so_far.others q (omega arith) lt);
    }

-- one row is kept by another schedule
pub taken_more : (rows : Rows) (narrow next : List Bool) (y : Sums) (u r : ℕ) (from to : Hold) (v w : Bool)
    (others : List ℕ) (st old new : Stores) → IsHold rows narrow r from → IsHold rows next r to →
    from.narrow ≡ v → to.narrow ≡ w → others ≡ kept_of v st →
    PutsKept w others from.at (kept_of w old) (kept_of w new) to.at to.size →
    kept_of (not w) new ≡ kept_of (not w) old → Fit next y u → KeepsRow rows narrow y u st r →
    KeepFirst rows next y u old r → KeepFirst rows next y u new (r + 1)
taken_more rows narrow next y u r from to v w others st old new from_is to_is v_is w_is others_are puts rest fits keeps
    so_far q lt = elim (cases_lt q r) [
      | inl before ↦
          others_keep rows next y u r q to w old new to_is w_is (record { stays = puts.stays; rest = rest })
          (λ e. absurd (omega arith)) (so_far q before)
      | inr last ↦
          let e : r ≡ q = omega arith in
          subst (λ q. KeepsRow rows next y u new q) e (λ i small.
          let size = to_is.size_is in
          let value : slice_index others (from.at + i) ≡ value_of y rows.tails.items u r i =
          ap (λ xs. slice_index xs (from.at + i)) others_are ∙ kept_here rows narrow r i from v st from_is v_is
          ∙ keeps i small in
          sym (kept_here rows next r i to w new to_is w_is)
          ∙ puts.written i (omega arith)
          (λ on. subst (λ n. n < 2 ^ 16) (sym value)
          (value_fits rows next y u r i u fits (sym to_is.narrow_is ∙ w_is ∙ on) (omega arith)))
          ∙ value)
    ]
