-- Lists that are long enough for schedules.
use Rattle.std.proofs.Common.{◌≡◌, ℕ, ◌+◌, true, false, Bool, List, length, slice_index, ap, ◌∙◌, arith, refl}
use Rattle.std.proofs.lemmas.List.{length-replicate}
use Rattle.row_model.specs.declared.Rows.{Rows}
use Rattle.row_model.specs.Sums.{Sums, is_narrow}
use Rattle.row_schedule.specs.declared.stores.Sizes.{Sizes}
use Rattle.row_schedule.specs.Schedules.{Scheduled}
use Rattle.row_schedule.specs.Layout.{hold_of}
use Rattle.row_schedule.specs.Filling.{AreGiven, HaveTableRoom, WroteKept, WroteWide}
use Rattle.row_schedule.specs.Running.{AreAsLong, HaveRoom, Kept, Stores, kept_of, stores}
use Rattle.row_schedule.specs.Sizes.{AreEnough, AreEnoughForTables, AreZeros, HaveSizes}

pub same_stores : {a a' b b' c c' d d' : List ℕ} → a ≡ a' → b ≡ b' → c ≡ c' → d ≡ d' →
    stores a b c d ≡ stores a' b' c' d'
same_stores {a} {a'} {b} {b'} {c} {c'} {d} {d'} first second third fourth =
    ap (λ (x : List ℕ). stores x b c d) first ∙ ap (λ (x : List ℕ). stores a' x c d) second
    ∙ ap (λ (x : List ℕ). stores a' b' x d) third ∙ ap (λ (x : List ℕ). stores a' b' c' x) fourth

pub have_room : (s : Scheduled) (sizes : Sizes) (st : Stores) → AreZeros sizes st → AreEnough s sizes → HaveRoom s st
have_room s sizes st zeros enough =
    let a = ap length zeros.narrow ∙ length-replicate sizes.narrow 0 in
    let b = ap length zeros.wide ∙ length-replicate sizes.wide 0 in
    let d = ap length zeros.kept_narrow ∙ length-replicate sizes.kept_narrow 0 in
    let e = ap length zeros.kept_wide ∙ length-replicate sizes.kept_wide 0 in
    let narrows = enough.narrow in
    let wides = enough.wide in
    let keeps = enough.kept_narrow in
    let keeps' = enough.kept_wide in
    record {
      narrow_room = omega (arith, a, narrows);
      wide_room = omega (arith, b, wides);
      kept_narrow_room = omega (arith, d, keeps);
      kept_wide_room = omega (arith, e, keeps');
    }

pub have_table_room : (rows : Rows) (room : ℕ) (sizes : Sizes) (st : Stores) → AreZeros sizes st →
    AreEnoughForTables rows room sizes → HaveTableRoom rows room st
have_table_room rows room sizes st zeros enough =
    let b = ap length zeros.wide ∙ length-replicate sizes.wide 0 in
    omega (arith, b, enough)

-- lists that are as long as they were have room for the tables that they had room for
pub table_room_stays : (rows : Rows) (room : ℕ) (old new : Stores) → AreAsLong old new →
    HaveTableRoom rows room old → HaveTableRoom rows room new
table_room_stays rows room old new long has =
    let b = long.wide in
    omega (arith, b, has)

-- and for the schedules
pub pass_room_stays : (s : Scheduled) (old new : Stores) → AreAsLong old new → HaveRoom s old → HaveRoom s new
pass_room_stays s old new long has =
    let a = long.narrow in
    let b = long.wide in
    let d = long.kept_narrow in
    let e = long.kept_wide in
    let narrows = has.narrow_room in
    let wides = has.wide_room in
    let keeps = has.kept_narrow_room in
    let keeps' = has.kept_wide_room in
    record {
      narrow_room = omega (arith, a, narrows);
      wide_room = omega (arith, b, wides);
      kept_narrow_room = omega (arith, d, keeps);
      kept_wide_room = omega (arith, e, keeps');
    }

-- where one list was written
pub wide_long : (old new : Stores) → WroteWide old new → AreAsLong old new
wide_long old new wrote = record {
  narrow = ap length wrote.narrow;
  wide = wrote.long;
  kept_narrow = ap length wrote.kept_narrow;
  kept_wide = ap length wrote.kept_wide;
}

pub kept_long : (old new : Stores) → WroteKept old new → AreAsLong old new
kept_long old new wrote = record {
  narrow = ap length wrote.narrow;
  wide = ap length wrote.wide;
  kept_narrow = wrote.kept_narrow;
  kept_wide = wrote.kept_wide;
}

pub wrote_yet : (old mid new : Stores) → WroteWide old mid → WroteWide mid new → WroteWide old new
wrote_yet old mid new first second = record {
  long = second.long ∙ first.long;
  narrow = second.narrow ∙ first.narrow;
  kept_narrow = second.kept_narrow ∙ first.kept_narrow;
  kept_wide = second.kept_wide ∙ first.kept_wide;
}

pub nothing_written : (st : Stores) → WroteWide st st
nothing_written st = record { long = refl; narrow = refl; kept_narrow = refl; kept_wide = refl }

-- and so they are after one call and another
pub long_yet : (old mid new : Stores) → AreAsLong old mid → AreAsLong mid new → AreAsLong old new
long_yet old mid new first second = record {
  narrow = second.narrow ∙ first.narrow;
  wide = second.wide ∙ first.wide;
  kept_narrow = second.kept_narrow ∙ first.kept_narrow;
  kept_wide = second.kept_wide ∙ first.kept_wide;
}

-- the rows of all nodes were made, and then kept
pub filled_long : (old made kept : Stores) → WroteWide old made → WroteKept made kept → AreAsLong old kept
filled_long old made kept wrote wrote' = long_yet old made kept (wide_long old made wrote) (kept_long made kept wrote')

-- lists that are long enough for a schedule have room for it
pub sizes_room : (s : Scheduled) (sizes : Sizes) (st : Stores) → AreEnough s sizes → HaveSizes sizes st → HaveRoom s st
sizes_room s sizes st enough has =
    let a = has.narrow in
    let b = has.wide in
    let d = has.kept_narrow in
    let e = has.kept_wide in
    let narrows = enough.narrow in
    let wides = enough.wide in
    let keeps = enough.kept_narrow in
    let keeps' = enough.kept_wide in
    record {
      narrow_room = omega (arith, a, narrows);
      wide_room = omega (arith, b, wides);
      kept_narrow_room = omega (arith, d, keeps);
      kept_wide_room = omega (arith, e, keeps');
    }

-- and for the rows of all nodes
pub sizes_table_room : (rows : Rows) (room : ℕ) (sizes : Sizes) (st : Stores) → AreEnoughForTables rows room sizes →
    HaveSizes sizes st → HaveTableRoom rows room st
sizes_table_room rows room sizes st enough has =
    let b = has.wide in
    omega (arith, b, enough)

-- what is kept stays where slots alone were written
pub kept_stays : (rows : Rows) (narrow : List Bool) (y : Sums) (u : ℕ) (old new : Stores) → WroteWide old new →
    Kept rows narrow y u old → Kept rows narrow y u new
kept_stays rows narrow y u old new wrote kept r lt i small =
    by_width (is_narrow narrow r) (hold_of rows narrow (is_narrow narrow r) r + i) ∙ kept r lt i small
  where
    by_width : (w : Bool) (k : ℕ) → slice_index (kept_of w new) k ≡ slice_index (kept_of w old) k
    by_width true k = ap (λ xs. slice_index xs k) wrote.kept_narrow
    by_width false k = ap (λ xs. slice_index xs k) wrote.kept_wide

pub given_stays : (rows : Rows) (narrow : List Bool) (x : ℕ → ℕ → ℕ) (y : Sums) (u chunk spectra : ℕ)
    (samples : List ℕ) (old new : Stores) → WroteWide old new →
    AreGiven rows narrow x y u chunk spectra samples old → AreGiven rows narrow x y u chunk spectra samples new
given_stays rows narrow x y u chunk spectra samples old new wrote given = record {
  adds = given.adds;
  channels = given.channels;
  rows_are = given.rows_are;
  next = given.next;
  kept_are = kept_stays rows narrow y u old new wrote given.kept_are;
}
