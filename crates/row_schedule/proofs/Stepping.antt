-- What a step does to the lists that schedules work on, as it is told of those that it was lent.
use Rattle.std.proofs.Common.{◌≡◌, ℕ, List, length, ap, sym, ◌∙◌, subst, refl, arith}
use Rattle.std.proofs.lemmas.List.{with_items_is}
use Rattle.std.specs.Vec.{with_items}
use Rattle.row_schedule.specs.declared.step.Step.{Step}
use Rattle.row_schedule.specs.declared.step.Kind.{Kind}
use Rattle.row_schedule.specs.declared.stores.Stores.TheInside.{Inside}
use Rattle.row_schedule.specs.Steps.{step_at}
use Rattle.row_schedule.specs.Running.{AreAsLong, HaveRoom, Stores, stores}
use Rattle.row_schedule.specs.Schedules.{Scheduled}
use Rattle.row_schedule.specs.Making.{StepMade}

pub same_stores : {a a' b b' c c' d d' : List ℕ} → a ≡ a' → b ≡ b' → c ≡ c' → d ≡ d' →
    stores a b c d ≡ stores a' b' c' d'
same_stores {a} {a'} {b} {b'} {c} {c'} {d} {d'} first second third fourth =
    ap (λ (x : List ℕ). stores x b c d) first ∙ ap (λ (x : List ℕ). stores a' x c d) second
    ∙ ap (λ (x : List ℕ). stores a' b' x d) third ∙ ap (λ (x : List ℕ). stores a' b' c' x) fourth

abbrev pub stores_of : Inside → Stores
stores_of s = stores s.narrow.items s.wide.items s.kept_narrow.items s.kept_wide.items

-- the lists of 16 bits were written
pub narrow_written : (s t : Inside) (list kept : List ℕ) → length list ≡ s.narrow.len →
    length kept ≡ s.kept_narrow.len →
    t ≡ record s { narrow = with_items s.narrow list; kept_narrow = with_items s.kept_narrow kept } →
    stores list s.wide.items kept s.kept_wide.items ≡ stores_of t
narrow_written s t list kept long kept_long is =
    same_stores (sym (with_items_is s.narrow list long)) refl (sym (with_items_is s.kept_narrow kept kept_long)) refl
    ∙ ap stores_of (sym is)

-- those of 32 bits were
pub wide_written : (s t : Inside) (list kept : List ℕ) → length list ≡ s.wide.len → length kept ≡ s.kept_wide.len →
    t ≡ record s { wide = with_items s.wide list; kept_wide = with_items s.kept_wide kept } →
    stores s.narrow.items list s.kept_narrow.items kept ≡ stores_of t
wide_written s t list kept long kept_long is =
    same_stores refl (sym (with_items_is s.wide list long)) refl (sym (with_items_is s.kept_wide kept kept_long))
    ∙ ap stores_of (sym is)

-- a step of this kind, by its number
pub step_made : (steps : List Step) (j spectra : ℕ) (samples : List ℕ) (step : Step) (kind : Kind)
    (before after old new : Stores) → step ≡ step_at steps j → step.kind ≡ kind → before ≡ old → after ≡ new →
    StepMade kind step spectra samples before after →
    StepMade (step_at steps j).kind (step_at steps j) spectra samples old new
step_made steps j spectra samples step kind before after old new step_is kind_is before_is after_is made =
    let own : StepMade step.kind step spectra samples before after =
    subst (λ (kind : Kind). StepMade kind step spectra samples before after) (sym kind_is) made in
    subst (λ (step : Step). StepMade step.kind step spectra samples old new) step_is
    (subst (λ (st : Stores). StepMade step.kind step spectra samples st new) before_is
    (subst (λ (st : Stores). StepMade step.kind step spectra samples before st) after_is own))

-- lists that are as long as they were have room for what they had room for
pub room_stays : (s : Scheduled) (old new : Stores) → AreAsLong old new → HaveRoom s old → HaveRoom s new
room_stays s old new long room =
    let a = long.narrow in
    let b = long.wide in
    let d = long.kept_narrow in
    let e = long.kept_wide in
    let narrows = room.narrow_room in
    let wides = room.wide_room in
    let keeps = room.kept_narrow_room in
    let keeps' = room.kept_wide_room in
    record {
      narrow_room = omega (arith, a, narrows);
      wide_room = omega (arith, b, wides);
      kept_narrow_room = omega (arith, d, keeps);
      kept_wide_room = omega (arith, e, keeps');
    }

pub long_yet : (old mid new : Stores) → AreAsLong old mid → AreAsLong mid new → AreAsLong old new
long_yet old mid new first second = record {
  narrow = second.narrow ∙ first.narrow;
  wide = second.wide ∙ first.wide;
  kept_narrow = second.kept_narrow ∙ first.kept_narrow;
  kept_wide = second.kept_wide ∙ first.kept_wide;
}
