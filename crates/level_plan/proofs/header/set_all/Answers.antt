use Rattle.std.proofs.Common.{◌≡◌, ℕ, ◌+◌, ◌<◌, List, [], ◌∷◌, ◌++◌, length, take, get_or, refl, sym, ap, ◌∙◌, subst, arith, add-one, inl, inr}
use Rattle.std.specs.Prelude.{Option, Some, pos, ◌⊎◌, ◌≤◌}
use Rattle.std.proofs.lemmas.Bool.{cases_lt}
use Rattle.std.proofs.Math.Seq.{take-suc}
use Rattle.std.proofs.lemmas.List.{take_all}
use Rattle.dada_model.specs.Fields.{HeaderText}
use Rattle.level_plan.specs.declared.field.Field.{Field}
use Rattle.level_plan.specs.declared.field.Field.TheVariants.{Tsamp}
use Rattle.level_plan.specs.Headers.{all_fields, new_number, with_number, with_numbers, level_header, field_name, field_decimals, FindsNoRoom, HasRoomFor}
use Rattle.psr_base.specs.Fixed.{fixed_text}
use Rattle.dada_model.specs.Observation.{Observation}
use Rattle.level_words.specs.declared.settings.LevelOptions.{LevelOptions}
use Rattle.dada_header.specs.declared.faults.SetFault.{SetFault}
use Rattle.dada_header.specs.declared.faults.SetFault.TheVariants.{Overfull}
use Rattle.dada_header.specs.Changes.{IsOverfull}
use Rattle.level_plan.proofs.header.set_all.Goals as goal

pushed : (number : Field → Option ℕ) (fields : List Field) (field : Field) (header : HeaderText) →
    with_numbers number (fields ++ field ∷ []) header
    ≡ with_number field (number field) (with_numbers number fields header)
pushed number [] field header = refl
pushed number (first ∷ fields) field header = pushed number fields field (with_number first (number first) header)

one_more : (number : Field → Option ℕ) (i : ℕ) (header : HeaderText) → i < length all_fields →
    with_numbers number (take (i + 1) all_fields) header
    ≡ with_number (get_or all_fields i Tsamp) (number (get_or all_fields i Tsamp))
    (with_numbers number (take i all_fields) header)
one_more number i header within =
    let split : take (i + 1) all_fields ≡ take i all_fields ++ get_or all_fields i Tsamp ∷ [] =
    rw add-one (take-suc all_fields i Tsamp within) in
    ap (λ (fields : List Field). with_numbers number fields header) split
    ∙ pushed number (take i all_fields) (get_or all_fields i Tsamp) header

no_room : (s : LevelOptions) (o : Observation) (first header : HeaderText) (i n : ℕ) (fault : SetFault) →
    i < length all_fields → header ≡ with_numbers (new_number s o first) (take i all_fields) first →
    new_number s o first (get_or all_fields i Tsamp) ≡ Some n →
    IsOverfull (field_name (get_or all_fields i Tsamp)) (fixed_text (field_decimals (get_or all_fields i Tsamp)) (pos n))
    header fault → FindsNoRoom s o first fault
no_room s o first header i n (Overfull need size) there so_far gets full =
    let field = get_or all_fields i Tsamp in
    let P : HeaderText → Type 0 = λ h.
    IsOverfull (field_name field) (fixed_text (field_decimals field) (pos n)) h (Overfull need size) in
    record { place = i; there = there; number = n; gets = gets; full = subst P so_far full }

room_before : (o : Observation) (first : HeaderText) (s : LevelOptions) (k i : ℕ) → k < i + 1 →
    ((j : ℕ) → j < i → HasRoomFor (get_or all_fields j Tsamp) (new_number s o first (get_or all_fields j Tsamp))
    (with_numbers (new_number s o first) (take j all_fields) first)) →
    HasRoomFor (get_or all_fields i Tsamp) (new_number s o first (get_or all_fields i Tsamp))
    (with_numbers (new_number s o first) (take i all_fields) first) →
    HasRoomFor (get_or all_fields k Tsamp) (new_number s o first (get_or all_fields k Tsamp))
    (with_numbers (new_number s o first) (take k all_fields) first)
room_before o first s k i below before here = by (cases_lt k i)
  where
    P : ℕ → Type 0
    P j = HasRoomFor (get_or all_fields j Tsamp) (new_number s o first (get_or all_fields j Tsamp))
        (with_numbers (new_number s o first) (take j all_fields) first)

    by : (k < i) ⊎ (i ≤ k) → P k
    by (inl less) = before k less
    by (inr more) = subst P (let same : i ≡ k = omega (arith, below, more) in same) here

pub loop-field-preserved : goal.loop-field-preserved
loop-field-preserved c =
    let o = c.args.observation.now in
    let first = c.args.first.now in
    let i = c.loop-field.field-index in
    let number = new_number c.args.options o first in
    let field = get_or all_fields i Tsamp in
    let test = c.loop-field-test.true in
    let so_far = c.loop-field.invariant.so_far in
    let value = c.new_number-number.ensures.value in
    let Room : Option ℕ → HeaderText → Type 0 = λ n h. HasRoomFor field n h in
    let here : HasRoomFor field (number field) (with_numbers number (take i all_fields) first) =
    subst (λ (h : HeaderText). Room (number field) h) so_far
    (subst (λ (n : Option ℕ). Room n c.loop-field.header) value c.in-Ok.ensures.room) in
    record {
      so_far = c.in-Ok.ensures.ok
          ∙ ap (λ (n : Option ℕ). with_number field n c.loop-field.header) value
          ∙ ap (with_number field (number field)) so_far
          ∙ sym (one_more number i first (omega arith));
      room = λ k below. room_before o first c.args.options k i below c.loop-field.invariant.room here;
    }

pub loop-field-init : goal.loop-field-init
loop-field-init c = record { so_far = c.requires.same; room = λ k below. absurd (omega (arith, below)) }

pub returns-clause-room : goal.returns-clause-room
returns-clause-room c need size none =
    let test = c.loop-field-test.false in
    let there = none.there in
    c.loop-field.invariant.room none.place (omega (arith, test, there)) none.number need size none.gets none.full

pub returns-in-Err-clause-full : goal.returns-in-Err-clause-full
returns-in-Err-clause-full c =
    let test = c.loop-field-test.true in
    let full = c.in-Err.ensures.full in
    no_room c.args.options c.args.observation.now c.args.first.now c.loop-field.header c.loop-field.field-index full.0
    c.in-Err.fault (omega arith) c.loop-field.invariant.so_far (sym c.new_number-number.ensures.value ∙ full.1) full.2

pub returns-clause-ok : goal.returns-clause-ok
unfolding level_header
returns-clause-ok c =
    let number = new_number c.args.options c.args.observation.now c.args.first.now in
    let whole : take c.loop-field.field-index all_fields ≡ all_fields =
    take_all c.loop-field.field-index all_fields (omega arith) in
    c.loop-field.invariant.so_far
    ∙ ap (λ (fields : List Field). with_numbers number fields c.args.first.now) whole
