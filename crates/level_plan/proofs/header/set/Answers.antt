use Rattle.std.proofs.Common.{◌≡◌, ℕ, ◌≤◌, ◌-◌, ◌^◌, List, length, sym, ap, ◌∙◌, subst, arith}
use Rattle.std.specs.Prelude.{Some, None, pos, min}
use Rattle.std.proofs.lemmas.Result.{on_ok_weaker}
use Rattle.dada_model.specs.Change.{changed}
use Rattle.dada_model.specs.Fields.{HeaderText}
use Rattle.dada_header.specs.declared.faults.SetFault.TheVariants.{Overfull}
use Rattle.dada_header.specs.Changes.{IsSet, IsOverfull}
use Rattle.psr_base.specs.Fixed.{fixed_text}
use Rattle.level_plan.specs.Headers.{field_name, field_decimals}
use Rattle.level_plan.proofs.header.set.Goals as goal

some_same : (a b : ℕ) → Some a ≡ Some b → a ≡ b
some_same a b is = cc

-- what was set had room
was_room : (key value : List ℕ) (old new : HeaderText) → IsSet key value old new → (need size : ℕ) →
    IsOverfull key value old (Overfull need size) → ⊥
was_room key value old new set need size full =
    let count : length new.text ≡ length (changed key value old.text) = ap length set.text in
    let most = min-le (length (changed key value old.text)) (2 ^ 64 - 1) in
    let is = full.0 in
    let room = set.room in
    let over = full.2 in
    omega (arith, count, most, is, room, over)
  where
    min-le : (a b : ℕ) → min a b ≤ a
    min-le a b = omega arith

none_some : (a : ℕ) → None ≡ Some a → ⊥
none_some a is = absurd cc

pub returns-in-Some-clause-room : goal.returns-in-Some-clause-room
returns-in-Some-clause-room c =
    let field = c.args.field in
    let header = c.args.header.now in
    let n = c.in-Some.number in
    let Key : List ℕ → Type 0 = λ key. IsSet key (fixed_text (field_decimals field) (pos n)) header c.set.new.self in
    let Value : List ℕ → Type 0 = λ value. IsSet c.name.result.now value header c.set.new.self in
    let Decimals : ℕ → Type 0 = λ d. c.number_text-text.result.bytes ≡ fixed_text d (pos n) in
    let text : c.as_str.result.now ≡ fixed_text (field_decimals field) (pos n) =
    c.as_str.ensures.value ∙ subst Decimals c.decimals.ensures.value c.number_text-text.ensures.text in
    on_ok_weaker c.set.result (λ set m need size is full.
    let Number : ℕ → Type 0 = λ x.
    IsOverfull (field_name field) (fixed_text (field_decimals field) (pos x)) header (Overfull need size) in
    was_room (field_name field) (fixed_text (field_decimals field) (pos n)) header c.set.new.self
    (subst Key c.name.ensures.name (subst Value text set)) need size
    (subst Number (sym (some_same n m (sym c.in-Some.is ∙ is))) full)) c.set.ensures.ok

pub returns-in-None-clause-room : goal.returns-in-None-clause-room
returns-in-None-clause-room c n need size is full = absurd (none_some n (sym c.in-None.is ∙ is))
