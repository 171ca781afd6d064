use Rattle.std.proofs.Common.{◌≡◌, ◌≤◌, ◌^◌, Some, None, Ok, rules, sym, SFits, w64}
use Rattle.std.specs.Prelude.{unsigned_abs}
use Rattle.dada_model.specs.Number.{number_value}
use Rattle.dada_model.specs.Fields.{fields_of, value_of}
use Rattle.dada_model.specs.Observation.{keyword, decimals, default, number_of}
use Rattle.obs_plan.proofs.FoundNumbers.{got, number_of-text, number_of-bad, number_of-default, number_of-missing, default_small, told_bad, told_large, held}
use Rattle.obs_plan.proofs.found.find.Goals as goal
use Rattle.obs_plan.proofs.found.find.Goals.{In_default, In-Some}

missing : (c : In_default) → value_of (keyword c.args.key) (fields_of c.args.header.now.text) ≡ None
missing c = got (fields_of c.args.header.now.text) c.args.key c.name.result.now None c.name.ensures c.in_default.ensures

stands : (c : In-Some) → value_of (keyword c.args.key) (fields_of c.args.header.now.text) ≡ Some c.in-Some.text.now
stands c = got (fields_of c.args.header.now.text) c.args.key c.name.result.now (Some c.in-Some.text.now) c.name.ensures
    c.in-Some.ensures

pub returns-in-Some-default : goal.returns-in-Some-default
returns-in-Some-default c =
    let fields = fields_of c.args.header.now.text in
    let z = c.in-Some-default.number in
    let is : default c.args.key ≡ Some z = sym c.in-Some-default.ensures in
    let number = number_of-default fields c.args.key z (missing (goal.at.returns-in-Some-default c).In_default) is in
    let fits : SFits w64 z = search rules in
    held (λ y. (number_of fields c.args.key ≡ Ok y) ×
    (unsigned_abs y ≤ 10 ^ 18)) z fits (number, default_small c.args.key z is)

pub returns-in-None : goal.returns-in-None
returns-in-None c =
    number_of-missing (fields_of c.args.header.now.text) c.args.key (missing (goal.at.returns-in-None c).In_default)
    (sym c.in-None.ensures)

pub returns-in-Ok : goal.returns-in-Ok
returns-in-Ok c =
    let fields = fields_of c.args.header.now.text in
    let z = c.in-Ok.number in
    let read : number_value (decimals c.args.key) c.in-Some.text.now ≡ Some z =
    rw (← c.decimals.ensures.value, ← c.as_bytes.ensures.value) c.in-Ok.ensures.value in
    let number = number_of-text fields c.args.key c.in-Some.text.now z (stands (goal.at.returns-in-Ok c).In-Some) read
    in
    let fits : SFits w64 z = search rules in
    held (λ y. (number_of fields c.args.key ≡ Ok y) × (unsigned_abs y ≤ 10 ^ 18)) z fits (number, c.in-Ok.ensures.bound)

pub returns-in-Err-BadNumber : goal.returns-in-Err-BadNumber
returns-in-Err-BadNumber c =
    let none = told_bad c.decimals.result c.as_bytes.result.now _ _ c.in-Err-BadNumber.field-0-is
    c.in-Err-BadNumber.ensures.fault in
    let bad : number_value (decimals c.args.key) c.in-Some.text.now ≡ None =
    rw (← c.decimals.ensures.value, ← c.as_bytes.ensures.value) none in
    number_of-bad (fields_of c.args.header.now.text) c.args.key c.in-Some.text.now
    (stands (goal.at.returns-in-Err-BadNumber c).In-Some) bad

pub returns-in-Err-TooLarge : goal.returns-in-Err-TooLarge
returns-in-Err-TooLarge c =
    let large = told_large c.decimals.result c.as_bytes.result.now _ c.in-Err-TooLarge.field-0-is
    c.in-Err-TooLarge.ensures.fault in
    let read : number_value (decimals c.args.key) c.in-Some.text.now ≡ Some large.0 =
    rw (← c.decimals.ensures.value, ← c.as_bytes.ensures.value) large.1 in (
      large.0,
      number_of-text (fields_of c.args.header.now.text) c.args.key c.in-Some.text.now large.0
          (stands (goal.at.returns-in-Err-TooLarge c).In-Some) read,
      large.2,
    )
