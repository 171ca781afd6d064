use Rattle.std.proofs.Common.{refl, ap, ◌∙◌}
use Rattle.std.specs.Str.Parse.{digits_value_after}
use Rattle.psr_base.specs.Spelling.{capped}
use Rattle.psr_base.proofs.FixedValue.{kept_digits}
use Rattle.psr_base.proofs.fixed.magnitude.Goals as goal

pub returns : goal.returns
returns c =
    let whole = c.append_digits.ensures.value 0 refl in
    let n = digits_value_after 10 0 c.args.whole.now in
    let kept = c.append_digits-number.ensures.value n whole in
    let scaled = c.append_zeros.ensures _ kept in
    scaled ∙ ap capped (kept_digits c.args.decimals c.min-kept.result c.args.whole.now c.args.fraction.now
    c.requires.fraction c.min-kept.ensures)
