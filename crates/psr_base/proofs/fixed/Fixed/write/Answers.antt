use Rattle.std.proofs.Common.{◌^◌, ◌<◌, ◌∙◌, ap, arith}
use Rattle.std.specs.Prelude.{ℤ, pos, negsuc, unsigned_abs}
use Rattle.std.proofs.Common.{SFits, w64}
use Rattle.std.proofs.lemmas.Int.{to_z-of_z}
use Rattle.dada_model.specs.Number.{number_value}
use Rattle.psr_base.specs.Fixed.{fixed_text}
use Rattle.psr_base.proofs.FixedText.{read_again}
use Rattle.psr_base.proofs.fixed.Fixed.write.Goals as goal

small : (z : ℤ) → SFits w64 z → unsigned_abs z < 2 ^ 64
small (pos n) h = omega (arith, h)
small (negsuc n) h = omega (arith, h)

pub returns-clause-read_again : goal.returns-clause-read_again
returns-clause-read_again c =
    let z = c.args.value in
    let text = c.put.ensures ∙ ap (fixed_text c.args.decimals) (to_z-of_z w64 z c.ranges.value) in
    ap (number_value c.args.decimals) text
    ∙ read_again c.numbers_are_spelled.ensures c.args.decimals z (small z c.ranges.value)
