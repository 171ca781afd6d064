use Rattle.std.proofs.Common.{◌≡◌, ℕ, ◌-◌, refl, ap, ◌∙◌, arith, lit<, length}
use Rattle.std.specs.Fmt.{decimal}
use Rattle.std.proofs.lemmas.List.{length-replicate}
use Rattle.std.proofs.lemmas.Fmt.{length-decimal-le}
use Rattle.dada_recorder.proofs.Padded.{length-padded, padded_word}
use Rattle.dada_recorder.proofs.changes.padded_number.Goals as goal

pub push_str-requires : goal.push_str-requires
push_str-requires c =
    let text = ap length c.format-text.ensures.text in
    let short = length-decimal-le c.args.digits c.args.number (omega (arith, c.requires.some)) c.requires.fits
    c.ranges.number.fits in
    let size = ap length c.loop.invariant in
    let zeros = length-replicate {A = ℕ} c.loop.counter 48 in
    (lit< tt, omega (arith, text, short, size, zeros, c.requires.some))

pub returns-clause-text : goal.returns-clause-text
returns-clause-text c =
    let size = ap length c.format-text.ensures.text in
    let count : c.loop.counter ≡ c.args.digits - length (decimal c.args.number) = omega arith in
    rw (c.push_str.ensures.bytes, c.loop.invariant, count, c.format-text.ensures.text) refl

pub returns-clause-len : goal.returns-clause-len
returns-clause-len c =
    ap length (returns-clause-text c)
    ∙ length-padded c.args.digits c.args.number (omega (arith, c.requires.some)) c.requires.fits c.ranges.number.fits

pub returns-clause-word : goal.returns-clause-word
returns-clause-word c =
    rw (returns-clause-text c)
    (padded_word c.args.digits c.args.number (omega (arith, c.requires.some)) c.requires.fits c.ranges.number.fits)
