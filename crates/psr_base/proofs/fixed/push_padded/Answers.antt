use Rattle.std.proofs.Common.{ℕ, ◌≡◌, ◌-◌, List, ◌++◌, ap, ◌∙◌, arith, lit<, length, replicate, length-append, append_assoc}
use Rattle.std.specs.Fmt.{decimal}
use Rattle.std.proofs.lemmas.List.{length-replicate}
use Rattle.psr_base.proofs.FixedText.{short_decimal}
use Rattle.psr_base.proofs.fixed.push_padded.Goals as goal

pub push_str-requires : goal.push_str-requires
push_str-requires c =
    let text = ap length c.format-text.ensures.text in
    let short = short_decimal c.args.digits c.args.number c.requires.digits c.requires.fits in
    let size = ap length c.loop.invariant ∙ length-append c.args.into.now.bytes (replicate c.loop.counter 48) in
    let zeros = length-replicate {A = ℕ} c.loop.counter 48 in
    let count : c.loop.counter ≡ c.args.digits - length c.format-text.result.now = omega arith in
    (lit< tt, omega arith)

pub returns : goal.returns
returns c =
    let into = c.args.into.now.bytes in
    let text = c.format-text.result.now in
    let length_is = ap length c.format-text.ensures.text in
    let count : c.loop.counter ≡ c.args.digits - length (decimal c.args.number) = omega arith in
    c.push_str.ensures.bytes
    ∙ ap (λ (ys : List ℕ). ys ++ text) c.loop.invariant
    ∙ append_assoc into (replicate c.loop.counter 48) text
    ∙ ap (λ m. into ++ (replicate m 48 ++ text)) count
    ∙ ap (λ (ys : List ℕ). into ++ (replicate (c.args.digits - length (decimal c.args.number)) 48 ++ ys))
    c.format-text.ensures.text
