use Rattle.std.proofs.Common.{◌+◌, ◌∷◌, List, ℕ, sym, ap, ◌∙◌, take}
use Rattle.std.specs.Prelude.{◌==◌}
use Rattle.std.specs.List.{slice_split}
use Rattle.channel_mask.proofs.Items.{cut_at, uncut, to_end}
use Rattle.channel_mask.proofs.ranges.split_at_first.Goals as goal

pub returns-in-Some-clause-some : goal.returns-in-Some-clause-some
returns-in-Some-clause-some c =
    let text = c.args.text.now in
    let is = λ (b : ℕ). b == c.args.byte in
    (cut_at is text c.in-Some.at (sym c.in-Some.ensures.place)).1
    ∙ ap (λ (rest : List ℕ). take c.in-Some.at text ∷ slice_split is rest) (sym (to_end text (c.in-Some.at + 1)))

pub returns-in-None-clause-none : goal.returns-in-None-clause-none
returns-in-None-clause-none c =
    uncut (λ (b : ℕ). b == c.args.byte) c.args.text.now (sym c.in-None.ensures.place)
