use Rattle.std.proofs.Common.{◌≡◌, List, [], ◌∷◌, ◌++◌, Option, Some, sym, ap, ◌∙◌, subst}
use Rattle.psr_base.specs.InMemory.{told_of, IsOpen}
use Rattle.beam_set.specs.declared.beam.Beam.{Beam}
use Rattle.beam_set.specs.Sets.{EachPair, SlotBegins}
use Rattle.beam_tests.proofs.Three.{each_of_three}
use Rattle.beam_tests.proofs.sets.run_three.Goals as goal

pub run_set-requires-clause-begins : goal.run_set-requires-clause-begins
run_set-requires-clause-begins g c κs within =
    let a : Option Beam = Some c.in_ok-first.first in
    let b : Option Beam = Some c.in_ok-second.second in
    let d : Option Beam = Some c.in_ok-third.third in
    let one : c.push.new.self.items ≡ a ∷ [] =
    c.push.ensures.items ∙ ap (λ (xs : List (Option Beam)). xs ++ a ∷ []) c.new-beams.ensures in
    let two : c.push-2.new.self.items ≡ a ∷ b ∷ [] =
    c.push-2.ensures.items ∙ ap (λ (xs : List (Option Beam)). xs ++ b ∷ []) one in
    let three : c.push-3.new.self.items ≡ a ∷ b ∷ d ∷ [] =
    c.push-3.ensures.items ∙ ap (λ (xs : List (Option Beam)). xs ++ d ∷ []) two in
    let lent = c.begin.new.inputs ∷ c.begin-2.new.inputs ∷ c.begin-3.new.inputs ∷ [] in
    subst (λ beams. EachPair (SlotBegins told_of IsOpen) beams lent) (sym three)
    (each_of_three (SlotBegins told_of IsOpen) a b d _ _ _
    (c.in_ok-first.ensures.begins, c.in_ok-first.ensures.file)
    (c.in_ok-second.ensures.begins, c.in_ok-second.ensures.file)
    (c.in_ok-third.ensures.begins, c.in_ok-third.ensures.file))
