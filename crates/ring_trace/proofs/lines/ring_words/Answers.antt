-- Where a space is wanting, there are no three words.
use Rattle.std.proofs.Common.{◌∷◌, ◌++◌, List, ℕ, sym, subst, ◌∙◌}
use Rattle.std.specs.Prelude.{codes}
use Rattle.ring_trace.specs.Text.{Lacks}
use Rattle.ring_trace.proofs.Splits.{same_rest, has_byte, one_split}
use Rattle.ring_trace.proofs.lines.ring_words.Goals as goal

pub returns-in_default-split_at_first-clause-none : goal.returns-in_default-split_at_first-clause-none
returns-in_default-split_at_first-clause-none c buffers readers blocks lacks lacks' is =
    let P : List ℕ → Type 0 = λ t. Lacks 32 t in
    has_byte 32 buffers _ (subst P (same_rest (codes "ring ") _ _
    (sym c.in-Some.ensures.some ∙ is)) c.in_default-split_at_first.ensures.none)

pub returns-in-None-clause-none : goal.returns-in-None-clause-none
returns-in-None-clause-none c buffers readers blocks lacks lacks' is =
    let P : List ℕ → Type 0 = λ t. Lacks 32 t in
    let parts = one_split 32 _ buffers _ (readers ++ 32 ∷ blocks) c.in-Some-split_at_first.ensures.first lacks
    (sym c.in-Some-split_at_first.ensures.found ∙ same_rest (codes "ring ") _ _ (sym c.in-Some.ensures.some ∙ is)) in
    has_byte 32 readers blocks (subst P parts.1 c.in-None.ensures.none)
