use Rattle.std.proofs.Common.{List, [], ◌∷◌, ◌++◌, Option, Some, sym, subst, ap, ◌∙◌}
use Rattle.ring_ends.specs.declared.passes.EndedReader.{EndedReader}
use Rattle.ring_ends.specs.Ended.{AllReaders}
use Rattle.ring_tests.proofs.Readers.{three}
use Rattle.ring_tests.proofs.ends.threads.finish.Goals as goal

pub finish-requires-clause-readers : goal.finish-requires-clause-readers
finish-requires-clause-readers c = let a = c.args in
    let items = c.push-3.ensures.items ∙ (ap (λ (l : List (Option EndedReader)). l ++ Some a.third ∷ [])
    (c.push-2.ensures.items ∙ (ap (λ (l : List (Option EndedReader)). l ++ Some a.second ∷ [])
    (c.push.ensures.items ∙ ap (λ (l : List (Option EndedReader)).
    l ++ Some a.first ∷ []) c.new-readers.ensures)))) in
    subst (λ (l : List (Option EndedReader)). AllReaders a.ring l) (sym items)
    (c.order_is_enough.ensures a.ring _
    (three a.ring a.first a.second a.third c.requires.three c.requires.first c.requires.second c.requires.third))
