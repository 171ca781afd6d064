use Rattle.std.proofs.Common.{◌≡◌, List, [], ◌∷◌, ◌++◌, Option, Some, sym, subst, ap, ◌∙◌}
use Rattle.dada_hdu.specs.declared.ended.HduEnded.{HduEnded}
use Rattle.dada_hdu.specs.declared.ended.HduEnded.TheVariants.{Here}
use Rattle.dada_hdu.specs.Ended.{AllReadersOfBoth}
use Rattle.stream_tests.proofs.Alone.{alone}
use Rattle.stream_tests.proofs.both.Both.finish.Goals as goal

pub finish-requires-clause-readers : goal.finish-requires-clause-readers
finish-requires-clause-readers c = let both = c.args.self in let me : HduEnded = Here both.reader in
    let items : c.push.new.self.items ≡ Some me ∷ [] =
    c.push.ensures.items ∙ ap (λ (l : List (Option HduEnded)). l ++ Some me ∷ []) c.new-readers.ensures in
    subst (λ (l : List (Option HduEnded)). AllReadersOfBoth both.hdu l) (sym items)
    (c.order_is_enough.ensures both.hdu (Some me ∷ [])
    (alone both.hdu both.reader both.readers both.reads both.number))
