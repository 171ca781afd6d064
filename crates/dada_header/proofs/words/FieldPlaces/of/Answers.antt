use Rattle.dada_header.proofs.FieldWords.{field_is}
use Rattle.dada_header.proofs.words.FieldPlaces.of.Goals as goal

pub returns-clause-some : goal.returns-clause-some
returns-clause-some c =
    field_is c.args.line.now c.without_comment-words.result.now c.in_ok-keyword.keyword c.in_ok-value.value
    c.without_comment-words.ensures.front c.in_ok-keyword.ensures.some c.in_ok-value.ensures.some
