use Rattle.dada_header.proofs.FieldWords.{next_word_is}
use Rattle.dada_header.proofs.words.Place.next_word.Goals as goal

pub returns-clause-some : goal.returns-clause-some
returns-clause-some c = next_word_is c.args.line.now c.args.from c.word_start-start.result c.word_end-end.result
    (c.first_word_of_line.ensures c.args.from c.args.line.now c.requires) c.word_start-start.ensures.start
    c.word_end-end.ensures.end c.if-start-line.false
