use Rattle.ring_words.proofs.Opening.{Opening}
use Rattle.ring_words.proofs.words.Words.open.Given as goal

abbrev pub invariant-loop-number : goal.invariant-loop-number
invariant-loop-number l = Opening l.fn.shape l.number l.words l.writer l.readers.items
