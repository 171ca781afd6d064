use Rattle.std.proofs.Common.{string_bytes, map, ap, refl, arith}
use Rattle.psr_demo.proofs.SearchWords.{word_more}
use Rattle.psr_demo.proofs.making.search_words.Goals as goal

pub loop-word-init : goal.loop-word-init
loop-word-init c = record { said = record { are = refl }; words = ap (map string_bytes) c.new-words.ensures.items }

pub loop-word-preserved : goal.loop-word-preserved
loop-word-preserved c = record {
  said = c.loop-word.invariant.said;
  words = word_more string_bytes _ c.loop-word.words.items c.push.new.self.items c.in_ok-from_str.field-0
      c.loop-word.word-index c.loop-word.invariant.said (omega arith) c.loop-word.invariant.words
      c.in_ok-push.ensures.items c.in_ok-from_str.ensures.ok;
}
