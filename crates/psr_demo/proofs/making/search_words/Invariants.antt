use Rattle.std.proofs.Common.{◌≡◌, take, map, string_bytes}
use Rattle.psr_demo.specs.Searching.{search_line}
use Rattle.psr_demo.proofs.SearchWords.{AreWords}
use Rattle.psr_demo.proofs.making.search_words.Given as goal

-- the words so far are there
abbrev pub invariant-loop-word : goal.invariant-loop-word
invariant-loop-word l = record {
  said : AreWords l.word-items;
  words : map string_bytes l.words.items ≡ take l.word-index search_line;
}
