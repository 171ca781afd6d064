use Rattle.std.proofs.Common.{◌≡◌, ◌++◌, drop, map, string_bytes}
use Rattle.clap.specs.Walk.{texts}
use Rattle.level_words.proofs.reading.copies.Given as goal

-- the copies so far, and the words to come
abbrev pub invariant-loop-word : goal.invariant-loop-word
invariant-loop-word l = map string_bytes l.names.items ++ texts (drop l.word-index l.files) ≡ texts l.files
