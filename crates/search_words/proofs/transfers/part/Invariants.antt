use Rattle.std.proofs.Common.{map, string_bytes}
use Rattle.search_words.proofs.Parted.{Parts}
use Rattle.search_words.proofs.transfers.part.Given as goal

abbrev pub invariant-loop-word : goal.invariant-loop-word
invariant-loop-word l = Parts l.files l.word-index (map string_bytes l.names.items) l.starts.items
