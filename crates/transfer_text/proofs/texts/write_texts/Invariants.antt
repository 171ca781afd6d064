use Rattle.std.proofs.Common.{List, map, take}
use Rattle.psr_base.specs.Written.{WroteAll}
use Rattle.transfer_text.specs.Text.{FoundList, texts_from}
use Rattle.transfer_text.specs.Books.{AreMerged}
use Rattle.transfer_text.proofs.texts.write_texts.Given as goal

-- the texts of the transfers before were written
abbrev pub invariant-loop-k : goal.invariant-loop-k
invariant-loop-k g l = record {
  written : (lists : List FoundList) →
      AreMerged lists l.observations (map (λ shards. shards.items) l.books) l.spectra →
      WroteAll (texts_from 0 (take l.k lists)) (g.K.Sink.seen l.fn.out) (g.K.Sink.seen l.out);
}
