use Rattle.std.proofs.Common.{List, Option, sym, subst}
use Rattle.ring_ends.specs.declared.passes.EndedReader.{EndedReader}
use Rattle.ring_ends.specs.Ended.{Gives}
use Rattle.dada_hdu.specs.Passes.{header_end, data_end}
use Rattle.dada_hdu.proofs.Ordered.{gives_part}
use Rattle.dada_hdu.proofs.hdu.Hdu.finish.Goals as goal

pub returns-clause-header : goal.returns-clause-header
returns-clause-header c = let all = c.args.readers.items in let end = c.finish.ensures in record {
  shape = end.shape;
  sealed = end.sealed;
  limit = end.limit;
  known = λ j e gives. end.readers j (header_end e) (subst (λ (l : List (Option EndedReader)). Gives l j (header_end e))
      (sym c.part-header_readers.ensures.header) (gives_part header_end all j e gives));
  sized = end.sized;
  begins = end.begins;
  next = end.next;
}

pub returns-clause-blocks : goal.returns-clause-blocks
returns-clause-blocks c = let all = c.args.readers.items in let end = c.finish-2.ensures in record {
  shape = end.shape;
  sealed = end.sealed;
  limit = end.limit;
  known = λ j e gives. end.readers j (data_end e) (subst (λ (l : List (Option EndedReader)). Gives l j (data_end e))
      (sym c.part-header_readers.ensures.blocks) (gives_part data_end all j e gives));
  sized = end.sized;
  begins = end.begins;
  next = end.next;
}
