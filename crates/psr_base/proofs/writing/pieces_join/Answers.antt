use Rattle.psr_base.proofs.Writes.{WroteAll-nothing, WroteAll-joins, WroteFront-stops, WroteFront-breaks_off, WroteAll-one_more, WroteFront-in_loop}
use Rattle.psr_base.proofs.writing.pieces_join.Goals as goal

pub returns-clause-pieces : goal.returns-clause-pieces
returns-clause-pieces c =
    record {
      nothing = WroteAll-nothing;
      joins = WroteAll-joins;
      stops = WroteFront-stops;
      breaks_off =
          WroteFront-breaks_off;
    }

pub returns-clause-loops : goal.returns-clause-loops
returns-clause-loops c = record { one_more = WroteAll-one_more; stops = WroteFront-in_loop }
