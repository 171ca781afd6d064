use Rattle.psr_base.proofs.Appends.{AppendedAll-joins, AppendedFront-stops, AppendedFront-breaks_off}
use Rattle.psr_base.proofs.writing.appends_join.Goals as goal

pub returns : goal.returns
returns c = record { joins = AppendedAll-joins; stops = AppendedFront-stops; breaks_off = AppendedFront-breaks_off }
