use Rattle.std.proofs.Common.{ℕ, List, length, sym, arith}
use Rattle.std.proofs.lemmas.Bool.{true≢false}
use Rattle.stream_model.specs.WalkLaws.{AreStarts}
use Rattle.disk_feeder.specs.Plan.{IsPlace}
use Rattle.disk_feeder.specs.Sources.{first_place}
use Rattle.disk_feeder.proofs.source.Source.open.Goals as goal

first_is : (starts : List ℕ) (count max_bytes : ℕ) → AreStarts starts count →
    IsPlace starts count max_bytes first_place
first_is starts count max_bytes are =
    let first = are.first in
    record {
      transfer = omega arith;
      from = omega arith;
      upto = λ there. omega arith;
      opened = λ now. absurd (true≢false (sym now));
      since = omega arith;
      total = omega arith;
    }

pub invariant_of-result-clause-placed : goal.invariant_of-result-clause-placed
invariant_of-result-clause-placed c =
    first_is c.args.starts.now (length c.args.names.now) c.args.max_bytes c.requires.begin
