use Rattle.std.proofs.Common.{codes}
use Rattle.std.specs.Fmt.{decimal}
use Rattle.run_outcome.proofs.Pieces.{number_first}
use Rattle.run_outcome.proofs.stop.many_line.Goals as goal

pub returns : goal.returns
returns c =
    number_first c.new-line.result c.push_number.new.self c.push_named_word.new.line
    c.push_str.new.self (decimal c.args.count) (codes " candidates, limit ") (decimal c.args.limit)
    (codes "\n") c.new-line.ensures c.push_number.ensures.text c.push_named_word.ensures.text
    c.push_str.ensures
