use Rattle.std.proofs.Common.{codes}
use Rattle.std.specs.Fmt.{decimal}
use Rattle.run_outcome.proofs.Pieces.{three_numbers}
use Rattle.run_outcome.proofs.stop.gap_line.Goals as goal

pub returns : goal.returns
returns c =
    three_numbers c.new-line.result c.push_named_word.new.line c.push_named_number.new.line
    c.push_named_number-2.new.line c.push_str.new.self (codes "file ") (decimal c.args.file)
    (codes " has OBS_OFFSET ") (decimal c.args.found) (codes " where ") (decimal c.args.expected)
    (codes " was expected\n") c.new-line.ensures c.push_named_word.ensures.text
    c.push_named_number.ensures.text c.push_named_number-2.ensures.text c.push_str.ensures
