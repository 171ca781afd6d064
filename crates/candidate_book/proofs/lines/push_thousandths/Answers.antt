use Rattle.candidate_book.proofs.Thousandths.{thousandths_are}
use Rattle.candidate_book.proofs.lines.push_thousandths.Goals as goal

pub returns-clause-text : goal.returns-clause-text
returns-clause-text c =
    let e1 = c.push_number.ensures.text in
    let e2 = c.push_str.ensures in
    let e3 = c.push_number-2.ensures.text in
    let e4 = c.push_number-3.ensures.text in
    let e5 = c.push_number-4.ensures.text in
    let e6 = c.push_str-2.ensures in
    let whole = thousandths_are c.args.line.now c.args.number in
    cc
