use Rattle.std.proofs.Common.{◌≡◌, Some, ap, sym, ◌∙◌, map, string_bytes, codes}
use Rattle.clap.specs.Words.{found_of, rows_of, first_of}
use Rattle.psr_make.specs.Command.{matches_on}
use Rattle.psr_make.specs.Request.{first_out_of_range, name_in}
use Rattle.psr_make.proofs.request.Request.of.Goals as goal

pub returns-in-Some-first_out_of_range-clause-cause : goal.returns-in-Some-first_out_of_range-clause-cause
returns-in-Some-first_out_of_range-clause-cause c =
    let words = map string_bytes c.args.words.now in
    let found : rows_of (found_of c.in-Ok.matches) ≡ matches_on words = c.in-Ok.ensures.found in
    let named : name_in (matches_on words) ≡ Some c.in-Some.name.now =
    ap (first_of (codes "NAME")) (sym found) ∙ sym c.in-Some.ensures in
    let first : first_out_of_range (matches_on words) ≡ Some c.in-Some-first_out_of_range.opt =
    ap first_out_of_range (sym found) ∙ sym c.in-Some-first_out_of_range.ensures in
    (c.in-Some.name.now, record { taken = c.in-Ok.ensures.taken; named = named }, first)
