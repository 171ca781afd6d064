use Rattle.std.proofs.Common.{◌≡◌, subst, sym, rules}
use Rattle.clap.specs.Words.{found_of, rows_of}
use Rattle.psr_make.specs.Made.{SpecInRange}
use Rattle.psr_make.specs.Request.{spec_of}
use Rattle.psr_make.proofs.Ranges.{spec_in_range}
use Rattle.psr_make.proofs.request.spec_of.Goals as goal

pub returns-clause-in_range : goal.returns-clause-in_range
returns-clause-in_range c =
    let found = rows_of (found_of c.args.matches.now) in
    let is : record {
      number = c.number.result;
      channels = c.number-2.result;
      spectra = c.number-3.result;
      delay = c.number-4.result;
      period = c.number-5.result;
      height = c.number-6.result;
      nbit = c.number-7.result;
      npol = c.number-8.result;
    } ≡ spec_of found = search rules in
    subst SpecInRange (sym is) (spec_in_range c.none_fails.ensures c.values_are_allowed.ensures found c.requires)
