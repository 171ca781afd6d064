use Rattle.std.proofs.Common.{List, sym, subst}
use Rattle.clap.specs.Walk.{Text}
use Rattle.option_rows.specs.Laws.{ValuesAreAllowed, NoneFails}
use Rattle.search_words.specs.declared.opt.Opt.{Opt}
use Rattle.search_words.specs.declared.table.Program.TheVariants.{PsrSearch, PsrRecord}
use Rattle.search_words.specs.Command.{matches_on}
use Rattle.search_words.specs.Settings.{SettingsSeen, RunSeen, AllInRange, RunInRange, SaySearch, SayRecord}
use Rattle.search_words.proofs.Ranges.{all_in_range, run_in_range}
use Rattle.search_words.proofs.laws.said_is_in_range.Goals as goal

of_search : NoneFails Opt → ValuesAreAllowed → (words : List Text) (s : SettingsSeen) → SaySearch words s → AllInRange s
of_search passing law words s says =
    subst AllInRange (sym says.values) (all_in_range passing law (matches_on PsrSearch words) says.in_range)

of_record : NoneFails Opt → ValuesAreAllowed → (words : List Text) (s : RunSeen) → SayRecord words s → RunInRange s
of_record passing law words s says =
    subst RunInRange (sym says.values) (run_in_range passing law PsrRecord (matches_on PsrRecord words) says.in_range)

pub returns : goal.returns
returns c = record {
  search = of_search c.none_fails.ensures c.values_are_allowed.ensures;
  recording = of_record c.none_fails.ensures c.values_are_allowed.ensures;
}
