use Rattle.std.proofs.Common.{◌∙◌, sym, subst, map}
use Rattle.std.specs.Prelude.{Contains, string_bytes}
use Rattle.psr_part.specs.declared.stop.PartStop.TheVariants.{Refused}
use Rattle.psr_live.specs.Texts.{live_statuses}
use Rattle.psr_live.proofs.Ends.{noted_line, refusal_said, status_known, text_written}
use Rattle.psr_live.proofs.top.run_live.Goals as goal

pub returns-clause-outcome : goal.returns-clause-outcome
returns-clause-outcome g c = record {
  stop = c.search-stop.result;
  answered = c.tell_live.ensures.status;
  known = subst (Contains live_statuses) (sym c.tell_live.ensures.status)
      (status_known (map string_bytes c.args.words.now) _ _ _ _ c.search-stop.result c.search-stop.ensures.ends);
  ends = c.search-stop.ensures.ends;
  silent = c.tell_live.ensures.silent;
  noted = noted_line c.search-stop.result _ _ c.tell_live.ensures.line;
}

pub returns-clause-text : goal.returns-clause-text
returns-clause-text g c = λ zeroth.
    text_written c.bytes_are_joined.ensures c.words_say_once.ensures (map string_bytes c.args.words.now) _ _ _ _
    c.search-stop.result c.search-stop.ensures.ends (sym c.tell_live.ensures.status ∙ zeroth)

pub returns-clause-early : goal.returns-clause-early
returns-clause-early g c = λ five. c.search-stop.ensures.leaves.early (c.tell_live.ensures.memory five)

pub returns-clause-refused : goal.returns-clause-refused
returns-clause-refused g c = λ thirteen.
    let own = c.tell_live.ensures.refused thirteen in
    record {
      refusal = own.0;
      cause = refusal_said c.bytes_are_joined.ensures c.words_say_once.ensures (map string_bytes c.args.words.now) _ _ _
          _ c.search-stop.result c.search-stop.ensures.ends own.0 own.1;
      read = c.search-stop.ensures.leaves.refused own.0 own.1;
      line = noted_line c.search-stop.result _ _ c.tell_live.ensures.line (Refused own.0) own.1;
    }

pub returns-clause-broken : goal.returns-clause-broken
returns-clause-broken g c = λ six. c.search-stop.ensures.leaves.broken (c.tell_live.ensures.read_fault six)
