use Rattle.std.proofs.Common.{inl, inr, map}
use Rattle.std.specs.Prelude.{string_bytes}
use Rattle.std.proofs.lemmas.Bool.{lt-ltb, le-ltb}
use Rattle.search_words.specs.Settings.{settings_seen}
use Rattle.psr_part.proofs.Said.{explains}
use Rattle.psr_part.proofs.words.part_words.Goals as goal

pub returns-then-is_unfolded-clause-says : goal.returns-then-is_unfolded-clause-says
returns-then-is_unfolded-clause-says c = λ from. record {
  form = c.in-Some.ensures.form;
  search = c.in-Ok.ensures.says;
  made = lt-ltb _ _ (c.is_unfolded.ensures.unfolded c.if-is_unfolded.true);
}

pub returns-else-is_unfolded-clause-fault : goal.returns-else-is_unfolded-clause-fault
returns-else-is_unfolded-clause-fault c = λ from. inr (inr (
  settings_seen c.in-Ok.settings,
  c.in-Ok.ensures.says,
  le-ltb _ _ (c.is_unfolded.ensures.folded c.if-is_unfolded.false),
))

pub returns-in_default-clause-fault : goal.returns-in_default-clause-fault
returns-in_default-clause-fault c = λ from. inl c.in_default.ensures.none

pub returns-in-Err-clause-fault : goal.returns-in-Err-clause-fault
returns-in-Err-clause-fault c = λ from.
    explains (map string_bytes c.args.words.now) from c.in-Err.fault c.in-Some.ensures.form c.in-Err.ensures.fault
