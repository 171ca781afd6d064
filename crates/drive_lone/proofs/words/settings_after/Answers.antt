use Rattle.std.proofs.Common.{ℕ, List, drop, inl, inr, subst}
use Rattle.search_words.specs.declared.fault.WordFault.{WordFault}
use Rattle.search_words.specs.declared.fault.WordFault.TheVariants.{Refused, OutOfRange, Memory}
use Rattle.search_words.specs.Settings.{settings_seen, SaySearch, ExplainsSearch}
use Rattle.run_outcome.specs.Lone.{ExplainsOneSearch}
use Rattle.drive_lone.proofs.words.settings_after.Goals as goal

explains_one : (before : ℕ) (words : List (List ℕ)) (fault : WordFault) → ExplainsSearch (drop before words) fault →
    ExplainsOneSearch before words fault
explains_one before words Refused out = inl out
explains_one before words (OutOfRange opt) out = out
explains_one before words Memory out = out

pub returns-then-is_of_one-clause-says : goal.returns-then-is_of_one-clause-says
returns-then-is_of_one-clause-says c = record {
  says = subst (λ ws. SaySearch ws (settings_seen c.in-Ok.settings)) c.words_after.ensures c.in-Ok.ensures.says;
  one = c.is_of_one.ensures.one c.if-is_of_one.true;
}

pub returns-else-is_of_one-clause-fault : goal.returns-else-is_of_one-clause-fault
returns-else-is_of_one-clause-fault c = inr (
  settings_seen c.in-Ok.settings,
  subst (λ ws. SaySearch ws (settings_seen c.in-Ok.settings)) c.words_after.ensures c.in-Ok.ensures.says,
  c.is_of_one.ensures.other c.if-is_of_one.false,
)

pub returns-in-Err-clause-fault : goal.returns-in-Err-clause-fault
returns-in-Err-clause-fault c = explains_one c.args.before _ c.in-Err.fault
    (subst (λ ws. ExplainsSearch ws c.in-Err.fault) c.words_after.ensures c.in-Err.ensures.fault)
