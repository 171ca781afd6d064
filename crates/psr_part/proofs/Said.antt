-- The words of the search of a part.
use Rattle.std.proofs.Common.{◌≡◌, ℕ, List, true, Option, Some, sym, ap, inl, inr}
use Rattle.std.specs.Prelude.{unwrap_or}
use Rattle.search_words.specs.declared.fault.WordFault.{WordFault}
use Rattle.search_words.specs.declared.fault.WordFault.TheVariants.{Refused, OutOfRange, Memory}
use Rattle.warm_restart.specs.declared.checkpoint.Checkpoint.{Checkpoint}
use Rattle.warm_restart.specs.Counts.{until_of}
use Rattle.run_outcome.specs.Lone.{ExplainsOneSearch, ExplainsAlone}
use Rattle.psr_part.specs.Part.{until_in, until_word, has_form, part_search}

-- what the words say where they have the form
pub until_is : (words : List (List ℕ)) (until : ℕ) → until_of (until_word words) ≡ Some until → until ≡ until_in words
until_is words until e = sym (ap (λ (o : Option ℕ). unwrap_or o 0) e)

-- what a fault says of the words of a search that stand after their form
pub explains : (words : List (List ℕ)) (from : Checkpoint) (fault : WordFault) → has_form words ≡ true →
    ExplainsOneSearch 2 words fault → ExplainsAlone (part_search words from) words fault
explains words from Refused form why = inr (inl why)
explains words from (OutOfRange opt) form why = (form, why)
explains words from Memory form why = tt
