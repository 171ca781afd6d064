-- What the words of a search of beams say.
use Rattle.std.proofs.Common.{◌≡◌, ℕ, true, ◌&&◌, List, ap, ◌∙◌, inl, inr, Some}
use Rattle.std.specs.Prelude.{is_some}
use Rattle.search_words.specs.declared.fault.WordFault.{WordFault}
use Rattle.search_words.specs.declared.fault.WordFault.TheVariants.{Refused, OutOfRange, Memory}
use Rattle.run_outcome.specs.Lone.{ExplainsOneSearch, ExplainsAlone}
use Rattle.psr_beams.specs.Words.{within_of, more_of, have_form, beam_search}

module _ (words : List (List ℕ)) where
  -- both leading words are there
  pub formed : (within more : ℕ) → within_of words ≡ Some within → more_of words ≡ Some more → have_form words ≡ true
  formed within more a b =
      ap (λ o. is_some o && is_some (more_of words)) a ∙ ap (λ o. is_some (Some within) && is_some o) b

  pub explains : (fault : WordFault) → have_form words ≡ true → ExplainsOneSearch 2 words fault →
      ExplainsAlone beam_search words fault
  explains Refused form e = inr (inl e)
  explains (OutOfRange opt) form e = (form, e)
  explains Memory form e = tt
