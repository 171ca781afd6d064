-- The word of a pulse that labels were asked for.
-- Source: this project's choice.
use Rattle.std.specs.Prelude.{◌≡◌, ℕ, ⊤}
use Rattle.search_model.specs.declared.candidate.Candidate.{Candidate}
use Rattle.search_model.specs.declared.candidate.Candidate.TheVariants.{Pulse, Fold}
use Rattle.candidate_book.specs.declared.asked.Asked.{Asked}
use Rattle.candidate_book.specs.declared.labels.PulseWord.{PulseWord}

-- it is the word at the end that it was asked for
abbrev pub IsAsked : (ℕ → PulseWord) → Asked → Type 0
IsAsked word asked = asked.word ≡ word asked.end

-- the line of a candidate begins with it, if the candidate is a pulse
abbrev pub HasWord : (ℕ → PulseWord) → Candidate → PulseWord → Type 0
HasWord word (Pulse end _ _ _) shown = shown ≡ word end
HasWord word (Fold _ _ _ _ _ _) shown = ⊤
