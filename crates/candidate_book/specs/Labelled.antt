-- What the lines of an observation say besides their candidates, by the cells of each delay and the words of pulses.
-- Source: this project's choice.
use Rattle.std.specs.Prelude.{ℕ}
use Rattle.dada_model.specs.Observation.{Observation, dm}
use Rattle.search_model.specs.CandidateText.{Labels}
use Rattle.candidate_book.specs.Words.{word_text}
use Rattle.candidate_book.specs.declared.labels.PulseWord.{PulseWord}

abbrev pub labels_with : Observation → (ℕ → ℕ) → (ℕ → PulseWord) → Labels
labels_with o cells word = record { dm = dm o; cells = cells; word = λ end. word_text (word end) }
