-- The first word of the line of a pulse.
-- Source: this project's choice.
use Rattle.std.specs.Prelude.{ℕ, List, codes}
use Rattle.candidate_book.specs.declared.labels.PulseWord.{PulseWord}
use Rattle.candidate_book.specs.declared.labels.PulseWord.TheVariants.{Pulse, Rfi}

abbrev pub word_text : PulseWord → List ℕ
word_text Pulse = codes "PULSE"
word_text Rfi = codes "RFI"
