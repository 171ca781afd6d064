-- The last line of the text of a part.
-- Source: this project's choice.
use Rattle.std.specs.Prelude.{ℕ, List, nat_lt, if◌then◌else◌}
use Rattle.search_model.specs.CandidateText.{end_line}
use Rattle.search_model.specs.Parts.{check_line}

-- CHECK if spectra follow those before `until`, of `spectra` in all, otherwise END; with the number
-- of pulses that end before it
abbrev pub last_line : ℕ → ℕ → ℕ → List ℕ
last_line until spectra pulses =
    if nat_lt until spectra then check_line until pulses else end_line pulses 0 spectra
