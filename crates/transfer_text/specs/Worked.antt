-- Texts of runs, by their definition.
use Rattle.std.specs.Prelude.{◌≡◌, [], ◌∷◌, codes, refl}
use Rattle.std.specs.Fmt.{digits}
use Rattle.search_model.specs.declared.candidate.Candidate.TheVariants.{Pulse}
use Rattle.search_model.specs.CandidateText.{plain_labels}
use Rattle.transfer_text.specs.Text.{FoundList, transfer_line, run_text}

-- one pulse in three spectra of two channels
abbrev first : FoundList
first = record {
  labels = plain_labels (λ delay. 104) 2;
  spectra = 3;
  list = Pulse 1 1 1 30 ∷ [];
}

-- nothing in one spectrum
abbrev second : FoundList
second = record { labels = plain_labels (λ delay. 104) 2; spectra = 1; list = [] }

one_transfer : run_text (first ∷ []) ≡ codes "PULSE 1 1 0.104 1 30 3\nEND 1 0 3\n"
unfolding digits
one_transfer = refl

two_transfers : run_text (first ∷ second ∷ [])
    ≡ codes "OBS 0\nPULSE 1 1 0.104 1 30 3\nEND 1 0 3\nOBS 1\nEND 0 0 1\n"
unfolding digits transfer_line
two_transfers = refl
