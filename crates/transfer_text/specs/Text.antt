-- The text of a run over the data of one or more transfers: that of the candidate list where there is one transfer;
-- where there are more, each list's text comes after a line with the number of its transfer.
-- Source: PSRDADA manual (a transfer is what one header describes); the lines are this project's choice.
use Rattle.std.specs.Prelude.{ℕ, ◌+◌, List, [], ◌∷◌, ◌++◌, codes}
use Rattle.std.specs.Fmt.{decimal}
use Rattle.search_model.specs.declared.candidate.Candidate.{Candidate}
use Rattle.search_model.specs.CandidateText.{Labels, candidate_text}

-- what is found in a transfer: what its lines say besides their candidates, how many spectra it has, and its list
pub record FoundList : Type 0 where
  pub labels : Labels
  pub spectra : ℕ
  pub list : List Candidate

abbrev pub list_text : FoundList → List ℕ
list_text found = candidate_text found.labels found.spectra found.list

-- the line before the text of transfer k
unfoldable pub transfer_line : ℕ → List ℕ
transfer_line k = codes "OBS " ++ decimal k ++ codes "\n"

-- the texts of the transfers from transfer k on, each after its line
abbrev pub texts_from : ℕ → List FoundList → List ℕ
texts_from k [] = []
texts_from k (found ∷ more) =
    (transfer_line k ++ list_text found) ++ texts_from (k + 1) more

-- the text of a run
abbrev pub run_text : List FoundList → List ℕ
run_text (found ∷ []) = list_text found
run_text lists = texts_from 0 lists
