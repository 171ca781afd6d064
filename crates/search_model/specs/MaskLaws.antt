-- Laws of a search of some of the channels; the functions of this crate carry them.
-- Source: this project's choice.
use Rattle.std.specs.Prelude.{◌≡◌, ℕ, ◌+◌, ◌≤◌, ◌<◌, Bool, true, List, if◌then◌else◌}
use Rattle.dada_model.specs.Edges.{AreEdges}
use Rattle.dada_model.specs.Observation.{Observation, edges}
use Rattle.search_model.specs.declared.search.Search.{Search}
use Rattle.search_model.specs.Samples.{Filterbank}
use Rattle.search_model.specs.Sums.{late_path_sum}
use Rattle.search_model.specs.Observed.{candidates_of, search_text}
use Rattle.search_model.specs.Masks.{kept_cells, masked_candidates_of, masked_text}

-- where each sample of a kept channel is 1 and all others are 0, up to the end of the path, a path sum that begins
-- within the data counts the cells in kept channels
abbrev pub PathSumsCountCells : Type 0
PathSumsCountCells =
    (f : Filterbank) (edges : List ℕ) (kept : ℕ → Bool) (d u late : ℕ) → AreEdges f.channels edges →
    d + late ≤ u →
    ((c t : ℕ) → c < f.channels → t + late ≤ u → f.value c t ≡ (if kept c then 1 else 0)) →
    late_path_sum f edges u d late ≡ kept_cells kept edges f.channels d

-- where all channels are kept, the search is the plain one
pub record PlainIsUnmasked : Type 0 where
  pub cells : (kept : ℕ → Bool) (edges : List ℕ) (n d : ℕ) → AreEdges n edges →
      ((c : ℕ) → kept c ≡ true) → kept_cells kept edges n d ≡ n + d
  pub list : (o : Observation) (s : Search) (bytes : List ℕ) → AreEdges o.channels (edges o) →
      masked_candidates_of o s (λ c. true) bytes ≡ candidates_of o s bytes
  pub text : (o : Observation) (s : Search) (bytes : List ℕ) → AreEdges o.channels (edges o) →
      masked_text o s (λ c. true) bytes ≡ search_text o s bytes
