-- Laws of the texts of parts; functions of this crate carry them.
-- Source: this project's choice.
use Rattle.std.specs.Prelude.{◌≡◌, ℕ, ◌+◌, ◌≤◌, ◌<◌, List, ◌++◌, length}
use Rattle.dada_model.specs.Observation.{Observation}
use Rattle.search_model.specs.declared.search.Search.{Search}
use Rattle.search_model.specs.CandidateText.{candidate_lines}
use Rattle.search_model.specs.Observed.{candidates_of, filterbank_of, labels_of, search_text}
use Rattle.search_model.specs.Parts.{check_line, within_part}
use Rattle.warm_restart.specs.Warm.{text_of_part}
use Rattle.warm_restart.specs.declared.checkpoint.Checkpoint.{Checkpoint}

-- the lines of a part's pulses, without its last line
abbrev pub lines_of_part : Observation → Search → Checkpoint → ℕ → List ℕ → List ℕ
lines_of_part o s from until bytes =
    candidate_lines (labels_of o) (within_part from.place until (candidates_of o s bytes))

-- the checkpoint with which the text of a part ends that stops before a cut
abbrev pub checkpoint_at : Observation → Search → Checkpoint → ℕ → List ℕ → Checkpoint
checkpoint_at o s from cut bytes = record {
  place = cut;
  pulses = from.pulses + length (within_part from.place cut (candidates_of o s bytes));
}

-- The text of a part that stops before a cut, with spectra behind it, is its lines and the CHECK line of a checkpoint.
-- These lines, and then the text from that checkpoint on, are the text of both parts. And where nothing is folded, the
-- text of the part that has all spectra is the text of the whole search.
pub record PartTextsJoin : Type 0 where
  pub stops : (o : Observation) (s : Search) (from : Checkpoint) (cut : ℕ) (bytes : List ℕ) →
      cut < (filterbank_of o bytes).spectra →
      text_of_part o s from cut bytes
      ≡ lines_of_part o s from cut bytes
      ++ check_line cut (checkpoint_at o s from cut bytes).pulses
  pub goes_on : (o : Observation) (s : Search) (from : Checkpoint) (cut until : ℕ)
      (bytes : List ℕ) → from.place ≤ cut → cut ≤ until →
      lines_of_part o s from cut bytes
      ++ text_of_part o s (checkpoint_at o s from cut bytes) until bytes
      ≡ text_of_part o s from until bytes
  pub whole : (o : Observation) (s : Search) (until : ℕ) (bytes : List ℕ) →
      s.fold_max < s.fold_min → (filterbank_of o bytes).spectra ≤ until →
      text_of_part o s (record { place = 0; pulses = 0 }) until bytes ≡ search_text o s bytes
