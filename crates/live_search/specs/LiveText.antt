-- The text of a search that is written part by part while the data come.
-- Source: this project's choice.
use Rattle.std.specs.Prelude.{ℕ, zero, suc, ◌+◌, ◌-◌, ◌*◌, ◌/◌, ◌^◌, ◌++◌, Bool, List, [], length, min, nat_le, nat_lt, nat_eq, if◌then◌else◌, codes}
use Rattle.std.specs.Fmt.{decimal}
use Rattle.dada_model.specs.Observation.{Observation}
use Rattle.search_model.specs.declared.candidate.Candidate.{Candidate}
use Rattle.search_model.specs.declared.search.Search.{Search}
use Rattle.search_model.specs.CandidateText.{Labels, candidate_lines, end_line}
use Rattle.search_model.specs.Observed.{candidates_of, filterbank_of, labels_of}
use Rattle.search_model.specs.Parts.{check_line, within_part}
use Rattle.warm_restart.specs.declared.checkpoint.Checkpoint.{Checkpoint}

-- ---- the lines of one part

-- MANY, the spectrum that a part stops before, and how many pulses it has
abbrev pub many_line : ℕ → ℕ → List ℕ
many_line until pulses =
    codes "MANY " ++ decimal until ++ codes " " ++ decimal pulses ++ codes "\n"

-- whether a part has more pulses than the limit
abbrev pub is_printed : ℕ → List Candidate → Bool
is_printed limit part = nat_le (length part) limit

-- the lines of the pulses of a part that stops before `until`, or one line that counts them where they are too many
abbrev pub pulse_lines : Labels → ℕ → ℕ → List Candidate → List ℕ
pulse_lines l limit until part =
    if is_printed limit part then candidate_lines l part else many_line until (length part)

-- how many of them are printed
abbrev pub printed : ℕ → List Candidate → ℕ
printed limit part = if is_printed limit part then length part else 0

-- the greatest number of a line; a count stands still there
abbrev pub greatest_number : ℕ
greatest_number = 2 ^ 64 - 1

-- how many pulses are printed before and after a part began
abbrev pub counted : ℕ → ℕ → ℕ
counted before pulses = min (before + pulses) greatest_number

-- ---- parts

-- What is printed: by which labels; how many spectra a part has; and how many pulses of a part are printed at most.
pub record Layout : Type 0 where
  pub labels : Labels
  pub every : ℕ
  pub limit : ℕ

-- before which spectrum the part stops that begins with spectrum `place`: the next multiple
abbrev pub next_end : ℕ → ℕ → ℕ
next_end every place = (place / every + 1) * every

-- how many parts end after spectrum `place` and before so many spectra
abbrev pub parts_before : ℕ → ℕ → ℕ → ℕ
parts_before every place spectra = (spectra - 1) / every - place / every

-- the pulses of the part that begins at a checkpoint
abbrev pub part_at : Layout → Checkpoint → List Candidate → List Candidate
part_at l at list = within_part at.place (next_end l.every at.place) list

-- the checkpoint at its end
abbrev pub next_after : Layout → Checkpoint → List Candidate → Checkpoint
next_after l at list = record {
  place = next_end l.every at.place;
  pulses = counted at.pulses (printed l.limit (part_at l at list));
}

-- and its lines, without the one of that checkpoint
abbrev pub lines_at : Layout → Checkpoint → List Candidate → List ℕ
lines_at l at list =
    pulse_lines l.labels l.limit (next_end l.every at.place) (part_at l at list)

-- the checkpoint at the end of the first n parts
unfoldable pub after_parts : Layout → Checkpoint → List Candidate → ℕ → Checkpoint
after_parts l from list zero = from
after_parts l from list (suc n) = next_after l (after_parts l from list n) list

-- The text of the first n parts: of each its lines, and then its mark, which is the CHECK line of the checkpoint at its
-- end.
unfoldable pub marked_parts : (ℕ → ℕ → List ℕ) → Layout → Checkpoint → List Candidate → ℕ → List ℕ
marked_parts mark l from list zero = []
marked_parts mark l from list (suc n) =
    let at = after_parts l from list n in
    let end = next_after l at list in
    marked_parts mark l from list n ++ lines_at l at list ++ mark end.place end.pulses

-- ---- the whole text

-- the lines of the pulses from a checkpoint on, of which the data have so many spectra, and the mark behind them
abbrev pub last_lines : (ℕ → ℕ → List ℕ) → Layout → Checkpoint → ℕ → List Candidate → List ℕ
last_lines mark l at spectra list =
    let part = within_part at.place spectra list in
    pulse_lines l.labels l.limit spectra part
    ++ mark spectra (counted at.pulses (printed l.limit part))

-- how the last part is marked where all data came: END, how many pulses were printed and no folds, how many spectra
abbrev pub end_mark : ℕ → ℕ → List ℕ
end_mark spectra pulses = end_line pulses 0 spectra

abbrev pub no_mark : ℕ → ℕ → List ℕ
no_mark place pulses = []

-- The text of data that came to their end: that of the parts that end within them, and that of the last part.
abbrev pub marked_text : (ℕ → ℕ → List ℕ) → Layout → Checkpoint → ℕ → List Candidate → List ℕ
marked_text mark l from spectra list =
    let n = parts_before l.every from.place spectra in
    marked_parts mark l from list n
    ++ last_lines end_mark l (after_parts l from list n) spectra list

-- The text of data that stopped early, each part with its mark: the last mark is that of the spectra that came, where
-- they came past the last place.
abbrev pub marked_stop : (ℕ → ℕ → List ℕ) → Layout → Checkpoint → ℕ → List Candidate → List ℕ
marked_stop mark l from spectra list =
    let n = parts_before l.every from.place spectra in
    let at = after_parts l from list n in
    marked_parts mark l from list n
    ++ (if nat_lt at.place spectra then last_lines mark l at spectra list else [])

abbrev pub stopped_text : Layout → Checkpoint → ℕ → List Candidate → List ℕ
stopped_text l from spectra list = marked_stop check_line l from spectra list

-- The text so far, once so many spectra came: that of the parts that end before them; and where a part ends with them,
-- its lines, before it is known whether more spectra follow.
abbrev pub text_so_far : Layout → Checkpoint → ℕ → List Candidate → List ℕ
text_so_far l from spectra list =
    let n = parts_before l.every from.place spectra in
    let at = after_parts l from list n in
    marked_parts check_line l from list n
    ++ (if nat_eq (next_end l.every at.place) spectra then lines_at l at list else [])

-- ---- of an observation

abbrev pub layout_of : Observation → Search → ℕ → Layout
layout_of o s every =
    record { labels = labels_of o; every = every; limit = s.max_candidates }

-- the text of these data bytes, in parts of so many spectra, from a checkpoint on
abbrev pub live_text : Observation → Search → ℕ → Checkpoint → List ℕ → List ℕ
live_text o s every from bytes =
    marked_text check_line (layout_of o s every) from (filterbank_of o bytes).spectra
    (candidates_of o s bytes)
