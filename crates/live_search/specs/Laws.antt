-- Laws of the text of a search that is written part by part; functions of this crate carry them.
-- Source: this project's choice.
use Rattle.std.specs.Prelude.{◌≡◌, ℕ, suc, ◌+◌, ◌≤◌, ◌<◌, List, [], ◌++◌, length}
use Rattle.dada_model.specs.Observation.{Observation}
use Rattle.search_model.specs.declared.candidate.Candidate.{Candidate}
use Rattle.search_model.specs.declared.search.Search.{Search}
use Rattle.search_model.specs.Observed.{candidates_of, filterbank_of, search_text}
use Rattle.search_model.specs.Parts.{check_line, within_part}
use Rattle.warm_restart.specs.Checkpoint.{IsCheckpointText}
use Rattle.warm_restart.specs.Counts.{greatest_count}
use Rattle.warm_restart.specs.Warm.{text_of_part}
use Rattle.warm_restart.specs.declared.checkpoint.Checkpoint.{Checkpoint}
use Rattle.live_search.specs.LiveText.{Layout, after_parts, greatest_number, layout_of, lines_at, live_text, marked_parts, marked_text, next_after, marked_stop, next_end, no_mark, part_at, parts_before, printed, pulse_lines, counted, stopped_text, text_so_far}
use Rattle.live_search.specs.Live.{Task, so_far}

-- ---- a text that grows

-- a text is the front of another
abbrev pub IsFront : List ℕ → List ℕ → Type 0
IsFront front text = (rest : List ℕ) × (text ≡ front ++ rest)

-- The text so far is a front of the text so far once more spectra came, and of the whole text, however the data end.
pub record LiveTextsGrow : Type 0 where
  pub so_far : (l : Layout) (from : Checkpoint) (few spectra : ℕ) (list : List Candidate) →
      1 ≤ l.every → few ≤ spectra →
      IsFront (text_so_far l from few list) (text_so_far l from spectra list)
  pub whole : (l : Layout) (from : Checkpoint) (few spectra : ℕ) (list : List Candidate) →
      1 ≤ l.every → few ≤ spectra →
      IsFront (text_so_far l from few list) (marked_text check_line l from spectra list)
  pub stopped : (l : Layout) (from : Checkpoint) (few spectra : ℕ) (list : List Candidate) →
      1 ≤ l.every → few ≤ spectra →
      IsFront (text_so_far l from few list) (stopped_text l from spectra list)
  pub none : (l : Layout) (from : Checkpoint) (spectra : ℕ) (list : List Candidate) →
      1 ≤ l.every → spectra ≤ from.place → text_so_far l from spectra list ≡ []

-- So it is of the data bytes of an observation, which lies in its range: nothing is written before the first of them
-- came, or as long as they don't pass the place of the checkpoint.
pub record LiveDataGrow (o : Observation) : Type 0 where
  pub whole : (t : Task) (bytes more : List ℕ) → 1 ≤ t.every →
      IsFront (so_far o t (bytes ++ more) bytes)
      (live_text o t.search t.every t.from (bytes ++ more))
  pub begins : (t : Task) (all : List ℕ) → 1 ≤ t.every → so_far o t all [] ≡ []
  pub before : (t : Task) (all bytes : List ℕ) → 1 ≤ t.every →
      (filterbank_of o bytes).spectra ≤ t.from.place → so_far o t all bytes ≡ []

-- ---- going on from a CHECK line

-- One of the parts that end before the last one ends with its CHECK line: this is the text of the checkpoint there,
-- where its count can be said. What the search writes that goes on from it is the rest of the text.
pub record LiveTextsGoOn : Type 0 where
  pub line : (l : Layout) (from : Checkpoint) (list : List Candidate) (n : ℕ) →
      let at = after_parts l from list (suc n) in
      marked_parts check_line l from list (suc n)
      ≡ (marked_parts check_line l from list n ++ lines_at l (after_parts l from list n) list)
      ++ check_line at.place at.pulses
  pub read : (l : Layout) (from : Checkpoint) (spectra : ℕ) (list : List Candidate) (n : ℕ) →
      1 ≤ l.every → from.place ≤ greatest_count → spectra ≤ greatest_count →
      n ≤ parts_before l.every from.place spectra →
      (after_parts l from list n).pulses ≤ greatest_count →
      let at = after_parts l from list n in
      IsCheckpointText (check_line at.place at.pulses) at
  pub rest : (l : Layout) (from : Checkpoint) (spectra : ℕ) (list : List Candidate) (n : ℕ) →
      1 ≤ l.every → n ≤ parts_before l.every from.place spectra →
      marked_text check_line l from spectra list
      ≡ marked_parts check_line l from list n
      ++ marked_text check_line l (after_parts l from list n) spectra list

-- ---- the text without its CHECK lines

-- No part has more pulses than are printed, and they can be counted.
pub record PrintsAll (l : Layout) (from : Checkpoint) (spectra : ℕ) (list : List Candidate) :
    Type 0 where
  pub parts : (k : ℕ) → k < parts_before l.every from.place spectra →
      length (part_at l (after_parts l from list k) list) ≤ l.limit
  pub last : let at = after_parts l from list (parts_before l.every from.place spectra) in
      length (within_part at.place spectra list) ≤ l.limit
  pub count : from.pulses + length (within_part from.place spectra list) ≤ greatest_number

-- the text of these data bytes without its CHECK lines
abbrev pub plain_text : Observation → Search → ℕ → Checkpoint → List ℕ → List ℕ
plain_text o s every from bytes =
    marked_text no_mark (layout_of o s every) from (filterbank_of o bytes).spectra
    (candidates_of o s bytes)

-- all pulses of these data bytes are printed
abbrev pub PrintsAllOf : Observation → Search → ℕ → Checkpoint → List ℕ → Type 0
PrintsAllOf o s every from bytes = PrintsAll (layout_of o s every) from
    (filterbank_of o bytes).spectra (candidates_of o s bytes)

-- where a search begins, before its first spectrum
abbrev pub first_spectrum : Checkpoint
first_spectrum = record { place = 0; pulses = 0 }

-- Where all pulses are printed: one part is what a search of that part alone writes, with its CHECK line. And without
-- CHECK lines the text from a checkpoint on is what a search of the part from there on writes that has all spectra; that
-- from the first spectrum on is the text of a search of the whole, where nothing is folded.
pub record LiveTextsArePlain : Type 0 where
  pub one : (o : Observation) (s : Search) (every : ℕ) (at : Checkpoint) (bytes : List ℕ) →
      let l = layout_of o s every in
      let list = candidates_of o s bytes in
      let next = next_after l at list in
      next_end every at.place < (filterbank_of o bytes).spectra →
      length (part_at l at list) ≤ s.max_candidates →
      at.pulses + length (part_at l at list) ≤ greatest_number →
      lines_at l at list ++ check_line next.place next.pulses
      ≡ text_of_part o s at (next_end every at.place) bytes
  pub rest : (o : Observation) (s : Search) (every : ℕ) (from : Checkpoint) (until : ℕ)
      (bytes : List ℕ) → 1 ≤ every → from.place ≤ (filterbank_of o bytes).spectra →
      (filterbank_of o bytes).spectra ≤ until → PrintsAllOf o s every from bytes →
      plain_text o s every from bytes ≡ text_of_part o s from until bytes
  pub whole : (o : Observation) (s : Search) (every : ℕ) (bytes : List ℕ) → 1 ≤ every →
      s.fold_max < s.fold_min → PrintsAllOf o s every first_spectrum bytes →
      plain_text o s every first_spectrum bytes ≡ search_text o s bytes

-- ---- going on where data stopped

-- the pulses of the last part of so many spectra, and the checkpoint at its end
abbrev pub last_part : Layout → Checkpoint → ℕ → List Candidate → List Candidate
last_part l from spectra list =
    within_part (after_parts l from list (parts_before l.every from.place spectra)).place spectra list

abbrev pub last_checkpoint : Layout → Checkpoint → ℕ → List Candidate → Checkpoint
last_checkpoint l from spectra list = record {
  place = spectra;
  pulses = counted (after_parts l from list (parts_before l.every from.place spectra)).pulses
      (printed l.limit (last_part l from spectra list));
}

-- that of these data bytes, and the text of a search that stopped after them, without its CHECK lines
abbrev pub stops_at : Observation → Search → ℕ → Checkpoint → List ℕ → Checkpoint
stops_at o s every from bytes = last_checkpoint (layout_of o s every) from
    (filterbank_of o bytes).spectra (candidates_of o s bytes)

abbrev pub plain_stop : Observation → Search → ℕ → Checkpoint → List ℕ → List ℕ
plain_stop o s every from bytes = marked_stop no_mark (layout_of o s every) from
    (filterbank_of o bytes).spectra (candidates_of o s bytes)

-- Where data stopped past the place of the checkpoint that a search went on from, its last line is the CHECK line of a
-- checkpoint, and the text of that where its count can be said; and where they stopped no later, nothing was written.
pub record LiveStopsAreSaid : Type 0 where
  pub line : (l : Layout) (from : Checkpoint) (spectra : ℕ) (list : List Candidate) → 1 ≤ l.every →
      from.place < spectra →
      let last = last_checkpoint l from spectra list in
      stopped_text l from spectra list
      ≡ (marked_parts check_line l from list (parts_before l.every from.place spectra)
      ++ pulse_lines l.labels l.limit spectra (last_part l from spectra list))
      ++ check_line last.place last.pulses
  pub read : (l : Layout) (from : Checkpoint) (spectra : ℕ) (list : List Candidate) →
      spectra ≤ greatest_count → (last_checkpoint l from spectra list).pulses ≤ greatest_count →
      let last = last_checkpoint l from spectra list in
      IsCheckpointText (check_line last.place last.pulses) last
  pub none : (l : Layout) (from : Checkpoint) (spectra : ℕ) (list : List Candidate) → 1 ≤ l.every →
      spectra ≤ from.place → stopped_text l from spectra list ≡ []

-- So a later search goes on from there, over all data of the observation, with the same settings: without CHECK lines
-- its text behind that of the search that stopped is the text of one search of all, where that prints all pulses. So it
-- is too where the later search stops.
pub record LiveStopsGoOn (o : Observation) : Type 0 where
  pub rest : (s : Search) (every : ℕ) (from : Checkpoint) (first more : List ℕ) → 1 ≤ every →
      from.place < (filterbank_of o first).spectra → PrintsAllOf o s every from (first ++ more) →
      plain_stop o s every from first
      ++ plain_text o s every (stops_at o s every from first) (first ++ more)
      ≡ plain_text o s every from (first ++ more)
  pub again : (s : Search) (every : ℕ) (from : Checkpoint) (first more : List ℕ) → 1 ≤ every →
      from.place < (filterbank_of o first).spectra → PrintsAllOf o s every from (first ++ more) →
      plain_stop o s every from first
      ++ plain_stop o s every (stops_at o s every from first) (first ++ more)
      ≡ plain_stop o s every from (first ++ more)
