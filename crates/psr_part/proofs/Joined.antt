-- Searches of parts, one after another, write the text of the whole search.
use Rattle.std.proofs.Common.{◌≡◌, ◌<◌, ◌≤◌, ◌+◌, ◌++◌, [], ◌∷◌, ℕ, List, Some, refl, sym, ap, ◌∙◌, subst, length, lit<, arith}
use Rattle.std.proofs.Math.Bool.{and-false}
use Rattle.std.proofs.lemmas.Bool.{ltb-true, le-ltb}
use Rattle.std.proofs.lemmas.Grind.{flat_map-append}
use Rattle.std.proofs.lemmas.List.{length-append}
use Rattle.std.specs.Prelude.{false, nat_le, nat_lt}
use Rattle.psr_base.specs.Written.{WroteAll}
use Rattle.dada_model.specs.Observation.{Observation, edges}
use Rattle.search_model.specs.declared.candidate.Candidate.{Candidate}
use Rattle.search_model.specs.declared.candidate.Candidate.TheVariants.{Pulse, Fold}
use Rattle.search_model.specs.CandidateLaws.{CandidatesRise}
use Rattle.search_model.specs.CandidateText.{candidate_line, candidate_lines}
use Rattle.search_model.specs.Candidates.{plain_cells}
use Rattle.search_model.specs.Observed.{candidates_of, filterbank_of, labels_of}
use Rattle.search_model.specs.Parts.{PartsJoin, check_line, within_part}
use Rattle.search_words.specs.Settings.{SettingsSeen}
use Rattle.stream_model.specs.Walk.{FileStream, transfer_data}
use Rattle.warm_restart.specs.declared.checkpoint.Checkpoint.{Checkpoint}
use Rattle.warm_restart.specs.Checkpoint.{CanBeSaid}
use Rattle.warm_restart.specs.Laws.{TextsSayOne, LinesAreReadBack}
use Rattle.warm_restart.specs.Joins.{PartTextsJoin, lines_of_part, checkpoint_at}
use Rattle.warm_restart.specs.Warm.{text_of_part}
use Rattle.run_outcome.specs.Runs.{stream_for, first_observation}
use Rattle.psr_part.specs.Part.{until_in, check_text_of, spectra_in, text_in_part, GoesOnFrom}
use Rattle.psr_part.specs.Outcome.{HasText}
use Rattle.psr_part.specs.Causes.{PartSeen}
use Rattle.psr_part.specs.Joins.{HasEnded, AreLinesUpTo, WritesNext, WritesRest, PartsAreJoined, first_spectrum}
use Rattle.psr_part.proofs.Causes.{one_said}

-- no pulse ends before the first spectrum
none_before : (list : List Candidate) → within_part 0 0 list ≡ []
none_before [] = refl
none_before (Pulse end delay width sum ∷ list) =
    let late : nat_lt end 0 ≡ false = le-ltb end 0 (omega arith) in
    rw late (rw (and-false (nat_le 0 end)) (none_before list))
none_before (Fold delay period halvings trial phase sum ∷ list) = none_before list

module _ (law : TextsSayOne) (back : LinesAreReadBack) (join : PartTextsJoin) (parts : PartsJoin) (rise : CandidatesRise)
    (is_calm : Type 0)
    (words : List (List ℕ)) (seen : PartSeen) (s : SettingsSeen) (files : List (List ℕ)) (lines : List ℕ)
    (at : Checkpoint)
    (ended : HasEnded is_calm words seen s files) (so_far : AreLinesUpTo s (stream_for s files) lines at)
    (said : CanBeSaid at)
    (check : check_text_of seen.inputs.told words ≡ Some (check_line at.place at.pulses)) where
  abbrev w : FileStream
  w = stream_for s files

  abbrev o : Observation
  o = first_observation w 0

  abbrev bytes : List ℕ
  bytes = transfer_data w 0

  abbrev cut : ℕ
  cut = until_in words

  accepted : GoesOnFrom seen.inputs.told words ended.outcome.from
  accepted = ended.outcome.accepted (0, lit< tt, sym ended.all)

  -- the search went on from the checkpoint
  went_on : ended.outcome.from ≡ at
  went_on =
      one_said law (check_line at.place at.pulses) ended.outcome.from at
      (accepted.text (check_line at.place at.pulses) check) (back.line at said)

  before : at.place < cut
  before = rw went_on at accepted.before

  searched : HasText words ended.outcome.from
      (λ text. WroteAll text seen.out_before seen.out_after) s w
  searched = ended.outcome.written.text ended.all s files (ended.says ended.outcome.from) ended.told

  wrote : WroteAll (text_of_part o s.search at cut bytes) seen.out_before seen.out_after
  wrote = subst (λ c. WroteAll (text_in_part words c s w) seen.out_before seen.out_after) went_on searched.1

  few : length (within_part at.place cut (candidates_of o s.search bytes)) ≤ s.search.max_candidates
  few = rw went_on at searched.0.finds.total

  -- nothing is folded
  unfolded : s.search.fold_max < s.search.fold_min
  unfolded = ltb-true s.search.fold_max s.search.fold_min (ended.says first_spectrum).made

  -- the text from the checkpoint on is what its lines lack of the text from the first spectrum on
  joined : (until : ℕ) → at.place ≤ until →
      lines ++ text_of_part o s.search at until bytes ≡ text_of_part o s.search first_spectrum until bytes
  joined until within =
      ap (λ (l : List ℕ). l ++ text_of_part o s.search at until bytes) so_far.lines_are
      ∙ ap (λ (c : Checkpoint). lines_of_part o s.search first_spectrum at.place bytes
      ++ text_of_part o s.search c until bytes) so_far.at_is
      ∙ join.goes_on o s.search first_spectrum at.place until bytes (omega arith) within

  abbrev all : List Candidate
  all = candidates_of o s.search bytes

  -- the pulses up to the checkpoint and those of the part are those up to its end
  pulses_join : within_part 0 at.place all ++ within_part at.place cut all ≡ within_part 0 cut all
  pulses_join =
      parts.parts all 0 at.place cut (rise (filterbank_of o bytes) (edges o) (plain_cells o.channels) s.search)
      (omega arith) (omega (arith, before))

  next_lines : AreLinesUpTo s w (lines ++ lines_of_part o s.search at cut bytes)
      (record { place = cut; pulses = at.pulses + length (within_part at.place cut all) })
  next_lines = record {
    lines_are =
        ap (λ (l : List ℕ). l ++ lines_of_part o s.search at cut bytes) so_far.lines_are
        ∙ sym (flat_map-append (candidate_line (labels_of o)) (within_part 0 at.place all)
        (within_part at.place cut all))
        ∙ ap (candidate_lines (labels_of o)) pulses_join;
    at_is =
        let so_many : at.pulses ≡ 0 + length (within_part 0 at.place all) =
        ap (λ (c : Checkpoint). c.pulses) so_far.at_is in
        let both : length (within_part 0 at.place all) + length (within_part at.place cut all)
        ≡ length (within_part 0 cut all) =
        sym (length-append (within_part 0 at.place all) (within_part at.place cut all)) ∙ ap length pulses_join in
        let count : at.pulses + length (within_part at.place cut all) ≡ 0 + length (within_part 0 cut all) =
        omega (arith, so_many, both) in
        ap (λ (n : ℕ). record { place = cut; pulses = n }) count;
  }

  next : cut < spectra_in w → WritesNext s w lines at cut seen
  next short = record {
    more = lines_of_part o s.search at cut bytes;
    pulses = (checkpoint_at o s.search at cut bytes).pulses;
    wrote = subst (λ text. WroteAll text seen.out_before seen.out_after)
        (join.stops o s.search at cut bytes short) wrote;
    few = omega (arith, few);
    next = next_lines;
  }

  rest : spectra_in w ≤ cut → WritesRest s w lines seen
  rest long = record {
    rest = text_of_part o s.search at cut bytes;
    wrote = wrote;
    whole = joined cut (omega (arith, before)) ∙ join.whole o s.search cut bytes unfolded long;
  }

pub parts_are_joined : TextsSayOne → LinesAreReadBack → PartTextsJoin → PartsJoin → CandidatesRise →
    (is_calm : Type 0) → PartsAreJoined is_calm
parts_are_joined law back join parts rise is_calm = record {
  begins = λ s w.
      let none = none_before (candidates_of (first_observation w 0) s.search (transfer_data w 0)) in
      record {
        lines_are = sym (ap (candidate_lines (labels_of (first_observation w 0))) none);
        at_is = sym (ap (λ (list : List Candidate). record { place = 0; pulses = 0 + length list }) none);
      };
  goes_on = λ words seen s files lines at ended so_far said check. (
    next law back join parts rise is_calm words seen s files lines at ended so_far said check,
    rest law back join parts rise is_calm words seen s files lines at ended so_far said check,
  );
}
