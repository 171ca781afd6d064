-- The sample, computed.
use Rattle.std.proofs.Common.{◌≡◌, ◌⊎◌, ℕ, List, [], ◌∷◌, Some, Err, refl, ap, subst, ◌∙◌, inl, arith, zero, suc, ◌<◌, ◌≤◌, slice_index_or}
use Rattle.std.specs.Prelude.{codes, map}
use Rattle.std.specs.Fmt.{digits}
use Rattle.psr_base.specs.Told.{Told}
use Rattle.psr_base.specs.Count.{Rose}
use Rattle.psr_base.specs.Written.{WroteAll, Noted}
use Rattle.dada_model.specs.Number.{number_value}
use Rattle.dada_model.specs.Fields.{is_white, without_comment, words_of, fields_of, value_of, header_size, header_of, ShortHeader}
use Rattle.dada_model.specs.Observation.{number_of, observation_in, signed_edge, edge, edges, dispersion_span, dm}
use Rattle.dada_model.specs.Worked.{two_channels}
use Rattle.search_model.specs.Paths.{entry, path}
use Rattle.clap.proofs.OnLiterals.{clap_on_literals}
use Rattle.search_words.specs.Settings.{SettingsSeen}
use Rattle.search_words.specs.Defaults.{default_settings, sample_search}
use Rattle.stream_model.specs.Walk.{data_of, observation_at}
use Rattle.dada_header.specs.declared.faults.HeaderFault.TheVariants.{Short}
use Rattle.disk_feeder.specs.declared.answers.HeaderCause.TheVariants.{Text}
use Rattle.run_outcome.specs.declared.stop.Stop.TheVariants.{Header}
use Rattle.run_outcome.specs.Firsts.{HasHeader}
use Rattle.run_outcome.specs.Texts.{note_of}
use Rattle.beam_set.specs.Text.{beam_line}
use Rattle.beam_set.specs.Searched.{searched_beams_text}
use Rattle.psr_beams.specs.Words.{number_between, within_in, more_in, SayBeams}
use Rattle.psr_beams.specs.Seen.{told_in}
use Rattle.psr_beams.specs.Files.{AreBeamsTold, beam_name, beams_observation}
use Rattle.psr_beams.specs.Found.{beams_text_of}
use Rattle.psr_beams.specs.Sample.{sample_words, sample_header, pulse_file, empty_file, sample_text, SampleIsFound, short_file, short_line, SampleIsRefused}
use Rattle.psr_beams.proofs.Causes.{short_beams}

settings : SettingsSeen
settings = default_settings sample_search (codes "a" ∷ codes "b" ∷ codes "c" ∷ [])

abbrev pulse : List ℕ
pulse = 10 ∷ 0 ∷ 0 ∷ 20 ∷ 0 ∷ 0 ∷ []

abbrev nothing : List ℕ
nothing = 0 ∷ 0 ∷ 0 ∷ 0 ∷ 0 ∷ 0 ∷ []

text_is : searched_beams_text two_channels sample_search 0 1 (pulse ∷ pulse ∷ nothing ∷ []) ≡ sample_text
unfolding sample_search digits edges edge signed_edge dm dispersion_span path entry beam_line
text_is = refl

says : SayBeams sample_words settings
unfolding settings sample_search number_value number_between clap_on_literals
says = record {
  form = refl;
  search = record {
    says = record { taken = refl; in_range = refl; values = refl };
    one = record { transfer = refl; unrecorded = refl };
  };
  made = refl;
}

within_is : within_in sample_words ≡ 0
unfolding number_between
within_is = refl

more_is : more_in sample_words ≡ 1
unfolding number_between
more_is = refl

observation_is : beams_observation (pulse_file ∷ pulse_file ∷ empty_file ∷ []) ≡ two_channels
unfolding observation_at header_of header_size fields_of value_of words_of without_comment is_white number_value
    number_of
    observation_in
observation_is = refl

data_is : map data_of (pulse_file ∷ pulse_file ∷ empty_file ∷ []) ≡ pulse ∷ pulse ∷ nothing ∷ []
unfolding data_of header_of header_size fields_of value_of words_of without_comment is_white number_value
data_is = refl

abbrev files : List (List ℕ)
files = pulse_file ∷ pulse_file ∷ empty_file ∷ []

text_of_files : beams_text_of sample_words settings files ≡ sample_text
unfolding settings
text_of_files =
    ap (λ o. searched_beams_text o sample_search (within_in sample_words) (more_in sample_words) (map data_of files))
    observation_is
    ∙ ap (λ w. searched_beams_text two_channels sample_search w (more_in sample_words) (map data_of files)) within_is
    ∙ ap (λ m. searched_beams_text two_channels sample_search 0 m (map data_of files)) more_is
    ∙ ap (λ d. searched_beams_text two_channels sample_search 0 1 d) data_is
    ∙ text_is

there : (told : ℕ → Told) → (told 0).bytes_under (codes "a") ≡ Some pulse_file →
    (told 1).bytes_under (codes "b") ≡ Some pulse_file → (told 2).bytes_under (codes "c") ≡ Some empty_file → (k : ℕ) →
    k < 3 → (told k).bytes_under (slice_index_or (codes "a" ∷ codes "b" ∷ codes "c" ∷ []) k [])
    ≡ Some (slice_index_or files k [])
there told a b c zero below = a
there told a b c (suc zero) below = b
there told a b c (suc (suc zero)) below = c
there told a b c (suc (suc (suc k))) below = absurd (omega (arith, below))

are_told : (told : ℕ → Told) → (told 0).bytes_under (codes "a") ≡ Some pulse_file →
    (told 1).bytes_under (codes "b") ≡ Some pulse_file → (told 2).bytes_under (codes "c") ≡ Some empty_file →
    AreBeamsTold told settings.names files
unfolding settings
are_told told a b c = record { count = refl; each = there told a b c }

pub found : (is_calm : ℕ → Type 0) → SampleIsFound is_calm
found is_calm inputs out_before out_after notes_before notes_after status a b c outcome zeroth =
    let are = are_told (told_in inputs) a b c in
    let wrote = (outcome.written.text zeroth settings files says are).1 in
    (subst (λ (text : List ℕ). WroteAll text out_before out_after) text_of_files wrote).written

-- ---- a beam that has no header

has_header : HasHeader pulse_file
unfolding header_of header_size fields_of value_of words_of without_comment is_white number_value
has_header = (record { size = 4096; text = sample_header }, refl)

is_short : header_of short_file ≡ Err (ShortHeader 4095)
unfolding header_of
is_short = refl

line_is : note_of (Header 1 (Text (Short 4095))) ≡ short_line
unfolding digits
line_is = refl

file_of : ℕ → List ℕ
file_of zero = pulse_file
file_of (suc k) = short_file

pub refused : (is_calm : ℕ → Type 0) → SampleIsRefused is_calm
unfolding settings file_of
refused is_calm seen a b calm_a calm_b outcome =
    let answered = short_beams is_calm sample_words seen outcome settings says 1 (Short 4095) (record {
      there = omega arith;
      file_of = file_of;
      told = told;
      earlier = earlier;
      refused = is_short;
      serves = serves;
    }) in (
      answered.status,
      λ e. subst (λ (line : List ℕ). Noted line seen.notes_before seen.notes_after) line_is
          (answered.line e),
    )
  where
    told : (k : ℕ) → k ≤ 1 → (seen.inputs k).told.bytes_under (beam_name settings k) ≡ Some (file_of k)
    told zero most = a
    told (suc zero) most = b
    told (suc (suc k)) most = absurd (omega (arith, most))

    earlier : (k : ℕ) → k < 1 → HasHeader (file_of k)
    earlier zero less = has_header
    earlier (suc k) less = absurd (omega (arith, less))

    serves : (k : ℕ) → k ≤ 1 → is_calm k ⊎ ¬ Rose (seen.inputs k).faults_before (seen.inputs k).faults_after
    serves zero most = inl calm_a
    serves (suc zero) most = inl calm_b
    serves (suc (suc k)) most = absurd (omega (arith, most))
