-- The sample, computed.
use Rattle.std.proofs.Common.{◌≡◌, ℕ, List, [], ◌∷◌, Some, true, refl, ap, subst, sym, ◌∙◌, arith, drop, lit<}
use Rattle.std.specs.Prelude.{codes}
use Rattle.std.specs.Fmt.{digits}
use Rattle.psr_base.specs.Told.{Told}
use Rattle.psr_base.specs.Written.{WroteAll}
use Rattle.dada_model.specs.Number.{number_value}
use Rattle.dada_model.specs.Fields.{is_white, without_comment, words_of, fields_of, value_of, header_size, header_of}
use Rattle.dada_model.specs.Observation.{Observation, number_of, observation_in, signed_edge, edge, edges, dispersion_span, dm}
use Rattle.dada_model.specs.Worked.{two_channels}
use Rattle.search_model.specs.Paths.{entry, path}
use Rattle.search_model.specs.Parts.{check_line}
use Rattle.clap.proofs.OnLiterals.{clap_on_literals}
use Rattle.search_words.specs.Settings.{SettingsSeen, SaySearch}
use Rattle.search_words.specs.Defaults.{default_settings, sample_search}
use Rattle.stream_model.specs.Walk.{FileStream, data_of, data_between, observation_at, transfer_data}
use Rattle.disk_feeder.specs.Plan.{AreTold}
use Rattle.warm_restart.specs.declared.checkpoint.Checkpoint.{Checkpoint}
use Rattle.warm_restart.specs.Counts.{until_of}
use Rattle.warm_restart.specs.Laws.{TextsSayOne, LinesAreReadBack}
use Rattle.warm_restart.specs.Warm.{text_of_part}
use Rattle.run_outcome.specs.Lone.{SayAlone}
use Rattle.run_outcome.specs.Runs.{stream_for, first_observation}
use Rattle.psr_part.specs.Part.{until_in, has_form, text_in_part, part_search}
use Rattle.psr_part.specs.Sample.{sample_words, sample_data, sample_file, sample_text, SampleIsFound}
use Rattle.psr_part.proofs.Causes.{one_said}

observation : Observation
observation = two_channels

settings : SettingsSeen
settings = default_settings sample_search (codes "pulse.dada" ∷ [])

first_spectrum : Checkpoint
first_spectrum = record { place = 0; pulses = 0 }

text_is : text_of_part observation sample_search first_spectrum 2 sample_data ≡ sample_text
unfolding observation sample_search first_spectrum edges edge signed_edge path entry dm dispersion_span digits
text_is = refl

says : SaySearch (drop 2 sample_words) settings
unfolding settings sample_search number_value clap_on_literals
says = record { taken = refl; in_range = refl; values = refl }

until_two : until_in sample_words ≡ 2
unfolding until_of
until_two = refl

form : has_form sample_words ≡ true
unfolding until_of
form = refl

says_part : (from : Checkpoint) → SayAlone (part_search sample_words from) sample_words settings
unfolding settings sample_search
says_part from = record {
  form = form;
  search = record { says = says; one = record { transfer = refl; unrecorded = refl } };
  made = refl;
}

-- the bytes of the one file are told
are_told : (told : Told) → told.bytes_under (codes "pulse.dada") ≡ Some sample_file →
    AreTold told settings.names (sample_file ∷ [])
unfolding settings
are_told told known = record { count = refl; each = λ k below. let first : k ≡ 0 = omega arith in rw first known }

sample_stream : FileStream
sample_stream = record { files = sample_file ∷ []; starts = 0 ∷ []; max_bytes = 1099511627776 }

observation_is : first_observation sample_stream 0 ≡ observation
unfolding sample_stream observation observation_at header_of header_size fields_of value_of words_of without_comment
    is_white number_value number_of observation_in
observation_is = refl

data_is : transfer_data sample_stream 0 ≡ sample_data
unfolding sample_stream data_between data_of header_of header_size fields_of value_of words_of without_comment is_white
    number_value
data_is = refl

in_stream : text_of_part (first_observation sample_stream 0) sample_search first_spectrum 2
    (transfer_data sample_stream 0) ≡ sample_text
in_stream =
    ap (λ (o : Observation). text_of_part o sample_search first_spectrum 2 (transfer_data sample_stream 0))
    observation_is
    ∙ (ap (text_of_part observation sample_search first_spectrum 2) data_is ∙ text_is)

text_found : text_in_part sample_words first_spectrum settings (stream_for settings (sample_file ∷ [])) ≡ sample_text
unfolding settings sample_stream
text_found =
    ap (λ (until : ℕ). text_of_part (first_observation sample_stream 0) sample_search first_spectrum until
    (transfer_data sample_stream 0)) until_two
    ∙ in_stream

pub found : TextsSayOne → LinesAreReadBack → (is_calm : Type 0) → SampleIsFound is_calm
unfolding first_spectrum
found law back is_calm seen known outcome zeroth =
    let are = are_told seen.inputs.told known in
    let first : outcome.from ≡ first_spectrum =
    one_said law (check_line 0 0) outcome.from first_spectrum
    ((outcome.accepted (0, lit< tt, sym zeroth)).text (check_line 0 0) refl)
    (back.line first_spectrum (record { place = omega arith; pulses = omega arith })) in
    let wrote = (outcome.written.text zeroth settings (sample_file ∷ []) (says_part outcome.from) are).1 in
    let whole = subst (λ c. WroteAll (text_in_part sample_words c settings (stream_for settings (sample_file ∷ [])))
    seen.out_before seen.out_after) first wrote in
    (subst (λ (text : List ℕ). WroteAll text seen.out_before seen.out_after) text_found whole).written
