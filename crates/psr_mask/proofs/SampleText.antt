-- The sample, computed.
use Rattle.std.proofs.Common.{◌≡◌, ℕ, List, [], ◌∷◌, Some, refl, ap, subst, ◌∙◌, arith}
use Rattle.std.specs.Prelude.{codes}
use Rattle.std.specs.Fmt.{digits}
use Rattle.psr_base.specs.Told.{Told}
use Rattle.psr_base.specs.Written.{WroteAll}
use Rattle.dada_model.specs.Number.{number_value}
use Rattle.dada_model.specs.Fields.{is_white, without_comment, words_of, fields_of, value_of, header_size, header_of}
use Rattle.dada_model.specs.Observation.{Observation, number_of, observation_in, signed_edge, edge, edges, dispersion_span, dm}
use Rattle.dada_model.specs.Worked.{two_channels}
use Rattle.search_model.specs.Masks.{masked_text}
use Rattle.search_model.specs.Paths.{entry, path}
use Rattle.search_engine.specs.Scope.{kept_by}
use Rattle.channel_mask.specs.Masks.{mask_of}
use Rattle.clap.proofs.OnLiterals.{clap_on_literals}
use Rattle.search_words.specs.Settings.{SettingsSeen}
use Rattle.search_words.specs.Defaults.{default_settings, sample_search}
use Rattle.stream_model.specs.Walk.{FileStream, data_of, data_between, observation_at, transfer_data}
use Rattle.disk_feeder.specs.Plan.{AreTold}
use Rattle.run_outcome.specs.Lone.{SayAlone}
use Rattle.run_outcome.specs.Runs.{first_observation, stream_for}
use Rattle.psr_mask.specs.Masking.{mask_search, text_without}
use Rattle.psr_mask.specs.Sample.{sample_words, sample_data, sample_file, sample_text, SampleIsFound}

observation : Observation
observation = two_channels

settings : SettingsSeen
settings = default_settings sample_search (codes "pulse.dada" ∷ [])

-- the text of a search of an observation and its data without its first channel
abbrev text_of : Observation → List ℕ → List ℕ
text_of o bytes = masked_text o sample_search (kept_by (mask_of o (codes "0"))) bytes

text_is : text_of observation sample_data ≡ sample_text
unfolding observation sample_search edges edge signed_edge path entry dm dispersion_span digits
text_is = refl

says : SayAlone (mask_search sample_words) sample_words settings
unfolding settings sample_search number_value clap_on_literals
says = record {
  form = refl;
  search = record {
    says = record { taken = refl; in_range = refl; values = refl };
    one = record { transfer = refl; unrecorded = refl };
  };
  made = refl;
}

-- the bytes of the one file are told
are_told : (told : Told) → told.bytes_under (codes "pulse.dada") ≡ Some sample_file →
    AreTold told settings.names (sample_file ∷ [])
unfolding settings
are_told told known = record { count = refl; each = λ k below. let first : k ≡ 0 = omega arith in rw first known }

sample_stream : FileStream
sample_stream = record { files = sample_file ∷ []; starts = 0 ∷ []; max_bytes = 1099511627776 }

first_is : first_observation sample_stream 0 ≡ observation
unfolding sample_stream observation observation_at header_of header_size fields_of value_of words_of without_comment
    is_white number_value number_of observation_in
first_is = refl

data_is : transfer_data sample_stream 0 ≡ sample_data
unfolding sample_stream data_between data_of header_of header_size fields_of value_of words_of without_comment is_white
    number_value
data_is = refl

searched_is : text_without sample_words settings (stream_for settings (sample_file ∷ [])) ≡ sample_text
unfolding settings sample_stream
searched_is =
    ap (λ (o : Observation). text_of o (transfer_data sample_stream 0)) first_is
    ∙ ap (text_of observation) data_is ∙ text_is

pub found : (is_calm : Type 0) → SampleIsFound is_calm
found is_calm inputs out_before out_after notes_before notes_after ran known outcome zeroth =
    let are = are_told inputs.told known in
    let wrote = (outcome.answered.written.text zeroth settings (sample_file ∷ []) says are).1 in
    (subst (λ (text : List ℕ). WroteAll text out_before out_after) searched_is wrote).written
