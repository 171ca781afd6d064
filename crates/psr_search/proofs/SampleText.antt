-- The sample, computed.
use Rattle.std.proofs.Common.{◌≡◌, ℕ, List, [], ◌∷◌, Some, refl, ap, subst, ◌∙◌, arith}
use Rattle.std.specs.Prelude.{codes}
use Rattle.std.specs.Fmt.{digits}
use Rattle.psr_base.specs.Told.{Told}
use Rattle.psr_base.specs.Written.{WroteAll}
use Rattle.dada_model.specs.Number.{number_value}
use Rattle.dada_model.specs.Fields.{is_white, without_comment, words_of, fields_of, value_of, header_size, header_of}
use Rattle.dada_model.specs.Observation.{Observation, number_of, observation_in, signed_edge, edge, edges, dispersion_span, dm}
use Rattle.dada_model.specs.Worked.{two_channels}
use Rattle.search_model.specs.Paths.{entry, path}
use Rattle.clap.proofs.OnLiterals.{clap_on_literals}
use Rattle.search_words.specs.Settings.{SettingsSeen, SaySearch}
use Rattle.search_words.specs.Defaults.{default_settings, sample_search}
use Rattle.stream_model.specs.Walk.{FileStream, data_of, data_between, observation_at}
use Rattle.transfer_text.specs.Searched.{ObservedTransfer, searched_text}
use Rattle.disk_feeder.specs.Plan.{AreTold}
use Rattle.run_outcome.specs.Runs.{stream_for, observed_transfers}
use Rattle.psr_search.specs.Sample.{sample_words, sample_data, sample_file, sample_text, SampleIsFound}

observation : Observation
observation = two_channels

settings : SettingsSeen
settings = default_settings sample_search (codes "pulse.dada" ∷ [])

-- the file as a transfer that is searched
transfer : ObservedTransfer
transfer = record { observation = observation; bytes = sample_data }

text_is : searched_text sample_search (transfer ∷ []) ≡ sample_text
unfolding transfer observation sample_search edges edge signed_edge path entry dm dispersion_span digits
text_is = refl

says : SaySearch sample_words settings
unfolding settings sample_search number_value clap_on_literals
says = record { taken = refl; in_range = refl; values = refl }

-- the bytes of the one file are told
are_told : (told : Told) → told.bytes_under (codes "pulse.dada") ≡ Some sample_file →
    AreTold told settings.names (sample_file ∷ [])
unfolding settings
are_told told known = record { count = refl; each = λ k below. let first : k ≡ 0 = omega arith in rw first known }

sample_stream : FileStream
sample_stream = record { files = sample_file ∷ []; starts = 0 ∷ []; max_bytes = 1099511627776 }

transfers_are : observed_transfers sample_stream ≡ transfer ∷ []
unfolding sample_stream transfer observation observation_at data_between data_of header_of
    header_size fields_of value_of words_of without_comment is_white number_value number_of observation_in
transfers_are = refl

searched_is : searched_text settings.search (observed_transfers (stream_for settings (sample_file ∷ []))) ≡ sample_text
unfolding settings sample_stream
searched_is = ap (searched_text sample_search) transfers_are ∙ text_is

pub found : (is_calm : Type 0) → SampleIsFound is_calm
found is_calm inputs files_before files_after out_before out_after notes_before notes_after ran known outcome zeroth =
    let are = are_told inputs.told known in
    let wrote = (outcome.written.text zeroth settings (sample_file ∷ []) says are).1 in
    (subst (λ (text : List ℕ). WroteAll text out_before out_after) searched_is wrote).written
