-- The samples, computed.
use Rattle.std.proofs.Common.{◌≡◌, ℕ, List, [], ◌∷◌, Some, true, refl, ap, subst, sym, ◌∙◌, arith, zero, suc, ◌<◌, slice_index_or, drop}
use Rattle.std.specs.Prelude.{codes}
use Rattle.std.specs.Fmt.{digits}
use Rattle.psr_base.specs.Told.{Told}
use Rattle.psr_base.specs.Written.{WroteAll}
use Rattle.dada_model.specs.Number.{number_value}
use Rattle.dada_model.specs.Fields.{is_white, without_comment, words_of, fields_of, value_of, header_size, header_of}
use Rattle.dada_model.specs.Observation.{Observation, number_of, observation_in, signed_edge, edge, edges, dispersion_span, dm}
use Rattle.dada_model.specs.Worked.{two_channels}
use Rattle.search_model.specs.Paths.{entry, path}
use Rattle.search_model.specs.Parts.{check_line}
use Rattle.search_model.specs.declared.search.Search.{Search}
use Rattle.clap.proofs.OnLiterals.{clap_on_literals}
use Rattle.search_words.specs.Settings.{SettingsSeen, SaySearch}
use Rattle.search_words.specs.Defaults.{default_settings, sample_search}
use Rattle.stream_model.specs.BlockLaws.{BytesAreJoined}
use Rattle.stream_model.specs.Walk.{FileStream, data_of, data_between, observation_at, transfer_data}
use Rattle.disk_feeder.specs.Plan.{AreTold}
use Rattle.warm_restart.specs.Counts.{until_of}
use Rattle.warm_restart.specs.Laws.{TextsSayOne, LinesAreReadBack}
use Rattle.run_outcome.specs.Ends.{WordsSayOnce}
use Rattle.run_outcome.specs.Runs.{stream_for, first_observation}
use Rattle.live_search.specs.Laws.{first_spectrum}
use Rattle.live_search.specs.LiveText.{after_parts, live_text, marked_parts}
use Rattle.psr_part.specs.Part.{check_text_of}
use Rattle.psr_live.specs.Outcome.{SayLive, text_in}
use Rattle.psr_live.specs.Sample.{SamplesAreFound, Writes, sample_words, crowded_words, sample_data, sample_file, sample_text, crowded_text}
use Rattle.psr_live.specs.Words.{every_in, has_form}
use Rattle.psr_live.proofs.Causes.{one_said}
use Rattle.psr_live.proofs.Ends.{text_written}

observation : Observation
observation = two_channels

-- the same search, where no pulse of a part is printed
crowded_search : Search
crowded_search = record sample_search { max_candidates = 0 }

settings : Search → SettingsSeen
settings search = default_settings search (codes "pulse.dada" ∷ [])

-- ---- the texts of the data

text_is : live_text observation sample_search 512 first_spectrum sample_data ≡ sample_text
unfolding observation sample_search after_parts marked_parts edges edge signed_edge path entry dm dispersion_span digits
text_is = refl

crowded_is : live_text observation crowded_search 512 first_spectrum sample_data ≡ crowded_text
unfolding observation crowded_search sample_search after_parts marked_parts edges edge signed_edge path entry dm
    dispersion_span digits
crowded_is = refl

-- ---- the words

says : SaySearch (drop 2 sample_words) (settings sample_search)
unfolding settings sample_search number_value clap_on_literals
says = record { taken = refl; in_range = refl; values = refl }

crowded_says : SaySearch (drop 2 crowded_words) (settings crowded_search)
unfolding settings crowded_search sample_search number_value clap_on_literals
crowded_says = record { taken = refl; in_range = refl; values = refl }

every_is : every_in sample_words ≡ 512
unfolding until_of
every_is = refl

crowded_every : every_in crowded_words ≡ 512
unfolding until_of
crowded_every = refl

form : has_form sample_words ≡ true
unfolding until_of
form = refl

crowded_form : has_form crowded_words ≡ true
unfolding until_of
crowded_form = refl

says_live : SayLive sample_words (settings sample_search)
unfolding settings sample_search
says_live = record {
  form = form;
  search = record { says = says; one = record { transfer = refl; unrecorded = refl } };
  made = refl;
}

crowded_says_live : SayLive crowded_words (settings crowded_search)
unfolding settings crowded_search sample_search
crowded_says_live = record {
  form = crowded_form;
  search = record { says = crowded_says; one = record { transfer = refl; unrecorded = refl } };
  made = refl;
}

-- ---- the file

-- the bytes of the one file are told
there : (told : Told) → told.bytes_under (codes "pulse.dada") ≡ Some sample_file → (k : ℕ) → k < 1 →
    told.bytes_under (slice_index_or (codes "pulse.dada" ∷ []) k []) ≡ Some (slice_index_or (sample_file ∷ []) k [])
there told known zero below = known
there told known (suc k) below = absurd (omega (arith, below))

are_told : (search : Search) (told : Told) → told.bytes_under (codes "pulse.dada") ≡ Some sample_file →
    AreTold told (settings search).names (sample_file ∷ [])
unfolding settings
are_told search told known = record { count = refl; each = there told known }

sample_stream : FileStream
sample_stream = record { files = sample_file ∷ []; starts = 0 ∷ []; max_bytes = 1099511627776 }

observation_is : first_observation sample_stream 0 ≡ observation
unfolding sample_stream observation observation_at header_of header_size fields_of value_of words_of without_comment
    is_white number_value number_of observation_in
observation_is = refl

data_is : transfer_data sample_stream 0 ≡ sample_data
unfolding sample_stream data_between data_of header_of header_size fields_of value_of words_of without_comment is_white
    number_value
data_is = refl

in_stream : (search : Search) (every : ℕ) (text : List ℕ) → every ≡ 512 →
    live_text observation search 512 first_spectrum sample_data ≡ text →
    live_text (first_observation sample_stream 0) search every first_spectrum (transfer_data sample_stream 0) ≡ text
in_stream search every text steps is =
    ap (λ (o : Observation). live_text o search every first_spectrum (transfer_data sample_stream 0)) observation_is
    ∙ (ap (live_text observation search every first_spectrum) data_is
    ∙ (ap (λ (n : ℕ). live_text observation search n first_spectrum sample_data) steps ∙ is))

text_found : (words : List (List ℕ)) (search : Search) (text : List ℕ) → every_in words ≡ 512 →
    live_text observation search 512 first_spectrum sample_data ≡ text →
    text_in words (settings search) first_spectrum (stream_for (settings search) (sample_file ∷ [])) ≡ text
unfolding settings sample_stream
text_found words search text steps is = in_stream search (every_in words) text steps is

-- ---- an outcome

writes : BytesAreJoined → WordsSayOnce → TextsSayOne → LinesAreReadBack → (is_calm : Type 0) (words : List (List ℕ))
    (search : Search) (text : List ℕ) → SayLive words (settings search) → every_in words ≡ 512 →
    ((told : Told) → check_text_of told words ≡ Some (check_line 0 0)) →
    live_text observation search 512 first_spectrum sample_data ≡ text → Writes is_calm words text
writes joined once law back is_calm words search text said steps new is seen known outcome zeroth =
    let s = settings search in
    let are = are_told search seen.inputs.told known in
    let written = text_written joined once words seen.inputs is_calm seen.out_before seen.out_after outcome.stop
    outcome.ends (sym outcome.answered ∙ zeroth) in
    let first = one_said law (check_line 0 0) written.from first_spectrum
    (written.goes_on.text (check_line 0 0) (new seen.inputs.told))
    (back.line first_spectrum (record { place = omega arith; pulses = omega arith })) in
    let wrote = (written.text s (sample_file ∷ []) said are).4 in
    let whole = subst (λ c. WroteAll (text_in words s c (stream_for s (sample_file ∷ []))) seen.out_before
    seen.out_after) first wrote in
    (subst (λ (xs : List ℕ). WroteAll xs seen.out_before seen.out_after) (text_found words search text steps is)
    whole).written

pub found : BytesAreJoined → WordsSayOnce → TextsSayOne → LinesAreReadBack → (is_calm : Type 0) →
    SamplesAreFound is_calm
found joined once law back is_calm = record {
  printed = writes joined once law back is_calm sample_words sample_search sample_text says_live every_is
      (λ told. refl) text_is;
  crowded = writes joined once law back is_calm crowded_words crowded_search crowded_text crowded_says_live
      crowded_every (λ told. refl) crowded_is;
}
