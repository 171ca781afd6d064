-- The sample, computed.
use Rattle.std.proofs.Common.{◌≡◌, ℕ, zero, suc, ◌<◌, List, [], ◌∷◌, ◌++◌, Option, Some, None, false, inl, inr, refl, sym, ap, ◌∙◌, subst, arith, slice_index_or}
use Rattle.std.specs.Prelude.{◌⊎◌, codes, get_or}
use Rattle.std.specs.Io.KnownBytes.{append_known}
use Rattle.clap.proofs.OnLiterals.{clap_on_literals}
use Rattle.psr_base.specs.Told.{Told}
use Rattle.psr_base.specs.Written.{WroteAll}
use Rattle.dada_model.specs.Number.{number_value}
use Rattle.dada_model.specs.Fields.{HeaderText, header_bytes, is_white, without_comment, words_of, fields_of, value_of, header_size, header_of}
use Rattle.dada_model.specs.Observation.{Observation, number_of, observation_in, observation_of, refusal_at, refusals, signed_edge, edge}
use Rattle.dada_model.specs.Worked.{two_channels}
use Rattle.obs_plan.specs.Later.{later_offset_of}
use Rattle.stream_model.specs.Walk as walk
use Rattle.stream_model.specs.Walk.{FileStream, data_of, data_between, transfer_of, observation_at, header_stop, length_stop, stop_at, transfer_data, walk_stop}
use Rattle.stream_model.specs.WalkLaws.{AreWalked, IsAccepted}
use Rattle.disk_feeder.specs.Plan.{AreTold}
use Rattle.run_outcome.specs.Runs.{first_observation, stream_for}
use Rattle.band_level.specs.Finished.{kept_before, kept_sum, finished}
use Rattle.band_level.specs.Levelled.{levelled, fine, fine_before, spectrum_levels, first_levels}
use Rattle.band_level.specs.Scales.{root}
use Rattle.level_words.specs.Command.{level_command}
use Rattle.level_words.specs.Settings.{LevelSeen, SayLevel}
use Rattle.level_plan.specs.declared.field.Field.TheVariants.{Tsamp}
use Rattle.level_plan.specs.Headers.{level_header, all_fields, new_number, HasNoRoom}
use Rattle.drive_stream.specs.Outcome.{OfHead, first_header}
use Rattle.psr_level.specs.Complete.{IsOutside}
use Rattle.psr_level.specs.Files.{level_file}
use Rattle.psr_level.specs.Levels.{CanLevel, file_of, header_in, task_in}
use Rattle.psr_level.specs.Sample.{sample_words, sample_header, sample_data, sample_levels, sample_with, SampleIsLevelled}

settings : LevelSeen
settings = record {
  options = record {
    spectra = 3;
    average = 1;
    clip = None;
    zero_dm = false;
    mean = Some 64300;
    deviation = None;
    most = None;
    is_fast = false;
    signed = false;
    high_byte_first = false;
  };
  mask = codes "1";
  run = record {
    search = tt;
    buffers = 2;
    size = 65536;
    hands = 1;
    turns = 1;
    recording = false;
    file_size = 1;
    max_bytes = 1099511627776;
    names = codes "drift.dada" ∷ [];
    starts = 0 ∷ [];
  };
}

says : SayLevel sample_words settings
unfolding settings clap_on_literals level_command number_value
says = record { taken = refl; in_range = refl; values = refl }

-- ---- the file

sample_stream : FileStream
sample_stream = record { files = sample_with sample_data ∷ []; starts = 0 ∷ []; max_bytes = 1099511627776 }

observation : Observation
observation = two_channels

header : HeaderText
header = record { size = 4096; text = sample_header }

-- the bytes of the one file are told
there : (told : Told) → told.bytes_under (codes "drift.dada") ≡ Some (sample_with sample_data) → (k : ℕ) → k < 1 →
    told.bytes_under (slice_index_or (codes "drift.dada" ∷ []) k [])
    ≡ Some (slice_index_or (sample_with sample_data ∷ []) k [])
there told known zero below = known
there told known (suc k) below = absurd (omega (arith, below))

are_told : (told : Told) → told.bytes_under (codes "drift.dada") ≡ Some (sample_with sample_data) →
    AreTold told settings.run.names (sample_with sample_data ∷ [])
unfolding settings
are_told told known = record { count = refl; each = there told known }

first_is : first_observation sample_stream 0 ≡ observation
unfolding sample_stream observation observation_at header_of header_size fields_of value_of words_of without_comment
    is_white number_value number_of observation_in
first_is = refl

header_is : first_header sample_stream ≡ header
unfolding sample_stream header header_of header_size fields_of value_of words_of without_comment is_white number_value
header_is = refl

data_is : transfer_data sample_stream 0 ≡ sample_data
unfolding sample_stream data_between data_of header_of header_size fields_of value_of words_of without_comment is_white
    number_value
data_is = refl

-- ---- the levelled file

head_is : header_in settings observation header ≡ sample_with []
unfolding settings observation header header_bytes level_header fields_of value_of words_of without_comment is_white
    number_value
head_is = refl

levels_are : levelled (task_in settings observation) sample_data ≡ sample_levels
unfolding settings observation root fine fine_before spectrum_levels first_levels finished kept_before kept_sum
levels_are = refl

all_is : sample_with [] ++ sample_levels ≡ sample_with sample_levels
all_is = refl

file_is : level_file settings (stream_for settings.run (sample_with sample_data ∷ [])) ≡ sample_with sample_levels
unfolding settings sample_stream
file_is =
    ap (λ (o : Observation). file_of settings o (first_header sample_stream) (transfer_data sample_stream 0)) first_is
    ∙ ap (λ (h : HeaderText). file_of settings observation h (transfer_data sample_stream 0)) header_is
    ∙ ap (file_of settings observation header) data_is
    ∙ ap (λ (xs : List ℕ). xs ++ levelled (task_in settings observation) sample_data) head_is
    ∙ ap (λ (xs : List ℕ). sample_with [] ++ xs) levels_are
    ∙ all_is

-- ---- it is taken

accepted : IsAccepted (sample_with sample_data)
unfolding header_of header_size fields_of words_of without_comment is_white value_of number_value number_of
    observation_in signed_edge edge refusal_at refusals observation_of
accepted = record {
  header = record { size = 4096; text = sample_header };
  observation = two_channels;
  is_header = refl;
  is_observation = refl;
}

first_accepted : (k : ℕ) → k < 1 →
    IsAccepted (slice_index_or (sample_with sample_data ∷ []) (slice_index_or (0 ∷ []) k 1) [])
first_accepted zero below = accepted
first_accepted (suc k) below = absurd (omega (arith, below))

first_within : (k : ℕ) → k < 1 → slice_index_or (0 ∷ []) k 1 < 1
first_within zero below = omega arith
first_within (suc k) below = absurd (omega (arith, below))

walked : AreWalked sample_stream
unfolding sample_stream
walked = record {
  starts = record {
    some = omega arith;
    first = refl;
    rise = λ i below. absurd (omega (arith, below));
    within = first_within;
  };
  accepted = first_accepted;
}

whole : walk_stop sample_stream ≡ walk.Whole
unfolding sample_stream walk_stop stop_at header_stop length_stop transfer_of data_between data_of observation_at
    header_of header_size fields_of words_of without_comment is_white value_of number_value number_of observation_in
    signed_edge edge refusal_at refusals observation_of later_offset_of
whole = refl

-- no field of the header gets another number
no_number : (k : ℕ) → k < 7 → new_number settings.options observation header (get_or all_fields k Tsamp) ≡ None
unfolding settings observation header fields_of words_of without_comment is_white value_of number_value
no_number (suc (suc (suc (suc (suc (suc (suc k))))))) below = absurd (omega (arith, below))
no_number k below = refl

never : (number : Option ℕ) (n : ℕ) → number ≡ None → number ≡ Some n → ⊥
never number n none some = absurd cc

has_room : (need size : ℕ) → HasNoRoom settings.options observation header need size → ⊥
has_room need size full = never _ full.number (no_number full.place full.there) full.gets

can : CanLevel settings observation header
unfolding settings observation
can = record {
  time = omega arith;
  mask = record { is_text = refl; within = refl; mask_is = refl; channels = refl; leaves = (0, omega arith, refl) };
  room = has_room;
}

can_first : OfHead (CanLevel settings) sample_stream
can_first =
    let P : Observation → Type 0 = λ o. CanLevel settings o (first_header sample_stream) in
    let Q : HeaderText → Type 0 = λ h. CanLevel settings observation h in
    subst P (sym first_is) (subst Q (sym header_is) can)

-- ---- the law

stream_is : stream_for settings.run (sample_with sample_data ∷ []) ≡ sample_stream
unfolding settings sample_stream
stream_is = refl

pub is_levelled : SampleIsLevelled
is_levelled told before after status known complete wrote =
    let w = stream_for settings.run (sample_with sample_data ∷ []) in
    let Walked : FileStream → Type 0 = λ x. AreWalked x in
    let Can : FileStream → Type 0 = λ x. OfHead (CanLevel settings) x in
    let Whole : FileStream → Type 0 = λ x. walk_stop x ≡ walk.Whole in
    let are = are_told told known in
    by ((complete settings says).accepted (sample_with sample_data ∷ []) are
    (subst Walked (sym stream_is) walked) (subst Can (sym stream_is) can_first) (subst Whole (sym stream_is) whole))
  where
    by : (status ≡ 0) ⊎ IsOutside status →
        IsOutside status ⊎ ((status ≡ 0)
        × (after.written ≡ append_known before.written (sample_with sample_levels)))
    by (inr out) = inl out
    by (inl none) =
        let all = wrote none settings says (sample_with sample_data ∷ []) (are_told told known) in
        inr (none, (subst (λ (text : List ℕ). WroteAll text before after) file_is all).written)
