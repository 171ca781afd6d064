-- The made file as it is read: its header, its observation and its data.
use Rattle.std.proofs.Common.{◌≡◌, ℕ, ◌++◌, length, take, drop, Ok, refl, sym, ap, subst, ◌∙◌}
use Rattle.std.specs.Fmt.{digits}
use Rattle.std.proofs.Math.Seq.{take-append_seam, drop-append_seam, take-length}
use Rattle.dada_model.specs.Number.{number_value}
use Rattle.dada_model.specs.Fields.{HeaderText, is_white, without_comment, words_of, fields_of, value_of, header_size, header_of, header_bytes}
use Rattle.dada_model.specs.ChangeLaws.{HeadersByFront}
use Rattle.dada_model.specs.Observation.{number_of, observation_in, signed_edge, edge, refusal_at, refusals, observation_of}
use Rattle.stream_model.specs.Walk.{data_of, data_past, observation_at, fields_past}
use Rattle.stream_model.specs.WalkLaws.{IsAccepted}
use Rattle.psr_make.specs.Made.{made_text, made_observation, made_header, made_data, made_file}
use Rattle.psr_demo.specs.Demo.{demo_spec}

abbrev header : ℕ → HeaderText
header number = record { size = 4096; text = made_text (demo_spec number) }

-- the header's bytes alone
header_read : (number : ℕ) → header_of (made_header (demo_spec number)) ≡ Ok (header number)
unfolding made_text header_bytes digits header_of header_size fields_of value_of words_of without_comment is_white
    number_value
header_read number = refl

header_length : (number : ℕ) → length (made_header (demo_spec number)) ≡ 4096
unfolding made_text header_bytes digits
header_length number = refl

observation_is : (number : ℕ) →
    observation_of (fields_of (made_text (demo_spec number))) ≡ Ok (made_observation (demo_spec number))
unfolding made_text digits fields_of value_of words_of without_comment is_white number_value number_of observation_in
    signed_edge edge refusal_at refusals observation_of
observation_is number = refl

observation_read : (number : ℕ) →
    observation_in (fields_of (made_text (demo_spec number))) ≡ made_observation (demo_spec number)
unfolding made_text digits fields_of value_of words_of without_comment is_white number_value number_of observation_in
observation_read number = refl

-- the parts of the file
parts_are : (number : ℕ) → (take 4096 (made_file (demo_spec number)) ≡ made_header (demo_spec number))
    × (drop 4096 (made_file (demo_spec number)) ≡ made_data (demo_spec number))
unfolding made_file
parts_are number =
    let header = made_header (demo_spec number) in
    let bytes = made_data (demo_spec number) in
    subst (λ n. (take n (header ++ bytes) ≡ header) × (drop n (header ++ bytes) ≡ bytes)) (header_length number)
    (take-append_seam header bytes, drop-append_seam header bytes)

all_of_header : (number : ℕ) → take 4096 (made_header (demo_spec number)) ≡ made_header (demo_spec number)
all_of_header number =
    let s = demo_spec number in
    subst (λ n. take n (made_header s) ≡ made_header s) (header_length number) (take-length (made_header s))

module _ (by_front : HeadersByFront) (number : ℕ) where
  pub header_is : header_of (made_file (demo_spec number)) ≡ Ok (header number)
  header_is =
      let s = demo_spec number in
      by_front (made_header s) (made_file s) (header number) (header_read number)
      ((parts_are number).0 ∙ sym (all_of_header number))

  pub is_accepted : IsAccepted (made_file (demo_spec number))
  is_accepted = record {
    header = header number;
    observation = made_observation (demo_spec number);
    is_header = header_is;
    is_observation = observation_is number;
  }

  pub observed : observation_at (made_file (demo_spec number)) ≡ made_observation (demo_spec number)
  unfolding observation_at
  observed = ap (λ h. observation_in (fields_past h)) header_is ∙ observation_read number

  pub holds : data_of (made_file (demo_spec number)) ≡ made_data (demo_spec number)
  unfolding data_of
  holds = ap (data_past (made_file (demo_spec number))) header_is ∙ (parts_are number).1
