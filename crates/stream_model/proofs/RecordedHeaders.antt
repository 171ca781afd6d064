-- The values of a recorded file's header, and its observation.
use Rattle.std.proofs.Common.{◌≡◌, ◌≢◌, ℕ, ◌^◌, ◌<◌, ◌≤◌, List, refl, sym, ap, ◌∙◌, arith, Option, Some, Ok}
use Rattle.std.specs.Prelude.{codes, ℤ, pos, ok_or}
use Rattle.std.proofs.lemmas.Bool.{and_from, le-leb}
use Rattle.dada_model.specs.declared.key.Key.{Key}
use Rattle.dada_model.specs.declared.key.Key.TheVariants.{Nchan, Nbit, Npol, Ndim, Tsamp, Freq, Bw, ObsOffset}
use Rattle.dada_model.specs.Fields.{Field, fields_of, value_of}
use Rattle.dada_model.specs.ChangeLaws.{IsReadBack, ChangeGivesValue, ChangeKeepsOthers, ChangedIsReadBack}
use Rattle.dada_model.specs.Laws.{AcceptedByRows, NumbersAreSpelled, HasNumberInRow}
use Rattle.dada_model.specs.Observation.{Observation, BadNumber, keyword, number_or_default, number_of, observation_in, observation_of, signed_edge, is_in_row}
use Rattle.psr_base.specs.Fixed.{padded}
use Rattle.stream_model.specs.Recorded.{Recording, file_offset, with_offset, with_number, with_size, file_header}
use Rattle.stream_model.specs.RecordedLaws.{HeaderHasRoom, HeadersKeepValues, HeadersKeepObservation}
use Rattle.stream_model.proofs.Alike.{bytes_apart, all_kept}
use Rattle.stream_model.proofs.Padded.{padded_number}
use Rattle.stream_model.proofs.Rooms.{offset_key, number_key, size_key, AreWords, words_of_file}

-- ---- values

-- those of the text with all three changes
record HasValues (r : Recording) (i : ℕ) (text : List ℕ) : Type 0 where
  offset : value_of (codes "OBS_OFFSET") (fields_of text) ≡ Some (padded 16 (file_offset r i))
  number : value_of (codes "FILE_NUMBER") (fields_of text) ≡ Some (padded 6 i)
  size : value_of (codes "FILE_SIZE") (fields_of text) ≡ Some (padded 16 r.file_size)
  others : (key : List ℕ) →
      key ≢ codes "OBS_OFFSET" → key ≢ codes "FILE_NUMBER" → key ≢ codes "FILE_SIZE" →
      value_of key (fields_of text) ≡ value_of key (fields_of r.header.text)

has_values : ChangeGivesValue → ChangeKeepsOthers → (r : Recording) (i : ℕ) → AreWords r i →
    HasValues r i (with_size r i)
has_values gives keeps r i w =
    let one = codes "OBS_OFFSET" in
    let two = codes "FILE_NUMBER" in
    let three = codes "FILE_SIZE" in
    let a = padded 16 (file_offset r i) in
    let b = padded 6 i in
    let c = padded 16 r.file_size in
    let number_kept = λ (key : List ℕ) (apart : key ≢ two). all_kept keeps two b
    (with_offset r i) key number_key w.number apart in
    let size_kept = λ (key : List ℕ) (apart : key ≢ three). all_kept keeps three c
    (with_number r i) key size_key w.size apart in
    record {
      offset = size_kept one (bytes_apart one three refl) ∙ number_kept one (bytes_apart one two refl)
          ∙ gives one a r.header.text offset_key w.offset;
      number = size_kept two (bytes_apart two three refl) ∙ gives two b (with_offset r i) number_key w.number;
      size = gives three c (with_number r i) size_key w.size;
      others = λ key first second third. size_kept key third ∙ number_kept key second
          ∙ all_kept keeps one a r.header.text key offset_key w.offset first;
    }

-- the header is read back after each change
read_after : ChangedIsReadBack → (r : Recording) (i : ℕ) → AreWords r i → HeaderHasRoom r i → IsReadBack r.header →
    IsReadBack (file_header r i)
unfolding file_header
read_after law r i w room is =
    let size = codes "HDR_SIZE" in
    let one = law (codes "OBS_OFFSET") (padded 16 (file_offset r i)) r.header offset_key w.offset
    (bytes_apart (codes "OBS_OFFSET") size refl) room.offset is in
    let two = law (codes "FILE_NUMBER") (padded 6 i)
    (record { size = r.header.size; text = with_offset r i }) number_key
    w.number (bytes_apart (codes "FILE_NUMBER") size refl) room.number one in
    law (codes "FILE_SIZE") (padded 16 r.file_size) (record { size = r.header.size; text = with_number r i }) size_key
    w.size (bytes_apart (codes "FILE_SIZE") size refl) room.size two

pub keeps_values : ChangeGivesValue → ChangeKeepsOthers → ChangedIsReadBack → HeadersKeepValues
unfolding file_header
keeps_values gives keeps law r i h room is =
    let w = words_of_file r i h in
    let v = has_values gives keeps r i w in
    record {
      is_read = read_after law r i w room is;
      offset = v.offset;
      number = v.number;
      size = v.size;
      others = v.others;
    }

-- ---- the observation

-- the numbers of fields, where those of other fields are the same but for OBS_OFFSET
record HasOffset (fields others : List Field) (offset : ℕ) : Type 0 where
  is : number_of fields ObsOffset ≡ Ok (pos offset)
  same : (key : Key) → key ≢ ObsOffset → number_of fields key ≡ number_of others key

observed : (fields others : List Field) (offset : ℕ) → HasOffset fields others offset →
    observation_in fields ≡ record (observation_in others) { obs_offset = offset }
unfolding observation_in
observed fields others offset h =
    rw (
      h.is,
      h.same Nchan (λ e. absurd cc),
      h.same Nbit (λ e. absurd cc),
      h.same Npol (λ e. absurd cc),
      h.same Tsamp (λ e. absurd cc),
      h.same Freq (λ e. absurd cc),
      h.same Bw (λ e. absurd cc),
    ) refl

-- the rows don't ask for the offset of an observation
same_row : (o : Observation) (offset : ℕ) (key : Key) (z : ℤ) →
    is_in_row (record o { obs_offset = offset }) key z ≡ is_in_row o key z
unfolding signed_edge
same_row o offset Nchan z = refl
same_row o offset Nbit z = refl
same_row o offset Npol z = refl
same_row o offset Ndim z = refl
same_row o offset Tsamp z = refl
same_row o offset Freq z = refl
same_row o offset Bw z = refl
same_row o offset ObsOffset z = refl

other_number : (r : Recording) (i : ℕ) (text : List ℕ) → HasValues r i text → (key : Key) →
    keyword key ≢ codes "OBS_OFFSET" → keyword key ≢ codes "FILE_NUMBER" → keyword key ≢ codes "FILE_SIZE" →
    number_of (fields_of text) key ≡ number_of (fields_of r.header.text) key
unfolding number_of
other_number r i text v key first second third =
    ap (number_or_default key) (v.others (keyword key) first second third)

numbers_kept : (r : Recording) (i : ℕ) (text : List ℕ) → HasValues r i text → (key : Key) → key ≢ ObsOffset →
    number_of (fields_of text) key ≡ number_of (fields_of r.header.text) key
numbers_kept r i text v Nchan apart =
    other_number r i text v Nchan (bytes_apart (codes "NCHAN") (codes "OBS_OFFSET") refl)
    (bytes_apart (codes "NCHAN") (codes "FILE_NUMBER") refl) (bytes_apart (codes "NCHAN") (codes "FILE_SIZE") refl)
numbers_kept r i text v Nbit apart = other_number r i text v Nbit (bytes_apart (codes "NBIT") (codes "OBS_OFFSET") refl)
    (bytes_apart (codes "NBIT") (codes "FILE_NUMBER") refl) (bytes_apart (codes "NBIT") (codes "FILE_SIZE") refl)
numbers_kept r i text v Npol apart = other_number r i text v Npol (bytes_apart (codes "NPOL") (codes "OBS_OFFSET") refl)
    (bytes_apart (codes "NPOL") (codes "FILE_NUMBER") refl) (bytes_apart (codes "NPOL") (codes "FILE_SIZE") refl)
numbers_kept r i text v Ndim apart = other_number r i text v Ndim (bytes_apart (codes "NDIM") (codes "OBS_OFFSET") refl)
    (bytes_apart (codes "NDIM") (codes "FILE_NUMBER") refl) (bytes_apart (codes "NDIM") (codes "FILE_SIZE") refl)
numbers_kept r i text v Tsamp apart =
    other_number r i text v Tsamp (bytes_apart (codes "TSAMP") (codes "OBS_OFFSET") refl)
    (bytes_apart (codes "TSAMP") (codes "FILE_NUMBER") refl) (bytes_apart (codes "TSAMP") (codes "FILE_SIZE") refl)
numbers_kept r i text v Freq apart = other_number r i text v Freq (bytes_apart (codes "FREQ") (codes "OBS_OFFSET") refl)
    (bytes_apart (codes "FREQ") (codes "FILE_NUMBER") refl) (bytes_apart (codes "FREQ") (codes "FILE_SIZE") refl)
numbers_kept r i text v Bw apart = other_number r i text v Bw (bytes_apart (codes "BW") (codes "OBS_OFFSET") refl)
    (bytes_apart (codes "BW") (codes "FILE_NUMBER") refl) (bytes_apart (codes "BW") (codes "FILE_SIZE") refl)
numbers_kept r i text v ObsOffset apart = absurd (apart refl)

has_offset : NumbersAreSpelled → (r : Recording) (i : ℕ) (text : List ℕ) → HasValues r i text →
    file_offset r i < 2 ^ 64 → HasOffset (fields_of text) (fields_of r.header.text) (file_offset r i)
unfolding number_of
has_offset law r i text v few = record {
  is = ap (number_or_default ObsOffset) v.offset
      ∙ ap (λ (z : Option ℤ). ok_or z (BadNumber ObsOffset)) (padded_number law 16 (file_offset r i) few);
  same = numbers_kept r i text v;
}

row_kept : (fields others : List Field) (offset : ℕ) → HasOffset fields others offset → (key : Key) → key ≢ ObsOffset →
    HasNumberInRow others key → HasNumberInRow fields key
row_kept fields others offset h key apart row = record {
  number = row.number;
  is = h.same key apart ∙ row.is;
  in_row = ap (λ (o : Observation). is_in_row o key row.number) (observed fields others offset h)
      ∙ same_row (observation_in others) offset key row.number ∙ row.in_row;
}

rows_kept : (fields others : List Field) (offset : ℕ) → HasOffset fields others offset → offset ≤ 10 ^ 15 →
    ((key : Key) → HasNumberInRow others key) → (key : Key) → HasNumberInRow fields key
rows_kept fields others offset h few rows ObsOffset = record {
  number = pos offset;
  is = h.is;
  in_row = and_from _ _ (le-leb 0 offset (omega arith)) (le-leb offset (10 ^ 15) few);
}
rows_kept fields others offset h few rows Nchan = row_kept fields others offset h Nchan (λ e. absurd cc) (rows Nchan)
rows_kept fields others offset h few rows Nbit = row_kept fields others offset h Nbit (λ e. absurd cc) (rows Nbit)
rows_kept fields others offset h few rows Npol = row_kept fields others offset h Npol (λ e. absurd cc) (rows Npol)
rows_kept fields others offset h few rows Ndim = row_kept fields others offset h Ndim (λ e. absurd cc) (rows Ndim)
rows_kept fields others offset h few rows Tsamp = row_kept fields others offset h Tsamp (λ e. absurd cc) (rows Tsamp)
rows_kept fields others offset h few rows Freq = row_kept fields others offset h Freq (λ e. absurd cc) (rows Freq)
rows_kept fields others offset h few rows Bw = row_kept fields others offset h Bw (λ e. absurd cc) (rows Bw)

still_accepted : AcceptedByRows → (fields others : List Field) (offset : ℕ) → HasOffset fields others offset →
    offset ≤ 10 ^ 15 → (o : Observation) → observation_of others ≡ Ok o →
    observation_of fields ≡ Ok (record o { obs_offset = offset })
still_accepted law fields others offset h few o accepted =
    let all = (law others o).0 accepted in
    (law fields (record o { obs_offset = offset })).1 (
      ap (λ (p : Observation). record p { obs_offset = offset }) all.0 ∙ sym (observed fields others offset h),
      rows_kept fields others offset h few all.1,
      all.2,
    )

pub keeps_observation : ChangeGivesValue → ChangeKeepsOthers → NumbersAreSpelled → AcceptedByRows →
    HeadersKeepObservation
unfolding file_header
keeps_observation gives keeps spelled rows r i o h accepted few =
    let v = has_values gives keeps r i (words_of_file r i h) in
    still_accepted rows (fields_of (with_size r i)) (fields_of r.header.text) (file_offset r i)
    (has_offset spelled r i (with_size r i) v (omega (arith, h.offset))) few o accepted
