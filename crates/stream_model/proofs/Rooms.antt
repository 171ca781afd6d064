-- A header that has room for the changes of file 0 has room for those of each file.
use Rattle.std.proofs.Common.{◌≡◌, ℕ, ◌<◌, Bool, true, false, ◌&&◌, not, ltb, leb, eqb, List, [], ◌∷◌, length, refl, sym, ◌∙◌, arith, Option, Some, None}
use Rattle.std.specs.Prelude.{All, codes, if◌then◌else◌}
use Rattle.std.proofs.lemmas.Bool.{ltb-true, leb-true, and_parts, both_ways}
use Rattle.std.proofs.lemmas.List.Elements.{All-nil, All-cons}
use Rattle.dada_model.specs.Change.{IsWordByte, IsWord}
use Rattle.stream_model.specs.Recorded.{Recording, file_offset, with_offset, with_number, with_size, start_time, RecordRefusal, NoRoom, time_refusal, room_refusal, number_refusal, or_else, record_refusal}
use Rattle.stream_model.specs.RecordedLaws.{AreLikeTexts, ChangesStayAlike, HasNumbers, HeaderHasRoom}
use Rattle.stream_model.proofs.Alike.{alike_itself}
use Rattle.stream_model.proofs.Padded.{padded_word, padded_width}
use Rattle.psr_base.specs.Fixed.{padded}

-- ---- keys

abbrev is_word_byte : ℕ → Bool
is_word_byte byte = (leb 33 byte && leb byte 126) && not (eqb byte 35)

abbrev are_word_bytes : List ℕ → Bool
are_word_bytes [] = true
are_word_bytes (byte ∷ bytes) = is_word_byte byte && are_word_bytes bytes

word_byte : (byte : ℕ) → is_word_byte byte ≡ true → IsWordByte byte
word_byte byte e =
    let parts = and_parts (leb 33 byte && leb byte 126) (not (eqb byte 35)) e in
    let range = and_parts (leb 33 byte) (leb byte 126) parts.0 in (
      leb-true 33 byte range.0,
      leb-true byte 126 range.1,
      λ same. both_ways (not (eqb byte 35)) (rw same refl) parts.1,
    )

word_bytes : (word : List ℕ) → are_word_bytes word ≡ true → All IsWordByte word
word_bytes [] e = All-nil IsWordByte
word_bytes (byte ∷ bytes) e =
    let parts = and_parts (is_word_byte byte) (are_word_bytes bytes) e in
    All-cons IsWordByte byte bytes (word_byte byte parts.0) (word_bytes bytes parts.1)

pub offset_key : IsWord (codes "OBS_OFFSET")
offset_key = record { some = omega arith; bytes = word_bytes (codes "OBS_OFFSET") refl }

pub number_key : IsWord (codes "FILE_NUMBER")
number_key = record { some = omega arith; bytes = word_bytes (codes "FILE_NUMBER") refl }

pub size_key : IsWord (codes "FILE_SIZE")
size_key = record { some = omega arith; bytes = word_bytes (codes "FILE_SIZE") refl }

-- ---- nothing is refused

both_none : (a b : Option RecordRefusal) → or_else a b ≡ None → (a ≡ None) × (b ≡ None)
both_none None b e = (refl, e)
both_none (Some refusal) b e = absurd cc

room_of : (size : ℕ) (text : List ℕ) → room_refusal size text ≡ None → length text < size
room_of size text none = by_test (ltb (length text) size) refl none
  where
    by_test : (b : Bool) → ltb (length text) size ≡ b →
        (if b then None else Some (NoRoom (length text) size)) ≡ None → length text < size
    by_test true tested e = ltb-true (length text) size tested
    by_test false tested e = absurd cc

-- what nothing refused says
pub record IsRecordable (r : Recording) (max_bytes : ℕ) : Type 0 where
  pub time : time_refusal (start_time r.header) ≡ None
  pub room : HeaderHasRoom r 0
  pub files : number_refusal r.file_size max_bytes ≡ None

pub recordable : (r : Recording) (max_bytes : ℕ) → record_refusal r max_bytes ≡ None → IsRecordable r max_bytes
unfolding record_refusal
recordable r max_bytes none =
    let one = both_none (time_refusal (start_time r.header)) _ none in
    let two = both_none (room_refusal r.header.size (with_offset r 0)) _ one.1 in
    let three = both_none (room_refusal r.header.size (with_number r 0)) _ two.1 in
    let four = both_none (room_refusal r.header.size (with_size r 0)) (number_refusal r.file_size max_bytes) three.1 in
    record {
      time = one.0;
      room = record {
        offset = room_of r.header.size (with_offset r 0) two.0;
        number = room_of r.header.size (with_number r 0) three.0;
        size = room_of r.header.size (with_size r 0) four.0;
      };
      files = four.1;
    }

-- ---- each file

pub record AreWords (r : Recording) (i : ℕ) : Type 0 where
  pub offset : IsWord (padded 16 (file_offset r i))
  pub number : IsWord (padded 6 i)
  pub size : IsWord (padded 16 r.file_size)
  pub offset_width : length (padded 16 (file_offset r i)) ≡ 16
  pub number_width : length (padded 6 i) ≡ 6

pub words_of_file : (r : Recording) (i : ℕ) → HasNumbers r i → AreWords r i
words_of_file r i h = record {
  offset = padded_word 16 (file_offset r i) (omega (arith, h.offset));
  number = padded_word 6 i (omega (arith, h.number));
  size = padded_word 16 r.file_size (omega (arith, h.size));
  offset_width = padded_width 16 (file_offset r i) (omega arith) h.offset (omega (arith, h.offset));
  number_width = padded_width 6 i (omega arith) h.number (omega (arith, h.number));
}

first_numbers : (r : Recording) (i : ℕ) → HasNumbers r i → HasNumbers r 0
first_numbers r i h = record { offset = omega (arith, h.offset); number = omega arith; size = h.size }

record AreLikeFirst (r : Recording) (i : ℕ) : Type 0 where
  offset : AreLikeTexts (with_offset r i) (with_offset r 0)
  number : AreLikeTexts (with_number r i) (with_number r 0)
  size : AreLikeTexts (with_size r i) (with_size r 0)

like_first : ChangesStayAlike → (r : Recording) (i : ℕ) → HasNumbers r i → AreLikeFirst r i
like_first alike r i h =
    let w = words_of_file r i h in
    let v = words_of_file r 0 (first_numbers r i h) in
    let one = alike (codes "OBS_OFFSET") (padded 16 (file_offset r i)) (padded 16 (file_offset r 0))
    r.header.text r.header.text offset_key w.offset v.offset (w.offset_width ∙ sym v.offset_width) (alike_itself
    r.header.text) in
    let two = alike (codes "FILE_NUMBER") (padded 6 i) (padded 6 0) (with_offset r i) (with_offset r 0)
    number_key w.number v.number (w.number_width ∙ sym v.number_width) one in
    let three = alike (codes "FILE_SIZE") (padded 16 r.file_size) (padded 16 r.file_size) (with_number r i)
    (with_number r 0) size_key w.size w.size refl two in
    record { offset = one; number = two; size = three }

pub each_has_room : ChangesStayAlike → (r : Recording) (max_bytes i : ℕ) → record_refusal r max_bytes ≡ None →
    HasNumbers r i → HeaderHasRoom r i
each_has_room alike r max_bytes i none h =
    let room = (recordable r max_bytes none).room in
    let like = like_first alike r i h in
    record {
      offset = omega (arith, room.offset, like.offset.lengths);
      number = omega (arith, room.number, like.number.lengths);
      size = omega (arith, room.size, like.size.lengths);
    }
