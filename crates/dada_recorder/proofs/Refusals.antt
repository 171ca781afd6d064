-- What is refused, and the answers to it.
use Rattle.std.proofs.Common.{◌≡◌, ℕ, ◌*◌, ◌<◌, ◌≤◌, List, length, refl, sym, ap, codes, ◌∙◌, arith, Option, Some, None}
use Rattle.std.proofs.lemmas.Bool.{le-ltb, lt-ltb}
use Rattle.psr_base.specs.Fixed.{padded}
use Rattle.dada_model.specs.Fields.{HeaderText}
use Rattle.dada_model.specs.Change.{changed}
use Rattle.dada_header.specs.Changes.{IsOverfull, IsSet}
use Rattle.dada_header.specs.declared.faults.SetFault.{SetFault}
use Rattle.dada_header.specs.declared.faults.SetFault.TheVariants.{Overfull as HeaderOverfull}
use Rattle.stream_model.specs.Recorded.{Recording, RecordRefusal, NoRoom, room_refusal, or_else, file_offset, with_offset, with_number, with_size, file_header, TooManyFiles, start_time, time_refusal, number_refusal, record_refusal}
use Rattle.stream_model.specs.RecordedLaws.{HeaderHasRoom}
use Rattle.dada_recorder.specs.declared.answers.RecordFault.{RecordFault}
use Rattle.dada_recorder.specs.declared.answers.RecordFault.TheVariants.{Overfull}
use Rattle.dada_recorder.specs.Changes.{Explains, RefusesRecording, change_refusal}

-- ---- room

pub room_refused : (size : ℕ) (text : List ℕ) → size ≤ length text →
    room_refusal size text ≡ Some (NoRoom (length text) size)
room_refused size text full =
    rw (le-ltb (length text) size full) refl

pub room_taken : (size : ℕ) (text : List ℕ) → length text < size → room_refusal size text ≡ None
room_taken size text fits =
    rw (lt-ltb (length text) size fits) refl

-- ---- a change that is refused

pub parts_of_fault : (fault : SetFault) → (need : ℕ) × (size : ℕ) × (fault ≡ HeaderOverfull need size)
parts_of_fault (HeaderOverfull need size) = (need, size, refl)

pub overfull : (key value : List ℕ) (header : HeaderText) (need size : ℕ) →
    IsOverfull key value header (HeaderOverfull need size) →
    Explains (room_refusal header.size (changed key value header.text)) (Overfull need size)
overfull key value header need size is =
    let text = changed key value header.text in
    let full : header.size ≤ length text = omega (arith, is.0, is.2) in (
      NoRoom (length text) header.size,
      room_refused header.size text full,
      (length text, ap (NoRoom (length text)) (sym is.1), is.0),
    )

-- ---- all refusals in their order

-- the first refusal counts
first_counts : (first later : Option RecordRefusal) (fault : RecordFault) → Explains first fault →
    Explains (or_else first later) fault
first_counts first later fault is = (is.0, rw is.1 refl, is.2)

-- and a later one where there is none before
later_counts : (first later : Option RecordRefusal) (fault : RecordFault) → first ≡ None → Explains later fault →
    Explains (or_else first later) fault
later_counts first later fault none is = rw none is

-- ---- the changes for a file

-- what the first two changes leave
text_two : (r : Recording) (i : ℕ) (one two : HeaderText) →
    IsSet (codes "OBS_OFFSET") (padded 16 (file_offset r i)) r.header one →
    IsSet (codes "FILE_NUMBER") (padded 6 i) one two → two.text ≡ with_number r i
text_two r i one two first second =
    rw first.text at second.text

pub after_changes : (r : Recording) (i : ℕ) (one two three : HeaderText) →
    IsSet (codes "OBS_OFFSET") (padded 16 (file_offset r i)) r.header one →
    IsSet (codes "FILE_NUMBER") (padded 6 i) one two →
    IsSet (codes "FILE_SIZE") (padded 16 r.file_size) two three →
    (three ≡ file_header r i) × HeaderHasRoom r i
unfolding file_header
after_changes r i one two three first second third =
    let number = text_two r i one two first second in
    let size : three.text ≡ with_size r i =
    rw number at third.text in
    let same : three.size ≡ r.header.size = third.size ∙ second.size ∙ first.size in (
      ap (λ (t : List ℕ). record { size = three.size; text = t }) size
          ∙ ap (λ (n : ℕ). record { size = n; text = with_size r i }) same,
      record {
        offset = omega (arith, ap (length {A = ℕ}) first.text, first.room);
        number = omega (arith, ap (length {A = ℕ}) number, second.room, first.size);
        size = omega (arith, ap (length {A = ℕ}) size, third.room, second.size, first.size);
      },
    )

-- the third one is the first that is refused
pub refused_last : (r : Recording) (i : ℕ) (one two : HeaderText) (fault : RecordFault) →
    IsSet (codes "OBS_OFFSET") (padded 16 (file_offset r i)) r.header one →
    IsSet (codes "FILE_NUMBER") (padded 6 i) one two →
    Explains (room_refusal two.size (changed (codes "FILE_SIZE") (padded 16 r.file_size) two.text)) fault →
    Explains (room_refusal r.header.size (with_size r i)) fault
refused_last r i one two fault first second is =
    let number = text_two r i one two first second in
    let size : two.size ≡ r.header.size = second.size ∙ first.size in
    rw (number, size) at is

pub refused_third : (r : Recording) (i : ℕ) (one two : HeaderText) (fault : RecordFault) →
    IsSet (codes "OBS_OFFSET") (padded 16 (file_offset r i)) r.header one →
    IsSet (codes "FILE_NUMBER") (padded 6 i) one two →
    Explains (room_refusal two.size (changed (codes "FILE_SIZE") (padded 16 r.file_size) two.text)) fault →
    (later : Option RecordRefusal) → Explains (change_refusal r i later) fault
refused_third r i one two fault first second is later =
    let size = r.header.size in
    let room = room_refusal size (with_size r i) in
    let offset_room : length (with_offset r i) < size = omega (arith, ap (length {A = ℕ}) first.text, first.room) in
    let number_room : length (with_number r i) < size =
    omega (arith, ap (length {A = ℕ}) (text_two r i one two first second), second.room, first.size) in
    later_counts (room_refusal size (with_offset r i))
    (or_else (room_refusal size (with_number r i)) (or_else room later))
    fault (room_taken size (with_offset r i) offset_room)
    (later_counts (room_refusal size (with_number r i)) (or_else room later) fault
    (room_taken size (with_number r i) number_room)
    (first_counts room later fault (refused_last r i one two fault first second is)))

-- it is not refused where there is room for it
pub never_full : (r : Recording) (i : ℕ) (one two : HeaderText) (fault : RecordFault) → HeaderHasRoom r i →
    IsSet (codes "OBS_OFFSET") (padded 16 (file_offset r i)) r.header one →
    IsSet (codes "FILE_NUMBER") (padded 6 i) one two →
    Explains (room_refusal two.size (changed (codes "FILE_SIZE") (padded 16 r.file_size) two.text)) fault → ⊥
never_full r i one two fault room first second is =
    let none = sym (room_taken r.header.size (with_size r i) room.size)
    ∙ (refused_last r i one two fault first second is).1 in
    absurd cc

-- ---- all refusals

pub refused_time : (r : Recording) (max_bytes : ℕ) (fault : RecordFault) →
    Explains (time_refusal (start_time r.header)) fault → RefusesRecording r max_bytes fault
unfolding record_refusal
refused_time r max_bytes fault is =
    first_counts (time_refusal (start_time r.header))
    (change_refusal r 0 (number_refusal r.file_size max_bytes)) fault is

pub refused_change : (r : Recording) (max_bytes : ℕ) (fault : RecordFault) →
    time_refusal (start_time r.header) ≡ None →
    ((later : Option RecordRefusal) → Explains (change_refusal r 0 later) fault) → RefusesRecording r max_bytes fault
unfolding record_refusal
refused_change r max_bytes fault time is =
    let later = number_refusal r.file_size max_bytes in
    later_counts (time_refusal (start_time r.header)) (change_refusal r 0 later) fault time (is later)

-- nothing but the number of the files is judged after the changes
only_count : (r : Recording) (max_bytes : ℕ) → time_refusal (start_time r.header) ≡ None → HeaderHasRoom r 0 →
    record_refusal r max_bytes ≡ number_refusal r.file_size max_bytes
unfolding record_refusal
only_count r max_bytes time room =
    let size = r.header.size in
    rw (
      time,
      room_taken size (with_offset r 0) room.offset,
      room_taken size (with_number r 0) room.number,
      room_taken size (with_size r 0) room.size,
    ) refl

pub refused_count : (r : Recording) (max_bytes : ℕ) → time_refusal (start_time r.header) ≡ None → HeaderHasRoom r 0 →
    r.file_size * 1000000 < max_bytes → record_refusal r max_bytes ≡ Some TooManyFiles
refused_count r max_bytes time room many =
    only_count r max_bytes time room ∙ rw (lt-ltb (r.file_size * 1000000) max_bytes many) refl

pub none_refused : (r : Recording) (max_bytes : ℕ) → time_refusal (start_time r.header) ≡ None → HeaderHasRoom r 0 →
    max_bytes ≤ r.file_size * 1000000 → record_refusal r max_bytes ≡ None
none_refused r max_bytes time room few =
    only_count r max_bytes time room ∙ rw (le-ltb (r.file_size * 1000000) max_bytes few) refl
