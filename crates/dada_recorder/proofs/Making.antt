-- What the calls on files do to what was made.
use Rattle.std.proofs.Common.{◌≡◌, ℕ, ◌+◌, ◌-◌, ◌<◌, ◌≤◌, true, false, List, [], ◌∷◌, ◌++◌, Option, Some, None, length, refl, sym, ap, ◌∙◌, append_assoc, append-nil, length-append, arith}
use Rattle.std.specs.Prelude.{Contains, IsSome}
use Rattle.std.specs.Option.{option_map}
use Rattle.std.proofs.Math.Seq.{take-append_seam, get_or-append_seam}
use Rattle.std.proofs.lemmas.List.{map-append}
use Rattle.std.proofs.lemmas.Option.{slice_get-get_or, same_Some}
use Rattle.psr_base.specs.Made.{NamedBytes, Made, FilesLeft, FilesSeen, with_new_file, longer_by, with_all_finished, less_a_file, less_bytes, Created, AppendedAll, AppendedFront, Finished, MakingFails, CanCreate}
use Rattle.dada_recorder.specs.Making.{Outset, made_with, total_bytes, left_after, HasMade, names, AreNew, HasEnoughFor, IsFrontOf, IsFileFront, BreaksOff}
use Rattle.dada_recorder.specs.TransferFiles.{longer_file}
use Rattle.dada_recorder.proofs.Fronts.{front_follows, front_longer, front_before, bytes_front, enough_front}

-- ---- lists of files

opened : List NamedBytes → NamedBytes → Made
opened files file = record { finished = files; unfinished = Some file }

-- the last file is not finished
pub last_open : (files : List NamedBytes) (file : NamedBytes) →
    made_with true (files ++ file ∷ []) ≡ record { finished = files; unfinished = Some file }
last_open files file =
    let all = files ++ file ∷ [] in
    let count = length-append files (file ∷ []) in
    let last : length all - 1 ≡ length files = omega (arith, count) in
    let there = slice_get-get_or all (length files) file (omega (arith, count)) in
    rw (last, take-append_seam files (file ∷ []), there, get_or-append_seam files file [] file) refl

pub total-append : (files more : List NamedBytes) → total_bytes (files ++ more) ≡ total_bytes files + total_bytes more
unfolding total_bytes
total-append [] more = omega arith
total-append (file ∷ files) more = let rest = total-append files more in omega (arith, rest)

total-last : (files : List NamedBytes) (file : NamedBytes) →
    total_bytes (files ++ file ∷ []) ≡ total_bytes files + length file.bytes
unfolding total_bytes
total-last files file = let all = total-append files (file ∷ []) in omega (arith, all)

-- ---- what is left

left_one_more : (files : List NamedBytes) (name : List ℕ) (left : Option FilesLeft) →
    option_map less_a_file (option_map (left_after files) left)
    ≡ option_map (left_after (files ++ record { name = name; bytes = [] } ∷ [])) left
left_one_more files name None = refl
left_one_more files name (Some left) =
    let count = length-append files (record { name = name; bytes = [] } ∷ []) in
    let bytes = total-last files (record { name = name; bytes = [] }) in
    let few : left.files - length files - 1 ≡ left.files - length (files ++ record { name = name; bytes = [] } ∷ []) =
    omega (arith, count) in
    let same : left.bytes - total_bytes files
    ≡ left.bytes - total_bytes (files ++ record { name = name; bytes = [] } ∷ []) = omega (arith, bytes) in
    rw (few, same) refl

left_longer : (files : List NamedBytes) (file : NamedBytes) (bytes : List ℕ) (left : Option FilesLeft) →
    option_map (less_bytes (length bytes)) (option_map (left_after (files ++ file ∷ [])) left)
    ≡ option_map (left_after (files ++ longer_file bytes file ∷ [])) left
left_longer files file bytes None = refl
left_longer files file bytes (Some left) =
    let one = length-append files (file ∷ []) in
    let other = length-append files (longer_file bytes file ∷ []) in
    let before = total-last files file in
    let after = total-last files (longer_file bytes file) in
    let both = length-append file.bytes bytes in
    let count : left.files - length (files ++ file ∷ []) ≡ left.files - length (files ++ longer_file bytes file ∷ []) =
    omega (arith, one, other) in
    let total : left.bytes - total_bytes (files ++ file ∷ []) - length bytes
    ≡ left.bytes - total_bytes (files ++ longer_file bytes file ∷ []) = omega (arith, before, after, both) in
    rw (count, total) refl

-- ---- calls that went through

-- made, with the files after those of the outset
made_open : (outset : Outset) (files : List NamedBytes) (file : NamedBytes) →
    made_with true (outset.files ++ (files ++ file ∷ [])) ≡ opened (outset.files ++ files) file
unfolding opened
made_open outset files file = rw (← append_assoc) (last_open (outset.files ++ files) file)

pub created_made : (outset : Outset) (files : List NamedBytes) (name : List ℕ) (old new : FilesSeen) →
    HasMade outset false files old → Created name old new →
    HasMade outset true (files ++ record { name = name; bytes = [] } ∷ []) new
unfolding opened
created_made outset files name old new has does = record {
  made = does.made ∙ ap (option_map (with_new_file name)) has.made
      ∙ ap (λ (made : Made). Some made) (sym (made_open outset files (record { name = name; bytes = [] })));
  left = does.left ∙ ap (option_map less_a_file) has.left ∙ left_one_more files name outset.left;
}

pub appended_made : (outset : Outset) (files : List NamedBytes) (file : NamedBytes) (bytes : List ℕ)
    (old new : FilesSeen) → HasMade outset true (files ++ file ∷ []) old → AppendedAll bytes old new →
    HasMade outset true (files ++ longer_file bytes file ∷ []) new
unfolding opened
appended_made outset files file bytes old new has does = record {
  made = does.made ∙ ap (option_map (longer_by bytes)) (has.made
      ∙ ap (λ (made : Made). Some made) (made_open outset files file))
      ∙ ap (λ (made : Made). Some made) (sym (made_open outset files (longer_file bytes file)));
  left = does.left ∙ ap (option_map (less_bytes (length bytes))) has.left ∙ left_longer files file bytes outset.left;
}

pub finished_made : (outset : Outset) (files : List NamedBytes) (file : NamedBytes) (old new : FilesSeen) →
    HasMade outset true (files ++ file ∷ []) old → Finished old new → HasMade outset false (files ++ file ∷ []) new
unfolding opened
finished_made outset files file old new has does = record {
  made = does.made ∙ ap (option_map with_all_finished) (has.made
      ∙ ap (λ (made : Made). Some made) (made_open outset files file))
      ∙ ap (λ (fs : List NamedBytes). Some (record { finished = fs; unfinished = None }))
      (append_assoc outset.files files (file ∷ []));
  left = does.left ∙ has.left;
}

-- ---- calls that failed

new_name : (there : List (List ℕ)) (names : List (List ℕ)) (name : List ℕ) → AreNew there (names ++ name ∷ []) →
    ¬ Contains (there ++ names) name
new_name there [] name new = rw (append-nil there) new.0
new_name there (first ∷ names) name new =
    rw (append_assoc there (first ∷ []) names) at (new_name (there ++ first ∷ []) names name new.1)

-- files that are finished, and what is enough for one more
can_create : (outset : Outset) (files : List NamedBytes) (file : NamedBytes) (seen : FilesSeen) →
    HasMade outset false files seen → HasEnoughFor outset (files ++ file ∷ []) → length file.name ≤ 64 →
    CanCreate file.name seen
can_create outset files file seen has enough short =
    let there = outset.files ++ files in
    let free = new_name (names outset.files) (names files) file.name (rw map-append at enough.new) in
    let one = length-append files (file ∷ []) in
    record {
      is_new = λ made is.
          rw (← same_Some (made_with false there) made (sym has.made ∙ is), append-nil, map-append) free;
      left = left_after files enough.left;
      left_is_told = has.left ∙ ap (option_map (left_after files)) enough.is_told;
      file = omega (arith, one, enough.count);
      short = short;
    }

pub append_breaks : (outset : Outset) (files : List NamedBytes) (file : NamedBytes) (bytes : List ℕ)
    (all : List NamedBytes) (old new : FilesSeen) → HasMade outset true (files ++ file ∷ []) old →
    AppendedFront bytes old new → IsFileFront (files ++ longer_file bytes file ∷ []) all → BreaksOff outset all new
unfolding opened
append_breaks outset files file bytes all old new has does front =
    let longer = longer_file does.front file in
    let is_front : IsFrontOf longer (longer_file bytes file) = record {
      name = refl;
      rest = does.rest;
      splits = ap (λ (bs : List ℕ). file.bytes ++ bs) does.splits
          ∙ sym (append_assoc file.bytes does.front does.rest);
    } in
    record {
      made = opened (outset.files ++ files) longer;
      is_told = does.made ∙ ap (option_map (longer_by does.front)) (has.made
          ∙ ap (λ (made : Made). Some made) (made_open outset files file));
      files = files ++ longer ∷ [];
      files_are = append_assoc outset.files files (longer ∷ []);
      front = front_follows (files ++ longer ∷ []) (files ++ longer_file bytes file ∷ []) all
          (front_longer files [] longer (longer_file bytes file) is_front) front;
      short = λ enough.
          let most = bytes_front (files ++ longer_file bytes file ∷ []) all front in
          let less : enough.left.bytes - total_bytes (files ++ file ∷ []) < length bytes =
          does.short (left_after (files ++ file ∷ []) enough.left) (has.left
          ∙ ap (option_map (left_after (files ++ file ∷ []))) enough.is_told) in
          let before = total-last files file in
          let after = total-last files (longer_file bytes file) in
          let both = length-append file.bytes bytes in
          absurd (omega (arith, less, most, enough.bytes, before, after, both));
    }

pub finish_breaks : (outset : Outset) (files : List NamedBytes) (file : NamedBytes) (all : List NamedBytes)
    (old new : FilesSeen) → HasMade outset true (files ++ file ∷ []) old → MakingFails old new →
    (IsSome old.left → ⊥) → IsFileFront (files ++ file ∷ []) all → BreaksOff outset all new
unfolding opened
finish_breaks outset files file all old new has does fails front = record {
  made = opened (outset.files ++ files) file;
  is_told = does.made ∙ has.made ∙ ap (λ (made : Made). Some made) (made_open outset files file);
  files = files ++ file ∷ [];
  files_are = append_assoc outset.files files (file ∷ []);
  front = front;
  short = λ enough.
      fails (rw (has.left, enough.is_told) refl);
}

-- ---- a file with its header

pub started_made : (outset : Outset) (files : List NamedBytes) (file : NamedBytes) (name bytes : List ℕ)
    (old middle new : FilesSeen) → name ≡ file.name → bytes ≡ file.bytes → HasMade outset false files old →
    Created name old middle → AppendedAll bytes middle new → HasMade outset true (files ++ file ∷ []) new
started_made outset files file name bytes old middle new named has_bytes has created appended =
    rw (named, has_bytes) at (appended_made outset files (record { name = name; bytes = [] }) bytes middle new
    (created_made outset files name old middle has created) appended)

-- it was created, and a front of its header appended
pub header_breaks : (outset : Outset) (files : List NamedBytes) (file : NamedBytes) (name bytes : List ℕ)
    (all : List NamedBytes) (old middle new : FilesSeen) → name ≡ file.name → bytes ≡ file.bytes →
    HasMade outset false files old → Created name old middle → AppendedFront bytes middle new →
    IsFileFront (files ++ file ∷ []) all → BreaksOff outset all new
header_breaks outset files file name bytes all old middle new named has_bytes has created appended front =
    append_breaks outset files (record { name = name; bytes = [] }) bytes all middle new
    (created_made outset files name old middle has created) appended (rw (named, has_bytes) front)

-- it was not created
pub creation_breaks : (outset : Outset) (files : List NamedBytes) (file : NamedBytes) (name : List ℕ)
    (all : List NamedBytes) (old new : FilesSeen) → name ≡ file.name → length name ≤ 64 →
    HasMade outset false files old → MakingFails old new → (CanCreate name old → ⊥) →
    IsFileFront (files ++ file ∷ []) all → BreaksOff outset all new
creation_breaks outset files file name all old new named short has fails never front = record {
  made = made_with false (outset.files ++ files);
  is_told = fails.made ∙ has.made;
  files = files;
  files_are = append-nil (outset.files ++ files);
  front = front_before files (file ∷ []) all front;
  short = λ enough. never (rw named (can_create outset files file old has (enough_front outset (files ++ file ∷ []) all
      front enough) (rw named at short)));
}
