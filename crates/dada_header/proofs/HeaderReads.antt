-- What is read of the bytes of a header, step by step.
use Rattle.std.proofs.Common.{◌≡◌, ℕ, ◌-◌, ◌<◌, ◌≤◌, true, false, List, [], ◌++◌, length, take, drop, replicate, refl, sym, ap, subst, ◌∙◌, arith, Some, None, Ok, Err}
use Rattle.std.specs.Prelude.{All, position, codes}
use Rattle.std.specs.List.{position_or_len, list_any}
use Rattle.std.proofs.lemmas.Bool.{lt-ltb, le-ltb}
use Rattle.std.proofs.lemmas.List.{take-take, take_at, take-replicate}
use Rattle.std.proofs.lemmas.List.Elements.{All-from_get_or, All-take, All-drop, All-weaker}
use Rattle.std.proofs.lemmas.List.Folds.{list_any_at, list_any_none}
use Rattle.std.proofs.lemmas.List.Sums.{fails_before_first, passes_at_first}
use Rattle.dada_model.specs.Number.{number_value}
use Rattle.dada_model.specs.Fields.{fields_of, value_of, HeaderText, ShortHeader, BadHeaderSize, NotTextAt, before_nul, allowed_size, size_of_value, header_size, header_text, is_above_ascii, header_of, header_bytes}
use Rattle.dada_model.specs.ChangeLaws.{IsReadBack, IsHeader}
use Rattle.dada_header.proofs.Scans.{position_some, position_none}
use Rattle.dada_header.specs.Space.{header_in, IsHeaderSpace}
use Rattle.dada_header.specs.declared.words.Place.{Place}
use Rattle.dada_header.specs.Places.{at}
use Rattle.dada_header.specs.declared.faults.HeaderFault.{HeaderFault}
use Rattle.dada_header.specs.declared.faults.HeaderFault.TheVariants.{Short, NotText, BadSize, Memory}
use Rattle.dada_header.specs.Faults.{IsSizeRefusal, IsHeaderRefusal}

-- ---- refusals

pub short_header : (bytes : List ℕ) → length bytes < 4096 → header_of bytes ≡ Err (ShortHeader (length bytes))
unfolding header_of
short_header bytes low = rw (lt-ltb (length bytes) 4096 low) refl

pub bad_size : (bytes : List ℕ) → 4096 ≤ length bytes → header_size bytes ≡ None → header_of bytes ≡ Err BadHeaderSize
unfolding header_of
bad_size bytes long bad = rw (le-ltb (length bytes) 4096 long, bad) refl

pub short_for_size : (bytes : List ℕ) (size : ℕ) → 4096 ≤ length bytes → header_size bytes ≡ Some size →
    length bytes < size → header_of bytes ≡ Err (ShortHeader (length bytes))
unfolding header_of
short_for_size bytes size long is low = rw (le-ltb (length bytes) 4096 long, is, lt-ltb (length bytes) size low) refl

pub not_text : (bytes text : List ℕ) (size place : ℕ) → 4096 ≤ length bytes → header_size bytes ≡ Some size →
    size ≤ length bytes →
    text ≡ header_text size bytes → Some place ≡ position is_above_ascii text → header_of bytes ≡ Err (NotTextAt place)
unfolding header_of
not_text bytes text size place long is whole t found =
    let at = position_some is_above_ascii text place found in
    let low : position_or_len is_above_ascii text < length text = omega arith in
    let any : list_any is_above_ascii text ≡ true = list_any_at is_above_ascii text
    (position_or_len is_above_ascii text) 0 low (passes_at_first is_above_ascii text 0 low) in
    let here : list_any is_above_ascii (header_text size bytes) ≡ true = rw (← t) any in
    let place_is : position_or_len is_above_ascii (header_text size bytes) ≡ place = rw (← t) at.0 in
    rw (le-ltb (length bytes) 4096 long, is, le-ltb (length bytes) size whole, here, place_is) refl

pub text_read : (bytes text : List ℕ) (size : ℕ) → 4096 ≤ length bytes → header_size bytes ≡ Some size →
    size ≤ length bytes →
    text ≡ header_text size bytes → None ≡ position is_above_ascii text →
    header_of bytes ≡ Ok (record { size = size; text = text })
unfolding header_of
text_read bytes text size long is whole t missing =
    let end = position_none is_above_ascii text missing in
    let each : All (λ byte. is_above_ascii byte ≡ false) text =
    All-from_get_or (λ byte. is_above_ascii byte ≡ false) text 0
    (λ i h. fails_before_first is_above_ascii text i 0 (omega arith)) in
    let nothing : list_any is_above_ascii (header_text size bytes) ≡ false =
    rw (← t) (list_any_none is_above_ascii text each) in
    let same : record { size = size; text = header_text size bytes } ≡ record { size = size; text = text } =
    ap (λ (x : List ℕ). record { size = size; text = x }) (sym t) in
    rw (le-ltb (length bytes) 4096 long, is, le-ltb (length bytes) size whole, nothing) (ap Ok same)

-- ---- the size

pub size_missing : (bytes text : List ℕ) → text ≡ before_nul (take 4096 bytes) →
    value_of (codes "HDR_SIZE") (fields_of text) ≡ None → header_size bytes ≡ Some 4096
unfolding header_size
size_missing bytes text t none = ap (λ x. size_of_value (value_of (codes "HDR_SIZE") (fields_of x))) (sym t)
    ∙ ap size_of_value none

pub size_given : (bytes text value : List ℕ) → text ≡ before_nul (take 4096 bytes) →
    value_of (codes "HDR_SIZE") (fields_of text) ≡ Some value →
    header_size bytes ≡ allowed_size (number_value 0 value)
unfolding header_size
size_given bytes text value t is = ap (λ x. size_of_value (value_of (codes "HDR_SIZE") (fields_of x))) (sym t)
    ∙ ap size_of_value is

-- ---- the space

-- a space with a text and NUL after it keeps the header
pub text_in_space : (space text : List ℕ) (size : ℕ) → take size space ≡ text ++ replicate (size - length text) 0 →
    length text ≤ size → take (length text) space ≡ text
text_in_space space text size padded fits =
    sym (take-take (length text) size space fits) ∙ ap (take (length text)) padded
    ∙ take_at text (replicate (size - length text) 0) (length text) refl

pub header_in_space : (space text : List ℕ) (size : ℕ) → take size space ≡ text ++ replicate
    (size - length text) 0 → length text ≤ size → header_in space (length text) size ≡ record {
      size = size;
      text =
          text;
    }
header_in_space space text size padded fits = ap (λ (t : List ℕ). record {
  size = size;
  text =
      t;
}) (text_in_space space text size padded fits)

pub kept : (space text : List ℕ) (size : ℕ) → length space ≡ 65536 →
    take size space ≡ text ++ replicate (size - length text) 0 →
    IsReadBack (record { size = size; text = text }) → IsHeader (record { size = size; text = text }) →
    IsHeaderSpace space (length text) size
unfolding header_bytes
kept space text size room padded read is =
    let fits : length text ≤ size = is.fits in
    let same = header_in_space space text size padded fits in
    record {
      space = room;
      least = is.least;
      most = is.most;
      within = fits;
      padded = padded ∙ sym (ap header_bytes same);
      read_back = let P : HeaderText → Type 0 = λ h. IsReadBack h in subst P (sym same) read;
    }

pub kept_zeros : (space : List ℕ) (size : ℕ) → length space ≡ 65536 → space ≡ replicate (length space) 0 →
    IsReadBack (record { size = size; text = [] }) → size ≤ 65536 → 4096 ≤ size → IsHeaderSpace space 0 size
unfolding header_bytes
kept_zeros space size room zero read most least =
    let whole : size ≡ size - 0 = omega arith in
    record {
      space = room;
      least = least;
      most = most;
      within = omega arith;
      padded = ap (take size) zero ∙ take-replicate {X = ℕ} size (length space) 0 (omega arith)
          ∙ ap (λ n. replicate {A = ℕ} n 0) whole;
      read_back = read;
    }

-- ---- the size, in the steps of the code

pub size_read : (bytes text value : List ℕ) (size : ℕ) → text ≡ before_nul (take 4096 bytes) →
    value_of (codes "HDR_SIZE") (fields_of text) ≡ Some value → Some size ≡ allowed_size (number_value 0 value) →
    header_size bytes ≡ Some size
size_read bytes text value size t is e = size_given bytes text value t is ∙ sym e

pub size_refused : (bytes text value : List ℕ) → text ≡ before_nul (take 4096 bytes) →
    value_of (codes "HDR_SIZE") (fields_of text) ≡ Some value → None ≡ allowed_size (number_value 0 value) →
    header_size bytes ≡ None
size_refused bytes text value t is e = size_given bytes text value t is ∙ sym e

pub refused_size : (bytes : List ℕ) (fault : HeaderFault) → IsSizeRefusal bytes fault → IsHeaderRefusal bytes fault
refused_size bytes (Short had) (low, e) = rw e (short_header bytes low)
refused_size bytes (NotText place) h = absurd h
refused_size bytes BadSize (long, bad) = bad_size bytes long bad
refused_size bytes Memory h = absurd h

-- ---- bytes of a text

pub ascii_at : (text : List ℕ) (place : Place) → All (λ byte. (0 < byte) × (byte < 128)) text →
    All (λ byte. byte < 128) (at place text)
ascii_at text place h =
    All-take (λ byte. byte < 128) (place.end - place.start) (drop place.start text)
    (All-drop (λ byte. byte < 128) place.start text (All-weaker (λ byte. (0 < byte) × (byte < 128))
    (λ byte. byte < 128) (λ byte both. both.1) text h))
