-- What appends make that follow one another.
use Rattle.std.proofs.Common.{◌≡◌, ℕ, ◌+◌, ◌-◌, ◌<◌, List, ◌++◌, length, take, drop, Option, Some, None, ap, sym, subst, refl, ◌∙◌, append_assoc, length-append, arith}
use Rattle.std.specs.Option.{option_map}
use Rattle.psr_base.specs.Count.{Rose}
use Rattle.psr_base.specs.Made.{NamedBytes, Made, FilesLeft, FilesSeen, AppendedAll, AppendedFront, longer_by, less_bytes}
use Rattle.psr_base.proofs.Pieces.{take-append-rest}

longer_by-longer_by : (xs ys : List ℕ) (made : Option Made) →
    option_map (longer_by ys) (option_map (longer_by xs) made) ≡ option_map (longer_by (xs ++ ys)) made
longer_by-longer_by xs ys None = refl
longer_by-longer_by xs ys (Some made) =
    ap (λ (file : Option NamedBytes). Some (record made { unfinished = file })) (by_file made.unfinished)
  where
    by_file : (file : Option NamedBytes) →
        option_map (λ (f : NamedBytes). record f { bytes = f.bytes ++ ys })
        (option_map (λ (f : NamedBytes). record f { bytes = f.bytes ++ xs }) file)
        ≡ option_map (λ (f : NamedBytes). record f { bytes = f.bytes ++ (xs ++ ys) }) file
    by_file None = refl
    by_file (Some file) = ap (λ (bytes : List ℕ). Some (record file { bytes = bytes })) (append_assoc file.bytes xs ys)

less_bytes-less_bytes : (xs ys : List ℕ) (left : Option FilesLeft) →
    option_map (less_bytes (length ys)) (option_map (less_bytes (length xs)) left)
    ≡ option_map (less_bytes (length (xs ++ ys))) left
less_bytes-less_bytes xs ys None = refl
less_bytes-less_bytes xs ys (Some left) =
    ap (λ (n : ℕ). Some (record left { bytes = n })) (omega (arith, length-append xs ys))

made-pieces : (xs ys : List ℕ) (old middle new : Option Made) → middle ≡ option_map (longer_by xs) old →
    new ≡ option_map (longer_by ys) middle → new ≡ option_map (longer_by (xs ++ ys)) old
made-pieces xs ys old middle new first second = second ∙ ap (option_map (longer_by ys)) first
    ∙ longer_by-longer_by xs ys old

left-pieces : (xs ys : List ℕ) (old middle new : Option FilesLeft) →
    middle ≡ option_map (less_bytes (length xs)) old → new ≡ option_map (less_bytes (length ys)) middle →
    new ≡ option_map (less_bytes (length (xs ++ ys))) old
left-pieces xs ys old middle new first second = second ∙ ap (option_map (less_bytes (length ys))) first
    ∙ less_bytes-less_bytes xs ys old

pub AppendedAll-joins : (xs ys : List ℕ) (old middle new : FilesSeen) → AppendedAll xs old middle →
    AppendedAll ys middle new → AppendedAll (xs ++ ys) old new
AppendedAll-joins xs ys old middle new first second = record {
  made = made-pieces xs ys old.made middle.made new.made first.made second.made;
  left = left-pieces xs ys old.left middle.left new.left first.left second.left;
  faults = second.faults ∙ first.faults;
}

pub AppendedFront-stops : (xs ys : List ℕ) (old middle new : FilesSeen) → AppendedAll xs old middle →
    AppendedFront ys middle new → AppendedFront (xs ++ ys) old new
AppendedFront-stops xs ys old middle new first second = record {
  front = xs ++ second.front;
  rest = second.rest;
  splits = ap (λ (t : List ℕ). xs ++ t) second.splits ∙ sym (append_assoc xs second.front second.rest);
  missing = second.missing;
  made = made-pieces xs second.front old.made middle.made new.made first.made second.made;
  left = left-pieces xs second.front old.left middle.left new.left first.left second.left;
  short = λ left known.
      let less : left.bytes - length xs < length ys =
      second.short (less_bytes (length xs) left) (first.left ∙ ap (option_map (less_bytes (length xs))) known) in
      omega (arith, less, length-append xs ys);
  rose = let P : ℕ → Type 0 = λ n. Rose n new.faults in subst P first.faults second.rose;
  count = omega (arith, first.faults, second.count);
}

pub AppendedFront-breaks_off : (xs ys : List ℕ) (old new : FilesSeen) → AppendedFront xs old new →
    AppendedFront (xs ++ ys) old new
AppendedFront-breaks_off xs ys old new first = record {
  front = first.front;
  rest = first.rest ++ ys;
  splits = ap (λ (t : List ℕ). t ++ ys) first.splits ∙ append_assoc first.front first.rest ys;
  missing = omega (arith, first.missing, length-append first.rest ys);
  made = first.made;
  left = first.left;
  short = λ left known. let less : left.bytes < length xs = first.short left known in
      omega (arith, less, length-append xs ys);
  rose = first.rose;
  count = first.count;
}

-- the first t bytes were appended, and then n of the rest
pub AppendedAll-next : (t n : ℕ) (bytes : List ℕ) (old middle new : FilesSeen) →
    AppendedAll (take t bytes) old middle → AppendedAll (take n (take (length bytes - t) (drop t bytes))) middle new →
    AppendedAll (take (t + n) bytes) old new
AppendedAll-next t n bytes old middle new first second =
    let P : List ℕ → Type 0 = λ text. AppendedAll text old new in
    subst P (take-append-rest t n bytes)
    (AppendedAll-joins (take t bytes) (take n (take (length bytes - t) (drop t bytes))) old middle new first second)
