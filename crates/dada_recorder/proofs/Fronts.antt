-- Fronts of files, and what is enough for them.
use Rattle.std.proofs.Common.{◌≡◌, ℕ, ◌≤◌, List, [], ◌∷◌, ◌++◌, length, refl, ap, ◌∙◌, append_assoc, length-append, arith, inl, inr}
use Rattle.psr_base.specs.Made.{NamedBytes}
use Rattle.dada_recorder.specs.Making.{Outset, total_bytes, names, AreNew, HasEnoughFor, IsFrontOf, IsFileFront}

pub front_itself : (files : List NamedBytes) → IsFileFront files files
front_itself [] = tt
front_itself (file ∷ files) = inl (refl, front_itself files)

pub front_then : (files more : List NamedBytes) → IsFileFront files (files ++ more)
front_then [] more = tt
front_then (file ∷ files) more = inl (refl, front_then files more)

-- behind the same files
pub front_behind : (files some all : List NamedBytes) → IsFileFront some all →
    IsFileFront (files ++ some) (files ++ all)
front_behind [] some all is = is
front_behind (file ∷ files) some all is = inl (refl, front_behind files some all is)

front_of_front : (a b c : NamedBytes) → IsFrontOf a b → IsFrontOf b c → IsFrontOf a c
front_of_front a b c first second = record {
  name = first.name ∙ second.name;
  rest = first.rest ++ second.rest;
  splits = second.splits ∙ ap (λ (bytes : List ℕ). bytes ++ second.rest) first.splits
      ∙ append_assoc a.bytes first.rest second.rest;
}

no_files : (files : List NamedBytes) → IsFileFront files [] → files ≡ []
no_files [] is = refl
no_files (file ∷ files) is = absurd is

pub front_follows : (a b c : List NamedBytes) → IsFileFront a b → IsFileFront b c → IsFileFront a c
front_follows [] b c first second = tt
front_follows (x ∷ a) [] c first second = absurd first
front_follows (x ∷ a) (y ∷ b) [] first second = absurd second
front_follows (x ∷ a) (y ∷ b) (z ∷ c) (inl first) (inl second) =
    inl (first.0 ∙ second.0, front_follows a b c first.1 second.1)
front_follows (x ∷ a) (y ∷ b) (z ∷ c) (inl first) (inr second) =
    inr (no_files a (rw second.0 at first.1), rw first.0 second.1)
front_follows (x ∷ a) (y ∷ b) (z ∷ c) (inr first) (inl second) =
    inr (first.0, rw second.0 at first.1)
front_follows (x ∷ a) (y ∷ b) (z ∷ c) (inr first) (inr second) =
    inr (first.0, front_of_front x y z first.1 second.1)

-- the last file may have more bytes, and more files may come
pub front_longer : (files later : List NamedBytes) (short long : NamedBytes) → IsFrontOf short long →
    IsFileFront (files ++ short ∷ []) (files ++ long ∷ later)
front_longer files later short long is = front_behind files (short ∷ []) (long ∷ later) (inr (refl, is))

pub front_before : (files more all : List NamedBytes) → IsFileFront (files ++ more) all → IsFileFront files all
front_before files more all is = front_follows files (files ++ more) all (front_then files more) is

-- ---- what is enough

count_front : (files all : List NamedBytes) → IsFileFront files all → length files ≤ length all
count_front [] all is = omega arith
count_front (file ∷ files) [] is = absurd is
count_front (file ∷ files) (whole ∷ more) (inl is) = let rest = count_front files more is.1 in omega (arith, rest)
count_front (file ∷ files) (whole ∷ more) (inr is) = let none = ap length is.0 in omega (arith, none)

pub bytes_front : (files all : List NamedBytes) → IsFileFront files all → total_bytes files ≤ total_bytes all
unfolding total_bytes
bytes_front [] all is = omega arith
bytes_front (file ∷ files) [] is = absurd is
bytes_front (file ∷ files) (whole ∷ more) (inl is) =
    let rest = bytes_front files more is.1 in
    let same = ap (λ (f : NamedBytes). length f.bytes) is.0 in
    omega (arith, rest, same)
bytes_front (file ∷ files) (whole ∷ more) (inr is) =
    let none = ap total_bytes is.0 in
    let parts = ap length is.1.splits ∙ length-append file.bytes is.1.rest in
    omega (arith, none, parts)

new_front : (files all : List NamedBytes) (there : List (List ℕ)) → IsFileFront files all → AreNew there (names all) →
    AreNew there (names files)
new_front [] all there is new = tt
new_front (file ∷ files) [] there is new = absurd is
new_front (file ∷ files) (whole ∷ more) there (inl is) new =
    rw is.0 (new.0, new_front files more (there ++ whole.name ∷ []) is.1 new.1)
new_front (file ∷ files) (whole ∷ more) there (inr is) new =
    (rw is.1.name new.0, rw is.0 tt)

pub enough_front : (outset : Outset) (files all : List NamedBytes) → IsFileFront files all →
    HasEnoughFor outset all → HasEnoughFor outset files
enough_front outset files all is enough =
    let count = count_front files all is in
    let bytes = bytes_front files all is in
    record {
      left = enough.left;
      is_told = enough.is_told;
      count = omega (arith, count, enough.count);
      bytes = omega (arith, bytes, enough.bytes);
      new = new_front files all (names outset.files) is enough.new;
    }
