-- The files of data that are cut into pieces, as more data come.
use Rattle.std.proofs.Common.{◌≡◌, ℕ, zero, suc, ◌+◌, ◌-◌, ◌*◌, ◌<◌, ◌≤◌, List, [], ◌∷◌, ◌++◌, length, take, drop, refl, sym, ap, ◌∙◌, append_assoc, append-nil, length-append, arith}
use Rattle.std.proofs.lemmas.List.{take_all, take-append-le, drop-append-le, length-drop, drop_all}
use Rattle.std.proofs.Math.Seq.{take-append-add}
use Rattle.std.proofs.lemmas.List.FromFn.{map-range_with_len_more, length-map-range_with_len}
use Rattle.std.proofs.lemmas.Nat.{div-mul-add}
use Rattle.stream_model.specs.Recorded.{Recording, file_data, file_count, recorded_file, recorded_files}
use Rattle.dada_recorder.specs.Making.{IsFrontOf, IsFileFront}
use Rattle.dada_recorder.specs.TransferFiles.{header_file, first_files, longer_file}
use Rattle.dada_recorder.proofs.Fronts.{front_itself, front_then, front_follows, front_longer}

-- ---- how many files there are

-- the data end in the file after n full ones
pub count_is : (z n used : ℕ) (bytes : List ℕ) → 0 < z → length bytes ≡ n * z + used → used ≤ z →
    (used ≡ 0 → n ≡ 0) → file_count z bytes ≡ n + 1
unfolding file_count
count_is z n zero bytes some is within tight =
    let first = tight refl in
    let none : length bytes - 1 ≡ 0 * z + 0 = grind (arith, is, first) in
    rw (none, div-mul-add 0 z 0 some, first) refl
count_is z n (suc k) bytes some is within tight =
    let less : length bytes - 1 ≡ n * z + k = omega (arith, is) in
    rw (less, div-mul-add n z k (omega (arith, within))) refl

-- ---- one file

data_stays : (z i : ℕ) (xs ys : List ℕ) → i * z + z ≤ length xs → file_data z (xs ++ ys) i ≡ file_data z xs i
unfolding file_data
data_stays z i xs ys full =
    let rest = length-drop (i * z) xs in
    rw (
      drop-append-le (i * z) xs ys (omega (arith, full)),
      take-append-le z (drop (i * z) xs) ys
          (omega (arith, full, rest)),
    ) refl

-- a file that is full stays so
pub file_stays : (r : Recording) (i : ℕ) (xs ys : List ℕ) → i * r.file_size + r.file_size ≤ length xs →
    recorded_file r (xs ++ ys) i ≡ recorded_file r xs i
unfolding recorded_file
file_stays r i xs ys full =
    rw (data_stays r.file_size i xs ys full) refl

pub rest_of : (z i : ℕ) (xs : List ℕ) → length xs ≤ i * z + z → file_data z xs i ≡ drop (i * z) xs
unfolding file_data
rest_of z i xs within = let rest = length-drop (i * z) xs in take_all z (drop (i * z) xs) (omega (arith, within, rest))

-- bytes for which it has room come behind its data
pub file_longer : (r : Recording) (i : ℕ) (xs ys : List ℕ) → i * r.file_size ≤ length xs →
    length xs + length ys ≤ i * r.file_size + r.file_size →
    recorded_file r (xs ++ ys) i ≡ longer_file ys (recorded_file r xs i)
unfolding recorded_file
file_longer r i xs ys begun within =
    let z = r.file_size in
    let both = length-append xs ys in
    rw (
      rest_of z i (xs ++ ys) (omega (arith, within, both)),
      drop-append-le (i * z) xs ys begun,
      rest_of z i xs (omega (arith, within)),
      append_assoc,
    ) refl

-- one that is begun has its header alone
pub file_begun : (r : Recording) (i : ℕ) (xs : List ℕ) → length xs ≤ i * r.file_size →
    recorded_file r xs i ≡ header_file r i
unfolding recorded_file file_data
file_begun r i xs past =
    rw (drop_all (i * r.file_size) xs past, take_all {A = ℕ} r.file_size [] (omega arith), append-nil) refl

-- more data come, and it may have some of them
file_grows : (r : Recording) (i : ℕ) (xs ys : List ℕ) → i * r.file_size ≤ length xs →
    length xs ≤ i * r.file_size + r.file_size → IsFrontOf (recorded_file r xs i) (recorded_file r (xs ++ ys) i)
unfolding recorded_file file_data
file_grows r i xs ys begun within =
    let z = r.file_size in
    let rest = length-drop (i * z) xs in
    let here : take z (drop (i * z) xs) ≡ drop (i * z) xs =
    take_all z (drop (i * z) xs) (omega (arith, within, rest)) in
    let there : take z (drop (i * z) (xs ++ ys))
    ≡ drop (i * z) xs ++ take (z - length (drop (i * z) xs)) ys =
    rw (drop-append-le (i * z) xs ys begun) (take_past z (drop (i * z) xs) ys (omega (arith, within, rest))) in
    record {
      name = refl;
      rest = take (z - length (drop (i * z) xs)) ys;
      splits = rw (there, here, append_assoc) refl;
    }
  where
    take_past : (n : ℕ) (us vs : List ℕ) → length us ≤ n → take n (us ++ vs) ≡ us ++ take (n - length us) vs
    take_past n us vs long =
        let all : n ≡ length us + (n - length us) = omega (arith, long) in
        ap (λ (m : ℕ). take m (us ++ vs)) all ∙ take-append-add us vs (n - length us)

-- ---- the first files

pub one_file_more : (r : Recording) (xs : List ℕ) (n : ℕ) →
    first_files r xs (n + 1) ≡ first_files r xs n ++ recorded_file r xs n ∷ []
unfolding first_files
one_file_more r xs n = map-range_with_len_more (recorded_file r xs) 0 n n (omega arith)

pub first_files_stay : (r : Recording) (xs ys : List ℕ) (n : ℕ) → n * r.file_size ≤ length xs →
    first_files r (xs ++ ys) n ≡ first_files r xs n
unfolding first_files
first_files_stay r xs ys zero full = refl
first_files_stay r xs ys (suc n) full =
    let next : suc n * r.file_size ≡ n * r.file_size + r.file_size = omega arith in
    let one : suc n ≡ n + 1 = omega arith in
    let same : first_files r (xs ++ ys) (n + 1) ≡ first_files r xs (n + 1) =
    rw (
      one_file_more r (xs ++ ys) n,
      one_file_more r xs n,
      first_files_stay r xs ys n (omega (arith, full, next)),
      file_stays r n xs ys (omega (arith, full, next)),
    ) refl in
    ap (first_files r (xs ++ ys)) one ∙ same ∙ ap (first_files r xs) (sym one)

-- bytes for which the last file has room
pub last_longer : (r : Recording) (xs ys : List ℕ) (n : ℕ) → n * r.file_size ≤ length xs →
    length xs + length ys ≤ n * r.file_size + r.file_size →
    first_files r (xs ++ ys) (n + 1) ≡ first_files r xs n ++ longer_file ys (recorded_file r xs n) ∷ []
last_longer r xs ys n begun within =
    rw (one_file_more r (xs ++ ys) n, first_files_stay r xs ys n begun, file_longer r n xs ys begun within) refl

-- the next file is begun
pub next_begun : (r : Recording) (xs : List ℕ) (n : ℕ) → length xs ≤ n * r.file_size →
    first_files r xs (n + 1) ≡ first_files r xs n ++ header_file r n ∷ []
next_begun r xs n past =
    rw (one_file_more r xs n, file_begun r n xs past) refl

some_more : (r : Recording) (xs : List ℕ) (n m : ℕ) → IsFileFront (first_files r xs n) (first_files r xs (n + m))
some_more r xs n zero =
    let same : n + 0 ≡ n = omega arith in
    rw same (front_itself (first_files r xs n))
some_more r xs n (suc m) =
    let next : n + suc m ≡ n + m + 1 = omega arith in
    rw (next, one_file_more r xs (n + m)) (front_follows (first_files r xs n) (first_files r xs (n + m))
    (first_files r xs (n + m) ++ recorded_file r xs (n + m) ∷ []) (some_more r xs n m)
    (front_then (first_files r xs (n + m)) (recorded_file r xs (n + m) ∷ [])))

-- the files of some data, of which the last may get more, are a front of the files of more data
pub first_are_front : (r : Recording) (xs ys : List ℕ) (n : ℕ) → n * r.file_size ≤ length xs →
    length xs ≤ n * r.file_size + r.file_size → n < file_count r.file_size (xs ++ ys) →
    IsFileFront (first_files r xs (n + 1)) (recorded_files r (xs ++ ys))
unfolding recorded_files first_files
first_are_front r xs ys n begun within few =
    let count = file_count r.file_size (xs ++ ys) in
    let all : n + 1 + (count - (n + 1)) ≡ count = omega (arith, few) in
    front_follows (first_files r xs (n + 1)) (first_files r (xs ++ ys) (n + 1)) (first_files r (xs ++ ys) count)
    (rw (one_file_more r xs n, one_file_more r (xs ++ ys) n, first_files_stay r xs ys n begun)
    (front_longer (first_files r xs n) [] (recorded_file r xs n) (recorded_file r (xs ++ ys) n)
    (file_grows r n xs ys begun within)))
    (rw all at (some_more r (xs ++ ys) (n + 1) (count - (n + 1))))

-- all files of some data
pub all_files : (r : Recording) (z n used : ℕ) (xs : List ℕ) → r.file_size ≡ z → 0 < z → length xs ≡ n * z + used →
    used ≤ z → (used ≡ 0 → n ≡ 0) → recorded_files r xs ≡ first_files r xs (n + 1)
unfolding recorded_files first_files
all_files r z n used xs size some is within tight =
    rw (size, count_is z n used xs some is within tight) refl

-- no data give one file, which has its header alone
pub no_data_files : (r : Recording) → 0 < r.file_size → recorded_files r [] ≡ header_file r 0 ∷ []
unfolding first_files
no_data_files r some =
    all_files r r.file_size 0 0 [] refl some (omega arith) (omega arith) (λ none. refl)
    ∙ next_begun r [] 0 (omega arith)

pub length-first_files : (r : Recording) (xs : List ℕ) (n : ℕ) → length (first_files r xs n) ≡ n
unfolding first_files
length-first_files r xs n = length-map-range_with_len (recorded_file r xs) 0 n
