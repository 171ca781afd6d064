-- The data of files in a row.
use Rattle.std.proofs.Common.{◌≡◌, ℕ, ◌+◌, ◌≤◌, ◌<◌, List, [], ◌∷◌, ◌++◌, length, take, drop, sym, ap, ◌∙◌, arith}
use Rattle.std.specs.Prelude.{slice_index_or}
use Rattle.std.specs.List.{flat_map}
use Rattle.std.proofs.lemmas.List.{take_more, take-take, take-append-drop, drop-append-le, drop_all, length-take, length-take-le, append-nil, length-append}
use Rattle.std.proofs.lemmas.Grind.{flat_map-append}
use Rattle.stream_model.specs.Walk.{data_of, data_between}

-- of one file more
pub data_more : (files : List (List ℕ)) (from k : ℕ) → from ≤ k → k < length files →
    data_between files from (k + 1) ≡ data_between files from k ++ data_of (slice_index_or files k [])
unfolding data_between
data_more files from k low high =
    let file = slice_index_or files k [] in
    let count : length (take k files) ≡ k = length-take-le k files (omega arith) in
    ap (λ (xs : List (List ℕ)). flat_map data_of (drop from xs)) (take_more files k [] high)
    ∙ ap (flat_map data_of) (drop-append-le from (take k files) (file ∷ []) (omega (arith, count)))
    ∙ flat_map-append data_of (drop from (take k files)) (file ∷ [])
    ∙ ap (λ (ys : List ℕ). flat_map data_of (drop from (take k files)) ++ ys) (append-nil (data_of file))

-- of no file
pub data_none : (files : List (List ℕ)) (k : ℕ) → data_between files k k ≡ []
unfolding data_between
data_none files k = ap (flat_map data_of) (drop_all k (take k files) (omega (arith, length-take k files)))

-- of files and those after them
pub data_join : (files : List (List ℕ)) (from mid to : ℕ) → from ≤ mid → from ≤ length files → mid ≤ to →
    data_between files from mid ++ data_between files mid to ≡ data_between files from to
unfolding data_between
data_join files from mid to low there high =
    let front : take mid (take to files) ≡ take mid files = take-take mid to files high in
    let whole : take mid files ++ drop mid (take to files) ≡ take to files =
    ap (λ (xs : List (List ℕ)). xs ++ drop mid (take to files)) (sym front) ∙ take-append-drop mid (take to files) in
    sym (ap (λ (xs : List (List ℕ)). flat_map data_of (drop from xs)) (sym whole)
    ∙ ap (flat_map data_of) (drop-append-le from (take mid files) (drop mid (take to files)) (omega (
      arith,
      length-take
          mid files,
    )))
    ∙ flat_map-append data_of (drop from (take mid files)) (drop mid (take to files)))

pub data_grows : (files : List (List ℕ)) (mid to : ℕ) → mid ≤ to →
    length (data_between files 0 mid) ≤ length (data_between files 0 to)
data_grows files mid to high =
    omega (
      arith,
      ap (length {A = ℕ}) (data_join files 0 mid to (omega arith) (omega arith) high),
      length-append (data_between files 0 mid) (data_between files mid to),
    )
