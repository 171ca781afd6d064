-- The FILE words: names, parted into transfers by the words `+`.
-- Source: this project's choice.
use Rattle.std.specs.Prelude.{◌≡◌, ℕ, ◌+◌, ◌<◌, Bool, ◌&&◌, not, nat_le, nat_lt, List, [], ◌∷◌, filter, length, slice_index_or, codes, if◌then◌else◌}
use Rattle.std.specs.List.{list_all}
use Rattle.std.specs.Str.{bytes_eq}

abbrev pub is_plus : List ℕ → Bool
is_plus word = bytes_eq word (codes "+")

-- the names of all transfers
abbrev pub file_names : List (List ℕ) → List (List ℕ)
file_names files = filter (λ word. not (is_plus word)) files

-- the lists with one more word in the first
abbrev pub with_first : List ℕ → List (List (List ℕ)) → List (List (List ℕ))
with_first word [] = []
with_first word (names ∷ more) = (word ∷ names) ∷ more

-- the names of each transfer: what stands between the words `+`
abbrev pub transfers_in : List (List ℕ) → List (List (List ℕ))
transfers_in [] = [] ∷ []
transfers_in (word ∷ files) =
    if is_plus word then [] ∷ transfers_in files else with_first word (transfers_in files)

-- how many names stand before each transfer, after n names
abbrev pub starts_after : ℕ → List (List (List ℕ)) → List ℕ
starts_after n [] = []
starts_after n (names ∷ more) = n ∷ starts_after (n + length names) more

abbrev pub starts_in : List (List ℕ) → List ℕ
starts_in files = starts_after 0 (transfers_in files)

abbrev pub has_names : List (List ℕ) → Bool
has_names names = nat_lt 0 (length names)

-- at most 65535 names, in at most 8 transfers, each of which has a name
abbrev pub files_fit : List (List ℕ) → Bool
files_fit files = nat_le (length (file_names files)) 65535
    && (nat_le (length (transfers_in files)) 8 && list_all has_names (transfers_in files))

-- transfers begin with these of so many names: the first with name 0, each with a later one than the one before
pub record AreTransferStarts (starts : List ℕ) (count : ℕ) : Type 0 where
  pub some : 0 < length starts
  pub first : slice_index_or starts 0 count ≡ 0
  pub rise : (i : ℕ) → i + 1 < length starts
      → slice_index_or starts i count < slice_index_or starts (i + 1) count
  pub within : (i : ℕ) → i < length starts → slice_index_or starts i count < count
