-- The parts of a made file.
use Rattle.std.proofs.Common.{◌≡◌, ℕ, zero, suc, ◌+◌, ◌-◌, ◌*◌, ◌≤◌, List, [], ◌∷◌, ◌++◌, length, map, sym, ◌∙◌, ap, ap₂, refl, subst, arith, append_assoc, append-nil, zero-add, zero-mul}
use Rattle.std.proofs.lemmas.List.FromFn.{map-range_with_len_more}
use Rattle.std.specs.List.{range_with_len}
use Rattle.psr_base.specs.Made.{FilesSeen, AppendedAll, AppendedFront, AppendsJoin}
use Rattle.psr_make.specs.Made.{spectrum_bytes, data_byte, data_part, made_header, made_file}
use Rattle.psr_make.specs.Making.{Making}
use Rattle.psr_make.specs.declared.spec.MakeSpec.{MakeSpec}

-- all data, made at once
pub all_data : (s : MakeSpec) (m : Making) (header spectra bytes : List ℕ) → m ≡ record { spec = s; made = 0 }
    → header ≡ made_header s
    → spectra ≡ data_part m.spec (m.made * spectrum_bytes m.spec) (length bytes)
    → length bytes ≡ s.spectra * spectrum_bytes s
    → header ++ spectra ≡ made_file s
unfolding made_file
all_data s m header spectra bytes is header_is spectra_is long =
    ap₂ (λ xs ys. xs ++ ys) header_is (spectra_is
    ∙ ap (λ (k : Making). data_part k.spec (k.made * spectrum_bytes k.spec) (length bytes)) is
    ∙ ap₂ (λ a n. data_part s a n) (zero-mul (spectrum_bytes s)) long)

-- spectra that follow one another
ranges_join : (f : ℕ → ℕ) (a m n : ℕ) → map f (range_with_len a m) ++ map f (range_with_len (a + m) n)
    ≡ map f (range_with_len a (m + n))
ranges_join f a m zero =
    let none : m ≡ m + 0 = omega arith in
    append-nil (map f (range_with_len a m)) ∙ ap (λ k. map f (range_with_len a k)) none
ranges_join f a m (suc n) =
    let last : suc n ≡ n + 1 = omega arith in
    let place : a + m + n ≡ a + (m + n) = omega arith in
    let count : m + n + 1 ≡ m + suc n = omega arith in
    let xs : List ℕ = map f (range_with_len a m) in
    let ys : List ℕ = map f (range_with_len (a + m) n) in
    ap (λ k. xs ++ map f (range_with_len (a + m) k)) last
    ∙ ap (λ zs. xs ++ zs) (map-range_with_len_more f (a + m) n (a + (m + n)) place)
    ∙ sym (append_assoc xs ys (f (a + (m + n)) ∷ []))
    ∙ ap (λ zs. zs ++ f (a + (m + n)) ∷ []) (ranges_join f a m n)
    ∙ sym (map-range_with_len_more f a (m + n) (a + (m + n)) refl)
    ∙ ap (λ k. map f (range_with_len a k)) count

parts_join : (s : MakeSpec) (m n : ℕ) → data_part s 0 m ++ data_part s m n ≡ data_part s 0 (m + n)
unfolding data_part
parts_join s m n =
    ap (λ k. map (data_byte s) (range_with_len 0 m) ++ map (data_byte s) (range_with_len k n)) (sym (zero-add m))
    ∙ ranges_join (data_byte s) 0 m n

-- the file as far as so many spectra
abbrev pub file_to : MakeSpec → ℕ → List ℕ
file_to s made = made_header s ++ data_part s 0 (made * spectrum_bytes s)

-- the spectra from `from` up to `to`
abbrev pub spectra_of : MakeSpec → ℕ → ℕ → List ℕ
spectra_of s from to = data_part s (from * spectrum_bytes s) ((to - from) * spectrum_bytes s)

pub file_grows : (s : MakeSpec) (from to : ℕ) → from ≤ to → file_to s from ++ spectra_of s from to ≡ file_to s to
file_grows s from to order =
    let n : ℕ = spectrum_bytes s in
    let sum : from * n + (to - from) * n ≡ (from + (to - from)) * n = omega arith in
    let upto : from + (to - from) ≡ to = omega arith in
    append_assoc (made_header s) (data_part s 0 (from * n)) (spectra_of s from to)
    ∙ ap (λ xs. made_header s ++ xs) (parts_join s (from * n) ((to - from) * n)
    ∙ ap (data_part s 0) (sum ∙ ap (λ k. k * n) upto))

pub whole_file : (s : MakeSpec) (made : ℕ) → made ≡ s.spectra → file_to s made ≡ made_file s
unfolding made_file
whole_file s made is = ap (λ k. file_to s k) is

pub first_part : (s : MakeSpec) (made : ℕ) → made ≡ 0 → made_header s ≡ file_to s made
unfolding data_part
first_part s made is =
    sym (append-nil (made_header s)) ∙ ap (λ k. made_header s ++ data_part s 0 k)
    (sym (ap (λ m. m * spectrum_bytes s) is ∙ zero-mul (spectrum_bytes s)))

-- ---- appends of the parts

module _ (law : AppendsJoin) (s : MakeSpec) where
  pub begun : (made : ℕ) (old new : FilesSeen) → made ≡ 0 → AppendedAll (made_header s) old new
      → AppendedAll (file_to s made) old new
  begun made old new is all = subst (λ (xs : List ℕ). AppendedAll xs old new) (first_part s made is) all

  pub grown : (from to : ℕ) (old middle new : FilesSeen) → from ≤ to → AppendedAll (file_to s from) old middle
      → AppendedAll (spectra_of s from to) middle new → AppendedAll (file_to s to) old new
  grown from to old middle new order first second =
      subst (λ (xs : List ℕ). AppendedAll xs old new) (file_grows s from to order)
      (law.joins (file_to s from) (spectra_of s from to) old middle new first second)

  pub whole : (made : ℕ) (old new : FilesSeen) → made ≡ s.spectra → AppendedAll (file_to s made) old new
      → AppendedAll (made_file s) old new
  whole made old new is all = subst (λ (xs : List ℕ). AppendedAll xs old new) (whole_file s made is) all

  -- a front of a part is a front of the file
  pub part_stops : (to : ℕ) (old new : FilesSeen) → to ≤ s.spectra → AppendedFront (file_to s to) old new
      → AppendedFront (made_file s) old new
  part_stops to old new order front =
      subst (λ (xs : List ℕ). AppendedFront xs old new) (file_grows s to s.spectra order ∙ whole_file s s.spectra refl)
      (law.breaks_off (file_to s to) (spectra_of s to s.spectra) old new front)

  pub stops : (from to : ℕ) (old middle new : FilesSeen) → from ≤ to → to ≤ s.spectra
      → AppendedAll (file_to s from) old middle → AppendedFront (spectra_of s from to) middle new
      → AppendedFront (made_file s) old new
  stops from to old middle new order within first second =
      part_stops to old new within (subst (λ (xs : List ℕ). AppendedFront xs old new) (file_grows s from to order)
      (law.stops (file_to s from) (spectra_of s from to) old middle new first second))

  pub header_stops : (old new : FilesSeen) → AppendedFront (made_header s) old new → AppendedFront (made_file s) old new
  header_stops old new front =
      part_stops 0 old new (omega arith) (subst (λ (xs : List ℕ). AppendedFront xs old new) (first_part s 0 refl) front)
