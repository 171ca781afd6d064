-- The bytes that are searched, where more bytes come.
use Rattle.std.proofs.Common.{◌≡◌, ◌∙◌, ℕ, ◌+◌, ◌-◌, ◌*◌, ◌≤◌, ◌<◌, List, [], ◌++◌, Option, Some, None, length, take, drop, get_or, min, All, Fits, w8, refl, sym, ap, inl, inr, arith, length-take-le}
use Rattle.std.proofs.lemmas.Bool.{cases_lt}
use Rattle.std.proofs.lemmas.List.{append-nil, take_all, drop_all, drop-append-le, take-append-le, drop-take}
use Rattle.std.proofs.lemmas.List.Elements.{All-from_get_or}
use Rattle.std.proofs.Math.Seq.{drop-append-add, take-append-add}
use Rattle.dada_model.specs.Observation.{Observation}
use Rattle.shard_search.specs.Sought.{Sought}
use Rattle.search_engine.specs.Scope.{bytes_before, bytes_in, count_before, limit_in_bytes, spectrum_size}

-- no more are taken, and no more dropped, than there are
take_min : (n : ℕ) (xs : List ℕ) → take n xs ≡ take (min n (length xs)) xs
take_min n xs = elim (cases_lt n (length xs)) [
  | inl less ↦ ap (λ m. take m xs) (let same : n ≡ min n (length xs) = omega arith in same)
  | inr more ↦ take_all n xs more ∙ sym (take_all (min n (length xs)) xs (omega arith))
]

drop_min : (n m : ℕ) (xs : List ℕ) → length xs ≡ m → drop n xs ≡ drop (min n m) xs
drop_min n m xs long = elim (cases_lt n m) [
  | inl less ↦ ap (λ k. drop k xs) (let same : n ≡ min n m = omega arith in same)
  | inr more ↦ drop_all n xs (omega (arith, long)) ∙ sym (drop_all (min n m) xs (omega (arith, long)))
]

-- what comes before a limit
before_more : (stop : Option ℕ) (before piece : List ℕ) → bytes_before stop (before ++ piece)
    ≡ bytes_before stop before ++ take (count_before stop (length before) (length piece)) piece
before_more None before piece =
    ap (λ xs. before ++ xs) (sym (take_all (length piece) piece (omega arith)))
before_more (Some t) before piece = elim (cases_lt t (length before)) [
  | inl less ↦
      let none : min (t - length before) (length piece) ≡ 0 = omega arith in
      take-append-le t before piece (omega arith) ∙ sym (append-nil (take t before))
      ∙ ap (λ n. take t before ++ take n piece) (sym none)
  | inr more ↦
      let n : ℕ = t - length before in
      let sum : t ≡ length before + n = omega arith in
      ap (λ m. take m (before ++ piece)) sum ∙ take-append-add before piece n
      ∙ ap (λ xs. xs ++ take n piece) (sym (take_all t before more))
      ∙ ap (λ xs. take t before ++ xs) (take_min n piece)
]

-- all that came lies before a limit where something more does
all_before : (stop : Option ℕ) (before : List ℕ) (n : ℕ) → 0 < count_before stop (length before) n →
    bytes_before stop before ≡ before
all_before None before n some = refl
all_before (Some t) before n some = take_all t before (omega (arith, some))

count_most : (stop : Option ℕ) (past n : ℕ) → count_before stop past n ≤ n
count_most None past n = omega arith
count_most (Some t) past n = omega arith

drop_more : (skip : ℕ) (xs ys : List ℕ) → drop skip (xs ++ ys) ≡ drop skip xs ++ drop (skip - length xs) ys
drop_more skip xs ys = elim (cases_lt skip (length xs)) [
  | inl less ↦
      let none : skip - length xs ≡ 0 = omega arith in
      drop-append-le skip xs ys (omega arith) ∙ ap (λ n. drop skip xs ++ drop n ys) (sym none)
  | inr more ↦
      let n : ℕ = skip - length xs in
      let sum : skip ≡ length xs + n = omega arith in
      ap (λ m. drop m (xs ++ ys)) sum ∙ drop-append-add xs ys n
      ∙ ap (λ zs. zs ++ drop n ys) (sym (drop_all skip xs more))
]

-- of a piece the bytes from one place to another
part_is : (skip to : ℕ) (stop : Option ℕ) (before piece : List ℕ) →
    to ≡ count_before stop (length before) (length piece) →
    drop (skip - length (bytes_before stop before)) (take to piece)
    ≡ take (to - min (skip - length before) to) (drop (min (skip - length before) to) piece)
part_is skip to stop before piece is = elim (cases_lt 0 to) [
  | inl some ↦
      let from : ℕ = min (skip - length before) to in
      let most = count_most stop (length before) (length piece) in
      let long = length-take-le to piece (omega (arith, is, most)) in
      let all = all_before stop before (length piece) (omega (arith, is, some)) in
      let sum : to ≡ from + (to - from) = omega arith in
      ap (λ xs. drop (skip - length xs) (take to piece)) all
      ∙ drop_min (skip - length before) to (take to piece) long
      ∙ ap (λ n. drop from (take n piece)) sum ∙ drop-take from (to - from) piece
  | inr none ↦
      let zero : to ≡ 0 = omega arith in
      let left : to - min (skip - length before) to ≡ 0 = omega arith in
      ap (λ n. drop (skip - length (bytes_before stop before)) (take n piece)) zero
      ∙ drop_all (skip - length (bytes_before stop before)) [] (omega arith)
      ∙ ap (λ n. take n (drop (min (skip - length before) to) piece)) (sym left)
]

pub slice_more : (skip to : ℕ) (stop : Option ℕ) (before piece : List ℕ) →
    to ≡ count_before stop (length before) (length piece) →
    drop skip (bytes_before stop (before ++ piece)) ≡ drop skip (bytes_before stop before)
    ++ take (to - min (skip - length before) to) (drop (min (skip - length before) to) piece)
slice_more skip to stop before piece is =
    ap (drop skip) (before_more stop before piece)
    ∙ ap (λ n. drop skip (bytes_before stop before ++ take n piece)) (sym is)
    ∙ drop_more skip (bytes_before stop before) (take to piece)
    ∙ ap (λ xs. drop skip (bytes_before stop before) ++ xs) (part_is skip to stop before piece is)

-- of no bytes none are searched
none_before : (stop : Option ℕ) → bytes_before stop [] ≡ []
none_before None = refl
none_before (Some t) = take_all t [] (omega arith)

pub none_in : (o : Observation) (c : Sought) → bytes_in o c [] ≡ []
none_in o c =
    ap (drop (c.first * spectrum_size o)) (none_before (limit_in_bytes (spectrum_size o) c.until))
    ∙ drop_all (c.first * spectrum_size o) [] (omega arith)

-- what a piece adds to the bytes that are searched
pub pieces_are : (o : Observation) (c : Sought) (skip to from past : ℕ) (stop : Option ℕ) (before bytes : List ℕ) →
    skip ≡ c.first * spectrum_size o → stop ≡ limit_in_bytes (spectrum_size o) c.until → length before ≡ past →
    to ≡ count_before stop past (length bytes) → from ≡ count_before (Some skip) past to →
    bytes_in o c (before ++ bytes) ≡ bytes_in o c before ++ take (to - from) (drop from bytes)
pieces_are o c skip to from past stop before bytes skip_is stop_is long to_is from_is =
    let first : ℕ = c.first * spectrum_size o in
    let limit : Option ℕ = limit_in_bytes (spectrum_size o) c.until in
    let last : to ≡ count_before limit (length before) (length bytes) =
    to_is ∙ ap (λ (s : Option ℕ). count_before s past (length bytes)) stop_is
    ∙ ap (λ n. count_before limit n (length bytes)) (sym long) in
    let begin : from ≡ min (first - length before) to =
    from_is ∙ ap (λ n. min (n - past) to) skip_is ∙ ap (λ n. min (first - n) to) (sym long) in
    slice_more first to limit before bytes last
    ∙ ap (λ n. bytes_in o c before ++ take (to - n) (drop n bytes)) (sym begin)

pub bytes_are : (bytes : List ℕ) → ((i : ℕ) → Fits w8 (get_or bytes i 0)) → All (λ b. b < 256) bytes
bytes_are bytes fits = All-from_get_or (λ b. b < 256) bytes 0 (λ i _. let fit = fits i in omega (arith, fit))
