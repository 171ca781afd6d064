-- The files of transfers.
use Rattle.std.proofs.Common.{◌≡◌, ℕ, zero, suc, ◌+◌, ◌-◌, ◌≤◌, ◌<◌, Bool, true, false, cond, List, [], ◌∷◌, ◌++◌, length, take, get_or, sym, ap, ◌∙◌, arith, inl, inr}
use Rattle.std.specs.Prelude.{nat_le}
use Rattle.std.specs.List.{prefix_len}
use Rattle.std.proofs.lemmas.Bool.{cases_lt, le-leb, lt-leb}
use Rattle.std.proofs.lemmas.List.{get_or_past, append-nil, take_all}
use Rattle.std.proofs.lemmas.List.FromFn.{take-map-range_with_len, map-range_with_len_more, length-map-range_with_len}
use Rattle.std.proofs.lemmas.Grind.{flat_map-append}
use Rattle.stream_model.specs.Blocks.{joined_data}
use Rattle.stream_model.specs.Walk.{FileStream, data_between, begin_of, transfer_of, transfer_data, walk_data}
use Rattle.stream_model.specs.WalkLaws.{AreStarts, IsIn}
use Rattle.stream_model.proofs.FileData.{data_join, data_none}

-- the first n pass, and the next one doesn't
prefix_is : (p : ℕ → Bool) (xs : List ℕ) (n d : ℕ) → n ≤ length xs → ((i : ℕ) → i < n → p (get_or xs i d) ≡ true) →
    (n < length xs → p (get_or xs n d) ≡ false) → prefix_len p xs ≡ n
prefix_is p [] n d few pass stop = omega arith
prefix_is p (x ∷ xs) zero d few pass stop =
    ap (λ (b : Bool). cond b (1 + prefix_len p xs) 0) (stop (omega arith))
prefix_is p (x ∷ xs) (suc n) d few pass stop =
    ap (λ (b : Bool). cond b (1 + prefix_len p xs) 0) (pass 0 (omega arith))
    ∙ ap (λ (m : ℕ). 1 + m) (prefix_is p xs n d (omega arith) (λ i below. pass (suc i) (omega arith)) (λ below. stop
    (omega
    arith)))
    ∙ omega arith

-- an earlier transfer begins no later
pub begins_rise : (s : FileStream) (t d : ℕ) → AreStarts s.starts (length s.files) → t + d < length s.starts →
    begin_of s t ≤ begin_of s (t + d)
begins_rise s t zero are below = let e : t + 0 ≡ t = omega arith in rw e (omega arith)
begins_rise s t (suc d) are below =
    let e : t + suc d ≡ t + d + 1 = omega arith in
    let more = begins_rise s t d are (omega arith) in
    let step = are.rise (t + d) (omega arith) in
    rw e (omega arith)

-- the transfer after this one begins later, or past all files
pub begins_next : (s : FileStream) (t : ℕ) → AreStarts s.starts (length s.files) → t < length s.starts →
    (begin_of s t < begin_of s (t + 1)) × (begin_of s (t + 1) ≤ length s.files)
begins_next s t are below = elim (cases_lt (t + 1) (length s.starts)) [
  | inl more ↦ (are.rise t more, omega (arith, are.within (t + 1) more))
  | inr last ↦
      let past : begin_of s (t + 1) ≡ length s.files = get_or_past s.starts (t + 1) (length s.files) last in
      (omega (arith, past, are.within t below), omega (arith, past))
]

-- the transfer of a file is the one that it is in
pub transfer_is : (s : FileStream) (t k : ℕ) → AreStarts s.starts (length s.files) → IsIn s t k →
    transfer_of s.starts k ≡ t
unfolding transfer_of
transfer_is s t k are it =
    let passes : (i : ℕ) → i < t + 1 → nat_le (get_or s.starts i (length s.files)) k ≡ true = λ i below.
    let e : i + (t - i) ≡ t = omega arith in
    let there : i + (t - i) < length s.starts = omega (arith, it.there) in
    let rise : begin_of s i ≤ begin_of s t = rw e at (begins_rise s i (t - i) are there) in
    le-leb _ k (omega (arith, rise, it.from)) in
    let stops : t + 1 < length s.starts → nat_le (get_or s.starts (t + 1) (length s.files)) k ≡ false = λ more.
    lt-leb _ k it.before in
    let count = prefix_is (λ start. nat_le start k) s.starts (t + 1) (length s.files) (omega (arith, it.there)) passes
    stops in
    ap (λ (n : ℕ). n - 1) count ∙ omega arith

-- the data of one transfer more
pub one_more : (s : FileStream) (t : ℕ) → t < length s.starts →
    take (t + 1) (walk_data s) ≡ take t (walk_data s) ++ transfer_data s t ∷ []
unfolding walk_data
one_more s t below =
    take-map-range_with_len (transfer_data s) 0 (length s.starts) (t + 1) (omega arith)
    ∙ map-range_with_len_more (transfer_data s) 0 t t (omega arith)
    ∙ ap (λ (xs : List (List ℕ)). xs ++ transfer_data s t ∷ []) (sym (take-map-range_with_len (transfer_data s) 0
    (length
    s.starts) t (omega arith)))

-- the data of transfers are joined to those of the files of the next
pub joined_to : (s : FileStream) (t k : ℕ) → AreStarts s.starts (length s.files) → t ≤ length s.starts →
    begin_of s t ≤ k → joined_data (take t (walk_data s)) ++ data_between s.files (begin_of s t) k
    ≡ data_between s.files 0 k
unfolding joined_data
joined_to s zero k are few from = ap (λ (n : ℕ). data_between s.files n k) are.first
joined_to s (suc t) k are few from =
    let whole = walk_data s in
    let a = begin_of s t in
    let b = begin_of s (t + 1) in
    let next = begins_next s t are (omega arith) in
    let before : joined_data (take t whole) ++ data_between s.files a b ≡ data_between s.files 0 b =
    joined_to s t b are (omega arith) (omega (arith, next.0)) in
    let all : joined_data (take (t + 1) whole) ≡ data_between s.files 0 b =
    ap joined_data (one_more s t (omega arith))
    ∙ flat_map-append (λ (one : List ℕ). one) (take t whole) (data_between s.files a b ∷ [])
    ∙ ap (λ (ys : List ℕ). joined_data (take t whole) ++ ys) (append-nil (data_between s.files a b))
    ∙ before in
    let e : suc t ≡ t + 1 = omega arith in
    rw e (ap (λ (xs : List ℕ). xs ++ data_between s.files b k) all
    ∙ data_join s.files 0 b k (omega arith) (omega arith) (rw e at from))

-- those of all transfers
pub joined_all : (s : FileStream) → AreStarts s.starts (length s.files) →
    joined_data (walk_data s) ≡ data_between s.files 0 (length s.files)
unfolding walk_data
joined_all s are =
    let n = length s.starts in
    let past : begin_of s n ≡ length s.files = get_or_past s.starts n (length s.files) (omega arith) in
    let all : take n (walk_data s) ≡ walk_data s =
    take_all n (walk_data s) (omega (arith, length-map-range_with_len (transfer_data s) 0 n)) in
    sym (append-nil (joined_data (walk_data s)))
    ∙ ap (λ (ys : List ℕ). joined_data (walk_data s) ++ ys) (sym (data_none s.files (begin_of s n)))
    ∙ ap (λ (xs : List (List ℕ)). joined_data xs ++ data_between s.files (begin_of s n) (begin_of s n)) (sym all)
    ∙ joined_to s n (begin_of s n) are (omega arith) (omega arith)
    ∙ ap (data_between s.files 0) past
