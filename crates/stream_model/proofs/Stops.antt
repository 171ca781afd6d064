-- The first stop of a walk.
use Rattle.std.proofs.Common.{◌≡◌, ◌≢◌, ℕ, zero, suc, ◌+◌, ◌≤◌, ◌<◌, Bool, true, false, List, [], Option, Some, None, Result, Ok, Err, length, refl, sym, ap, ◌∙◌, arith, inl, inr}
use Rattle.std.specs.Prelude.{nat_lt, ◌==◌, if◌then◌else◌, filter_map}
use Rattle.std.specs.List.{range_with_len, cons_option}
use Rattle.std.proofs.lemmas.Bool.{cases_eq, ltb-false, le-ltb, eqb-true, eq-eqb}
use Rattle.dada_model.specs.Fields.{HeaderText, HeaderRefusal, header_of, fields_of}
use Rattle.obs_plan.specs.Later.{profile_of, later_offset_of}
use Rattle.obs_plan.specs.declared.fault.ObsFault.{ObsFault}
use Rattle.obs_plan.specs.declared.profile.Profile.{Profile}
use Rattle.stream_model.specs.WalkLaws.{Continues}
use Rattle.stream_model.specs.Walk.{FileStream, file_at, begin_of, transfer_of, observation_at, WalkStop, Whole, Gap, TooLong, first_or_whole, first_of_two, header_stop, later_stop, offset_stop, length_stop, stop_at, data_between}

-- the first that is there, of those at the numbers from a on
pub first_from : (f : ℕ → Option WalkStop) (a n k : ℕ) (stop : WalkStop) →
    ((j : ℕ) → a ≤ j → j < k → f j ≡ None) → a ≤ k → k < a + n → f k ≡ Some stop →
    first_or_whole (filter_map f (range_with_len a n)) ≡ stop
first_from f a zero k stop none from before is = absurd (omega arith)
first_from f a (suc n) k stop none from before is =
    let rest = filter_map f (range_with_len (a + 1) n) in
    elim (cases_eq a k) [
      | inl same ↦ ap (λ (o : Option WalkStop). first_or_whole (cons_option o rest)) (ap f same ∙ is)
      | inr other ↦
          let later : a < k = omega arith in
          ap (λ (o : Option WalkStop). first_or_whole (cons_option o rest)) (none a (omega arith) later)
          ∙ first_from f (a + 1) n k stop (λ j above below. none j (omega arith) below) (omega arith) (omega arith) is
    ]

-- there is none
pub none_from : (f : ℕ → Option WalkStop) (a n : ℕ) → ((j : ℕ) → a ≤ j → j < a + n → f j ≡ None) →
    filter_map f (range_with_len a n) ≡ []
none_from f a zero none = refl
none_from f a (suc n) none =
    ap (λ (o : Option WalkStop). cons_option o (filter_map f (range_with_len (a + 1) n))) (none a (omega arith)
    (omega arith))
    ∙ none_from f (a + 1) n (λ j above below. none j (omega arith) (omega arith))

whole_first : (first : Option WalkStop) (rest : List WalkStop) (o : Option WalkStop) →
    first_or_whole (cons_option first rest) ≡ Whole → (first ≡ Some Whole → o ≡ None) →
    (first ≡ None → first_or_whole rest ≡ Whole → o ≡ None) → o ≡ None
whole_first (Some stop) rest o whole some none = some (ap Some whole)
whole_first None rest o whole some none = none refl whole

-- where the first of them is no stop, there is none
pub whole_from : (f : ℕ → Option WalkStop) → ((j : ℕ) → f j ≢ Some Whole) → (a n k : ℕ) →
    first_or_whole (filter_map f (range_with_len a n)) ≡ Whole → a ≤ k → k < a + n → f k ≡ None
whole_from f never a zero k whole from before = absurd (omega arith)
whole_from f never a (suc n) k whole from before =
    whole_first (f a) (filter_map f (range_with_len (a + 1) n)) (f k) whole (λ here. absurd (never a here)) (λ here
    later.
    elim (cases_eq a k) [
      | inl same ↦ ap f (sym same) ∙ here
      | inr other ↦ whole_from f never (a + 1) n k later (omega arith) (omega arith)
    ])

-- ---- the stop of one file

never_offset : (k expected : ℕ) (r : Result ℕ ObsFault) → offset_stop k expected r ≢ Some Whole
never_offset k expected (Err fault) = λ e. cc
never_offset k expected (Ok found) = by_test (found == expected)
  where
    by_test : (b : Bool) → (if b then None else Some (Gap k expected found)) ≢ Some Whole
    by_test true = λ e. cc
    by_test false = λ e. cc

never_later : (k : ℕ) (profile : Profile) (expected : ℕ) (r : Result HeaderText HeaderRefusal) →
    later_stop k profile expected r ≢ Some Whole
never_later k profile expected (Err refusal) = λ e. cc
never_later k profile expected (Ok header) =
    never_offset k expected (later_offset_of profile (fields_of header.text))

never_two : (a b : Option WalkStop) → a ≢ Some Whole → b ≢ Some Whole → first_of_two a b ≢ Some Whole
never_two (Some stop) b first second = first
never_two None b first second = second

never_long : (b : Bool) (k : ℕ) → (if b then Some (TooLong k) else None) ≢ Some Whole
never_long true k = λ e. cc
never_long false k = λ e. cc

-- no file stops a walk as whole
pub never_whole : (s : FileStream) (k : ℕ) → stop_at s k ≢ Some Whole
unfolding stop_at header_stop length_stop
never_whole s k =
    let begin = begin_of s (transfer_of s.starts k) in
    let first = observation_at (file_at s begin) in
    never_two (header_stop s k) (length_stop s k)
    (never_later k (profile_of first) (first.obs_offset + length (data_between s.files begin k))
    (header_of (file_at s k)))
    (never_long (nat_lt s.max_bytes (length (data_between s.files 0 (k + 1)))) k)

-- ---- headers that continue

goes_on : (k expected : ℕ) (r : Result ℕ ObsFault) → offset_stop k expected r ≡ None → r ≡ Ok expected
goes_on k expected (Err fault) none = absurd cc
goes_on k expected (Ok found) none = ap Ok (by_test (found == expected) refl none)
  where
    by_test : (b : Bool) → (found == expected) ≡ b → (if b then None else Some (Gap k expected found)) ≡ None →
        found ≡ expected
    by_test true tested e = eqb-true found expected tested
    by_test false tested e = absurd cc

pub offset_goes_on : (k expected : ℕ) (r : Result ℕ ObsFault) → r ≡ Ok expected → offset_stop k expected r ≡ None
offset_goes_on k expected r is =
    ap (offset_stop k expected) is
    ∙ ap (λ (b : Bool). if b then None else Some (Gap k expected expected)) (eq-eqb expected expected refl)

later_header : (k : ℕ) (profile : Profile) (expected : ℕ) (r : Result HeaderText HeaderRefusal) →
    later_stop k profile expected r ≡ None → (header : HeaderText) × (r ≡ Ok header)
    × (later_offset_of profile (fields_of header.text) ≡ Ok expected)
later_header k profile expected (Err refusal) none = absurd cc
later_header k profile expected (Ok header) none =
    (header, refl, goes_on k expected (later_offset_of profile (fields_of header.text)) none)

-- the OBS_OFFSET that is expected of file k of a transfer
abbrev expected_at : FileStream → ℕ → ℕ → ℕ
expected_at s t k =
    (observation_at (file_at s (begin_of s t))).obs_offset + length (data_between s.files (begin_of s t) k)

abbrev profile_at : FileStream → ℕ → Profile
profile_at s t = profile_of (observation_at (file_at s (begin_of s t)))

-- the header of a file, where its transfer is known
pub stop_of_header : (s : FileStream) (t k : ℕ) → transfer_of s.starts k ≡ t →
    header_stop s k ≡ later_stop k (profile_at s t) (expected_at s t k) (header_of (file_at s k))
unfolding header_stop
stop_of_header s t k is =
    ap (λ (n : ℕ). later_stop k (profile_at s n) (expected_at s n k) (header_of (file_at s k))) is

pub continues : (s : FileStream) (t k : ℕ) → transfer_of s.starts k ≡ t → header_stop s k ≡ None → Continues s t k
continues s t k is none =
    let it = later_header k (profile_at s t) (expected_at s t k) (header_of (file_at s k))
    (sym (stop_of_header s t k is) ∙ none) in
    record { header = it.0; is_header = it.1; goes_on = it.2 }

pub none_of_continues : (s : FileStream) (t k : ℕ) → transfer_of s.starts k ≡ t → Continues s t k →
    header_stop s k ≡ None
none_of_continues s t k is it =
    stop_of_header s t k is
    ∙ ap (later_stop k (profile_at s t) (expected_at s t k)) it.is_header
    ∙ offset_goes_on k (expected_at s t k) _ it.goes_on

-- ---- both stops

-- two stops of a file are no stop together
pub both_none : (a b : Option WalkStop) → first_of_two a b ≡ None → (a ≡ None) × (b ≡ None)
both_none (Some stop) b e = absurd cc
both_none None b e = (refl, e)

pub none_of_both : (a b : Option WalkStop) → a ≡ None → b ≡ None → first_of_two a b ≡ None
none_of_both a b e f = ap (λ (o : Option WalkStop). first_of_two o b) e ∙ f

-- the data up to file k are within the limit
pub within_limit : (s : FileStream) (k : ℕ) → length (data_between s.files 0 (k + 1)) ≤ s.max_bytes → length_stop s k ≡
    None
unfolding length_stop
within_limit s k few =
    ap (λ (b : Bool). if b then Some (TooLong k) else None) (le-ltb s.max_bytes (length (data_between s.files 0
    (k + 1))) few)

pub limit_of_none : (s : FileStream) (k : ℕ) → length_stop s k ≡ None → length (data_between s.files 0 (k + 1)) ≤
    s.max_bytes
unfolding length_stop
limit_of_none s k is = by_test (nat_lt s.max_bytes (length (data_between s.files 0 (k + 1)))) refl is
  where
    by_test : (b : Bool) → nat_lt s.max_bytes (length (data_between s.files 0 (k + 1))) ≡ b →
        (if b then Some (TooLong k) else None) ≡ None → length (data_between s.files 0 (k + 1)) ≤ s.max_bytes
    by_test true tested e = absurd cc
    by_test false tested e = ltb-false s.max_bytes _ tested
