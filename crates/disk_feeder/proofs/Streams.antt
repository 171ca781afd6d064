-- The files of a plan as a walk sees them.
use Rattle.std.proofs.Common.{◌≡◌, ℕ, ◌+◌, ◌<◌, ◌≤◌, List, [], Option, Some, Result, Ok, length, get_or, sym, ap, ◌∙◌, inl, inr, arith}
use Rattle.std.proofs.lemmas.Bool.{cases_lt}
use Rattle.std.proofs.lemmas.List.{get_or_past}
use Rattle.std.specs.Prelude.{slice_get, slice_index_or}
use Rattle.std.proofs.lemmas.Option.{slice_get-get_or}
use Rattle.dada_model.specs.Fields.{HeaderText, HeaderRefusal, header_of, fields_of}
use Rattle.dada_model.specs.Observation.{Observation, observation_in}
use Rattle.obs_plan.specs.Later.{profile_of}
use Rattle.obs_plan.specs.declared.profile.Profile.{Profile}
use Rattle.stream_model.specs.Walk.{FileStream, file_at, begin_of, transfer_of, data_between, observation_at, fields_past, header_stop, later_stop}
use Rattle.stream_model.specs.WalkLaws.{AreStarts, IsIn}
use Rattle.psr_base.specs.Told.{Told}
use Rattle.disk_feeder.specs.declared.place.First.{First}
use Rattle.disk_feeder.specs.Plan.{Plan, stream_of, begin_at, AreToldTo, AreAccepted, HeadersAreTold}

-- the next transfer begins within the files, or past them
pub begin_most : (starts : List ℕ) (count t : ℕ) → AreStarts starts count → t < length starts →
    begin_at starts count (t + 1) ≤ count
begin_most starts count t are there = elim (cases_lt (t + 1) (length starts)) [
  | inl more ↦ omega (arith, are.within (t + 1) more)
  | inr last ↦ let past : begin_at starts count (t + 1) ≡ count = get_or_past starts (t + 1) count last in omega arith
]

module _ (plan : Plan) (files : List (List ℕ)) (count : length files ≡ length plan.names) where
  pub starts_of : AreStarts plan.starts (length plan.names) → AreStarts plan.starts (length files)
  starts_of h = rw count h

  pub begin_is : (t : ℕ) → begin_of (stream_of plan files) t ≡ begin_at plan.starts (length plan.names) t
  begin_is t = ap (λ (n : ℕ). slice_index_or plan.starts t n) count

  -- an open file, or one that is to be opened, is in its transfer
  pub is_in : (t k : ℕ) → t < length plan.starts → begin_at plan.starts (length plan.names) t ≤ k →
      k < begin_at plan.starts (length plan.names) (t + 1) → IsIn (stream_of plan files) t k
  is_in t k there from before = record {
    there = there;
    from = let e = begin_is t in omega arith;
    before = let e = begin_is (t + 1) in omega arith;
  }

-- ---- the header that the files of a transfer are judged by

some_is : {A : Type 0} (x y : A) (o : Option A) → o ≡ Some x → o ≡ Some y → x ≡ y
some_is x y o e f = cc

-- that of its first file, where this is one of the first ones that are told
pub first_header : (opened : ℕ) (plan : Plan) (told : Told) (files : List (List ℕ)) (t : ℕ) →
    HeadersAreTold plan told → AreToldTo opened told plan files →
    begin_at plan.starts (length plan.names) t < length plan.names →
    begin_at plan.starts (length plan.names) t < opened → (header : HeaderText) →
    slice_get plan.headers t ≡ Some header →
    header_of (file_at (stream_of plan files) (begin_of (stream_of plan files) t)) ≡ Ok header
first_header opened plan told files t headers are below within header at =
    let k = begin_at plan.starts (length plan.names) t in
    ap (λ (i : ℕ). header_of (slice_index_or files i [])) (begin_is plan files are.count t)
    ∙ headers t header at (slice_index_or files k []) (are.each k below within)

-- it was accepted
pub first_of : (plan : Plan) (s : FileStream) (t : ℕ) (first : First) → AreAccepted plan →
    ((header : HeaderText) → slice_get plan.headers t ≡ Some header →
    header_of (file_at s (begin_of s t)) ≡ Ok header) → t < length plan.headers →
    slice_get plan.firsts t ≡ Some (Some first) →
    (first.profile ≡ profile_of (observation_at (file_at s (begin_of s t))))
    × (first.offset ≡ (observation_at (file_at s (begin_of s t))).obs_offset)
unfolding observation_at
first_of plan s t first accepted headers below is =
    let none : HeaderText = record { size = 0; text = [] } in
    let header = get_or plan.headers t none in
    let at : slice_get plan.headers t ≡ Some header = slice_get-get_or plan.headers t none below in
    let a = accepted t header at in
    let same : Some a.0 ≡ Some first = some_is (Some a.0) (Some first) (slice_get plan.firsts t) a.1 is in
    let one : a.0 ≡ first = cc in
    let seen : observation_at (file_at s (begin_of s t)) ≡ observation_in (fields_of header.text) =
    ap (λ (r : Result HeaderText HeaderRefusal). observation_in (fields_past r)) (headers header at) in (
      ap (λ (f : First). f.profile) (sym one) ∙ a.2.profile ∙ ap profile_of (sym seen),
      ap (λ (f : First). f.offset) (sym one) ∙ a.2.offset ∙ ap (λ (o : Observation). o.obs_offset) (sym seen),
    )

-- the header of a file is judged by it
pub judged_by : (s : FileStream) (t k since : ℕ) (first : First) → transfer_of s.starts k ≡ t →
    (first.profile ≡ profile_of (observation_at (file_at s (begin_of s t))))
    × (first.offset ≡ (observation_at (file_at s (begin_of s t))).obs_offset) →
    since ≡ length (data_between s.files (begin_of s t) k) →
    header_stop s k ≡ later_stop k first.profile (first.offset + since) (header_of (file_at s k))
unfolding header_stop
judged_by s t k since first transfer is count =
    let observed = λ (n : ℕ). observation_at (file_at s (begin_of s n)) in
    ap (λ (n : ℕ). later_stop k (profile_of (observed n)) ((observed n).obs_offset + length (data_between s.files
    (begin_of
    s n) k)) (header_of (file_at s k))) transfer
    ∙ ap (λ (p : Profile). later_stop k p ((observed t).obs_offset + length (data_between s.files (begin_of s t) k))
    (header_of (file_at s k))) (sym is.0)
    ∙ ap (λ (n : ℕ). later_stop k first.profile n (header_of (file_at s k))) (sum (observed t).obs_offset first.offset
    since
    (length (data_between s.files (begin_of s t) k)) is.1 count)
  where
    sum : (a b m n : ℕ) → b ≡ a → m ≡ n → a + n ≡ b + m
    sum a b m n e f = omega arith
