-- The file at which a walk stops.
use Rattle.std.proofs.Common.{◌≡◌, ◌⊎◌, ℕ, zero, suc, ◌+◌, ◌<◌, true, false, Option, Some, None, Result, Ok, Err, length, refl, sym, ◌∙◌, ap, subst, inl, inr, arith}
use Rattle.std.specs.Prelude.{Bool, if◌then◌else◌, nat_lt, ◌==◌}
use Rattle.std.proofs.lemmas.Bool.{cases_eq}
use Rattle.dada_model.specs.Fields.{HeaderText, HeaderRefusal, header_of, fields_of}
use Rattle.obs_plan.specs.Later.{profile_of, later_offset_of}
use Rattle.obs_plan.specs.declared.profile.Profile.{Profile}
use Rattle.obs_plan.specs.declared.fault.ObsFault.{ObsFault}
use Rattle.stream_model.specs.Walk as walk
use Rattle.stream_model.specs.Walk.{FileStream, WalkStop, file_at, begin_of, transfer_of, data_between, observation_at, length_stop, header_stop, later_stop, offset_stop, stop_at, first_of_two, walk_stop}
use Rattle.stream_model.specs.WalkLaws.{FirstStopCounts, NoStopIsWhole}
use Rattle.disk_feeder.specs.Reading.{StopsAtFile}

-- a stop has the number of one file
one_file : (stop : WalkStop) (a b : ℕ) → StopsAtFile stop a → StopsAtFile stop b → a ≡ b
one_file walk.Whole a b x y = absurd x
one_file (walk.BadText k refusal) a b x y = sym x ∙ y
one_file (walk.BadFields k fault) a b x y = sym x ∙ y
one_file (walk.Gap k expected found) a b x y = sym x ∙ y
one_file (walk.TooLong k) a b x y = sym x ∙ y

is_at : (found stop : WalkStop) (k : ℕ) → Some found ≡ Some stop → StopsAtFile found k → StopsAtFile stop k
is_at found stop k is at = let same : found ≡ stop = cc in subst (λ (w : WalkStop). StopsAtFile w k) same at

-- ---- the stop of file k has the number k

offset_number : (k expected : ℕ) (o : Result ℕ ObsFault) (stop : WalkStop) → offset_stop k expected o ≡ Some stop →
    StopsAtFile stop k
offset_number k expected (Err fault) stop is = is_at (walk.BadFields k fault) stop k is refl
offset_number k expected (Ok found) stop is = by_test (found == expected) is
  where
    by_test : (b : Bool) → (if b then None else Some (walk.Gap k expected found)) ≡ Some stop → StopsAtFile stop k
    by_test true f = absurd cc
    by_test false f = is_at (walk.Gap k expected found) stop k f refl

later_number : (k expected : ℕ) (profile : Profile) (r : Result HeaderText HeaderRefusal) (stop : WalkStop) →
    later_stop k profile expected r ≡ Some stop → StopsAtFile stop k
later_number k expected profile (Err refusal) stop is = is_at (walk.BadText k refusal) stop k is refl
later_number k expected profile (Ok header) stop is =
    offset_number k expected (later_offset_of profile (fields_of header.text)) stop is

header_number : (w : FileStream) (k : ℕ) (stop : WalkStop) → header_stop w k ≡ Some stop → StopsAtFile stop k
unfolding header_stop
header_number w k stop is =
    let begin = begin_of w (transfer_of w.starts k) in
    let first = observation_at (file_at w begin) in
    later_number k (first.obs_offset + length (data_between w.files begin k)) (profile_of first)
    (header_of (file_at w k)) stop is

length_number : (w : FileStream) (k : ℕ) (stop : WalkStop) → length_stop w k ≡ Some stop → StopsAtFile stop k
unfolding length_stop
length_number w k stop is = by_test (nat_lt w.max_bytes (length (data_between w.files 0 (k + 1)))) is
  where
    by_test : (b : Bool) → (if b then Some (walk.TooLong k) else None) ≡ Some stop → StopsAtFile stop k
    by_test true f = is_at (walk.TooLong k) stop k f refl
    by_test false f = absurd cc

stop_number : (w : FileStream) (k : ℕ) (stop : WalkStop) → stop_at w k ≡ Some stop → StopsAtFile stop k
unfolding stop_at
stop_number w k stop is =
    of_two (header_stop w k) (length_stop w k) (header_number w k stop) (length_number w k stop) is
  where
    of_two : (a b : Option WalkStop) → (a ≡ Some stop → StopsAtFile stop k) → (b ≡ Some stop → StopsAtFile stop k) →
        first_of_two a b ≡ Some stop → StopsAtFile stop k
    of_two (Some first) b x y is = x is
    of_two None b x y is = y is

-- ---- the walk stops at the first file that stops it

-- of so many files the first one that stops the walk
record StopsFirst (f : ℕ → Option WalkStop) (n : ℕ) : Type 0 where
  pub file : ℕ
  pub stop : WalkStop
  pub there : file < n
  pub passed : (j : ℕ) → j < file → f j ≡ None
  pub is : f file ≡ Some stop

first_stop : (f : ℕ → Option WalkStop) (n : ℕ) → ((j : ℕ) → j < n → f j ≡ None) ⊎ StopsFirst f n
first_stop f zero = inl (λ j below. absurd (omega (arith, below)))
first_stop f (suc n) = by_earlier (first_stop f n)
  where
    by_last : ((j : ℕ) → j < n → f j ≡ None) → (o : Option WalkStop) → f n ≡ o →
        ((j : ℕ) → j < suc n → f j ≡ None) ⊎ StopsFirst f (suc n)
    by_last none None is = inl (λ j below. elim (cases_eq j n) [
      | inl same ↦ ap f same ∙ is
      | inr other ↦ none j (omega (arith, below, other))
    ])
    by_last none (Some stop) is =
        inr (record { file = n; stop = stop; there = omega arith; passed = none; is = is })

    by_earlier : ((j : ℕ) → j < n → f j ≡ None) ⊎ StopsFirst f n →
        ((j : ℕ) → j < suc n → f j ≡ None) ⊎ StopsFirst f (suc n)
    by_earlier (inl none) = by_last none (f n) refl
    by_earlier (inr r) = inr (record {
      file = r.file;
      stop = r.stop;
      there = let below = r.there in omega (arith, below);
      passed = r.passed;
      is = r.is;
    })

-- a file at which the walk stops is the first one that stops it
pub is_first : FirstStopCounts → NoStopIsWhole → (w : FileStream) (file : ℕ) → StopsAtFile (walk_stop w) file →
    (file < length w.files) × (stop_at w file ≡ Some (walk_stop w))
is_first counts whole w file at = by_first (first_stop (stop_at w) (length w.files))
  where
    by_first : ((j : ℕ) → j < length w.files → stop_at w j ≡ None) ⊎ StopsFirst (stop_at w) (length w.files) →
        (file < length w.files) × (stop_at w file ≡ Some (walk_stop w))
    by_first (inl all) = absurd (subst (λ (x : WalkStop). StopsAtFile x file) (whole w all) at)
    by_first (inr r) =
        let is = counts w r.file r.stop r.passed r.there r.is in
        let same = one_file r.stop r.file file (stop_number w r.file r.stop r.is)
        (subst (λ (x : WalkStop). StopsAtFile x file) is at) in (
          subst (λ k. k < length w.files) same r.there,
          ap (stop_at w) (sym same) ∙ r.is ∙ ap (λ (x : WalkStop). Some x) (sym is),
        )
