-- Data that follow change no pulse that ends before them.
use Rattle.std.proofs.Common.{◌≡◌, ℕ, zero, suc, ◌+◌, ◌-◌, ◌*◌, ◌/◌, ◌≤◌, ◌<◌, ◌⊎◌, ◌++◌, inl, inr, Bool, true, false, cond, ltb, leb, List, [], ◌∷◌, length, length-append, map, slice_index, sum, refl, sym, ◌∙◌, ap, subst, arith}
use Rattle.std.specs.Prelude.{Contains, filter, sum_by}
use Rattle.std.specs.List.{range_with_len, flat_map}
use Rattle.std.proofs.Math.Nat.{div-mul-le_self, mul-le-mul_right}
use Rattle.std.proofs.lemmas.Bool.{and_parts, cases_lt, false≢true, le-ltb, lt-ltb, ltb-true}
use Rattle.std.proofs.lemmas.List.Elements.{Contains-append_cases, Contains-append_right, Contains-push_cases}
use Rattle.std.proofs.lemmas.List.Kept.{AllPairs-filter}
use Rattle.std.proofs.lemmas.List.Sums.{sum_by-cons}
use Rattle.dada_model.specs.Bounds.{ObservationInRange}
use Rattle.dada_model.specs.Edges.{AreEdges}
use Rattle.dada_model.specs.Laws.{EdgesFall}
use Rattle.dada_model.specs.Observation.{Observation, edges}
use Rattle.search_model.specs.declared.candidate.Candidate.{Candidate}
use Rattle.search_model.specs.declared.candidate.Candidate.TheVariants.{Pulse, Fold}
use Rattle.search_model.specs.declared.search.Search.{Search}
use Rattle.search_model.specs.CandidateLaws.{CandidatesAreListed, CandidatesRise, IsCandidate, RisingListsAgree}
use Rattle.search_model.specs.Candidates.{plain_cells}
use Rattle.search_model.specs.Laws.{HasOnePath, PathsRise}
use Rattle.search_model.specs.Observed.{candidates_of, filterbank_of}
use Rattle.search_model.specs.Order.{Precedes}
use Rattle.search_model.specs.Parts.{ends_within, within_part}
use Rattle.search_model.specs.Paths.{IsPath, path}
use Rattle.search_model.specs.SampleLaws.{SamplesOfBytes}
use Rattle.search_model.specs.Samples.{Filterbank, sample_before, samples_of}
use Rattle.search_model.specs.Sums.{box_sum, channel_cells, late_path_sum}
use Rattle.live_search.proofs.Sizes.{spectra_grow}

-- ---- lists

-- what a test keeps are the members that pass it
no_member : (c : Candidate) → Contains {X = Candidate} [] c → ⊥
no_member c (k, small, is) = absurd (omega (arith, small))

member_cases : (x : Candidate) (xs : List Candidate) (c : Candidate) → Contains (x ∷ xs) c → (x ≡ c) ⊎ Contains xs c
member_cases x xs c h = elim (Contains-append_cases (x ∷ []) xs c h) [
  | inr tail ↦ inr tail
  | inl head ↦ elim (Contains-push_cases [] x c head) [
    | inl none ↦ absurd (no_member c none)
    | inr is ↦ inl is
  ]
]

member_tail : (x : Candidate) (xs : List Candidate) (c : Candidate) → Contains xs c → Contains (x ∷ xs) c
member_tail x xs c h = Contains-append_right (x ∷ []) xs c h

kept_is : (p : Candidate → Bool) (x : Candidate) (xs : List Candidate) (c : Candidate) →
    (Contains (filter p xs) c → (p c ≡ true) × Contains xs c) → (b : Bool) → p x ≡ b →
    Contains (cond b (x ∷ filter p xs) (filter p xs)) c → (p c ≡ true) × Contains (x ∷ xs) c
kept_is p x xs c before false at h = let more = before h in (more.0, member_tail x xs c more.1)
kept_is p x xs c before true at h = elim (member_cases x (filter p xs) c h) [
  | inl is ↦ (ap p (sym is) ∙ at, (0, omega arith, is))
  | inr tail ↦ let more = before tail in (more.0, member_tail x xs c more.1)
]

kept_passes : (p : Candidate → Bool) (xs : List Candidate) (c : Candidate) → Contains (filter p xs) c →
    (p c ≡ true) × Contains xs c
kept_passes p [] c h = absurd (no_member c h)
kept_passes p (x ∷ xs) c h = kept_is p x xs c (kept_passes p xs c) (p x) refl h

still_kept : (p : Candidate → Bool) (x : Candidate) (xs : List Candidate) (c : Candidate) → Contains (filter p xs) c →
    (b : Bool) → Contains (cond b (x ∷ filter p xs) (filter p xs)) c
still_kept p x xs c h true = member_tail x (filter p xs) c h
still_kept p x xs c h false = h

passes_kept : (p : Candidate → Bool) (xs : List Candidate) (c : Candidate) → p c ≡ true → Contains xs c →
    Contains (filter p xs) c
passes_kept p [] c passes h = absurd (no_member c h)
passes_kept p (x ∷ xs) c passes h = elim (member_cases x xs c h) [
  | inl is ↦
      let first : p x ≡ true = ap p is ∙ passes in
      subst (λ b. Contains (cond b (x ∷ filter p xs) (filter p xs)) c) (sym first) (0, omega arith, is)
  | inr tail ↦ still_kept p x xs c (passes_kept p xs c passes tail) (p x)
]

-- lists over a range agree where their elements do
maps_same : (x y : ℕ → ℕ) (a n : ℕ) → ((k : ℕ) → a ≤ k → k < a + n → x k ≡ y k) →
    map x (range_with_len a n) ≡ map y (range_with_len a n)
maps_same x y a zero same = refl
maps_same x y a (suc n) same =
    ap (λ k. k ∷ map x (range_with_len (a + 1) n)) (same a (omega arith) (omega arith))
    ∙ ap (λ ks. y a ∷ ks) (maps_same x y (a + 1) n (λ k from to. same k (omega (arith, from)) (omega (arith, to))))

joins_same : (x y : ℕ → List ℕ) (a n : ℕ) → ((k : ℕ) → a ≤ k → k < a + n → x k ≡ y k) →
    flat_map x (range_with_len a n) ≡ flat_map y (range_with_len a n)
joins_same x y a zero same = refl
joins_same x y a (suc n) same =
    ap (λ ks. ks ++ flat_map x (range_with_len (a + 1) n)) (same a (omega arith) (omega arith))
    ∙ ap (λ ks. y a ++ ks) (joins_same x y (a + 1) n (λ k from to. same k (omega (arith, from)) (omega (arith, to))))

sums_same : (x y : ℕ → ℕ) → ((k : ℕ) → x k ≡ y k) → (ks : List ℕ) → sum_by x ks ≡ sum_by y ks
sums_same x y same [] = refl
sums_same x y same (k ∷ ks) =
    sum_by-cons x k ks ∙ ap (λ n. n + sum_by x ks) (same k) ∙ ap (λ n. y k + n) (sums_same x y same ks)
    ∙ sym (sum_by-cons y k ks)

place_within : (falls : Bool) (c n : ℕ) → c < n → cond falls c (n - 1 - c) < n
place_within true c n channel = channel
place_within false c n channel = omega (arith, channel)

-- ---- samples and sums

module _ (samples : SamplesOfBytes) (fall : EdgesFall) (one : HasOnePath) (rise : PathsRise) (o : Observation)
    (range : ObservationInRange o) (first more : List ℕ) where
  abbrev f : Filterbank
  f = filterbank_of o first

  abbrev g : Filterbank
  g = filterbank_of o (first ++ more)

  abbrev n : ℕ
  n = o.channels

  band : AreEdges n (edges o)
  band = fall o range

  bits : (o.nbit ≡ 8) ⊎ (o.nbit ≡ 16)
  bits =
      let whole = range.whole_bytes in
      let few = range.few_bits in
      let many = range.many_bits in
      elim (cases_lt o.nbit 16) [
        | inl less ↦ inl (omega (arith, whole, few, less))
        | inr most ↦ inr (omega (arith, many, most))
      ]

  value_same : (c t : ℕ) → c < n → t < f.spectra → g.value c t ≡ f.value c t
  value_same c t channel early =
      let xs : List ℕ = samples_of o.nbit o.npol first in
      let place : ℕ = cond o.is_falling c (n - 1 - c) in
      let inside = place_within o.is_falling c n channel in
      let rows : (t + 1) * n ≤ length xs / n * n = mul-le-mul_right n (let l : t + 1 ≤ length xs / n = omega (arith, early) in l) in
      let most = div-mul-le_self (length xs) n in
      let split : (t + 1) * n ≡ t * n + n = omega arith in
      samples.kept o.nbit o.npol first more (t * n + place) bits (let some = range.few_polarisations in omega (arith, some))
      (omega (arith, inside, rows, most, split))

  -- a sample that stands before a spectrum of the first data
  sample_same : (c s d : ℕ) → c < n → s - d < f.spectra → sample_before g c s d ≡ sample_before f c s d
  sample_same c s d channel early = elim (cases_lt s d) [
    | inl before ↦
        ap (λ b. cond b 0 (g.value c (s - d))) (lt-ltb s d before)
        ∙ sym (ap (λ b. cond b 0 (f.value c (s - d))) (lt-ltb s d before))
    | inr late ↦
        ap (λ b. cond b 0 (g.value c (s - d))) (le-ltb s d late)
        ∙ value_same c (s - d) channel early
        ∙ sym (ap (λ b. cond b 0 (f.value c (s - d))) (le-ltb s d late))
  ]

  -- a path of some delay has no later entry
  module _ (d : ℕ) where
    abbrev e : List ℕ
    e = path (edges o) n d

    is_path : IsPath (edges o) n d e
    is_path = (one (edges o) n d band).0

    entries_most : (j k : ℕ) → k + j ≡ n → slice_index e k ≤ d
    entries_most zero k at =
        let same : k ≡ n = omega (arith, at) in
        let last : slice_index e k ≡ d = ap (λ (i : ℕ). slice_index e i) same ∙ is_path.last in
        omega (arith, last)
    entries_most (suc j) k at =
        let next = rise (edges o) n d e band is_path k (omega (arith, at)) in
        let most = entries_most j (k + 1) (omega (arith, at)) in
        omega (arith, next, most)

    cells_same : (u late c : ℕ) → u < f.spectra → c < n → channel_cells g e d u late c ≡ channel_cells f e d u late c
    cells_same u late c early channel =
        let from : ℕ = slice_index e c in
        let to : ℕ = slice_index e (c + 1) in
        let most : to ≤ d = entries_most (n - (c + 1)) (c + 1) (omega (arith, channel)) in
        maps_same (λ k. sample_before g c (u + k) (d + late)) (λ k. sample_before f c (u + k) (d + late)) from
        (to + 1 - from)
        (λ k low high. sample_same c (u + k) (d + late) channel (omega (arith, early, most, low, high)))

    late_same : (u late : ℕ) → u < f.spectra → late_path_sum g (edges o) u d late ≡ late_path_sum f (edges o) u d late
    late_same u late early =
        ap sum (joins_same (λ c. channel_cells g e d u late c) (λ c. channel_cells f e d u late c) 0 n
        (λ c low high. cells_same u late c early (omega (arith, high))))

    box_same : (u w : ℕ) → u < f.spectra → box_sum g (edges o) u d w ≡ box_sum f (edges o) u d w
    box_same u w early =
        sums_same (λ k. late_path_sum g (edges o) u d k) (λ k. late_path_sum f (edges o) u d k)
        (λ k. late_same u k early) (range_with_len 0 w)

  -- ---- candidates

  module _ (listed : CandidatesAreListed) (s : Search) (place until : ℕ) (within : until ≤ f.spectra) where
    abbrev p : Candidate → Bool
    p = ends_within place until

    abbrev Is : Filterbank → Candidate → Type 0
    Is x c = IsCandidate x (edges o) (plain_cells n) s c

    longer : f.spectra ≤ g.spectra
    longer = spectra_grow o first (first ++ more) range
        (let count = length-append first more in omega (arith, count))

    stays : (c : Candidate) → p c ≡ true → Is f c → Is g c
    stays (Fold d period m j q sum) passes is = absurd (false≢true passes)
    stays (Pulse end d w sum) passes is =
        let early = is.ends in
        let wide = longer in
        record {
          ends = omega (arith, early, wide);
          delay_from = is.delay_from;
          delay_to = is.delay_to;
          box = is.box;
          width_to = is.width_to;
          begins = is.begins;
          adds = is.adds ∙ sym (box_same d end w early);
          detected = is.detected;
        }

    was : (c : Candidate) → p c ≡ true → Is g c → Is f c
    was (Fold d period m j q sum) passes is = absurd (false≢true passes)
    was (Pulse end d w sum) passes is =
        let before = ltb-true end until (and_parts (leb place end) (ltb end until) passes).1 in
        let early : end < f.spectra = omega (arith, before, within) in
        record {
          ends = early;
          delay_from = is.delay_from;
          delay_to = is.delay_to;
          box = is.box;
          width_to = is.width_to;
          begins = is.begins;
          adds = is.adds ∙ box_same d end w early;
          detected = is.detected;
        }

    moves : (x y : Filterbank) (xs ys : List Candidate) → ((c : Candidate) → p c ≡ true → Is x c → Is y c) →
        ((c : Candidate) → Contains xs c → Is x c) → ((c : Candidate) → Is y c → Contains ys c) → (c : Candidate) →
        Contains (filter p xs) c → Contains (filter p ys) c
    moves x y xs ys to of into c h =
        let kept = kept_passes p xs c h in passes_kept p ys c kept.0 (into c (to c kept.0 (of c kept.1)))

    -- the pulses that end before spectra that came
    pub part_stays : CandidatesRise → RisingListsAgree →
        within_part place until (candidates_of o s (first ++ more)) ≡ within_part place until (candidates_of o s first)
    part_stays rises agree =
        let xs = candidates_of o s first in
        let ys = candidates_of o s (first ++ more) in
        agree.lists (filter p ys) (filter p xs)
        (AllPairs-filter Precedes p ys (rises g (edges o) (plain_cells n) s))
        (AllPairs-filter Precedes p xs (rises f (edges o) (plain_cells n) s))
        (λ c. (
          moves g f ys xs was (λ x. (listed g (edges o) (plain_cells n) s x).0)
              (λ x. (listed f (edges o) (plain_cells n) s x).1) c,
          moves f g xs ys stays (λ x. (listed f (edges o) (plain_cells n) s x).0)
              (λ x. (listed g (edges o) (plain_cells n) s x).1) c,
        ))
