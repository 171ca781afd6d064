-- The parts of a search.
use Rattle.std.proofs.Common.{◌≡◌, ℕ, ◌+◌, ◌-◌, ◌*◌, ◌<◌, ◌≤◌, ◌⊎◌, ◌&&◌, inl, inr, Bool, true, false, cond, leb, ltb, List, [], ◌∷◌, ◌++◌, map, filter, slice_index, sum, refl, sym, subst, ap, ◌∙◌, arith}
use Rattle.std.specs.Prelude.{Contains}
use Rattle.std.specs.List.{range_with_len, flat_map}
use Rattle.std.proofs.lemmas.Bool.{cases_lt, cond-true, cond-false, lt-ltb, le-ltb, leb-true, and_from, le-leb, lt-leb, and_left, and_right}
use Rattle.std.proofs.lemmas.List.{append-nil}
use Rattle.std.proofs.lemmas.List.Concat.{flat_map-append}
use Rattle.std.proofs.lemmas.List.Elements.{filter-append}
use Rattle.search_model.specs.declared.candidate.Candidate.{Candidate}
use Rattle.search_model.specs.declared.candidate.Candidate.TheVariants.{Pulse}
use Rattle.search_model.specs.declared.search.Search.{Search}
use Rattle.search_model.specs.Samples.{Filterbank, sample_before}
use Rattle.search_model.specs.Paths.{path}
use Rattle.search_model.specs.Sums.{channel_cells, path_cells, late_path_sum, box_sum}
use Rattle.search_model.specs.Detection.{is_detected}
use Rattle.search_model.specs.Search.{box_widths, delays, widths, fold_delays}
use Rattle.search_model.specs.Candidates.{pulse_at, pulses_at, pulses_ending, pulses, folds_of_delay, folds, candidates}
use Rattle.search_model.specs.Parts.{ends_within, within_part, first_needed, without_first, later}
use Rattle.search_model.proofs.Lists.{member_filter, member_flat_map, member_range, maps_agree, joins_agree, joins_none, map_join, filter_join, filter_all, filter_none, join_shift, range_join}
use Rattle.search_model.proofs.Halvings.{member_between}
use Rattle.search_model.proofs.Ranges.{sum_agree}
use Rattle.search_model.proofs.Rising.{of_end, of_series}

-- ---- sums over the spectra from a on

module _ (f : Filterbank) (edges : List ℕ) (a : ℕ) where
  abbrev rest : Filterbank
  rest = without_first a f

  -- the sample that stands d spectra before spectrum a + s
  sample_rest : (c s d : ℕ) → (a ≡ 0) ⊎ (d ≤ s) → sample_before f c (a + s) d ≡ sample_before rest c s d
  sample_rest c s d enough = elim (cases_lt s d) [
    | inr late ↦
        let e : a + s - d ≡ a + (s - d) = omega arith in
        cond-false _ _ _ (le-ltb (a + s) d (omega arith)) ∙ ap (f.value c) e
        ∙ sym (cond-false _ _ _ (le-ltb s d late))
    | inl early ↦ elim enough [
      | inl none ↦ cond-true _ _ _ (lt-ltb (a + s) d (omega arith)) ∙ sym (cond-true _ _ _ (lt-ltb s d early))
      | inr late ↦ absurd (omega arith)
    ]
  ]

  further : (d u k : ℕ) → (a ≡ 0) ⊎ (d ≤ u) → (a ≡ 0) ⊎ (d ≤ u + k)
  further d u k enough = elim enough [
    | inl none ↦ inl none
    | inr late ↦ inr (omega arith)
  ]

  cells_rest : (e : List ℕ) (d u late : ℕ) → (a ≡ 0) ⊎ (d + late ≤ u) →
      path_cells f e d (a + u) late ≡ path_cells rest e d u late
  cells_rest e d u late enough =
      joins_agree (λ c. channel_cells f e d (a + u) late c) (λ c. channel_cells rest e d u late c)
      (range_with_len 0 f.channels)
      (λ c inside.
      maps_agree (λ k. sample_before f c (a + u + k) (d + late)) (λ k. sample_before rest c (u + k) (d + late))
      (slice_index e c) (slice_index e (c + 1) + 1 - slice_index e c)
      (λ k from to.
      let z : a + u + k ≡ a + (u + k) = omega arith in
      rw z (sample_rest c (u + k) (d + late) (further (d + late) u k enough))))

  -- a box that ends at spectrum a + u and needs none before spectrum a
  box_rest : (d u w : ℕ) → (a ≡ 0) ⊎ (d + w ≤ u + 1) → box_sum f edges (a + u) d w ≡ box_sum rest edges u d w
  box_rest d u w enough =
      sum_agree (λ k. late_path_sum f edges (a + u) d k) (λ k. late_path_sum rest edges u d k) 0 w
      (λ k from to. ap sum (cells_rest (path edges f.channels d) d u k (each k to)))
    where
      each : (k : ℕ) → k < 0 + w → (a ≡ 0) ⊎ (d + k ≤ u)
      each k small = elim enough [
        | inl none ↦ inl none
        | inr late ↦ inr (omega arith)
      ]

-- ---- pulses in the spectra from a on

map_where : {X Y : Type 0} (g : X → Y) (b : Bool) (x : X) → map g (cond b (x ∷ []) []) ≡ cond b (g x ∷ []) []
map_where g true x = refl
map_where g false x = refl

map_if : {X Y : Type 0} (g : X → Y) (b : Bool) (xs : List X) → map g (cond b xs []) ≡ cond b (map g xs) []
map_if g true xs = refl
map_if g false xs = refl

module _ (f : Filterbank) (edges : List ℕ) (cells : ℕ → ℕ) (s : Search) (a : ℕ) where
  begins_alike : (d u w : ℕ) → (a ≡ 0) ⊎ (d + w ≤ u + 1) → leb (d + w) (a + u + 1) ≡ leb (d + w) (u + 1)
  begins_alike d u w enough = elim enough [
    | inl none ↦ let e : a + u + 1 ≡ u + 1 = omega arith in ap (leb (d + w)) e
    | inr late ↦ le-leb (d + w) (a + u + 1) (omega arith) ∙ sym (le-leb (d + w) (u + 1) late)
  ]

  pulse_rest : (d u w : ℕ) → (a ≡ 0) ⊎ (d + w ≤ u + 1) →
      pulse_at f edges cells s (a + u) d w
      ≡ map (later a) (pulse_at (without_first a f) edges cells s u d w)
  pulse_rest d u w enough =
      let sum = box_sum (without_first a f) edges u d w in
      let found = is_detected s.mean s.sd s.snr sum (w * cells d) in
      rw (begins_alike d u w enough, box_rest f edges a d u w enough)
      (sym (map_if (later a) (leb (d + w) (u + 1)) (cond found (Pulse u d w sum ∷ []) [])
      ∙ ap (λ list. cond (leb (d + w) (u + 1)) list []) (map_where (later a) found (Pulse u d w sum))))

  -- where a leaves room for each delay and each width
  ending_rest : (u : ℕ) → (a ≡ 0) ⊎ (s.max_delay + s.widest ≤ u + 1) →
      pulses_ending f edges cells s (a + u)
      ≡ map (later a) (pulses_ending (without_first a f) edges cells s u)
  ending_rest u enough =
      joins_agree (λ d. pulses_at f edges cells s (a + u) d)
      (λ d. map (later a) (pulses_at (without_first a f) edges cells s u d)) (delays s)
      (λ d of_delay.
      joins_agree (λ w. pulse_at f edges cells s (a + u) d w)
      (λ w. map (later a) (pulse_at (without_first a f) edges cells s u d w)) (widths s)
      (λ w of_width. pulse_rest d u w (each d w of_delay of_width))
      ∙ sym (map_join (later a) (λ w. pulse_at (without_first a f) edges cells s u d w) (widths s)))
      ∙ sym (map_join (later a) (λ d. pulses_at (without_first a f) edges cells s u d) (delays s))
    where
      each : (d w : ℕ) → Contains (delays s) d → Contains (widths s) w → (a ≡ 0) ⊎ (d + w ≤ u + 1)
      each d w of_delay of_width =
          let within = (member_between s.min_delay s.max_delay d of_delay).1 in
          let width = leb-true w s.widest (member_filter (λ i. leb i s.widest) box_widths w of_width).0 in
          elim enough [
            | inl none ↦ inl none
            | inr late ↦ inr (omega arith)
          ]

-- the pulses of any ends from `place` on
pub ends_rest : (f : Filterbank) (edges : List ℕ) (cells : ℕ → ℕ) (s : Search) (place count : ℕ) →
    flat_map (pulses_ending f edges cells s) (range_with_len place count)
    ≡ map (later (first_needed s place))
    (flat_map (pulses_ending (without_first (first_needed s place) f) edges cells s)
    (range_with_len (place - first_needed s place) count))
ends_rest f edges cells s place count =
    let a = first_needed s place in
    let e : a + (place - a) ≡ place = omega arith in
    let whole : flat_map (pulses_ending f edges cells s) (range_with_len place count)
    ≡ flat_map (λ u. pulses_ending f edges cells s (a + u)) (range_with_len (place - a) count) =
    rw e at (join_shift (pulses_ending f edges cells s) a (place - a) count) in
    whole
    ∙ joins_agree (λ u. pulses_ending f edges cells s (a + u))
    (λ u. map (later a) (pulses_ending (without_first a f) edges cells s u)) (range_with_len (place - a) count)
    (λ u inside. ending_rest f edges cells s a u (enough u (member_range (place - a) count u inside).0))
    ∙ sym (map_join (later a) (pulses_ending (without_first a f) edges cells s) (range_with_len (place - a) count))
  where
    enough : (u : ℕ) → place - first_needed s place ≤ u →
        (first_needed s place ≡ 0) ⊎ (s.max_delay + s.widest ≤ u + 1)
    enough u from = elim (cases_lt (s.max_delay + s.widest) place) [
      | inl room ↦ inr (omega arith)
      | inr none ↦ inl (omega arith)
    ]

-- ---- a part as the pulses of its ends

module _ (f : Filterbank) (edges : List ℕ) (cells : ℕ → ℕ) (s : Search) (place until : ℕ) where
  of_end_within : (u : ℕ) (x : Candidate) → Contains (pulses_ending f edges cells s u) x →
      ends_within place until x ≡ (leb place u && ltb u until)
  of_end_within u x h =
      let is = of_end f edges cells s u x h in
      subst (λ c. ends_within place until c ≡ (leb place u && ltb u until)) is.3 refl

  end_within : (u : ℕ) → place ≤ u → u < until →
      filter (ends_within place until) (pulses_ending f edges cells s u) ≡ pulses_ending f edges cells s u
  end_within u from to =
      filter_all (ends_within place until) (pulses_ending f edges cells s u)
      (λ x h. of_end_within u x h ∙ and_from (leb place u) (ltb u until) (le-leb place u from) (lt-ltb u until to))

  end_before : (u : ℕ) → u < place →
      filter (ends_within place until) (pulses_ending f edges cells s u) ≡ []
  end_before u before =
      filter_none (ends_within place until) (pulses_ending f edges cells s u)
      (λ x h. of_end_within u x h ∙ and_left (leb place u) (ltb u until) (lt-leb place u before))

  end_after : (u : ℕ) → until ≤ u →
      filter (ends_within place until) (pulses_ending f edges cells s u) ≡ []
  end_after u after =
      filter_none (ends_within place until) (pulses_ending f edges cells s u)
      (λ x h. of_end_within u x h ∙ and_right (leb place u) (ltb u until) (le-ltb u until after))

  no_folds : filter (ends_within place until) (folds f edges cells s) ≡ []
  no_folds =
      filter_none (ends_within place until) (folds f edges cells s)
      (λ x h.
      let one = member_flat_map (λ d. folds_of_delay f edges cells s d) (fold_delays s) x h in
      let is = of_series f edges cells s one.0 x one.2 in
      subst (λ c. ends_within place until c ≡ false) is.5 refl)

  -- the pulses of so many ends from b on that end within the part
  found : ℕ → ℕ → List Candidate
  found b n = flat_map (λ u. filter (ends_within place until) (pulses_ending f edges cells s u)) (range_with_len b n)

  found_join : (b m n : ℕ) → found b (m + n) ≡ found b m ++ found (b + m) n
  unfolding found
  found_join b m n =
      ap (λ list. flat_map (λ u. filter (ends_within place until) (pulses_ending f edges cells s u)) list)
      (range_join b m n)
      ∙ flat_map-append (λ u. filter (ends_within place until) (pulses_ending f edges cells s u))
      (range_with_len b m) (range_with_len (b + m) n)

  found_none : (b n : ℕ) → ((u : ℕ) → b ≤ u → u < b + n → (u < place) ⊎ (until ≤ u)) → found b n ≡ []
  unfolding found
  found_none b n outside =
      joins_none (λ u. filter (ends_within place until) (pulses_ending f edges cells s u)) (range_with_len b n)
      (λ u inside.
      let within = member_range b n u inside in
      elim (outside u within.0 within.1) [
        | inl before ↦ end_before u before
        | inr after ↦ end_after u after
      ])

  found_all : (n : ℕ) → place + n ≤ until →
      found place n ≡ flat_map (pulses_ending f edges cells s) (range_with_len place n)
  unfolding found
  found_all n within =
      joins_agree (λ u. filter (ends_within place until) (pulses_ending f edges cells s u))
      (pulses_ending f edges cells s) (range_with_len place n)
      (λ u inside. let of_range = member_range place n u inside in
      end_within u of_range.0 (let below = of_range.1 in omega arith))

  part_found : within_part place until (candidates f edges cells s) ≡ found 0 f.spectra
  unfolding found
  part_found =
      filter-append (ends_within place until) (pulses f edges cells s) (folds f edges cells s)
      ∙ rw no_folds (append-nil (filter (ends_within place until) (pulses f edges cells s)))
      ∙ filter_join (ends_within place until) (pulses_ending f edges cells s) (range_with_len 0 f.spectra)

  -- m is the lesser of `until` and the number of spectra
  pub part_is : (m : ℕ) → m ≤ until → m ≤ f.spectra → (m ≡ until) ⊎ (m ≡ f.spectra) →
      within_part place until (candidates f edges cells s)
      ≡ flat_map (pulses_ending f edges cells s) (range_with_len place (m - place))
  part_is m first second least = elim (cases_lt m place) [
    | inl none ↦
        let z : m - place ≡ 0 = omega arith in
        part_found ∙ found_none 0 f.spectra (λ u from to. outside u (omega arith) none) ∙ rw z refl
    | inr some ↦
        let e : f.spectra ≡ place + (m - place + (f.spectra - m)) = omega arith in
        let b : 0 + place ≡ place = omega arith in
        let n : place + (m - place) ≡ m = omega arith in
        let front = found_join 0 place (m - place + (f.spectra - m)) in
        let back = found_join place (m - place) (f.spectra - m) in
        let before = found_none 0 place (λ u from to. inl (omega arith)) in
        let after = found_none m (f.spectra - m) (λ u from to. inr (past u (omega arith) from)) in
        part_found ∙ ap (found 0) e
        ∙ rw (before, b) at front
        ∙ rw (n, after) at back
        ∙ append-nil (found place (m - place))
        ∙ found_all (m - place) (omega arith)
  ]
    where
      past : (u : ℕ) → u < f.spectra → m ≤ u → until ≤ u
      past u small from = elim least [
        | inl at ↦ omega arith
        | inr all ↦ absurd (omega arith)
      ]

      outside : (u : ℕ) → u < f.spectra → m < place → (u < place) ⊎ (until ≤ u)
      outside u small none = elim (cases_lt u place) [
        | inl before ↦ inl before
        | inr from ↦ inr (past u small (omega arith))
      ]

-- ---- the part from `place` on

module _ (f : Filterbank) (edges : List ℕ) (cells : ℕ → ℕ) (s : Search) (place until : ℕ) where
  abbrev a : ℕ
  a = first_needed s place

  still : (m : ℕ) → (m ≡ until) ⊎ (m ≡ f.spectra) → (m - a ≡ until - a) ⊎ (m - a ≡ f.spectra - a)
  still m which = elim which [
    | inl at ↦ inl (ap (λ n. n - a) at)
    | inr all ↦ inr (ap (λ n. n - a) all)
  ]

  to_least : (m : ℕ) → m ≤ until → m ≤ f.spectra → (m ≡ until) ⊎ (m ≡ f.spectra) →
      within_part place until (candidates f edges cells s)
      ≡ map (later a)
      (within_part (place - a) (until - a) (candidates (without_first a f) edges cells s))
  to_least m first second least =
      let count : m - a - (place - a) ≡ m - place = omega arith in
      let rest = part_is (without_first a f) edges cells s (place - a) (until - a) (m - a) (omega arith)
      (omega arith) (still m least) in
      part_is f edges cells s place until m first second least
      ∙ ends_rest f edges cells s place (m - place)
      ∙ ap (map (later a))
      (ap (λ n. flat_map (pulses_ending (without_first a f) edges cells s) (range_with_len (place - a) n)) (sym count)
      ∙ sym rest)

  pub part_rest : within_part place until (candidates f edges cells s)
      ≡ map (later (first_needed s place))
      (within_part (place - first_needed s place) (until - first_needed s place)
      (candidates (without_first (first_needed s place) f) edges cells s))
  part_rest = elim (cases_lt until f.spectra) [
    | inl below ↦ to_least until (omega arith) (omega arith) (inl refl)
    | inr above ↦ to_least f.spectra above (omega arith) (inr refl)
  ]
