-- How many candidates a search has at most.
use Rattle.std.proofs.Common.{◌≡◌, ℕ, ◌+◌, ◌-◌, ◌*◌, ◌^◌, ◌/◌, ◌<◌, ◌≤◌, ◌&&◌, inl, inr, leb, ltb, Bool, true, false, cond, List, [], ◌∷◌, length, get_or, Option, Some, None, refl, sym, arith, max, length-append}
use Rattle.std.specs.Prelude.{All}
use Rattle.std.specs.List.{sum_by, range_with_len, filter, flat_map, fold}
use Rattle.std.proofs.Math.Nat.{mul-le-mul, mul-le-mul_right, div-le_self}
use Rattle.std.proofs.Math.Pow.{pow_mono}
use Rattle.std.proofs.lemmas.Bool.{cases_lt, ltb-false, le-leb, false≢true}
use Rattle.std.proofs.lemmas.List.Concat.{length-flat_map}
use Rattle.std.proofs.lemmas.List.Elements.{All-filter, All-tail}
use Rattle.std.proofs.lemmas.List.FromFn.{length-range_with_len, get_or-range_with_len, length-map-range_with_len}
use Rattle.std.proofs.lemmas.Option.{none-some}
use Rattle.std.proofs.lemmas.List.Sums.{sum_by-le, sum_by-cons, length-filter, count_by-le-length}
use Rattle.dada_model.specs.Observation.{Observation, edges, max_sample}
use Rattle.search_model.specs.declared.candidate.Candidate.{Candidate}
use Rattle.search_model.specs.declared.search.Search.{Search}
use Rattle.search_model.specs.Samples.{Filterbank, sample_bytes, sample_at, samples_of}
use Rattle.search_model.specs.Observed.{filterbank_of, candidates_of}
use Rattle.transfer_text.specs.Searched.{ObservedTransfer, candidate_total}
use Rattle.transfer_text.specs.Laws.{CandidatesAreFew, TotalsAreCounted}
use Rattle.search_model.specs.Sums.{between, box_sum}
use Rattle.search_model.specs.Search.{SettingsInRange, box_widths, widths, delays, periods, fold_delays, folds_are_on, delay_count}
use Rattle.search_model.specs.Candidates.{plain_cells, sum_of, cells_of, if_detected, pulse_at, pulses_at, pulses_ending, pulses, fold_at, folds_of_trial, folds_at, folds_of_delay, folds, candidates}
use Rattle.search_model.specs.Folds.{series, halvings, fold_sum}
use Rattle.search_model.specs.Plan.{PlanRefusal, SumBound, FoldTooLarge, TooManyFolds, TooManyShards, plan_refusal, most_added}
use Rattle.search_model.specs.Detection.{is_detected}
use Rattle.search_model.specs.declared.candidate.Candidate.TheVariants.{Pulse, Fold}

-- ---- lists

pub flat_bound : {X Y : Type 0} (g : X → List Y) (m n : ℕ) (xs : List X) → All (λ x. length (g x) ≤ m) xs →
    length xs ≤ n → length (flat_map g xs) ≤ n * m
flat_bound g m n xs each few =
    let e = length-flat_map g xs in
    let all = sum_by-le (λ x. length (g x)) m xs each in
    let more = mul-le-mul_right m few in
    omega (arith, e, all, more)

one_at_most : (b : Bool) (c : Candidate) → length (cond b (c ∷ []) []) ≤ 1
one_at_most true c = omega arith
one_at_most false c = omega arith

some_if_so : (b : Bool) (list : List Candidate) (n : ℕ) → length list ≤ n → length (cond b list []) ≤ n
some_if_so true list n small = small
some_if_so false list n small = omega arith

fold_max : (b : ℕ) (xs : List ℕ) (a : ℕ) → a ≤ b → All (λ x. x ≤ b) xs → fold max a xs ≤ b
fold_max b [] a small all = small
fold_max b (x ∷ xs) a small all =
    let here = all 0 x (omega arith) in
    fold_max b xs (max a x) (omega (arith, small, here)) (All-tail (λ y. y ≤ b) x xs all)

within_between : (a b : ℕ) → All (λ x. x ≤ b) (between a b)
within_between a b = λ k d within.
    let count = length-range_with_len a (b + 1 - a) in
    let small : k < b + 1 - a = omega (arith, within, count) in
    let is = get_or-range_with_len a (b + 1 - a) k d small in
    omega (arith, is, small)

few_halvings : (most p room : ℕ) → halvings most p room ≤ most
few_halvings most p room =
    fold_max most (filter (λ m. leb (2 ^ m * p) room) (between 1 most)) 0 (omega arith)
    (All-filter (λ m. leb (2 ^ m * p) room) (λ m. m ≤ most) (between 1 most) (within_between 1 most))

-- ---- plans

not_refused : (b : Bool) (refusal : PlanRefusal) (rest : Option PlanRefusal) →
    cond b (Some refusal) rest ≡ None → (b ≡ false) × (rest ≡ None)
not_refused true refusal rest none = absurd (none-some refusal (sym none))
not_refused false refusal rest none = (refl, none)

both_no : (a b : Bool) → a ≡ true → (a && b) ≡ false → b ≡ false
both_no true b on none = none
both_no false b on none = absurd (false≢true on)

-- ---- the candidate list

module _ (f : Filterbank) (edges : List ℕ) (cells : ℕ → ℕ) (s : Search) (range : SettingsInRange s) where
  detected_short : (c : Candidate) → length (if_detected cells s c) ≤ 1
  detected_short c = one_at_most (is_detected s.mean s.sd s.snr (sum_of c) (cells_of cells c)) c

  pulse_short : (u d w : ℕ) → length (pulse_at f edges cells s u d w) ≤ 1
  pulse_short u d w =
      let pulse = Pulse u d w (box_sum f edges u d w) in
      some_if_so (leb (d + w) (u + 1)) (if_detected cells s pulse) 1 (detected_short pulse)

  pulses_short : (u d : ℕ) → length (pulses_at f edges cells s u d) ≤ 6
  pulses_short u d =
      let count = length-filter (λ w. leb w s.widest) box_widths in
      let few = count_by-le-length (λ w. leb w s.widest) box_widths in
      let all = flat_bound (λ w. pulse_at f edges cells s u d w) 1 6 (widths s)
      (λ k e within. pulse_short u d (get_or (widths s) k e)) (omega (arith, count, few)) in
      omega (arith, all)

  ending_short : (u : ℕ) → length (pulses_ending f edges cells s u) ≤ 49158
  ending_short u =
      let count = length-range_with_len s.min_delay (s.max_delay + 1 - s.min_delay) in
      let all = flat_bound (λ d. pulses_at f edges cells s u d) 6 8193 (delays s)
      (λ k e within. pulses_short u (get_or (delays s) k e)) (omega (arith, count, range.delays.most)) in
      omega (arith, all)

  pulses_few : length (pulses f edges cells s) ≤ f.spectra * 49158
  pulses_few =
      let count = length-range_with_len 0 f.spectra in
      flat_bound (λ u. pulses_ending f edges cells s u) 49158 f.spectra (range_with_len 0 f.spectra)
      (λ k e within. ending_short (get_or (range_with_len 0 f.spectra) k e)) (omega (arith, count))

  trial_short : (d p m j : ℕ) → length (folds_of_trial f edges cells s d p m j) ≤ p
  trial_short d p m j =
      let count = length-range_with_len 0 p in
      let all = flat_bound (λ phase. fold_at f edges cells s d p m j phase) 1 p (range_with_len 0 p)
      (λ k e within.
      let phase = get_or (range_with_len 0 p) k e in
      detected_short (Fold d p m j phase (fold_sum (series f edges d) p m j phase))) (omega (arith, count)) in
      omega (arith, all)

  at_short : (d p : ℕ) → p ≤ s.fold_max → length (folds_at f edges cells s d p) ≤ 2 ^ s.fold_rows * s.fold_max
  at_short d p small =
      let m = halvings s.fold_rows p (f.spectra - d) in
      let count = length-range_with_len 0 (2 ^ m) in
      let all = flat_bound (λ j. folds_of_trial f edges cells s d p m j) p (2 ^ m) (range_with_len 0 (2 ^ m))
      (λ k e within. trial_short d p m (get_or (range_with_len 0 (2 ^ m)) k e)) (omega (arith, count)) in
      let more = mul-le-mul (pow_mono (few_halvings s.fold_rows p (f.spectra - d))) small in
      some_if_so (ltb 0 m) (flat_map (λ j. folds_of_trial f edges cells s d p m j) (range_with_len 0 (2 ^ m)))
      (2 ^ s.fold_rows * s.fold_max) (omega (arith, all, more))

  period_count : length (periods s) ≡ s.fold_max + 1 - s.fold_min
  period_count = length-range_with_len s.fold_min (s.fold_max + 1 - s.fold_min)

  delay_short : (d : ℕ) → s.fold_max * 2 ^ s.fold_rows ≤ 2 ^ 22 → length (folds_of_delay f edges cells s d) ≤ 2 ^ 42
  delay_short d fits =
      let count = period_count in
      let same : 2 ^ s.fold_rows * s.fold_max ≡ s.fold_max * 2 ^ s.fold_rows = omega arith in
      let all = flat_bound (λ p. folds_at f edges cells s d p) (2 ^ 22) (2 ^ 20) (periods s)
      (λ k e within.
      let here = at_short d (get_or (periods s) k e) (within_between s.fold_min s.fold_max k e within) in
      omega (arith, here, same, fits)) (omega (arith, count, range.folds.most_max, range.folds.least_min)) in
      omega (arith, all)

  folds_few : length (fold_delays s) ≤ 64 → s.fold_max * 2 ^ s.fold_rows ≤ 2 ^ 22 →
      length (folds f edges cells s) ≤ 2 ^ 48
  folds_few few fits =
      let all = flat_bound (λ d. folds_of_delay f edges cells s d) (2 ^ 42) 64 (fold_delays s)
      (λ k e within. delay_short (get_or (fold_delays s) k e) fits) few in
      omega (arith, all)

  -- where no period is folded
  no_folds : s.fold_max < s.fold_min → length (folds f edges cells s) ≤ 0
  no_folds none =
      let count = period_count in
      let empty : length (periods s) ≤ 0 = omega (arith, count, none) in
      let delay_none : (d : ℕ) → length (folds_of_delay f edges cells s d) ≤ 0 = λ d.
      let all = flat_bound (λ p. folds_at f edges cells s d p) 0 0 (periods s)
      (λ k e within. absurd (omega (arith, within, empty))) empty in
      omega (arith, all) in
      let all = flat_bound (λ d. folds_of_delay f edges cells s d) 0 (length (fold_delays s)) (fold_delays s)
      (λ k e within. delay_none (get_or (fold_delays s) k e)) (omega arith) in
      omega (arith, all)

  candidates_few : (o : Observation) → plan_refusal o s ≡ None →
      length (candidates f edges cells s) ≤ 49158 * f.spectra + 2 ^ 48
  candidates_few o accepted =
      let joined = length-append (pulses f edges cells s) (folds f edges cells s) in
      let some = pulses_few in
      let cells_most = o.channels + s.max_delay in
      let folded = length (fold_delays s) in
      let last : Option PlanRefusal =
      cond (ltb (delay_count s) s.shards) (Some (TooManyShards s.shards (delay_count s))) None in
      let later : Option PlanRefusal =
      cond (folds_are_on s && ltb 64 folded) (Some (TooManyFolds folded)) last in
      let rest : Option PlanRefusal =
      cond (folds_are_on s && ltb (2 ^ 22) (s.fold_max * 2 ^ s.fold_rows))
      (Some (FoldTooLarge s.fold_max s.fold_rows)) later in
      let sums = not_refused (ltb (2 ^ 32 - 1) (max_sample o * cells_most * most_added s))
      (SumBound (max_sample o) cells_most (most_added s)) rest accepted in
      let sizes = not_refused (folds_are_on s && ltb (2 ^ 22) (s.fold_max * 2 ^ s.fold_rows))
      (FoldTooLarge s.fold_max s.fold_rows) later sums.1 in
      let counts = not_refused (folds_are_on s && ltb 64 folded) (TooManyFolds folded) last sizes.1 in
      elim (cases_lt s.fold_max s.fold_min) [
        | inl off ↦ let none = no_folds off in omega (arith, joined, some, none)
        | inr on ↦
            let is_on : folds_are_on s ≡ true = le-leb s.fold_min s.fold_max on in
            let fits = ltb-false (2 ^ 22) (s.fold_max * 2 ^ s.fold_rows)
            (both_no (folds_are_on s) (ltb (2 ^ 22) (s.fold_max * 2 ^ s.fold_rows)) is_on sizes.0) in
            let few = ltb-false 64 (length (fold_delays s))
            (both_no (folds_are_on s) (ltb 64 folded) is_on counts.0) in
            let all = folds_few few fits in
            omega (arith, joined, some, all)
      ]

-- ---- data

-- a spectrum has a byte at least
spectra_short : (o : Observation) (bytes : List ℕ) → (filterbank_of o bytes).spectra ≤ length bytes
spectra_short o bytes =
    let samples = samples_of o.nbit o.npol bytes in
    let count = length-map-range_with_len (λ i. sample_at o.nbit o.npol bytes i) 0
    (length bytes / sample_bytes o.nbit o.npol) in
    let whole = div-le_self (length samples) o.channels in
    let fewer = div-le_self (length bytes) (sample_bytes o.nbit o.npol) in
    omega (arith, count, whole, fewer)

pub are_few : CandidatesAreFew
are_few o s bytes range accepted =
    candidates_few (filterbank_of o bytes) (edges o) (plain_cells o.channels) s range o accepted

total_few : (s : Search) → SettingsInRange s → (ts : List ObservedTransfer) →
    All (λ t. plan_refusal t.observation s ≡ None) ts →
    candidate_total s ts ≤ 49158 * sum_by (λ t. length t.bytes) ts + length ts * 2 ^ 48
total_few s range [] accepted = omega arith
total_few s range (t ∷ ts) accepted =
    let e1 = sum_by-cons (λ (x : ObservedTransfer). length (candidates_of x.observation s x.bytes)) t ts in
    let e2 = sum_by-cons (λ (x : ObservedTransfer). length x.bytes) t ts in
    let here = are_few t.observation s t.bytes range (accepted 0 t (omega arith)) in
    let short = spectra_short t.observation t.bytes in
    let rest = total_few s range ts (All-tail (λ x. plan_refusal x.observation s ≡ None) t ts accepted) in
    omega (arith, e1, e2, here, short, rest)

pub are_counted : TotalsAreCounted
are_counted s ts range few accepted short =
    let all = total_few s range ts accepted in
    omega (arith, all, few, short)
