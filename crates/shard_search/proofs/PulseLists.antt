-- The pulses of a shard's delays, and its part of the candidate list.
use Rattle.std.proofs.Common.{◌≡◌, ℕ, ◌+◌, ◌-◌, ◌*◌, ◌&&◌, inl, inr, All, Bool, true, false, cond, List, [], ◌∷◌, ◌++◌, refl, sym, ap, ◌∙◌, arith, leb, ltb}
use Rattle.std.specs.Prelude.{sum_by}
use Rattle.std.specs.List.{range_with_len, flat_map}
use Rattle.std.proofs.lemmas.Bool.{cases_lt, cond-true, cond-false, le-leb, lt-leb}
use Rattle.std.proofs.lemmas.Grind.{flat_map-append}
use Rattle.std.proofs.lemmas.List.Elements.{All-append, All-cons, All-nil, filter-append}
use Rattle.std.proofs.lemmas.List.Sums.{sum_by-cons}
use Rattle.dada_model.specs.Edges.{AreEdges}
use Rattle.search_model.specs.declared.candidate.Candidate.{Candidate}
use Rattle.search_model.specs.declared.candidate.Candidate.TheVariants.{Pulse}
use Rattle.search_model.specs.declared.search.Search.{Search}
use Rattle.search_model.specs.Samples.{Filterbank}
use Rattle.search_model.specs.Detection.{is_detected}
use Rattle.search_model.specs.Sums.{late_path_sum, path_sum, box_sum}
use Rattle.search_model.specs.SubbandLaws.{LatePathSums}
use Rattle.search_model.specs.Folds.{series}
use Rattle.search_model.specs.Search.{delays, widths, shard_start}
use Rattle.search_model.specs.Candidates.{delay_of, if_detected, pulse_at, pulses_at, pulses_ending, pulses, folds, candidates, within_delays, shard_part}
use Rattle.fold_search.specs.FoldSearch.{IsDelayRange}
use Rattle.fold_search.specs.Laws.{DelaysArePart}
use Rattle.shard_search.specs.Pulses.{box_of, pulse_of, pulses_of_delay, pulses_of_end, pulses_of_ends}
use Rattle.shard_search.specs.Sought.{Sought, cells_in, is_sought_end, sought_of}
use Rattle.shard_search.specs.Sums.{sums_of, sums_from_delay}
use Rattle.shard_search.proofs.Ranges.{range_join}
use Rattle.shard_search.proofs.Seeking.{sought_append, sought_flat, sought_pulse, folds_stay}

-- ---- box sums

-- two sums agree where their terms do
sums_agree : (g h : ℕ → ℕ) → ((k : ℕ) → g k ≡ h k) → (ks : List ℕ) → sum_by g ks ≡ sum_by h ks
sums_agree g h same [] = refl
sums_agree g h same (k ∷ ks) =
    let first = sum_by-cons g k ks in
    let second = sum_by-cons h k ks in
    let here = same k in
    let rest = sums_agree g h same ks in
    omega (arith, first, second, here, rest)

-- the sum of the last path sums, where those before the first spectrum are left out
box_is_of : LatePathSums → (f : Filterbank) (edges : List ℕ) (u d w : ℕ) → AreEdges f.channels edges →
    box_sum f edges u d w ≡ box_of (sums_of f edges) d u w
unfolding sums_of box_of
box_is_of law f edges u d w are =
    sums_agree (λ k. late_path_sum f edges u d k) (λ k. cond (leb k u) (path_sum f edges (u - k) d) 0)
    (λ k. elim (cases_lt u k) [
      | inl before ↦ law.before f edges d u k are before
          ∙ sym (cond-false (leb k u) (path_sum f edges (u - k) d) 0 (lt-leb k u before))
      | inr within ↦ law.within f edges d u k within
          ∙ sym (cond-true (leb k u) (path_sum f edges (u - k) d) 0 (le-leb k u within))
    ])
    (range_with_len 0 w)

-- ---- pulses

pulse_is_of : LatePathSums → (f : Filterbank) (edges : List ℕ) (s : Search) (c : Sought) (u d w : ℕ) →
    AreEdges f.channels edges →
    sought_of c (pulse_at f edges (cells_in c) s u d w) ≡ pulse_of (sums_of f edges) s c u d w
unfolding pulse_of
pulse_is_of law f edges s c u d w are =
    sought_pulse c u d w (box_sum f edges u d w) (leb (d + w) (u + 1))
    (is_detected s.mean s.sd s.snr (box_sum f edges u d w) (w * cells_in c d))
    ∙ ap (λ sum. cond (leb (d + w) (u + 1) && is_sought_end c u)
    (if_detected (cells_in c) s (Pulse (c.first + u) d w sum)) []) (box_is_of law f edges u d w are)

-- those of one end, of all delays
all_delays : LatePathSums → (f : Filterbank) (edges : List ℕ) (s : Search) (c : Sought) (u : ℕ) →
    AreEdges f.channels edges →
    sought_of c (pulses_ending f edges (cells_in c) s u)
    ≡ flat_map (λ d. pulses_of_delay (sums_of f edges) s c u d) (delays s)
all_delays law f edges s c u are =
    sought_flat c (λ d. pulses_at f edges (cells_in c) s u d) (λ d. pulses_of_delay (sums_of f edges) s c u d)
    (λ d. sought_flat c (λ w. pulse_at f edges (cells_in c) s u d w) (λ w. pulse_of (sums_of f edges) s c u d w)
    (λ w. pulse_is_of law f edges s c u d w are) (widths s))
    (delays s)

-- they are of their delay
abbrev AreOf : ℕ → List Candidate → Type 0
AreOf d list = All (λ (x : Candidate). delay_of x ≡ d) list

own_if : (d : ℕ) (b : Bool) (list : List Candidate) → AreOf d list → AreOf d (cond b list [])
own_if d true list own = own
own_if d false list own = All-nil (λ (x : Candidate). delay_of x ≡ d)

own_pulse : (y : ℕ → ℕ → ℕ) (s : Search) (c : Sought) (u d w : ℕ) → AreOf d (pulse_of y s c u d w)
unfolding pulse_of
own_pulse y s c u d w =
    let P : Candidate → Type 0 = λ (x : Candidate). delay_of x ≡ d in
    let pulse = Pulse (c.first + u) d w (box_of y d u w) in
    own_if d (leb (d + w) (u + 1) && is_sought_end c u) (if_detected (cells_in c) s pulse)
    (own_if d (is_detected s.mean s.sd s.snr (box_of y d u w) (w * cells_in c d)) (pulse ∷ [])
    (All-cons P pulse [] refl (All-nil P)))

own_widths : (y : ℕ → ℕ → ℕ) (s : Search) (c : Sought) (u d : ℕ) (ws : List ℕ) →
    AreOf d (flat_map (λ w. pulse_of y s c u d w) ws)
own_widths y s c u d [] = All-nil (λ (x : Candidate). delay_of x ≡ d)
own_widths y s c u d (w ∷ ws) =
    All-append (λ (x : Candidate). delay_of x ≡ d) (pulse_of y s c u d w) (flat_map (λ w. pulse_of y s c u d w) ws)
    (own_pulse y s c u d w) (own_widths y s c u d ws)

one_end : LatePathSums → DelaysArePart → (f : Filterbank) (edges : List ℕ) (s : Search) (c : Sought) (lo hi u : ℕ) →
    AreEdges f.channels edges → IsDelayRange s lo hi →
    within_delays lo hi (sought_of c (pulses_ending f edges (cells_in c) s u))
    ≡ pulses_of_end (sums_of f edges) s c lo hi u
one_end law part f edges s c lo hi u edges_are are =
    let from = are.from in
    let order = are.order in
    let to = are.to in
    ap (within_delays lo hi) (all_delays law f edges s c u edges_are)
    ∙ part (λ d. pulses_of_delay (sums_of f edges) s c u d) s.min_delay lo hi (s.max_delay + 1 - s.min_delay)
    (λ d. own_widths (sums_of f edges) s c u d (widths s)) from order (omega arith)

within_join : (lo hi : ℕ) (xs ys : List Candidate) →
    within_delays lo hi (xs ++ ys) ≡ within_delays lo hi xs ++ within_delays lo hi ys
within_join lo hi xs ys = filter-append (λ x. leb lo (delay_of x) && ltb (delay_of x) hi) xs ys

within_pieces : (lo hi : ℕ) (g h : ℕ → List Candidate) → ((k : ℕ) → within_delays lo hi (g k) ≡ h k) →
    (ks : List ℕ) → within_delays lo hi (flat_map g ks) ≡ flat_map h ks
within_pieces lo hi g h each [] = refl
within_pieces lo hi g h each (k ∷ ks) =
    within_join lo hi (g k) (flat_map g ks)
    ∙ ap (λ xs. xs ++ within_delays lo hi (flat_map g ks)) (each k)
    ∙ ap (λ xs. h k ++ xs) (within_pieces lo hi g h each ks)

-- the pulses that are sought and whose delays are a shard's, from those of all
pulses_within : LatePathSums → DelaysArePart → (f : Filterbank) (edges : List ℕ) (s : Search) (c : Sought) (lo hi : ℕ) →
    AreEdges f.channels edges → IsDelayRange s lo hi →
    pulses_of_ends (sums_of f edges) s c lo hi 0 f.spectra
    ≡ within_delays lo hi (sought_of c (pulses f edges (cells_in c) s))
pulses_within law part f edges s c lo hi edges_are are =
    let g : ℕ → List Candidate = λ u. pulses_ending f edges (cells_in c) s u in
    sym (ap (within_delays lo hi)
    (sought_flat c g (λ u. sought_of c (g u)) (λ u. refl) (range_with_len 0 f.spectra))
    ∙ within_pieces lo hi (λ u. sought_of c (g u)) (λ u. pulses_of_end (sums_of f edges) s c lo hi u)
    (λ u. one_end law part f edges s c lo hi u edges_are are) (range_with_len 0 f.spectra))

-- ---- a shard's part

-- its pulses that are sought and its folds are its part of what is sought in the candidate list
pub part_is_both : LatePathSums → DelaysArePart → (f : Filterbank) (edges : List ℕ) (s : Search) (c : Sought) (k : ℕ) →
    AreEdges f.channels edges → IsDelayRange s (shard_start s k) (shard_start s (k + 1)) →
    pulses_of_ends (sums_of f edges) s c (shard_start s k) (shard_start s (k + 1)) 0 f.spectra
    ++ within_delays (shard_start s k) (shard_start s (k + 1)) (folds f edges (cells_in c) s)
    ≡ shard_part s k (sought_of c (candidates f edges (cells_in c) s))
part_is_both law part f edges s c k edges_are are =
    let lo = shard_start s k in
    let hi = shard_start s (k + 1) in
    let all = pulses f edges (cells_in c) s in
    let folded = folds f edges (cells_in c) s in
    ap (λ xs. xs ++ within_delays lo hi folded) (pulses_within law part f edges s c lo hi edges_are are)
    ∙ ap (λ xs. within_delays lo hi (sought_of c all) ++ within_delays lo hi xs)
    (sym (folds_stay c f edges (cells_in c) s))
    ∙ sym (within_join lo hi (sought_of c all) (sought_of c folded))
    ∙ ap (within_delays lo hi) (sym (sought_append c all folded))

-- ---- series

-- the series of a delay are the path sums from its spectrum on
pub series_is : (f : Filterbank) (edges : List ℕ) (d : ℕ) →
    series f edges d ≡ sums_from_delay (sums_of f edges) d f.spectra
unfolding sums_of
series_is f edges d = refl

-- ---- ends

-- the ends of so many spectra more
pub ends_join : (y : ℕ → ℕ → ℕ) (s : Search) (c : Sought) (first end start m k j : ℕ) → start + m ≡ j →
    pulses_of_ends y s c first end start m ++ pulses_of_ends y s c first end j k
    ≡ pulses_of_ends y s c first end start (m + k)
ends_join y s c first end start m k j at =
    let g : ℕ → List Candidate = λ u. pulses_of_end y s c first end u in
    sym (ap (flat_map g) (range_join start m k)
    ∙ flat_map-append g (range_with_len start m) (range_with_len (start + m) k)
    ∙ ap (λ a. flat_map g (range_with_len start m) ++ flat_map g (range_with_len a k)) at)
