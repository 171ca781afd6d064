-- The candidates that are sought, piece by piece.
use Rattle.std.proofs.Common.{◌≡◌, ℕ, ◌+◌, ◌-◌, ◌*◌, ◌<◌, ◌&&◌, inl, inr, Bool, true, false, cond, List, [], ◌∷◌, ◌++◌, Some, map, refl, sym, ap, ◌∙◌, arith, ltb, leb}
use Rattle.std.specs.Prelude.{filter, ◌^◌}
use Rattle.std.specs.List.{range_with_len, flat_map}
use Rattle.std.proofs.lemmas.Bool.{cases_lt, le-leb, lt-leb, lt-ltb, le-ltb}
use Rattle.std.proofs.lemmas.List.{append-nil, map-append}
use Rattle.std.proofs.lemmas.List.Elements.{filter-append}
use Rattle.search_model.specs.declared.candidate.Candidate.{Candidate}
use Rattle.search_model.specs.declared.candidate.Candidate.TheVariants.{Pulse, Fold}
use Rattle.search_model.specs.declared.search.Search.{Search}
use Rattle.search_model.specs.Samples.{Filterbank}
use Rattle.search_model.specs.Folds.{series, halvings, fold_sum}
use Rattle.search_model.specs.Search.{delays, widths, periods, fold_delays}
use Rattle.search_model.specs.Candidates.{pulse_at, pulses_at, pulses_ending, pulses, fold_at, folds_of_trial, folds_at, folds_of_delay, folds, candidates}
use Rattle.search_model.specs.Parts.{PartsNeedNoMore, later, first_needed, without_first, ends_within, within_part}
use Rattle.search_model.specs.Detection.{is_detected}
use Rattle.search_model.specs.Sums.{box_sum}
use Rattle.fold_search.specs.Cells.{CellCounts, cells_by}
use Rattle.shard_search.specs.Sought.{Sought, whole_of, is_sought_end, is_sought, sought_of}

-- ---- pieces of a list

pub sought_append : (c : Sought) (xs ys : List Candidate) → sought_of c (xs ++ ys) ≡ sought_of c xs ++ sought_of c ys
sought_append c xs ys =
    ap (map (later c.first)) (filter-append (is_sought c) xs ys)
    ∙ map-append (later c.first) (filter (is_sought c) xs) (filter (is_sought c) ys)

pub sought_flat : (c : Sought) (g h : ℕ → List Candidate) → ((k : ℕ) → sought_of c (g k) ≡ h k) → (ks : List ℕ) →
    sought_of c (flat_map g ks) ≡ flat_map h ks
sought_flat c g h each [] = refl
sought_flat c g h each (k ∷ ks) =
    sought_append c (g k) (flat_map g ks)
    ∙ ap (λ xs. xs ++ sought_of c (flat_map g ks)) (each k)
    ∙ ap (λ xs. h k ++ xs) (sought_flat c g h each ks)

-- ---- pulses

kept_one : (g : Candidate → Candidate) (x : Candidate) (b : Bool) → map g (cond b (x ∷ []) []) ≡ cond b (g x ∷ []) []
kept_one g x true = refl
kept_one g x false = refl

keep_none : {X : Type 0} (b : Bool) → let none : List X = [] in none ≡ cond b none none
keep_none true = refl
keep_none false = refl

pub sought_pulse : (c : Sought) (u d w sum : ℕ) (begins found : Bool) →
    sought_of c (cond begins (cond found (Pulse u d w sum ∷ []) []) [])
    ≡ cond (begins && is_sought_end c u) (cond found (Pulse (c.first + u) d w sum ∷ []) []) []
sought_pulse c u d w sum true true = kept_one (later c.first) (Pulse u d w sum) (is_sought_end c u)
sought_pulse c u d w sum true false = keep_none (is_sought_end c u)
sought_pulse c u d w sum false found = refl

-- ---- folds stay

stays_if : (c : Sought) (b : Bool) (xs : List Candidate) → sought_of c xs ≡ xs →
    sought_of c (cond b xs []) ≡ cond b xs []
stays_if c true xs same = same
stays_if c false xs same = refl

pub folds_stay : (c : Sought) (f : Filterbank) (edges : List ℕ) (cells : ℕ → ℕ) (s : Search) →
    sought_of c (folds f edges cells s) ≡ folds f edges cells s
folds_stay c f edges cells s =
    sought_flat c (λ d. folds_of_delay f edges cells s d) (λ d. folds_of_delay f edges cells s d)
    (λ d. sought_flat c (λ p. folds_at f edges cells s d p) (λ p. folds_at f edges cells s d p)
    (λ p. let m = halvings s.fold_rows p (f.spectra - d) in
    stays_if c (ltb 0 m) (flat_map (λ j. folds_of_trial f edges cells s d p m j) (range_with_len 0 (2 ^ m)))
    (sought_flat c (λ j. folds_of_trial f edges cells s d p m j) (λ j. folds_of_trial f edges cells s d p m j)
    (λ j. sought_flat c (λ q. fold_at f edges cells s d p m j q) (λ q. fold_at f edges cells s d p m j q)
    (λ q. stays_if c _ (Fold d p m j q (fold_sum (series f edges d) p m j q) ∷ []) refl)
    (range_with_len 0 p))
    (range_with_len 0 (2 ^ m))))
    (periods s))
    (fold_delays s)

-- ---- where all is sought

kept_first : (g : Candidate → Candidate) (x : Candidate) (xs : List Candidate) (b : Bool) → b ≡ true →
    map g (cond b (x ∷ xs) xs) ≡ g x ∷ map g xs
kept_first g x xs b is = ap (λ t. map g (cond t (x ∷ xs) xs)) is

all_ends : (n end : ℕ) → is_sought_end (whole_of n) end ≡ true
all_ends n end = ap (λ b. b && true) (le-leb 0 (0 + end) (omega arith))

pub all_sought : (n : ℕ) (list : List Candidate) → sought_of (whole_of n) list ≡ list
all_sought n [] = refl
all_sought n (Pulse end d w sum ∷ list) =
    kept_first (later 0) (Pulse end d w sum) (filter (is_sought (whole_of n)) list) (is_sought_end (whole_of n) end)
    (all_ends n end)
    ∙ ap (λ e. Pulse e d w sum ∷ sought_of (whole_of n) list) (let same : 0 + end ≡ end = omega arith in same)
    ∙ ap (λ xs. Pulse end d w sum ∷ xs) (all_sought n list)
all_sought n (Fold d p m j q sum ∷ list) = ap (λ xs. Fold d p m j q sum ∷ xs) (all_sought n list)

-- ---- a part, in the spectra that it needs

same_if : (c : Sought) (place until : ℕ) → ((u : ℕ) → is_sought_end c u ≡ leb place u && ltb u until) →
    (u d w sum : ℕ) (begins found : Bool) →
    filter (is_sought c) (cond begins (cond found (Pulse u d w sum ∷ []) []) [])
    ≡ filter (ends_within place until) (cond begins (cond found (Pulse u d w sum ∷ []) []) [])
same_if c place until same u d w sum true true = ap (λ b. cond b (Pulse u d w sum ∷ []) []) (same u)
same_if c place until same u d w sum true false = refl
same_if c place until same u d w sum false found = refl

same_flat : (p q : Candidate → Bool) (g : ℕ → List Candidate) → ((k : ℕ) → filter p (g k) ≡ filter q (g k)) →
    (ks : List ℕ) → filter p (flat_map g ks) ≡ filter q (flat_map g ks)
same_flat p q g each [] = refl
same_flat p q g each (k ∷ ks) =
    filter-append p (g k) (flat_map g ks)
    ∙ ap (λ xs. xs ++ filter p (flat_map g ks)) (each k)
    ∙ ap (λ xs. filter q (g k) ++ xs) (same_flat p q g each ks)
    ∙ sym (filter-append q (g k) (flat_map g ks))

same_pulses : (c : Sought) (place until : ℕ) → ((u : ℕ) → is_sought_end c u ≡ leb place u && ltb u until) →
    (f : Filterbank) (edges : List ℕ) (cells : ℕ → ℕ) (s : Search) →
    filter (is_sought c) (pulses f edges cells s) ≡ filter (ends_within place until) (pulses f edges cells s)
same_pulses c place until same f edges cells s =
    let p = is_sought c in
    let q = ends_within place until in
    same_flat p q (λ u. pulses_ending f edges cells s u)
    (λ u. same_flat p q (λ d. pulses_at f edges cells s u d)
    (λ d. same_flat p q (λ w. pulse_at f edges cells s u d w)
    (λ w. let sum = box_sum f edges u d w in
    same_if c place until same u d w sum (leb (d + w) (u + 1))
    (is_detected s.mean s.sd s.snr sum (w * cells d)))
    (widths s))
    (delays s))
    (range_with_len 0 f.spectra)

none_flat : (g : ℕ → List Candidate) → ((k : ℕ) → g k ≡ []) → (ks : List ℕ) → flat_map g ks ≡ []
none_flat g none [] = refl
none_flat g none (k ∷ ks) = ap (λ xs. xs ++ flat_map g ks) (none k) ∙ none_flat g none ks

-- where nothing is folded
no_folds : (f : Filterbank) (edges : List ℕ) (cells : ℕ → ℕ) (s : Search) → s.fold_max < s.fold_min →
    folds f edges cells s ≡ []
no_folds f edges cells s off =
    let none : s.fold_max + 1 - s.fold_min ≡ 0 = omega arith in
    none_flat (λ d. folds_of_delay f edges cells s d)
    (λ d. ap (λ n. flat_map (λ p. folds_at f edges cells s d p) (range_with_len s.fold_min n)) none) (fold_delays s)

-- counted from spectrum a on, an end lies within a part where it does as the observation counts it
same_end : (a place until end : ℕ) →
    leb place (a + end) && ltb (a + end) until ≡ leb (place - a) end && ltb end (until - a)
same_end a place until end =
    let first : leb place (a + end) ≡ leb (place - a) end = elim (cases_lt (a + end) place) [
      | inl below ↦ lt-leb place (a + end) below ∙ sym (lt-leb (place - a) end (omega arith))
      | inr from ↦ le-leb place (a + end) from ∙ sym (le-leb (place - a) end (omega arith))
    ] in
    let second : ltb (a + end) until ≡ ltb end (until - a) = elim (cases_lt (a + end) until) [
      | inl below ↦ lt-ltb (a + end) until below ∙ sym (lt-ltb end (until - a) (omega arith))
      | inr past ↦ le-ltb (a + end) until past ∙ sym (le-ltb end (until - a) (omega arith))
    ] in
    ap (λ b. b && ltb (a + end) until) first ∙ ap (λ b. leb (place - a) end && b) second

pub part_is_sought : PartsNeedNoMore → (f : Filterbank) (edges : List ℕ) (counts : CellCounts) (s : Search)
    (place until : ℕ) → s.fold_max < s.fold_min →
    let a = first_needed s place in
    sought_of (record { counts = counts; first = a; place = place; until = Some until })
    (candidates (without_first a f) edges (cells_by counts) s)
    ≡ within_part place until (candidates f edges (cells_by counts) s)
part_is_sought law f edges counts s place until off =
    let a = first_needed s place in
    let g = without_first a f in
    let c : Sought = record { counts = counts; first = a; place = place; until = Some until } in
    let p = is_sought c in
    let q = ends_within (place - a) (until - a) in
    let all = pulses g edges (cells_by counts) s in
    let none : all ++ folds g edges (cells_by counts) s ≡ all =
    ap (λ xs. all ++ xs) (no_folds g edges (cells_by counts) s off) ∙ append-nil all in
    let same : filter p (candidates g edges (cells_by counts) s) ≡ filter q (candidates g edges (cells_by counts) s) =
    ap (filter p) none
    ∙ same_pulses c (place - a) (until - a) (λ u. same_end a place until u) g edges (cells_by counts) s
    ∙ sym (ap (filter q) none) in
    ap (map (later a)) same ∙ sym (law.part f edges (cells_by counts) s place until)
