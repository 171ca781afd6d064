-- Where nothing is folded, what ends past a part does not matter to it.
use Rattle.std.proofs.Common.{◌≡◌, ◌∙◌, ℕ, ◌+◌, ◌-◌, ◌*◌, ◌≤◌, ◌<◌, ◌&&◌, Bool, true, false, cond, leb, List, [], ◌∷◌, ◌++◌, zero, suc, map, min, refl, inl, inr, sym, ap, arith}
use Rattle.std.specs.List.{filter, flat_map, range_with_len}
use Rattle.std.proofs.lemmas.Bool.{cases_lt, le-leb, le-ltb}
use Rattle.std.proofs.lemmas.Grind.{flat_map-append}
use Rattle.std.proofs.lemmas.List.{append-nil}
use Rattle.std.proofs.lemmas.List.Elements.{filter-append}
use Rattle.search_model.specs.declared.candidate.Candidate.{Candidate}
use Rattle.search_model.specs.declared.candidate.Candidate.TheVariants.{Pulse, Fold}
use Rattle.search_model.specs.declared.search.Search.{Search}
use Rattle.search_model.specs.Candidates.{candidates, folds, folds_at, folds_of_delay, pulse_at, pulses, pulses_at, pulses_ending}
use Rattle.search_model.specs.Detection.{is_detected}
use Rattle.search_model.specs.Parts.{ends_within, later, within_part}
use Rattle.search_model.specs.Samples.{Filterbank}
use Rattle.search_model.specs.Search.{delays, fold_delays, widths}
use Rattle.search_model.specs.Sums.{box_sum}
use Rattle.shard_search.specs.Sought.{counted_of, is_sought, is_sought_end, sought_of}

-- ---- all is sought, however many cells there are

kept_first : (g : Candidate → Candidate) (x : Candidate) (xs : List Candidate) (b : Bool) → b ≡ true →
    map g (cond b (x ∷ xs) xs) ≡ g x ∷ map g xs
kept_first g x xs b is = ap (λ t. map g (cond t (x ∷ xs) xs)) is

all_ends : (counts : List ℕ) (end : ℕ) → is_sought_end (counted_of counts) end ≡ true
all_ends counts end = ap (λ b. b && true) (le-leb 0 (0 + end) (omega arith))

pub all_counted : (counts : List ℕ) (list : List Candidate) → sought_of (counted_of counts) list ≡ list
all_counted counts [] = refl
all_counted counts (Pulse end d w sum ∷ list) =
    kept_first (later 0) (Pulse end d w sum) (filter (is_sought (counted_of counts)) list)
    (is_sought_end (counted_of counts) end) (all_ends counts end)
    ∙ ap (λ e. Pulse e d w sum ∷ sought_of (counted_of counts) list) (let same : 0 + end ≡ end = omega arith in same)
    ∙ ap (λ xs. Pulse end d w sum ∷ xs) (all_counted counts list)
all_counted counts (Fold d p m j q sum ∷ list) = ap (λ xs. Fold d p m j q sum ∷ xs) (all_counted counts list)

-- ---- what ends past a part

none_both : (a : Bool) → a && false ≡ false
none_both true = refl
none_both false = refl

none_if : (place until u d w sum : ℕ) (begins found : Bool) → until ≤ u →
    filter (ends_within place until) (cond begins (cond found (Pulse u d w sum ∷ []) []) []) ≡ []
none_if place until u d w sum true true past =
    ap (λ b. cond b (Pulse u d w sum ∷ []) [])
    (ap (λ b. leb place u && b) (le-ltb u until past) ∙ none_both (leb place u))
none_if place until u d w sum true false past = refl
none_if place until u d w sum false found past = refl

none_flat : (p : Candidate → Bool) (g : ℕ → List Candidate) → ((k : ℕ) → filter p (g k) ≡ []) → (ks : List ℕ) →
    filter p (flat_map g ks) ≡ []
none_flat p g each [] = refl
none_flat p g each (k ∷ ks) =
    filter-append p (g k) (flat_map g ks) ∙ ap (λ xs. xs ++ filter p (flat_map g ks)) (each k) ∙ none_flat p g each ks

none_past : (f : Filterbank) (edges : List ℕ) (cells : ℕ → ℕ) (s : Search) (place until u : ℕ) → until ≤ u →
    filter (ends_within place until) (pulses_ending f edges cells s u) ≡ []
none_past f edges cells s place until u past =
    let p = ends_within place until in
    none_flat p (λ d. pulses_at f edges cells s u d)
    (λ d. none_flat p (λ w. pulse_at f edges cells s u d w)
    (λ w. let sum = box_sum f edges u d w in
    none_if place until u d w sum (leb (d + w) (u + 1)) (is_detected s.mean s.sd s.snr sum (w * cells d)) past)
    (widths s))
    (delays s)

none_range : (p : Candidate → Bool) (g : ℕ → List Candidate) (limit : ℕ) →
    ((u : ℕ) → limit ≤ u → filter p (g u) ≡ []) → (m k : ℕ) → limit ≤ m →
    filter p (flat_map g (range_with_len m k)) ≡ []
none_range p g limit none m zero past = refl
none_range p g limit none m (suc k) past =
    filter-append p (g m) (flat_map g (range_with_len (m + 1) k))
    ∙ ap (λ xs. xs ++ filter p (flat_map g (range_with_len (m + 1) k))) (none m past)
    ∙ none_range p g limit none (m + 1) k (omega arith)

range_join : (a m n : ℕ) → range_with_len a (m + n) ≡ range_with_len a m ++ range_with_len (a + m) n
range_join a zero n =
    let e : 0 + n ≡ n = omega arith in
    let z : a + 0 ≡ a = omega arith in
    rw (e, z) refl
range_join a (suc m) n =
    let e : suc m + n ≡ suc (m + n) = omega arith in
    let z : a + suc m ≡ a + 1 + m = omega arith in
    rw (e, z) (ap (λ xs. a ∷ xs) (range_join (a + 1) m n))

cut_range : (p : Candidate → Bool) (g : ℕ → List Candidate) (limit n : ℕ) →
    ((u : ℕ) → limit ≤ u → filter p (g u) ≡ []) →
    filter p (flat_map g (range_with_len 0 n)) ≡ filter p (flat_map g (range_with_len 0 (min n limit)))
cut_range p g limit n none = elim (cases_lt n limit) [
  | inl less ↦ ap (λ m. filter p (flat_map g (range_with_len 0 m))) (let same : n ≡ min n limit = omega arith in same)
  | inr more ↦
      let m : ℕ = min n limit in
      let sum : n ≡ m + (n - m) = omega arith in
      let front = flat_map g (range_with_len 0 m) in
      ap (λ k. filter p (flat_map g (range_with_len 0 k))) sum
      ∙ ap (λ ks. filter p (flat_map g ks)) (range_join 0 m (n - m))
      ∙ ap (filter p) (flat_map-append g (range_with_len 0 m) (range_with_len (0 + m) (n - m)))
      ∙ filter-append p front (flat_map g (range_with_len (0 + m) (n - m)))
      ∙ ap (λ xs. filter p front ++ xs) (none_range p g limit none (0 + m) (n - m) (omega (arith, more)))
      ∙ append-nil (filter p front)
]

nothing_flat : (g : ℕ → List Candidate) → ((k : ℕ) → g k ≡ []) → (ks : List ℕ) → flat_map g ks ≡ []
nothing_flat g none [] = refl
nothing_flat g none (k ∷ ks) = ap (λ xs. xs ++ flat_map g ks) (none k) ∙ nothing_flat g none ks

-- where nothing is folded
pub no_folds : (f : Filterbank) (edges : List ℕ) (cells : ℕ → ℕ) (s : Search) → s.fold_max < s.fold_min →
    folds f edges cells s ≡ []
no_folds f edges cells s off =
    let none : s.fold_max + 1 - s.fold_min ≡ 0 = omega arith in
    nothing_flat (λ d. folds_of_delay f edges cells s d)
    (λ d. ap (λ n. flat_map (λ p. folds_at f edges cells s d p) (range_with_len s.fold_min n)) none) (fold_delays s)

pulses_alone : (f : Filterbank) (edges : List ℕ) (cells : ℕ → ℕ) (s : Search) → s.fold_max < s.fold_min →
    candidates f edges cells s ≡ pulses f edges cells s
pulses_alone f edges cells s off =
    ap (λ xs. pulses f edges cells s ++ xs) (no_folds f edges cells s off) ∙ append-nil (pulses f edges cells s)

-- the spectra past a part do not matter to it
pub cut_part : (f : Filterbank) (edges : List ℕ) (cells : ℕ → ℕ) (s : Search) (place until : ℕ) →
    s.fold_max < s.fold_min →
    within_part place until (candidates (record f { spectra = min f.spectra until }) edges cells s)
    ≡ within_part place until (candidates f edges cells s)
cut_part f edges cells s place until off =
    let p = ends_within place until in
    let cut : Filterbank = record f { spectra = min f.spectra until } in
    ap (filter p) (pulses_alone cut edges cells s off)
    ∙ sym (cut_range p (λ u. pulses_ending f edges cells s u) until f.spectra
    (λ u past. none_past f edges cells s place until u past))
    ∙ ap (filter p) (sym (pulses_alone f edges cells s off))
