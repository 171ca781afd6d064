-- Searches of some of the channels.
use Rattle.std.proofs.Common.{◌≡◌, ℕ, ◌+◌, ◌-◌, ◌<◌, ◌≤◌, Bool, true, false, cond, List, [], ◌∷◌, ◌++◌, length, filter, sum, slice_index, zero, suc, refl, sym, ap, ◌∙◌, arith}
use Rattle.std.specs.Prelude.{sum_by, count_by}
use Rattle.std.specs.List.{range_with_len}
use Rattle.std.proofs.lemmas.List.Sums.{sum_by-cons}
use Rattle.std.proofs.lemmas.List.FromFn.{length-range_with_len}
use Rattle.dada_model.specs.Edges.{AreEdges}
use Rattle.dada_model.specs.Observation.{Observation, edges}
use Rattle.search_model.specs.declared.candidate.Candidate.{Candidate}
use Rattle.search_model.specs.declared.candidate.Candidate.TheVariants.{Pulse, Fold}
use Rattle.search_model.specs.declared.search.Search.{Search}
use Rattle.search_model.specs.Samples.{Filterbank, sample_before}
use Rattle.search_model.specs.Paths.{path}
use Rattle.search_model.specs.Sums.{between, channel_cells, late_path_sum}
use Rattle.search_model.specs.Candidates.{plain_cells}
use Rattle.search_model.specs.CandidateText.{candidate_line, is_pulse, is_fold, end_line, candidate_text}
use Rattle.search_model.specs.Observed.{filterbank_of, labels_of, candidates_of, search_text}
use Rattle.search_model.specs.Masks.{kept_cells, masked_labels, masked_candidates_of, masked_text}
use Rattle.search_model.proofs.CellsAgree.{lists_agree}
use Rattle.search_model.proofs.Lists.{joins_agree, filter_all}
use Rattle.search_model.proofs.Paths.{path_is, path_rises}
use Rattle.search_model.proofs.Ranges.{sum_agree, sum_join, sum_zeros, sample_there, cells_sum}
use Rattle.search_model.proofs.Subbands.{by_channels}

-- ---- sums over what passes a test

-- a number where a test passes
abbrev where_passes : Bool → ℕ → ℕ
where_passes b n = cond b n 0

sum_filter : (p : ℕ → Bool) (g : ℕ → ℕ) (xs : List ℕ) →
    sum_by g (filter p xs) ≡ sum_by (λ x. where_passes (p x) (g x)) xs
sum_filter p g [] = refl
sum_filter p g (x ∷ xs) =
    by_test (p x) (sum_filter p g xs) ∙ sym (sum_by-cons (λ y. where_passes (p y) (g y)) x xs)
  where
    by_test : (b : Bool) → sum_by g (filter p xs) ≡ sum_by (λ y. where_passes (p y) (g y)) xs →
        sum_by g (cond b (x ∷ filter p xs) (filter p xs))
        ≡ where_passes b (g x) + sum_by (λ y. where_passes (p y) (g y)) xs
    by_test true more = sum_by-cons g x (filter p xs) ∙ ap (λ n. g x + n) more
    by_test false more = more ∙ omega arith

sum_ones : (a n : ℕ) → sum_by (λ k. 1) (range_with_len a n) ≡ n
sum_ones a zero = refl
sum_ones a (suc n) =
    let first = sum_by-cons (λ (k : ℕ). 1) a (range_with_len (a + 1) n) in
    let more = sum_ones (a + 1) n in
    omega arith

-- ---- the cells that are counted

module _ (edges : List ℕ) (n d : ℕ) (are : AreEdges n edges) where
  -- no entry is above the delay
  entry_below : (k j : ℕ) → k + j ≡ n → slice_index (path edges n d) k ≤ d
  entry_below k zero at =
      let last = (path_is edges n d are).last in
      let e : k ≡ n = omega arith in
      rw e (omega (arith, last))
  entry_below k (suc j) at =
      let next = entry_below (k + 1) j (omega arith) in
      let rises = path_rises edges n d (path edges n d) are (path_is edges n d are) k (omega arith) in
      omega arith

module _ (f : Filterbank) (edges : List ℕ) (kept : ℕ → Bool) (d u late : ℕ) (are : AreEdges f.channels edges)
    (within : d + late ≤ u)
    (marks : (c t : ℕ) → c < f.channels → t + late ≤ u → f.value c t ≡ cond (kept c) 1 0) where
  abbrev e : List ℕ
  e = path edges f.channels d

  one_channel : (c : ℕ) → c < f.channels →
      sum (channel_cells f e d u late c)
      ≡ where_passes (kept c) (length (between (slice_index e c) (slice_index e (c + 1))))
  one_channel c small =
      cells_sum f (λ k. slice_index e k) d u late c
      ∙ sum_agree (λ k. sample_before f c (u + k) (d + late)) (λ k. cond (kept c) 1 0)
      (slice_index e c) (slice_index e (c + 1) + 1 - slice_index e c)
      (λ k from to.
      let top = entry_below edges f.channels d are (c + 1) (f.channels - (c + 1)) (omega arith) in
      sample_there f c (u + k) (d + late) (omega arith)
      ∙ marks c (u + k - (d + late)) small (omega arith))
      ∙ by_mark (kept c)
    where
      count : ℕ
      count = slice_index e (c + 1) + 1 - slice_index e c

      by_mark : (b : Bool) → sum_by (λ k. cond b 1 0) (range_with_len (slice_index e c) count)
          ≡ where_passes b (length (range_with_len (slice_index e c) count))
      by_mark true = sum_ones (slice_index e c) count ∙ sym (length-range_with_len (slice_index e c) count)
      by_mark false = sum_zeros (λ k. 0) (slice_index e c) count (λ k from to. refl)

  pub cells_counted : late_path_sum f edges u d late ≡ kept_cells kept edges f.channels d
  cells_counted =
      by_channels f e d u late
      ∙ sum_agree (λ c. sum (channel_cells f e d u late c))
      (λ c. where_passes (kept c) (length (between (slice_index e c) (slice_index e (c + 1))))) 0 f.channels
      (λ c from to. one_channel c (omega arith))
      ∙ sym (sum_filter kept (λ c. length (between (slice_index e c) (slice_index e (c + 1))))
      (range_with_len 0 f.channels))

-- ---- where all channels are kept

-- the pieces of the first k channels: a cell of each, and one more for each spectrum of delay
front_pieces : (entry : ℕ → ℕ) (k : ℕ) → entry 0 ≡ 0 → ((c : ℕ) → c < k → entry c ≤ entry (c + 1)) →
    sum_by (λ c. entry (c + 1) + 1 - entry c) (range_with_len 0 k) ≡ k + entry k
front_pieces entry zero first rises = sym first ∙ omega arith
front_pieces entry (suc k) first rises =
    let e : k + 1 ≡ suc k = omega arith in
    let before = front_pieces entry k first (λ c h. rises c (omega arith)) in
    let up = rises k (omega arith) in
    let z : 0 + k ≡ k = omega arith in
    let more = rw z at (sum_join (λ c. entry (c + 1) + 1 - entry c) 0 k 1) in
    let last = sum_by-cons (λ c. entry (c + 1) + 1 - entry c) k [] in
    let whole : sum_by (λ c. entry (c + 1) + 1 - entry c) (range_with_len 0 (k + 1)) ≡ k + 1 + entry (k + 1) =
    omega arith in
    rw e at whole

pub plain_count : (kept : ℕ → Bool) (edges : List ℕ) (n d : ℕ) → AreEdges n edges → ((c : ℕ) → kept c ≡ true) →
    kept_cells kept edges n d ≡ n + d
plain_count kept edges n d are all =
    let e = path edges n d in
    let is = path_is edges n d are in
    let piece = λ (c : ℕ). length (between (slice_index e c) (slice_index e (c + 1))) in
    let rises = λ (c : ℕ) (small : c < n). path_rises edges n d e are is c small in
    ap (sum_by piece) (filter_all kept (range_with_len 0 n) (λ c inside. all c))
    ∙ sum_agree piece (λ c. slice_index e (c + 1) + 1 - slice_index e c) 0 n
    (λ c from to. length-range_with_len (slice_index e c) (slice_index e (c + 1) + 1 - slice_index e c))
    ∙ front_pieces (λ k. slice_index e k) n is.first rises
    ∙ ap (λ x. n + x) is.last

pub plain_list : (o : Observation) (s : Search) (bytes : List ℕ) → AreEdges o.channels (edges o) →
    masked_candidates_of o s (λ c. true) bytes ≡ candidates_of o s bytes
plain_list o s bytes are =
    lists_agree (filterbank_of o bytes) (edges o) (kept_cells (λ c. true) (edges o) o.channels)
    (plain_cells o.channels) s (λ d from to. plain_count (λ c. true) (edges o) o.channels d are (λ c. refl))

-- lines agree where the cells do
line_agrees : (dm cells other : ℕ → ℕ) (word : ℕ → List ℕ) → ((d : ℕ) → cells d ≡ other d) → (c : Candidate) →
    candidate_line (record { dm = dm; cells = cells; word = word }) c
    ≡ candidate_line (record { dm = dm; cells = other; word = word }) c
line_agrees dm cells other word same (Pulse end delay width sum) = rw (same delay) refl
line_agrees dm cells other word same (Fold delay period halvings trial phase sum) = rw (same delay) refl

pub plain_text : (o : Observation) (s : Search) (bytes : List ℕ) → AreEdges o.channels (edges o) →
    masked_text o s (λ c. true) bytes ≡ search_text o s bytes
plain_text o s bytes are =
    let f = filterbank_of o bytes in
    let list = candidates_of o s bytes in
    let labels = masked_labels o (λ c. true) in
    ap (candidate_text labels f.spectra) (plain_list o s bytes are)
    ∙ ap (λ lines. lines ++ end_line (count_by is_pulse list) (count_by is_fold list) f.spectra)
    (joins_agree (candidate_line labels) (candidate_line (labels_of o)) list
    (λ c inside. line_agrees labels.dm labels.cells (plain_cells o.channels) labels.word
    (λ d. plain_count (λ x. true) (edges o) o.channels d are (λ x. refl)) c))
