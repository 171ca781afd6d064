-- The books of all shards: what they keep, that they can be merged, and that they count the candidate list.
use Rattle.std.proofs.Common.{◌≡◌, ℕ, ◌&&◌, leb, ltb, ◌+◌, ◌*◌, ◌/◌, ◌<◌, ◌≤◌, List, [], ◌∷◌, map, length, get_or, Some, refl, sym, ap, subst, ◌∙◌, arith}
use Rattle.std.specs.Prelude.{All, AllPairs, Contains}
use Rattle.std.specs.List.{sum_by, range_with_len}
use Rattle.std.proofs.Math.Nat.{mul-div_cancel, div-mul-le_self, mul-le-mul_right}
use Rattle.std.proofs.lemmas.Nat.{le-div}
use Rattle.std.proofs.lemmas.List.{take_all, length-map}
use Rattle.std.proofs.lemmas.List.Elements.{All-map, All-tail, Contains-get_or}
use Rattle.std.proofs.lemmas.List.FromFn.{length-map-range_with_len, get_or-map-range_with_len}
use Rattle.std.proofs.lemmas.List.Sums.{sum_by-cons, length-filter, count_by-le-length}
use Rattle.dada_model.specs.Observation.{Observation, edges}
use Rattle.search_model.specs.declared.search.Search.{Search}
use Rattle.search_model.specs.declared.candidate.Candidate.{Candidate}
use Rattle.search_model.specs.declared.candidate.Candidate.TheVariants.{Pulse, Fold}
use Rattle.search_model.specs.Search.{SettingsInRange, delay_count, shard_start}
use Rattle.search_model.specs.Candidates.{delay_of, shard_part, plain_cells}
use Rattle.search_model.specs.CandidateLaws.{CandidatesAreListed, CandidatesRise, ShardsMerge, IsCandidate, shard_parts}
use Rattle.search_model.specs.Observed.{filterbank_of, candidates_of}
use Rattle.search_model.specs.Order.{IsRising, IsMergeOf}
use Rattle.candidate_book.specs.Book.{book_of}
use Rattle.candidate_book.specs.Conditions.{IsSearched, CanBeMerged, ShareNoDelay, kept_lists}
use Rattle.transfer_text.specs.Found.{count_in, part_books}
use Rattle.transfer_text.proofs.Parts.{parts_count, all_counted}

-- ---- books of parts

-- what they keep, where no part is longer than the limit
pub parts_kept : (n : ℕ) (parts : List (List Candidate)) → All (λ part. length part ≤ n) parts →
    kept_lists (map (λ part. Some (book_of n part)) parts) ≡ parts
parts_kept n [] short = refl
parts_kept n (part ∷ more) short =
    ap (λ (x : List Candidate). x ∷ kept_lists (map (λ p. Some (book_of n p)) more))
    (take_all n part (short 0 part (omega arith)))
    ∙ ap (λ (xs : List (List Candidate)). part ∷ xs)
    (parts_kept n more (All-tail (λ p. length p ≤ n) part more short))

-- how many were added to them
pub parts_added : (n : ℕ) (parts : List (List Candidate)) →
    sum_by count_in (map (λ part. Some (book_of n part)) parts) ≡ sum_by length parts
parts_added n [] = refl
parts_added n (part ∷ more) =
    let e1 = sum_by-cons count_in (Some (book_of n part)) (map (λ p. Some (book_of n p)) more) in
    let e2 = sum_by-cons length part more in
    let rest = parts_added n more in
    omega (arith, e1, e2, rest)

-- ---- shards

div_rises : (a b k : ℕ) → 0 < k → a ≤ b → a / k ≤ b / k
div_rises a b k some le =
    let small = div-mul-le_self a k in
    le-div (a / k) b k some (omega (arith, small, le))

starts_rise : (s : Search) (i j : ℕ) → 1 ≤ s.shards → i ≤ j → shard_start s i ≤ shard_start s j
starts_rise s i j some le =
    let more = mul-le-mul_right (delay_count s) le in
    let quotient = div_rises (i * delay_count s) (j * delay_count s) s.shards some more in
    omega (arith, quotient)

first_start : (s : Search) → 1 ≤ s.shards → shard_start s 0 ≡ s.min_delay
first_start s some = let none : 0 * delay_count s / s.shards ≡ 0 = omega arith in omega arith

last_start : (s : Search) → 1 ≤ s.shards → shard_start s s.shards ≡ s.min_delay + delay_count s
last_start s some =
    let e : s.shards * delay_count s ≡ delay_count s * s.shards = omega arith in
    let all : s.shards * delay_count s / s.shards ≡ delay_count s =
    rw e (mul-div_cancel (delay_count s) {n = s.shards} some) in
    omega arith

-- ---- the candidate list of a transfer

module _ (listed : CandidatesAreListed) (rise : CandidatesRise) (merge : ShardsMerge)
    (o : Observation) (s : Search) (bytes : List ℕ) (range : SettingsInRange s) where
  abbrev found : List Candidate
  found = candidates_of o s bytes

  is_candidate : (c : Candidate) → Contains found c →
      IsCandidate (filterbank_of o bytes) (edges o) (plain_cells o.channels) s c
  is_candidate c = (listed (filterbank_of o bytes) (edges o) (plain_cells o.channels) s c).0

  delays_in : (c : Candidate) → IsCandidate (filterbank_of o bytes) (edges o) (plain_cells o.channels) s c →
      (s.min_delay ≤ delay_of c) × (delay_of c ≤ s.max_delay)
  delays_in (Pulse end delay width sum) is = (is.delay_from, is.delay_to)
  delays_in (Fold delay period halvings trial phase sum) is = (is.delay_from, is.delay_to)

  searched : (c : Candidate) → IsCandidate (filterbank_of o bytes) (edges o) (plain_cells o.channels) s c → IsSearched c
  searched (Pulse end delay width sum) is = (omega (arith, is.delay_to, range.delays.most), is.box)
  searched (Fold delay period halvings trial phase sum) is = (
    omega (arith, is.delay_to, range.delays.most),
    is.rows.some,
    omega (arith, is.rows.within, range.folds.most_rows),
  )

  rises : IsRising found
  rises = rise (filterbank_of o bytes) (edges o) (plain_cells o.channels) s

  part_short : (k : ℕ) → length (shard_part s k found) ≤ length found
  part_short k =
      let test = λ (c : Candidate). leb (shard_start s k) (delay_of c) && ltb (delay_of c) (shard_start s (k + 1)) in
      let e = length-filter test found in
      let le = count_by-le-length test found in
      omega (arith, e, le)

  -- the books count the whole list
  pub all_added : sum_by count_in (part_books s found) ≡ length found
  all_added =
      let some = range.parts.least_shards in
      let added = parts_added s.max_candidates (shard_parts s found) in
      let count = parts_count (shard_start s) (λ k. starts_rise s k (k + 1) some (omega arith)) found s.shards in
      let first = first_start s some in
      let last = last_start s some in
      let every = all_counted (shard_start s 0) (shard_start s s.shards) found (λ k d within.
      let c = get_or found k d in
      let bounds = delays_in c (is_candidate c (Contains-get_or found k d within)) in
      (omega (arith, first, bounds.0), omega (arith, last, bounds.1, range.delays.rise))) in
      omega (arith, added, count.1, every)

  pub all_kept : length found ≤ s.max_candidates → kept_lists (part_books s found) ≡ shard_parts s found
  all_kept few = parts_kept s.max_candidates (shard_parts s found)
      (All-map (λ p. length p ≤ s.max_candidates) (λ k. shard_part s k found) (range_with_len 0 s.shards)
      (λ i d within.
      let short = part_short (get_or (range_with_len 0 s.shards) i d) in
      omega (arith, few, short)))

  parts_rise : All IsRising (shard_parts s found)
  parts_rise = All-map IsRising (λ k. shard_part s k found) (range_with_len 0 s.shards)
      (λ i d within. merge.rises s (get_or (range_with_len 0 s.shards) i d) found rises)

  part_searched : (k : ℕ) → All IsSearched (shard_part s k found)
  part_searched k = λ i d within.
      let c = get_or (shard_part s k found) i d in
      let there = (merge.members s k found c).0 (Contains-get_or (shard_part s k found) i d within) in
      searched c (is_candidate c there.0)

  parts_searched : All (All IsSearched) (shard_parts s found)
  parts_searched = All-map (All IsSearched) (λ k. shard_part s k found) (range_with_len 0 s.shards)
      (λ i d within. part_searched (get_or (range_with_len 0 s.shards) i d))

  parts_apart : AllPairs ShareNoDelay (shard_parts s found)
  parts_apart = λ i j d before within x y in_x in_y same.
      let part_of : ℕ → List Candidate = λ k. shard_part s k found in
      let count = length-map-range_with_len part_of 0 s.shards in
      let at_i = get_or-map-range_with_len part_of 0 s.shards i i d (omega (arith, before, within, count))
      (omega arith) in
      let at_j = get_or-map-range_with_len part_of 0 s.shards j j d (omega (arith, within, count)) (omega arith) in
      let x_is = (merge.members s i found x).0 (subst (λ l. Contains l x) at_i in_x) in
      let y_is = (merge.members s j found y).0 (subst (λ l. Contains l y) at_j in_y) in
      let apart = starts_rise s (i + 1) j range.parts.least_shards (omega (arith, before)) in
      omega (arith, same, x_is.2, y_is.1, apart)

  pub can_be_merged : length found ≤ s.max_candidates → CanBeMerged (part_books s found)
  can_be_merged few =
      let kept = sym (all_kept few) in
      let books = length-map (shard_parts s found) (λ part. Some (book_of s.max_candidates part)) in
      let parts = length-map-range_with_len (λ k. shard_part s k found) 0 s.shards in
      record {
        few = omega (arith, books, parts, range.parts.most_shards);
        rise = subst (All IsRising) kept parts_rise;
        apart = subst (AllPairs ShareNoDelay) kept parts_apart;
        searched = subst (All (All IsSearched)) kept parts_searched;
      }

  pub merged : length found ≤ s.max_candidates → IsMergeOf (kept_lists (part_books s found)) found
  merged few = subst (λ l. IsMergeOf l found) (sym (all_kept few))
      (merge.merge (filterbank_of o bytes) (edges o) (plain_cells o.channels) s range.parts.least_shards)
