-- The parts of the shards, and their merge.
use Rattle.std.proofs.Common.{◌≡◌, ℕ, ◌+◌, ◌*◌, ◌/◌, ◌<◌, ◌≤◌, ◌↔◌, List, subst, arith}
use Rattle.std.specs.Prelude.{Contains}
use Rattle.std.proofs.Math.Nat.{mul-div_cancel}
use Rattle.search_model.specs.declared.candidate.Candidate.{Candidate}
use Rattle.search_model.specs.declared.candidate.Candidate.TheVariants.{Pulse, Fold}
use Rattle.search_model.specs.declared.search.Search.{Search}
use Rattle.search_model.specs.Samples.{Filterbank}
use Rattle.search_model.specs.Search.{delay_count, shard_start}
use Rattle.search_model.specs.Candidates.{delay_of, candidates, within_delays, shard_part}
use Rattle.search_model.specs.CandidateLaws.{IsCandidate, shard_parts}
use Rattle.search_model.specs.Order.{IsRising, IsMergeOf}
use Rattle.search_model.proofs.Delays.{within_members, within_rises, between_merge, all_within}
use Rattle.search_model.proofs.Listed.{candidate_listed}
use Rattle.search_model.proofs.Rising.{list_rises}

-- ---- one part

pub part_members : (s : Search) (k : ℕ) (list : List Candidate) (c : Candidate) → Contains (shard_part s k list) c
    ↔ (Contains list c × (shard_start s k ≤ delay_of c) × (delay_of c < shard_start s (k + 1)))
part_members s k list c = within_members (shard_start s k) (shard_start s (k + 1)) list c

pub part_rises : (s : Search) (k : ℕ) (list : List Candidate) → IsRising list → IsRising (shard_part s k list)
part_rises s k list h = within_rises (shard_start s k) (shard_start s (k + 1)) list h

-- ---- all parts

first_start : (s : Search) → 1 ≤ s.shards → shard_start s 0 ≡ s.min_delay
first_start s some = let none : 0 * delay_count s / s.shards ≡ 0 = omega arith in omega arith

last_start : (s : Search) → 1 ≤ s.shards → shard_start s s.shards ≡ s.min_delay + delay_count s
last_start s some =
    let e : s.shards * delay_count s ≡ delay_count s * s.shards = omega arith in
    let all : s.shards * delay_count s / s.shards ≡ delay_count s =
    rw e (mul-div_cancel (delay_count s) {n = s.shards} some) in
    omega arith

module _ (f : Filterbank) (edges : List ℕ) (cells : ℕ → ℕ) (s : Search) where
  -- the delays of candidates are those of the search
  pub delay_within : (c : Candidate) → IsCandidate f edges cells s c →
      (s.min_delay ≤ delay_of c) × (delay_of c ≤ s.max_delay)
  delay_within (Pulse end delay width sum) is = (is.delay_from, is.delay_to)
  delay_within (Fold delay period halvings trial phase sum) is = (is.delay_from, is.delay_to)

  in_shards : 1 ≤ s.shards → (c : Candidate) → Contains (candidates f edges cells s) c →
      (shard_start s 0 ≤ delay_of c) × (delay_of c < shard_start s s.shards)
  in_shards some c h =
      let within = delay_within c ((candidate_listed f edges cells s c).0 h) in
      let from = within.0 in
      let to = within.1 in
      let first = first_start s some in
      let last = last_start s some in
      (omega arith, omega arith)

  pub parts_merge : 1 ≤ s.shards → IsMergeOf (shard_parts s (candidates f edges cells s)) (candidates f edges cells s)
  parts_merge some =
      between_merge (shard_start s) s.shards (candidates f edges cells s) (list_rises f edges cells s) (in_shards some)

  pub one_shard : s.shards ≡ 1 → shard_part s 0 (candidates f edges cells s) ≡ candidates f edges cells s
  one_shard one =
      let all = all_within (shard_start s) s.shards (candidates f edges cells s) (list_rises f edges cells s)
      (in_shards (omega arith)) in
      subst (λ k. within_delays (shard_start s 0) (shard_start s k) (candidates f edges cells s)
      ≡ candidates f edges cells s) one all
