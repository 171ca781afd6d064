-- Delay paths: at which delay a dispersed pulse passes each band edge.
-- Source: Zackay & Ofek, ApJ 835:11, 2017, section 2 (a band is halved again and again, and each half gets its share of
-- the delay by the dispersion law); the rounding of the share is this project's profile.
use Rattle.std.specs.Prelude.{◌≡◌, ℕ, ◌+◌, ◌-◌, ◌*◌, ◌/◌, ◌≤◌, true, false, List, map, length, slice_index, zero, suc, nat_le, if◌then◌else◌}
use Rattle.std.specs.List.{range_with_len}
use Rattle.dada_model.specs.Observation.{square}

-- the middle of the channels from lo up to hi
abbrev pub middle : ℕ → ℕ → ℕ
middle lo hi = lo + (hi - lo) / 2

-- Of a delay of d spectra between the edges `high` and `low`, the part above the edge `mid`:
-- d (1/mid² - 1/high²) / (1/low² - 1/high²), rounded to the nearest whole number, halves up.
abbrev pub split : ℕ → ℕ → ℕ → ℕ → ℕ
split high mid low d =
    let p = (square high - square mid) * square low in
    let q = (square high - square low) * square mid in
    (2 * d * p + q) / (2 * q)

-- the same at the edges of the channels from lo up to hi, and at their middle
abbrev pub split_at : List ℕ → ℕ → ℕ → ℕ → ℕ
split_at edges lo hi d =
    split (slice_index edges lo) (slice_index edges (middle lo hi)) (slice_index edges hi) d

-- `a` up to `b` is a node of the halving tree of `lo` up to `hi`: the whole of it, or a node of one of its halves
pub data IsNode (a b : ℕ) : ℕ → ℕ → Type 0 where
  the_whole : IsNode a b a b
  in_upper : (lo hi : ℕ) → lo + 2 ≤ hi → IsNode a b lo (middle lo hi) → IsNode a b lo hi
  in_lower : (lo hi : ℕ) → lo + 2 ≤ hi → IsNode a b (middle lo hi) hi → IsNode a b lo hi

-- at each node of the channels from lo up to hi with at least two channels, the upper half takes the split of the
-- delay; `entry k` is the delay at edge k
pub record IsHalved (edges : List ℕ) (lo hi : ℕ) (entry : ℕ → ℕ) : Type 0 where
  pub splits : (a b : ℕ) → IsNode a b lo hi → a + 2 ≤ b →
      entry (middle a b) ≡ entry a + split_at edges a b (entry b - entry a)

-- e, one entry for each of the n + 1 edges, is a path of delay d: it begins at 0, ends at d, and is halved all the way
pub record IsPath (edges : List ℕ) (n d : ℕ) (e : List ℕ) : Type 0 where
  pub entries : length e ≡ n + 1
  pub first : slice_index e 0 ≡ 0
  pub last : slice_index e n ≡ d
  pub halves : IsHalved edges 0 n (λ k. slice_index e k)

-- the entry at edge k, between the edges lo and hi, of a path that has the entry `start` at lo and `start + d` at hi;
-- `depth` bounds how often the band is halved, and 2^depth channels are halved down to single ones (the cases of an
-- `elim` are computed where they are needed alone)
unfoldable pub entry : ℕ → List ℕ → ℕ → ℕ → ℕ → ℕ → ℕ → ℕ
entry zero edges lo hi start d k = if nat_le hi k then start + d else start
entry (suc depth) edges lo hi start d k =
    elim (nat_le (lo + 2) hi) [
      | true ↦
          let upper = split_at edges lo hi d in
          elim (nat_le k (middle lo hi)) [
            | true ↦ entry depth edges lo (middle lo hi) start upper k
            | false ↦ entry depth edges (middle lo hi) hi (start + upper) (d - upper) k
          ]
      | false ↦ if nat_le hi k then start + d else start
    ]

-- the path of delay d over n channels, computed; 4096 channels are halved 12 times
unfoldable pub path : List ℕ → ℕ → ℕ → List ℕ
path edges n d = map (λ k. entry 12 edges 0 n 0 d k) (range_with_len 0 (n + 1))
