-- How many cells a path sum adds.
use Rattle.std.proofs.Common.{◌≡◌, ℕ, ◌+◌, ◌-◌, ◌≤◌, ◌<◌, List, length, slice_index, map, sum, arith, sym, ◌∙◌, ap, zero, suc}
use Rattle.std.specs.List.{range_with_len}
use Rattle.std.proofs.lemmas.List.Sums.{sum-map}
use Rattle.std.proofs.lemmas.List.FromFn.{length-map-range_with_len, sum_by-map-range_with_len_more}
use Rattle.std.proofs.lemmas.List.Concat.{length-flat_map}
use Rattle.dada_model.specs.Edges.{AreEdges}
use Rattle.search_model.specs.Samples.{Filterbank}
use Rattle.search_model.specs.Paths.{IsPath}
use Rattle.search_model.specs.Sums.{channel_cells, path_cells}
use Rattle.search_model.proofs.Paths.{path_rises}

channel_count : (f : Filterbank) (e : List ℕ) (d u late c : ℕ) →
    length (channel_cells f e d u late c) ≡ slice_index e (c + 1) + 1 - slice_index e c
channel_count f e d u late c =
    length-map-range_with_len _ (slice_index e c) (slice_index e (c + 1) + 1 - slice_index e c)

-- the cells of the first k channels: one each, and one more for each spectrum of delay
front_count : (f : Filterbank) (e : List ℕ) (d u late k : ℕ) → slice_index e 0 ≡ 0 →
    ((c : ℕ) → c < k → slice_index e c ≤ slice_index e (c + 1)) →
    sum (map (λ c. length (channel_cells f e d u late c)) (range_with_len 0 k)) ≡ k + slice_index e k
front_count f e d u late zero first rises = sym first ∙ omega arith
front_count f e d u late (suc k) first rises =
    let e1 : k + 1 ≡ suc k = omega arith in
    let before = front_count f e d u late k first (λ c h. rises c (omega arith)) in
    let up = rises k (omega arith) in
    let here = channel_count f e d u late k in
    let more = sum_by-map-range_with_len_more (λ (x : ℕ). x) (λ c. length (channel_cells f e d u late c)) 0 k k
    (omega arith) in
    let whole : sum (map (λ c. length (channel_cells f e d u late c)) (range_with_len 0 (k + 1)))
    ≡ k + 1 + slice_index e (k + 1) = omega arith in
    rw e1 at whole

-- a path of delay d over n channels has n + d cells
pub cell_count : (edges : List ℕ) (f : Filterbank) (d u late : ℕ) (e : List ℕ) → AreEdges f.channels edges →
    IsPath edges f.channels d e → length (path_cells f e d u late) ≡ f.channels + d
cell_count edges f d u late e band is =
    length-flat_map (λ c. channel_cells f e d u late c) (range_with_len 0 f.channels)
    ∙ sym (sum-map (λ c. length (channel_cells f e d u late c)) (range_with_len 0 f.channels))
    ∙ front_count f e d u late f.channels is.first (path_rises edges f.channels d e band is)
    ∙ ap (λ x. f.channels + x) is.last
