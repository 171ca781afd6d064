-- Sums over a part of the band.
use Rattle.std.proofs.Common.{◌≡◌, ℕ, ◌+◌, ◌-◌, ◌*◌, ◌≤◌, ◌<◌, inl, inr, List, [], ◌∷◌, sum, slice_index, zero, suc, refl, sym, ap, ◌∙◌, arith}
use Rattle.std.specs.Prelude.{sum_by, All}
use Rattle.std.specs.List.{range_with_len, flat_map}
use Rattle.std.proofs.lemmas.Bool.{cases_lt}
use Rattle.std.proofs.lemmas.List.Sums.{sum_by-append, sum_by-cons, sum_by-le}
use Rattle.std.proofs.lemmas.List.FromFn.{length-range_with_len}
use Rattle.std.proofs.lemmas.List.Elements.{All-contains, All-map}
use Rattle.dada_model.specs.Edges.{AreEdges}
use Rattle.search_model.specs.Samples.{Filterbank, sample_before}
use Rattle.search_model.specs.Paths.{middle, split_at, IsHalved, the_whole, path}
use Rattle.search_model.specs.Sums.{between, box_sum, cells_along, channel_cells, path_cells, path_sum_along, path_sum, late_path_sum}
use Rattle.search_model.specs.Subbands.{node_path, node_sum}
use Rattle.search_model.proofs.Paths.{Entries, entry_is, same_between, rises_between, middle_above, middle_below, split_at_le, halved_upper, halved_lower, entry_of_path, path_is}
use Rattle.search_model.proofs.Cells.{cell_count}
use Rattle.search_model.proofs.Lists.{all_members, member_flat_map}
use Rattle.search_model.proofs.Ranges.{sum_agree, sum_shift, sum_split, sum_zeros, sample_shift, sample_none, sample_there, cells_sum}

-- ---- the path over a node

module _ (edges : List ℕ) (n : ℕ) (are : AreEdges n edges) where
  node_entries : (lo hi d : ℕ) → lo < hi → hi ≤ n → Entries edges lo hi 0 d (node_path edges lo hi d)
  node_entries lo hi d h hn =
      let many = are.many in
      entry_is edges n are 12 lo hi 0 d h hn (omega arith)

  module _ (lo hi d : ℕ) (two : lo + 2 ≤ hi) (hn : hi ≤ n) where
    whole : Entries edges lo hi 0 d (node_path edges lo hi d)
    whole = node_entries lo hi d (omega arith) hn

    part_le : split_at edges lo hi d ≤ d
    part_le = split_at_le edges n are lo hi d two hn

    at_middle : node_path edges lo hi d (middle lo hi) ≡ split_at edges lo hi d
    at_middle =
        let e = whole in
        let begins = e.begins in
        let ends = e.ends in
        let delay : node_path edges lo hi d hi - node_path edges lo hi d lo ≡ d = omega arith in
        let law = e.halved.splits lo hi the_whole two in
        let same : split_at edges lo hi (node_path edges lo hi d hi - node_path edges lo hi d lo)
        ≡ split_at edges lo hi d = ap (split_at edges lo hi) delay in
        omega arith

    -- above the middle the path is that of the upper half
    upper_same : (k : ℕ) → lo ≤ k → k ≤ middle lo hi →
        node_path edges lo hi d k ≡ node_path edges lo (middle lo hi) (split_at edges lo hi d) k
    upper_same k from to =
        let u = node_entries lo (middle lo hi) (split_at edges lo hi d) (middle_above lo hi two) (omega arith) in
        let e = whole in
        let begins = e.begins in
        let ends : node_path edges lo hi d (middle lo hi)
        ≡ node_path edges lo (middle lo hi) (split_at edges lo hi d) (middle lo hi) =
        (let mid = at_middle in let last = u.ends in omega arith) in
        same_between edges n are n lo (middle lo hi) (node_path edges lo hi d)
        (node_path edges lo (middle lo hi) (split_at edges lo hi d))
        (middle_above lo hi two) (omega arith) (omega arith) (halved_upper edges lo hi _ two e.halved) u.halved
        (begins ∙ sym u.begins) ends
        (omega arith) k from to

    -- below it, that of the lower half, after the split
    lower_same : (k : ℕ) → middle lo hi ≤ k → k ≤ hi →
        node_path edges lo hi d k
        ≡ split_at edges lo hi d + node_path edges (middle lo hi) hi (d - split_at edges lo hi d) k
    lower_same k from to =
        let part = split_at edges lo hi d in
        let below = part_le in
        let l = node_entries (middle lo hi) hi (d - part) (middle_below lo hi two) hn in
        let e = whole in
        let ends = e.ends in
        let mid = at_middle in
        let l_begins = l.begins in
        let l_ends = l.ends in
        same_between edges n are n (middle lo hi) hi (node_path edges lo hi d) (λ i.
        part + node_path edges (middle lo hi) hi (d - part) i)
        (middle_below lo hi two) hn (omega arith) (halved_lower edges lo hi _ two e.halved)
        (raised (middle lo hi) part _ l.halved) (omega arith) (omega arith)
        (omega arith) k from to
      where
        raised : (lo s : ℕ) (g : ℕ → ℕ) → IsHalved edges lo hi g → IsHalved edges lo hi (λ i. s + g i)
        raised lo s g h = record {
          splits = λ a b node more.
              let e : s + g b - (s + g a) ≡ g b - g a = omega arith in
              let law = h.splits a b node more in
              let same : split_at edges a b (s + g b - (s + g a)) ≡ split_at edges a b (g b - g a) =
              ap (split_at edges a b) e in
              omega arith;
        }

-- ---- sums over a node

cells_agree : (f : Filterbank) (e g : ℕ → ℕ) (d u late c : ℕ) → e c ≡ g c → e (c + 1) ≡ g (c + 1) →
    sum (cells_along f e d u late c) ≡ sum (cells_along f g d u late c)
cells_agree f e g d u late c first last = rw (first, last) refl

-- the same cells, where the delay and the lateness together are the same
cells_later : (f : Filterbank) (e : ℕ → ℕ) (d u late d' late' c : ℕ) → d + late ≡ d' + late' →
    sum (cells_along f e d u late c) ≡ sum (cells_along f e d' u late' c)
cells_later f e d u late d' late' c same = rw same refl

-- entries that are s greater give the cells of a delay that is s less
cells_raised : (f : Filterbank) (e : ℕ → ℕ) (s d u late c : ℕ) → s ≤ d →
    sum (cells_along f (λ k. s + e k) d u late c) ≡ sum (cells_along f e (d - s) u late c)
cells_raised f e s d u late c below =
    let count : s + e (c + 1) + 1 - (s + e c) ≡ e (c + 1) + 1 - e c = omega arith in
    let shifted = sum_shift (λ k. sample_before f c (u + k) (d + late)) s (e c) (e (c + 1) + 1 - e c) in
    let agree = sum_agree (λ k. sample_before f c (u + (s + k)) (d + late)) (λ k.
    sample_before f c (u + k) (d - s + late)) (e c) (e (c + 1) + 1 - e c)
    (λ k from to.
    let a : u + (s + k) ≡ u + k + s = omega arith in
    let b : d + late ≡ d - s + late + s = omega arith in
    rw (a, b) (sample_shift f c (u + k) (d - s + late) s)) in
    cells_sum f (λ k. s + e k) d u late c ∙ rw count (shifted ∙ agree) ∙ sym (cells_sum f e (d - s) u late c)

pub halves_sum : (f : Filterbank) (edges : List ℕ) (n lo hi d u late : ℕ) → AreEdges n edges → lo + 2 ≤ hi → hi ≤ n →
    node_sum f edges lo hi d u late
    ≡ node_sum f edges lo (middle lo hi) (split_at edges lo hi d) u (late + (d - split_at edges lo hi d))
    + node_sum f edges (middle lo hi) hi (d - split_at edges lo hi d) u late
halves_sum f edges n lo hi d u late are two hn =
    let m = middle lo hi in
    let s = split_at edges lo hi d in
    let below = part_le edges n are lo hi d two hn in
    let cells = λ (c : ℕ). sum (cells_along f (node_path edges lo hi d) d u late c) in
    let join : node_sum f edges lo hi d u late
    ≡ sum_by cells (range_with_len lo (m - lo)) + sum_by cells (range_with_len m (hi - m)) =
    sum_split cells lo m hi (omega arith) (omega arith) in
    let upper : sum_by cells (range_with_len lo (m - lo)) ≡ node_sum f edges lo m s u (late + (d - s)) =
    sum_agree cells (λ c. sum (cells_along f (node_path edges lo m s) s u (late + (d - s)) c)) lo (m - lo)
    (λ c from to.
    cells_agree f (node_path edges lo hi d) (node_path edges lo m s) d u late c
    (upper_same edges n are lo hi d two hn c from (omega arith))
    (upper_same edges n are lo hi d two hn (c + 1) (omega arith) (omega arith))
    ∙ cells_later f (node_path edges lo m s) d u late s (late + (d - s)) c (omega arith)) in
    let lower : sum_by cells (range_with_len m (hi - m)) ≡ node_sum f edges m hi (d - s) u late =
    sum_agree cells (λ c. sum (cells_along f (node_path edges m hi (d - s)) (d - s) u late c)) m (hi - m)
    (λ c from to.
    cells_agree f (node_path edges lo hi d) (λ k. s + node_path edges m hi (d - s) k) d u late c
    (lower_same edges n are lo hi d two hn c from (omega arith))
    (lower_same edges n are lo hi d two hn (c + 1) (omega arith) (omega arith))
    ∙ cells_raised f (node_path edges m hi (d - s)) s d u late c below) in
    omega arith

-- ---- one channel

one_channel : (f : Filterbank) (edges : List ℕ) (n c d u late : ℕ) → AreEdges n edges → c < n →
    node_sum f edges c (c + 1) d u late ≡ sum_by (λ k. sample_before f c (u + k) (d + late)) (range_with_len 0 (d + 1))
one_channel f edges n c d u late are small =
    let e = node_entries edges n are c (c + 1) d (omega arith) (omega arith) in
    let first = e.begins in
    let last : node_path edges c (c + 1) d (c + 1) ≡ d = (let ends = e.ends in omega arith) in
    let count : c + 1 - c ≡ 1 = omega arith in
    let cells = cells_sum f (node_path edges c (c + 1) d) d u late c in
    let all : sum (cells_along f (node_path edges c (c + 1) d) d u late c)
    ≡ sum_by (λ k. sample_before f c (u + k) (d + late)) (range_with_len 0 (d + 1 - 0)) =
    cells ∙ rw (first, last) refl in
    let end : d + 1 - 0 ≡ d + 1 = omega arith in
    let one : node_sum f edges c (c + 1) d u late ≡ sum (cells_along f (node_path edges c (c + 1) d) d u late c) =
    rw count (omega arith) in
    one ∙ all ∙ rw end refl

pub one_channel_more : (f : Filterbank) (edges : List ℕ) (n c d u late : ℕ) → AreEdges n edges → c < n →
    node_sum f edges c (c + 1) (d + 1) u late
    ≡ node_sum f edges c (c + 1) 0 u (late + (d + 1)) + node_sum f edges c (c + 1) d u late
one_channel_more f edges n c d u late are small =
    let more = one_channel f edges n c (d + 1) u late are small in
    let first = one_channel f edges n c 0 u (late + (d + 1)) are small in
    let rest = one_channel f edges n c d u late are small in
    let g = λ (k : ℕ). sample_before f c (u + k) (d + 1 + late) in
    let all : d + 1 + 1 - 0 ≡ d + 1 + 1 = omega arith in
    let after : d + 1 + 1 - 1 ≡ d + 1 = omega arith in
    let split : sum_by g (range_with_len 0 (d + 1 + 1))
    ≡ sum_by g (range_with_len 0 1) + sum_by g (range_with_len 1 (d + 1)) =
    rw (all, after) at (sum_split g 0 1 (d + 1 + 1) (omega arith) (omega arith)) in
    let tail : sum_by g (range_with_len 1 (d + 1))
    ≡ sum_by (λ k. sample_before f c (u + k) (d + late)) (range_with_len 0 (d + 1)) =
    sum_shift g 1 0 (d + 1)
    ∙ sum_agree (λ k. g (1 + k)) (λ k. sample_before f c (u + k) (d + late)) 0 (d + 1)
    (λ k from to.
    let a : u + (1 + k) ≡ u + k + 1 = omega arith in
    let b : d + 1 + late ≡ d + late + 1 = omega arith in
    rw (a, b) (sample_shift f c (u + k) (d + late) 1)) in
    let same : 0 + (late + (d + 1)) ≡ d + 1 + late = omega arith in
    let same_cells : sum_by (λ k. sample_before f c (u + k) (0 + (late + (d + 1)))) (range_with_len 0 1)
    ≡ sum_by g (range_with_len 0 1) = rw same refl in
    let head : node_sum f edges c (c + 1) 0 u (late + (d + 1)) ≡ sum_by g (range_with_len 0 1) = first ∙ same_cells in
    omega arith

pub one_sample : (f : Filterbank) (edges : List ℕ) (n c u late : ℕ) → AreEdges n edges → c < n → late ≤ u →
    node_sum f edges c (c + 1) 0 u late ≡ f.value c (u - late)
one_sample f edges n c u late are small within =
    let none : u + 0 ≡ u = omega arith in
    let same : 0 + late ≡ late = omega arith in
    let one : 0 + sample_before f c (u + 0) (0 + late) ≡ sample_before f c u late = rw (none, same) (omega arith) in
    one_channel f edges n c 0 u late are small ∙ one ∙ sample_there f c u late within

-- ---- times

cells_shift : (f : Filterbank) (e : ℕ → ℕ) (d u late q c : ℕ) →
    sum (cells_along f e d (u + q) (late + q) c) ≡ sum (cells_along f e d u late c)
cells_shift f e d u late q c =
    cells_sum f e d (u + q) (late + q) c
    ∙ sum_agree (λ k. sample_before f c (u + q + k) (d + (late + q))) (λ k. sample_before f c (u + k) (d + late))
    (e c) (e (c + 1) + 1 - e c)
    (λ k from to.
    let a : u + q + k ≡ u + k + q = omega arith in
    let b : d + (late + q) ≡ d + late + q = omega arith in
    rw (a, b) (sample_shift f c (u + k) (d + late) q))
    ∙ sym (cells_sum f e d u late c)

pub node_shift : (f : Filterbank) (edges : List ℕ) (lo hi d u late q : ℕ) →
    node_sum f edges lo hi d (u + q) (late + q) ≡ node_sum f edges lo hi d u late
node_shift f edges lo hi d u late q =
    let e = node_path edges lo hi d in
    sum_agree (λ c. sum (cells_along f e d (u + q) (late + q) c)) (λ c. sum (cells_along f e d u late c)) lo (hi - lo)
    (λ c from to. cells_shift f e d u late q c)

-- no entry of a path is above its delay
entries_below : (edges : List ℕ) (n lo hi d : ℕ) → AreEdges n edges → lo < hi → hi ≤ n → (k j : ℕ) → lo ≤ k →
    k + j ≡ hi → node_path edges lo hi d k ≤ d
entries_below edges n lo hi d are h hn k zero from last =
    let e = node_entries edges n are lo hi d h hn in
    let ends = e.ends in
    let at : k ≡ hi = omega arith in
    rw at (omega arith)
entries_below edges n lo hi d are h hn k (suc j) from last =
    let e = node_entries edges n are lo hi d h hn in
    let begins = e.begins in
    let rises = rises_between edges n are n lo hi (node_path edges lo hi d) h hn (omega arith) e.halved
    (omega (arith, e.begins, e.ends)) k from (omega arith) in
    let more = entries_below edges n lo hi d are h hn (k + 1) j (omega arith) (omega arith) in
    omega arith

pub node_before : (f : Filterbank) (edges : List ℕ) (n lo hi d u late : ℕ) → AreEdges n edges → hi ≤ n → u < late →
    node_sum f edges lo hi d u late ≡ 0
node_before f edges n lo hi d u late are hn early =
    sum_zeros (λ c. sum (cells_along f (node_path edges lo hi d) d u late c)) lo (hi - lo)
    (λ c from to.
    let next = entries_below edges n lo hi d are (omega arith) hn (c + 1) (hi - (c + 1)) (omega arith) (omega arith) in
    cells_sum f (node_path edges lo hi d) d u late c
    ∙ sum_zeros (λ k. sample_before f c (u + k) (d + late)) (node_path edges lo hi d c)
    (node_path edges lo hi d (c + 1) + 1 - node_path edges lo hi d c)
    (λ k low high. sample_none f c (u + k) (d + late) (omega arith)))

-- ---- the whole band

-- what lists have together
sum_flat_map : (g : ℕ → List ℕ) (xs : List ℕ) → sum (flat_map g xs) ≡ sum_by (λ x. sum (g x)) xs
sum_flat_map g [] = refl
sum_flat_map g (x ∷ xs) =
    sum_by-append (λ (y : ℕ). y) (g x) (flat_map g xs) ∙ ap (λ t. sum (g x) + t) (sum_flat_map g xs)
    ∙ sym (sum_by-cons (λ y. sum (g y)) x xs)

-- a path sum, channel by channel
pub by_channels : (f : Filterbank) (e : List ℕ) (d u late : ℕ) →
    path_sum_along f e d u late ≡ sum_by (λ c. sum (channel_cells f e d u late c)) (range_with_len 0 f.channels)
by_channels f e d u late = sum_flat_map (λ c. channel_cells f e d u late c) (range_with_len 0 f.channels)

pub whole_band : (f : Filterbank) (edges : List ℕ) (d u late : ℕ) → AreEdges f.channels edges →
    node_sum f edges 0 f.channels d u late ≡ late_path_sum f edges u d late
whole_band f edges d u late are =
    let n = f.channels in
    let e = path edges n d in
    let count : n - 0 ≡ n = omega arith in
    let agree = sum_agree (λ c. sum (cells_along f (node_path edges 0 n d) d u late c)) (λ c.
    sum (channel_cells f e d u late c)) 0 n
    (λ c from to.
    cells_agree f (node_path edges 0 n d) (λ k. slice_index e k) d u late c
    (sym (entry_of_path edges n d c (omega arith))) (sym (entry_of_path edges n d (c + 1) (omega arith)))) in
    rw count (agree ∙ sym (by_channels f e d u late))

pub late_within : (f : Filterbank) (edges : List ℕ) (d u k : ℕ) → k ≤ u →
    late_path_sum f edges u d k ≡ path_sum f edges (u - k) d
late_within f edges d u k within =
    let e = path edges f.channels d in
    let end : u - k + k ≡ u = omega arith in
    let none : 0 + k ≡ k = omega arith in
    let shifted = sum_agree (λ c. sum (channel_cells f e d (u - k + k) (0 + k) c)) (λ c.
    sum (channel_cells f e d (u - k) 0 c)) 0 f.channels
    (λ c from to. cells_shift f (λ i. slice_index e i) d (u - k) 0 k c) in
    let whole : path_sum_along f e d (u - k + k) (0 + k) ≡ path_sum_along f e d (u - k) 0 =
    by_channels f e d (u - k + k) (0 + k) ∙ shifted ∙ sym (by_channels f e d (u - k) 0) in
    rw (end, none) at whole

pub late_before : (f : Filterbank) (edges : List ℕ) (d u k : ℕ) → AreEdges f.channels edges → u < k →
    late_path_sum f edges u d k ≡ 0
late_before f edges d u k are early = sym (whole_band f edges d u k are)
    ∙ node_before f edges f.channels 0 f.channels d u k are (omega arith) early

-- ---- bounds

sample_le : (f : Filterbank) (c s d m : ℕ) → ((b t : ℕ) → f.value b t ≤ m) → sample_before f c s d ≤ m
sample_le f c s d m small = elim (cases_lt s d) [
  | inl early ↦ rw (sample_none f c s d early) (omega arith)
  | inr late ↦ rw (sample_there f c s d late) (small c (s - d))
]

cells_le : (f : Filterbank) (e : List ℕ) (d u late m : ℕ) → ((b t : ℕ) → f.value b t ≤ m) →
    All (λ x. x ≤ m) (path_cells f e d u late)
cells_le f e d u late m small =
    all_members (λ x. x ≤ m) (path_cells f e d u late)
    (λ x h.
    let one = member_flat_map (λ c. channel_cells f e d u late c) (range_with_len 0 f.channels) x h in
    All-contains (λ y. y ≤ m) (channel_cells f e d u late one.0) x
    (All-map (λ y. y ≤ m) (λ k. sample_before f one.0 (u + k) (d + late))
    (between (slice_index e one.0) (slice_index e (one.0 + 1)))
    (λ k i within. sample_le f one.0 _ (d + late) m small))
    one.2)

pub path_sum_le : (f : Filterbank) (edges : List ℕ) (d u late m : ℕ) → AreEdges f.channels edges →
    ((c t : ℕ) → f.value c t ≤ m) →
    late_path_sum f edges u d late ≤ m * (f.channels + d)
path_sum_le f edges d u late m are small =
    let e = path edges f.channels d in
    let count = cell_count edges f d u late e are (path_is edges f.channels d are) in
    let bound = sum_by-le (λ (x : ℕ). x) m (path_cells f e d u late) (cells_le f e d u late m small) in
    let product : (f.channels + d) * m ≡ m * (f.channels + d) = omega arith in
    let all : sum (path_cells f e d u late) ≤ (f.channels + d) * m = rw count at bound in
    rw (← product) all

pub box_sum_le : (f : Filterbank) (edges : List ℕ) (d u w m : ℕ) → AreEdges f.channels edges →
    ((c t : ℕ) → f.value c t ≤ m) →
    box_sum f edges u d w ≤ w * (m * (f.channels + d))
box_sum_le f edges d u w m are small =
    let each = all_members (λ k. late_path_sum f edges u d k ≤ m * (f.channels + d)) (range_with_len 0 w)
    (λ k h. path_sum_le f edges d u k m are small) in
    let count = length-range_with_len 0 w in
    let bound = sum_by-le (λ k. late_path_sum f edges u d k) (m * (f.channels + d)) (range_with_len 0 w) each in
    rw count at bound
