-- The delay path: it exists, it is the only one, and it never falls.
use Rattle.std.proofs.Common.{leb, ◌≡◌, ℕ, ◌+◌, ◌-◌, ◌*◌, ◌^◌, ◌≤◌, ◌<◌, inl, inr, List, length, slice_index, cond, pow-suc, arith, refl, sym, ◌∙◌, zero, suc}
use Rattle.std.proofs.lemmas.Bool.{cond-true, cond-false, cases_lt, le-leb, lt-leb}
use Rattle.std.proofs.lemmas.List.FromFn.{length-map-range_with_len, get_or-map-range_with_len}
use Rattle.std.proofs.lemmas.Grind.{same_number_lists}
use Rattle.search_model.specs.Paths.{middle, split_at, IsNode, the_whole, in_upper, in_lower, IsHalved, IsPath, entry, path}
use Rattle.dada_model.specs.Edges.{AreEdges}
use Rattle.search_model.proofs.Splits.{split_le}

-- ---- nodes of the halving tree

pub middle_above : (lo hi : ℕ) → lo + 2 ≤ hi → lo < middle lo hi
middle_above lo hi h = omega arith

pub middle_below : (lo hi : ℕ) → lo + 2 ≤ hi → middle lo hi < hi
middle_below lo hi h = omega arith

-- a half gets no more than its node's delay
pub split_at_le : (edges : List ℕ) (n : ℕ) → AreEdges n edges → (lo hi d : ℕ) → lo + 2 ≤ hi → hi ≤ n →
    split_at edges lo hi d ≤ d
split_at_le edges n band lo hi d h hn =
    split_le _ _ _ d (band.falls (middle lo hi) hi (middle_below lo hi h) hn)
    (band.falls lo (middle lo hi) (middle_above lo hi h) (omega arith))

-- ---- what holds between two edges

-- a node lies within its tree
node_within : (a b lo hi : ℕ) → lo ≤ hi → IsNode a b lo hi → (lo ≤ a) × (a ≤ b) × (b ≤ hi)
node_within a b lo hi h the_whole = (omega arith, h, omega arith)
node_within a b lo hi h (in_upper _ _ two n) =
    let w = node_within a b lo (middle lo hi) (omega arith) n in (w.0, w.1, omega (arith, w.2))
node_within a b lo hi h (in_lower _ _ two n) =
    let w = node_within a b (middle lo hi) hi (omega arith) n in (omega (arith, w.0), w.1, w.2)

pub halved_same : (edges : List ℕ) (lo hi : ℕ) (f g : ℕ → ℕ) → lo ≤ hi → ((k : ℕ) → lo ≤ k → k ≤ hi → g k ≡ f k) →
    IsHalved edges lo hi f → IsHalved edges lo hi g
halved_same edges lo hi f g h same halved = record {
  splits = λ a b node two.
      let w = node_within a b lo hi h node in
      let ea : g a ≡ f a = same a w.0 (omega (arith, w.1, w.2)) in
      let eb : g b ≡ f b = same b (omega (arith, w.0, w.1)) w.2 in
      let em : g (middle a b) ≡ f (middle a b) = same (middle a b) (omega (arith, w.0)) (omega (arith, w.2)) in
      rw ea (rw eb (rw em (halved.splits a b node two)));
}

pub halved_single : (edges : List ℕ) (lo hi : ℕ) (g : ℕ → ℕ) → lo ≤ hi → hi ≤ lo + 1 → IsHalved edges lo hi g
halved_single edges lo hi g h one = record {
  splits = λ a b node two. let w = node_within a b lo hi h node in absurd (omega (arith, w.0, w.2));
}

pub halved_join : (edges : List ℕ) (lo hi : ℕ) (g : ℕ → ℕ) → lo + 2 ≤ hi →
    g (middle lo hi) ≡ g lo + split_at edges lo hi (g hi - g lo) →
    IsHalved edges lo (middle lo hi) g → IsHalved edges (middle lo hi) hi g → IsHalved edges lo hi g
halved_join edges lo hi g h here upper lower =
    record { splits = λ a b node two. joined edges lo hi g h here upper lower a b node two }
  where
    joined : (edges : List ℕ) (lo hi : ℕ) (g : ℕ → ℕ) → lo + 2 ≤ hi →
        g (middle lo hi) ≡ g lo + split_at edges lo hi (g hi - g lo) →
        IsHalved edges lo (middle lo hi) g → IsHalved edges (middle lo hi) hi g →
        (a b : ℕ) → IsNode a b lo hi → a + 2 ≤ b → g (middle a b) ≡ g a + split_at edges a b (g b - g a)
    joined edges lo hi g h here upper lower a b the_whole two = here
    joined edges lo hi g h here upper lower a b (in_upper _ _ _ node) two = upper.splits a b node two
    joined edges lo hi g h here upper lower a b (in_lower _ _ _ node) two = lower.splits a b node two

pub halved_upper : (edges : List ℕ) (lo hi : ℕ) (g : ℕ → ℕ) → lo + 2 ≤ hi → IsHalved edges lo hi g →
    IsHalved edges lo (middle lo hi) g
halved_upper edges lo hi g h halved = record { splits = λ a b node two. halved.splits a b (in_upper lo hi h node) two }

pub halved_lower : (edges : List ℕ) (lo hi : ℕ) (g : ℕ → ℕ) → lo + 2 ≤ hi → IsHalved edges lo hi g →
    IsHalved edges (middle lo hi) hi g
halved_lower edges lo hi g h halved = record { splits = λ a b node two. halved.splits a b (in_lower lo hi h node) two }

-- ---- the computed entries

pub record Entries (edges : List ℕ) (lo hi start d : ℕ) (g : ℕ → ℕ) : Type 0 where
  pub begins : g lo ≡ start
  pub ends : g hi ≡ start + d
  pub halved : IsHalved edges lo hi g

abbrev ends_only : ℕ → ℕ → ℕ → ℕ → ℕ
ends_only hi start d k = cond (leb hi k) (start + d) start

entry_last : (edges : List ℕ) (lo hi start d k : ℕ) → entry zero edges lo hi start d k ≡ ends_only hi start d k
unfolding entry
entry_last edges lo hi start d k = refl

entry_single : (depth : ℕ) (edges : List ℕ) (lo hi start d k : ℕ) → hi ≤ lo + 1 →
    entry (suc depth) edges lo hi start d k ≡ ends_only hi start d k
unfolding entry
entry_single depth edges lo hi start d k one = rw (lt-leb (lo + 2) hi (omega arith), entry) refl

entry_upper : (depth : ℕ) (edges : List ℕ) (lo hi start d k : ℕ) → lo + 2 ≤ hi → k ≤ middle lo hi →
    entry (suc depth) edges lo hi start d k ≡ entry depth edges lo (middle lo hi) start (split_at edges lo hi d) k
unfolding entry
entry_upper depth edges lo hi start d k two h =
    rw (le-leb (lo + 2) hi two, le-leb k (middle lo hi) h, entry) refl

entry_lower : (depth : ℕ) (edges : List ℕ) (lo hi start d k : ℕ) → lo + 2 ≤ hi → middle lo hi < k →
    entry (suc depth) edges lo hi start d k
    ≡ entry depth edges (middle lo hi) hi (start + split_at edges lo hi d) (d - split_at edges lo hi d) k
unfolding entry
entry_lower depth edges lo hi start d k two h =
    rw (le-leb (lo + 2) hi two, lt-leb k (middle lo hi) h, entry) refl

-- 2^(depth + 1) channels are halved into 2^depth and less
half_depth : (depth lo hi : ℕ) → lo + 2 ≤ hi → hi ≤ lo + 2 ^ suc depth →
    (middle lo hi ≤ lo + 2 ^ depth) × (hi ≤ middle lo hi + 2 ^ depth)
half_depth depth lo hi two deep =
    let e : 2 ^ suc depth ≡ 2 ^ depth * 2 = pow-suc 2 depth in
    (omega arith, omega arith)

entries_single : (edges : List ℕ) (lo hi start d : ℕ) (g : ℕ → ℕ) → lo < hi → hi ≤ lo + 1 →
    ((k : ℕ) → g k ≡ ends_only hi start d k) → Entries edges lo hi start d g
entries_single edges lo hi start d g h one same = record {
  begins = same lo ∙ cond-false _ _ _ (lt-leb hi lo h);
  ends = same hi ∙ cond-true _ _ _ (le-leb hi hi (omega arith));
  halved = halved_single edges lo hi g (omega arith) one;
}

entries_join : (edges : List ℕ) (lo hi start d upper : ℕ) (f1 f2 g : ℕ → ℕ) → lo + 2 ≤ hi →
    upper ≡ split_at edges lo hi d → upper ≤ d →
    Entries edges lo (middle lo hi) start upper f1 → Entries edges (middle lo hi) hi (start + upper) (d - upper) f2 →
    ((k : ℕ) → k ≤ middle lo hi → g k ≡ f1 k) → ((k : ℕ) → middle lo hi < k → g k ≡ f2 k) →
    Entries edges lo hi start d g
entries_join edges lo hi start d upper f1 f2 g two is le e1 e2 same1 same2 =
    let begins : g lo ≡ start = same1 lo (omega arith) ∙ e1.begins in
    let ends : g hi ≡ start + d = same2 hi (middle_below lo hi two) ∙ e2.ends ∙ omega arith in
    let mid : g (middle lo hi) ≡ start + upper = same1 (middle lo hi) (omega arith) ∙ e1.ends in
    let low_same : (k : ℕ) → middle lo hi ≤ k → k ≤ hi → g k ≡ f2 k =
    λ k from to. elim (cases_lt (middle lo hi) k) [
      | inl more ↦ same2 k more
      | inr less ↦ let e : k ≡ middle lo hi = omega arith in rw e (mid ∙ sym e2.begins)
    ] in
    let delay : g hi - g lo ≡ d = omega arith in
    record {
      begins = begins;
      ends = ends;
      halved = halved_join edges lo hi g two (mid ∙ rw delay (rw begins (rw is refl)))
          (halved_same edges lo (middle lo hi) f1 g (omega arith) (λ k from to. same1 k to) e1.halved)
          (halved_same edges (middle lo hi) hi f2 g (omega arith) low_same e2.halved);
    }

pub entry_is : (edges : List ℕ) (n : ℕ) → AreEdges n edges → (depth lo hi start d : ℕ) → lo < hi → hi ≤ n →
    hi ≤ lo + 2 ^ depth →
    Entries edges lo hi start d (entry depth edges lo hi start d)
entry_is edges n band zero lo hi start d h hn deep =
    entries_single edges lo hi start d _ h deep (λ k. entry_last edges lo hi start d k)
entry_is edges n band (suc depth) lo hi start d h hn deep =
    elim (cases_lt (lo + 1) hi) [
      | inl more ↦
          let two : lo + 2 ≤ hi = omega arith in
          let halves = half_depth depth lo hi two deep in
          entries_join edges lo hi start d (split_at edges lo hi d) _ _ _ two refl
          (split_at_le edges n band lo hi d two hn)
          (entry_is edges n band depth lo (middle lo hi) start (split_at edges lo hi d) (middle_above lo hi two)
          (omega arith) halves.0)
          (entry_is edges n band depth (middle lo hi) hi (start + split_at edges lo hi d) (d - split_at edges lo hi d)
          (middle_below lo hi two) hn halves.1)
          (λ k under. entry_upper depth edges lo hi start d k two under)
          (λ k over. entry_lower depth edges lo hi start d k two over)
      | inr less ↦
          entries_single edges lo hi start d _ h (omega arith) (λ k.
          entry_single depth edges lo hi start d k (omega arith))
    ]

-- ---- the laws

pub entry_of_path : (edges : List ℕ) (n d k : ℕ) → k ≤ n → slice_index (path edges n d) k ≡ entry 12 edges 0 n 0 d k
unfolding path
entry_of_path edges n d k h =
    get_or-map-range_with_len (λ i. entry 12 edges 0 n 0 d i) 0 (n + 1) k k 0 (omega arith) (omega arith)

length-path : (edges : List ℕ) (n d : ℕ) → length (path edges n d) ≡ n + 1
unfolding path
length-path edges n d = length-map-range_with_len (λ k. entry 12 edges 0 n 0 d k) 0 (n + 1)

-- the computed path is a path
pub path_is : (edges : List ℕ) (n d : ℕ) → AreEdges n edges → IsPath edges n d (path edges n d)
path_is edges n d band =
    let few = band.few in
    let many = band.many in
    let e = entry_is edges n band 12 0 n 0 d (omega arith) (omega arith) (omega arith) in
    let halved = halved_same edges 0 n _ (λ k. slice_index (path edges n d) k) (omega arith) (λ k from to.
    entry_of_path edges n d k to) e.halved in
    record {
      entries = length-path edges n d;
      first = entry_of_path edges n d 0 (omega arith) ∙ e.begins;
      last = entry_of_path edges n d n (omega arith) ∙ e.ends ∙ omega arith;
      halves = halved;
    }

-- two ways to halve the same delay between the same edges agree at each edge
pub same_between : (edges : List ℕ) (n : ℕ) → AreEdges n edges → (depth lo hi : ℕ) (f g : ℕ → ℕ) → lo < hi → hi ≤ n →
    hi ≤ lo + depth →
    IsHalved edges lo hi f → IsHalved edges lo hi g → f lo ≡ g lo → f hi ≡ g hi → f lo ≤ f hi → (k : ℕ) → lo ≤ k →
    k ≤ hi → f k ≡ g k
same_between edges n band zero lo hi f g h hn deep hf hg elo ehi le k from to = absurd (omega arith)
same_between edges n band (suc depth) lo hi f g h hn deep hf hg elo ehi le k from to =
    elim (cases_lt (lo + 1) hi) [
      | inr less ↦ elim (cases_lt lo k) [
        | inl after ↦ let e : k ≡ hi = omega arith in rw e ehi
        | inr at ↦ let e : k ≡ lo = omega arith in rw e elo
      ]
      | inl more ↦
          let two : lo + 2 ≤ hi = omega arith in
          let mf : f (middle lo hi) ≡ f lo + split_at edges lo hi (f hi - f lo) = hf.splits lo hi the_whole two in
          let mg : g (middle lo hi) ≡ g lo + split_at edges lo hi (g hi - g lo) = hg.splits lo hi the_whole two in
          let part = split_at_le edges n band lo hi (f hi - f lo) two hn in
          let em : f (middle lo hi) ≡ g (middle lo hi) = mf ∙ rw elo (rw ehi (sym mg)) in
          let le1 : f lo ≤ f (middle lo hi) = rw mf (omega arith) in
          let le2 : f (middle lo hi) ≤ f hi = rw mf (omega arith) in
          elim (cases_lt (middle lo hi) k) [
            | inl after ↦ same_between edges n band depth (middle lo hi) hi f g (middle_below lo hi two) hn
                (omega arith)
                (halved_lower edges lo hi f two hf) (halved_lower edges lo hi g two hg) em ehi le2 k (omega arith) to
            | inr before ↦ same_between edges n band depth lo (middle lo hi) f g (middle_above lo hi two)
                (omega arith) (omega arith)
                (halved_upper edges lo hi f two hf) (halved_upper edges lo hi g two hg) elo em le1 k from before
          ]
    ]

-- it is the only one
pub path_is_only : (edges : List ℕ) (n d : ℕ) (e : List ℕ) → AreEdges n edges → IsPath edges n d e → e ≡ path edges n d
path_is_only edges n d e band is =
    let few = band.few in
    let p = path_is edges n d band in
    same_number_lists e (path edges n d) (is.entries ∙ sym p.entries)
    (λ k within. same_between edges n band n 0 n (λ i. slice_index e i) (λ i. slice_index (path edges n d) i)
    (omega arith) (omega arith) (omega arith)
    is.halves p.halves (is.first ∙ sym p.first) (is.last ∙ sym p.last) (rw is.first (omega arith)) k (omega arith)
    (let count = is.entries in omega arith))

pub rises_between : (edges : List ℕ) (n : ℕ) → AreEdges n edges → (depth lo hi : ℕ) (f : ℕ → ℕ) → lo < hi → hi ≤ n →
    hi ≤ lo + depth →
    IsHalved edges lo hi f → f lo ≤ f hi → (k : ℕ) → lo ≤ k → k < hi → f k ≤ f (k + 1)
rises_between edges n band zero lo hi f h hn deep hf le k from to = absurd (omega arith)
rises_between edges n band (suc depth) lo hi f h hn deep hf le k from to =
    elim (cases_lt (lo + 1) hi) [
      | inr less ↦
          let ek : k ≡ lo = omega arith in
          let eh : k + 1 ≡ hi = omega arith in
          rw eh (rw ek le)
      | inl more ↦
          let two : lo + 2 ≤ hi = omega arith in
          let mf : f (middle lo hi) ≡ f lo + split_at edges lo hi (f hi - f lo) = hf.splits lo hi the_whole two in
          let part = split_at_le edges n band lo hi (f hi - f lo) two hn in
          let le1 : f lo ≤ f (middle lo hi) = rw mf (omega arith) in
          let le2 : f (middle lo hi) ≤ f hi = rw mf (omega arith) in
          elim (cases_lt k (middle lo hi)) [
            | inr after ↦ rises_between edges n band depth (middle lo hi) hi f (middle_below lo hi two) hn (omega arith)
                (halved_lower edges lo hi f two hf) le2 k after to
            | inl before ↦ rises_between edges n band depth lo (middle lo hi) f (middle_above lo hi two) (omega arith)
                (omega arith)
                (halved_upper edges lo hi f two hf) le1 k from before
          ]
    ]

-- it never falls
pub path_rises : (edges : List ℕ) (n d : ℕ) (e : List ℕ) → AreEdges n edges → IsPath edges n d e →
    (k : ℕ) → k < n → slice_index e k ≤ slice_index e (k + 1)
path_rises edges n d e band is k within =
    let few = band.few in
    rises_between edges n band n 0 n (λ i. slice_index e i) (omega arith) (omega arith) (omega arith) is.halves
    (rw is.first (omega arith)) k (omega arith) within
