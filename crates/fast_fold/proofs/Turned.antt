-- A part of a row that is turned within itself is two parts.
use Rattle.std.proofs.Common.{◌≡◌, ℕ, ◌+◌, ◌-◌, ◌%◌, ◌<◌, ◌≤◌, inl, inr, List, length, slice_index, take, drop, ◌∙◌, sym, ap, arith, min, max}
use Rattle.std.proofs.lemmas.Bool.{cases_lt}
use Rattle.std.proofs.lemmas.List.{get_or-take, get_or-drop}
use Rattle.std.proofs.Math.Nat.{mod-eq_of_lt, mod-eq-sub-mod, add-mod-mod}
use borrow.Rule.Slice.PartMut.{put_mid}
use Rattle.fdmt_rows.specs.Rows.{wrapping_sum, AddsWrapping}
use Rattle.fdmt_rows.specs.Writes.{Writes}
use Rattle.fast_fold.specs.Merging.{AddsTurnedTo}
use Rattle.fast_fold.proofs.Parts.{put_before, put_within, put_after}

-- the place of the turned value, before and after the cut
pub turned_before : (p turn q : ℕ) → q + turn < p → (q + turn) % p ≡ turn + q
turned_before p turn q lt = mod-eq_of_lt lt ∙ omega arith

pub turned_after : (p turn q : ℕ) → q < p → turn < p → p ≤ q + turn → (q + turn) % p ≡ q - (p - turn)
turned_after p turn q lt small le =
    let less : q + turn - p < p = omega arith in
    mod-eq-sub-mod le ∙ mod-eq_of_lt less ∙ omega arith

-- a part of a row was written by a sum of parts of two others
pub part_added : (old first second new : List ℕ) (a b n i n' m : ℕ)
    → a ≤ b → a ≤ length old → length new ≡ m → m ≡ b - a → m ≤ n → m ≤ n'
    → AddsWrapping new (take n (drop a first)) (take n' (drop i second))
    → Writes old (put_mid a m old new) a b (λ q. wrapping_sum (slice_index first q) (slice_index second (i + (q - a))))
part_added old first second new a b n i n' m part within long is le le' adds = record {
  before = λ k lt. put_before a m old new k lt within;
  written = λ k from lt.
      let j : ℕ = k - a in
      let below : j < m = omega arith in
      put_within a m old new k j below (omega arith) within long
      ∙ adds j
      ∙ ap (λ x. wrapping_sum x (slice_index (take n' (drop i second)) j))
      (get_or-take n (drop a first) j 0 (omega arith)
      ∙ get_or-drop a first j 0
      ∙ ap (λ i. slice_index first i) (let at : a + j ≡ k = omega arith in at))
      ∙ ap (λ y. wrapping_sum (slice_index first k) y)
      (get_or-take n' (drop i second) j 0 (omega arith) ∙ get_or-drop i second j 0);
  after = λ k past. put_after a m old new k (omega arith) within long;
}

-- both parts together
pub turned_part : (old mid new first second : List ℕ) (p turn from end a b c d : ℕ)
    → turn < p → from ≤ end → end ≤ p
    → a ≡ min from (p - turn) → b ≡ min end (p - turn) → c ≡ max from (p - turn) → d ≡ max end (p - turn)
    → Writes old mid a b (λ q. wrapping_sum (slice_index first q) (slice_index second (a + turn + (q - a))))
    → Writes mid new c d (λ q. wrapping_sum (slice_index first q) (slice_index second (c - (p - turn) + (q - c))))
    → Writes old new from end (λ q. wrapping_sum (slice_index first q) (slice_index second ((q + turn) % p)))
turned_part old mid new first second p turn from end a b c d small part within is_a is_b is_c is_d front back = record {
  before = λ k lt. back.before k (omega arith) ∙ elim (cases_lt k a) [
    | inl h ↦ front.before k h
    | inr h ↦ front.after k (omega arith)
  ];
  written = λ k ge lt. elim (cases_lt k (p - turn)) [
    | inl h ↦
        back.before k (omega arith)
        ∙ front.written k (omega arith) (omega arith)
        ∙ ap (λ i. wrapping_sum (slice_index first k) (slice_index second i))
        (let is : a + turn + (k - a) ≡ turn + k = omega arith in
        is ∙ sym (turned_before p turn k (omega arith)))
    | inr h ↦
        back.written k (omega arith) (omega arith)
        ∙ ap (λ i. wrapping_sum (slice_index first k) (slice_index second i))
        (let is : c - (p - turn) + (k - c) ≡ k - (p - turn) = omega arith in
        is ∙ sym (turned_after p turn k (omega arith) small (omega arith)))
  ];
  after = λ k past. elim (cases_lt k d) [
    | inl h ↦ back.before k (omega arith) ∙ front.after k (omega arith)
    | inr h ↦ back.after k h ∙ front.after k (omega arith)
  ];
}

-- one part more
pub part_more : (old new first second : List ℕ) (p m turn turn' from end : ℕ)
    → m ≡ p → turn' ≡ turn % p
    → Writes old new from end (λ q. wrapping_sum (slice_index first q) (slice_index second ((q + turn') % m)))
    → AddsTurnedTo from old first second p turn → AddsTurnedTo end new first second p turn
part_more old new first second p m turn turn' from end is_period is_turn writes so_far q lt = elim (cases_lt q from) [
  | inl h ↦ writes.before q h ∙ so_far q h
  | inr h ↦
      writes.written q h lt
      ∙ ap (λ i. wrapping_sum (slice_index first q) (slice_index second i))
      (ap (λ m. (q + turn') % m) is_period ∙ ap (λ t. (q + t) % p) is_turn ∙ add-mod-mod q turn p)
]
