-- Pairs of two lists, of which each is the join of two.
use Rattle.std.proofs.Common.{◌≡◌, ℕ, ◌+◌, ◌-◌, ◌<◌, ◌≤◌, List, ◌++◌, length, get_or, inl, inr, refl, sym, ◌∙◌, arith}
use Rattle.std.proofs.lemmas.Bool.{cases_lt}
use Rattle.std.proofs.lemmas.List.{get_or_append_left, get_or-append-add, get_or-append_right, length-append}
use Rattle.beam_set.specs.Sets.{EachPair, PairsMoved}

module _ {A B : Type 0} (P : A → B → Type 0) (xs zs : List A) (us vs : List B) (same : length us ≡ length xs) where
  pub pairs_right : EachPair P (xs ++ zs) (us ++ vs) → EachPair P zs vs
  pairs_right pairs =
      let all = pairs.count in
      record {
        count = omega (arith, all, same, length-append xs zs, length-append us vs);
        each = λ k z v near.
            rw (sym (get_or-append-add us vs k v), sym (get_or-append-add xs zs k z), same)
            (pairs.each (length xs + k) z v (omega (arith, length-append xs zs)));
      }

-- ---- moves

module _ {A B : Type 0} (R : B → A → B → A → Type 0) (xs zs xs' zs' : List A) (us vs us' vs' : List B)
    (same : length us ≡ length xs) (left : PairsMoved R us xs us' xs') (right : PairsMoved R vs zs vs' zs') where
  lent_left : length us' ≡ length xs
  lent_left = left.lent ∙ same

  lent_all : length (us' ++ vs') ≡ length (us ++ vs)
  lent_all =
      let a = left.lent in
      let b = right.lent in
      omega (arith, a, b, length-append us vs, length-append us' vs')

  count_all : length (xs' ++ zs') ≡ length (xs ++ zs)
  count_all =
      let a = left.count in
      let b = right.count in
      omega (arith, a, b, length-append xs zs, length-append xs' zs')

  pair_left : (k : ℕ) (x : A) (u : B) → k < length xs →
      R (get_or (us ++ vs) k u) (get_or (xs ++ zs) k x) (get_or (us' ++ vs') k u) (get_or (xs' ++ zs') k x)
  pair_left k x u below =
      let a = left.count in
      let b = left.lent in
      rw (
        get_or_append_left us vs u k (omega (arith, same)),
        get_or_append_left xs zs x k below,
        get_or_append_left us' vs' u k (omega (arith, same, b)),
        get_or_append_left xs' zs' x k (omega (arith, a)),
      ) (left.moved k x u below)

  pair_right : (k : ℕ) (x : A) (u : B) → length xs ≤ k → k < length (xs ++ zs) →
      R (get_or (us ++ vs) k u) (get_or (xs ++ zs) k x) (get_or (us' ++ vs') k u) (get_or (xs' ++ zs') k x)
  pair_right k x u above near =
      let n = length xs in
      rw (
        get_or-append_right us vs n k u same above,
        get_or-append_right xs zs n k x refl above,
        get_or-append_right us' vs' n k u lent_left above,
        get_or-append_right xs' zs' n k x left.count above,
      ) (right.moved (k - n) x u (omega (arith, length-append xs zs)))

  pub moved_join : PairsMoved R (us ++ vs) (xs ++ zs) (us' ++ vs') (xs' ++ zs')
  moved_join = record {
    count = count_all;
    lent = lent_all;
    moved = λ k x u near. elim (cases_lt k (length xs)) [
      | inl below ↦ pair_left k x u below
      | inr above ↦ pair_right k x u above near
    ];
    others = λ k u far.
        let above : length xs ≤ k = omega (arith, length-append xs zs) in
        rw (
          get_or-append_right us' vs' (length xs) k u lent_left above,
          get_or-append_right us vs (length xs) k u same above,
        ) (right.others (k - length xs) u (omega (arith, length-append xs zs)));
  }

-- ---- moves after moves

-- none at all
pub moved_none : {A B : Type 0} (R : B → A → B → A → Type 0) (P : A → B → Type 0) →
    ((x : A) (u : B) → P x u → R u x u x) → (xs : List A) (us : List B) → EachPair P xs us → PairsMoved R us xs us xs
moved_none R P still xs us pairs = record {
  count = refl;
  lent = refl;
  moved = λ k x u near. still (get_or xs k x) (get_or us k u) (pairs.each k x u near);
  others = λ k u far. refl;
}

-- one after another
pub moved_more : {A B : Type 0} (Q R S : B → A → B → A → Type 0) →
    ((u v w : B) (x y z : A) → Q u x v y → R v y w z → S u x w z) →
    (xs ys zs : List A) (us vs ws : List B) → PairsMoved Q us xs vs ys → PairsMoved R vs ys ws zs →
    PairsMoved S us xs ws zs
moved_more Q R S more xs ys zs us vs ws a b =
    let count = a.count in
    record {
      count = b.count ∙ a.count;
      lent = b.lent ∙ a.lent;
      moved = λ k x u near.
          more (get_or us k u) (get_or vs k u) (get_or ws k u) (get_or xs k x) (get_or ys k x) (get_or zs k x)
          (a.moved k x u near) (b.moved k x u (omega (arith, count)));
      others = λ k u far. b.others k u (omega (arith, count)) ∙ a.others k u far;
    }
