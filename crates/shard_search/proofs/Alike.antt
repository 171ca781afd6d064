-- Two that search for the same as a third.
use Rattle.std.proofs.Common.{◌≡◌, ℕ, ◌+◌, ◌≤◌, List, length, sym, ◌∙◌, ap, subst, arith}
use Rattle.fold_search.specs.FoldSearch.{Fronts, FoldsAlike}
use Rattle.shard_search.specs.declared.thresholds.Hit.{Hit}
use Rattle.shard_search.specs.PulseSearch.{PulseState, SearchAlike}
use Rattle.shard_search.specs.Sums.{GoOnAlike}

pub pulses_alike : (p q r : PulseState) → SearchAlike r q → SearchAlike q p → SearchAlike r p
pulses_alike p q r b a = record {
  search_is = b.search_is ∙ a.search_is;
  sought_is = b.sought_is ∙ a.sought_is;
  first_is = b.first_is ∙ a.first_is;
  end_is = b.end_is ∙ a.end_is;
  chunk_is = b.chunk_is ∙ a.chunk_is;
  bound_is = b.bound_is ∙ a.bound_is;
}

pub folds_alike : (f g h : Fronts) → FoldsAlike h g → FoldsAlike g f → FoldsAlike h f
folds_alike f g h b a = record {
  search = b.search ∙ a.search;
  first = b.first ∙ a.first;
  end = b.end ∙ a.end;
  bound = b.bound ∙ a.bound;
}

-- the row of one delay more was taken
pub on_alike : (p q r : PulseState) (f g h : Fronts) (first d : ℕ) → first ≤ d → GoOnAlike p q f g first d →
    SearchAlike r q → FoldsAlike h g → length r.hits ≤ length q.hits + 6 → GoOnAlike p r f h first (d + 1)
on_alike p q r f g h first d from before pulses folds few = record {
  pulses = pulses_alike p q r pulses before.pulses;
  folds = folds_alike f g h folds before.folds;
  few = let all = before.few in omega (arith, few, all, from);
}

-- or it was taken without being made
pub still_alike : (p q r : PulseState) (f g : Fronts) (first d : ℕ) → GoOnAlike p q f g first d → SearchAlike r q →
    r.hits ≡ q.hits → GoOnAlike p r f g first (d + 1)
still_alike p q r f g first d before pulses hits = record {
  pulses = pulses_alike p q r pulses before.pulses;
  folds = before.folds;
  few = let all = before.few in
      let same = ap (λ (xs : List Hit). length xs) hits in omega (arith, all, same);
}

-- what is known of the parts that a branch leaves
pub of_same : (P : PulseState → Fronts → Type 0) (p q : PulseState) (f g : Fronts) → p ≡ q → f ≡ g → P q g → P p f
of_same P p q f g pulses folds is = subst (λ r. P r f) (sym pulses) (subst (λ h. P q h) (sym folds) is)
