-- Banks that were opened beside each other, each in its slot.
use Rattle.std.proofs.Common.{◌≡◌, ℕ, ◌<◌, ◌++◌, All, None, Some, List, length, get_or, take, drop, refl, sym, ap, subst, ◌∙◌}
use Rattle.std.specs.Prelude.{Option, IfSome, IsSome}
use Rattle.std.proofs.Math.Seq.{take-append_seam}
use Rattle.std.proofs.lemmas.Option.{slice_get-get_or}
use Rattle.dada_model.specs.Observation.{Observation}
use Rattle.search_model.specs.declared.search.Search.{Search}
use Rattle.session_readers.specs.declared.bank.Bank.{Bank}
use Rattle.session_readers.specs.Banks.{engines_of}
use Rattle.search_opening.specs.Engines.{AreEnginesFor, AreBanksTo}

module _ (s : Search) (observations : List (Option Observation)) where
  -- the engines of a bank are those of a shard
  abbrev pub IsBankFor : ℕ → Bank → Type 0
  IsBankFor shard bank = AreEnginesFor s shard observations (engines_of bank)

  found : (shard : ℕ) (slot : Option Bank) → IsSome slot → IfSome slot (IsBankFor shard) →
      (bank : Bank) × (slot ≡ Some bank) × IsBankFor shard bank
  found shard None some is = absurd cc
  found shard (Some bank) some is = (bank, refl, is)

  -- where each slot has a bank, there are the banks of all shards
  all_there : (banks : List (Option Bank)) → length banks ≡ s.shards →
      ((shard : ℕ) → shard < length banks → IfSome (get_or banks shard None) (IsBankFor shard)) → All IsSome banks →
      AreBanksTo s observations s.shards banks
  all_there banks count filled some = record {
    count = count;
    each = λ shard within.
        let here = subst (λ n. shard < n) (sym count) within in
        let slot = found shard (get_or banks shard None) (some shard None here) (filled shard here) in
        (slot.0, slice_get-get_or banks shard None here ∙ ap (λ (x : Option Bank). Some x) slot.1, slot.2);
  }

  -- the slots are written back
  written_back : (empty banks : List (Option Bank)) → length banks ≡ length empty →
      take (length empty) (banks ++ drop (length banks) empty) ≡ banks
  written_back empty banks count =
      ap (λ n. take n (banks ++ drop (length banks) empty)) (sym count)
      ∙ take-append_seam banks (drop (length banks) empty)

  pub opened : (empty banks : List (Option Bank)) → length empty ≡ s.shards → length banks ≡ length empty →
      ((shard : ℕ) → shard < length empty → IfSome (get_or banks shard None) (IsBankFor shard)) →
      All IsSome (take (length empty) (banks ++ drop (length banks) empty)) →
      AreBanksTo s observations s.shards (take (length empty) (banks ++ drop (length banks) empty))
  opened empty banks all count filled some =
      let same = written_back empty banks count in
      let there = all_there banks (count ∙ all) (λ shard within. filled shard (subst (λ n. shard < n) count within))
      (subst (λ (xs : List (Option Bank)). All IsSome xs) same some) in
      subst (λ (xs : List (Option Bank)). AreBanksTo s observations s.shards xs) (sym same) there
