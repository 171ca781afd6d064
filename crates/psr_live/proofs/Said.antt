-- Why the words are refused.
use Rattle.std.proofs.Common.{◌≡◌, ℕ, ◌/◌, ◌%◌, ◌≤◌, List, inl, inr, true, arith}
use Rattle.search_words.specs.declared.fault.WordFault.{WordFault}
use Rattle.search_words.specs.declared.fault.WordFault.TheVariants.{Refused, OutOfRange, Memory}
use Rattle.warm_restart.specs.Counts.{greatest_count}
use Rattle.run_outcome.specs.Lone.{ExplainsOneSearch, ExplainsAlone}
use Rattle.live_search.specs.Live.{IsEvery}
use Rattle.psr_live.specs.Words.{has_form, live_alone}

pub explains : (words : List (List ℕ)) (fault : WordFault) → has_form words ≡ true →
    ExplainsOneSearch 2 words fault → ExplainsAlone live_alone words fault
explains words Refused form because = inr (inl because)
explains words (OutOfRange opt) form because = (form, because)
explains words Memory form because = tt

-- a number of steps
pub is_every : (n : ℕ) → 1 ≤ n → n ≤ greatest_count → n % 512 ≡ 0 → IsEvery n
is_every n some most whole = record {
  some = some;
  most = most;
  even = record { steps = n / 512; count = omega (arith, whole) };
}
