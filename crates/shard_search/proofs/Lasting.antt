-- A chunk that is taken in two parts.
use Rattle.std.proofs.Common.{◌≡◌, ℕ, ◌+◌, ◌*◌, ◌≤◌, List, ◌++◌, drop, slice_index, sym, ◌∙◌, ap, arith}
use Rattle.std.proofs.lemmas.List.{get_or-drop}
use Rattle.fdmt_carry.specs.Carrying.{Carrying, AreNext}
use Rattle.fdmt_carry.specs.Tables.{Tables}
use Rattle.candidate_book.specs.Book.{BookContents}
use Rattle.search_model.specs.declared.search.Search.{Search}
use Rattle.search_model.specs.Samples.{Filterbank}
use Rattle.fold_search.specs.Judging.{Adds}
use Rattle.shard_search.specs.Sought.{Sought}
use Rattle.shard_search.specs.Sums.{ShardState, SumsAlike, HasTakenNext, pulses_of_plan, sums_of}
use Rattle.shard_search.proofs.Adding.{adds_both, adds_same}
use Rattle.shard_search.proofs.PulseLists.{ends_join}

-- the first spectra are the next ones
pub first_next : (c : Carrying) (f : Filterbank) (rows : List ℕ) (m n : ℕ) → m ≤ n → AreNext c f rows n →
    AreNext c f rows m
first_next c f rows m n le next channel i within early = next channel i within (omega arith)

-- and after them the others are
pub last_next : (c mid : Carrying) (f : Filterbank) (rows : List ℕ) (m n k : ℕ) → m + k ≡ n →
    mid.tables ≡ c.tables → mid.fed ≡ c.fed + m → AreNext c f rows n → AreNext mid f (drop m rows) k
last_next c mid f rows m n k all tables fed next channel i within early =
    get_or-drop m rows (channel * mid.tables.chunk + i) 0
    ∙ ap (λ (t : Tables). slice_index rows (m + (channel * t.chunk + i))) tables
    ∙ ap (slice_index rows) (let e : m + (channel * c.tables.chunk + i) ≡ channel * c.tables.chunk + (m + i) =
    omega arith in e)
    ∙ next channel (m + i) within (omega arith)
    ∙ ap (f.value channel) (let e : c.fed + (m + i) ≡ mid.fed + i = omega arith in e)

-- the pulses of both parts are those of the chunk
both_add : (f : Filterbank) (old mid : ShardState) (m n k : ℕ) (a b c : BookContents) → m + k ≡ n → SumsAlike mid old →
    mid.carry.fed ≡ old.carry.fed + m →
    Adds a b (pulses_of_plan f old.carry.tables.plan old.pulses.search old.pulses.sought old.carry.fed m) →
    Adds b c (pulses_of_plan f mid.carry.tables.plan mid.pulses.search mid.pulses.sought mid.carry.fed k) →
    Adds a c (pulses_of_plan f old.carry.tables.plan old.pulses.search old.pulses.sought old.carry.fed n)
both_add f old mid m n k a b c all alike fed first second =
    let p = old.carry.tables.plan in
    let s = old.pulses.search in
    let x = old.pulses.sought in
    let u = old.carry.fed in
    let same = ap (λ (t : Tables). pulses_of_plan f t.plan mid.pulses.search mid.pulses.sought mid.carry.fed k)
    alike.tables
    ∙ ap (λ (t : Search). pulses_of_plan f p t mid.pulses.sought mid.carry.fed k) alike.search
    ∙ ap (λ (t : Sought). pulses_of_plan f p s t mid.carry.fed k) alike.sought in
    adds_same a c (pulses_of_plan f p s x u m ++ pulses_of_plan f p s x mid.carry.fed k) (pulses_of_plan f p s x u n)
    (ends_join (sums_of f p.edges) s x p.first (p.last + 1) u m k mid.carry.fed (sym fed)
    ∙ ap (pulses_of_plan f p s x u) all)
    (adds_both a b c _ _ first (adds_same b c _ _ same second))

-- so both parts are one call
pub both_taken : (old mid new : ShardState) (rows : List ℕ) (m n k : ℕ) (a b c : BookContents) → m + k ≡ n →
    HasTakenNext old mid rows m a b → HasTakenNext mid new (drop m rows) k b c → HasTakenNext old new rows n a c
both_taken old mid new rows m n k a b c all one two =
    let within : m ≤ n = omega arith in
    let first = λ (f : Filterbank) (next : AreNext old.carry f rows n). first_next old.carry f rows m n within next in
    let last = λ (f : Filterbank) (next : AreNext old.carry f rows n).
    last_next old.carry mid.carry f rows m n k all one.alike.tables one.fed next in
    record {
      alike = record {
        tables = two.alike.tables ∙ one.alike.tables;
        max_sample = two.alike.max_sample ∙ one.alike.max_sample;
        search = two.alike.search ∙ one.alike.search;
        sought = two.alike.sought ∙ one.alike.sought;
      };
      fed = (let before = one.fed in let after = two.fed in omega arith);
      count = (let before = one.count in let after = two.count in omega arith);
      carried = λ f stands next. two.carried f (one.carried f stands (first f next)) (last f next);
      stands = λ f stands next. two.stands f (one.stands f stands (first f next)) (last f next);
      pulses = λ f stands next. both_add f old mid m n k a b c all one.alike one.fed
          (one.pulses f stands (first f next)) (two.pulses f (one.stands f stands (first f next)) (last f next));
    }
