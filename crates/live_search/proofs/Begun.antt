-- A search that was opened.
use Rattle.std.proofs.Common.{◌≡◌, ℕ, ◌+◌, ◌-◌, ◌*◌, ◌/◌, ◌%◌, ◌≤◌, inl, inr, true, false, [], sym, ◌∙◌, ap, subst, arith}
use Rattle.std.proofs.Math.Nat.{mod-eq-sub-div-mul, mul-le-mul_left}
use Rattle.std.proofs.lemmas.Bool.{cases_lt}
use Rattle.dada_model.specs.Observation.{Observation}
use Rattle.search_model.specs.declared.search.Search.{Search}
use Rattle.search_model.specs.Parts.{first_needed}
use Rattle.search_engine.specs.Engine.{EngineState, HoldsNoFullChunk, StandsForPart, chunk_of, scope_of}
use Rattle.search_engine.specs.Scope.{bytes_in, scope_of_part, spectrum_size}
use Rattle.spectra_rows.specs.Unpacking.{spectrum_bytes}
use Rattle.warm_restart.specs.Counts.{greatest_count}
use Rattle.warm_restart.specs.declared.checkpoint.Checkpoint.{Checkpoint}
use Rattle.live_search.specs.LiveText.{after_parts, next_end}
use Rattle.live_search.specs.Live.{BeginsFor, IsOpenedFrom, IsTask, Task, WasFed, settings_of}
use Rattle.live_search.specs.declared.live.LiveSearch.{LiveSearch}
use Rattle.live_search.proofs.Counts.{next_past}
use Rattle.live_search.proofs.Sizes.{no_spectra}

-- the steps that lie within so many spectra
pub steps_in : (n : ℕ) → n - n % 512 ≡ n / 512 * 512
steps_in n = let rest = mod-eq-sub-div-mul n 512 in
    let most = Rattle.std.proofs.Math.Nat.div-mul-le_self n 512 in omega (arith, rest, most)

pub begins_for : (s : Search) (place : ℕ) → BeginsFor s place (first_needed s place - first_needed s place % 512)
begins_for s place =
    let reach : ℕ = s.max_delay + s.widest in
    let first : ℕ = first_needed s place - first_needed s place % 512 in
    elim (cases_lt 0 first) [
      | inl more ↦ record {
        even = record { steps = first_needed s place / 512; count = steps_in (first_needed s place) };
        needed = first + reach;
        early = omega (arith, more);
        is = omega arith;
      }
      | inr none ↦ record {
        even = record { steps = first_needed s place / 512; count = steps_in (first_needed s place) };
        needed = 0;
        early = omega arith;
        is = omega (arith, none);
      }
    ]

-- an engine that was fed nothing holds nothing
pub holds_none : (o : Observation) (s : Search) (e : EngineState) → e.search ≡ settings_of s → StandsForPart o [] e →
    HoldsNoFullChunk e
holds_none o s e search stands =
    let holds = stands.chunks.holds in
    let size = holds.held.size in
    let short = holds.held.short in
    let count = stands.count in
    let few = holds.few in
    let chunk = holds.searches.chunk in
    let is : chunk_of e.search ≡ 512 = ap chunk_of search in
    let rows : e.unpacker.whole * 1 ≤ e.unpacker.whole * spectrum_bytes e.unpacker =
    mul-le-mul_left e.unpacker.whole (let one : 1 ≤ spectrum_bytes e.unpacker = omega (arith, short) in one) in
    let none : 0 * spectrum_bytes e.unpacker ≡ 0 = omega arith in
    let split : (e.sums.carry.fed + e.unpacker.whole) * spectrum_bytes e.unpacker
    ≡ e.sums.carry.fed * spectrum_bytes e.unpacker + e.unpacker.whole * spectrum_bytes e.unpacker = omega arith in
    let all = bytes_in o e.sums.pulses.sought [] in
    omega (arith, size, few, count, chunk, is, rows)

-- ---- a search of it

pub opened_was : (o : Observation) (t : Task) (w : LiveSearch) → IsTask t → IsOpenedFrom o t.search t.from.place w.engine →
    w.every ≡ t.every → w.spectrum ≡ spectrum_size o → w.from ≡ t.from → w.until ≡ next_end t.every t.from.place →
    w.due ≡ false → WasFed o t [] w
unfolding after_parts
opened_was o t w task is every size from until due =
    let e = w.engine in
    let place : w.from.place ≡ t.from.place = ap (λ (c : Checkpoint). c.place) from in
    let later = next_past t.every t.from.place task.every.some in
    let none = no_spectra o is.stands.chunks.holds.searches.bounds in
    record {
      task = task;
      every = every;
      size = size;
      searches = record {
        search = is.opened.search_is;
        shard = is.opened.shard_is;
        running = is.opened.running;
        first = is.first;
        begins = is.begins;
        scope = subst (λ p. scope_of e ≡ scope_of_part o.channels is.first p greatest_count) (sym place) is.scope;
      };
      fed = is.stands;
      full = holds_none o t.search e is.opened.search_is is.stands;
      parts = 0;
      placed = record {
        until = until ∙ ap (λ p. next_end t.every p) (sym place);
        before = omega (arith, until, later, none);
        due = λ on. absurd (let other : true ≡ false = sym on ∙ due in cc);
        past = λ off more. absurd (omega (arith, more));
      };
      at = λ more numbers. from;
    }
