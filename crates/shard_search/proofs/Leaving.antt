-- Where more ends are left out, what was taken stays.
use Rattle.std.proofs.Common.{◌≡◌, ℕ, List, [], refl, sym, subst, arith}
use Rattle.std.proofs.lemmas.List.Elements.{All-nil}
use Rattle.search_model.specs.Samples.{Filterbank}
use Rattle.shard_search.specs.PulseSearch.{PulseState, PulsesAreSound}
use Rattle.shard_search.specs.Sought.{Sought, sought_from}
use Rattle.shard_search.specs.Sums.{FitTogether, ShardState, StandsForStream}
use Rattle.shard_search.specs.Thresholds.{IsHit}
use Rattle.shard_search.specs.declared.thresholds.BoxThresholds.{BoxThresholds}
use Rattle.shard_search.specs.declared.thresholds.Hit.{Hit}

abbrev pub left : PulseState → Sought → PulseState
left p c = record {
  search = p.search;
  sought = c;
  first = p.first;
  end = p.end;
  boxes = p.boxes;
  hits = [];
}

pub sound_from : (p : PulseState) (thresholds : BoxThresholds) (capacity capacity' place : ℕ) (c : Sought)
    (hits : List Hit) → c ≡ sought_from place p.sought → hits ≡ [] → capacity' ≡ capacity →
    PulsesAreSound p thresholds capacity →
    PulsesAreSound (record (left p c) { hits = hits }) thresholds capacity'
sound_from p thresholds capacity capacity' place c hits is none same sound =
    let t = sound.thresholds_are in
    let room = sound.room in
    subst (λ (x : Sought). PulsesAreSound (record (left p x) { hits = hits }) thresholds capacity') (sym is)
    (subst (λ (xs : List Hit). PulsesAreSound (record (left p (sought_from place p.sought)) { hits = xs }) thresholds
    capacity') (sym none) (record {
      range = sound.range;
      sought = record { cells = sound.sought.cells; early = sound.sought.early };
      few_delays = sound.few_delays;
      boxes = sound.boxes;
      thresholds_are = record { widths_are = t.widths_are; count = t.count; least_sums = t.least_sums };
      hits = All-nil (IsHit p.search (sought_from place p.sought) p.first p.end);
      room = omega (arith, room, same);
    }))

abbrev pub with_pulses : ShardState → PulseState → ShardState
with_pulses s p = record { carry = s.carry; pulses = p; folds = s.folds }

pub fit_from : (s : ShardState) (p : PulseState) (c : Sought) → p ≡ left s.pulses c → FitTogether s →
    FitTogether (with_pulses s p)
fit_from s p c is fit =
    let old = fit.pulses in
    subst (λ (x : PulseState). FitTogether (with_pulses s x)) (sym is) (record {
      band = fit.band;
      range = fit.range;
      order = fit.order;
      within = fit.within;
      pulses = record {
        search_is = refl;
        sought_is = refl;
        first_is = old.first_is;
        end_is = old.end_is;
        chunk_is = old.chunk_is;
        bound_is = old.bound_is;
      };
      folds = fit.folds;
    })

pub stands_from : (s : ShardState) (p : PulseState) (c : Sought) (f : Filterbank) → p ≡ left s.pulses c →
    StandsForStream s f → StandsForStream (with_pulses s p) f
stands_from s p c f is stands =
    subst (λ (x : PulseState). StandsForStream (with_pulses s x) f) (sym is) (record {
      carry = stands.carry;
      pulses = λ d searched. stands.pulses d (record { above = searched.above; below = searched.below });
      folds = stands.folds;
    })
