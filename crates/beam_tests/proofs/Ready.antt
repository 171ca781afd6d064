-- The space and the feeder of a beam make a beam that begins.
use Rattle.std.proofs.Common.{◌≡◌, ℕ, zero, suc, ◌+◌, ◌/◌, ◌≤◌, List, [], ◌∷◌, length, take, slice_get, Some, None, false, sym, ap, ◌∙◌, arith}
use Rattle.std.proofs.lemmas.Option.{slice_get_within}
use Rattle.psr_base.specs.Told.{Told}
use Rattle.dada_model.specs.Fields.{HeaderText}
use Rattle.ring_words.specs.declared.shape.RingShape.{RingShape}
use Rattle.search_engine.specs.Engine.{EngineState}
use Rattle.disk_feeder.specs.declared.feeder.FeederSpace.{FeederSpace}
use Rattle.disk_feeder.specs.Feeder.{HasPlan, SamePlan, IsBegun, headers_of, plan_at, block_size, has_end, AcceptsAt, AllAccepted, FeederFeeds, FeederFaultless}
use Rattle.disk_feeder.specs.Feeding.{header_entries}
use Rattle.disk_feeder.specs.Resting.{at_rest}
use Rattle.beam_set.specs.declared.space.BeamSpace.{BeamSpace}
use Rattle.beam_set.specs.Beam.{IsBeamReady, IsBeamSpace}

-- the feeder accepted the observation of its one header
pub record HasAccepted (old new : FeederSpace) : Type 0 where
  pub plan : SamePlan (at_rest old) (at_rest new)
  pub headers : headers_of (at_rest new) ≡ headers_of (at_rest old)
  pub feeds : (told : Told) → IsBegun told (at_rest old) → AllAccepted (at_rest new) →
      FeederFeeds told (at_rest new) (header_entries (take 1 (headers_of (at_rest new)))) []
  pub faultless : FeederFaultless (at_rest new)
  pub running : has_end (at_rest new) ≡ None
  pub accepts : AcceptsAt (at_rest old) 0 (at_rest new)

-- rings of blocks of one byte
abbrev pub small : RingShape
small = record { buffers = 2; size = 1; readers = 1; max_blocks = 102 }

module _ (names : List (List ℕ)) (old new : FeederSpace) (plan : HasPlan (at_rest old) names (0 ∷ []) 1 100)
    (is : HasAccepted old new) where
  all_accepted : AllAccepted (at_rest new)
  all_accepted zero header at = is.accepts.first header at
  all_accepted (suc k) header at =
      let within = slice_get_within (headers_of (at_rest new)) (suc k) header at in
      let one : length (headers_of (at_rest new)) ≡ 1 = ap length is.headers ∙ plan.headers in
      absurd (omega (arith, within, one))

  starts_one : length (plan_at (at_rest new)).starts ≡ 1
  starts_one = ap length (is.plan.starts ∙ plan.transfers)

  pub ready : (told : Told) (space : BeamSpace) (engine : EngineState) (header : HeaderText) →
      IsBegun told (at_rest old) → slice_get (headers_of (at_rest old)) 0 ≡ Some header →
      IsBeamSpace engine small header space → engine.fed ≡ 0 → engine.has_ended ≡ false → IsBeamReady told space new
  ready told space engine header begun first space_is unfed running = record {
    engine = engine;
    shape = small;
    header = header;
    space_is = space_is;
    feeds = record {
      first = ap (λ (hs : List HeaderText). slice_get hs 0) is.headers ∙ first;
      feeds = is.feeds told begun all_accepted;
      running = is.running;
      faultless = is.faultless;
      size = sym (is.plan.size ∙ plan.block);
      blocks = at_most _ (ap (λ n. n / block_size (at_rest new) + length (plan_at (at_rest new)).starts + 1)
          (is.plan.limit ∙ plan.limit)
          ∙ ap (λ n. 100 / n + length (plan_at (at_rest new)).starts + 1) (is.plan.size ∙ plan.block)
          ∙ ap (λ n. 100 / 1 + n + 1) starts_one);
    };
    one_transfer = starts_one;
    unfed = unfed;
    running = running;
    few = omega arith;
  }
    where
      at_most : (n : ℕ) → n ≡ 102 → n ≤ 102
      at_most n same = omega (arith, same)
