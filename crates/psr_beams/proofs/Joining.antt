-- The engine and the feeder of a beam make a beam that begins.
use Rattle.std.proofs.Common.{◌≡◌, ℕ, zero, suc, ◌+◌, ◌*◌, ◌/◌, ◌<◌, ◌≤◌, List, [], ◌∷◌, ◌++◌, All, length, take, drop, get_or, remove, slice_get, Option, Some, None, refl, sym, ap, subst, ◌∙◌, arith}
use Rattle.std.specs.Prelude.{IsSome, IsSomeAnd}
use Rattle.std.proofs.lemmas.List.{get_or_default, drop_more, length-append, get_or_append_left}
use Rattle.std.proofs.lemmas.Option.{slice_get_within}
use Rattle.std.proofs.Math.Nat.{mul_comm}
use Rattle.std.proofs.Math.Seq.{get_or-append_seam}
use Rattle.psr_base.specs.Told.{Told}
use Rattle.dada_model.specs.Fields.{HeaderText}
use Rattle.dada_model.specs.Observation.{Observation}
use Rattle.search_model.specs.declared.search.Search.{Search}
use Rattle.search_words.specs.Settings.{SettingsSeen}
use Rattle.search_engine.specs.Engine.{EngineState, most_fed}
use Rattle.ring_words.specs.declared.shape.RingShape.{RingShape}
use Rattle.disk_feeder.specs.declared.feeder.FeederSpace.{FeederSpace}
use Rattle.disk_feeder.specs.Feeder.{HasPlan, IsBegun, headers_of, plan_at, block_size, AcceptsAt, AllAccepted, FeederFeeds, KeepsBegun}
use Rattle.disk_feeder.specs.Feeding.{header_entries}
use Rattle.disk_feeder.specs.Resting.{at_rest}
use Rattle.beam_set.specs.declared.space.BeamSpace.{BeamSpace}
use Rattle.beam_set.specs.declared.beam.Beam.{Beam}
use Rattle.beam_set.specs.Beam.{IsBeamSpace, IsBeamReady, BeamBegins, engines_in, engines_held, feeder_in}
use Rattle.psr_beams.specs.Files.{beam_name}
use Rattle.psr_beams.specs.Engines.{IsEngineOf, HaveEngines, beam_shape}
use Rattle.psr_beams.specs.Joined.{CanJoin, IsJoined, CanJoinSlot, IsSlotJoined, CanJoinAll, AreJoined}
use Rattle.psr_beams.proofs.Growing.{longer, all_more}

-- ---- one beam

-- the feeder accepted the observation
pub record HasAccepted (old new : FeederSpace) : Type 0 where
  pub kept : KeepsBegun (at_rest old) (at_rest new)
  pub feeds : (told : Told) → IsBegun told (at_rest old) → AllAccepted (at_rest new) →
      FeederFeeds told (at_rest new) (header_entries (take 1 (headers_of (at_rest new)))) []
  pub accepts : AcceptsAt (at_rest old) 0 (at_rest new)

-- and there is a space with this engine, under the header that it has read
pub record HasSpace (s : SettingsSeen) (o : Observation) (feeder : FeederSpace) (space : BeamSpace) : Type 0 where
  pub engine : EngineState
  pub engine_is : IsEngineOf s.search o engine
  pub text : HeaderText
  pub header_is : slice_get (headers_of (at_rest feeder)) 0 ≡ Some text
  pub shape : RingShape
  pub shape_is : shape ≡ beam_shape s
  pub space_is : IsBeamSpace engine shape text space
  pub total : s.size * shape.max_blocks ≤ most_fed

module _ (told : Told) (s : SettingsSeen) (o : Observation) (name : List ℕ) (feeder : FeederSpace)
    (can : CanJoin told s o name feeder) where
  one_header : length (headers_of (at_rest feeder)) ≡ 1
  one_header = can.plan.headers ∙ ap length can.one

  pub header_there : 0 < length (headers_of (at_rest feeder))
  header_there = let one = one_header in omega (arith, one)

  module _ (new : FeederSpace) (is : HasAccepted feeder new) (space : BeamSpace) (sp : HasSpace s o feeder space)
    where
      all_accepted : AllAccepted (at_rest new)
      all_accepted zero header at = is.accepts.first header at
      all_accepted (suc k) header at =
          let within = slice_get_within (headers_of (at_rest new)) (suc k) header at in
          let one : length (headers_of (at_rest new)) ≡ 1 = ap length is.kept.headers ∙ one_header in
          absurd (omega (arith, within, one))

      new_plan : HasPlan (at_rest new) (name ∷ []) s.starts s.size s.max_bytes
      new_plan = record {
        files = is.kept.plan.names ∙ can.plan.files;
        transfers = is.kept.plan.starts ∙ can.plan.transfers;
        limit = is.kept.plan.limit ∙ can.plan.limit;
        block = is.kept.plan.size ∙ can.plan.block;
        headers = is.kept.plan.headers ∙ can.plan.headers;
      }

      starts_one : length (plan_at (at_rest new)).starts ≡ 1
      starts_one = ap length (new_plan.transfers ∙ can.one)

      pub ready : IsBeamReady told space new
      ready =
          let plan = new_plan in
          record {
            engine = sp.engine;
            shape = beam_shape s;
            header = sp.text;
            space_is = rw sp.shape_is at sp.space_is;
            feeds = record {
              first = ap (λ hs. slice_get hs 0) is.kept.headers ∙ sp.header_is;
              feeds = is.feeds told can.begun all_accepted;
              running = is.kept.running;
              faultless = is.kept.faultless;
              size = sym plan.block;
              blocks = at_most _ _ (ap (λ n. n / block_size (at_rest new) + length (plan_at (at_rest new)).starts + 1)
                  plan.limit
                  ∙ ap (λ n. s.max_bytes / n + length (plan_at (at_rest new)).starts + 1) plan.block
                  ∙ ap (λ n. s.max_bytes / s.size + n + 1) starts_one);
            };
            one_transfer = starts_one;
            unfed = sp.engine_is.opened.nothing_fed;
            running = sp.engine_is.opened.running;
            few = subst (λ m. m ≤ most_fed) (mul_comm s.size (beam_shape s).max_blocks)
                (subst (λ (r : RingShape). s.size * r.max_blocks ≤ most_fed) sp.shape_is sp.total);
          }
        where
          at_most : (a b : ℕ) → a ≡ b → a ≤ b
          at_most a b same = omega (arith, same)

      pub joined : (beam : Beam) → ((t : Told) → IsBeamReady t space new → BeamBegins t beam) → feeder_in beam ≡ new →
          engines_in beam ≡ engines_held space → IsJoined told s o name feeder beam
      joined beam begins fed engines = record {
        beam_is = record {
          begins = begins told ready;
          searches = record {
            engine = sp.engine;
            engine_is = engines ∙ sp.space_is.engine_is;
            opened = sp.engine_is.opened;
            stands = sp.engine_is.stands;
          };
          plan = rw fed new_plan;
        };
        file = λ opened. is.kept.reading (rw fed at opened);
        reads_on = λ before now was. rw fed (is.kept.reads_on before now was);
      }

-- ---- the last engine and the first feeder are taken

module _ (s : Search) (o : Observation) where
  some_engine : (slot : Option EngineState) → IsSomeAnd slot (IsEngineOf s o) → IsSome slot
  some_engine None is = absurd is
  some_engine (Some e) is = refl

  pub engines_there : (slots : List (Option EngineState)) → HaveEngines s o slots → All IsSome slots
  engines_there slots all k d within = some_engine (get_or slots k d) (all k d within)

  module _ (old new : List (Option EngineState)) (e : EngineState) (is : old ≡ new ++ Some e ∷ [])
      (all : HaveEngines s o old) where
    fewer : length old ≡ length new + 1
    fewer = ap length is ∙ length-append new (Some e ∷ [])

    pub engines_left : HaveEngines s o new
    engines_left k d within =
        let size = fewer in
        subst (λ slot. IsSomeAnd slot (IsEngineOf s o)) (ap (λ xs. get_or xs k d) is
        ∙ get_or_append_left new (Some e ∷ []) d k within) (all k d (omega (arith, within, size)))

    pub engine_taken : IsEngineOf s o e
    engine_taken =
        let size = fewer in
        subst (λ slot. IsSomeAnd slot (IsEngineOf s o)) (ap (λ xs. get_or xs (length new) None) is
        ∙ get_or-append_seam new (Some e) [] None) (all (length new) None (omega (arith, size)))

    -- one engine less is left
    pub one_less : (k n : ℕ) → length old + k ≡ n → length new + (k + 1) ≡ n
    one_less k n count = let size = fewer in omega (arith, size, count)

module _ (all now : List (Option FeederSpace)) (k : ℕ) (slot : Option FeederSpace) (within : k < length all)
    (is : now ≡ drop k all) where
  pub taken : slot ≡ get_or now 0 slot → get_or all k None ≡ slot
  taken first = get_or_default all k None slot within
      ∙ sym (first ∙ ap (λ xs. get_or xs 0 slot) (is ∙ drop_more all k slot within))

  pub left : (new : List (Option FeederSpace)) → new ≡ remove now 0 → new ≡ drop (k + 1) all
  left new gone = gone ∙ ap (λ xs. remove xs 0) (is ∙ drop_more all k slot within)

-- ---- all beams

module _ (told : ℕ → Told) (s : SettingsSeen) (o : Observation) where
  pub can_at : (count k : ℕ) (feeders : List (Option FeederSpace)) (slot : Option FeederSpace) →
      CanJoinAll told s o count feeders → k < count → get_or feeders k None ≡ slot →
      CanJoinSlot (told k) s o (beam_name s k) slot
  can_at count k feeders slot all within at =
      subst (CanJoinSlot (told k) s o (beam_name s k)) at (all.each k within)

  pub some_slot : (t : Told) (name : List ℕ) (slot : Option FeederSpace) → CanJoinSlot t s o name slot → IsSome slot
  some_slot t name None can = absurd can
  some_slot t name (Some f) can = refl

  pub one_joined : (k : ℕ) (feeders : List (Option FeederSpace)) (beams new : List (Option Beam))
      (slot : Option FeederSpace) (beam : Option Beam) → AreJoined told s o k feeders beams →
      get_or feeders k None ≡ slot → IsSlotJoined (told k) s o (beam_name s k) slot beam →
      new ≡ beams ++ beam ∷ [] → AreJoined told s o (k + 1) feeders new
  one_joined k feeders beams new slot beam before at is grown = record {
    many = longer beams new beam k before.many grown;
    each = all_more beams new beam k before.many grown
        (λ j. IsSlotJoined (told j) s o (beam_name s j) (get_or feeders j None)) None before.each
        (subst (λ (f : Option FeederSpace). IsSlotJoined (told k) s o (beam_name s k) f beam) (sym at) is);
  }
