-- Engines that are opened one after another.
use Rattle.std.proofs.Common.{◌≡◌, ℕ, List, length, get_or, slice_get, Option, Some, refl, ap, ◌∙◌}
use Rattle.std.proofs.lemmas.Option.{slice_get_within, get_or_from_slice_get}
use Rattle.dada_model.specs.Observation.{Observation}
use Rattle.search_model.specs.declared.search.Search.{Search}
use Rattle.search_engine.specs.Engine.{EngineState}
use Rattle.search_opening.specs.Engines.{IsEngineFor, AreEnginesFor}
use Rattle.search_opening.proofs.Built.{AreBuilt}

module _ (s : Search) (shard : ℕ) (observations : List (Option Observation)) where
  -- the slot of a transfer has an engine for its observation
  abbrev pub HasEngineFor : ℕ → Option EngineState → Type 0
  HasEngineFor k slot = (o : Observation) → slice_get observations k ≡ Some (Some o) →
      (e : EngineState) × (slot ≡ Some e) × IsEngineFor s shard o e

  -- what was opened of the observation that was read there
  pub engine_there : (k : ℕ) (at : Option Observation) (e : EngineState) → at ≡ get_or observations k at →
      ((o : Observation) → at ≡ Some o → IsEngineFor s shard o e) → HasEngineFor k (Some e)
  engine_there k at e read opened o there =
      (e, refl, opened o (read ∙ get_or_from_slice_get observations k (Some o) at there))

  pub engines_for : (engines : List (Option EngineState)) → AreBuilt HasEngineFor (length observations) engines →
      AreEnginesFor s shard observations engines
  engines_for engines built = record {
    count = built.count;
    each = λ k o there.
        let slot = built.each k (slice_get_within observations k (Some o) there) in
        let found = slot.2 o there in
        (found.0, slot.1 ∙ ap (λ (x : Option EngineState). Some x) found.1, found.2);
  }
