-- A run goes on by the step of one event.
use Rattle.std.proofs.Common.{ℕ, List, [], ◌∷◌, get_or, map, take, refl, sym, ap, subst, ◌∙◌}
use Rattle.std.proofs.lemmas.List.{take_more, map-append}
use Rattle.ring_core.specs.Machine.{Event}
use Rattle.ring_core.specs.State.{CoreState, IsSoundCore, RunsTo, event_of}
use Rattle.ring_core.specs.declared.Event.TheVariants.{Look}
use Rattle.ring_core.proofs.Rings.{run_by}
use Rattle.ring_core.proofs.run.Goals as goal

pub loop-event-init : goal.loop-event-init
loop-event-init c = record {
  runs = record { shape = refl; answers = []; runs = refl };
  ring = let P : CoreState → Type 0 = λ r. IsSoundCore r in subst P c.core.view_is c.core.invariant.ring;
}

pub loop-event-preserved : goal.loop-event-preserved
loop-event-preserved c =
    let events = c.args.events.now in let i = c.loop-event.event-index in
    let more = take_more events i (Look 0) c.loop-event-test.true in
    let P : List (Event ℕ) → Type 0 = λ es. RunsTo c.args.core.now es c.apply.new.self in record {
      runs = subst P (sym (ap (map event_of) more ∙ map-append event_of (take i events)
          (get_or events i (Look 0) ∷ [])))
          (run_by c.args.core.now _ c.loop-event.core _ _ c.apply.new.self c.loop-event.invariant.runs
          c.apply.ensures.steps);
      ring = c.apply.ensures.ring;
    }
