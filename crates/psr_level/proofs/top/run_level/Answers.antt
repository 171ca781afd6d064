use Rattle.std.proofs.Common.{◌≡◌, ℕ, ◌∙◌, sym, ap, subst, arith}
use Rattle.run_outcome.specs.declared.stop.Stop.{Stop}
use Rattle.run_outcome.specs.declared.stop.Stop.TheVariants.{Words}
use Rattle.run_outcome.specs.Texts.{status_of}
use Rattle.psr_level.specs.declared.stop.LevelStop.{LevelStop}
use Rattle.psr_level.specs.declared.stop.LevelStop.TheVariants as stops
use Rattle.psr_level.specs.Complete.{IsComplete}
use Rattle.std.specs.Prelude.{map, string_bytes}
use Rattle.psr_level.specs.Outcome.{LeavesFiles}
use Rattle.psr_level.specs.Notes.{end_status, level_status}
use Rattle.psr_level.proofs.top.run_level.Goals as goal

-- a stop is answered by another status than 0
run_status : (stop : Stop) → status_of stop ≡ 0 → ⊥
run_status Words is = absurd (omega (arith, is))
run_status stop is = absurd (omega (arith, is))

some_status : (stop : LevelStop) → level_status stop ≡ 0 → ⊥
some_status (stops.Run stop) is = run_status stop is
some_status stop is = absurd (omega (arith, is))

pub returns-in-Some-clause-headline : goal.returns-in-Some-clause-headline
returns-in-Some-clause-headline g c = λ none. absurd (some_status c.in-Some.stop (sym c.status.ensures ∙ none))

pub returns-in-Some-clause-complete : goal.returns-in-Some-clause-complete
returns-in-Some-clause-complete g c = λ s says.
    let P : ℕ → Type 0 = λ n. IsComplete s (g.I.Inputs.told c.args.inputs.now) n in
    subst P (ap end_status c.in-Some.is ∙ sym c.status.ensures) (c.level.ensures.complete s says)

pub returns-in-Some-clause-leaves : goal.returns-in-Some-clause-leaves
returns-in-Some-clause-leaves g c =
    let i = g.I.Inputs in
    let P : ℕ → Type 0 = λ n. LeavesFiles (map string_bytes c.args.words.now) (i.is_calm c.args.inputs.now)
    (i.told c.args.inputs.now) (i.told c.level.new.inputs) (g.K.Sink.seen c.args.out.now)
    (g.K.Sink.seen c.level.new.out) n in
    subst P (ap end_status c.in-Some.is ∙ sym c.status.ensures) c.level.ensures.leaves
