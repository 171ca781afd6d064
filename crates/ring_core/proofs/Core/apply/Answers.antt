-- The laws hold of the one step, since the state before it was sound.
use Rattle.std.proofs.Common.{subst, arith}
use Rattle.ring_core.specs.State.{CoreState, IsSoundCore}
use Rattle.ring_core.proofs.Rings.{ring_after}
use Rattle.ring_core.proofs.Laws.{full_by_reader, keeps_uncleared}
use Rattle.ring_core.proofs.Only.{only_one}
use Rattle.ring_core.proofs.Core.apply.Goals as goal

before : (c : goal.After-step) → IsSoundCore c.args.self.now
before c = let P : CoreState → Type 0 = λ r. IsSoundCore r in subst P c.self.view_is c.self.invariant.ring

after : (c : goal.After-step) → IsSoundCore c.step.new.self
after c = ring_after c.args.self.now _ _ c.step.new.self (before c) c.step.ensures

pub returns-clause-ring : goal.returns-clause-ring
returns-clause-ring c = after c

pub returns-clause-only : goal.returns-clause-only
returns-clause-only c b m other = only_one _ _ _ _ _ _ b m (before c).sound c.step.ensures.does other

pub returns-clause-full : goal.returns-clause-full
returns-clause-full c =
    let two = (before c).two in
    full_by_reader _ _ _ _ _ _ (before c).sound (omega arith) c.step.ensures.does

pub returns-clause-uncleared : goal.returns-clause-uncleared
returns-clause-uncleared c = keeps_uncleared _ _ _ (after c).sound

pub returns-clause-alone : goal.returns-clause-alone
returns-clause-alone c = (after c).sound.alone
