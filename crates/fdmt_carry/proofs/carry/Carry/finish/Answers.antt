use Rattle.std.proofs.Common.{◌≡◌, ℕ, ◌+◌, true, false, Bool, subst, sym}
use Rattle.fdmt_carry.specs.Carrying.{Carrying, StandsForSamples, StandsMidway, carrying}
use Rattle.fdmt_carry.proofs.Carried.{ended_stands}
use Rattle.fdmt_carry.proofs.carry.Carry.finish.Goals as goal

pub returns-clause-stands : goal.returns-clause-stands
returns-clause-stands c = λ f stands.
    let s = c.self.inside in
    let t = s.tables in
    let st = s.stores in
    let inside : Carrying = carrying t s.pass s.limit s.max_sample s.fed s.last s.has_tables s.is_passing s.next s.done
    st in
    let before : StandsMidway inside f = subst (λ (x : Carrying). StandsMidway x f) (sym c.self.view_is) stands in
    let all : s.next ≡ t.plan.last + 1 =
    subst (λ (x : Carrying). x.next ≡ x.tables.plan.last + 1) (sym c.self.view_is) c.requires.all in
    let passing : s.is_passing ≡ true =
    subst (λ (x : Carrying). x.is_passing ≡ true) (sym c.self.view_is) c.requires.passing in
    let none : s.has_tables ≡ false = c.self.invariant.0.alone passing in
    let ended : ℕ → Bool → Carrying = λ fed has. carrying t s.pass s.limit s.max_sample (s.fed + fed) s.last has false
    s.next s.done st in
    subst (λ (fed : ℕ). StandsForSamples (ended fed s.has_tables) f) (sym c.from.ensures)
    (subst (λ (has : Bool). StandsForSamples (ended s.last has) f) (sym none)
    (ended_stands c.running_ends.ensures inside f c.self.invariant.0.pass_is all (c.self.invariant.0.before passing) before))
