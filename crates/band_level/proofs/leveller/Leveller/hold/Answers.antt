use Rattle.std.proofs.Common.{take, ◌∙◌, subst, arith}
use Rattle.band_level.specs.declared.format.Format.{Format}
use Rattle.band_level.specs.Holding.{Puts}
use Rattle.band_level.proofs.leveller.Leveller.hold.Goals as goal

pub invariant_of-self : goal.invariant_of-self
invariant_of-self c =
    let inv = c.self.invariant in
    let s = inv.stretch in
    let puts = subst (λ (f : Format). Puts f c.self.inside.held c.put.new.self (take c.put.result c.args.bytes.now))
    s.same c.put.ensures.puts in
    record {
      task = inv.task;
      stretch = record {
        same = puts.format ∙ s.same;
        room = puts.room ∙ s.room;
        order = s.order;
        inside = let fits = s.inside in let size = puts.size in omega arith;
        few = s.few;
      };
      scales = inv.scales;
      rows = inv.rows;
      space = inv.space;
      piece = inv.piece;
    }

pub returns-clause-held : goal.returns-clause-held
returns-clause-held c = rw (← c.self.view_is)
    (subst (λ (f : Format). Puts f c.self.inside.held c.put.new.self (take c.put.result c.args.bytes.now))
    c.self.invariant.stretch.same c.put.ensures.puts)

pub returns-clause-rest : goal.returns-clause-rest
returns-clause-rest c rest =
    let s = c.self.invariant.stretch in
    rw (← c.self.view_is) ((rw s.same at (c.put.ensures.rest rest)) ∙ s.room)
