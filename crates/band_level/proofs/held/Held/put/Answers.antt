use Rattle.std.proofs.Common.{List, ℕ, ◌-◌, ◌++◌, length, take, drop, ap, sym, subst, ◌∙◌, arith, length-drop}
use Rattle.std.proofs.Math.Seq.{take-add}
use Rattle.std.proofs.lemmas.List.{take_rest}
use Rattle.band_level.specs.declared.format.Format.{Format}
use Rattle.band_level.specs.Holding.{Puts}
use Rattle.band_level.proofs.Puts.{puts_none, puts_join}
use Rattle.band_level.proofs.held.Held.put.Goals as goal

pub loop-taken-init : goal.loop-taken-init
loop-taken-init c = record { within = omega arith; puts = puts_none c.args.self.now.format c.args.self.now }

pub loop-taken-preserved : goal.loop-taken-preserved
loop-taken-preserved c =
    let bytes = c.args.bytes.now in
    let old = c.args.self.now in
    let taken = c.loop-taken.taken in
    let more = c.put_some-taken.result in
    let piece = take more (take (length bytes - taken) (drop taken bytes)) in
    let puts = c.loop-taken.invariant.puts in
    let next = subst (λ (f : Format). Puts f c.loop-taken.self c.put_some-taken.new.self piece) puts.format
    c.put_some-taken.ensures.puts in
    record {
      within = omega (
        arith,
        c.put_some-taken.ensures.within,
        ap length (take_rest bytes taken),
        length-drop taken bytes,
      );
      puts = subst (λ (xs : List ℕ). Puts old.format old c.put_some-taken.new.self xs)
          (ap (λ (rest : List ℕ). take taken bytes ++ take more rest) (take_rest bytes taken)
          ∙ sym (take-add taken more bytes))
          (puts_join old.format old c.loop-taken.self c.put_some-taken.new.self (take taken bytes) piece puts next);
    }
