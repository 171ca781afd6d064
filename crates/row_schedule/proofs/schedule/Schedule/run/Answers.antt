use Rattle.std.proofs.Common.{◌≡◌, ℕ, ◌+◌, ◌-◌, subst, arith}
use Rattle.row_model.specs.declared.Rows.{Rows}
use Rattle.row_model.specs.Sums.{Sums, AddUp, Fit}
use Rattle.row_schedule.specs.Samples.{AreNext, values_of}
use Rattle.row_schedule.specs.Follows.{Follows}
use Rattle.row_schedule.specs.Running.{Running, Stands}
use Rattle.row_schedule.proofs.Carrying.{OneMore, one_more, slot_made}
use Rattle.row_schedule.proofs.Stepping.{long_yet, room_stays}
use Rattle.row_schedule.proofs.schedule.Schedule.run.Goals as goal

pub make-requires-clause-room : goal.make-requires-clause-room
make-requires-clause-room c =
    room_stays c.args.self.now c.args.stores.now c.loop-j.stores c.loop-j.invariant.long c.requires.room

pub loop-j-preserved : goal.loop-j-preserved
loop-j-preserved c =
    let s = c.args.self.now in
    let n : ℕ = c.args.spectra in
    let j : ℕ = c.loop-j.j in
    let new = c.make.new.stores in
    let one : (rows : Rows) (x : ℕ → ℕ → ℕ) (y : Sums) (u : ℕ) → Follows rows s → AddUp rows.sources.items x y →
    Fit s.narrow y (u + n) → AreNext x s.channels s.chunk u n (values_of c.args.samples) →
    Running rows s y u n c.args.from c.args.stores.now →
    OneMore rows s x y u n j (values_of c.args.samples) c.loop-j.stores new =
    λ rows x y u follows adds fits next running. record {
      follows = follows;
      adds = adds;
      fits = fits;
      next = next;
      number = omega arith;
      short = c.requires.short;
      made = c.make.ensures.made;
      before = c.loop-j.invariant.runs rows x y u follows adds fits next running;
    } in
    record {
      long = long_yet c.args.stores.now c.loop-j.stores new c.loop-j.invariant.long c.make.ensures.long;
      runs = λ rows x y u follows adds fits next running.
          one_more rows s x y u n j _ _ _ (one rows x y u follows adds fits next running);
      stands = λ rows x y u follows adds fits next running some.
          subst (λ i. Stands rows s y u n new i) (let e : j ≡ j + 1 - 1 = omega arith in e)
          (slot_made rows s x y u n j _ _ _ (one rows x y u follows adds fits next running));
    }

pub returns-clause-stands : goal.returns-clause-stands
returns-clause-stands c = λ rows x y u follows adds fits next running some.
    let last = c.loop-j.auto.j-end c.requires.begins in
    let done = c.loop-j-test.false in
    let end : c.loop-j.j ≡ c.args.to = omega arith in
    subst (λ i. Stands rows c.args.self.now y u c.args.spectra c.loop-j.stores (i - 1)) end
    (c.loop-j.invariant.stands rows x y u follows adds fits next running (omega arith))
