use Rattle.std.proofs.Common.{◌≡◌, Some}
use Rattle.std.specs.Prelude.{slice_get}
use Rattle.psr_base.proofs.FixedPlace.{plus_first}
use Rattle.psr_base.proofs.fixed.split_sign.Goals as goal

pub returns-in-Some-eq43 : goal.returns-in-Some-eq43
returns-in-Some-eq43 c =
    let first : Some c.in-Some-eq43.field-0.now ≡ slice_get c.args.text.now 0 =
    rw c.in-Some-eq43.is at c.first.ensures.value in
    plus_first c.args.text.now c.in-Some-eq43.field-0.now first c.in-Some-eq43.field-0-test
