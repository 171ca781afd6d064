use Rattle.std.proofs.Common.{Some, sym, subst}
use Rattle.std.specs.Prelude.{IfOk}
use Rattle.search_words.specs.Settings.{settings_seen}
use Rattle.psr_beams.specs.Joined.{CanJoinSlot, IsSlotJoined}
use Rattle.psr_beams.proofs.opened.open_slot.Goals as goal

pub open_beam-requires-clause-can : goal.open_beam-requires-clause-can
open_beam-requires-clause-can c =
    let can = c.requires.can in (
      can.0,
      can.1,
      subst (CanJoinSlot can.0 (settings_seen c.args.settings.now) c.args.observation.now can.1) c.in-Some.is can.2,
    )

pub returns : goal.returns
returns c = λ told name can.
    let s = settings_seen c.args.settings.now in
    let o = c.args.observation.now in
    subst (λ slot. IfOk c.open_beam.result (λ beam. IsSlotJoined told s o name slot (Some beam))) (sym c.in-Some.is)
    (c.open_beam.ensures told name (subst (CanJoinSlot told s o name) c.in-Some.is can))
