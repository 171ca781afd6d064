use Rattle.std.proofs.Common.{◌≡◌, None, Err, refl, sym, subst}
use Rattle.psr_base.specs.Told.{Told}
use Rattle.search_words.specs.Settings.{RunSeen, run_seen, settings_seen}
use Rattle.disk_feeder.specs.declared.answers.FeedEnd.TheVariants.{ReadFault}
use Rattle.run_outcome.specs.declared.stop.Stop.{Stop as Stopped}
use Rattle.run_outcome.specs.declared.stop.Stop.TheVariants as Stop
use Rattle.run_outcome.specs.Outcomes.{LeavesAtFault}
use Rattle.run_outcome.specs.Runs.{Searching, Alone}
use Rattle.search_opening.specs.Early.{LeavesEarly}
use Rattle.search_opening.specs.Settings.{ForWords}
use Rattle.drive_lone.specs.declared.stop.LoneStop.{LoneStop}
use Rattle.drive_lone.specs.declared.stop.LoneStop.TheVariants.{Run, Unscoped}
use Rattle.drive_lone.specs.Stops.{FailsReading, LeavesAlone, ReadsBefore, StopsEarly}
use Rattle.drive_lone.proofs.Told.{read_through}
use Rattle.drive_lone.proofs.Wording.{stops_alone, reads_before, is_found}
use Rattle.drive_lone.proofs.Through.{opened_over, begins_alone, is_parted}
use Rattle.drive_lone.proofs.run.within.Goals as goal

pub go_on-found-requires : goal.go_on-found-requires
go_on-found-requires g c =
    let s = settings_seen c.args.settings.now in
    let at = c.in-Ok-open_alone.ensures.opened in
    record {
      opened = (
        s,
        at.0,
        opened_over g.I.Inputs.told g.I.Inputs.is_open s c.open_alone.new.feeder c.part-inputs.result.inputs.now
            c.part-inputs.result.space c.in-Ok-open_alone.opened.observation at.0 c.in-Ok-open_alone.opened.space
            c.part-inputs.ensures.inputs c.part-inputs.ensures.stream at.2,
      );
    }

pub returns-in-Ok-open_alone-clause-inputs : goal.returns-in-Ok-open_alone-clause-inputs
returns-in-Ok-open_alone-clause-inputs g c =
    read_through g.I.Inputs.told g.I.Inputs.is_calm g.I.Inputs.faults (c.go_on-found.result.feed ≡ ReadFault)
    c.in-Ok-open_alone.opened (Run Stop.ReadFault) c.args.inputs.now c.over-feeder.result.inputs.now
    c.open_alone.new.feeder.inputs.now c.part-inputs.result.inputs.now c.go_on-found.new.inputs
    c.over-feeder.ensures.inputs c.in-Ok-open_alone.ensures.inputs c.part-inputs.ensures.inputs
    c.go_on-found.ensures.inputs

pub returns-in-Ok-open_alone-clause-serves : goal.returns-in-Ok-open_alone-clause-serves
returns-in-Ok-open_alone-clause-serves g c =
    let s = settings_seen c.args.settings.now in
    let at = c.in-Ok-open_alone.ensures.opened in
    let parted = is_parted g.I.Inputs.told g.I.Inputs.is_open g.I.Inputs.is_calm g.I.Inputs.faults _ s c.args.inputs.now
    _ _ c.open_alone.new.feeder _ _ at.0 _ c.over-feeder.ensures.inputs c.in-Ok-open_alone.ensures.inputs
    c.in-Ok-open_alone.ensures.begins c.part-inputs.ensures.inputs c.part-inputs.ensures.stream at.2 in
    (c.go_on-found.ensures.fed Searching s c.args.inputs.now parted.opened.feeder.plan parted.read).serves

pub returns-in-Ok-open_alone-clause-fed : goal.returns-in-Ok-open_alone-clause-fed
returns-in-Ok-open_alone-clause-fed g c = λ lone.
    let s = settings_seen c.args.settings.now in
    let at = c.in-Ok-open_alone.ensures.opened in
    let parted = is_parted g.I.Inputs.told g.I.Inputs.is_open g.I.Inputs.is_calm g.I.Inputs.faults _ s c.args.inputs.now
    _ _ c.open_alone.new.feeder _ _ at.0 _ c.over-feeder.ensures.inputs c.in-Ok-open_alone.ensures.inputs
    c.in-Ok-open_alone.ensures.begins c.part-inputs.ensures.inputs c.part-inputs.ensures.stream at.2 in
    (c.go_on-found.ensures.fed (Alone lone) s c.args.inputs.now parted.opened.feeder.plan parted.read).fed
    (begins_alone g.I.Inputs.told g.I.Inputs.is_open s _ _ at.0 _ parted.opened lone)

pub returns-in-Ok-open_alone-clause-found : goal.returns-in-Ok-open_alone-clause-found
returns-in-Ok-open_alone-clause-found g c =
    let s = settings_seen c.args.settings.now in
    let at = c.in-Ok-open_alone.ensures.opened in
    let parted = is_parted g.I.Inputs.told g.I.Inputs.is_open g.I.Inputs.is_calm g.I.Inputs.faults _ s c.args.inputs.now
    _ _ c.open_alone.new.feeder _ _ at.0 _ c.over-feeder.ensures.inputs c.in-Ok-open_alone.ensures.inputs
    c.in-Ok-open_alone.ensures.begins c.part-inputs.ensures.inputs c.part-inputs.ensures.stream at.2 in
    is_found (g.S.Scoping.scopes c.args.scoping.now) s (g.I.Inputs.told c.args.inputs.now)
    c.in-Ok-open_alone.opened.observation at.0 c.go_on-found.result at.1
    (c.go_on-found.ensures.went s at.0 c.args.inputs.now parted.opened parted.read)

pub returns-in-Err-open_alone-clause-stopped : goal.returns-in-Err-open_alone-clause-stopped
returns-in-Err-open_alone-clause-stopped g c =
    let told = g.I.Inputs.told in
    let s = settings_seen c.args.settings.now in
    let accepts = g.S.Scoping.accepts c.args.scoping.now in
    let refuses = g.S.Scoping.refuses c.args.scoping.now in
    let Early : _ → Type 0 = λ i. StopsEarly accepts refuses s (told i) c.in-Err-open_alone.stop in
    stops_alone c.words_say_once.ensures c.early_stops_are_said.ensures.said accepts refuses s
    (told c.args.inputs.now) c.in-Err-open_alone.stop
    (subst Early c.over-feeder.ensures.inputs c.in-Err-open_alone.ensures.stopped)

-- ---- what a fault leaves

pub returns-in-Ok-open_alone-clause-broken : goal.returns-in-Ok-open_alone-clause-broken
returns-in-Ok-open_alone-clause-broken g c = λ failed lone.
    let s = settings_seen c.args.settings.now in
    let at = c.in-Ok-open_alone.ensures.opened in
    let parted = is_parted g.I.Inputs.told g.I.Inputs.is_open g.I.Inputs.is_calm g.I.Inputs.faults _ s c.args.inputs.now
    _ _ c.open_alone.new.feeder _ _ at.0 _ c.over-feeder.ensures.inputs c.in-Ok-open_alone.ensures.inputs
    c.in-Ok-open_alone.ensures.begins c.part-inputs.ensures.inputs c.part-inputs.ensures.stream at.2 in
    (c.go_on-found.ensures.fed (Alone lone) s c.args.inputs.now parted.opened.feeder.plan parted.read).broken failed
    (begins_alone g.I.Inputs.told g.I.Inputs.is_open s _ _ at.0 _ parted.opened lone)

pub returns-in-Err-open_alone-clause-unread : goal.returns-in-Err-open_alone-clause-unread
returns-in-Err-open_alone-clause-unread g c = λ lone.
    let told = g.I.Inputs.told in
    let s = settings_seen c.args.settings.now in
    let now = c.args.inputs.now in
    let end = c.open_alone.new.feeder.inputs.now in
    let stop = c.in-Err-open_alone.stop in
    let Before : _ → Type 0 = λ i. LeavesAlone (run_seen c.args.settings.now.run) (g.I.Inputs.is_calm i) (told i)
    (told end) stop in
    let After : _ → Type 0 = λ i. ForWords (Alone lone) s (λ words. ReadsBefore lone words (told now) (told i) stop) in
    subst After (sym c.close.ensures.inputs)
    (reads_before c.words_say_once.ensures s (g.I.Inputs.is_calm now) (told now) (told end) stop
    (subst Before c.over-feeder.ensures.inputs c.in-Err-open_alone.ensures.leaves)
    (λ x early lone want. (c.early_stops_are_said.ensures.leave now (Alone lone) s (told now) (told end) x early).unread
    want) lone)

pub returns-in-Err-open_alone-clause-broken : goal.returns-in-Err-open_alone-clause-broken
returns-in-Err-open_alone-clause-broken g c = λ failed lone.
    let told = g.I.Inputs.told in
    let s = settings_seen c.args.settings.now in
    let now = c.args.inputs.now in
    let early = at_fault (run_seen c.args.settings.now.run) _ _ _ c.in-Err-open_alone.stop failed
    c.in-Err-open_alone.ensures.leaves in
    let Before : _ → Type 0 = λ i. LeavesEarly (run_seen c.args.settings.now.run) (g.I.Inputs.is_calm i) (told i)
    (told c.open_alone.new.feeder.inputs.now) Stop.ReadFault in
    let After : _ → Type 0 = λ i. ForWords (Alone lone) s (λ words.
    LeavesAtFault (Alone lone) words (g.I.Inputs.is_calm now) (told now) (told i) None) in
    subst After (sym c.close.ensures.inputs)
    ((c.early_stops_are_said.ensures.leave now (Alone lone) s (told now) (told c.open_alone.new.feeder.inputs.now)
    Stop.ReadFault (subst Before c.over-feeder.ensures.inputs early)).broken refl)
  where
    at_fault : {F : Type 0} (s : RunSeen) (is_calm : Type 0) (before after : Told) (stop : LoneStop F) →
        FailsReading (Err stop) → LeavesAlone s is_calm before after stop →
        LeavesEarly s is_calm before after Stop.ReadFault
    at_fault s is_calm before after (Run stop) failed leaves =
        subst (λ (x : Stopped). LeavesEarly s is_calm before after x) failed leaves
    at_fault s is_calm before after (Unscoped refusal) failed leaves = absurd failed
