use Rattle.std.proofs.Common.{◌≡◌, [], ◌∷◌, subst}
use Rattle.std.specs.Prelude.{string_bytes}
use Rattle.search_words.specs.Settings.{settings_seen}
use Rattle.disk_feeder.specs.Feeder.{HasPlan}
use Rattle.disk_feeder.specs.Resting.{at_rest}
use Rattle.psr_beams.specs.Files.{beam_name}
use Rattle.psr_beams.proofs.OneFile.{only_start, one_slice}
use Rattle.psr_beams.proofs.Begun.{begun, reads, fails}
use Rattle.psr_beams.proofs.feeders.begin_beam.Goals as goal
use Rattle.psr_beams.proofs.feeders.begin_beam.Goals.{After-rests}

-- the file of a beam is the one that its feeder reads
starts : (g : _) (c : After-rests g) → (settings_seen c.args.settings.now).starts ≡ 0 ∷ []
starts g c = only_start _ _ c.requires.range.run.transfers c.requires.one.transfer

plan : (g : _) (c : After-rests g) →
    HasPlan (at_rest c.in-Ok.space) (beam_name (settings_seen c.args.settings.now) c.args.beam ∷ [])
    (settings_seen c.args.settings.now).starts c.args.settings.now.run.size c.args.settings.now.run.max_bytes
plan g c =
    let s = settings_seen c.args.settings.now in
    let name = beam_name s c.args.beam in
    let names = one_slice string_bytes c.deref.result.now c.args.settings.now.run.names.items c.args.beam
    c.deref.ensures.value c.requires.there in
    let at = (c.rests.ensures _ _ _ _ c.in-Ok.ensures).0 in
    subst (λ st. HasPlan (at_rest c.in-Ok.space) (name ∷ []) st s.size s.max_bytes) c.as_slice.ensures.value
    (subst (λ ns. HasPlan (at_rest c.in-Ok.space) ns c.as_slice.result.now s.size s.max_bytes) names at)

pub returns-in-Ok-begin-clause-begun : goal.returns-in-Ok-begin-clause-begun
returns-in-Ok-begin-clause-begun g c =
    let s = settings_seen c.args.settings.now in
    let name = beam_name s c.args.beam in
    let here = (goal.at.returns-in-Ok-begin-clause-begun g c).After-rests in
    begun s name c.in-Ok.space (starts g here) (plan g here) g.I.Inputs.told g.I.Inputs.is_open g.I.Inputs.is_calm g.I.Inputs.faults
    c.args.inputs.now c.begin.new.inputs c.begin.new.self c.begin.ensures.plan c.in-Ok-begin.ensures.begun
    c.in-Ok-begin.ensures.open c.in-Ok-begin.ensures.reads.begins

pub returns-in-Ok-begin-clause-read : goal.returns-in-Ok-begin-clause-read
returns-in-Ok-begin-clause-read g c =
    let s = settings_seen c.args.settings.now in
    let name = beam_name s c.args.beam in
    let here = (goal.at.returns-in-Ok-begin-clause-read g c).After-rests in
    reads s name c.in-Ok.space (starts g here) (plan g here) g.I.Inputs.told g.I.Inputs.is_open g.I.Inputs.is_calm g.I.Inputs.faults
    c.args.inputs.now c.begin.new.inputs c.begin.new.self _ (λ e. cc) c.begin.ensures.plan
    c.in-Ok-begin.ensures.begun c.in-Ok-begin.ensures.reads.read c.in-Ok-begin.ensures.inputs

pub returns-clause-stopped : goal.returns-clause-stopped
returns-clause-stopped g c =
    let s = settings_seen c.args.settings.now in
    let name = beam_name s c.args.beam in
    let here = (goal.at.returns-clause-stopped g c).After-rests in
    fails s name c.in-Ok.space (starts g here) (plan g here) g.I.Inputs.told g.I.Inputs.is_calm g.I.Inputs.faults c.args.beam
    c.args.inputs.now c.begin.new.inputs c.in-Err-begin.fault c.stop_of.result c.in-Err-begin.ensures.refused
    c.in-Err-begin.ensures.broke c.in-Err-begin.ensures.inputs c.in-Err-begin.ensures.serves c.stop_of.ensures
