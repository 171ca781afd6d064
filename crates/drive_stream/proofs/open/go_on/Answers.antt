use Rattle.drive_stream.proofs.Openings.{ready_of, still_begun}
use Rattle.drive_stream.proofs.open.go_on.Goals as goal

pub accept_all-requires-clause-begun : goal.accept_all-requires-clause-begun
accept_all-requires-clause-begun g c =
    still_begun g.I.Inputs.told c.args.size c.args.feeder.now c.cut_blocks.new.self c.cut_blocks.ensures.cut
    c.cut_blocks.ensures.inputs c.requires.begun

pub returns-clause-ready : goal.returns-clause-ready
returns-clause-ready g c =
    ready_of g.I.Inputs.told c.args.size c.args.feeder.now c.cut_blocks.new.self c.accept_all.new.feeder
    c.cut_blocks.ensures.cut c.accept_all.ensures.accepted
