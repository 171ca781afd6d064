use Rattle.std.proofs.Common.{map, string_bytes, ◌∙◌}
use Rattle.std.proofs.lemmas.List.{length-map}
use Rattle.psr_base.specs.InMemory.{told_of}
use Rattle.disk_feeder.specs.Resting.{at_rest}
use Rattle.stream_tests.proofs.TwoFiles.{two_begun}
use Rattle.stream_tests.proofs.firsts.begin_two.Goals as goal

pub returns-in-Ok-begin : goal.returns-in-Ok-begin
returns-in-Ok-begin c =
    let all = c.in-Ok-begin.ensures in
    let plan = (c.rests.ensures _ _ _ _ c.in-Ok.ensures).0 in
    two_begun (told_of c.args.inputs.now) (told_of c.begin.new.inputs) (at_rest c.in-Ok.space)
    (at_rest c.begin.new.self) (map string_bytes c.args.names.now) c.header.result.now
    c.header-in-Ok-begin.result.now _ _
    c.bytes-first.ensures.len c.bytes-second.ensures.len plan.transfers plan.files
    (length-map c.args.names.now string_bytes ∙ c.requires.two) c.requires.held c.requires.unread all.inputs.names
    all.plan all.reads.read all.begun c.header.ensures c.header-in-Ok-begin.ensures
