use Rattle.std.proofs.Common.{ap}
use Rattle.std.specs.Prelude.{is_some}
use Rattle.psr_make.specs.Made.{made_file}
use Rattle.psr_make.proofs.Filing.{not_finished}
use Rattle.psr_make.proofs.blocks.make_file.Goals as goal

pub returns-in-Err-finish-clause-fault : goal.returns-in-Err-finish-clause-fault
returns-in-Err-finish-clause-fault g c =
    not_finished c.args.name.now (made_file c.args.maker.now.spec) (g.F.Files.seen c.args.files.now)
    (g.F.Files.seen c.create.new.self) (g.F.Files.seen c.append_file.new.files) (g.F.Files.seen c.finish.new.self)
    c.in_default.ensures.created c.in_default-append_file.ensures.appended.all c.in-Err-finish.ensures.failed
    (λ left is.
    let served = c.in-Err-finish.ensures.serves (ap is_some is) in
    absurd cc)
