use Rattle.std.proofs.Common.{arith}
use Rattle.psr_make.proofs.Parts.{all_data}
use Rattle.psr_make.proofs.making.write_all_bytes.Goals as goal

pub returns : goal.returns
returns c =
    all_data c.args.spec.now c.args.maker.now c.write_header.new.bytes c.write.new.bytes _ c.requires.maker
    c.write_header.ensures c.write.ensures.data (omega arith)
