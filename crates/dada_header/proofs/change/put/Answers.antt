use Rattle.dada_header.proofs.Edits.{put_is}
use Rattle.dada_header.proofs.change.put.Goals as goal

pub returns : goal.returns
returns c = put_is c.args.place c.args.piece.now c.args.bytes.now c.copy_from_slice.new.self c.requires
    c.copy_from_slice.ensures.after
