use Rattle.std.proofs.Common.{◌∙◌, ◌∷◌, [], ap, arith, length, length-append, lit<}
use Rattle.psr_base.proofs.fixed.push_unsigned.Goals as goal

pub push_padded-requires-clause-room : goal.push_padded-requires-clause-room
push_padded-requires-clause-room c =
    let before = c.push_str.ensures.len in
    let fits = c.format.ensures.fits in
    let point = ap length (c.push.ensures.ascii (lit< tt)) ∙ length-append c.push_str.new.self.bytes (46 ∷ []) in
    omega arith
