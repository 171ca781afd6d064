use Rattle.std.proofs.Common.{take}
use Rattle.dada_header.specs.Space.{header_in}
use Rattle.dada_header.proofs.HeaderReads.{ascii_at}
use Rattle.dada_header.proofs.header.Header.get.Goals as goal

pub ascii_text-requires : goal.ascii_text-requires
ascii_text-requires c =
    let space = c.self.inside.space.items in
    let is = c.headers_are_text.ensures
    (header_in space c.self.inside.len c.self.inside.size) c.self.invariant.read_back in
    rw c.deref.ensures.value (ascii_at (take c.self.inside.len space) c.in-Some.place is.text)
