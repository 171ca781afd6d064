use Rattle.std.proofs.Common.{sym, subst}
use Rattle.session_readers.specs.Banks.{HasEngine}
use Rattle.drive_lone.proofs.session.engine_of.Goals as goal

pub first_of-requires : goal.first_of-requires
first_of-requires c = (
  c.requires.0,
  subst (λ v. HasEngine v.items 0 c.requires.0) (sym c.deref_mut.ensures.value) c.requires.1,
)
