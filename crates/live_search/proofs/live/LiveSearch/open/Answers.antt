use Rattle.std.proofs.Common.{refl}
use Rattle.live_search.proofs.Begun.{opened_was}
use Rattle.live_search.proofs.live.LiveSearch.open.Goals as goal

pub returns-in-Ok-clause-opened : goal.returns-in-Ok-clause-opened
returns-in-Ok-clause-opened c =
    opened_was _ _ _ c.requires.task c.in-Ok.ensures refl c.spectrum_size.ensures.value refl refl refl
