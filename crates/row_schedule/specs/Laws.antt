-- How what is kept and what is running belong together.
-- Source: this project's choice.
use Rattle.std.specs.Prelude.{◌≡◌, ℕ, ◌+◌, ◌<◌, List, Bool, length, replicate}
use Rattle.row_model.specs.declared.Rows.{Rows}
use Rattle.row_model.specs.Sums.{Sums}
use Rattle.row_schedule.specs.Schedules.{Scheduled}
use Rattle.row_schedule.specs.Follows.{Follows}
use Rattle.row_schedule.specs.Orders.{order_at}
use Rattle.row_schedule.specs.Running.{Stores, Kept, IsLast, Running, stores}

-- with what is kept before spectrum u, a schedule is at its beginning: no order was carried out on
-- the spectra from u on
unfoldable pub RunningBegins : Type 0
RunningBegins = (rows : Rows) (s : Scheduled) (y : Sums) (u spectra : ℕ) (st : Stores) →
    Kept rows s.narrow y u st → Running rows s y u spectra 0 st

-- once all orders were carried out, what is kept is of the spectra up to the last ones
unfoldable pub RunningEnds : Type 0
RunningEnds = (rows : Rows) (s : Scheduled) (y : Sums) (u spectra : ℕ) (st : Stores) →
    Follows rows s → Running rows s y u spectra (length s.orders) st →
    Kept rows s.narrow y (u + spectra) st

-- an order can be left out if no row is made of its row and nothing is kept of it
unfoldable pub LastRowsAreLeftOut : Type 0
LastRowsAreLeftOut = (rows : Rows) (s : Scheduled) (y : Sums) (u spectra j : ℕ) (st : Stores) →
    IsLast rows (order_at s.orders j).row → Running rows s y u spectra j st →
    Running rows s y u spectra (j + 1) st

-- the sums that end before the first spectrum are 0
abbrev pub BeginEmpty : Sums → Type 0
BeginEmpty y = (r u late : ℕ) → u < late → y r u late ≡ 0

-- if sums that end before the first spectrum are 0, zeros are kept before it
unfoldable pub NothingKept : Type 0
NothingKept = (rows : Rows) (narrow : List Bool) (y : Sums) (a b : List ℕ) (n m : ℕ) →
    BeginEmpty y → Kept rows narrow y 0 (stores a b (replicate n 0) (replicate m 0))
