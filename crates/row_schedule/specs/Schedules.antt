-- What contracts see of a schedule.
-- Source: this project's choice.
use Rattle.std.specs.Prelude.{◌≡◌, ℕ, Bool, List}
use Rattle.row_model.specs.declared.Rows.{Rows}
use Rattle.row_schedule.specs.declared.builder.Order.{Order}
use Rattle.row_schedule.specs.declared.step.Step.{Step}
use Rattle.row_schedule.specs.Orders.{AreInOrder}

-- orders so far, over rows and slots of 16 or 32 bits
pub record Building : Type 0 where
  pub narrow : List Bool
  pub slots : List Bool
  pub orders : List Order

abbrev pub building : List Bool → List Bool → List Order → Building
building narrow slots orders = record { narrow = narrow; slots = slots; orders = orders }

-- its orders can be carried out one after another
abbrev pub IsInOrder : Rows → Building → Type 0
IsInOrder rows b = AreInOrder rows b.narrow b.slots b.orders

-- A schedule makes rows over up to `most` spectra at a time. The samples of a channel begin `chunk`
-- places after those of the one before. `places` has where each slot begins in the list of its
-- width, `held` where what is kept of each row begins, and `steps` for each order which values are
-- read and written. The sizes are the smallest lengths of the lists.
pub record Scheduled : Type 0 where
  pub channels : ℕ
  pub chunk : ℕ
  pub most : ℕ
  pub narrow : List Bool
  pub slots : List Bool
  pub orders : List Order
  pub places : List ℕ
  pub held : List ℕ
  pub steps : List Step
  pub narrow_size : ℕ
  pub wide_size : ℕ
  pub kept_narrow_size : ℕ
  pub kept_wide_size : ℕ

abbrev pub scheduled : ℕ → ℕ → ℕ → List Bool → List Bool → List Order → List ℕ → List ℕ →
    List Step → ℕ → ℕ → ℕ → ℕ → Scheduled
scheduled channels chunk most narrow slots orders places held steps narrow_size wide_size
    kept_narrow_size kept_wide_size = record {
      channels = channels;
      chunk = chunk;
      most = most;
      narrow = narrow;
      slots = slots;
      orders = orders;
      places = places;
      held = held;
      steps = steps;
      narrow_size = narrow_size;
      wide_size = wide_size;
      kept_narrow_size = kept_narrow_size;
      kept_wide_size = kept_wide_size;
    }

-- a schedule of these orders, for up to `most` spectra at a time of `channels` channels, whose
-- samples begin `chunk` places apart
pub record HasParts (b : Building) (channels chunk most : ℕ) (s : Scheduled) : Type 0 where
  pub narrow : s.narrow ≡ b.narrow
  pub slots : s.slots ≡ b.slots
  pub orders : s.orders ≡ b.orders
  pub channels_are : s.channels ≡ channels
  pub chunk_is : s.chunk ≡ chunk
  pub most_is : s.most ≡ most
