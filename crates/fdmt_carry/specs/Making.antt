-- What calls on tables leave, and what is read of them.
-- Source: this project's choice.
use Rattle.std.specs.Prelude.{◌≡◌, ℕ, ◌+◌, ◌*◌, ◌^◌, ◌<◌, ◌≤◌, true, false, List, length, slice_index}
use Rattle.band_paths.specs.Edges.{channels_of}
use Rattle.row_model.specs.Sums.{is_narrow}
use Rattle.row_schedule.specs.declared.halves.Halves.{Halves}
use Rattle.row_schedule.specs.Halves.{half_sum}
use Rattle.row_schedule.specs.Orders.{order_at}
use Rattle.row_schedule.specs.Running.{Stores}
use Rattle.search_model.specs.Samples.{Filterbank}
use Rattle.search_model.specs.Sums.{path_sum}
use Rattle.search_model.specs.Subbands.{node_sum}
use Rattle.subband_plan.specs.Nodes.{HasRow, root}
use Rattle.subband_plan.specs.Rows.{IsRow}
use Rattle.subband_plan.specs.Values.{AreAtMost}
use Rattle.fdmt_carry.specs.declared.passing.Passing.{Passing}
use Rattle.fdmt_carry.specs.Orders.{band_row}
use Rattle.fdmt_carry.specs.Tables.{Tables, AreSamples, TablesStand, node_of}
use Rattle.fdmt_carry.specs.Passing.{AreKept, HasBandRow, HasDone, IsPassOf, stop_at}
use Rattle.fdmt_carry.specs.Carrying.{IsStream}

-- A pass is made for samples up to m, and no sample of a stream before spectrum e is greater.
pub record AreFit (t : Tables) (pass : Passing) (f : Filterbank) (m e : ℕ) : Type 0 where
  pub pass_is : IsPassOf t m pass
  pub channels : f.channels ≡ channels_of t.plan.edges
  pub small : AreAtMost f e m

-- the samples of the next spectra of a stream, from spectrum u on, fit a pass
pub record AreTaken (t : Tables) (pass : Passing) (f : Filterbank) (m u spectra : ℕ)
    (samples : List ℕ) : Type 0 where
  pub fit : AreFit t pass f m (u + spectra)
  pub samples_are : AreSamples t f u spectra samples

-- the tables of all nodes stand, and what is kept is of the next spectra too
pub record AreFilled (t : Tables) (pass : Passing) (f : Filterbank) (u spectra : ℕ) (st : Stores) :
    Type 0 where
  pub kept : AreKept t pass f (u + spectra) st
  pub stands : TablesStand t f u spectra st

-- the next spectra were taken
abbrev pub Fills : Tables → Passing → ℕ → List ℕ → Stores → Stores → Type 0
Fills t pass spectra samples old new = (f : Filterbank) (m u : ℕ) →
    AreTaken t pass f m u spectra samples → AreKept t pass f u old →
    AreFilled t pass f u spectra new

-- a pass carries out its orders from `from` up to, but without, `to`
abbrev pub CarriesOut : Tables → Passing → ℕ → ℕ → ℕ → List ℕ → Stores → Stores → Type 0
CarriesOut t pass from to spectra samples old new = (f : Filterbank) (m u : ℕ) →
    AreTaken t pass f m u spectra samples → HasDone t pass f u spectra from old →
    HasDone t pass f u spectra to new

-- a pass goes on from order `from`, and then the row of delay d of the whole band stands
abbrev pub MakesBandRow : Tables → Passing → ℕ → ℕ → ℕ → List ℕ → Stores → Stores → Type 0
MakesBandRow t pass d from spectra samples old new = (f : Filterbank) (m u : ℕ) →
    AreTaken t pass f m u spectra samples → HasDone t pass f u spectra from old →
    HasBandRow t pass f u spectra d new

-- what was kept for one pass is kept for another
abbrev pub KeepsFor : Tables → Passing → Passing → Stores → Stores → Type 0
KeepsFor t pass next old new = (f : Filterbank) (m u : ℕ) → AreFit t next f m u →
    AreKept t pass f u old → AreKept t next f u new

-- if no sample is above m, every sum fits into 32 bits
abbrev pub SumsFit : Tables → ℕ → Type 0
SumsFit t m = m * (channels_of t.plan.edges + t.plan.last) < 2 ^ 32

-- An order of a pass makes the row of delay d of the whole band, in 32 bits. It comes after the stop
-- before that row, and is the last one before the next stop.
pub record ShowsRow (t : Tables) (pass : Passing) (d order : ℕ) : Type 0 where
  pub within : order < length pass.schedule.orders
  pub before : stop_at t pass d ≤ order
  pub stop : stop_at t pass (d + 1) ≡ order + 1
  pub row : (order_at pass.schedule.orders order).row ≡ band_row t.plan t.rows d
  pub is_row : IsRow t.rows 0 d (band_row t.plan t.rows d)
  pub width : is_narrow pass.schedule.narrow (order_at pass.schedule.orders order).row ≡ false

-- the next order of a pass makes the row of delay d of the whole band, and can be left out
pub record CanLeaveOut (t : Tables) (pass : Passing) (d done : ℕ) : Type 0 where
  pub row : HasRow (root t.plan) d
  pub shows : ShowsRow t pass d done
  pub last : pass.can_leave_out ≡ true

-- the sums of two halves are the path sums of delay d, if the next order adds these halves
abbrev pub AddUpToRow : Tables → Passing → ℕ → ℕ → ℕ → Stores → Halves → Type 0
AddUpToRow t pass d done spectra st halves = (f : Filterbank) (m u k : ℕ) →
    AreFit t pass f m (u + spectra) → HasDone t pass f u spectra done st → k < spectra →
    half_sum halves k ≡ path_sum f t.plan.edges (u + k) d

-- a row is that of delay d of the whole band, which stands
abbrev pub ReadsBand : Tables → Passing → ℕ → ℕ → List ℕ → List ℕ → Type 0
ReadsBand t pass d spectra wide row = (f : Filterbank) (m u k : ℕ) (st : Stores) → SumsFit t m →
    IsStream t.plan m f → st.wide ≡ wide → HasBandRow t pass f u spectra d st → k < spectra →
    slice_index row k ≡ path_sum f t.plan.edges (u + k) d

-- a row is that of delay d of node k
abbrev pub ReadsNode : Tables → ℕ → ℕ → ℕ → List ℕ → List ℕ → Type 0
ReadsNode t k d spectra wide row = (f : Filterbank) (m u i : ℕ) (st : Stores) → SumsFit t m →
    IsStream t.plan m f → st.wide ≡ wide → TablesStand t f u spectra st → i < spectra →
    slice_index row i
    ≡ node_sum f t.plan.edges (node_of t k).lo (node_of t k).hi d (u + i) 0
