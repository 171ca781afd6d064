-- What contracts see of the search for pulses.
-- Source: this project's choice.
use Rattle.std.specs.Prelude.{◌≡◌, ℕ, ◌+◌, ◌-◌, ◌*◌, ◌≤◌, ◌<◌, ◌++◌, All, List, length}
use Rattle.box_sums.specs.Tails.{RowTails, StandsForRow, IsNewest, IsKept}
use Rattle.box_sums.specs.Excess.{plain_sums}
use Rattle.box_sums.specs.Rows.{IsWidth}
use Rattle.row_schedule.specs.declared.halves.Halves.{Halves}
use Rattle.row_schedule.specs.Halves.{HaveLength}
use Rattle.search_model.specs.declared.search.Search.{Search}
use Rattle.search_model.specs.Search.{SettingsInRange}
use Rattle.shard_search.specs.declared.thresholds.Hit.{Hit}
use Rattle.shard_search.specs.declared.thresholds.BoxThresholds.{BoxThresholds}
use Rattle.shard_search.specs.Thresholds.{AreThresholds, IsHit}
use Rattle.shard_search.specs.Pulses.{first_sums, IsRowOf}
use Rattle.shard_search.specs.Sought.{Sought, CanBeSought}

-- a search of the delays from `first` up to, but without, `end`, and what is sought in their rows; its boxes over these
-- rows; and the delays and widths at which a box that ends at one of the last spectra may be detected
pub record PulseState : Type 0 where
  pub search : Search
  pub sought : Sought
  pub first : ℕ
  pub end : ℕ
  pub boxes : RowTails
  pub hits : List Hit

-- d is one of its delays
pub record SearchesDelay (p : PulseState) (d : ℕ) : Type 0 where
  pub above : p.first ≤ d
  pub below : d < p.end

-- the boxes of such a search
pub record HasBoxes (s : Search) (first end : ℕ) (b : RowTails) : Type 0 where
  pub first_row : b.first ≡ first
  pub last_row : b.last + 1 ≡ end
  pub widest : b.widest ≡ s.widest

-- what always holds, if there is room for `capacity` hits
pub record PulsesAreSound (p : PulseState) (thresholds : BoxThresholds) (capacity : ℕ)
    : Type 0 where
  pub range : SettingsInRange p.search
  pub sought : CanBeSought p.sought 4096 p.end
  pub few_delays : p.end ≤ 8193
  pub boxes : HasBoxes p.search p.first p.end p.boxes
  pub thresholds_are : AreThresholds p.search p.sought p.first p.end thresholds
  pub hits : All (IsHit p.search p.sought p.first p.end) p.hits
  pub room : 6 * (p.end - p.first) ≤ capacity

-- opened for such a search, with boxes over feeds of up to `chunk` sums of up to `bound`
pub record SearchesFor
    (p : PulseState) (s : Search) (c : Sought) (first end chunk bound : ℕ)
    : Type 0 where
  pub search_is : p.search ≡ s
  pub sought_is : p.sought ≡ c
  pub first_is : p.first ≡ first
  pub end_is : p.end ≡ end
  pub chunk_is : p.boxes.chunk ≡ chunk
  pub bound_is : p.boxes.bound ≡ bound

-- both search for the same
abbrev pub SearchAlike : PulseState → PulseState → Type 0
SearchAlike p q = SearchesFor p q.search q.sought q.first q.end q.boxes.chunk q.boxes.bound

-- where boxes are wider than one sum, xs are the values that were fed of row d
abbrev pub WideRowHas : RowTails → ℕ → List ℕ → Type 0
WideRowHas b d xs = 1 < b.widest → StandsForRow b d xs

-- the row of delay d that was taken last has the sums of a stream that end at spectrum m and after it
pub record IsTakenRow (y : ℕ → ℕ → ℕ) (b : RowTails) (d m : ℕ) (row : List ℕ) : Type 0 where
  pub values : IsRowOf y d m row
  pub newest : 1 < b.widest → IsNewest b d (length row) (first_sums y d (m + length row))

-- each row was fed with the sums of a stream that end at the first m spectra
abbrev pub RowsStandFor : (ℕ → ℕ → ℕ) → PulseState → ℕ → Type 0
RowsStandFor y p m = (d : ℕ) → SearchesDelay p d → WideRowHas p.boxes d (first_sums y d m)

-- boxes can be asked for over the row of a hit, whose last n sums end at spectrum m and after it
abbrev pub HitIsKept : (ℕ → ℕ → ℕ) → RowTails → ℕ → ℕ → Hit → Type 0
HitIsKept y b m n hit = IsKept b hit.delay n (first_sums y hit.delay (m + n))

-- a hit below delay d whose row is kept
pub record IsHitBelow (y : ℕ → ℕ → ℕ) (b : RowTails) (m n d : ℕ) (hit : Hit) : Type 0 where
  pub delay : hit.delay < d
  pub kept : HitIsKept y b m n hit

-- only hits of delay d were added
pub record AddsHitsOf (d : ℕ) (old new : List Hit) : Type 0 where
  pub more : List Hit
  pub grown : new ≡ old ++ more
  pub own : All (λ hit. hit.delay ≡ d) more

-- the sums of two halves
abbrev pub half_row : Halves → List ℕ
half_row halves = plain_sums halves.upper.now halves.lower.now

-- two halves can be taken as the next path sums of delay d
pub record CanTakeHalves (p : PulseState) (d : ℕ) (halves : Halves) : Type 0 where
  pub delay : SearchesDelay p d
  pub long : HaveLength (length halves.upper.now) halves
  pub short : length halves.upper.now ≤ p.boxes.chunk
  pub small : All (λ x. x ≤ p.boxes.bound) (half_row halves)

-- boxes can be so wide
pub record CanBeWide (b : RowTails) (w : ℕ) : Type 0 where
  pub width : IsWidth w
  pub within : w ≤ b.widest

-- thresholds can judge the boxes of a row
pub record CanJudge (b : RowTails) (first d : ℕ) (thresholds : BoxThresholds) : Type 0 where
  pub above : first ≤ d
  pub inside : length thresholds.widths.items * (d - first) + length thresholds.widths.items
      ≤ length thresholds.least_sums.items
  pub widths : All (CanBeWide b) thresholds.widths.items
