-- What is sought in the rows of a shard.
-- Source: this project's choice.
use Rattle.std.specs.Prelude.{◌≡◌, ℕ, ◌+◌, ◌^◌, ◌≤◌, ◌<◌, ◌&&◌, Bool, true, false, List, Option, Some, None, map, filter, max, nat_le, nat_lt}
use Rattle.search_model.specs.declared.candidate.Candidate.{Candidate}
use Rattle.search_model.specs.declared.candidate.Candidate.TheVariants.{Pulse, Fold}
use Rattle.search_model.specs.Parts.{later}
use Rattle.fold_search.specs.Cells.{CellCounts, Plain, Counted, AreFewCells, cells_by}

-- What is sought: how many cells path sums add up; the spectrum of the observation with which the
-- rows begin; and which ends are searched, as the observation counts them: those from `place` on,
-- and before the limit if there is one.
pub record Sought : Type 0 where
  pub counts : CellCounts
  pub first : ℕ
  pub place : ℕ
  pub until : Option ℕ

-- how many cells a path sum of each delay adds up
abbrev pub cells_in : Sought → ℕ → ℕ
cells_in c = cells_by c.counts

-- all ends, over a whole band of n channels
abbrev pub whole_of : ℕ → Sought
whole_of n = record { counts = Plain n; first = 0; place = 0; until = None }

-- all ends; a path sum of each delay adds up as many cells as are counted
abbrev pub counted_of : List ℕ → Sought
counted_of counts =
    record { counts = Counted counts; first = 0; place = 0; until = None }

-- the ends from `place` until `until`, over a whole band of n channels, in rows that begin with spectrum `first`
abbrev pub part_of : ℕ → ℕ → ℕ → ℕ → Sought
part_of n first place until =
    record { counts = Plain n; first = first; place = place; until = Some until }

-- what is sought, without the ends before `place`
abbrev pub sought_from : ℕ → Sought → Sought
sought_from place c = record {
  counts = c.counts;
  first = c.first;
  place = max c.place place;
  until = c.until;
}

-- whether a spectrum comes before a limit; true if there is none
abbrev pub is_before : Option ℕ → ℕ → Bool
is_before None spectrum = true
is_before (Some limit) spectrum = nat_lt spectrum limit

-- whether a pulse that ends at spectrum u of the rows is sought
abbrev pub is_sought_end : Sought → ℕ → Bool
is_sought_end c u = nat_le c.place (c.first + u) && is_before c.until (c.first + u)

-- whether a candidate of the rows is sought; each fold is
abbrev pub is_sought : Sought → Candidate → Bool
is_sought c (Pulse end _ _ _) = is_sought_end c end
is_sought c (Fold _ _ _ _ _ _) = true

-- the candidates of the rows that are sought, with their ends as the observation counts them
abbrev pub sought_of : Sought → List Candidate → List Candidate
sought_of c list = map (later c.first) (filter (is_sought c) list)

-- This can be sought in the rows of the delays below `end`: their path sums add up no more cells
-- than a path over `channels` channels has, and the rows begin so early that their ends can be
-- counted.
pub record CanBeSought (c : Sought) (channels end : ℕ) : Type 0 where
  pub cells : AreFewCells c.counts channels end
  pub early : c.first ≤ 2 ^ 61

-- of the `spectra` spectra from spectrum `start` of the rows on, exactly those from number `from`
-- up to, but without, number `to` are ends that are sought
pub record AreSoughtEnds (c : Sought) (start spectra from to : ℕ) : Type 0 where
  pub order : from ≤ to
  pub most : to ≤ spectra
  pub before : (k : ℕ) → k < from → is_sought_end c (start + k) ≡ false
  pub within : (k : ℕ) → from ≤ k → k < to → is_sought_end c (start + k) ≡ true
  pub past : (k : ℕ) → to ≤ k → k < spectra → is_sought_end c (start + k) ≡ false
