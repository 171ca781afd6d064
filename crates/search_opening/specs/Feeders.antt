-- A feeder before its first turn: the first headers of all transfers are read, and then their observations accepted.
-- Source: PSRDADA manual (a transfer is what one header describes); the order is this project's choice.
use Rattle.std.specs.Prelude.{◌≡◌, ℕ, ◌≤◌, List, [], length, take, Option}
use Rattle.psr_base.specs.Told.{Told}
use Rattle.dada_model.specs.Observation.{Observation}
use Rattle.stream_model.specs.Walk.{FileStream}
use Rattle.stream_model.specs.WalkLaws.{AreStarts}
use Rattle.disk_feeder.specs.declared.feeder.Feeder.{Feeder}
use Rattle.disk_feeder.specs.Feeder.{IsFresh, IsBegun, KeepsBegun, FeederFeeds, FeederRead, HasOpenFile, headers_of, names_at, plan_at}
use Rattle.disk_feeder.specs.Feeding.{header_entries}
use Rattle.run_outcome.specs.declared.stop.Stop.{Stop}
use Rattle.run_outcome.specs.declared.stop.Stop.TheVariants.{Memory, ReadFault}
use Rattle.run_outcome.specs.Firsts.{ReadsFirsts, BreaksFirstAt}
use Rattle.search_opening.specs.First.{OfFirsts, AreFirsts, AreFirstsAt, AreHeadersOf, AreObserved, ComesFirst, StopsFirsts}

-- P holds of the feeder's files as a walk sees them, where the first one of each transfer is told
abbrev pub OfFeeder : {I : Type 0} → Told → Feeder I → (FileStream → Type 0) → Type 0
OfFeeder told feeder P = OfFirsts told (plan_at feeder) P

-- nothing was read, transfer k begins with file `starts[k]`, of at most eight, and each has room for its header
pub record CanReadFirsts {I : Type 0} (feeder : Feeder I) (starts : List ℕ) : Type 0 where
  pub fresh : IsFresh feeder
  pub plan : (plan_at feeder).starts ≡ starts
  pub begin : AreStarts starts (length (names_at feeder))
  pub few : length starts ≤ 8
  pub headed : length (headers_of feeder) ≡ length starts

-- the first headers of a feeder's files were read, in order, and nothing else was
abbrev pub HasReadOnly : {I : Type 0} → (I → Told) → Feeder I → Feeder I → Type 0
HasReadOnly told old new = OfFeeder (told old.inputs.now) old (λ w.
    ReadsFirsts (names_at old) w (told old.inputs.now) (told new.inputs.now))

-- They were read, and these are their observations. The first file of a single transfer is open still.
pub record HasReadFirsts {I : Type 0} (told : I → Told) (is_open : I → Type 0)
    (old new : Feeder I) (observations : List (Option Observation)) : Type 0 where
  pub begun : IsBegun (told new.inputs.now) new
  pub file : HasOpenFile new → is_open new.inputs.now
  pub observed : AreObserved (headers_of new) observations
  pub headers : OfFeeder (told new.inputs.now) new (λ w. AreHeadersOf w (headers_of new))
  pub firsts : OfFeeder (told new.inputs.now) new (λ w. AreFirsts w observations)
  pub each : AreFirstsAt (told new.inputs.now) (plan_at new).names (plan_at new).starts
      (headers_of new) observations
  pub read : HasReadOnly told old new
  pub begins : FeederRead (told old.inputs.now) (told new.inputs.now) new

-- One of them is the first that is refused; or a fault came before that of some transfer was judged; or all were read,
-- and there was no memory.
pub record StopsReadingFirsts {I : Type 0} (told : I → Told) (is_calm : I → Type 0)
    (old new : Feeder I) (stop : Stop) : Type 0 where
  pub kind : ComesFirst stop
  pub stopped : StopsFirsts (told old.inputs.now) (plan_at old) stop
  pub unread : stop ≡ Memory → HasReadOnly told old new
  pub broke : stop ≡ ReadFault → BreaksFirstAt (plan_at old).names (plan_at old).starts
      (is_calm old.inputs.now) (told old.inputs.now) (told new.inputs.now)

-- The observations of all first headers were accepted: the first header is to be sealed, and no data are. Nothing was
-- read.
pub record HasAcceptedFirsts {I : Type 0} (told : I → Told) (old new : Feeder I) : Type 0 where
  pub kept : KeepsBegun old new
  pub inputs : new.inputs.now ≡ old.inputs.now
  pub feeds : FeederFeeds (told new.inputs.now) new (header_entries (take 1 (headers_of new))) []
