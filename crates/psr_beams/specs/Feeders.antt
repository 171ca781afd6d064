-- The feeders of beams, which rest once the header of each file was read.
-- Source: this project's choice.
use Rattle.std.specs.Prelude.{◌≡◌, ◌≢◌, ℕ, ◌<◌, ◌≤◌, ◌⊎◌, ⊤, List, [], ◌∷◌, length, slice_index_or, Option, Some, None, IsSome}
use Rattle.psr_base.specs.Inputs.{HasReadFrom}
use Rattle.psr_base.specs.Told.{Told, OfFile}
use Rattle.dada_header.specs.Faults.{IsHeaderRefusal}
use Rattle.search_words.specs.Settings.{SettingsSeen}
use Rattle.disk_feeder.specs.declared.answers.HeaderCause.TheVariants.{Text}
use Rattle.disk_feeder.specs.declared.answers.FeedFault.{FeedFault}
use Rattle.disk_feeder.specs.declared.answers.FeedFault.TheVariants as fault
use Rattle.disk_feeder.specs.declared.feeder.FeederSpace.{FeederSpace}
use Rattle.disk_feeder.specs.Feeder.{HasPlan, IsBegun, HasOpenFile, FeederRead}
use Rattle.disk_feeder.specs.Front.{BreaksAt}
use Rattle.disk_feeder.specs.Resting.{at_rest}
use Rattle.run_outcome.specs.declared.stop.Stop.{Stop}
use Rattle.run_outcome.specs.declared.stop.Stop.TheVariants.{Header, Memory, ReadFault}
use Rattle.run_outcome.specs.Conversions.{stop_of_header}
use Rattle.run_outcome.specs.Firsts.{HasHeader}
use Rattle.psr_beams.specs.Files.{beam_name, header_read}

-- ---- one beam. Here and in the following: what inputs tell, whether a name is open, whether they are calm, how many
-- calls have failed; and the inputs before and after.

-- the header of a file that is told was read, and no byte past it
abbrev pub LeavesData : Told → List ℕ → Told → Type 0
LeavesData before name after = OfFile before name (λ file. after ≡ header_read name file before)

-- a feeder reads the one file of a beam, of which it has read the header
pub record HasBegun {I : Type 0} (told : I → Told) (is_open : I → Type 0) (s : SettingsSeen)
    (name : List ℕ) (before lent : I) (space : FeederSpace) : Type 0 where
  pub plan : HasPlan (at_rest space) (name ∷ []) s.starts s.size s.max_bytes
  pub begun : IsBegun (told lent) (at_rest space)
  pub file : HasOpenFile (at_rest space) → is_open lent
  pub reads : FeederRead (told before) (told lent) (at_rest space)

abbrev pub SlotBegun : {I : Type 0} → (I → Told) → (I → Type 0) → SettingsSeen → List ℕ → I → I →
    Option FeederSpace → Type 0
SlotBegun told is_open s name before lent None = ⊥
SlotBegun told is_open s name before lent (Some space) =
    HasBegun told is_open s name before lent space

-- no call failed, and all data are left
pub record ReadsHeader {I : Type 0} (told : I → Told) (is_calm : I → Type 0) (faults : I → ℕ)
    (name : List ℕ) (before after : I) : Type 0 where
  pub read : HasReadFrom told is_calm faults ⊥ before after
  pub left : LeavesData (told before) name (told after)
  pub text : OfFile (told before) name HasHeader

-- what a stop says of the file of a beam: it has no header, where its bytes are told; others say nothing
abbrev pub SaysText : Told → List ℕ → ℕ → Stop → Type 0
SaysText told name beam (Header file (Text fault)) =
    (file ≡ beam) × OfFile told name (λ bytes. IsHeaderRefusal bytes fault)
SaysText told name beam Memory = ⊤
SaysText told name beam ReadFault = ⊤
SaysText told name beam stop = ⊥

-- the header of a beam could not be read
pub record FailsHeader {I : Type 0} (told : I → Told) (is_calm : I → Type 0) (faults : I → ℕ)
    (name : List ℕ) (beam : ℕ) (before after : I) (stop : Stop) : Type 0 where
  pub read : HasReadFrom told is_calm faults (stop ≡ ReadFault) before after
  pub serves : is_calm before → IsSome ((told before).bytes_under name) → stop ≢ ReadFault
  pub says : SaysText (told before) name beam stop
  pub unread : stop ≡ Memory → (told after ≡ told before)
      ⊎ LeavesData (told before) name (told after)
  pub broke : stop ≡ ReadFault → OfFile (told before) name (λ file.
      BreaksAt name file (told before) (told after))

-- ---- all beams

-- the headers of the first beams, so many, were read; other inputs stand
pub record AreRead {I : Type 0} (told : I → Told) (is_calm : I → Type 0) (faults : I → ℕ)
    (s : SettingsSeen) (count : ℕ) (before after : List I) : Type 0 where
  pub lent : length after ≡ length before
  pub each : (k : ℕ) (x : I) → k < count → ReadsHeader told is_calm faults (beam_name s k)
      (slice_index_or before k x) (slice_index_or after k x)
  pub others : (k : ℕ) (x : I) → count ≤ k → slice_index_or after k x ≡ slice_index_or before k x

-- these are their feeders
pub record AreBegun {I : Type 0} (told : I → Told) (is_open : I → Type 0) (s : SettingsSeen)
    (count : ℕ) (before lent : List I) (slots : List (Option FeederSpace)) : Type 0 where
  pub many : length slots ≡ count
  pub each : (k : ℕ) (x : I) → k < count → SlotBegun told is_open s (beam_name s k)
      (slice_index_or before k x) (slice_index_or lent k x) (slice_index_or slots k None)

-- the header of a beam could not be read, and those before it were
pub record StopsReading {I : Type 0} (told : I → Told) (is_calm : I → Type 0) (faults : I → ℕ)
    (s : SettingsSeen) (before after : List I) (stop : Stop) : Type 0 where
  pub beam : ℕ
  pub there : beam < length s.names
  pub lent : length after ≡ length before
  pub earlier : (k : ℕ) (x : I) → k < beam → ReadsHeader told is_calm faults (beam_name s k)
      (slice_index_or before k x) (slice_index_or after k x)
  pub fails : (x : I) → FailsHeader told is_calm faults (beam_name s beam) beam
      (slice_index_or before beam x) (slice_index_or after beam x) stop
  pub others : (k : ℕ) (x : I) → beam < k → slice_index_or after k x ≡ slice_index_or before k x

-- the stop of a beam whose header could not be read
abbrev pub stop_of_header_at : ℕ → FeedFault → Stop
stop_of_header_at beam fault.ReadFault = ReadFault
stop_of_header_at beam (fault.BadHeader file cause) = stop_of_header beam cause
