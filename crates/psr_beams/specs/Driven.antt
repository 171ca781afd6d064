-- What a search of several beams leaves, from its settings to its end.
-- Source: this project's choice.
use Rattle.std.specs.Prelude.{◌≡◌, ◌≢◌, ℕ, ◌<◌, ◌≤◌, ◌⊎◌, ⊤, List, length, slice_index_or, Option, Some, None, IsSome, Ok}
use Rattle.psr_base.specs.Inputs.{HasReadFrom}
use Rattle.psr_base.specs.Told.{Told, OfFile}
use Rattle.psr_base.specs.Written.{SinkSeen}
use Rattle.dada_model.specs.Fields.{HeaderText, header_of}
use Rattle.dada_model.specs.Observation.{Observation}
use Rattle.search_model.specs.Plan.{plan_refusal}
use Rattle.search_words.specs.Settings.{SettingsSeen}
use Rattle.stream_model.specs.Walk.{data_of, walk_stop}
use Rattle.disk_feeder.specs.declared.answers.FeedEnd.TheVariants.{Whole, ReadFault, TooLong}
use Rattle.disk_feeder.specs.Ends.{end_of}
use Rattle.beam_set.specs.declared.ended.BeamEnd.{BeamEnd}
use Rattle.beam_set.specs.Laws.{HoldsData}
use Rattle.run_outcome.specs.declared.stop.Stop.{Stop}
use Rattle.psr_beams.specs.Files.{beam_name, stream_of_one, IsReadOn}
use Rattle.psr_beams.specs.Feeders.{AreRead, StopsReading}
use Rattle.psr_beams.specs.Judged.{AreOfOne}
use Rattle.psr_beams.specs.Opened.{StopsOpening}
use Rattle.psr_beams.specs.Ends.{EndsBeams}

-- ---- once all beams have ended. In the following: what inputs tell, whether they are calm, how many calls have
-- failed.

-- A beam of this observation came to this end, over inputs that were before and are after: that of the walk of its
-- file, or a fault of these inputs. Where its data are too many, the limit is that of the settings. Where all went
-- through, its book is that of them, and it counted their spectra.
pub record HasCome {I : Type 0} (told : I → Told) (is_calm : I → Type 0) (faults : I → ℕ)
    (s : SettingsSeen) (o : Observation) (name : List ℕ) (before after : I) (end : BeamEnd) :
    Type 0 where
  pub read : HasReadFrom told is_calm faults (end.feed ≡ ReadFault) before after
  pub serves : is_calm before → IsSome ((told before).bytes_under name) → end.feed ≢ ReadFault
  pub walked : end.feed ≢ ReadFault → OfFile (told before) name (λ file. (bytes : ℕ)
      × (end.feed ≡ end_of bytes s.max_bytes (walk_stop (stream_of_one s file))))
  pub limit : (limit : ℕ) → end.feed ≡ TooLong limit → limit ≡ s.max_bytes
  pub bytes : List ℕ
  pub held : (n : ℕ) → end.feed ≡ Whole n → HoldsData o s.search bytes (Some end)
  pub known : (n : ℕ) → end.feed ≡ Whole n → OfFile (told before) name (λ file.
      bytes ≡ data_of file)

abbrev pub HasSlotCome : {I : Type 0} → (I → Told) → (I → Type 0) → (I → ℕ) → SettingsSeen →
    Observation → List ℕ → I → I → Option BeamEnd → Type 0
HasSlotCome told is_calm faults s o name before after None = ⊥
HasSlotCome told is_calm faults s o name before after (Some end) =
    HasCome told is_calm faults s o name before after end

-- so did each beam; other inputs stand
pub record HaveCome {I : Type 0} (told : I → Told) (is_calm : I → Type 0) (faults : I → ℕ)
    (s : SettingsSeen) (o : Observation) (count : ℕ) (before after : List I)
    (ends : List (Option BeamEnd)) : Type 0 where
  pub many : length ends ≡ count
  pub lent : length after ≡ length before
  pub each : (k : ℕ) (x : I) → k < count → HasSlotCome told is_calm faults s o (beam_name s k)
      (slice_index_or before k x) (slice_index_or after k x) (slice_index_or ends k None)
  pub others : (k : ℕ) (x : I) → count ≤ k → slice_index_or after k x ≡ slice_index_or before k x

-- a beam that ended at a fault of its inputs had its header read, and maybe more of its file, within the limit
abbrev pub SlotBreaks : ℕ → Told → Told → List ℕ → Told → Option BeamEnd → Type 0
SlotBreaks limit start before name after None = ⊤
SlotBreaks limit start before name after (Some end) = end.feed ≡ ReadFault →
    OfFile before name (λ file. IsReadOn limit name file start after)

-- so did each, over what inputs told at its start, before its turns and after them
abbrev pub HaveBroken : {I : Type 0} → (I → Told) → SettingsSeen → ℕ → List I → List I → List I →
    List (Option BeamEnd) → Type 0
HaveBroken {I} told s count starts before after ends = (k : ℕ) (x : I) → k < count →
    SlotBreaks s.max_bytes (told (slice_index_or starts k x)) (told (slice_index_or before k x))
    (beam_name s k) (told (slice_index_or after k x)) (slice_index_or ends k None)

-- ---- the whole

-- these are the headers of the files of so many beams
pub record AreHeaders {I : Type 0} (told : I → Told) (s : SettingsSeen) (count : ℕ) (lent : List I)
    (headers : ℕ → Option HeaderText) : Type 0 where
  pub there : (k : ℕ) → k < count → IsSome (headers k)
  pub each : (k : ℕ) (x : I) (h : HeaderText) → k < count → headers k ≡ Some h →
      OfFile (told (slice_index_or lent k x)) (beam_name s k) (λ file. header_of file ≡ Ok h)

-- all headers were read
pub record ReadsAll {I : Type 0} (told : I → Told) (is_calm : I → Type 0) (faults : I → ℕ)
    (s : SettingsSeen) (before after : List I) (headers : ℕ → Option HeaderText) : Type 0 where
  pub read : AreRead told is_calm faults s (length s.names) before after
  pub are : AreHeaders told s (length s.names) before headers

-- a search was not opened
pub record IsNotOpened {I : Type 0} (told : I → Told) (is_calm : I → Type 0) (faults : I → ℕ)
    (s : SettingsSeen) (before after : List I) (stop : Stop) : Type 0 where
  pub headers : ℕ → Option HeaderText
  pub read : ReadsAll told is_calm faults s before after headers
  pub stops : StopsOpening s.search headers (length s.names) stop

-- a search went to the end of all beams
pub record GoesThrough {I : Type 0} (told : I → Told) (is_calm : I → Type 0) (faults : I → ℕ)
    (s : SettingsSeen) (within more : ℕ) (before after : List I) (out_before out_after : SinkSeen)
    (stop : Option Stop) : Type 0 where
  pub headers : ℕ → Option HeaderText
  pub mid : List I
  pub read : ReadsAll told is_calm faults s before mid headers
  pub observation : Observation
  pub accepted : AreOfOne headers (length s.names) observation
  pub fits : plan_refusal observation s.search ≡ None
  pub ends : List (Option BeamEnd)
  pub come : HaveCome told is_calm faults s observation (length s.names) mid after ends
  pub broken : HaveBroken told s (length s.names) before mid after ends
  pub ended : EndsBeams observation s.search within more ends out_before out_after stop

-- a header could not be read; the search was not opened; or it went through
abbrev pub IsDriven : {I : Type 0} → (I → Told) → (I → Type 0) → (I → ℕ) → SettingsSeen → ℕ → ℕ →
    List I → List I → SinkSeen → SinkSeen → Option Stop → Type 0
IsDriven told is_calm faults s within more before after out out' stop =
    ((early : Stop) × (stop ≡ Some early)
    × StopsReading told is_calm faults s before after early × (out' ≡ out))
    ⊎ (((early : Stop) × (stop ≡ Some early)
    × IsNotOpened told is_calm faults s before after early × (out' ≡ out))
    ⊎ GoesThrough told is_calm faults s within more before after out out' stop)
