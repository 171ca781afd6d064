-- The ends of a feeder that the walk of its files gives.
-- Source: this project's profile.
use Rattle.std.specs.Prelude.{◌≡◌, ℕ, ⊤, Option, Some, None}
use Rattle.dada_model.specs.Fields.{HeaderRefusal, ShortHeader, BadHeaderSize, NotTextAt}
use Rattle.dada_header.specs.declared.faults.HeaderFault.{HeaderFault}
use Rattle.dada_header.specs.declared.faults.HeaderFault.TheVariants.{Short, NotText, BadSize}
use Rattle.stream_model.specs.Walk as walk
use Rattle.stream_model.specs.Walk.{WalkStop}
use Rattle.disk_feeder.specs.declared.answers.HeaderCause.TheVariants.{Text, Fields}
use Rattle.disk_feeder.specs.declared.answers.FeedEnd.{FeedEnd}
use Rattle.disk_feeder.specs.declared.answers.FeedEnd.TheVariants.{Whole, ReadFault, BadHeader, Gap, TooLong}

abbrev pub fault_of : HeaderRefusal → HeaderFault
fault_of (ShortHeader had) = Short had
fault_of BadHeaderSize = BadSize
fault_of (NotTextAt place) = NotText place

-- the end at a stop of the walk, where there are so many data bytes in all, and so many are allowed
abbrev pub end_of : ℕ → ℕ → WalkStop → FeedEnd
end_of bytes limit walk.Whole = Whole bytes
end_of bytes limit (walk.BadText file refusal) = BadHeader file (Text (fault_of refusal))
end_of bytes limit (walk.BadFields file fault) = BadHeader file (Fields fault)
end_of bytes limit (walk.Gap file expected found) = Gap file expected found
end_of bytes limit (walk.TooLong file) = TooLong limit

-- it is the end at this stop, however many bytes there are and are allowed
abbrev pub IsStop : Option WalkStop → FeedEnd → Type 0
IsStop None end = ⊥
IsStop (Some stop) end = (bytes limit : ℕ) → end ≡ end_of bytes limit stop

-- an end names this file, if it names one
abbrev pub NamesPlace : FeedEnd → ℕ → Type 0
NamesPlace (BadHeader k cause) file = k ≡ file
NamesPlace (Gap k expected found) file = k ≡ file
NamesPlace end file = ⊤

-- the end that a header gives
abbrev pub IsOfHeader : FeedEnd → Type 0
IsOfHeader (Whole bytes) = ⊥
IsOfHeader ReadFault = ⊥
IsOfHeader (BadHeader file cause) = ⊤
IsOfHeader (Gap file expected found) = ⊤
IsOfHeader (TooLong limit) = ⊥
