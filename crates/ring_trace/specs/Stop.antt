-- How a replay that ended is answered.
-- Source: this project's choice.
use Rattle.std.specs.Prelude.{ℕ, Result, Ok, Err}
use Rattle.ring_trace.specs.declared.stop.Stop.{Stop}
use Rattle.ring_trace.specs.declared.stop.Stop.TheVariants.{Words, BadLine, Memory, ReadFault, TooLong, SinkFault}

-- the exit status of a replay that came to a stop
abbrev pub status_of : Stop → ℕ
status_of Words = 2
status_of BadLine = 3
status_of Memory = 5
status_of ReadFault = 6
status_of TooLong = 8
status_of SinkFault = 10

-- and of one that answered every line or came to a stop
abbrev pub end_status : {A : Type 0} → Result A Stop → ℕ
end_status (Ok _) = 0
end_status (Err stop) = status_of stop
