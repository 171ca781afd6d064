-- How a stop is answered.
-- Source: this project's choice.
use Rattle.std.specs.Prelude.{ℕ}
use Rattle.psr_demo.specs.declared.stop.Stop.{Stop}
use Rattle.psr_demo.specs.declared.stop.Stop.TheVariants.{Words, Memory, SinkFault}

-- the exit status
abbrev pub status_of : Stop → ℕ
status_of Words = 2
status_of Memory = 5
status_of SinkFault = 10
