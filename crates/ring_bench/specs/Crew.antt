-- Which ring the readers are of.
-- Source: this project's choice.
use Rattle.std.specs.Prelude.{◌≤◌, vec_len}
use Rattle.ring_ends.specs.declared.ring.Ring.{Ring}
use Rattle.ring_ends.specs.Passes.{ring_shape, ReadsFrom, EndedFrom}
use Rattle.ring_bench.specs.declared.crew.Job.{Job}
use Rattle.ring_bench.specs.declared.crew.Done.{Done}

-- the job is one at this ring, with space for its blocks
abbrev pub IsAt : Ring → Job → Type 0
IsAt ring job = ReadsFrom ring job.pass × ((ring_shape ring).size ≤ vec_len job.into)

-- the reader is one of this ring
abbrev pub IsBack : Ring → Done → Type 0
IsBack ring done = EndedFrom ring done.reader
