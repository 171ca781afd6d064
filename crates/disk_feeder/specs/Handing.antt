-- Blocks that a feeder hands out, in place of sealing them in a ring.
-- Source: this project's profile.
use Rattle.std.specs.Prelude.{ℕ, List, [], ◌∷◌, ◌++◌, take}
use Rattle.psr_base.specs.Told.{Told}
use Rattle.ring_blocks.specs.declared.Entry.{Entry}
use Rattle.dada_hdu.specs.Answers.{entry}
use Rattle.disk_feeder.specs.declared.answers.Handed.{Handed}
use Rattle.disk_feeder.specs.declared.feeder.Feeder.{Feeder}
use Rattle.disk_feeder.specs.declared.stream.Stream.{Stream}
use Rattle.disk_feeder.specs.Feeding.{IsRunning, IsFeeding}

-- what is handed out of a block that has these bytes
abbrev pub handed_entry : Handed → List ℕ → Entry
handed_entry handed block = entry handed.mark (take handed.used block)

-- a stream stands for these blocks of data, with as many headers as come with them
abbrev pub IsHanding : Stream → Told → List Entry → Type 0
IsHanding s told blocks = (headers : List Entry) × IsFeeding s told headers blocks

-- a call that reads nothing: the block that it hands out comes behind those that the stream stood for
abbrev pub Hands : Stream → Stream → Handed → Type 0
Hands old new handed = (told : Told) (headers blocks : List Entry) →
    IsRunning old told headers blocks →
    IsFeeding new told headers (blocks ++ handed_entry handed new.block.items ∷ [])

-- a feeder has handed out these blocks of data
abbrev pub FeederHands : {I : Type 0} → Told → Feeder I → List Entry → Type 0
FeederHands told f blocks = IsHanding f.stream told blocks

-- the space of its block
abbrev pub block_of : {I : Type 0} → Feeder I → List ℕ
block_of f = f.stream.block.items
