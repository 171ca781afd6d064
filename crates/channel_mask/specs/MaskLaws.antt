-- A law of masks; a function of this crate carries it.
-- Source: this project's choice.
use Rattle.std.specs.Prelude.{◌≡◌, ℕ, Bool, List}
use Rattle.dada_model.specs.Observation.{Observation}
use Rattle.channel_mask.specs.Masks.{IsMaskOf, ExplainsMask}
use Rattle.channel_mask.specs.declared.fault.MaskFault.{MaskFault}
use Rattle.channel_mask.specs.declared.fault.MaskFault.TheVariants.{Memory}

-- a text that is a mask of an observation is refused for no cause but want of memory
abbrev pub MasksAreNotRefused : Type 0
MasksAreNotRefused = (o : Observation) (text : List ℕ) (mask : List Bool) (fault : MaskFault) →
    IsMaskOf o text mask → ExplainsMask o text fault → fault ≡ Memory
