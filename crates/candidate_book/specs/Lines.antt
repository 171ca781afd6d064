-- Lines that wait to be written together.
-- Source: this project's choice.
use Rattle.std.specs.Prelude.{◌≡◌, ℕ, List, ◌++◌, Result, OnOk, OnErr}
use Rattle.psr_base.specs.Written.{SinkSeen, WroteAll, WroteFront}

-- of a text, a front was written, and the rest waits
pub record Pending (text waiting : List ℕ) (old now : SinkSeen) : Type 0 where
  pub front : List ℕ
  pub splits : text ≡ front ++ waiting
  pub wrote : WroteAll front old now

-- the text waits or was written; at a fault its front was written
pub record Passed {T E : Type 0} (text waiting : List ℕ) (old now : SinkSeen)
    (result : Result T E) : Type 0 where
  pub pending : OnOk result (Pending text waiting old now)
  pub front : OnErr result (WroteFront text old now)
