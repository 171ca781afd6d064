-- A feeder at rest: its space alone, to which inputs are lent at each turn. It is seen as the feeder of that space over
-- what is lent to it, whose relations speak of its stream.
-- Source: this project's profile.
use Rattle.std.specs.Prelude.{◌≡◌, ℕ, ◌≤◌, ⊤}
use Rattle.psr_base.specs.Told.{Told}
use Rattle.dada_hdu.specs.declared.hdu.Hdu.{Hdu}
use Rattle.dada_hdu.specs.declared.passes.HduWriter.{HduWriter}
use Rattle.disk_feeder.specs.declared.feeder.Feeder.{Feeder}
use Rattle.disk_feeder.specs.declared.feeder.FeederSpace.{FeederSpace}
use Rattle.disk_feeder.specs.declared.stream.Stream.{Stream}
use Rattle.disk_feeder.specs.Turns.{sealed_headers, sealed_blocks}
use Rattle.disk_feeder.specs.Feeder.{HasOpenFile, plan_at, block_size, FeederFits, FeederFeeds, FeederSince, FeederFaultless, FeederMisses, FeederUnopened, FeederRead}

-- the stream of a space
abbrev pub stream_in : FeederSpace → Stream
stream_in space = space.stream

-- the feeder of a space over these inputs; where they lie plays no part
abbrev pub feeder_over : {I : Type 0} → I → FeederSpace → Feeder I
feeder_over lent space = record {
  inputs = record { ref_ptr = (0, 0); ghost_name = 0; now = lent };
  stream = stream_in space;
}

-- a space as a feeder to which nothing is lent
abbrev pub at_rest : FeederSpace → Feeder ⊤
at_rest space = feeder_over tt space

-- A feeder of these rings stands for what its pass sealed. In this and the next: what inputs tell, whether a name is
-- open, whether they are calm, and how many calls have failed.
pub record FeederStands {I : Type 0} (told : I → Told) (is_open : I → Type 0) (hdu : Hdu)
    (f : Feeder I) (pass : HduWriter) : Type 0 where
  pub fits : FeederFits hdu f
  pub file : HasOpenFile f → is_open f.inputs.now
  pub feeding : FeederFeeds (told f.inputs.now) f (sealed_headers pass) (sealed_blocks pass)

-- what a turn of a feeder keeps
pub record FeederKept {I : Type 0} (told : I → Told) (is_calm : I → Type 0) (faults : I → ℕ)
    (old new : Feeder I) : Type 0 where
  pub plan : plan_at new ≡ plan_at old
  pub size : block_size new ≡ block_size old
  pub names : (told new.inputs.now).bytes_under ≡ (told old.inputs.now).bytes_under
  pub count : faults old.inputs.now ≤ faults new.inputs.now
  pub quiet : FeederFaultless new → faults new.inputs.now ≡ faults old.inputs.now
  pub since : (k : ℕ) → FeederSince k (faults old.inputs.now) old →
      FeederSince k (faults new.inputs.now) new
  pub reads_on : (before : Told) → FeederRead before (told old.inputs.now) old →
      FeederRead before (told new.inputs.now) new
  pub calm : is_calm old.inputs.now → is_calm new.inputs.now
  pub missing : is_calm old.inputs.now → FeederMisses (told old.inputs.now) old →
      FeederMisses (told new.inputs.now) new
  pub unopened : is_calm old.inputs.now → (before : Told) →
      FeederRead before (told old.inputs.now) old →
      FeederUnopened before (told old.inputs.now) old →
      FeederUnopened before (told new.inputs.now) new
