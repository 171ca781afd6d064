-- What a feeder of a session has sealed, and what its turns did.
-- Source: this project's choice.
use Rattle.std.specs.Prelude.{◌≡◌, ℕ, zero, suc, ◌+◌, ◌<◌, ◌≤◌, ◌^◌, min, Option, None, IsSome}
use Rattle.psr_base.specs.Told.{Told}
use Rattle.ring_core.specs.Machine.{greatest}
use Rattle.dada_hdu.specs.declared.hdu.Hdu.{Hdu}
use Rattle.dada_hdu.specs.declared.passes.HduWriter.{HduWriter}
use Rattle.dada_hdu.specs.Passes.{WritesBoth}
use Rattle.disk_feeder.specs.declared.answers.FeedEnd.{FeedEnd}
use Rattle.disk_feeder.specs.declared.answers.FeedTurn.{FeedTurn}
use Rattle.disk_feeder.specs.Feeder.{HasOpenFile, has_end, block_size, plan_at, FeederFits, FeederFeeds, FeederSince, FeederMisses, FeederUnopened, FeederRead}
use Rattle.disk_feeder.specs.Turns.{TurnAnswers, sealed_headers, sealed_blocks}
use Rattle.search_session.specs.declared.feed.FeedActor.{FeedActor}

-- one write, with which the stream came to this end, or to none: a block of one ring was sealed, or that ring was found
-- full
pub record HasWritten (old new : HduWriter) (end : Option FeedEnd) : Type 0 where
  pub answer : FeedTurn
  pub did : TurnAnswers old new end answer

-- n of them, one after another, and none after an end: the stream had come to the first end, or to none, and came to
-- the second
unfoldable pub Writes : ℕ → HduWriter → Option FeedEnd → HduWriter → Option FeedEnd → Type 0
Writes zero old before new after = (new ≡ old) × (after ≡ before)
Writes (suc n) old before new after =
    (mid : HduWriter) × Writes n old before mid None × HasWritten mid new after

-- A feeder of these rings stands for the lists that its pass sealed, and has ended where its part has. In these and the
-- following: what inputs tell, whether a name is open, whether they are calm, and how many calls have failed.
pub record FeedOn {I : Type 0} (told : I → Told) (is_open : I → Type 0) (hdu : Hdu)
    (f : FeedActor I) : Type 0 where
  pub writes : WritesBoth hdu f.pass
  pub fits : FeederFits hdu f.part
  pub file : HasOpenFile f.part → is_open f.part.inputs.now
  pub feeding : FeederFeeds (told f.part.inputs.now) f.part (sealed_headers f.pass)
      (sealed_blocks f.pass)
  pub end : f.end ≡ has_end f.part
  pub count : f.turns < 2 ^ 64

-- what the turns of a feeder keep of its inputs
pub record InputsKept {I : Type 0} (told : I → Told) (is_calm : I → Type 0) (faults : I → ℕ)
    (f g : FeedActor I) :
    Type 0 where
  pub same_reference : g.part.inputs.ghost_name ≡ f.part.inputs.ghost_name
  pub names : (told g.part.inputs.now).bytes_under ≡ (told f.part.inputs.now).bytes_under
  pub count : faults f.part.inputs.now ≤ faults g.part.inputs.now
  pub since : (k : ℕ) → FeederSince k (faults f.part.inputs.now) f.part →
      FeederSince k (faults g.part.inputs.now) g.part
  pub reads_on : (before : Told) → FeederRead before (told f.part.inputs.now) f.part →
      FeederRead before (told g.part.inputs.now) g.part
  pub calm : is_calm f.part.inputs.now → is_calm g.part.inputs.now
  pub missing : is_calm f.part.inputs.now → FeederMisses (told f.part.inputs.now) f.part →
      FeederMisses (told g.part.inputs.now) g.part
  pub unopened : is_calm f.part.inputs.now → (before : Told) →
      FeederRead before (told f.part.inputs.now) f.part →
      FeederUnopened before (told f.part.inputs.now) f.part →
      FeederUnopened before (told g.part.inputs.now) g.part

-- n turns of a feeder, or fewer where it ended: each made one write, and none came once it had ended
pub record FeedMoved {I : Type 0} (told : I → Told) (is_calm : I → Type 0) (faults : I → ℕ) (n : ℕ)
    (f g : FeedActor I) : Type 0 where
  pub inputs : InputsKept told is_calm faults f g
  pub plan : plan_at g.part ≡ plan_at f.part
  pub size : block_size g.part ≡ block_size f.part
  pub made : ℕ
  pub most : made ≤ n
  pub all : g.end ≡ None → made ≡ n
  pub none : IsSome f.end → made ≡ 0
  pub stays : IsSome f.end → g.end ≡ f.end
  pub turns : g.turns ≡ min greatest (f.turns + made)
  pub writes : Writes made f.pass f.end g.pass g.end
