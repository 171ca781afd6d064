-- What is seen of a sink, and what writing does to it.
-- Source: this project's choice.
use Rattle.std.specs.Prelude.{◌≡◌, ℕ, ◌-◌, ◌+◌, ◌≤◌, ◌<◌, ◌⊎◌, List, [], ◌++◌, length, Option, Result, OnOk, OnErr}
use Rattle.std.specs.Option.{option_map, ForSome}
use Rattle.std.specs.List.{flat_map, range_with_len}
use Rattle.std.specs.Io.KnownBytes.{append_known}
use Rattle.psr_base.specs.Count.{Rose}

-- the bytes written so far and the room that is left, each where it is told, and how many calls have failed
pub record SinkSeen : Type 0 where
  pub written : Option (List ℕ)
  pub room : Option ℕ
  pub faults : ℕ

-- the room that is left where n bytes of it were taken
abbrev pub room_after : ℕ → Option ℕ → Option ℕ
room_after n room = option_map (λ (left : ℕ). left - n) room

-- a text was written whole, and no call failed
pub record WroteAll (text : List ℕ) (old new : SinkSeen) : Type 0 where
  pub written : new.written ≡ append_known old.written text
  pub room : new.room ≡ room_after (length text) old.room
  pub faults : new.faults ≡ old.faults

-- a call failed, which wrote nothing
pub record WriteFails (old new : SinkSeen) : Type 0 where
  pub written : new.written ≡ old.written
  pub room : new.room ≡ old.room
  pub rose : Rose old.faults new.faults
  pub count : old.faults ≤ new.faults

-- a call failed before a text was written whole: its front was written. Room that was told was shorter than the text.
pub record WroteFront (text : List ℕ) (old new : SinkSeen) : Type 0 where
  pub front : List ℕ
  pub rest : List ℕ
  pub splits : text ≡ front ++ rest
  pub missing : 0 < length rest
  pub written : new.written ≡ append_known old.written front
  pub room : new.room ≡ room_after (length front) old.room
  pub short : ForSome old.room (λ room. room < length text)
  pub rose : Rose old.faults new.faults
  pub count : old.faults ≤ new.faults

-- a text was written, or its front at a fault
pub record Wrote {T E : Type 0} (text : List ℕ) (old new : SinkSeen)
    (result : Result T E) : Type 0 where
  pub all : OnOk result (WroteAll text old new)
  pub front : OnErr result (WroteFront text old new)

-- a line was written, or its front at a fault
abbrev pub Noted : List ℕ → SinkSeen → SinkSeen → Type 0
Noted line old new = WroteAll line old new ⊎ WroteFront line old new

-- the first n pieces, one after another
abbrev pub first_pieces : (ℕ → List ℕ) → ℕ → List ℕ
first_pieces piece n = flat_map piece (range_with_len 0 n)

-- What pieces make that are written one after another: the whole text or its front, as the last of them was written.
pub record PiecesJoin : Type 0 where
  pub nothing : (seen : SinkSeen) → WroteAll [] seen seen
  pub joins : (xs ys : List ℕ) (old middle new : SinkSeen) → WroteAll xs old middle →
      WroteAll ys middle new → WroteAll (xs ++ ys) old new
  pub stops : (xs ys : List ℕ) (old middle new : SinkSeen) → WroteAll xs old middle →
      WroteFront ys middle new → WroteFront (xs ++ ys) old new
  pub breaks_off : (xs ys : List ℕ) (old new : SinkSeen) → WroteFront xs old new →
      WroteFront (xs ++ ys) old new

-- The same in a loop over pieces 0, 1 and so on, of which there are n: one piece more, and a fault at piece i.
pub record LoopsJoin : Type 0 where
  pub one_more : (piece : ℕ → List ℕ) (i : ℕ) (old middle new : SinkSeen) →
      WroteAll (first_pieces piece i) old middle → WroteAll (piece i) middle new →
      WroteAll (first_pieces piece (i + 1)) old new
  pub stops : (piece : ℕ → List ℕ) (i n : ℕ) (old middle new : SinkSeen) → i < n →
      WroteAll (first_pieces piece i) old middle → WroteFront (piece i) middle new →
      WroteFront (first_pieces piece n) old new
