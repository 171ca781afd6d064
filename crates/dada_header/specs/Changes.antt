-- What a change of a header's field leaves.
-- Source: PSRDADA manual (a header is lines of keyword and value); how a field is changed is this project's choice.
use Rattle.std.specs.Prelude.{◌≡◌, ℕ, ◌^◌, ◌-◌, ◌+◌, ◌<◌, ◌≤◌, min, List, ◌++◌, length, take, drop, Option, Some, None}
use Rattle.dada_model.specs.Fields.{HeaderText}
use Rattle.dada_model.specs.Change.{with_value_between, blanked, line_end, field_line, changed}
use Rattle.dada_header.specs.declared.faults.SetFault.{SetFault}
use Rattle.dada_header.specs.declared.faults.SetFault.TheVariants.{Overfull}
use Rattle.dada_header.specs.declared.words.Place.{Place}

-- how a text is changed: a value is overwritten, or a line is appended
pub record IsOverwrite (key value text : List ℕ) (place : Place) : Type 0 where
  pub is : changed key value text ≡ with_value_between place.start place.end value text
  pub ordered : place.start + length value ≤ place.end
  pub within : place.end ≤ length text

abbrev pub IsAppended : List ℕ → List ℕ → List ℕ → Type 0
IsAppended key value text =
    changed key value text ≡ blanked key text ++ (line_end text ++ field_line key value)

abbrev pub IsChangePlan : List ℕ → List ℕ → List ℕ → Option Place → Type 0
IsChangePlan key value text (Some place) = IsOverwrite key value text place
IsChangePlan key value text None = IsAppended key value text

-- a piece stands at a place in bytes, which are as they were before it and after its end
pub record IsPut (place : ℕ) (piece old new : List ℕ) (last : ℕ) : Type 0 where
  pub end : last ≡ place + length piece
  pub front : take (place + length piece) new ≡ take place old ++ piece
  pub rest : drop (place + length piece) new ≡ drop (place + length piece) old

-- the text that the first bytes are has a line with another value at its end, in place of the fields with the key
pub record IsReplaced (key value : List ℕ) (len : ℕ) (old new : List ℕ) (last : ℕ) : Type 0 where
  pub end : last ≡ len + length (line_end (take len old) ++ field_line key value)
  pub front : take last new
      ≡ blanked key (take len old) ++ (line_end (take len old) ++ field_line key value)
  pub rest : drop last new ≡ drop last old

-- the text that the first bytes are is changed, and what stands after it is as it was
pub record IsEdited (key value : List ℕ) (len : ℕ) (old new : List ℕ) (last : ℕ) : Type 0 where
  pub end : last ≡ length (changed key value (take len old))
  pub front : take last new ≡ changed key value (take len old)
  pub rest : drop last new ≡ drop last old

-- a header of the same size whose text is the changed one, for which there was room
pub record IsSet (key value : List ℕ) (old new : HeaderText) : Type 0 where
  pub text : new.text ≡ changed key value old.text
  pub size : new.size ≡ old.size
  pub room : length new.text < old.size

-- the changed text fills the header or more; its length is told up to the greatest number there is
abbrev pub IsOverfull : List ℕ → List ℕ → HeaderText → SetFault → Type 0
IsOverfull key value header (Overfull need size) =
    (need ≡ min (length (changed key value header.text)) (2 ^ 64 - 1)) × (size ≡ header.size)
    × (header.size ≤ need)
