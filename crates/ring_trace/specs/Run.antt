-- The words and the statuses of the program, and what each says.
-- Source: this project's choice.
use Rattle.std.specs.Prelude.{◌≡◌, ◌≢◌, ◌⊎◌, ◌↔◌, ◌<◌, ◌≤◌, ℕ, List, [], ◌∷◌, length}
use Rattle.psr_base.specs.Count.{Rose}
use Rattle.psr_base.specs.Told.{Told, OfFile, InputsSeen, opened, moved_by, at_end, BreaksOpened}
use Rattle.psr_base.specs.Written.{SinkSeen}
use Rattle.ring_trace.specs.Trace.{AppendsAll, AppendsCut, AppendsFront}

-- P holds of the bytes of the file that the second of two words names, where those are told
abbrev pub ForFile : List (List ℕ) → Told → (List ℕ → Type 0) → Type 0
ForFile words told P = (program name : List ℕ) → words ≡ program ∷ name ∷ [] → OfFile told name P

-- a status at which nothing was written
abbrev pub IsSilent : ℕ → Type 0
IsSilent status = (status ≡ 2) ⊎ (status ≡ 5) ⊎ (status ≡ 6) ⊎ (status ≡ 8)

-- a status at which the file was read whole, and lines of it were judged
abbrev pub IsReadWhole : ℕ → Type 0
IsReadWhole status = (status ≡ 0) ⊎ (status ≡ 3) ⊎ (status ≡ 10)

abbrev pub IsStatus : ℕ → Type 0
IsStatus status = IsSilent status ⊎ IsReadWhole status

-- the file was opened once, and read to its end
abbrev pub ReadsWhole : List (List ℕ) → Told → Told → Type 0
ReadsWhole words before after = (program name : List ℕ) → words ≡ program ∷ name ∷ [] →
    OfFile before name (λ file. after ≡ at_end (moved_by (length file) (opened name before)))

-- it was opened once at most, and its end was not seen
abbrev pub ReadsSome : List (List ℕ) → Told → Told → Type 0
ReadsSome words before after = (program name : List ℕ) → words ≡ program ∷ name ∷ [] →
    OfFile before name (λ file. BreaksOpened name before after)

-- what was opened and read, by the status
pub record ReadsTrace (words : List (List ℕ)) (before after : Told) (status : ℕ) : Type 0 where
  pub none : status ≡ 2 → after ≡ before
  pub whole : IsReadWhole status → ReadsWhole words before after
  pub some : (status ≡ 6) ⊎ (status ≡ 8) → ReadsSome words before after
  pub either : status ≡ 5 → ReadsWhole words before after ⊎ ReadsSome words before after

-- the most bytes of a trace
abbrev pub most_bytes : ℕ
most_bytes = 1048576

-- The outcome of a replay for these words over these inputs, which may be calm and tell `after` at its end: how it
-- ended, by its status, what was read, what the output took, and which faults were counted.
pub record Outcome (words : List (List ℕ)) (inputs : InputsSeen) (is_calm : Type 0) (after : Told)
    (out_before out_after : SinkSeen) (status : ℕ) : Type 0 where
  -- there is no other status; 5 is want of memory
  pub known : IsStatus status
  -- the headline: the output has grown by exactly the answers to all lines of the file
  pub whole : status ≡ 0 → ForFile words inputs.told (λ file. AppendsAll file out_before out_after)
  -- by those to the lines before the first that has not its form, or by the front of them at a fault of the output
  pub cut : status ≡ 3 → ForFile words inputs.told (λ file. AppendsCut file out_before out_after)
  pub front : status ≡ 10 →
      ForFile words inputs.told (λ file. AppendsFront file out_before out_after)
  pub silent : IsSilent status → out_after ≡ out_before
  pub read : ReadsTrace words inputs.told after status
  -- 2 exactly where there are not two words; 8 only where the file is too long, and 0, 3 and 10 only where it is not
  pub words_refused : (status ≡ 2) ↔ (length words ≢ 2)
  pub too_long : status ≡ 8 → ForFile words inputs.told (λ file. most_bytes < length file)
  pub short : IsReadWhole status → ForFile words inputs.told (λ file. length file ≤ most_bytes)
  -- 6 only where the inputs failed, which calm ones that hold the file don't, and 10 only where the output failed
  pub read_fault : status ≡ 6 → Rose inputs.faults_before inputs.faults_after
  pub calm : is_calm → ForFile words inputs.told (λ file. status ≢ 6)
  pub inputs_quiet : status ≢ 6 → inputs.faults_after ≡ inputs.faults_before
  pub sink_fault : status ≡ 10 → Rose out_before.faults out_after.faults
  pub out_quiet : status ≢ 10 → out_after.faults ≡ out_before.faults
  pub inputs_count : inputs.faults_before ≤ inputs.faults_after
  pub out_count : out_before.faults ≤ out_after.faults
