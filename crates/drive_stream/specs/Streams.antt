-- What a program makes of the data of a stream, call by call. `streams` is what stands of a header, of the data bytes
-- that were taken, of the program's state, and of the output before the first call and now; `leaves` what is left of a
-- header and of the bytes that were handed to it, by its ending, from the output before the first call to that after
-- the last.
-- Source: this project's choice.
use Rattle.std.specs.Prelude.{ℕ, ◌+◌, ◌^◌, ◌≤◌, List, [], ◌++◌, length}
use Rattle.dada_model.specs.Fields.{HeaderText}
use Rattle.psr_base.specs.Written.{SinkSeen}
use Rattle.drive_stream.specs.Endings.{Ending, Failed, Midway}

-- the relation of a stream
abbrev pub Standing : Type 0 → Type 1
Standing S = HeaderText → List ℕ → S → SinkSeen → SinkSeen → Type 0

-- what is left of one
abbrev pub Leaving : Type 0 → Type 1
Leaving F = HeaderText → List ℕ → Ending F → SinkSeen → SinkSeen → Type 0

-- how many data bytes a program is given at most
abbrev pub most_streamed : ℕ
most_streamed = 2 ^ 48 + 2 ^ 24

-- the stream stands, and so many bytes more may come
pub record IsStreaming {S : Type 0} (streams : Standing S) (more : ℕ) (stream : S)
    (now : SinkSeen) : Type 0 where
  pub header : HeaderText
  pub bytes : List ℕ
  pub start : SinkSeen
  pub stands : streams header bytes stream start now
  pub few : length bytes + more ≤ most_streamed

-- a stream that was opened, of which nothing was taken
abbrev pub IsAtHead : {S : Type 0} → (HeaderText → S → Type 0) → S → Type 0
IsAtHead opens stream = (header : HeaderText) × opens header stream

-- so it stands now
abbrev pub Begins : {S : Type 0} → (HeaderText → S → Type 0) → Standing S → S → S → SinkSeen →
    SinkSeen → Type 0
Begins opens streams old new before after = (header : HeaderText) → opens header old →
    streams header [] new before after

-- or a call of the output failed
abbrev pub BreaksHead : {S F : Type 0} → (HeaderText → S → Type 0) → Leaving F → S → SinkSeen →
    SinkSeen → Type 0
BreaksHead opens leaves old before after = (header : HeaderText) → opens header old →
    leaves header [] (Failed Midway) before after

-- bytes came behind those that were taken, and were taken
abbrev pub StreamsOn : {S : Type 0} → Standing S → S → List ℕ → S → SinkSeen → SinkSeen → Type 0
StreamsOn streams old piece new before after =
    (header : HeaderText) (bytes : List ℕ) (start : SinkSeen) →
    streams header bytes old start before → streams header (bytes ++ piece) new start after

-- bytes came behind those that were taken, and the stream ended so
abbrev pub LeavesAt : {S F : Type 0} → Standing S → Leaving F → S → List ℕ → Ending F → SinkSeen →
    SinkSeen → Type 0
LeavesAt streams leaves old piece ending before after =
    (header : HeaderText) (bytes : List ℕ) (start : SinkSeen) →
    streams header bytes old start before → leaves header (bytes ++ piece) ending start after

-- so it ended with the bytes that were taken
abbrev pub EndsAs : {S F : Type 0} → Standing S → Leaving F → S → Ending F → SinkSeen → SinkSeen →
    Type 0
EndsAs streams leaves old ending before after =
    (header : HeaderText) (bytes : List ℕ) (start : SinkSeen) →
    streams header bytes old start before → leaves header bytes ending start after
