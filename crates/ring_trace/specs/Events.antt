-- The lines of a trace, and the lines that answer them.
-- Source: this project's choice.
use Rattle.std.specs.Prelude.{◌≡◌, ℕ, ◌<◌, ◌≤◌, List, ◌∷◌, ◌++◌, codes, decimal}
use Rattle.std.specs.Str.Parse.{digits_value}
use Rattle.ring_core.specs.Machine.{Event, Answer}
use Rattle.ring_core.specs.declared.Shape.{Shape}
use Rattle.ring_trace.specs.Text.{IsNumber}

-- the line is this word, one space and the number n
abbrev pub IsNumbered : List ℕ → List ℕ → ℕ → Type 0
IsNumbered word line n = (number : List ℕ) × (line ≡ word ++ 32 ∷ number) × (IsNumber number)
    × (n ≡ digits_value 10 number)

-- `ring` and three words, each after one space
abbrev pub ring_text : List ℕ → List ℕ → List ℕ → List ℕ
ring_text buffers readers blocks = codes "ring " ++ (buffers ++ 32 ∷ (readers ++ 32 ∷ blocks))

-- what a ring can be made of
pub record ShapeInRange (shape : Shape) : Type 0 where
  pub buffers : (2 ≤ shape.buffers) × (shape.buffers ≤ 64)
  pub readers : (1 ≤ shape.readers) × (shape.readers ≤ 8)
  pub blocks : (1 ≤ shape.max_blocks) × (shape.max_blocks ≤ 1048576)

-- the line is `ring` with the numbers of buffers, of readers and of blocks, in their ranges
pub record IsRingLine (line : List ℕ) (shape : Shape) : Type 0 where
  pub buffers : List ℕ
  pub readers : List ℕ
  pub blocks : List ℕ
  pub words : line ≡ ring_text buffers readers blocks
  pub numbers : (IsNumber buffers) × (IsNumber readers) × (IsNumber blocks)
  pub values : (shape.buffers ≡ digits_value 10 buffers) × (shape.readers ≡ digits_value 10 readers)
      × (shape.max_blocks ≡ digits_value 10 blocks)
  pub in_range : ShapeInRange shape

-- the line asks for this event, of a ring with so many readers
abbrev pub AsksFor : ℕ → List ℕ → Event ℕ → Type 0
AsksFor readers line (Event.Look i) = IsNumbered (codes "look") line i × (i < readers)
AsksFor readers line Event.WriterTake = line ≡ codes "take"
AsksFor readers line (Event.Seal label) = IsNumbered (codes "seal") line label
AsksFor readers line (Event.ReaderTake i) = IsNumbered (codes "read") line i × (i < readers)
AsksFor readers line (Event.Give i) = IsNumbered (codes "give") line i × (i < readers)
AsksFor readers line (Event.Clear i) = IsNumbered (codes "clear") line i × (i < readers)
AsksFor readers line (Event.Retire i) = IsNumbered (codes "retire") line i × (i < readers)
AsksFor readers line (Event.Detach i) = IsNumbered (codes "detach") line i × (i < readers)
AsksFor readers line (Event.Attach i) = IsNumbered (codes "attach") line i × (i < readers)

-- the line that says an answer
abbrev pub answer_line : Answer ℕ → List ℕ
answer_line (Answer.Full i c) = codes "full " ++ decimal i ++ codes " " ++ decimal c ++ codes "\n"
answer_line (Answer.Room i c) = codes "room " ++ decimal i ++ codes " " ++ decimal c ++ codes "\n"
answer_line (Answer.RoomRetired i) = codes "room " ++ decimal i ++ codes " retired\n"
answer_line (Answer.Taken n) = codes "taken " ++ decimal n ++ codes "\n"
answer_line (Answer.Spent n) = codes "spent " ++ decimal n ++ codes "\n"
answer_line (Answer.Sealed n) = codes "sealed " ++ decimal n ++ codes "\n"
answer_line (Answer.Got n label) =
    codes "got " ++ decimal n ++ codes " " ++ decimal label ++ codes "\n"
answer_line (Answer.Empty n) = codes "empty " ++ decimal n ++ codes "\n"
answer_line (Answer.Busy n j) = codes "busy " ++ decimal n ++ codes " " ++ decimal j ++ codes "\n"
answer_line Answer.Given = codes "given\n"
answer_line (Answer.Cleared n) = codes "cleared " ++ decimal n ++ codes "\n"
answer_line Answer.Retired = codes "retired\n"
answer_line Answer.Detached = codes "detached\n"
answer_line (Answer.Attached n) = codes "attached " ++ decimal n ++ codes "\n"
answer_line Answer.Refused = codes "refused\n"
