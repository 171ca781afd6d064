-- The checkpoint that a word of a command names.
-- Source: this project's choice.
use Rattle.std.specs.Prelude.{◌≡◌, ℕ, min, List, length, codes, Option, Some, if◌then◌else◌}
use Rattle.std.specs.Str.{bytes_eq}
use Rattle.psr_base.specs.Told.{Told, opened, filled_by}
use Rattle.search_model.specs.Parts.{check_line}

-- the word of a search that begins with the first spectrum
abbrev pub new_word : List ℕ
new_word = codes "new"

-- how many bytes of a named file are read at most: one more than a text of 64
abbrev pub most_read : ℕ
most_read = 65

-- The checkpoint text that an argument stands for: `new` for spectrum 0 and no pulses, any other
-- for the bytes of the file of that name, if they are known.
abbrev pub named_text : Told → List ℕ → Option (List ℕ)
named_text told word =
    if bytes_eq word new_word then Some (check_line 0 0) else told.bytes_under word

-- the first `count` bytes of a named file were read, or all of a shorter file and its end
abbrev pub ReadsFront : ℕ → List ℕ → List ℕ → Told → Told → Type 0
ReadsFront few name file old new =
    new ≡ filled_by (min (length file) few) few (opened name old)
