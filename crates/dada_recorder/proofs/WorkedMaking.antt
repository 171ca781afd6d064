-- Worked values of files that are made one after another, computed.
use Rattle.std.specs.Prelude.{◌≡◌, [], ◌∷◌, true, false, Some, None, codes, refl}
use Rattle.std.proofs.Common.{inl, inr, arith}
use Rattle.psr_base.specs.Made.{NamedBytes}
use Rattle.dada_recorder.specs.declared.transfer_files.FilePlace.{FilePlace}
use Rattle.dada_recorder.specs.Making.{made_with, total_bytes, left_after, IsFileFront}
use Rattle.dada_recorder.specs.TransferFiles.{data_bytes, after_put, next_place}

abbrev first : NamedBytes
first = record { name = codes "a"; bytes = codes "abc" }

abbrev second : NamedBytes
second = record { name = codes "b"; bytes = codes "de" }

last_is_open : made_with true (first ∷ second ∷ [])
    ≡ record { finished = first ∷ []; unfinished = Some second }
last_is_open = refl

all_are_finished : made_with false (first ∷ second ∷ [])
    ≡ record { finished = first ∷ second ∷ []; unfinished = None }
all_are_finished = refl

five_bytes : total_bytes (first ∷ second ∷ []) ≡ 5
unfolding total_bytes
five_bytes = refl

some_are_left : left_after (first ∷ second ∷ []) (record { files = 3; bytes = 7 })
    ≡ record { files = 1; bytes = 2 }
unfolding total_bytes
some_are_left = refl

-- the first file whole, and a front of the second
a_front : IsFileFront (first ∷ record { name = codes "b"; bytes = codes "d" } ∷ [])
    (first ∷ second ∷ [])
a_front = inl (refl, inr (refl, record { name = refl; rest = codes "e"; splits = refl }))

-- a front of the first file can have no file behind it
no_front : IsFileFront (record { name = codes "a"; bytes = codes "ab" } ∷ second ∷ [])
    (first ∷ second ∷ []) → ⊥
no_front (inl is) = grind (arith, is.0)
no_front (inr is) = grind (arith, is.0)

-- in files of four bytes, the file 1 has two
abbrev place : FilePlace
place = record { number = 1; used = 2; is_open = true }

six_came : data_bytes place 4 ≡ 6
six_came = refl

full : after_put 4 2 place ≡ record { number = 1; used = 4; is_open = false }
full = refl

next : next_place (after_put 4 2 place) ≡ record { number = 2; used = 0; is_open = true }
next = refl
