-- Worked values of what writing and making files do, computed.
use Rattle.std.specs.Prelude.{◌≡◌, true, false, [], ◌∷◌, Some, None, codes, refl}
use Rattle.psr_base.specs.Count.{next_count}
use Rattle.psr_base.specs.Told.{Told, history, left_to_read, opened, moved_by, read_by, filled_by}
use Rattle.psr_base.specs.Written.{room_after, first_pieces}
use Rattle.psr_base.specs.Made.{Made, FilesLeft, files_in, names_in, with_new_file, longer_by, with_all_finished, less_a_file, less_bytes}

abbrev two_files : Made
two_files = with_new_file (codes "b")
    (with_all_finished (longer_by (codes "c")
    (longer_by (codes "ab")
    (with_new_file (codes "a") (record { finished = []; unfinished = None })))))

in_order : files_in two_files
    ≡ record { name = codes "a"; bytes = codes "abc" }
    ∷ record { name = codes "b"; bytes = [] } ∷ []
in_order = refl

names : names_in (with_all_finished two_files) ≡ codes "a" ∷ codes "b" ∷ []
names = refl

-- one of two files, and three of eight bytes
left : FilesLeft
left = record { files = 2; bytes = 8 }

less : less_bytes 3 (less_a_file left) ≡ record { files = 1; bytes = 5 }
unfolding left
less = refl

room : room_after 3 (room_after 2 (Some 9)) ≡ Some 4
room = refl

pieces : first_pieces (λ i. i ∷ 7 ∷ []) 3 ≡ 0 ∷ 7 ∷ 1 ∷ 7 ∷ 2 ∷ 7 ∷ []
pieces = refl

abbrev one_file : Told
one_file = record { bytes_under = λ name. Some (codes "abcde"); earlier = []; reading = None }

-- two bytes were read, so three are left
rest : left_to_read (moved_by 2 (opened (codes "a") one_file)) ≡ Some (codes "cde")
rest = refl

-- one file was read to its end, and of the next one two bytes
all_read : history (read_by 2 (opened (codes "b") (filled_by 5 8 (opened (codes "a") one_file))))
    ≡ record { name = codes "a"; place = 5; ended = true }
    ∷ record { name = codes "b"; place = 2; ended = false } ∷ []
all_read = refl

-- a count stays at the greatest u64
stays : next_count 18446744073709551615 ≡ 18446744073709551615
stays = refl
