-- Worked values of the definitions, computed.
use Rattle.std.specs.Prelude.{◌≡◌, ◌*◌, List, [], ◌∷◌, codes, refl}
use Rattle.std.specs.Fmt.{digits}
use Rattle.search_model.specs.declared.candidate.Candidate.{Candidate}
use Rattle.search_model.specs.declared.candidate.Candidate.TheVariants.{Pulse}
use Rattle.search_model.specs.CandidateText.{plain_labels}
use Rattle.search_model.specs.Parts.{check_line}
use Rattle.warm_restart.specs.declared.checkpoint.Checkpoint.{Checkpoint}
use Rattle.live_search.specs.LiveText.{Layout, after_parts, counted, many_line, marked_parts, marked_text, next_end, parts_before, stopped_text, text_so_far}

-- the part that begins with the first spectrum, or within it, ends with its last one
first_end : next_end 512 0 ≡ 512
first_end = refl

within_a_part : next_end 512 511 ≡ 512
within_a_part = refl

at_an_end : next_end 512 512 ≡ 1024
at_an_end = refl

-- a part ends before so many spectra only where one more follows
no_more : parts_before 512 0 512 ≡ 0
no_more = refl

one_more : parts_before 512 0 513 ≡ 1
one_more = refl

-- after spectrum 1000 the parts end before 1024, 1536 and 2048
from_a_place : parts_before 512 1000 2049 ≡ 3
from_a_place = refl

no_data : parts_before 512 1000 0 ≡ 0
no_data = refl

too_many : many_line 1024 70000 ≡ codes "MANY 1024 70000\n"
unfolding digits
too_many = refl

stands_still : counted 18446744073709551615 1 ≡ 18446744073709551615
stands_still = refl

-- ---- texts, in parts of two spectra, of which one pulse is printed at most

abbrev small_parts : Layout
small_parts = record { labels = plain_labels (λ delay. 104 * delay) 2; every = 2; limit = 1 }

-- two end in the first part, and one in the third
abbrev three_pulses : List Candidate
three_pulses = Pulse 0 0 1 20 ∷ Pulse 1 0 1 30 ∷ Pulse 4 1 1 40 ∷ []

abbrev at_first : Checkpoint
at_first = record { place = 0; pulses = 0 }

six_spectra : marked_text check_line small_parts at_first 6 three_pulses
    ≡ codes "MANY 2 2\nCHECK 2 0\nCHECK 4 0\nPULSE 4 1 0.104 1 40 3\nEND 1 0 6\n"
unfolding after_parts marked_parts digits
six_spectra = refl

-- they stop in the middle of the third part, and where the second one ends
stopped_at_five : stopped_text small_parts at_first 5 three_pulses
    ≡ codes "MANY 2 2\nCHECK 2 0\nCHECK 4 0\nPULSE 4 1 0.104 1 40 3\nCHECK 5 1\n"
unfolding after_parts marked_parts digits
stopped_at_five = refl

stopped_at_four : stopped_text small_parts at_first 4 three_pulses
    ≡ codes "MANY 2 2\nCHECK 2 0\nCHECK 4 0\n"
unfolding after_parts marked_parts digits
stopped_at_four = refl

-- and go on from there
from_five : marked_text check_line small_parts (record { place = 5; pulses = 1 }) 8 three_pulses
    ≡ codes "CHECK 6 1\nEND 1 0 8\n"
unfolding after_parts marked_parts digits
from_five = refl

-- a CHECK line is written once a spectrum follows
two_came : text_so_far small_parts at_first 2 three_pulses ≡ codes "MANY 2 2\n"
unfolding after_parts marked_parts digits
two_came = refl

three_came : text_so_far small_parts at_first 3 three_pulses ≡ codes "MANY 2 2\nCHECK 2 0\n"
unfolding after_parts marked_parts digits
three_came = refl
