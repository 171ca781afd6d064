-- Worked values of the definitions, computed.
use Rattle.std.specs.Prelude.{◌≡◌, ℕ, List, [], ◌∷◌, ◌++◌, length, map, replicate, Option, Some, None, Ok, Err, codes, refl}
use Rattle.std.specs.Fmt.{digits}
use Rattle.search_model.specs.Parts.{check_line, first_needed}
use Rattle.search_model.specs.declared.search.Search.{Search}
use Rattle.warm_restart.specs.Counts.{until_of}
use Rattle.warm_restart.specs.Checkpoint.{checkpoint_of, judged_place}
use Rattle.warm_restart.specs.declared.checkpoint.Checkpoint.{Checkpoint}
use Rattle.warm_restart.specs.declared.checkpoint.CheckpointFault.TheVariants.{Place}
use Rattle.warm_restart.specs.LastLine.{last_line}

-- ---- texts that are accepted

abbrev said : ℕ → ℕ → Option Checkpoint
said place pulses = Some (record { place = place; pulses = pulses })

-- with no pulse, with leading zeros, the greatest numbers, and what is written
accepted : map checkpoint_of (
    codes "CHECK 2 1\n"
    ∷ codes "CHECK 5 0\n"
    ∷ codes "CHECK 000000000000006 01\n"
    ∷ codes "CHECK 281474976710656 281474976710656\n"
    ∷ check_line 6 1
    ∷ []
    ) ≡ said 2 1 ∷ said 5 0 ∷ said 6 1 ∷ said 281474976710656 281474976710656 ∷ said 6 1 ∷ []
unfolding checkpoint_of digits
accepted = refl

-- ---- and that are not

-- a line of 64 bytes, and of 65
abbrev long_line : ℕ → List ℕ
long_line zeros = codes "CHECK " ++ replicate zeros 48 ++ codes "2 1\n"

long_lengths : length (long_line 54) ≡ 64
long_lengths = refl

-- one number, no line feed, two lines, a carriage return, two spaces, a sign, 16 digits (a leading zero is one), too great
-- a number, nothing, and lines that are too long
not_accepted : map checkpoint_of (
    codes "CHECK 2\n"
    ∷ codes "CHECK 2 1"
    ∷ codes "CHECK 2 1\nCHECK 2 1\n"
    ∷ codes "CHECK 2 1\r\n"
    ∷ codes "CHECK  2 1\n"
    ∷ codes "CHECK +2 1\n"
    ∷ codes "CHECK 0000000000000002 1\n"
    ∷ codes "CHECK 2 281474976710657\n"
    ∷ codes ""
    ∷ long_line 54
    ∷ long_line 55
    ∷ []
    ) ≡ replicate 11 None
unfolding checkpoint_of
not_accepted = refl

-- ---- the word UNTIL

-- 16 digits, none, too great a number and a sign are refused
words_of_until : map until_of (
    codes "9"
    ∷ codes "000000000000009"
    ∷ codes "281474976710656"
    ∷ codes "0000000000000009"
    ∷ codes "0"
    ∷ codes "281474976710657"
    ∷ codes "-1"
    ∷ []
    ) ≡ Some 9 ∷ Some 9 ∷ Some 281474976710656 ∷ None ∷ None ∷ None ∷ None ∷ []
unfolding until_of
words_of_until = refl

-- ---- the last line, at 3 spectra: the search stops before, after and at their end

-- a count that passes the greatest one of a checkpoint is written all the same
last_lines : last_line 2 3 1 ∷ last_line 9 3 1 ∷ last_line 3 3 1 ∷ last_line 2 3 281474976710657 ∷ []
    ≡ codes "CHECK 2 1\n" ∷ codes "END 1 0 3\n" ∷ codes "END 1 0 3\n" ∷ codes "CHECK 2 281474976710657\n" ∷ []
unfolding digits
last_lines = refl

-- ---- the place of a checkpoint, and the first spectrum that is needed from it on

goes_on : judged_place 9 (record { place = 2; pulses = 1 })
    ≡ Ok (record { place = 2; pulses = 1 })
goes_on = refl

at_its_end : judged_place 2 (record { place = 2; pulses = 1 }) ≡ Err (Place 2 2)
at_its_end = refl

-- delays of at most 1 spectrum, and boxes of at most 2
abbrev short_search : Search
short_search = record {
  min_delay = 0;
  max_delay = 1;
  widest = 2;
  fold_min = 2;
  fold_max = 0;
  fold_rows = 6;
  fold_step = 64;
  chunk = 1024;
  shards = 1;
  max_candidates = 65536;
  mean = 10000;
  sd = 1000;
  snr = 700;
}

needed_before_six : first_needed short_search 6 ≡ 3
needed_before_six = refl

needed_near_the_beginning : first_needed short_search 2 ≡ 0
needed_near_the_beginning = refl
