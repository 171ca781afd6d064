-- What an object of inputs tells of its files, and how reading moves it.
-- Source: this project's choice.
use Rattle.std.specs.Prelude.{◌≡◌, ◌≢◌, ℕ, ◌+◌, ◌<◌, ◌≤◌, ◌==◌, ◌||◌, ◌⊎◌, nat_lt, Bool, true, false, min, List, [], ◌++◌, length, take, drop, Option, Some, None, option_to_list, refl}
use Rattle.std.specs.Coded.{Coded, code_by, coded×, coded_list, coded_ℕ, coded_bool}
use Rattle.std.specs.Option.{option_map, option_and_then, ForSome}

-- a name that was opened, the place that its file was read to, and whether its end was seen: a read gave nothing
pub record Reading : Type 0 where
  pub name : List ℕ
  pub place : ℕ
  pub ended : Bool

-- the bytes under each name, and the file that is read, each None where it isn't told; and what was read of each file
-- that was opened before that one, in order
pub record Told : Type 0 where
  pub bytes_under : List ℕ → Option (List ℕ)
  pub earlier : List Reading
  pub reading : Option Reading

-- an object that tells nothing
abbrev pub nothing_told : Told
nothing_told = record { bytes_under = λ _. None; earlier = []; reading = None }

-- what was read of each file that was opened, in order, to the open one
abbrev pub history : Told → List Reading
history told = told.earlier ++ option_to_list told.reading

-- a list of readings is stored as that of their fields
abbrev pub readings_code : Coded (List Reading)
readings_code =
    coded_list (code_by (List ℕ × (ℕ × Bool)) (coded× (coded_list coded_ℕ) (coded× coded_ℕ coded_bool))
    (λ (r : Reading). (r.name, (r.place, r.ended)))
    (λ p. record { name = p.0; place = p.1.0; ended = p.1.1 }) (λ _. refl))

-- the bytes of the open file from the place that was read to, where they are told
abbrev pub left_to_read : Told → Option (List ℕ)
left_to_read told = option_and_then
    (λ (file : Reading). option_map (drop file.place) (told.bytes_under file.name)) told.reading

-- a name was opened: it is read from place 0
abbrev pub opened : List ℕ → Told → Told
opened name told = record told {
  earlier = history told;
  reading = Some (record { name = name; place = 0; ended = false });
}

-- no name is open
abbrev pub closed : Told → Told
closed told = record told { earlier = history told; reading = None }

-- the place moved by n bytes
abbrev pub moved_by : ℕ → Told → Told
moved_by n told = record told {
  reading =
      option_map (λ (file : Reading). record file { place = file.place + n }) told.reading;
}

-- the end of the open file was seen
abbrev pub at_end : Told → Told
at_end told = record told {
  reading = option_map (λ (file : Reading). record file { ended = true }) told.reading;
}

-- the place moved by n bytes, and the end was seen or not
abbrev pub read_on : ℕ → Bool → Told → Told
read_on n saw_end told = record told {
  reading = option_map (λ (file : Reading). record file {
    place = file.place + n;
    ended = file.ended || saw_end;
  }) told.reading;
}

-- a read gave n bytes, and none only at the end
abbrev pub read_by : ℕ → Told → Told
read_by n told = read_on n (n == 0) told

-- n bytes were read where so many fit, and fewer only at the end
abbrev pub filled_by : ℕ → ℕ → Told → Told
filled_by n size told = read_on n (nat_lt n size) told

-- a fault came before n more bytes were read; no end was seen
abbrev pub BreaksWithin : ℕ → Told → Told → Type 0
BreaksWithin n old new = (k : ℕ) × (k < n) × (new ≡ moved_by k old)

-- a fault came before n bytes were read of a name, which was not opened, or not read so far
abbrev pub BreaksOff : ℕ → List ℕ → Told → Told → Type 0
BreaksOff n name old new = (new ≡ old) ⊎ BreaksWithin n (opened name old) new

-- a name was not opened, or it was and some of its bytes were read, but its end was not seen
abbrev pub BreaksOpened : List ℕ → Told → Told → Type 0
BreaksOpened name old new = (new ≡ old) ⊎ ((k : ℕ) × (new ≡ moved_by k (opened name old)))

-- what is left once n more bytes were read
abbrev pub rest_after : ℕ → Option (List ℕ) → Option (List ℕ)
rest_after n left = option_map (drop n) left

-- a read that answered n gave the next bytes of what was left, and none only at the end
pub record GivesNext (left : List ℕ) (n : ℕ) (buffer : List ℕ) : Type 0 where
  pub given : take n buffer ≡ take n left
  pub within : n ≤ length left
  pub ends : n ≡ 0 → left ≡ []

-- the first n bytes of the buffer are the next bytes, as many as there are and as fit
pub record FillsFrom (left : List ℕ) (n : ℕ) (buffer : List ℕ) : Type 0 where
  pub given : take n buffer ≡ take n left
  pub count : n ≡ min (length left) (length buffer)

-- What reads make of what is told that follow one another: of the place, of the end, and of what is left.
pub record ReadsJoin : Type 0 where
  pub moved : (n m : ℕ) (told : Told) → moved_by m (moved_by n told) ≡ moved_by (n + m) told
  pub some : (n : ℕ) (told : Told) → n ≢ 0 → read_by n told ≡ moved_by n told
  pub none : (n : ℕ) (told : Told) → n ≡ 0 → read_by n told ≡ at_end (moved_by 0 told)
  pub all : (n size : ℕ) (told : Told) → n ≡ size → filled_by n size told ≡ moved_by n told
  pub less : (n size : ℕ) (told : Told) → n < size →
      filled_by n size told ≡ at_end (moved_by n told)
  pub left : (n : ℕ) (saw_end : Bool) (told : Told) →
      left_to_read (read_on n saw_end told) ≡ rest_after n (left_to_read told)

-- P holds of the bytes under a name, where they are told
abbrev pub OfFile : Told → List ℕ → (List ℕ → Type 0) → Type 0
OfFile told name P = ForSome (told.bytes_under name) P

-- what is seen of inputs over a call: what they tell as it begins, and how many calls have failed before and after it
pub record InputsSeen : Type 0 where
  pub told : Told
  pub faults_before : ℕ
  pub faults_after : ℕ
