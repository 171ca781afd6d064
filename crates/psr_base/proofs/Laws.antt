-- What is told and written over several calls, one after another.
use Rattle.std.specs.Prelude.{◌≡◌, ◌≢◌, ℕ, ◌+◌, ◌<◌, ◌==◌, ◌||◌, nat_lt, Bool, true, false, List, ◌++◌, drop, Option, Some, None, refl}
use Rattle.std.specs.Option.{option_map}
use Rattle.std.specs.Io.KnownBytes.{append_known}
use Rattle.std.proofs.Common.{◌∙◌, ap, sym, add_assoc, append_assoc, arith}
use Rattle.std.proofs.lemmas.Bool.{ne_eqb, le-ltb, lt-ltb}
use Rattle.std.proofs.lemmas.List.{drop-drop}
use Rattle.psr_base.specs.Told.{Told, Reading, left_to_read, rest_after, moved_by, at_end, read_on, read_by, filled_by}
use Rattle.psr_base.specs.Written.{room_after}

-- to read n bytes and then m is to read n + m
pub moved_by-moved_by : (n m : ℕ) (told : Told) → moved_by m (moved_by n told) ≡ moved_by (n + m) told
moved_by-moved_by n m told = ap (λ (file : Option Reading). record told { reading = file }) (moves told.reading)
  where
    moves : (file : Option Reading) →
        option_map (λ (r : Reading). record r { place = r.place + m })
        (option_map (λ (r : Reading). record r { place = r.place + n }) file)
        ≡ option_map (λ (r : Reading). record r { place = r.place + (n + m) }) file
    moves None = refl
    moves (Some r) = ap (λ (place : ℕ). Some (record r { place = place })) (add_assoc r.place n m)

-- what is left of what is told after n bytes
pub left_to_read-moved_by : (n : ℕ) (told : Told) → left_to_read (moved_by n told) ≡ rest_after n (left_to_read told)
left_to_read-moved_by n told = by_file told.reading
  where
    by_bytes : (place : ℕ) (bytes : Option (List ℕ)) →
        option_map (drop (place + n)) bytes ≡ rest_after n (option_map (drop place) bytes)
    by_bytes place None = refl
    by_bytes place (Some bytes) = ap Some (sym (drop-drop n place bytes))

    by_file : (file : Option Reading) → left_to_read (moved_by n (record told { reading = file }))
        ≡ rest_after n (left_to_read (record told { reading = file }))
    by_file None = refl
    by_file (Some r) = by_bytes r.place (told.bytes_under r.name)

-- nothing is left any less where the end was seen
pub left_to_read-at_end : (told : Told) → left_to_read (at_end told) ≡ left_to_read told
left_to_read-at_end told = by_file told.reading
  where
    by_file : (file : Option Reading) →
        left_to_read (at_end (record told { reading = file })) ≡ left_to_read (record told { reading = file })
    by_file None = refl
    by_file (Some r) = refl

-- the end was not seen: the place moved
pub read_on-false : (n : ℕ) (b : Bool) (told : Told) → b ≡ false → read_on n b told ≡ moved_by n told
read_on-false n b told not_seen = ap (λ c. read_on n c told) not_seen
    ∙ ap (λ (file : Option Reading). record told { reading = file }) (by_file told.reading)
  where
    stays : (e : Bool) → (e || false) ≡ e
    stays true = refl
    stays false = refl

    by_file : (file : Option Reading) →
        option_map (λ (r : Reading). record r { place = r.place + n; ended = r.ended || false }) file
        ≡ option_map (λ (r : Reading). record r { place = r.place + n }) file
    by_file None = refl
    by_file (Some r) = ap (λ (e : Bool). Some (record r { place = r.place + n; ended = e })) (stays r.ended)

-- it was seen after the last bytes
pub read_on-true : (n : ℕ) (b : Bool) (told : Told) → b ≡ true → read_on n b told ≡ at_end (moved_by n told)
read_on-true n b told seen = ap (λ c. read_on n c told) seen
    ∙ ap (λ (file : Option Reading). record told { reading = file }) (by_file told.reading)
  where
    now : (e : Bool) → (e || true) ≡ true
    now true = refl
    now false = refl

    by_file : (file : Option Reading) →
        option_map (λ (r : Reading). record r { place = r.place + n; ended = r.ended || true }) file
        ≡ option_map (λ (r : Reading). record r { ended = true })
        (option_map (λ (r : Reading). record r { place = r.place + n }) file)
    by_file None = refl
    by_file (Some r) = ap (λ (e : Bool). Some (record r { place = r.place + n; ended = e })) (now r.ended)

-- either way so many are no longer left
pub left_to_read-read_on : (n : ℕ) (b : Bool) (told : Told) →
    left_to_read (read_on n b told) ≡ rest_after n (left_to_read told)
left_to_read-read_on n b told = by_seen b refl ∙ left_to_read-moved_by n told
  where
    by_seen : (c : Bool) → b ≡ c → left_to_read (read_on n b told) ≡ left_to_read (moved_by n told)
    by_seen true e = ap left_to_read (read_on-true n b told e) ∙ left_to_read-at_end (moved_by n told)
    by_seen false e = ap left_to_read (read_on-false n b told e)

-- a read that gave some bytes moved the place
pub read_by-some : (n : ℕ) (told : Told) → n ≢ 0 → read_by n told ≡ moved_by n told
read_by-some n told some = read_on-false n (n == 0) told (ne_eqb n 0 some)

-- and one that gave none saw the end
pub read_by-none : (n : ℕ) (told : Told) → n ≡ 0 → read_by n told ≡ at_end (moved_by 0 told)
read_by-none n told none = ap (λ (m : ℕ). read_by m told) none ∙ read_on-true 0 true told refl

-- as many bytes as fit were read
pub filled_by-all : (n size : ℕ) (told : Told) → n ≡ size → filled_by n size told ≡ moved_by n told
filled_by-all n size told all = read_on-false n (nat_lt n size) told (le-ltb n size (omega (arith, all)))

-- or fewer
pub filled_by-less : (n size : ℕ) (told : Told) → n < size → filled_by n size told ≡ at_end (moved_by n told)
filled_by-less n size told less = read_on-true n (nat_lt n size) told (lt-ltb n size less)

-- to write one piece and then another is to write both
pub append_known-append_known : (written : Option (List ℕ)) (xs ys : List ℕ) →
    append_known (append_known written xs) ys ≡ append_known written (xs ++ ys)
append_known-append_known None xs ys = refl
append_known-append_known (Some zs) xs ys = ap Some (append_assoc zs xs ys)

-- the room that is left after n bytes and then m
pub room_after-room_after : (n m : ℕ) (room : Option ℕ) → room_after m (room_after n room) ≡ room_after (n + m) room
room_after-room_after n m None = refl
room_after-room_after n m (Some room) = ap Some (omega arith)
