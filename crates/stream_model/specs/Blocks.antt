-- Block streams: the data of one or more transfers as entries, each of them a mark with bytes. A transfer is what one
-- header describes, and it ends with a block that is not full (PSRDADA manual: transfers, end of data).
use Rattle.std.specs.Prelude.{ℕ, zero, suc, Bool, true, false, ◌||◌, nat_le, ◌+◌, ◌-◌, ◌*◌, ◌/◌, min, List, [], ◌∷◌, ◌++◌, length, take, drop, if◌then◌else◌}
use Rattle.std.specs.List.{flat_map, list_any}
use Rattle.ring_blocks.specs.declared.Entry.{Entry}
use Rattle.ring_blocks.specs.declared.Mark.{Mark}
use Rattle.ring_blocks.specs.declared.Mark.TheVariants.{More, End, Cut}

-- ---- entries

abbrev pub full_entry : List ℕ → Entry
full_entry bytes = record { mark = More; bytes = bytes }

-- ends a transfer
abbrev pub last_entry : List ℕ → Entry
last_entry bytes = record { mark = End; bytes = bytes }

-- ends a stream that is given up
abbrev pub cut_entry : Entry
cut_entry = record { mark = Cut; bytes = [] }

-- ---- streams of data

-- the first n blocks of the data, where each is full: block i has the bytes from i * size on
unfoldable pub full_entries : ℕ → List ℕ → ℕ → List Entry
full_entries size bytes zero = []
full_entries size bytes (suc n) =
    full_entries size bytes n ++ full_entry (take size (drop (n * size) bytes)) ∷ []

-- of a transfer: its full blocks, and then the rest of its data, which may be empty
unfoldable pub transfer_entries : ℕ → List ℕ → List Entry
transfer_entries size bytes =
    full_entries size bytes (length bytes / size)
    ++ last_entry (drop (length bytes / size * size) bytes) ∷ []

-- a whole stream: the entries of all transfers in order
unfoldable pub whole_stream : ℕ → List (List ℕ) → List Entry
whole_stream size transfers = flat_map (transfer_entries size) transfers

-- the data of several transfers in a row
unfoldable pub joined_data : List (List ℕ) → List ℕ
joined_data transfers = flat_map (λ bytes. bytes) transfers

-- How many full blocks of a transfer go out where the stream stops after some of its bytes were read: those that lie
-- within the bytes read, and within what the transfers before leave of the limit
abbrev pub blocks_before_stop : ℕ → ℕ → List (List ℕ) → List ℕ → ℕ
blocks_before_stop size max_bytes before read =
    min (length read) (max_bytes - length (joined_data before)) / size

-- an abandoned stream: the transfers before the one in which the stop falls, the full blocks of that one, and a Cut
unfoldable pub abandoned_stream : ℕ → ℕ → List (List ℕ) → List ℕ → List Entry
abandoned_stream size max_bytes before read =
    whole_stream size before
    ++ (full_entries size read (blocks_before_stop size max_bytes before read) ++ cut_entry ∷ [])

-- ---- what is seen of entries

unfoldable pub joined_bytes : List Entry → List ℕ
joined_bytes entries = flat_map (λ entry. entry.bytes) entries

abbrev pub is_end : Mark → Bool
is_end More = false
is_end End = true
is_end Cut = false

abbrev pub is_cut : Mark → Bool
is_cut More = false
is_cut End = false
is_cut Cut = true

-- how many transfers have ended
unfoldable pub ended_transfers : List Entry → ℕ
ended_transfers [] = 0
ended_transfers (entry ∷ entries) = (if is_end entry.mark then 1 else 0) + ended_transfers entries

-- whether the stream was given up
unfoldable pub has_cut : List Entry → Bool
has_cut entries = list_any (λ entry. is_cut entry.mark) entries

-- whether a stream of so many transfers is over: each of them has ended, or the stream was given up
abbrev pub is_over : ℕ → List Entry → Bool
is_over transfers entries = nat_le transfers (ended_transfers entries) || has_cut entries

-- the bytes of transfer k, from 0 on: those after k entries marked End, up to the next
unfoldable pub transfer_bytes : ℕ → List Entry → List ℕ
transfer_bytes k [] = []
transfer_bytes zero (entry ∷ entries) =
    entry.bytes ++ (if is_end entry.mark then [] else transfer_bytes zero entries)
transfer_bytes (suc k) (entry ∷ entries) =
    transfer_bytes (if is_end entry.mark then k else suc k) entries
