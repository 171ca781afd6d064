-- Laws of block streams; the functions of this crate carry them.
-- Source: PSRDADA manual (transfers, end of data); the marks and blocks are this project's choice.
use Rattle.std.specs.Prelude.{◌≡◌, ℕ, true, false, ◌||◌, ◌+◌, ◌-◌, ◌*◌, ◌/◌, ◌<◌, ◌≤◌, List, [], ◌∷◌, ◌++◌, length, take, slice_get, Some}
use mathlib.Core.List.{IsPrefix}
use Rattle.ring_blocks.specs.declared.Entry.{Entry}
use Rattle.stream_model.specs.Blocks.{full_entries, transfer_entries, whole_stream, joined_data, blocks_before_stop, abandoned_stream, joined_bytes, ended_transfers, has_cut, is_over, transfer_bytes}

-- ---- bytes

-- The bytes of entries one after another are joined. Those of full blocks are the first of the data, those of a whole
-- stream all data, and those of an abandoned stream the data of the transfers before and the full blocks after them.
pub record BytesAreJoined : Type 0 where
  pub append : (xs ys : List Entry) → joined_bytes (xs ++ ys) ≡ joined_bytes xs ++ joined_bytes ys
  pub full : (size : ℕ) (bytes : List ℕ) (n : ℕ) →
      joined_bytes (full_entries size bytes n) ≡ take (n * size) bytes
  pub whole : (size : ℕ) (transfers : List (List ℕ)) →
      joined_bytes (whole_stream size transfers) ≡ joined_data transfers
  pub abandoned : (size max_bytes : ℕ) (before : List (List ℕ)) (read : List ℕ) →
      joined_bytes (abandoned_stream size max_bytes before read)
      ≡ joined_data before ++ take (blocks_before_stop size max_bytes before read * size) read

-- Data within a limit take at most as many blocks as the limit has, and one more for each transfer
pub record StreamsAreShort : Type 0 where
  pub so_far : (size max_bytes : ℕ) (before : List (List ℕ)) (bytes : List ℕ) (n : ℕ) → 0 < size →
      length (joined_data before) + n * size ≤ max_bytes →
      length (whole_stream size before ++ full_entries size bytes n)
      ≤ max_bytes / size + length before
  pub whole : (size max_bytes : ℕ) (transfers : List (List ℕ)) → 0 < size →
      length (joined_data transfers) ≤ max_bytes →
      length (whole_stream size transfers) ≤ max_bytes / size + length transfers
  pub abandoned : (size max_bytes : ℕ) (before : List (List ℕ)) (read : List ℕ) → 0 < size →
      length (joined_data before) ≤ max_bytes →
      length (abandoned_stream size max_bytes before read) ≤ max_bytes / size + length before + 1

-- ---- how a stream grows

-- More data change no block that is full, and a further transfer changes no entry
pub record StreamsGrow : Type 0 where
  pub full : (size : ℕ) (bytes more : List ℕ) (n : ℕ) → n * size ≤ length bytes →
      full_entries size (bytes ++ more) n ≡ full_entries size bytes n
  pub append : (size : ℕ) (xs ys : List (List ℕ)) →
      whole_stream size (xs ++ ys) ≡ whole_stream size xs ++ whole_stream size ys
  pub transfer : (size : ℕ) (before : List (List ℕ)) (bytes : List ℕ) →
      whole_stream size (before ++ bytes ∷ [])
      ≡ whole_stream size before ++ transfer_entries size bytes
  pub joined : (xs ys : List (List ℕ)) → joined_data (xs ++ ys) ≡ joined_data xs ++ joined_data ys

-- What was sealed of a transfer begins the stream, however its data, and the transfers after it, go on: to their end,
-- or to a stop in this transfer or in a later one
pub record StreamsBegin : Type 0 where
  pub whole : (size : ℕ) (before later : List (List ℕ)) (bytes more : List ℕ) (n : ℕ) → 0 < size →
      n * size ≤ length bytes →
      IsPrefix (whole_stream size before ++ full_entries size bytes n)
      (whole_stream size (before ++ (bytes ++ more) ∷ later))
  pub here : (size max_bytes : ℕ) (before : List (List ℕ)) (bytes more : List ℕ) (n : ℕ) →
      n * size ≤ length bytes → n ≤ blocks_before_stop size max_bytes before (bytes ++ more) →
      IsPrefix (whole_stream size before ++ full_entries size bytes n)
      (abandoned_stream size max_bytes before (bytes ++ more))
  pub later : (size max_bytes : ℕ) (before : List (List ℕ)) (read : List ℕ) →
      IsPrefix (whole_stream size before) (abandoned_stream size max_bytes before read)
  pub follows : (xs ys zs : List Entry) → IsPrefix xs ys → IsPrefix ys zs → IsPrefix xs zs

-- ---- ends

-- How many transfers have ended, and whether the stream was given up
pub record EndsAreCounted : Type 0 where
  pub append : (xs ys : List Entry) →
      ended_transfers (xs ++ ys) ≡ ended_transfers xs + ended_transfers ys
  pub whole : (size : ℕ) (transfers : List (List ℕ)) →
      ended_transfers (whole_stream size transfers) ≡ length transfers
  pub abandoned : (size max_bytes : ℕ) (before : List (List ℕ)) (read : List ℕ) →
      ended_transfers (abandoned_stream size max_bytes before read) ≡ length before
  pub cut_append : (xs ys : List Entry) → has_cut (xs ++ ys) ≡ (has_cut xs || has_cut ys)
  pub whole_uncut : (size : ℕ) (transfers : List (List ℕ)) →
      has_cut (whole_stream size transfers) ≡ false
  pub abandoned_cut : (size max_bytes : ℕ) (before : List (List ℕ)) (read : List ℕ) →
      has_cut (abandoned_stream size max_bytes before read) ≡ true

-- A stream is over at its last entry and no sooner: a beginning that is over is all of it
pub record StreamsStopOnce : Type 0 where
  pub whole : (size : ℕ) (transfers : List (List ℕ)) (front rest : List Entry) →
      front ++ rest ≡ whole_stream size transfers → is_over (length transfers) front ≡ true →
      rest ≡ []
  pub whole_over : (size : ℕ) (transfers : List (List ℕ)) →
      is_over (length transfers) (whole_stream size transfers) ≡ true
  pub abandoned : (size max_bytes : ℕ) (before : List (List ℕ)) (read : List ℕ) (n : ℕ)
      (front rest : List Entry) → length before < n →
      front ++ rest ≡ abandoned_stream size max_bytes before read → is_over n front ≡ true →
      rest ≡ []
  pub abandoned_over : (size max_bytes : ℕ) (before : List (List ℕ)) (read : List ℕ) (n : ℕ) →
      is_over n (abandoned_stream size max_bytes before read) ≡ true

-- ---- transfers

-- The bytes of a transfer, as entries come: an entry belongs to the transfer after those that have ended
pub record EntriesAreOfTransfers : Type 0 where
  pub next : (k : ℕ) (xs : List Entry) (e : Entry) → ended_transfers xs ≡ k →
      transfer_bytes k (xs ++ e ∷ []) ≡ transfer_bytes k xs ++ e.bytes
  pub done : (k : ℕ) (xs ys : List Entry) → k < ended_transfers xs →
      transfer_bytes k (xs ++ ys) ≡ transfer_bytes k xs
  pub open_still : (k : ℕ) (xs ys : List Entry) → ended_transfers xs ≤ k →
      transfer_bytes k (xs ++ ys)
      ≡ transfer_bytes k xs ++ transfer_bytes (k - ended_transfers xs) ys
  pub to_come : (k : ℕ) (xs : List Entry) → ended_transfers xs < k → transfer_bytes k xs ≡ []

-- The bytes of transfer k of a whole stream are its data, and so are they in an abandoned one, but that the transfer in
-- which it stops has the bytes of its full blocks alone
pub record StreamsHaveTransfers : Type 0 where
  pub whole : (size : ℕ) (transfers : List (List ℕ)) (k : ℕ) (bytes : List ℕ) →
      slice_get transfers k ≡ Some bytes → transfer_bytes k (whole_stream size transfers) ≡ bytes
  pub abandoned : (size max_bytes : ℕ) (before : List (List ℕ)) (read : List ℕ) (k : ℕ)
      (bytes : List ℕ) → slice_get before k ≡ Some bytes →
      transfer_bytes k (abandoned_stream size max_bytes before read) ≡ bytes
  pub stopped : (size max_bytes : ℕ) (before : List (List ℕ)) (read : List ℕ) →
      transfer_bytes (length before) (abandoned_stream size max_bytes before read)
      ≡ take (blocks_before_stop size max_bytes before read * size) read
