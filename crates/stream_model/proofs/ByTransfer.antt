-- The bytes of each transfer.
use Rattle.std.proofs.Common.{◌≡◌, ℕ, zero, suc, ◌+◌, ◌-◌, ◌*◌, ◌/◌, ◌<◌, ◌≤◌, Bool, true, false, List, [], ◌∷◌, ◌++◌, length, take, drop, Some, slice_get, refl, sym, ap, ◌∙◌, append_assoc, arith}
use Rattle.std.specs.Prelude.{if◌then◌else◌}
use Rattle.std.proofs.lemmas.List.{append-nil, take-append-drop}
use Rattle.std.proofs.lemmas.Option.{slice_get_within}
use Rattle.ring_blocks.specs.declared.Entry.{Entry}
use Rattle.stream_model.specs.Blocks.{last_entry, cut_entry, full_entries, transfer_entries, whole_stream, blocks_before_stop, abandoned_stream, is_end, joined_bytes, ended_transfers, transfer_bytes}
use Rattle.stream_model.specs.BlockLaws.{EntriesAreOfTransfers, StreamsHaveTransfers}
use Rattle.stream_model.proofs.Blocks.{joined_full}
use Rattle.stream_model.proofs.Ends.{ended_full, ended_transfer, ended_whole}

-- ---- entries that come

done_first : (b : Bool) (ended : ℕ) (more before : List ℕ) → 0 < (if b then 1 else 0) + ended →
    (0 < ended → more ≡ before) → (if b then [] else more) ≡ (if b then [] else before)
done_first true ended more before some same = refl
done_first false ended more before some same = same (omega arith)

done_later : (b : Bool) (k ended : ℕ) (more before : ℕ → List ℕ) → suc k < (if b then 1 else 0) + ended →
    ((j : ℕ) → j < ended → more j ≡ before j) → more (if b then k else suc k) ≡ before (if b then k else suc k)
done_later true k ended more before some same = same k (omega arith)
done_later false k ended more before some same = same (suc k) (omega arith)

-- further entries change no transfer that has ended
done : (xs ys : List Entry) (k : ℕ) → k < ended_transfers xs → transfer_bytes k (xs ++ ys) ≡ transfer_bytes k xs
unfolding transfer_bytes ended_transfers
done [] ys k some = absurd (omega arith)
done (x ∷ xs) ys zero some = ap (λ l. x.bytes ++ l) (done_first (is_end x.mark) (ended_transfers xs)
    (transfer_bytes zero (xs ++ ys)) (transfer_bytes zero xs) some (λ near. done xs ys zero near))
done (x ∷ xs) ys (suc k) some = done_later (is_end x.mark) k (ended_transfers xs) (λ j. transfer_bytes j (xs ++ ys))
    (λ j. transfer_bytes j xs) some (λ j near. done xs ys j near)

come_first : (b : Bool) (ended k : ℕ) (bytes : ℕ → List ℕ) → (if b then 1 else 0) + ended < suc k →
    ((j : ℕ) → ended < j → bytes j ≡ []) → bytes (if b then k else suc k) ≡ []
come_first true ended k bytes later none = none k (omega arith)
come_first false ended k bytes later none = none (suc k) (omega arith)

-- nothing of a transfer has come while the one before goes on
to_come : (xs : List Entry) (k : ℕ) → ended_transfers xs < k → transfer_bytes k xs ≡ []
unfolding transfer_bytes ended_transfers
to_come [] zero later = refl
to_come [] (suc k) later = refl
to_come (x ∷ xs) zero later = absurd (omega arith)
to_come (x ∷ xs) (suc k) later =
    come_first (is_end x.mark) (ended_transfers xs) k (λ j. transfer_bytes j xs) later (λ j after. to_come xs j after)

nothing : (k : ℕ) → transfer_bytes k [] ≡ []
unfolding transfer_bytes
nothing zero = refl
nothing (suc k) = refl

open_first : (b : Bool) (ended : ℕ) (all before : List ℕ) (more : ℕ → List ℕ) → (if b then 1 else 0) + ended ≤ 0 →
    (ended ≤ 0 → all ≡ before ++ more (0 - ended)) →
    (if b then [] else all) ≡ (if b then [] else before) ++ more (0 - ((if b then 1 else 0) + ended))
open_first true ended all before more still same = absurd (omega arith)
open_first false ended all before more still same = same (omega arith)
    ∙ ap (λ k. before ++ more k) (let none : 0 - ended ≡ 0 - (0 + ended) = omega arith in none)

open_later : (b : Bool) (ended k : ℕ) (all before more : ℕ → List ℕ) → (if b then 1 else 0) + ended ≤ suc k →
    ((j : ℕ) → ended ≤ j → all j ≡ before j ++ more (j - ended)) →
    all (if b then k else suc k)
    ≡ before (if b then k else suc k) ++ more (suc k - ((if b then 1 else 0) + ended))
open_later true ended k all before more still same = same k (omega arith)
    ∙ ap (λ j. before k ++ more j) (let less : k - ended ≡ suc k - (1 + ended) = omega arith in less)
open_later false ended k all before more still same = same (suc k) (omega arith)
    ∙ ap (λ j. before (suc k) ++ more j) (let less : suc k - ended ≡ suc k - (0 + ended) = omega arith in less)

-- further entries come to the transfer that goes on, and to later ones
pub open_still : (xs ys : List Entry) (k : ℕ) → ended_transfers xs ≤ k →
    transfer_bytes k (xs ++ ys) ≡ transfer_bytes k xs ++ transfer_bytes (k - ended_transfers xs) ys
unfolding transfer_bytes ended_transfers
open_still [] ys k still = ap (λ j. transfer_bytes j ys) (let same : k ≡ k - 0 = omega arith in same)
    ∙ ap (λ l. l ++ transfer_bytes (k - 0) ys) (sym (nothing k))
open_still (x ∷ xs) ys zero still =
    ap (λ l. x.bytes ++ l) (open_first (is_end x.mark) (ended_transfers xs) (transfer_bytes zero (xs ++ ys))
    (transfer_bytes zero xs) (λ j. transfer_bytes j ys) still (λ near. open_still xs ys zero near))
    ∙ sym (append_assoc x.bytes _ _)
open_still (x ∷ xs) ys (suc k) still = open_later (is_end x.mark) (ended_transfers xs) k
    (λ j. transfer_bytes j (xs ++ ys)) (λ j. transfer_bytes j xs) (λ j. transfer_bytes j ys) still
    (λ j near. open_still xs ys j near)

either_nothing : (b : Bool) (bytes : List ℕ) → bytes ++ (if b then [] else transfer_bytes zero []) ≡ bytes
unfolding transfer_bytes
either_nothing true bytes = append-nil bytes
either_nothing false bytes = append-nil bytes

of_one : (e : Entry) → transfer_bytes zero (e ∷ []) ≡ e.bytes
unfolding transfer_bytes
of_one e = either_nothing (is_end e.mark) e.bytes

next : (k : ℕ) (xs : List Entry) (e : Entry) → ended_transfers xs ≡ k →
    transfer_bytes k (xs ++ e ∷ []) ≡ transfer_bytes k xs ++ e.bytes
next k xs e at = open_still xs (e ∷ []) k (omega arith)
    ∙ (ap (λ j. transfer_bytes k xs ++ transfer_bytes j (e ∷ []))
    (let first : k - ended_transfers xs ≡ zero = omega arith in first)
    ∙ ap (λ l. transfer_bytes k xs ++ l) (of_one e))

pub of_transfers : EntriesAreOfTransfers
of_transfers = record {
  next = next;
  done = λ k xs ys before. done xs ys k before;
  open_still = λ k xs ys still. open_still xs ys k still;
  to_come = λ k xs later. to_come xs k later;
}

-- ---- the transfers of a stream

go_on : (b : Bool) (ended : ℕ) (bytes rest joined : List ℕ) → (if b then 1 else 0) + ended ≡ 0 →
    (ended ≡ 0 → rest ≡ joined) → bytes ++ (if b then [] else rest) ≡ bytes ++ joined
go_on true ended bytes rest joined none same = absurd (omega arith)
go_on false ended bytes rest joined none same = ap (λ l. bytes ++ l) (same (omega arith))

-- while no transfer has ended, all bytes are of the first
first_joined : (xs : List Entry) → ended_transfers xs ≡ 0 → transfer_bytes zero xs ≡ joined_bytes xs
unfolding transfer_bytes ended_transfers joined_bytes
first_joined [] none = refl
first_joined (x ∷ xs) none =
    go_on (is_end x.mark) (ended_transfers xs) x.bytes (transfer_bytes zero xs) (joined_bytes xs) none (first_joined xs)

first_full : (size : ℕ) (bytes : List ℕ) (n : ℕ) →
    transfer_bytes zero (full_entries size bytes n) ≡ take (n * size) bytes
first_full size bytes n = first_joined (full_entries size bytes n) (ended_full size bytes n) ∙ joined_full size bytes n

first_transfer : (size : ℕ) (bytes : List ℕ) → transfer_bytes zero (transfer_entries size bytes) ≡ bytes
unfolding transfer_entries
first_transfer size bytes = let n = length bytes / size in
    next zero (full_entries size bytes n) (last_entry (drop (n * size) bytes)) (ended_full size bytes n)
    ∙ (ap (λ l. l ++ drop (n * size) bytes) (first_full size bytes n) ∙ take-append-drop (n * size) bytes)

later_last : (k : ℕ) (bytes : List ℕ) → transfer_bytes (suc k) (last_entry bytes ∷ []) ≡ []
unfolding transfer_bytes
later_last k bytes = nothing k

-- a transfer's entries have nothing of a later one
later_none : (size : ℕ) (bytes : List ℕ) (k : ℕ) → transfer_bytes (suc k) (transfer_entries size bytes) ≡ []
unfolding transfer_entries
later_none size bytes k = let n = length bytes / size in let full = full_entries size bytes n in
    let none = ended_full size bytes n in
    open_still full (last_entry (drop (n * size) bytes) ∷ []) (suc k) (omega arith)
    ∙ (ap (λ l. l ++ transfer_bytes (suc k - ended_transfers full) (last_entry (drop (n * size) bytes) ∷ []))
    (to_come full (suc k) (omega arith))
    ∙ (ap (λ j. transfer_bytes j (last_entry (drop (n * size) bytes) ∷ []))
    (let same : suc k - ended_transfers full ≡ suc k = omega arith in same)
    ∙ later_last k (drop (n * size) bytes)))

-- what comes after a transfer's entries is of the transfers after it
after_transfer : (size : ℕ) (bytes : List ℕ) (more : List Entry) (k : ℕ) →
    transfer_bytes (suc k) (transfer_entries size bytes ++ more) ≡ transfer_bytes k more
after_transfer size bytes more k = let one = ended_transfer size bytes in
    open_still (transfer_entries size bytes) more (suc k) (omega arith)
    ∙ (ap (λ l. l ++ transfer_bytes (suc k - ended_transfers (transfer_entries size bytes)) more)
    (later_none size bytes k)
    ∙ ap (λ j. transfer_bytes j more)
    (let same : suc k - ended_transfers (transfer_entries size bytes) ≡ k = omega arith in same))

whole_has : (size : ℕ) (transfers : List (List ℕ)) (k : ℕ) (bytes : List ℕ) → slice_get transfers k ≡ Some bytes →
    transfer_bytes k (whole_stream size transfers) ≡ bytes
unfolding whole_stream
whole_has size [] k bytes at = cc
whole_has size (first ∷ later) zero bytes at = let one = ended_transfer size first in
    done (transfer_entries size first) (whole_stream size later) zero (omega arith)
    ∙ (first_transfer size first ∙ cc)
whole_has size (first ∷ later) (suc k) bytes at =
    after_transfer size first (whole_stream size later) k ∙ whole_has size later k bytes at

-- nor has a whole stream anything of a further transfer
whole_no_more : (size : ℕ) (transfers : List (List ℕ)) →
    transfer_bytes (length transfers) (whole_stream size transfers) ≡ []
unfolding whole_stream
whole_no_more size [] = nothing zero
whole_no_more size (first ∷ later) =
    after_transfer size first (whole_stream size later) (length later) ∙ whole_no_more size later

abandoned_has : (size max_bytes : ℕ) (before : List (List ℕ)) (read : List ℕ) (k : ℕ) (bytes : List ℕ) →
    slice_get before k ≡ Some bytes → transfer_bytes k (abandoned_stream size max_bytes before read) ≡ bytes
unfolding abandoned_stream
abandoned_has size max_bytes before read k bytes at =
    let near = slice_get_within before k bytes at in let count = ended_whole size before in
    done (whole_stream size before)
    (full_entries size read (blocks_before_stop size max_bytes before read) ++ cut_entry ∷ []) k (omega arith)
    ∙ whole_has size before k bytes at

stopped_has : (size max_bytes : ℕ) (before : List (List ℕ)) (read : List ℕ) →
    transfer_bytes (length before) (abandoned_stream size max_bytes before read)
    ≡ take (blocks_before_stop size max_bytes before read * size) read
unfolding abandoned_stream
stopped_has size max_bytes before read = let n = blocks_before_stop size max_bytes before read in
    let full = full_entries size read n in let rest = full ++ cut_entry ∷ [] in
    let count = ended_whole size before in
    open_still (whole_stream size before) rest (length before) (omega arith)
    ∙ (ap (λ l. l ++ transfer_bytes (length before - ended_transfers (whole_stream size before)) rest)
    (whole_no_more size before)
    ∙ (ap (λ j. transfer_bytes j rest)
    (let none : length before - ended_transfers (whole_stream size before) ≡ zero = omega arith in none)
    ∙ (next zero full cut_entry (ended_full size read n)
    ∙ (append-nil (transfer_bytes zero full) ∙ first_full size read n))))

pub have_transfers : StreamsHaveTransfers
have_transfers = record { whole = whole_has; abandoned = abandoned_has; stopped = stopped_has }
