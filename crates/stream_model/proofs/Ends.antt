-- The ends of transfers and of streams.
use Rattle.std.proofs.Common.{◌≡◌, ℕ, zero, suc, ◌+◌, ◌*◌, ◌/◌, ◌<◌, ◌≤◌, ◌⊎◌, inl, inr, Bool, true, false, ◌||◌, List, [], ◌∷◌, ◌++◌, length, take, drop, refl, sym, ap, ◌∙◌, append_assoc, arith}
use Rattle.std.specs.Prelude.{nat_le}
use Rattle.std.proofs.lemmas.Bool.{leb-true, le-leb, or_left, or_right}
use Rattle.std.proofs.lemmas.List.{append-nil}
use Rattle.std.proofs.lemmas.List.Folds.{list_any-append}
use Rattle.ring_blocks.specs.declared.Entry.{Entry}
use Rattle.stream_model.specs.Blocks.{full_entry, last_entry, cut_entry, full_entries, transfer_entries, whole_stream, blocks_before_stop, abandoned_stream, is_cut, ended_transfers, has_cut, is_over}
use Rattle.stream_model.specs.BlockLaws.{EndsAreCounted, StreamsStopOnce}
use Rattle.stream_model.proofs.Entries.{front_of_last}

-- ---- how many transfers have ended

pub ended_append : (xs ys : List Entry) → ended_transfers (xs ++ ys) ≡ ended_transfers xs + ended_transfers ys
unfolding ended_transfers
ended_append [] ys = omega arith
ended_append (x ∷ xs) ys = let more = ended_append xs ys in omega arith

pub ended_full : (size : ℕ) (bytes : List ℕ) (n : ℕ) → ended_transfers (full_entries size bytes n) ≡ 0
unfolding full_entries ended_transfers
ended_full size bytes zero = refl
ended_full size bytes (suc n) = let before = ended_full size bytes n in
    omega (arith, ended_append (full_entries size bytes n) (full_entry (take size (drop (n * size) bytes)) ∷ []))

pub ended_transfer : (size : ℕ) (bytes : List ℕ) → ended_transfers (transfer_entries size bytes) ≡ 1
unfolding transfer_entries ended_transfers
ended_transfer size bytes = let full = ended_full size bytes (length bytes / size) in
    omega (
      arith,
      ended_append (full_entries size bytes (length bytes / size))
          (last_entry (drop (length bytes / size * size) bytes) ∷ []),
    )

pub ended_whole : (size : ℕ) (transfers : List (List ℕ)) →
    ended_transfers (whole_stream size transfers) ≡ length transfers
unfolding whole_stream ended_transfers
ended_whole size [] = refl
ended_whole size (bytes ∷ later) = let here = ended_transfer size bytes in let there = ended_whole size later in
    omega (arith, ended_append (transfer_entries size bytes) (whole_stream size later))

ended_abandoned : (size max_bytes : ℕ) (before : List (List ℕ)) (read : List ℕ) →
    ended_transfers (abandoned_stream size max_bytes before read) ≡ length before
unfolding abandoned_stream ended_transfers
ended_abandoned size max_bytes before read = let n = blocks_before_stop size max_bytes before read in
    let full = full_entries size read n in
    let here = ended_full size read n in let there = ended_whole size before in
    omega (
      arith,
      ended_append (whole_stream size before) (full ++ cut_entry ∷ []),
      ended_append full (cut_entry ∷ []),
    )

-- ---- whether the stream was given up

cut_append : (xs ys : List Entry) → has_cut (xs ++ ys) ≡ (has_cut xs || has_cut ys)
unfolding has_cut
cut_append xs ys = list_any-append (λ (e : Entry). is_cut e.mark) xs ys

-- two lists that were not given up
both_uncut : (xs ys : List Entry) → has_cut xs ≡ false → has_cut ys ≡ false → has_cut (xs ++ ys) ≡ false
both_uncut xs ys first second = cut_append xs ys
    ∙ (ap (λ b. b || has_cut ys) first ∙ second)

full_uncut : (size : ℕ) (bytes : List ℕ) (n : ℕ) → has_cut (full_entries size bytes n) ≡ false
unfolding full_entries has_cut
full_uncut size bytes zero = refl
full_uncut size bytes (suc n) = both_uncut (full_entries size bytes n) (full_entry _ ∷ [])
    (full_uncut size bytes n) refl

transfer_uncut : (size : ℕ) (bytes : List ℕ) → has_cut (transfer_entries size bytes) ≡ false
unfolding transfer_entries has_cut
transfer_uncut size bytes = both_uncut (full_entries size bytes (length bytes / size)) (last_entry _ ∷ [])
    (full_uncut size bytes (length bytes / size)) refl

whole_uncut : (size : ℕ) (transfers : List (List ℕ)) → has_cut (whole_stream size transfers) ≡ false
unfolding whole_stream has_cut
whole_uncut size [] = refl
whole_uncut size (bytes ∷ later) = both_uncut (transfer_entries size bytes) (whole_stream size later)
    (transfer_uncut size bytes) (whole_uncut size later)

cut_last : (xs : List Entry) → has_cut (xs ++ cut_entry ∷ []) ≡ true
unfolding has_cut
cut_last xs = cut_append xs (cut_entry ∷ []) ∙ or_right (has_cut xs) true refl

-- an abandoned stream is its other entries, and then a Cut
abbrev pub before_cut : ℕ → ℕ → List (List ℕ) → List ℕ → List Entry
before_cut size max_bytes before read =
    whole_stream size before ++ full_entries size read (blocks_before_stop size max_bytes before read)

abandoned_is : (size max_bytes : ℕ) (before : List (List ℕ)) (read : List ℕ) →
    abandoned_stream size max_bytes before read ≡ before_cut size max_bytes before read ++ cut_entry ∷ []
unfolding abandoned_stream
abandoned_is size max_bytes before read = sym (append_assoc (whole_stream size before)
    (full_entries size read (blocks_before_stop size max_bytes before read)) (cut_entry ∷ []))

abandoned_cut : (size max_bytes : ℕ) (before : List (List ℕ)) (read : List ℕ) →
    has_cut (abandoned_stream size max_bytes before read) ≡ true
abandoned_cut size max_bytes before read =
    ap has_cut (abandoned_is size max_bytes before read) ∙ cut_last (before_cut size max_bytes before read)

pub counted : EndsAreCounted
counted = record {
  append = ended_append;
  whole = ended_whole;
  abandoned = ended_abandoned;
  cut_append = cut_append;
  whole_uncut = whole_uncut;
  abandoned_cut = abandoned_cut;
}

-- ---- a stream stops once

or_no_left : (a b : Bool) → (a || b) ≡ false → a ≡ false
or_no_left false b e = refl
or_no_left true b e = e

or_cases : (a b : Bool) → (a || b) ≡ true → (a ≡ true) ⊎ (b ≡ true)
or_cases true b e = inl refl
or_cases false b e = inr e

-- a beginning of a list that was not given up
front_uncut : (front rest all : List Entry) → front ++ rest ≡ all → has_cut all ≡ false → has_cut front ≡ false
front_uncut front rest all e uncut = or_no_left (has_cut front) (has_cut rest)
    (sym (cut_append front rest) ∙ (ap has_cut e ∙ uncut))

-- a whole stream of one transfer or more ends with an End
whole_last : (size : ℕ) (bytes : List ℕ) (later : List (List ℕ)) →
    (init : List Entry) × (last : List ℕ) × (whole_stream size (bytes ∷ later) ≡ init ++ last_entry last ∷ [])
unfolding whole_stream transfer_entries
whole_last size bytes [] = (
  full_entries size bytes (length bytes / size),
  drop (length bytes / size * size) bytes,
  append-nil (full_entries size bytes (length bytes / size)
      ++ last_entry (drop (length bytes / size * size) bytes) ∷ []),
)
whole_last size bytes (next ∷ later) = let more = whole_last size next later in (
  transfer_entries size bytes ++ more.0,
  more.1,
  ap (λ l. transfer_entries size bytes ++ l) more.2
      ∙ sym (append_assoc (transfer_entries size bytes) more.0 (last_entry more.1 ∷ [])),
)

-- where all transfers have ended, nothing is left that ends with an End
none_left : (n : ℕ) (front rest all init : List Entry) (last : List ℕ) → front ++ rest ≡ all →
    all ≡ init ++ last_entry last ∷ [] → ended_transfers all ≡ n → n ≤ ended_transfers front → rest ≡ []
unfolding ended_transfers
none_left n front rest all init last e is count over =
    elim (front_of_last front rest init (last_entry last) (e ∙ is)) [
      | inl none ↦ none
      | inr more ↦ absurd
          (let parts : ended_transfers (front ++ rest) ≡ n = ap ended_transfers e ∙ count in
          let ends : ended_transfers rest ≡ ended_transfers (more.0 ++ last_entry last ∷ []) =
          ap ended_transfers more.1 in
          omega (arith, ended_append front rest, ended_append more.0 (last_entry last ∷ [])))
    ]

whole_stops : (size : ℕ) (transfers : List (List ℕ)) (front rest : List Entry) →
    front ++ rest ≡ whole_stream size transfers → is_over (length transfers) front ≡ true → rest ≡ []
unfolding whole_stream
whole_stops size [] [] rest e over = e
whole_stops size [] (x ∷ xs) rest e over = cc
whole_stops size (bytes ∷ later) front rest e over = let last = whole_last size bytes later in
    elim (or_cases (nat_le (length (bytes ∷ later)) (ended_transfers front)) (has_cut front) over) [
      | inl ended ↦ none_left (length (bytes ∷ later)) front rest (whole_stream size (bytes ∷ later)) last.0 last.1 e
          last.2 (ended_whole size (bytes ∷ later)) (leb-true _ _ ended)
      | inr cut ↦ let uncut = front_uncut front rest (whole_stream size (bytes ∷ later)) e
          (whole_uncut size (bytes ∷ later)) in cc
    ]

whole_over : (size : ℕ) (transfers : List (List ℕ)) → is_over (length transfers) (whole_stream size transfers) ≡ true
whole_over size transfers = or_left _ (has_cut (whole_stream size transfers))
    (le-leb (length transfers) (ended_transfers (whole_stream size transfers))
    (let count = ended_whole size transfers in omega arith))

abandoned_stops : (size max_bytes : ℕ) (before : List (List ℕ)) (read : List ℕ) (n : ℕ) (front rest : List Entry) →
    length before < n → front ++ rest ≡ abandoned_stream size max_bytes before read → is_over n front ≡ true →
    rest ≡ []
abandoned_stops size max_bytes before read n front rest below e over =
    elim (or_cases (nat_le n (ended_transfers front)) (has_cut front) over) [
      | inl ended ↦ absurd
          (let more = leb-true n (ended_transfers front) ended in
          let all : ended_transfers (front ++ rest) ≡ length before =
          ap ended_transfers e ∙ ended_abandoned size max_bytes before read in
          omega (arith, ended_append front rest))
      | inr cut ↦ elim (front_of_last front rest (before_cut size max_bytes before read) cut_entry
          (e ∙ abandoned_is size max_bytes before read)) [
            | inl none ↦ none
            | inr more ↦ let uncut = front_uncut front more.0 (before_cut size max_bytes before read) more.2
                (both_uncut (whole_stream size before)
                (full_entries size read (blocks_before_stop size max_bytes before read)) (whole_uncut size before)
                (full_uncut size read (blocks_before_stop size max_bytes before read))) in cc
          ]
    ]

abandoned_over : (size max_bytes : ℕ) (before : List (List ℕ)) (read : List ℕ) (n : ℕ) →
    is_over n (abandoned_stream size max_bytes before read) ≡ true
abandoned_over size max_bytes before read n = or_right _ _ (abandoned_cut size max_bytes before read)

pub stops : StreamsStopOnce
stops = record {
  whole = whole_stops;
  whole_over = whole_over;
  abandoned = abandoned_stops;
  abandoned_over = abandoned_over;
}
