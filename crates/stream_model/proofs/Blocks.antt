-- Full blocks, and the streams that they make.
use Rattle.std.proofs.Common.{◌≡◌, ℕ, zero, suc, ◌+◌, ◌-◌, ◌*◌, ◌/◌, ◌<◌, ◌≤◌, min, List, [], ◌∷◌, ◌++◌, length, take, drop, refl, sym, ap, ◌∙◌, subst, append_assoc, arith, length-append, length-drop}
use Rattle.std.specs.List.{flat_map}
use Rattle.std.proofs.Math.Nat.{div-mul-le_self, le-div_iff_mul-le, suc-mul, add-mul}
use Rattle.std.proofs.Math.Seq.{take-add}
use Rattle.std.proofs.lemmas.Grind.{flat_map-append}
use Rattle.std.proofs.lemmas.List.{append-nil, take-append-drop, take-append-le, drop-append-le}
use mathlib.Core.List.{IsPrefix}
use mathlib.Core.Logic.{dite}
use native.Mathlib.Decide.{ℕ_discrete}
use Rattle.ring_blocks.specs.declared.Entry.{Entry}
use Rattle.stream_model.specs.Blocks.{full_entry, last_entry, cut_entry, full_entries, transfer_entries, whole_stream, joined_data, blocks_before_stop, abandoned_stream, joined_bytes}
use Rattle.stream_model.specs.BlockLaws.{BytesAreJoined, StreamsAreShort, StreamsGrow, StreamsBegin}
use Rattle.stream_model.proofs.Entries.{prefix_trans, prefix_append}

-- ---- bytes

pub joined_append : (xs ys : List Entry) → joined_bytes (xs ++ ys) ≡ joined_bytes xs ++ joined_bytes ys
unfolding joined_bytes
joined_append xs ys = flat_map-append (λ (e : Entry). e.bytes) xs ys

joined_one : (e : Entry) → joined_bytes (e ∷ []) ≡ e.bytes
unfolding joined_bytes
joined_one e = append-nil e.bytes

next_bytes : (n size : ℕ) (bytes : List ℕ) →
    take (n * size) bytes ++ take size (drop (n * size) bytes) ≡ take (suc n * size) bytes
next_bytes n size bytes = sym (take-add (n * size) size bytes) ∙ ap (λ (k : ℕ). take k bytes) (sym (suc-mul n size))

pub joined_full : (size : ℕ) (bytes : List ℕ) (n : ℕ) → joined_bytes (full_entries size bytes n) ≡ take (n * size) bytes
unfolding full_entries joined_bytes
joined_full size bytes zero = ap (λ (k : ℕ). take k bytes) (let none : 0 ≡ 0 * size = omega arith in none)
joined_full size bytes (suc n) =
    joined_append (full_entries size bytes n) (full_entry (take size (drop (n * size) bytes)) ∷ [])
    ∙ (ap (λ l. l ++ joined_bytes (full_entry (take size (drop (n * size) bytes)) ∷ [])) (joined_full size bytes n)
    ∙ (ap (λ l. take (n * size) bytes ++ l) (joined_one (full_entry (take size (drop (n * size) bytes))))
    ∙ next_bytes n size bytes))

joined_transfer : (size : ℕ) (bytes : List ℕ) → joined_bytes (transfer_entries size bytes) ≡ bytes
unfolding transfer_entries
joined_transfer size bytes = let n = length bytes / size in
    joined_append (full_entries size bytes n) (last_entry (drop (n * size) bytes) ∷ [])
    ∙ (ap (λ l. l ++ joined_bytes (last_entry (drop (n * size) bytes) ∷ [])) (joined_full size bytes n)
    ∙ (ap (λ l. take (n * size) bytes ++ l) (joined_one (last_entry (drop (n * size) bytes)))
    ∙ take-append-drop (n * size) bytes))

joined_whole : (size : ℕ) (transfers : List (List ℕ)) →
    joined_bytes (whole_stream size transfers) ≡ joined_data transfers
unfolding whole_stream joined_data joined_bytes
joined_whole size [] = refl
joined_whole size (bytes ∷ later) =
    joined_append (transfer_entries size bytes) (whole_stream size later)
    ∙ (ap (λ l. l ++ joined_bytes (whole_stream size later)) (joined_transfer size bytes)
    ∙ ap (λ l. bytes ++ l) (joined_whole size later))

joined_cut : joined_bytes (cut_entry ∷ []) ≡ []
unfolding joined_bytes
joined_cut = refl

joined_abandoned : (size max_bytes : ℕ) (before : List (List ℕ)) (read : List ℕ) →
    joined_bytes (abandoned_stream size max_bytes before read)
    ≡ joined_data before ++ take (blocks_before_stop size max_bytes before read * size) read
unfolding abandoned_stream
joined_abandoned size max_bytes before read = let n = blocks_before_stop size max_bytes before read in
    joined_append (whole_stream size before) (full_entries size read n ++ cut_entry ∷ [])
    ∙ (ap (λ l. l ++ joined_bytes (full_entries size read n ++ cut_entry ∷ [])) (joined_whole size before)
    ∙ ap (λ l. joined_data before ++ l) (joined_append (full_entries size read n) (cut_entry ∷ [])
    ∙ (ap (λ l. joined_bytes (full_entries size read n) ++ l) joined_cut
    ∙ (append-nil (joined_bytes (full_entries size read n)) ∙ joined_full size read n))))

pub bytes_joined : BytesAreJoined
bytes_joined = record {
  append = joined_append;
  full = joined_full;
  whole = joined_whole;
  abandoned = joined_abandoned;
}

-- ---- how many blocks there are

before_stop_left : (size max_bytes : ℕ) (before : List (List ℕ)) (read : List ℕ) →
    blocks_before_stop size max_bytes before read * size ≤ max_bytes - length (joined_data before)
before_stop_left size max_bytes before read =
    let m = min (length read) (max_bytes - length (joined_data before)) in
    let within = div-mul-le_self m size in omega arith

length_full : (size : ℕ) (bytes : List ℕ) (n : ℕ) → length (full_entries size bytes n) ≡ n
unfolding full_entries
length_full size bytes zero = refl
length_full size bytes (suc n) = let before = length_full size bytes n in
    let next : List Entry = full_entry (take size (drop (n * size) bytes)) ∷ [] in
    omega (arith, length-append (full_entries size bytes n) next)

length_transfer : (size : ℕ) (bytes : List ℕ) → length (transfer_entries size bytes) ≡ length bytes / size + 1
unfolding transfer_entries
length_transfer size bytes = let n = length bytes / size in let full = length_full size bytes n in
    let last : List Entry = last_entry (drop (n * size) bytes) ∷ [] in
    omega (arith, length-append (full_entries size bytes n) last)

-- so many full blocks, which lie within the data
whole_count : (size : ℕ) (transfers : List (List ℕ)) → (full : ℕ)
    × (length (whole_stream size transfers) ≡ full + length transfers)
    × (full * size ≤ length (joined_data transfers))
unfolding whole_stream joined_data
whole_count size [] = (0, refl, omega arith)
whole_count size (bytes ∷ later) = let more = whole_count size later in let n = length bytes / size in (
  n + more.0,
  (let here = length_transfer size bytes in let there = more.1 in
      omega (arith, length-append (transfer_entries size bytes) (whole_stream size later))),
  (let here = div-mul-le_self (length bytes) size in let there = more.2 in
      omega (arith, add-mul n more.0 size, length-append bytes (joined_data later))),
)

short_so_far : (size max_bytes : ℕ) (before : List (List ℕ)) (bytes : List ℕ) (n : ℕ) → 0 < size →
    length (joined_data before) + n * size ≤ max_bytes →
    length (whole_stream size before ++ full_entries size bytes n) ≤ max_bytes / size + length before
short_so_far size max_bytes before bytes n some within = let count = whole_count size before in
    let most : count.0 + n ≤ max_bytes / size = (le-div_iff_mul-le {x = count.0 + n} {y = max_bytes} some).1
    (let there = count.2 in omega (arith, add-mul count.0 n size)) in
    let full = length_full size bytes n in let there = count.1 in
    omega (arith, length-append (whole_stream size before) (full_entries size bytes n))

short_whole : (size max_bytes : ℕ) (transfers : List (List ℕ)) → 0 < size →
    length (joined_data transfers) ≤ max_bytes →
    length (whole_stream size transfers) ≤ max_bytes / size + length transfers
short_whole size max_bytes transfers some within = let count = whole_count size transfers in
    let most : count.0 ≤ max_bytes / size = (le-div_iff_mul-le {x = count.0} {y = max_bytes} some).1
    (let there = count.2 in omega arith) in
    let there = count.1 in omega arith

short_abandoned : (size max_bytes : ℕ) (before : List (List ℕ)) (read : List ℕ) → 0 < size →
    length (joined_data before) ≤ max_bytes →
    length (abandoned_stream size max_bytes before read) ≤ max_bytes / size + length before + 1
unfolding abandoned_stream
short_abandoned size max_bytes before read some within = let n = blocks_before_stop size max_bytes before read in
    let left = before_stop_left size max_bytes before read in
    let so_far = short_so_far size max_bytes before read n some (omega arith) in
    let full = full_entries size read n in let whole = whole_stream size before in
    omega (
      arith,
      length-append whole (full ++ cut_entry ∷ []),
      length-append full (cut_entry ∷ []),
      length-append whole full,
    )

pub short : StreamsAreShort
short = record { so_far = short_so_far; whole = short_whole; abandoned = short_abandoned }

-- ---- how a stream grows

full_kept : (size : ℕ) (bytes more : List ℕ) (n : ℕ) → n * size ≤ length bytes →
    full_entries size (bytes ++ more) n ≡ full_entries size bytes n
unfolding full_entries
full_kept size bytes more zero within = refl
full_kept size bytes more (suc n) within = let e = suc-mul n size in
    let before = full_kept size bytes more n (omega arith) in
    let same : take size (drop (n * size) (bytes ++ more)) ≡ take size (drop (n * size) bytes) =
    ap (take size) (drop-append-le (n * size) bytes more (omega arith))
    ∙ take-append-le size (drop (n * size) bytes) more (omega (arith, length-drop (n * size) bytes)) in
    ap (λ l. l ++ full_entry (take size (drop (n * size) (bytes ++ more))) ∷ []) before
    ∙ ap (λ b. full_entries size bytes n ++ full_entry b ∷ []) same

whole_append : (size : ℕ) (xs ys : List (List ℕ)) →
    whole_stream size (xs ++ ys) ≡ whole_stream size xs ++ whole_stream size ys
unfolding whole_stream
whole_append size xs ys = flat_map-append (transfer_entries size) xs ys

whole_more : (size : ℕ) (before : List (List ℕ)) (bytes : List ℕ) →
    whole_stream size (before ++ bytes ∷ []) ≡ whole_stream size before ++ transfer_entries size bytes
unfolding whole_stream
whole_more size before bytes = flat_map-append (transfer_entries size) before (bytes ∷ [])
    ∙ ap (λ l. flat_map (transfer_entries size) before ++ l) (append-nil (transfer_entries size bytes))

data_append : (xs ys : List (List ℕ)) → joined_data (xs ++ ys) ≡ joined_data xs ++ joined_data ys
unfolding joined_data
data_append xs ys = flat_map-append (λ (bytes : List ℕ). bytes) xs ys

pub grow : StreamsGrow
grow = record { full = full_kept; append = whole_append; transfer = whole_more; joined = data_append }

full_begin : (size : ℕ) (bytes : List ℕ) (n m : ℕ) → n ≤ m →
    IsPrefix (full_entries size bytes n) (full_entries size bytes m)
unfolding full_entries
full_begin size bytes n zero below = let none : n ≡ zero = omega arith in
    ([], append-nil (full_entries size bytes n) ∙ ap (full_entries size bytes) none)
full_begin size bytes n (suc m) below = dite (ℕ_discrete n (suc m))
    (λ same. ([], append-nil (full_entries size bytes n) ∙ ap (full_entries size bytes) same))
    (λ other. let first = full_begin size bytes n m (omega arith) in
    let next : List Entry = full_entry (take size (drop (m * size) bytes)) ∷ [] in
    prefix_trans (full_entries size bytes n) (full_entries size bytes m) (full_entries size bytes m ++ next)
    first (next, refl))

begin_whole : (size : ℕ) (before later : List (List ℕ)) (bytes more : List ℕ) (n : ℕ) → 0 < size →
    n * size ≤ length bytes →
    IsPrefix (whole_stream size before ++ full_entries size bytes n)
    (whole_stream size (before ++ (bytes ++ more) ∷ later))
unfolding whole_stream transfer_entries
begin_whole size before later bytes more n some within = let all = bytes ++ more in
    let whole = whole_stream size before in let rest = whole_stream size later in
    let most = length all / size in
    let last : List Entry = last_entry (drop (most * size) all) ∷ [] in
    let below : n ≤ most = (le-div_iff_mul-le {x = n} {y = length all} some).1
    (omega (arith, length-append bytes more)) in
    let full : IsPrefix (full_entries size bytes n) (full_entries size all most) =
    subst (λ (l : List Entry). IsPrefix l (full_entries size all most)) (full_kept size bytes more n within)
    (full_begin size all n most below) in
    let here : IsPrefix (full_entries size bytes n) ((full_entries size all most ++ last) ++ rest) = (
      full.0 ++ (last ++ rest),
      sym (append_assoc (full_entries size bytes n) full.0 (last ++ rest))
          ∙ (ap (λ l. l ++ (last ++ rest)) full.1 ∙ sym (append_assoc (full_entries size all most) last rest)),
    ) in
    subst (λ (l : List Entry). IsPrefix (whole ++ full_entries size bytes n) l)
    (sym (whole_append size before (all ∷ later)))
    (prefix_append whole (full_entries size bytes n) ((full_entries size all most ++ last) ++ rest) here)

begin_here : (size max_bytes : ℕ) (before : List (List ℕ)) (bytes more : List ℕ) (n : ℕ) →
    n * size ≤ length bytes → n ≤ blocks_before_stop size max_bytes before (bytes ++ more) →
    IsPrefix (whole_stream size before ++ full_entries size bytes n)
    (abandoned_stream size max_bytes before (bytes ++ more))
unfolding abandoned_stream
begin_here size max_bytes before bytes more n within below = let all = bytes ++ more in
    let most = blocks_before_stop size max_bytes before all in
    let full : IsPrefix (full_entries size bytes n) (full_entries size all most) =
    subst (λ (l : List Entry). IsPrefix l (full_entries size all most)) (full_kept size bytes more n within)
    (full_begin size all n most below) in
    prefix_append (whole_stream size before) (full_entries size bytes n) (full_entries size all most ++ cut_entry ∷ [])
    (prefix_trans (full_entries size bytes n) (full_entries size all most)
    (full_entries size all most ++ cut_entry ∷ []) full (cut_entry ∷ [], refl))

begin_later : (size max_bytes : ℕ) (before : List (List ℕ)) (read : List ℕ) →
    IsPrefix (whole_stream size before) (abandoned_stream size max_bytes before read)
unfolding abandoned_stream
begin_later size max_bytes before read =
    (full_entries size read (blocks_before_stop size max_bytes before read) ++ cut_entry ∷ [], refl)

pub begin : StreamsBegin
begin = record { whole = begin_whole; here = begin_here; later = begin_later; follows = prefix_trans }
