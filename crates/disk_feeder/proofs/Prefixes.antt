-- How the walk of the files goes on from a file that it came to.
use Rattle.std.proofs.Common.{◌≡◌, ℕ, zero, suc, ◌+◌, ◌-◌, ◌*◌, ◌<◌, ◌≤◌, ◌⊎◌, min, true, false, List, [], ◌∷◌, ◌++◌, Option, Some, None, length, take, drop, refl, sym, ap, ◌∙◌, inl, inr, append_assoc, arith}
use Rattle.std.specs.Prelude.{Bool, if◌then◌else◌, nat_lt}
use mathlib.Core.List.{IsPrefix}
use Rattle.std.proofs.lemmas.Bool.{cases_eq, cases_lt}
use Rattle.std.proofs.lemmas.List.{take_all, take-take, take-append-drop, get_or_past, length-append}
use Rattle.std.proofs.lemmas.List.FromFn.{length-map-range_with_len}
use Rattle.std.proofs.lemmas.Nat.{le-div}
use Rattle.ring_blocks.specs.declared.Entry.{Entry}
use Rattle.stream_model.specs.Blocks.{full_entries, whole_stream, joined_data, abandoned_stream}
use Rattle.stream_model.specs.BlockLaws.{StreamsBegin}
use Rattle.stream_model.specs.Walk as walk
use Rattle.stream_model.specs.Walk.{FileStream, WalkStop, begin_of, transfer_data, walk_data, data_between, header_stop, length_stop, stop_at, first_of_two, walk_stop, walk_stream, stream_to, stream_before}
use Rattle.stream_model.specs.WalkLaws.{IsIn, FilesAreInTransfers, DataJoin, FirstStopCounts, NoStopIsWhole, OneTransferMore}
use Rattle.disk_feeder.specs.Reached.{CameTo}
use Rattle.disk_feeder.proofs.Headers.{stop_blocks, stop_of_header}
use Rattle.disk_feeder.proofs.Reaching.{k_least, goes_on}

-- the laws that the walk is followed by
pub record WalkIsKnown : Type 0 where
  pub streams : StreamsBegin
  pub join : DataJoin
  pub transfers : FilesAreInTransfers
  pub first : FirstStopCounts
  pub whole : NoStopIsWhole
  pub more : OneTransferMore

prefix_to : (xs ys zs : List Entry) → IsPrefix xs ys → ys ≡ zs → IsPrefix xs zs
prefix_to xs ys zs p e = (p.0, p.1 ∙ e)

-- ---- where it stops

-- file k stops the walk, and the blocks are then those of the data of the files before number `to`
record StopsAt (s : FileStream) (k to : ℕ) : Type 0 where
  pub stop : WalkStop
  pub is : stop_at s k ≡ Some stop
  pub blocks : (size : ℕ) → stream_to size s stop ≡ stream_before size s k to
  pub from : k ≤ to
  pub past : header_stop s k ≡ None → to ≡ k + 1

by_length : (s : FileStream) (k : ℕ) (b : Bool) → nat_lt s.max_bytes (length (data_between s.files 0 (k + 1))) ≡ b →
    header_stop s k ≡ None → (stop_at s k ≡ None) ⊎ ((to : ℕ) × StopsAt s k to)
unfolding stop_at length_stop
by_length s k true e none = inr (
  k + 1,
  record {
    stop = walk.TooLong k;
    is = ap (λ (o : Option WalkStop). first_of_two o (length_stop s k)) none
        ∙ ap (λ (b : Bool). if b then Some (walk.TooLong k) else None) e;
    blocks = λ size. refl;
    from = omega arith;
    past = λ h. refl;
  },
)
by_length s k false e none = inl (
    ap (λ (o : Option WalkStop). first_of_two o (length_stop s k)) none
    ∙ ap (λ (b : Bool). if b then Some (walk.TooLong k) else None) e)

by_header : (s : FileStream) (k : ℕ) (h : Option WalkStop) → header_stop s k ≡ h →
    (stop_at s k ≡ None) ⊎ ((to : ℕ) × StopsAt s k to)
by_header s k None is =
    by_length s k (nat_lt s.max_bytes (length (data_between s.files 0 (k + 1)))) refl is
by_header s k (Some stop) is = inr (
  k,
  record {
    stop = stop;
    is = stop_of_header s k stop is;
    blocks = λ size. stop_blocks size s k stop is;
    from = omega arith;
    past = λ none. let e : Some stop ≡ None = sym is ∙ none in absurd cc;
  },
)

-- the first file from number k on that stops the walk
record FirstStop (s : FileStream) (k : ℕ) : Type 0 where
  pub file : ℕ
  pub to : ℕ
  pub at : StopsAt s file to
  pub from : k ≤ file
  pub there : file < length s.files
  pub is : walk_stop s ≡ at.stop

find_stop : FirstStopCounts → (s : FileStream) (d k : ℕ) → k + d ≡ length s.files →
    ((j : ℕ) → j < k → stop_at s j ≡ None) →
    ((j : ℕ) → j < length s.files → stop_at s j ≡ None) ⊎ FirstStop s k
find_stop first s zero k sum passed = inl (λ j below. passed j (omega arith))
find_stop first s (suc d) k sum passed = elim (by_header s k (header_stop s k) refl) [
  | inl none ↦
      elim (find_stop first s d (k + 1) (omega arith) (λ j below. elim (cases_eq j k) [
        | inl same ↦ ap (stop_at s) same ∙ none
        | inr other ↦ passed j (omega arith)
      ])) [
        | inl all ↦ inl all
        | inr f ↦ let from = f.from in inr (record {
          file = f.file;
          to = f.to;
          at = f.at;
          from = omega arith;
          there = f.there;
          is = f.is;
        })
      ]
  | inr at ↦ inr (record {
    file = k;
    to = at.0;
    at = at.1;
    from = omega arith;
    there = omega arith;
    is = first s k at.1.stop passed (omega arith) at.1.is;
  })
]

-- ---- transfers

-- the transfer of a file, from one transfer on
record InTransfer (s : FileStream) (t j : ℕ) : Type 0 where
  pub transfer : ℕ
  pub from : t ≤ transfer
  pub is : IsIn s transfer j

find_transfer : (s : FileStream) (d t j : ℕ) → t + suc d ≡ length s.starts → begin_of s t ≤ j → j < length s.files →
    InTransfer s t j
find_transfer s zero t j sum from below =
    let past : begin_of s (t + 1) ≡ length s.files = get_or_past s.starts (t + 1) (length s.files) (omega arith) in
    record {
      transfer = t;
      from = omega arith;
      is = record { there = omega arith; from = from; before = omega arith };
    }
find_transfer s (suc d) t j sum from below = elim (cases_lt j (begin_of s (t + 1))) [
  | inl less ↦ record {
    transfer = t;
    from = omega arith;
    is = record { there = omega arith; from = from; before = less };
  }
  | inr past ↦
      let f = find_transfer s d (t + 1) j (omega arith) past below in
      let more = f.from in
      record { transfer = f.transfer; from = omega arith; is = f.is }
]

-- the data of more transfers than t are those before it, its own, and later ones
module _ (more : OneTransferMore) (s : FileStream) (t u : ℕ) (there : t < length s.starts) (less : t < u) where
  abbrev later_data : List (List ℕ)
  later_data = drop (t + 1) (take u (walk_data s))

  split_data : take t (walk_data s) ++ transfer_data s t ∷ later_data ≡ take u (walk_data s)
  split_data =
      sym (append_assoc (take t (walk_data s)) (transfer_data s t ∷ []) later_data)
      ∙ ap (λ (xs : List (List ℕ)). xs ++ later_data) (sym (more s t there))
      ∙ ap (λ (xs : List (List ℕ)). xs ++ later_data) (sym (take-take (t + 1) u (walk_data s) (omega arith)))
      ∙ take-append-drop (t + 1) (take u (walk_data s))

all_data : (s : FileStream) → take (length s.starts) (walk_data s) ≡ walk_data s
unfolding walk_data
all_data s = take_all (length s.starts) (walk_data s)
    (omega (arith, length-map-range_with_len (transfer_data s) 0 (length s.starts)))

-- ---- what was sealed begins the walk's stream

module _ (known : WalkIsKnown) (s : FileStream) (t k : ℕ) (before : List (List ℕ)) (current : List ℕ)
    (c : CameTo s t k before current) (size n : ℕ) (some : 0 < size) (fits : n * size ≤ length current) where
  abbrev sealed : List Entry
  sealed = whole_stream size before ++ full_entries size current n

  k_most : k ≤ length s.files
  k_most = let a = k_least known.join s t k before current c in let b = c.most in omega arith

  -- the data go on to a later file of the transfer
  more_is : (last : ℕ) → c.to ≤ last →
      data_between s.files (begin_of s t) last ≡ current ++ (c.left ++ data_between s.files c.to last)
  more_is last less = goes_on known.join s t k before current c last less

  abbrev rest_of : List ℕ
  rest_of = c.left ++ data_between s.files c.to (begin_of s (t + 1))

  -- they begin the whole streams of more transfers
  begins_more : (u : ℕ) → t < u → IsPrefix sealed (whole_stream size (take u (walk_data s)))
  begins_more u less =
      let later = later_data known.more s t u c.there less in
      prefix_to sealed (whole_stream size (before ++ (current ++ rest_of) ∷ later))
      (whole_stream size (take u (walk_data s)))
      (known.streams.whole size before later current rest_of n some fits)
      (ap (λ (b : List (List ℕ)). whole_stream size (b ++ (current ++ rest_of) ∷ later)) c.earlier
      ∙ ap (λ (xs : List ℕ). whole_stream size (take t (walk_data s) ++ xs ∷ later))
      (sym (more_is (begin_of s (t + 1)) c.upto))
      ∙ ap (whole_stream size) (split_data known.more s t u c.there less))

  -- and the stream that a stop in this transfer gives
  begins_here : (last : ℕ) → c.to ≤ last →
      IsPrefix sealed
      (abandoned_stream size s.max_bytes (take t (walk_data s)) (data_between s.files (begin_of s t) last))
  begins_here last less =
      let more = c.left ++ data_between s.files c.to last in
      let sum : length (current ++ more) ≡ length current + length more = length-append current more in
      let few = c.few in
      prefix_to sealed (abandoned_stream size s.max_bytes before (current ++ more))
      (abandoned_stream size s.max_bytes (take t (walk_data s)) (data_between s.files (begin_of s t) last))
      (known.streams.here size s.max_bytes before current more n fits
      (le-div n (min (length (current ++ more)) (s.max_bytes - length (joined_data before))) size some (omega arith)))
      (ap (λ (b : List (List ℕ)). abandoned_stream size s.max_bytes b (current ++ more)) c.earlier
      ∙ ap (abandoned_stream size s.max_bytes (take t (walk_data s))) (sym (more_is last less)))

  -- the stop comes past what was read
  past_read : (f : FirstStop s k) → c.to ≤ f.to
  past_read f =
      let from = f.from in
      let upto = f.at.from in
      elim c.next [
        | inl e ↦ omega arith
        | inr e ↦
            let to = e.0 in
            elim (cases_eq f.file k) [
              | inl same ↦
                  let past = f.at.past (ap (header_stop s) same ∙ e.1) in omega arith
              | inr other ↦ omega arith
            ]
      ]

  begins_stopped : (f : FirstStop s k) → IsPrefix sealed (walk_stream size s)
  unfolding walk_stream
  begins_stopped f =
      let begin = c.from in
      let from = f.from in
      let most = c.there in
      let i = find_transfer s (length s.starts - t - 1) t f.file (omega arith) (omega arith) f.there in
      let u = i.transfer in
      let least = i.from in
      let is : stream_before size s f.file f.to ≡ walk_stream size s =
      sym (f.at.blocks size) ∙ ap (stream_to size s) (sym f.is) in
      let same : abandoned_stream size s.max_bytes (take u (walk_data s)) (data_between s.files (begin_of s u) f.to)
      ≡ stream_before size s f.file f.to =
      ap (λ (i : ℕ). abandoned_stream size s.max_bytes (take i (walk_data s))
      (data_between s.files (begin_of s i) f.to)) (sym (known.transfers s u f.file c.starts i.is)) in
      elim (cases_eq u t) [
        | inl here ↦
            prefix_to sealed
            (abandoned_stream size s.max_bytes (take t (walk_data s)) (data_between s.files (begin_of s t) f.to))
            (walk_stream size s) (begins_here f.to (past_read f))
            (ap (λ (i : ℕ). abandoned_stream size s.max_bytes (take i (walk_data s))
            (data_between s.files (begin_of s i) f.to)) (sym here)
            ∙ same ∙ is)
        | inr later ↦
            known.streams.follows sealed (whole_stream size (take u (walk_data s))) (walk_stream size s)
            (begins_more u (omega arith))
            (prefix_to (whole_stream size (take u (walk_data s)))
            (abandoned_stream size s.max_bytes (take u (walk_data s)) (data_between s.files (begin_of s u) f.to))
            (walk_stream size s)
            (known.streams.later size s.max_bytes (take u (walk_data s)) (data_between s.files (begin_of s u) f.to))
            (same ∙ is))
      ]

  begins_whole : ((j : ℕ) → j < length s.files → stop_at s j ≡ None) → IsPrefix sealed (walk_stream size s)
  unfolding walk_stream
  begins_whole all =
      prefix_to sealed (whole_stream size (take (length s.starts) (walk_data s))) (walk_stream size s)
      (begins_more (length s.starts) c.there)
      (ap (whole_stream size) (all_data s) ∙ ap (stream_to size s) (sym (known.whole s all)))

  pub begins_walk : IsPrefix sealed (walk_stream size s)
  begins_walk =
      let most = k_most in
      elim (find_stop known.first s (length s.files - k) k (omega arith) c.passed) [
        | inl all ↦ begins_whole all
        | inr f ↦ begins_stopped f
      ]
