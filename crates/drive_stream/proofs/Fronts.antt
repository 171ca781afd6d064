-- The data of one transfer, as a walk of its files streams them.
use Rattle.std.proofs.Common.{◌≡◌, ℕ, zero, suc, ◌+◌, ◌-◌, ◌*◌, ◌<◌, List, [], ◌∷◌, ◌++◌, length, take, drop, refl, sym, ap, ◌∙◌, subst, arith, append_assoc, take-append-drop}
use Rattle.std.specs.Prelude.{slice_index_or, Bool}
use mathlib.Core.Bool.{cond}
use Rattle.std.specs.List.{flat_map}
use Rattle.std.proofs.lemmas.Bool.{le-leb}
use Rattle.std.proofs.lemmas.List.{append-nil, take_all}
use Rattle.std.proofs.lemmas.Grind.{flat_map-append}
use mathlib.Core.List.{IsPrefix}
use Rattle.ring_blocks.specs.declared.Entry.{Entry}
use Rattle.stream_model.specs.Blocks.{joined_bytes, joined_data, abandoned_stream, blocks_before_stop, whole_stream}
use Rattle.stream_model.specs.BlockLaws.{BytesAreJoined}
use Rattle.stream_model.specs.Walk.{FileStream, WalkStop, Whole, BadText, BadFields, Gap, TooLong, data_of, data_between, transfer_of, transfer_data, walk_data, walk_stop, walk_stream, stream_to}
use Rattle.stream_model.specs.WalkLaws.{AreStarts, WalkJoinsData}

-- ---- fronts

pub whole_front : (xs ys : List ℕ) → xs ≡ ys → IsPrefix xs ys
whole_front xs ys is = ([], append-nil xs ∙ is)

pub taken_front : (n : ℕ) (xs : List ℕ) → IsPrefix (take n xs) xs
taken_front n xs = (drop n xs, take-append-drop n xs)

pub front_follows : (xs ys zs : List ℕ) → IsPrefix xs ys → IsPrefix ys zs → IsPrefix xs zs
front_follows xs ys zs first second = (
  first.0 ++ second.0,
  sym (append_assoc xs first.0 second.0)
      ∙ ap (λ (l : List ℕ). l ++ second.0) first.1 ∙ second.1,
)

pub same_front : (xs ys zs : List ℕ) → xs ≡ ys → IsPrefix ys zs → IsPrefix xs zs
same_front xs ys zs is front = let P : List ℕ → Type 0 = λ l. IsPrefix l zs in subst P (sym is) front

-- the bytes of the first blocks are the first bytes
pub bytes_front : BytesAreJoined → (xs ys : List Entry) → IsPrefix xs ys → IsPrefix (joined_bytes xs) (joined_bytes ys)
bytes_front join xs ys front =
    (joined_bytes front.0, sym (join.append xs front.0) ∙ ap joined_bytes front.1)

-- ---- one transfer

pub one_start : (starts : List ℕ) (count : ℕ) → length starts ≡ 1 → slice_index_or starts 0 count ≡ 0 →
    starts ≡ 0 ∷ []
one_start [] count one first = absurd (omega (arith, one))
one_start (x ∷ []) count one first = ap (λ y. y ∷ []) first
one_start (x ∷ y ∷ more) count one first = absurd (omega (arith, one))

-- the files of one transfer as a walk sees them
abbrev pub one_of : List (List ℕ) → ℕ → FileStream
one_of files limit = record { files = files; starts = 0 ∷ []; max_bytes = limit }

first_files : (files : List (List ℕ)) (k : ℕ) → IsPrefix (data_between files 0 k) (data_between files 0 (length files))
unfolding data_between
first_files files k = (
  flat_map data_of (drop k files),
  sym (flat_map-append data_of (take k files) (drop k files))
      ∙ ap (flat_map data_of) (take-append-drop k files ∙ sym (take_all (length files) files (omega arith))),
)

no_data : joined_data [] ≡ []
unfolding joined_data
no_data = refl

in_first : (k : ℕ) → transfer_of (0 ∷ []) k ≡ 0
unfolding transfer_of
in_first k = ap (λ (b : Bool). cond b 1 0 - 1) (le-leb 0 k (omega arith))

module _ (join : BytesAreJoined) (walked : WalkJoinsData) (files : List (List ℕ)) (limit size : ℕ)
    (some : 0 < length files) where
  abbrev w : FileStream
  w = one_of files limit

  starts : AreStarts (0 ∷ []) (length files)
  starts = record {
    some = omega arith;
    first = refl;
    rise = λ i below. absurd (omega (arith, below));
    within = λ i below. only i below;
  }
    where
      only : (i : ℕ) → i < 1 → slice_index_or (0 ∷ []) i (length files) < length files
      only zero below = some
      only (suc i) below = absurd (omega (arith, below))

  -- all data of the walk are those of the transfer
  pub whole_data : joined_bytes (whole_stream size (walk_data w)) ≡ transfer_data w 0
  whole_data = join.whole size (walk_data w) ∙ walked w starts

  abandoned_front : (t k : ℕ) → t ≡ 0 →
      IsPrefix (joined_bytes (abandoned_stream size limit (take t (walk_data w))
      (data_between files (slice_index_or (0 ∷ []) t (length files)) k))) (transfer_data w 0)
  abandoned_front t k is =
      let P : ℕ → Type 0 = λ t.
      IsPrefix (joined_bytes (abandoned_stream size limit (take t (walk_data w))
      (data_between files (slice_index_or (0 ∷ []) t (length files)) k))) (transfer_data w 0) in
      subst P (sym is) at_first
    where
      n : ℕ
      n = blocks_before_stop size limit [] (data_between files 0 k) * size

      at_first : IsPrefix (joined_bytes (abandoned_stream size limit [] (data_between files 0 k))) (transfer_data w 0)
      at_first =
          same_front _ (take n (data_between files 0 k)) (transfer_data w 0)
          (join.abandoned size limit [] (data_between files 0 k)
          ∙ ap (λ (l : List ℕ). l ++ take n (data_between files 0 k)) no_data)
          (front_follows (take n (data_between files 0 k)) (data_between files 0 k) (transfer_data w 0)
          (taken_front n (data_between files 0 k)) (first_files files k))

  stop_front : (stop : WalkStop) → IsPrefix (joined_bytes (stream_to size w stop)) (transfer_data w 0)
  stop_front Whole = whole_front _ (transfer_data w 0) whole_data
  stop_front (BadText k refusal) = abandoned_front (transfer_of (0 ∷ []) k) k (in_first k)
  stop_front (BadFields k fault) = abandoned_front (transfer_of (0 ∷ []) k) k (in_first k)
  stop_front (Gap k expected found) = abandoned_front (transfer_of (0 ∷ []) k) k (in_first k)
  stop_front (TooLong k) = abandoned_front (transfer_of (0 ∷ []) k) (k + 1) (in_first k)

  pub walk_front : IsPrefix (joined_bytes (walk_stream size w)) (transfer_data w 0)
  unfolding walk_stream
  walk_front = stop_front (walk_stop w)

  -- what a walk streams that is whole
  pub walk_whole : walk_stop w ≡ Whole → joined_bytes (walk_stream size w) ≡ transfer_data w 0
  unfolding walk_stream
  walk_whole is = ap (λ (stop : WalkStop). joined_bytes (stream_to size w stop)) is ∙ whole_data

  -- what was read before a fault of the inputs
  pub broken_front : (read t : ℕ) → t < 1 →
      IsPrefix (joined_bytes (abandoned_stream size limit (take t (walk_data w)) (take read (transfer_data w t))))
      (transfer_data w 0)
  broken_front read zero below =
      let some_read = take read (transfer_data w 0) in
      let n = blocks_before_stop size limit [] some_read * size in
      same_front _ (take n some_read) (transfer_data w 0)
      (join.abandoned size limit [] some_read ∙ ap (λ (l : List ℕ). l ++ take n some_read) no_data)
      (front_follows (take n some_read) some_read (transfer_data w 0) (taken_front n some_read)
      (taken_front read (transfer_data w 0)))
  broken_front read (suc t) below = absurd (omega (arith, below))
