-- Each step is an event of the machine that the ring shows.
use Rattle.std.proofs.Common.{◌≡◌, ◌≢◌, ◌⊎◌, ℕ, ◌+◌, ◌<◌, ◌≤◌, Bool, true, false, cond, eqb, leb, List, length, get_or, slice_get, is_some, Some, sym, refl, ap, ◌∙◌, subst, inl, inr, ⊎_elim, arith, eq-eqb, ne_eqb}
use Rattle.std.proofs.lemmas.Bool.Decides.{leb_tells}
use mathlib.Core.Option.{some}
use mathlib.Core.Logic.{dite}
use native.Mathlib.Decide.{ℕ_discrete}
use lib.ListN.{get_elem?}
use Rattle.ring_blocks.specs.declared.Entry.{Entry}
use Rattle.ring_core.specs.Machine.{Machine, Phase, Reader as Standing, Event, Answer, Does, Holds, IsIdle, greatest, with_reader}
use Rattle.ring_words.specs.declared.views.ReaderView.{ReaderView}
use Rattle.ring_words.specs.declared.shape.RingShape.{RingShape}
use Rattle.ring_words.specs.Views.{listed, after_look, after_writer_take, after_seal, after_hit, after_miss, after_give, after_clear, after_retire}
use Rattle.ring_words.specs.Ring.{Roles, count_word, phase_in_view, standing, shown}
use Rattle.ring_words.proofs.Listed.{got_at, at_listed, listed_at, listed_same, listed_set}
use Rattle.ring_words.proofs.Frames.{put, put_here, put_else, writer_now, reader_now}

-- the phase of a reader, from what its view says
abbrev phase : Bool → Bool → Bool → Phase
phase retired out got = cond retired Phase.Retired (cond out Phase.Out (cond got Phase.Read Phase.Ready))

registered : (out got : Bool) → phase false out got ≢ Phase.Retired
registered true got e = cc
registered false true e = cc
registered false false e = cc

pub is_registered : (r : ReaderView) → r.retired ≡ false → phase_in_view r ≢ Phase.Retired
is_registered r is = subst (λ b. phase b r.out (is_some r.got) ≢ Phase.Retired) (sym is)
    (registered r.out (is_some r.got))

idle : (got : Bool) → (phase false false got ≡ Phase.Ready) ⊎ (phase false false got ≡ Phase.Read)
idle true = inr refl
idle false = inl refl

pub is_idle : (r : ReaderView) → r.retired ≡ false → r.out ≡ false → IsIdle (standing r)
is_idle r is in_place = subst (λ (b : Bool × Bool). (phase b.0 b.1 (is_some r.got) ≡ Phase.Ready)
    ⊎ (phase b.0 b.1 (is_some r.got) ≡ Phase.Read)) (λ i. (sym is i, sym in_place i)) (idle (is_some r.got))

pub is_out : (r : ReaderView) → r.retired ≡ false → r.out ≡ true → phase_in_view r ≡ Phase.Out
is_out r is out = ap (λ (b : Bool × Bool). phase b.0 b.1 (is_some r.got)) (λ i. (is i, out i))

pub is_read : (r : ReaderView) (e : Entry) → r.retired ≡ false → r.out ≡ false → r.got ≡ Some e →
    phase_in_view r ≡ Phase.Read
is_read r e is in_place got = ap (λ (b : Bool × Bool × Bool). phase b.0 b.1 b.2)
    (λ i. (is i, in_place i, is_some (got i)))

is_out_from : (retired out got : Bool) → phase retired out got ≡ Phase.Out → out ≡ true
is_out_from true out got e = cc
is_out_from false true got e = refl
is_out_from false false true e = cc
is_out_from false false false e = cc

-- what the machine answers to a look
abbrev pub look_row : ℕ → ℕ → ℕ → ℕ → Answer Entry
look_row b h i n = cond (eqb n greatest) (Answer.RoomRetired i)
    (cond (leb (n + b) h) (Answer.Full i n) (Answer.Room i n))

module _ (b limit : ℕ) (shape : RingShape) (x : Roles) where
  m : Machine Entry
  m = shown shape x

  pub is_shown : (i : ℕ) → i < shape.readers → slice_get (listed (λ j. standing (x.reader j)) shape.readers) i
      ≡ Some (standing (x.reader i))
  is_shown i inside = got_at (listed (λ j. standing (x.reader j)) shape.readers) i (standing (x.reader i))
      (at_listed (λ j. standing (x.reader j)) shape.readers i inside)

  looks_at : (i n : ℕ) (r : ReaderView) → slice_get (listed (λ j. standing (x.reader j)) shape.readers) i
      ≡ Some (standing r) → length r.cleared < greatest → n ≡ count_word r → (z : Bool) → r.retired ≡ z
      → Does b limit (shown shape x) (Event.Look i) (look_row b (length x.writer.sealed) i n)
      (shown shape (writer_now x (after_look x.writer i n)))
  looks_at i n r there small is true retired = let e : n ≡ greatest = is
      ∙ ap (λ z. cond z greatest (length r.cleared)) retired in
      inl (
        standing r,
        there,
        ap (λ z. phase z r.out (is_some r.got)) retired,
        ap (λ z. cond z (Answer.RoomRetired i) (cond (leb (n + b) (length x.writer.sealed)) (Answer.Full i n)
            (Answer.Room i n))) (eq-eqb n greatest e),
        ap (λ k. shown shape (writer_now x (after_look x.writer i k))) e,
      )
  looks_at i n r there small is false retired = let e : n ≡ length r.cleared = is
      ∙ ap (λ z. cond z greatest (length r.cleared)) retired in
      let other = ap (λ z. cond z (Answer.RoomRetired i)
      (cond (leb (n + b) (length x.writer.sealed)) (Answer.Full i n) (Answer.Room i n)))
      (ne_eqb n greatest (λ t. omega arith)) in
      let new = ap (λ k. shown shape (writer_now x (after_look x.writer i k))) e in
      let here = is_registered r retired in
      ⊎_elim
      (λ (t : (leb (n + b) (length x.writer.sealed) ≡ true) × (n + b ≤ length x.writer.sealed)). let f = t.1 in
      inr (inl (
        standing r,
        there,
        here,
        (omega arith),
        other
            ∙ (ap (λ z. cond z (Answer.Full i n) (Answer.Room i n)) t.0
            ∙ ap (λ (k : ℕ). let y : Answer Entry = Answer.Full i k in y) e),
        new,
      )))
      (λ (t : (leb (n + b) (length x.writer.sealed) ≡ false) × (length x.writer.sealed < n + b)). let f = t.1 in
      inr (inr (inl (
        standing r,
        there,
        here,
        (omega arith),
        other
            ∙ (ap (λ z. cond z (Answer.Full i n) (Answer.Room i n)) t.0
            ∙ ap (λ (k : ℕ). let y : Answer Entry = Answer.Room i k in y) e),
        new,
      ))))
      (leb_tells (n + b) (length x.writer.sealed))

  pub does_look : (i n : ℕ) → i < shape.readers → length (x.reader i).cleared < greatest → n ≡ count_word (x.reader i)
      → Does b limit (shown shape x) (Event.Look i) (look_row b (length x.writer.sealed) i n)
      (shown shape (writer_now x (after_look x.writer i n)))
  does_look i n inside small is = looks_at i n (x.reader i) (is_shown i inside) small is (x.reader i).retired refl

  pub does_writer_take : x.writer.out ≡ false → length x.writer.sealed < limit →
      ((i : ℕ) → i < length x.writer.low → length x.writer.sealed < get_or x.writer.low i 0 + b)
      → Does b limit (shown shape x) Event.WriterTake (Answer.Taken (length x.writer.sealed))
      (shown shape (writer_now x (after_writer_take x.writer)))
  does_writer_take home below room = inr (inr (inr (home, (λ e. omega arith), room, refl, refl)))

  pub does_seal : (e : Entry) → x.writer.out ≡ true → Does b limit (shown shape x) (Event.Seal e)
      (Answer.Sealed (length x.writer.sealed)) (shown shape (writer_now x (after_seal x.writer e)))
  does_seal e out = inl (out, refl, refl)

  module _ (i : ℕ) (inside : i < shape.readers) (r : ReaderView) (is : r ≡ x.reader i) (going : r.retired ≡ false) where
    there : slice_get (listed (λ j. standing (x.reader j)) shape.readers) i ≡ Some (standing r)
    there = is_shown i inside ∙ ap (λ (q : ReaderView). Some (standing q)) (sym is)

    -- the machine with this reader changed
    changed : (r' : ReaderView) (st : Standing) → standing r' ≡ st →
        shown shape (reader_now x i r') ≡ with_reader (shown shape x) i st
    changed r' st same = ap (λ (l : List Standing). let y : Machine Entry =
        record { sealed = x.writer.sealed; writing = x.writer.out; low = x.writer.low; readers = l } in y)
        (listed_set (λ j. standing (x.reader j)) (λ j. standing (put x.reader i r' j)) shape.readers i st inside
        (ap standing (put_here x.reader i r') ∙ same) (λ j other. ap standing (put_else x.reader i r' j other)))

    -- and with it as it was
    unchanged : (r' : ReaderView) → standing r' ≡ standing r → shown shape (reader_now x i r') ≡ shown shape x
    unchanged r' same = ap (λ (l : List Standing). let y : Machine Entry =
        record { sealed = x.writer.sealed; writing = x.writer.out; low = x.writer.low; readers = l } in y)
        (listed_same (λ j. standing (put x.reader i r' j)) (λ j. standing (x.reader j)) shape.readers
        (λ j _. dite (ℕ_discrete j i)
        (λ e. ap (λ (k : ℕ). standing (put x.reader i r' k)) e
        ∙ (ap standing (put_here x.reader i r') ∙ (same
        ∙ (ap standing is ∙ ap (λ (k : ℕ). standing (x.reader k)) (sym e)))))
        (λ other. ap standing (put_else x.reader i r' j other))))

    pub shows_new : (r' : ReaderView) → slice_get (listed (λ j. standing (put x.reader i r' j)) shape.readers) i
        ≡ Some (standing r')
    shows_new r' = got_at (listed (λ j. standing (put x.reader i r' j)) shape.readers) i
        (standing (put x.reader i r' i))
        (at_listed (λ j. standing (put x.reader i r' j)) shape.readers i inside)
        ∙ ap (λ (q : ReaderView). Some (standing q)) (put_here x.reader i r')

    pub does_hit : (n : ℕ) (e : Entry) → r.out ≡ false → get_elem? x.writer.sealed (length r.cleared) ≡ some e
        → ((j : ℕ) → j < shape.readers → (x.reader j).out ≡ true → length (x.reader j).cleared ≢ length r.cleared)
        → Does b limit (shown shape x) (Event.ReaderTake i) (Answer.Got (length r.cleared) e)
        (shown shape (reader_now x i (after_hit r n e)))
    does_hit n e home at free = inr (inr (inl (
      standing r,
      e,
      there,
      is_idle r going home,
      (λ j (h : Holds (shown shape x) j (length r.cleared)).
          let q = listed_at (λ k. standing (x.reader k)) shape.readers j h.0 h.1 in
          free j q.0 (is_out_from (x.reader j).retired (x.reader j).out (is_some (x.reader j).got)
          (ap (λ (y : Standing). y.phase) q.1 ∙ h.2)) (ap (λ (y : Standing). y.cleared) q.1 ∙ h.3)),
      got_at x.writer.sealed (length r.cleared) e at,
      refl,
      changed (after_hit r n e) (record { cleared = length r.cleared; phase = Phase.Out })
          (ap (λ z. let y : Standing = record { cleared = length r.cleared; phase = phase z true true } in y) going),
    )))

    pub does_empty : (n : ℕ) → r.out ≡ false → length x.writer.sealed ≤ length r.cleared
        → Does b limit (shown shape x) (Event.ReaderTake i) (Answer.Empty (length r.cleared))
        (shown shape (reader_now x i (after_miss r n)))
    does_empty n home none = inl (standing r, there, is_idle r going home, none, refl, unchanged (after_miss r n) refl)

    pub does_busy : (n j : ℕ) → r.out ≡ false → length r.cleared < length x.writer.sealed → j < shape.readers →
        (x.reader j).retired ≡ false → (x.reader j).out ≡ true → length (x.reader j).cleared ≡ length r.cleared
        → Does b limit (shown shape x) (Event.ReaderTake i) (Answer.Busy (length r.cleared) j)
        (shown shape (reader_now x i (after_miss r n)))
    does_busy n j home some_left near live out same = inr (inl (
      standing r,
      j,
      there,
      is_idle r going home,
      some_left,
      (standing (x.reader j), is_shown j near, is_out (x.reader j) live out, same),
      refl,
      unchanged (after_miss r n) refl,
    ))

    pub does_give : r.out ≡ true → (e : Entry) → r.got ≡ Some e →
        Does b limit (shown shape x) (Event.Give i) Answer.Given (shown shape (reader_now x i (after_give r)))
    does_give out e got = inl (
      standing r,
      there,
      is_out r going out,
      refl,
      changed (after_give r) (record { cleared = length r.cleared; phase = Phase.Read })
          (ap (λ (z : Phase). let y : Standing = record { cleared = length r.cleared; phase = z } in y)
          (is_read (after_give r) e going refl got)),
    )

    pub does_clear : r.out ≡ false → (e : Entry) → r.got ≡ Some e →
        length (after_clear r).cleared ≡ length r.cleared + 1
        → Does b limit (shown shape x) (Event.Clear i) (Answer.Cleared (length r.cleared + 1))
        (shown shape (reader_now x i (after_clear r)))
    does_clear home e got long = inl (
      standing r,
      there,
      is_read r e going home got,
      refl,
      changed (after_clear r) (record { cleared = length r.cleared + 1; phase = Phase.Ready })
          (λ z. record { cleared = long z; phase = phase (going z) (home z) false }),
    )

    pub does_retire : r.out ≡ false → Does b limit (shown shape x) (Event.Retire i) Answer.Retired
        (shown shape (reader_now x i (after_retire r)))
    does_retire home = inl (
      standing r,
      there,
      is_idle r going home,
      refl,
      changed (after_retire r) (record { cleared = length r.cleared; phase = Phase.Retired }) refl,
    )
