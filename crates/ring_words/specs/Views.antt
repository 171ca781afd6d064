-- Reading views, and what each step makes of them.
-- Source: PSRDADA manual (ring buffers of a writer and its readers); the views are this project's choice.
use Rattle.std.specs.Prelude.{ℕ, zero, suc, ◌+◌, true, false, List, [], ◌∷◌, ◌++◌, drop, replicate, slice_set, slice_index_or, Option, Some, None}
use Rattle.ring_blocks.specs.declared.Entry.{Entry}
use Rattle.ring_words.specs.declared.shape.RingShape.{RingShape}
use Rattle.ring_words.specs.declared.views.View.{View}
use Rattle.ring_words.specs.declared.views.ReaderView.{ReaderView}
use Rattle.ring_words.specs.declared.views.WriterView.{WriterView}
use Rattle.ring_words.specs.declared.views.View.TheVariants.{Writer, Reader, Spent}

-- f 0, f 1 and so on, n of them
abbrev pub listed : {A : Type 0} → (ℕ → A) → ℕ → List A
listed f zero = []
listed f (suc n) = listed f n ++ f n ∷ []

-- a reader that has done nothing
abbrev pub fresh_reader : RingShape → ℕ → ReaderView
fresh_reader shape i = record {
  shape = shape;
  number = i;
  cleared = [];
  got = None;
  out = false;
  retired = false;
  tries = 0;
  last_try = None;
}

-- a writer that has done nothing, and has all readers
abbrev pub fresh_writer : RingShape → WriterView
fresh_writer shape = record {
  shape = shape;
  sealed = [];
  low = replicate shape.readers 0;
  out = false;
  looks = 0;
  last_look = None;
  parked = listed (λ i. Some (fresh_reader shape i)) shape.readers;
  split = 0;
}

abbrev nowhere : RingShape
nowhere = record { buffers = 0; size = 0; readers = 0; max_blocks = 0 }

-- the view of a writer's seat
abbrev pub writer_of : View → WriterView
writer_of (Writer w) = w
writer_of (Reader r) = fresh_writer nowhere
writer_of Spent = fresh_writer nowhere

-- the view of a reader's seat
abbrev pub reader_of : View → ReaderView
reader_of (Writer w) = fresh_reader nowhere 0
reader_of (Reader r) = r
reader_of Spent = fresh_reader nowhere 0

-- it looked at the reader i and saw n
abbrev pub after_look : WriterView → ℕ → ℕ → WriterView
after_look w i n = record w {
  low = slice_set w.low i n;
  looks = w.looks + 1;
  last_look = Some (i, n);
}

abbrev pub after_writer_take : WriterView → WriterView
after_writer_take w = record w { out = true }

abbrev pub after_seal : WriterView → Entry → WriterView
after_seal w e = record w { sealed = w.sealed ++ e ∷ []; out = false }

-- it tried, found the word n, and holds the block e
abbrev pub after_hit : ReaderView → ℕ → Entry → ReaderView
after_hit r n e = record r { got = Some e; out = true; tries = r.tries + 1; last_try = Some n }

-- it tried in vain, and found the word n
abbrev pub after_miss : ReaderView → ℕ → ReaderView
after_miss r n = record r { tries = r.tries + 1; last_try = Some n }

abbrev pub after_give : ReaderView → ReaderView
after_give r = record r { out = false }

-- what it got, as a list
abbrev pub got_list : Option Entry → List Entry
got_list None = []
got_list (Some e) = e ∷ []

abbrev pub after_clear : ReaderView → ReaderView
after_clear r = record r { cleared = r.cleared ++ got_list r.got; got = None }

abbrev pub after_retire : ReaderView → ReaderView
after_retire r = record r { got = None; retired = true }

-- the view of a reader, if there is one
abbrev pub reader_or_spent : Option ReaderView → View
reader_or_spent None = Spent
reader_or_spent (Some r) = Reader r

-- the reader i, where it has no seat of its own
abbrev pub parked_at : WriterView → ℕ → Option ReaderView
parked_at w i = slice_index_or w.parked i None

-- the next reader gets a seat
abbrev pub after_split : WriterView → WriterView
after_split w = record w { parked = slice_set w.parked w.split None; split = w.split + 1 }

-- a reader loses its seat
abbrev pub after_join : WriterView → ReaderView → WriterView
after_join w r = record w { parked = slice_set w.parked r.number (Some r) }

-- what is left of the first view, and what the new seat knows
abbrev pub kept_by_split : View → View
kept_by_split (Writer w) = Writer (after_split w)
kept_by_split (Reader r) = Reader r
kept_by_split Spent = Spent

abbrev pub given_by_split : View → View
given_by_split (Writer w) = reader_or_spent (parked_at w w.split)
given_by_split (Reader r) = Spent
given_by_split Spent = Spent

-- the writer's view with that of a reader
abbrev pub joined : View → View → View
joined (Writer w) (Reader r) = Writer (after_join w r)
joined v u = v

-- a writer that has done nothing, where n readers got their seats
abbrev pub seated_writer : RingShape → ℕ → WriterView
seated_writer shape n = record (fresh_writer shape) {
  parked = replicate n None ++ drop n (fresh_writer shape).parked;
  split = n;
}
