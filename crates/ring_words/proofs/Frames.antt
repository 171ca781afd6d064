-- What a step leaves alone: buffers, readers and seats that it does not touch. A step of the writer, and one of a
-- reader, from their parts.
use Rattle.std.proofs.Common.{◌≡◌, ◌≢◌, ℕ, ◌+◌, ◌%◌, ◌<◌, ◌≤◌, true, false, eqb, cond, List, length, get_or, set, Option, sym, refl, ap, ◌∙◌, subst, ⊎_elim, eq-eqb, ne_eqb}
use mathlib.Core.Option as maybe
use mathlib.Core.Option.{some, some-injective}
use mathlib.Core.Logic.{dite}
use native.Mathlib.Decide.{ℕ_discrete}
use lib.ListN.{get_elem?}
use Rattle.atomic_table.specs.Table.{State}
use Rattle.atomic_table.proofs.Lists.{at_set, set_here, set_else}
use Rattle.ring_blocks.specs.declared.Block.{Block}
use Rattle.ring_blocks.specs.declared.Entry.{Entry}
use Rattle.ring_words.specs.declared.shape.RingShape.{RingShape}
use Rattle.ring_words.specs.declared.views.View.{View}
use Rattle.ring_words.specs.declared.views.ReaderView.{ReaderView}
use Rattle.ring_words.specs.declared.views.WriterView.{WriterView}
use Rattle.ring_words.specs.declared.views.View.TheVariants.{Writer, Reader, Spent}
use Rattle.ring_words.specs.Ring.{Holder, at_home, by_reader, by_writer, Turn, Roles, IsNewest, Begins, Held, TurnOk, ReaderOk, WriterOk, Knows, HoldsFor, count_word}
use Rattle.ring_words.proofs.Counts.{at_below}

module _ {A : Type 0} where
  -- f, with x at i
  abbrev pub put : (ℕ → A) → ℕ → A → ℕ → A
  put f i x j = cond (eqb j i) x (f j)

  pub put_here : (f : ℕ → A) (i : ℕ) (x : A) → put f i x i ≡ x
  put_here f i x = ap (λ b. cond b x (f i)) (eq-eqb i i refl)

  pub put_else : (f : ℕ → A) (i : ℕ) (x : A) (j : ℕ) → j ≢ i → put f i x j ≡ f j
  put_else f i x j other = ap (λ b. cond b x (f j)) (ne_eqb j i other)

-- what is true of the new value at i and of the old ones elsewhere is true of all
pub at_put : {A : Type 0} (P : ℕ → A → Type 0) (f : ℕ → A) (i : ℕ) (x : A) (n : ℕ) → P i x →
    ((j : ℕ) → j < n → j ≢ i → P j (f j)) → (j : ℕ) → j < n → P j (put f i x j)
at_put {A} P f i x n here others j below = dite (ℕ_discrete j i)
    (λ same. subst (λ (z : ℕ). P z (put f i x z)) (sym same) (subst (λ (z : A). P i z) (sym (put_here f i x)) here))
    (λ other. subst (λ (z : A). P j z) (sym (put_else f i x j other)) (others j below other))

-- another view of the writer, of reader i, and another turn of buffer k
abbrev pub writer_now : Roles → WriterView → Roles
writer_now x w = record x { writer = w }

abbrev pub reader_now : Roles → ℕ → ReaderView → Roles
reader_now x i r = record x { reader = put x.reader i r }

abbrev pub turn_now : Roles → ℕ → Turn → Roles
turn_now x k t = record x { turn = put x.turn k t }

abbrev pub Homes : Type 0
Homes = List (maybe.Option Block)

-- What has to stay for a buffer k with the newest n: the block at home, and what its holder knows.
pub record Stays (shape : RingShape) (x x' : Roles) (homes homes' : Homes) (k n : ℕ) : Type 0 where
  pub home : get_elem? homes' k ≡ get_elem? homes k
  pub sealed : (m : ℕ) (e : Entry) → get_elem? x.writer.sealed m ≡ some e → get_elem? x'.writer.sealed m ≡ some e
  pub readers : (i : ℕ) → (x.reader i).out ≡ true → n ≡ length (x.reader i).cleared + 1 →
      ((x'.reader i).out ≡ true) × (n ≡ length (x'.reader i).cleared + 1)
  pub writer : x.writer.out ≡ true → k ≡ length x.writer.sealed % shape.buffers → (x'.writer.out ≡ true)
      × (k ≡ length x'.writer.sealed % shape.buffers)

module _ (shape : RingShape) where
  pub held_kept : (x x' : Roles) (homes homes' : Homes) (k n : ℕ) → Stays shape x x' homes homes' k n →
      (h : Holder) → Held shape x homes k n h → Held shape x' homes' k n h
  held_kept x x' homes homes' k n stays at_home held =
      (held.0, stays.home ∙ held.1, held.2, λ m e. stays.sealed m _ (held.3 m e))
  held_kept x x' homes homes' k n stays (by_reader i) held = let t = stays.readers i held.1 held.2 in
      (held.0, t.0, t.1)
  held_kept x x' homes homes' k n stays by_writer held = stays.writer held.0 held.1

  pub turn_kept : (x x' : Roles) (words words' : List ℕ) (homes homes' : Homes) (k : ℕ) (t : Turn) →
      get_or words' k 0 ≡ get_or words k 0 → IsNewest shape.buffers (length x'.writer.sealed) k t.newest →
      Stays shape x x' homes homes' k t.newest → TurnOk shape x words homes k t → TurnOk shape x' words' homes' k t
  turn_kept x x' words words' homes homes' k t word newest stays ok = record {
    shows = word ∙ ok.shows;
    newest = newest;
    held = held_kept x x' homes homes' k t.newest stays t.holder ok.held;
  }

  pub reader_kept : (x x' : Roles) (words words' : List ℕ) (i : ℕ) (r : ReaderView) →
      get_or words' (shape.buffers + i) 0 ≡ get_or words (shape.buffers + i) 0 →
      Begins r.cleared x'.writer.sealed →
      (r.retired ≡ false → length x'.writer.sealed ≤ length r.cleared + shape.buffers) →
      ((e : Entry) → get_elem? x.writer.sealed (length r.cleared) ≡ some e →
      get_elem? x'.writer.sealed (length r.cleared) ≡ some e) →
      ((x.turn (length r.cleared % shape.buffers)).holder ≡ by_reader i →
      (x'.turn (length r.cleared % shape.buffers)).holder ≡ by_reader i) →
      get_or x'.writer.low i 0 ≤ count_word r → ReaderOk shape x words i r → ReaderOk shape x' words' i r
  reader_kept x x' words words' i r word begins within got holder low ok = record {
    number = ok.number;
    shaped = ok.shaped;
    shows = word ∙ ok.shows;
    begins = begins;
    within = within;
    got = λ e is. let t = ok.got e is in (t.0, got e t.1);
    out = λ is. let t = ok.out is in (t.0, holder t.1);
    low = low;
  }

  -- the seat j after a change of the seat i, which then knows v
  seats : (K : ℕ → View → Type 0) (views : List View) (i : ℕ) (v : View) → K i v →
      ((j : ℕ) (u : View) → j ≢ i → get_elem? views j ≡ some u → K j u) → (j : ℕ) (u : View) →
      get_elem? (set views i v) j ≡ some u → K j u
  seats K views i v here others j u is = ⊎_elim (λ (t : (j ≡ i) × (v ≡ u)).
      subst (λ (y : ℕ × View). K y.0 y.1) (λ z. (sym t.0 z, t.1 z)) here)
      (λ (t : (j ≢ i) × (get_elem? views j ≡ some u)). others j u t.0 t.1) (at_set views i j v u is)

  module _ (s : State Block View) (x : Roles) (c : HoldsFor shape s x) where
    -- a seat with a writer's view is the writer's
    pub is_writer : (j : ℕ) (v : WriterView) → get_elem? s.views j ≡ some (Writer v) → (v ≡ x.writer) × (j ≡ x.seat)
    is_writer j v is = c.each_seat j (Writer v) is

    pub is_reader : (j : ℕ) (r : ReaderView) → get_elem? s.views j ≡ some (Reader r) → (r.number < shape.readers)
        × (r ≡ x.reader r.number) × (x.place r.number ≡ j)
    is_reader j r is = c.each_seat j (Reader r) is

    other_knows : (x' : Roles) → x'.reader ≡ x.reader → x'.place ≡ x.place → (j : ℕ) → j ≢ x.seat → (v : View) →
        Knows shape x j v → Knows shape x' j v
    other_knows x' readers places j other (Writer v) k = absurd (other k.1)
    other_knows x' readers places j other (Reader r) k =
        (k.0, k.1 ∙ (λ z. sym readers z r.number), (λ z. places z r.number) ∙ k.2)
    other_knows x' readers places j other Spent k = tt

    -- a step of the writer, after which it knows w' and the turns are those of x', with the readers as they parked
    pub writer_step : (w' : WriterView) (turn' : ℕ → Turn) (words' : List ℕ) (homes' : Homes) →
        length words' ≡ length s.words → length homes' ≡ length s.homes → w'.parked ≡ x.writer.parked →
        (let x' : Roles = record x { writer = w'; turn = turn' } in
        WriterOk shape x' → ((k : ℕ) → k < shape.buffers → TurnOk shape x' words' homes' k (turn' k)) →
        ((i : ℕ) → i < shape.readers → ReaderOk shape x' words' i (x.reader i)) →
        HoldsFor shape (record { words = words'; homes = homes'; views = set s.views x.seat (Writer w') }) x')
    writer_step w' turn' words' homes' wide deep parked writer turns readers = record {
      ring = c.ring;
      wide = wide ∙ c.wide;
      deep = deep ∙ c.deep;
      writer = writer;
      each_turn = turns;
      each_reader = readers;
      seated = set_here s.views x.seat (Writer w') (at_below s.views x.seat (Writer x.writer) c.seated);
      each_seat = seats (Knows shape (record x { writer = w'; turn = turn' })) s.views x.seat (Writer w') (refl, refl)
          (λ j u other is. other_knows (record x { writer = w'; turn = turn' }) refl refl j other u
          (c.each_seat j u is));
      all_parked = ap (λ (l : List (Option ReaderView)). length l) parked ∙ c.all_parked;
      parked = λ i r is. c.parked i r (ap (λ (l : List (Option ReaderView)). get_elem? l i) (sym parked) ∙ is);
    }

    module _ (id : ℕ) (r : ReaderView) (here : get_elem? s.views id ≡ some (Reader r)) (r' : ReaderView)
        (same : r'.number ≡ r.number) where
      reader_apart : x.seat ≢ id
      reader_apart e = let clash : Writer x.writer ≡ Reader r = some-injective _ _
          (sym c.seated ∙ (ap (λ (j : ℕ). get_elem? s.views j) e ∙ here)) in cc

      others_know : (turn' : ℕ → Turn) (j : ℕ) → j ≢ id → (v : View) → Knows shape x j v →
          Knows shape (record x { reader = put x.reader r.number r'; turn = turn' }) j v
      others_know turn' j other (Writer v) k = k
      others_know turn' j other (Reader q) k = let mine = (is_reader id r here).2 in
          (k.0, k.1 ∙ sym (put_else x.reader r.number r' q.number (λ e. other (sym k.2 ∙ (ap x.place e ∙ mine)))), k.2)
      others_know turn' j other Spent k = tt

      -- a step of the reader r in the seat id, after which it is r'
      pub reader_step : (turn' : ℕ → Turn) (words' : List ℕ) (homes' : Homes) →
          length words' ≡ length s.words → length homes' ≡ length s.homes →
          (let x' : Roles = record x { reader = put x.reader r.number r'; turn = turn' } in
          WriterOk shape x' → ((k : ℕ) → k < shape.buffers → TurnOk shape x' words' homes' k (turn' k)) →
          ((i : ℕ) → i < shape.readers → ReaderOk shape x' words' i (put x.reader r.number r' i)) →
          HoldsFor shape (record { words = words'; homes = homes'; views = set s.views id (Reader r') }) x')
      reader_step turn' words' homes' wide deep writer turns readers = let mine = is_reader id r here in record {
        ring = c.ring;
        wide = wide ∙ c.wide;
        deep = deep ∙ c.deep;
        writer = writer;
        each_turn = turns;
        each_reader = readers;
        seated = set_else s.views id x.seat (Reader r') reader_apart ∙ c.seated;
        each_seat = seats (Knows shape (record x { reader = put x.reader r.number r'; turn = turn' })) s.views id
            (Reader r')
            (subst (λ (i : ℕ). (i < shape.readers) × (r' ≡ put x.reader r.number r' i) × (x.place i ≡ id)) (sym same)
            (mine.0, sym (put_here x.reader r.number r'), mine.2))
            (λ j u other is. others_know turn' j other u (c.each_seat j u is));
        all_parked = c.all_parked;
        parked = λ i q is. let t = c.parked i q is in (
          t.0,
          t.1
              ∙ sym (put_else x.reader r.number r' i (λ e. reader_apart (sym t.2 ∙ (ap x.place e ∙ mine.2)))),
          t.2,
        );
      }
