-- The table as it is opened, and the split and the join of a seat, keep the rule.
use Rattle.std.proofs.Common.{◌≡◌, ◌≢◌, ◌⊎◌, ℕ, zero, suc, ◌+◌, ◌<◌, ◌≤◌, false, List, [], ◌∷◌, ◌++◌, map, length, get_or, set, replicate, Option, Some, None, sym, refl, ap, ◌∙◌, subst, inl, inr, unwrap_or, ⊎_elim, arith, length-set}
use mathlib.Core.Option.{some, some-injective, some-ne-none}
use lib.ListN.{get_elem?, length-map, length-replicate, get_or-replicate}
use Rattle.atomic_table.specs.Table.{State, Splits, Joins, opening}
use Rattle.atomic_table.proofs.Lists.{at_set, set_here, set_else, at_longer}
use Rattle.ring_blocks.specs.declared.Block.{Block}
use Rattle.ring_blocks.specs.declared.Entry.{Entry}
use Rattle.ring_blocks.specs.Contents.{room_of}
use Rattle.ring_core.specs.Machine.{Phase, Reader as Standing, Reached, at_begin}
use Rattle.ring_words.specs.declared.shape.RingShape.{RingShape}
use Rattle.ring_words.specs.declared.views.View.{View}
use Rattle.ring_words.specs.declared.views.ReaderView.{ReaderView}
use Rattle.ring_words.specs.declared.views.WriterView.{WriterView}
use Rattle.ring_words.specs.declared.views.View.TheVariants.{Writer, Reader, Spent}
use Rattle.ring_words.specs.Shape.{IsRing}
use Rattle.ring_words.specs.Views.{listed, fresh_reader, fresh_writer, parked_at, after_split, after_join}
use Rattle.ring_words.specs.Ring.{at_home, Roles, Knows, HoldsFor, RuleHolds}
use Rattle.ring_words.proofs.Counts.{at_below, same_at}
use Rattle.ring_words.proofs.Listed.{at_listed, length-listed, listed_alike}
use Rattle.ring_words.proofs.Frames.{put, put_here, put_else, turn_kept, reader_kept, is_reader}
use Rattle.ring_words.proofs.WriterSteps.{with_writer, as_writer}

module _ {A : Type 0} where
  at_snoc_where : (l : List A) (a b : A) (j : ℕ) → get_elem? (l ++ a ∷ []) j ≡ some b → (get_elem? l j ≡ some b)
      ⊎ ((j ≡ length l) × (a ≡ b))
  at_snoc_where [] a b zero e = inr (refl, some-injective a b e)
  at_snoc_where [] a b (suc j) e = absurd (some-ne-none b (sym e))
  at_snoc_where (x ∷ xs) a b zero e = inl e
  at_snoc_where (x ∷ xs) a b (suc j) e = ⊎_elim (λ t. inl t)
      (λ (t : (j ≡ length xs) × (a ≡ b)). let n = t.0 in inr (omega arith, t.1)) (at_snoc_where xs a b j e)

  at_from_or : (l : List A) (i : ℕ) (a d : A) → i < length l → get_or l i d ≡ a → get_elem? l i ≡ some a
  at_from_or [] i a d h e = absurd (omega arith)
  at_from_or (x ∷ xs) zero a d h e = ap (λ (y : A). some y) e
  at_from_or (x ∷ xs) (suc i) a d h e = at_from_or xs i a d (omega arith) e

  both_there : (l : List A) (i : ℕ) → i < length l → (a : A) × (get_elem? (map some l) i ≡ some (some a))
      × (get_elem? l i ≡ some a)
  both_there [] i h = absurd (omega arith)
  both_there (x ∷ xs) zero h = (x, refl, refl)
  both_there (x ∷ xs) (suc i) h = both_there xs i (omega arith)

-- the writer with other readers parked
abbrev with_parked : WriterView → List (Option ReaderView) → ℕ → WriterView
with_parked w ps n = record w { parked = ps; split = n }

-- with another view of the writer, and readers in other places
abbrev with_places : Roles → WriterView → (ℕ → ℕ) → Roles
with_places x w place = record x { writer = w; place = place }

module _ (shape : RingShape) where
  module _ (s : State Block View) (x : Roles) (c : HoldsFor shape s x) where
    -- nothing but seats changes
    reseated : (ps : List (Option ReaderView)) (n : ℕ) (views' : List View) (place' : ℕ → ℕ) →
        (let x' : Roles = with_places x (with_parked x.writer ps n) place' in
        get_elem? views' x.seat ≡ some (Writer (with_parked x.writer ps n)) →
        ((j : ℕ) (v : View) → get_elem? views' j ≡ some v → Knows shape x' j v) → length ps ≡ shape.readers →
        ((i : ℕ) (r : ReaderView) → get_elem? ps i ≡ some (Some r) → (i < shape.readers) × (r ≡ x.reader i)
        × (place' i ≡ x.seat)) →
        HoldsFor shape (record { words = s.words; homes = s.homes; views = views' }) x')
    reseated ps n views' place' seated each_seat all_parked parked =
        let x' : Roles = with_places x (with_parked x.writer ps n) place' in let wr = c.writer in record {
          ring = c.ring;
          wide = c.wide;
          deep = c.deep;
          writer = record {
            shaped = wr.shaped;
            lows = wr.lows;
            limit = wr.limit;
            sized = wr.sized;
            out = wr.out;
            room = wr.room;
            look = wr.look;
          };
          each_turn = λ k near. let ok = c.each_turn k near in
              turn_kept shape x x' s.words s.words s.homes s.homes k (x.turn k) refl ok.newest record {
                home = refl;
                sealed = λ m e is. is;
                readers = λ i out newest. (out, newest);
                writer = λ out is. (out, is);
              } ok;
          each_reader = λ i near. let ok = c.each_reader i near in
              reader_kept shape x x' s.words s.words i (x.reader i) refl ok.begins ok.within (λ e is. is) (λ h. h)
              ok.low ok;
          seated = seated;
          each_seat = each_seat;
          all_parked = all_parked;
          parked = parked;
        }

    -- another seat than the writer's stays what it is, where its reader keeps it
    stays_seated : (w' : WriterView) (place' : ℕ → ℕ) (j : ℕ) → j ≢ x.seat →
        ((i : ℕ) → x.place i ≡ j → place' i ≡ j) → (v : View) → Knows shape x j v →
        Knows shape (with_places x w' place') j v
    stays_seated w' place' j other keeps (Writer v) k = absurd (other k.1)
    stays_seated w' place' j other keeps (Reader r) k = (k.0, k.1, keeps r.number k.2)
    stays_seated w' place' j other keeps Spent k = tt

    split_core : (r : ReaderView) → x.writer.split < shape.readers → parked_at x.writer x.writer.split ≡ Some r
        → HoldsFor shape (record {
          words = s.words;
          homes = s.homes;
          views =
              set s.views x.seat (Writer (after_split x.writer)) ++ Reader r ∷ [];
        }) (with_places x (after_split x.writer) (put x.place x.writer.split (length s.views)))
    split_core r near is = let i : ℕ = x.writer.split in let w' : WriterView = after_split x.writer in
        let new : ℕ = length s.views in let place' : ℕ → ℕ = put x.place i new in
        let x' : Roles = with_places x w' place' in let all = c.all_parked in
        let here = at_from_or x.writer.parked i (Some r) None (omega arith) is in let p = c.parked i r here in
        let number : r.number ≡ i = ap (λ (q : ReaderView). q.number) p.1 ∙ (c.each_reader i near).number in
        let moved : (k j : ℕ) → j ≢ x.seat → x.place k ≡ j → place' k
        ≡ j = λ k j other is'. put_else x.place i new k (λ e. other (sym is' ∙ (ap x.place e ∙ p.2))) ∙ is' in
        reseated (set x.writer.parked i None) (i + 1) (set s.views x.seat (Writer w') ++ Reader r ∷ []) place'
        (at_longer (set s.views x.seat (Writer w')) (Reader r ∷ []) x.seat (Writer w')
        (set_here s.views x.seat (Writer w') (at_below s.views x.seat (Writer x.writer) c.seated)))
        (λ j v is'. ⊎_elim
        (λ (old : get_elem? (set s.views x.seat (Writer w')) j ≡ some v). ⊎_elim
        (λ (t : (j ≡ x.seat) × (Writer w' ≡ v)). subst (λ (y : ℕ × View). Knows shape x' y.0 y.1)
        (λ z. (sym t.0 z, t.1 z)) (refl, refl))
        (λ (t : (j ≢ x.seat) × (get_elem? s.views j ≡ some v)).
        stays_seated w' place' j t.0 (λ k. moved k j t.0) v (c.each_seat j v t.1))
        (at_set s.views x.seat j (Writer w') v old))
        (λ (t : (j ≡ length (set s.views x.seat (Writer w'))) × (Reader r ≡ v)).
        subst (λ (u : View). Knows shape x' j u) t.1
        (subst (λ (k : ℕ). (k < shape.readers) × (r ≡ x.reader k) × (place' k ≡ j)) (sym number)
        (near, p.1, put_here x.place i new ∙ (sym (length-set s.views x.seat (Writer w')) ∙ sym t.0))))
        (at_snoc_where (set s.views x.seat (Writer w')) (Reader r) v j is'))
        (length-set x.writer.parked i None ∙ all)
        (λ k q is'. ⊎_elim
        (λ (t : (k ≡ i) × (None ≡ Some q)). let clash = t.1 in cc)
        (λ (t : (k ≢ i) × (get_elem? x.writer.parked k ≡ some (Some q))). let old = c.parked k q t.1 in
        (old.0, old.1, put_else x.place i new k t.0 ∙ old.2))
        (at_set x.writer.parked i k None (Some q) is'))

    join_core : (other : ℕ) (r : ReaderView) → other ≢ x.seat → get_elem? s.views other ≡ some (Reader r)
        → HoldsFor shape (record {
          words = s.words;
          homes = s.homes;
          views =
              set (set s.views x.seat (Writer (after_join x.writer r))) other Spent;
        }) (with_places x (after_join x.writer r) (put x.place r.number x.seat))
    join_core other r apart there = let w' : WriterView = after_join x.writer r in let i : ℕ = r.number in
        let place' : ℕ → ℕ = put x.place i x.seat in let x' : Roles = with_places x w' place' in
        let known = is_reader shape s x c other r there in
        let both : List View = set s.views x.seat (Writer w') in
        reseated (set x.writer.parked i (Some r)) x.writer.split (set both other Spent) place'
        (set_else both other x.seat Spent (λ e. apart (sym e))
        ∙ set_here s.views x.seat (Writer w') (at_below s.views x.seat (Writer x.writer) c.seated))
        (λ j v is. ⊎_elim
        (λ (t : (j ≡ other) × (Spent ≡ v)). subst (λ (u : View). Knows shape x' j u) t.1 tt)
        (λ (t : (j ≢ other) × (get_elem? both j ≡ some v)). ⊎_elim
        (λ (u : (j ≡ x.seat) × (Writer w' ≡ v)). subst (λ (y : ℕ × View). Knows shape x' y.0 y.1)
        (λ z. (sym u.0 z, u.1 z)) (refl, refl))
        (λ (u : (j ≢ x.seat) × (get_elem? s.views j ≡ some v)).
        stays_seated w' place' j u.0 (λ k is'. put_else x.place i x.seat k
        (λ e. t.0 (sym is' ∙ (ap x.place e ∙ known.2)))
        ∙ is') v (c.each_seat j v u.1))
        (at_set s.views x.seat j (Writer w') v t.1))
        (at_set both other j Spent v is))
        (length-set x.writer.parked i (Some r) ∙ c.all_parked)
        (λ k q is. ⊎_elim
        (λ (t : (k ≡ i) × (Some r ≡ Some q)). let same : r ≡ q = ap (λ (o : Option ReaderView). unwrap_or o r) t.1 in
        subst (λ (y : ReaderView × ℕ). (y.1 < shape.readers) × (y.0 ≡ x.reader y.1) × (place' y.1 ≡ x.seat))
        (λ z. (same z, sym t.0 z)) (known.0, known.1, put_here x.place i x.seat))
        (λ (t : (k ≢ i) × (get_elem? x.writer.parked k ≡ some (Some q))). let old = c.parked k q t.1 in
        (old.0, old.1, put_else x.place i x.seat k t.0 ∙ old.2))
        (at_set x.writer.parked i k (Some r) (Some q) is))

  pub splits : (id : ℕ) (v : WriterView) (r : ReaderView) → v.split < shape.readers → parked_at v v.split ≡ Some r →
      Splits (RuleHolds shape) id (Writer v) (Writer (after_split v)) (Reader r)
  splits id v r near is s kept at = let a = as_writer shape s kept id v at in
      let x : Roles = with_writer a.roles v id in record {
        roles = with_places x (after_split v) (put x.place v.split (length s.views));
        core = split_core s x a.core r near is;
        reached = a.reached;
      }

  pub joins : (id : ℕ) (v : WriterView) (other : ℕ) (r : ReaderView) →
      Joins (RuleHolds shape) id (Writer v) other (Reader r) (Writer (after_join v r)) Spent
  joins id v other r s kept at apart there = let a = as_writer shape s kept id v at in
      let x : Roles = with_writer a.roles v id in record {
        roles = with_places x (after_join v r) (put x.place r.number id);
        core = join_core s x a.core other r apart
            (sym (set_else s.views id other (Writer (after_join v r)) apart) ∙ there);
        reached = a.reached;
      }

  -- a writer that has all readers, and no block sealed
  abbrev first_roles : Roles
  first_roles = record {
    writer = fresh_writer shape;
    seat = 0;
    reader = fresh_reader shape;
    place = λ _. 0;
    turn = λ _. record { newest = 0; holder = at_home };
  }

  first_seat : (v : View) (j : ℕ) → get_elem? (Writer (fresh_writer shape) ∷ []) j ≡ some v →
      Knows shape first_roles j v
  first_seat v zero e = subst (λ (u : View). Knows shape first_roles 0 u)
      (some-injective (Writer (fresh_writer shape)) v e) (refl, refl)
  first_seat v (suc j) e = absurd (some-ne-none v (sym e))

  pub starts : (words : List ℕ) (blocks : List Block) → IsRing shape → length words ≡ shape.buffers + shape.readers →
      ((i : ℕ) → i < length words → get_or words i 0 ≡ 0) → length blocks ≡ shape.buffers
      → ((k : ℕ) (b : Block) → get_elem? blocks k ≡ some b → room_of b ≡ shape.size) →
      RuleHolds shape (opening words blocks (Writer (fresh_writer shape)))
  starts words blocks ring wide zeros deep rooms = record {
    roles = first_roles;
    core = record {
      ring = ring;
      wide = wide;
      deep = length-map blocks (λ (b : Block). some b) ∙ deep;
      writer = record {
        shaped = refl;
        lows = length-replicate shape.readers 0;
        limit = omega arith;
        sized = λ m e is. absurd (some-ne-none e (sym is));
        out = λ z. cc;
        room = λ z. cc;
        look = λ i n z. cc;
      };
      each_turn = λ k near. let b = both_there blocks k (omega arith) in record {
        shows = zeros k (omega arith);
        newest = record { none = λ _. omega arith; last = λ m z. absurd (omega arith) };
        held = (b.0, b.1, rooms k b.0 b.2, λ m z. absurd (omega arith));
      };
      each_reader = λ i near. record {
        number = refl;
        shaped = refl;
        shows = zeros (shape.buffers + i) (omega arith);
        begins = ([], refl);
        within = λ _. omega arith;
        got = λ e z. cc;
        out = λ z. cc;
        low = subst (λ (x : ℕ). x ≤ 0) (sym (get_or-replicate shape.readers i 0 0 near)) (omega arith);
      };
      seated = refl;
      each_seat = λ j v is. first_seat v j is;
      all_parked = length-listed (λ (i : ℕ). Some (fresh_reader shape i)) shape.readers;
      parked = λ i r is. let long = length-listed (λ (k : ℕ). Some (fresh_reader shape k)) shape.readers in
          let below = at_below (listed (λ k. Some (fresh_reader shape k)) shape.readers) i (Some r) is in
          let near : i < shape.readers = omega arith in (
            near,
            ap (λ (o : Option ReaderView). unwrap_or o r)
                (same_at (listed (λ k. Some (fresh_reader shape k)) shape.readers) i (Some r)
                (Some (fresh_reader shape i)) is (at_listed
                (λ k. Some (fresh_reader shape k)) shape.readers i near)),
            refl,
          );
    };
    reached = subst (λ (l : List Standing). Reached {L = Entry} shape.buffers shape.max_blocks shape.readers
        (record { sealed = []; writing = false; low = replicate shape.readers 0; readers = l }))
        (sym (listed_alike (record { cleared = 0; phase = Phase.Ready }) shape.readers)) at_begin;
  }
