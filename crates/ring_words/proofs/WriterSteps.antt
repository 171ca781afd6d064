-- The writer's three steps keep the rule.
use Rattle.std.proofs.Common.{◌≡◌, ℕ, ◌+◌, ◌-◌, ◌*◌, ◌%◌, ◌<◌, ◌≤◌, Bool, true, false, cond, eqb, List, [], ◌∷◌, ◌++◌, length, take, get_or, set, Option, sym, refl, ap, ◌∙◌, subst, ⊎_elim, arith, eq-eqb, length-set, length-append, get_or-set_other, get_or-set_same, unwrap_or, All, slice_get, Some}
use Rattle.std.proofs.Math.Seq.{take-append_seam}
use mathlib.Core.Option.{none, some}
use mathlib.Core.Logic.{dite}
use native.Mathlib.Decide.{ℕ_discrete}
use lib.ListN.{get_elem?}
use lib.Seq.{set-get_or}
use prog.Atomic.{either}
use Rattle.atomic_table.specs.Table.{State, step, keeps, takes, gives, Allows}
use Rattle.atomic_table.proofs.Lists.{set_here, set_else, at_longer, at_last, at_snoc}
use Rattle.ring_blocks.specs.declared.Block.{Block}
use Rattle.ring_blocks.specs.declared.Entry.{Entry}
use Rattle.ring_blocks.specs.Contents.{room_of, entry_of}
use Rattle.ring_core.specs.Machine.{Event, Answer, Does, Reached, by_event, greatest}
use Rattle.ring_words.specs.declared.shape.RingShape.{RingShape}
use Rattle.ring_words.specs.declared.views.View.{View}
use Rattle.ring_words.specs.declared.views.ReaderView.{ReaderView}
use Rattle.ring_words.specs.declared.views.WriterView.{WriterView}
use Rattle.ring_words.specs.declared.views.View.TheVariants.{Writer}
use Rattle.ring_words.specs.Views.{after_look, after_writer_take, after_seal}
use Rattle.ring_words.specs.Ring.{Holder, at_home, by_reader, by_writer, Turn, Roles, IsNewest, holder_code, Held, TurnOk, HoldsFor, RuleHolds, count_word, shown}
use Rattle.ring_words.specs.Steps.{SeesRoom}
use Rattle.ring_words.specs.Plays.{IsEvent, ShowsWriter, WriterSettled, Looked, WriterTook, SealedBlock, Sealed}
use Rattle.ring_words.proofs.Counts.{newest_here, newest_else, newest_next, apart, begins_short, begins_more}
use Rattle.ring_words.proofs.Frames.{put_here, put_else, at_put, writer_now, turn_now, turn_kept, reader_kept, is_writer, writer_step}
use Rattle.ring_words.proofs.Listed.{got_at, at_or, at_from_option}
use Rattle.ring_words.proofs.Shown.{look_row, does_look, does_writer_take, does_seal}

-- with this writer, in this seat
abbrev pub with_writer : Roles → WriterView → ℕ → Roles
with_writer x v id = record x { writer = v; seat = id }

-- the rule, seen from the writer's seat
pub record AsWriter (shape : RingShape) (s : State Block View) (id : ℕ) (v : WriterView) : Type 0 where
  pub roles : Roles
  pub core : HoldsFor shape s (with_writer roles v id)
  pub reached : Reached shape.buffers shape.max_blocks shape.readers (shown shape (with_writer roles v id))

-- a reader that is not retired has its count in its word
pub live_count : (r : ReaderView) → r.retired ≡ false → count_word r ≡ length r.cleared
live_count r is = ap (λ z. cond z greatest (length r.cleared)) is

module _ (shape : RingShape) where
  pub as_writer : (s : State Block View) → RuleHolds shape s → (id : ℕ) (v : WriterView) →
      get_elem? s.views id ≡ some (Writer v) → AsWriter shape s id v
  as_writer s kept id v at = let same = is_writer shape s kept.roles kept.core id v at in record {
    roles = kept.roles;
    core = subst (λ (y : WriterView × ℕ). HoldsFor shape s (with_writer kept.roles y.0 y.1))
        (λ i. (sym same.0 i, sym same.1 i)) kept.core;
    reached = subst (λ (y : WriterView). Reached shape.buffers shape.max_blocks shape.readers
        (shown shape (with_writer kept.roles y id))) (sym same.0) kept.reached;
  }

  module _ (s : State Block View) (x : Roles) (c : HoldsFor shape s x) where
    pub settles : WriterSettled x.writer
    settles = let wr = c.writer in record {
      limit = subst (λ (z : RingShape). length x.writer.sealed ≤ z.max_blocks) (sym wr.shaped) wr.limit;
      sized = subst (λ (z : RingShape). All (λ e. length e.bytes ≤ z.size) x.writer.sealed) (sym wr.shaped)
          (λ m d below. wr.sized m (get_or x.writer.sealed m d) (at_or x.writer.sealed m d below));
      begins = λ i r is. let p = c.parked i r (at_from_option x.writer.parked i r is) in let ok = c.each_reader i p.0 in
          subst (λ (q : ReaderView). take (length q.cleared) x.writer.sealed ≡ q.cleared) (sym p.1)
          (ap (λ (l : List Entry). take (length (x.reader i).cleared) l) ok.begins.1
          ∙ take-append_seam (x.reader i).cleared ok.begins.0);
      next = λ i r e is got. let p = c.parked i r (at_from_option x.writer.parked i r is) in
          let ok = c.each_reader i p.0 in
          subst (λ (q : ReaderView). slice_get x.writer.sealed (length q.cleared) ≡ Some e) (sym p.1)
          (got_at x.writer.sealed (length (x.reader i).cleared) e
          (ok.got e (ap (λ (q : ReaderView). q.got) (sym p.1) ∙ got)).1);
    }

    -- each reader's count is small
    pub count_small : (i : ℕ) → i < shape.readers → length (x.reader i).cleared < greatest
    count_small i inside = let ok = c.each_reader i inside in
        let short = begins_short (x.reader i).cleared x.writer.sealed ok.begins in let limit = c.writer.limit in
        let most = c.ring.most_blocks in omega arith

    -- the event of a step of the writer
    event : (e : Event Entry) (row : ℕ → Answer Entry) (w' : WriterView) →
        Reached shape.buffers shape.max_blocks shape.readers (shown shape x)
        → Does shape.buffers shape.max_blocks (shown shape x) e (row shape.buffers) (shown shape (writer_now x w'))
        → IsEvent x.writer.shape e (row x.writer.shape.buffers) (ShowsWriter x.writer) (ShowsWriter w')
    event e row w' reached does = subst (λ (z : RingShape).
        IsEvent z e (row z.buffers) (ShowsWriter x.writer) (ShowsWriter w')) (sym c.writer.shaped) record {
          old = shown shape x;
          new = shown shape (writer_now x w');
          reached = reached;
          does = does;
          shows_before = (refl, refl, refl);
          shows_after = (refl, refl, refl);
        }

    -- a buffer that nobody changes, in a step of the writer that leaves what is sealed
    same_turns : (w' : WriterView) → w'.sealed ≡ x.writer.sealed → (k : ℕ) (t : Turn) →
        (x.writer.out ≡ true → w'.out ≡ true) → TurnOk shape x s.words s.homes k t →
        TurnOk shape (writer_now x w') s.words s.homes k t
    same_turns w' same k t out ok = turn_kept shape x (writer_now x w') s.words s.words s.homes s.homes k t refl
        (subst (λ (l : List Entry). IsNewest shape.buffers (length l) k t.newest) (sym same) ok.newest) record {
          home = refl;
          sealed = λ m e is. ap (λ (l : List Entry). get_elem? l m) same ∙ is;
          readers = λ i o n. (o, n);
          writer = λ o k. (out o, k ∙ ap (λ (l : List Entry). length l % shape.buffers) (sym same));
        } ok

    looked_core : (j n : ℕ) → j < shape.readers → n ≡ count_word (x.reader j) →
        HoldsFor shape (record {
          words = s.words;
          homes = s.homes;
          views = set s.views x.seat (Writer (after_look x.writer j n));
        }) (writer_now x (after_look x.writer j n))
    looked_core j n inside is = let wr = c.writer in let long = wr.lows in
        let w' : WriterView = after_look x.writer j n in
        writer_step shape s x c w' x.turn s.words s.homes refl refl refl
        record {
          shaped = wr.shaped;
          lows = length-set x.writer.low j n ∙ wr.lows;
          limit = wr.limit;
          sized = wr.sized;
          out = wr.out;
          room = λ out i near. dite (ℕ_discrete i j)
              (λ e. let old = wr.room out j inside in let above = (c.each_reader j inside).low in
              let now = get_or-set_same x.writer.low j n 0 (omega arith) in
              subst (λ (z : ℕ). length x.writer.sealed < get_or (set x.writer.low j n) z 0 + shape.buffers) (sym e)
              (omega arith))
              (λ other. let old = wr.room out i near in
              let now = get_or-set_other x.writer.low j i n 0 other in omega arith);
          look = λ i y e. let p = ap (λ (o : Option (ℕ × ℕ)). unwrap_or o (0, 0)) e in
              subst (λ (z : ℕ × ℕ). get_or (set x.writer.low j n) z.0 0 ≡ z.1) p
              (get_or-set_same x.writer.low j n 0 (omega arith));
        }
        (λ k near. same_turns w' refl k (x.turn k) (λ o. o) (c.each_turn k near))
        (λ i near. let ok = c.each_reader i near in reader_kept shape x (writer_now x w') s.words s.words i
        (x.reader i) refl ok.begins ok.within (λ e is. is) (λ h. h)
        (dite (ℕ_discrete i j)
        (λ e. let now = get_or-set_same x.writer.low j n 0 (omega arith) in
        subst (λ (z : ℕ). get_or (set x.writer.low j n) z 0 ≤ count_word (x.reader z)) (sym e) (omega arith))
        (λ other. let now = get_or-set_other x.writer.low j i n 0 other in let old = ok.low in omega arith))
        ok)

  pub looks : (slots id word : ℕ) (v : WriterView) (held : List (ℕ × Block)) → slots ≡ shape.buffers →
      shape.buffers ≤ word → word < shape.buffers + shape.readers
      → Allows (RuleHolds shape) slots id (Writer v, held) word (λ n. n)
      (Looked (step slots word 0 0 none) (Writer v, held))
  looks slots id word v held deep low high s kept _ at small =
      let a = as_writer s kept id v at in let x : Roles = with_writer a.roles v id in
      let n : ℕ = get_or s.words word 0 in let j : ℕ = word - slots in
      let inside : j < shape.readers = omega arith in let there : word ≡ shape.buffers + j = omega arith in
      let is : n ≡ count_word (x.reader j) = ap (λ (i : ℕ). get_or s.words i 0) there
      ∙ (a.core.each_reader j inside).shows in
      let w' : WriterView = after_look v j n in
      let core = looked_core s x a.core j n inside is in
      let does = does_look shape.buffers shape.max_blocks shape x j n inside
      (count_small s x a.core j inside) is in (
        Writer w',
        keeps,
        tt,
        record {
          roles = writer_now x w';
          core = subst (λ (ws : List ℕ). HoldsFor shape (record {
            words = ws;
            homes = s.homes;
            views =
                set s.views id (Writer w');
          }) (writer_now x w')) (sym (set-get_or s.words word 0)) core;
          reached = by_event _ (Event.Look j) (look_row shape.buffers (length v.sealed) j n) _ a.reached does;
        },
        record {
          seat = refl;
          settled = settles _ (writer_now x w') core;
          event = event s x a.core (Event.Look j)
              (λ b. look_row b (length v.sealed) j n) w' a.reached does;
        },
      )

  module _ (s : State Block View) (x : Roles) (c : HoldsFor shape s x) where
    abbrev here : ℕ
    here = length x.writer.sealed % shape.buffers

    here_small : here < shape.buffers
    here_small = let two = c.ring.two_buffers in omega arith

    -- no reader has the buffer of the block to be sealed next, where the writer saw each reader past the one that
    -- lies there
    no_reader : x.writer.out ≡ false → SeesRoom shape x.writer →
        (h : Holder) → (x.turn here).holder ≡ h → h ≡ at_home
    no_reader home room at_home is = refl
    no_reader home room by_writer is = let ok = c.each_turn here here_small in
        let k = subst (λ (h : Holder). Held shape x s.homes here (x.turn here).newest h) is ok.held in cc
    no_reader home room (by_reader i) is = let ok = c.each_turn here here_small in
        let k = subst (λ (h : Holder). Held shape x s.homes here (x.turn here).newest h) is ok.held in
        let mine = c.each_reader i k.0 in let got = (mine.out k.1).0 in
        let live = live_count (x.reader i) (mine.got got.0 got.1).0 in
        let last = ok.newest.last (length (x.reader i).cleared) k.2 in let below = last.1 in let seen = room i k.0 in
        let low = mine.low in
        absurd (apart shape.buffers (length (x.reader i).cleared) (length x.writer.sealed) below (omega arith)
        (sym last.0))

    free : x.writer.out ≡ false → SeesRoom shape x.writer →
        (x.turn here).holder ≡ at_home
    free home room = no_reader home room (x.turn here).holder refl

    taken_turn : Turn
    taken_turn = record { newest = (x.turn here).newest; holder = by_writer }

    taken_core : x.writer.out ≡ false → length x.writer.sealed < shape.max_blocks →
        SeesRoom shape x.writer → (word : ℕ) →
        word ≡ 16 * (x.turn here).newest + 15
        → HoldsFor shape (record {
          words = set s.words here word;
          homes = set s.homes here none;
          views =
              set s.views x.seat (Writer (after_writer_take x.writer));
        }) (turn_now (writer_now x (after_writer_take x.writer)) here taken_turn)
    unfolding taken_turn
    taken_core home below room word is = let wr = c.writer in
        let w' : WriterView = after_writer_take x.writer in
        let x' : Roles = turn_now (writer_now x w') here taken_turn in
        let free_here = free home room in let small = here_small in let wide = c.wide in
        writer_step shape s x c w' (turn_now x here taken_turn).turn (set s.words here word)
        (set s.homes here none) (length-set s.words here word) (length-set s.homes here none) refl
        record {
          shaped = wr.shaped;
          lows = wr.lows;
          limit = wr.limit;
          sized = wr.sized;
          out = λ _. (ap (λ (t : Turn). t.holder) (put_here x.turn here taken_turn), below);
          room = λ _. room;
          look = wr.look;
        }
        (at_put (λ k t. TurnOk shape x' (set s.words here word)
        (set s.homes here none) k t) x.turn here taken_turn shape.buffers
        record {
          shows = get_or-set_same s.words here word 0 (omega arith) ∙ is;
          newest = (c.each_turn here small).newest;
          held = (refl, refl);
        }
        (λ k near other. let ok = c.each_turn k near in
        turn_kept shape x x' s.words (set s.words here word) s.homes (set s.homes here none) k
        (x.turn k)
        (get_or-set_other s.words here k word 0 other) ok.newest
        record {
          home = set_else s.homes here k none other;
          sealed = λ m e at'. at';
          readers = λ i o n. (o, n);
          writer = λ o e. absurd (other e);
        } ok))
        (λ i near. let ok = c.each_reader i near in reader_kept shape x x' s.words (set s.words here word)
        i (x.reader i)
        (get_or-set_other s.words here (shape.buffers + i) word 0 (λ e. omega arith)) ok.begins ok.within (λ e at'. at')
        (λ h. dite (ℕ_discrete (length (x.reader i).cleared % shape.buffers) here)
        (λ e. let clash : by_reader i ≡ at_home = sym h ∙ (ap (λ (k : ℕ). (x.turn k).holder) e ∙ free_here) in cc)
        (λ other. ap (λ (t : Turn). t.holder) (put_else x.turn here taken_turn
        (length (x.reader i).cleared % shape.buffers) other) ∙ h))
        ok.low ok)

    sealed_turn : Turn
    sealed_turn = record { newest = length x.writer.sealed + 1; holder = at_home }

    sealed_core : (b : Block) → x.writer.out ≡ true → room_of b ≡ shape.size → length (entry_of b).bytes ≤ shape.size →
        (word : ℕ) → word ≡ 16 * (length x.writer.sealed + 1)
        → HoldsFor shape (record {
          words = set s.words here word;
          homes = set s.homes here (some b);
          views =
              set s.views x.seat (Writer (after_seal x.writer (entry_of b)));
        }) (turn_now (writer_now x (after_seal x.writer (entry_of b))) here sealed_turn)
    unfolding sealed_turn
    sealed_core b out room_is fits word is = let wr = c.writer in let e : Entry = entry_of b in
        let w' : WriterView = after_seal x.writer e in
        let x' : Roles = turn_now (writer_now x w') here sealed_turn in let small = here_small in
        let wide = c.wide in let deep = c.deep in
        let two = c.ring.two_buffers in
        let below = (wr.out out).1 in let longer : length (x.writer.sealed ++ e ∷ [])
        ≡ length x.writer.sealed + 1 = length-append x.writer.sealed (e ∷ []) in
        let stays : (m : ℕ) (y : Entry) → get_elem? x.writer.sealed m ≡ some y →
        get_elem? (x.writer.sealed ++ e ∷ []) m ≡ some y = λ m y at'. at_longer x.writer.sealed (e ∷ []) m y at' in
        writer_step shape s x c w' (turn_now x here sealed_turn).turn (set s.words here word)
        (set s.homes here (some b)) (length-set s.words here word) (length-set s.homes here (some b)) refl
        record {
          shaped = wr.shaped;
          lows = wr.lows;
          limit = omega arith;
          sized = λ m y at'. ⊎_elim (wr.sized m y) (λ (same : e ≡ y).
              subst (λ (z : Entry). length z.bytes ≤ shape.size) same fits) (at_snoc x.writer.sealed e y m at');
          out = λ o. cc;
          room = λ o. cc;
          look = wr.look;
        }
        (at_put (λ k t. TurnOk shape x' (set s.words here word)
        (set s.homes here (some b)) k t) x.turn here sealed_turn shape.buffers
        record {
          shows = get_or-set_same s.words here word 0 (omega arith) ∙ omega arith;
          newest = newest_here shape.buffers (length x.writer.sealed) (length (x.writer.sealed ++ e ∷ []))
              (omega arith) longer;
          held = (
            b,
            set_here s.homes here (some b) (omega arith),
            room_is,
            λ m n. at_last x.writer.sealed e m
                (omega arith),
          );
        }
        (λ k near other. let ok = c.each_turn k near in
        turn_kept shape x x' s.words (set s.words here word) s.homes (set s.homes here (some b)) k
        (x.turn k)
        (get_or-set_other s.words here k word 0 other) (newest_else shape.buffers (length x.writer.sealed)
        (length (x.writer.sealed ++ e ∷ [])) k (x.turn k).newest (omega arith) longer near other ok.newest)
        record {
          home = set_else s.homes here k (some b) other;
          sealed = stays;
          readers = λ i o n. (o, n);
          writer = λ o at'. absurd (other at');
        } ok))
        (λ i near. let ok = c.each_reader i near in let seen = wr.room out i near in let low = ok.low in
        reader_kept shape x x' s.words (set s.words here word) i (x.reader i)
        (get_or-set_other s.words here (shape.buffers + i) word 0 (λ e. omega arith))
        (begins_more (x.reader i).cleared x.writer.sealed (e ∷ []) ok.begins)
        (λ live. let count = live_count (x.reader i) live in omega arith) (stays (length (x.reader i).cleared))
        (λ h. dite (ℕ_discrete (length (x.reader i).cleared % shape.buffers) here)
        (λ e. let clash : by_reader i ≡ by_writer = sym h ∙ (ap (λ (k : ℕ). (x.turn k).holder) e ∙ (wr.out out).0) in
        cc)
        (λ other. ap (λ (t : Turn). t.holder) (put_else x.turn here sealed_turn
        (length (x.reader i).cleared % shape.buffers) other) ∙ h))
        ok.low ok)

  pub takes_out : (slots id : ℕ) (v : WriterView) (held : List (ℕ × Block)) (old new : ℕ) → v.out ≡ false →
      length v.sealed < shape.max_blocks
      → SeesRoom shape v
      → old ≡ 16 * ((length v.sealed + 1) - shape.buffers) → new ≡ old + 15
      → Allows (RuleHolds shape) slots id (Writer v, held) (length v.sealed % shape.buffers)
      (λ n. either (eqb n old) new n) (WriterTook (step slots (length v.sealed % shape.buffers) old new none)
      (Writer v, held))
  takes_out slots id v held old new home below room is new_is s kept _ at small =
      let a = as_writer s kept id v at in let x : Roles = with_writer a.roles v id in
      let k : ℕ = length v.sealed % shape.buffers in
      let n : ℕ = get_or s.words k 0 in let c = a.core in
      let k_small : k < shape.buffers = here_small s x c in let two = c.ring.two_buffers in
      let ok = c.each_turn k k_small in let free_here = free s x c home room in
      let newest = newest_next shape.buffers (length v.sealed) (x.turn k).newest (omega arith) ok.newest in
      let held_at_home = subst (λ (h : Holder). Held shape x s.homes k
      (x.turn k).newest h) free_here ok.held in
      let code = ap holder_code free_here in let shows = ok.shows in let twice = ap (λ (y : ℕ). 16 * y) newest in
      let found : n ≡ old = omega arith in
      let w' : WriterView = after_writer_take v in
      let x' : Roles = turn_now (writer_now x w') k (taken_turn s x c) in
      let core = taken_core s x c home below room new (omega arith) in
      let lows = c.writer.lows in
      let does = does_writer_take shape.buffers shape.max_blocks shape x home below
      (λ i near. room i (omega arith)) in (
        Writer w',
        takes k held_at_home.0,
        held_at_home.1,
        record {
          roles = x';
          core = subst (λ (z : Bool). HoldsFor shape (record {
            words = set s.words k (either z new n);
            homes =
                set s.homes k none;
            views = set s.views id (Writer w');
          }) x') (sym (eq-eqb n old found)) core;
          reached = by_event _ Event.WriterTake (Answer.Taken (length v.sealed)) _ a.reached does;
        },
        record {
          found = found;
          view = refl;
          block = held_at_home.0;
          slots = refl;
          room = held_at_home.2 ∙ ap (λ (z : RingShape). z.size) (sym c.writer.shaped);
          event = event s x c Event.WriterTake
              (λ _. Answer.Taken (length v.sealed)) w' a.reached does;
        },
      )

  pub seals : (slots id : ℕ) (v : WriterView) (b : Block) (word : ℕ) → v.out ≡ true → room_of b ≡ shape.size →
      length (entry_of b).bytes ≤ shape.size → word ≡ 16 * (length v.sealed + 1)
      → Allows (RuleHolds shape) slots id (Writer v, (length v.sealed % shape.buffers, b) ∷ [])
      (length v.sealed % shape.buffers) (λ _. word)
      (λ _. Sealed (step slots (length v.sealed % shape.buffers) word 0 none)
      (Writer v, (length v.sealed % shape.buffers, b) ∷ []) word)
  seals slots id v b word out room_is fits is s kept _ at small =
      let a = as_writer s kept id v at in let x : Roles = with_writer a.roles v id in
      let k : ℕ = length v.sealed % shape.buffers in let c = a.core in
      let w' : WriterView = after_seal v (entry_of b) in
      let x' : Roles = turn_now (writer_now x w') k (sealed_turn s x c) in
      let core = sealed_core s x c b out room_is fits word is in
      let does = does_seal shape.buffers shape.max_blocks shape x (entry_of b) out in
      let told : SealedBlock (Writer v, (k, b) ∷ []) (Writer w', []) b = record {
        seat = refl;
        settled = settles _ x' core;
        event = event s x c (Event.Seal (entry_of b))
            (λ _. Answer.Sealed (length v.sealed)) w' a.reached does;
      } in (
        Writer w',
        gives,
        tt,
        record {
          roles = x';
          core = core;
          reached = by_event _ (Event.Seal (entry_of b)) (Answer.Sealed (length v.sealed)) _ a.reached does;
        },
        told,
      )
