-- The reader's four steps keep the rule.
use Rattle.std.proofs.Common.{◌≡◌, ◌≢◌, ℕ, zero, suc, ◌+◌, ◌-◌, ◌*◌, ◌/◌, ◌%◌, ◌<◌, ◌≤◌, Bool, true, false, cond, eqb, leb, List, [], ◌∷◌, ◌++◌, length, get_or, set, Option, Some, None, sym, refl, ap, ◌∙◌, subst, inl, inr, ⊎_elim, arith, eq-eqb, ne_eqb, length-set, length-append, get_or-set_other, get_or-set_same, le-leb, slice_get, unwrap_or, All}
use Rattle.std.proofs.lemmas.Bool.Decides.{leb_tells}
use mathlib.Core.Option.{none, some}
use mathlib.Core.Logic.{dite}
use native.Mathlib.Decide.{ℕ_discrete, dec_le}
use lib.ListN.{get_elem?}
use lib.Seq.{set-get_or}
use prog.Atomic.{either}
use Rattle.atomic_table.specs.Table.{State, step, keeps, takes, gives, Allows}
use Rattle.atomic_table.proofs.Lists.{set_here, set_else, at_longer}
use Rattle.ring_blocks.specs.declared.Block.{Block}
use Rattle.ring_blocks.specs.declared.Entry.{Entry}
use Rattle.ring_blocks.specs.Contents.{room_of, entry_of}
use Rattle.ring_core.specs.Machine.{Event, Answer, Does, Reached, by_event, greatest}
use Rattle.ring_words.specs.declared.shape.RingShape.{RingShape}
use Rattle.ring_words.specs.declared.views.View.{View}
use Rattle.ring_words.specs.declared.views.ReaderView.{ReaderView}
use Rattle.ring_words.specs.declared.views.View.TheVariants.{Reader}
use Rattle.ring_words.specs.Views.{listed, got_list, after_hit, after_miss, after_give, after_clear, after_retire}
use Rattle.ring_words.specs.Ring.{Holder, at_home, by_reader, by_writer, Turn, Roles, turn_word, holder_code, IsNewest, Held, TurnOk, ReaderOk, HoldsFor, RuleHolds, count_word, standing, shown}
use Rattle.ring_words.specs.Plays.{IsEvent, ShowsReader, ReaderSettled, IsMiss, Missed, Tried, Gave, Cleared, Retired, miss_answer}
use Rattle.ring_words.proofs.Counts.{newest_own, newest_reached, apart, at_below, same_at, begins_short, begins_next}
use Rattle.ring_words.proofs.Frames.{put, put_here, put_else, at_put, reader_now, turn_now, Homes, turn_kept, reader_kept, is_reader, reader_step}
use Rattle.ring_words.proofs.WriterSteps.{live_count}
use Rattle.ring_words.proofs.Listed.{at_or}
use Rattle.ring_words.proofs.Shown.{shows_new, is_shown, does_hit, does_empty, does_busy, does_give, does_clear, does_retire}

ne_leb : (a b : ℕ) → b < a → leb a b ≡ false
ne_leb a b less = ⊎_elim (λ t. let wrong = t.1 in absurd (omega arith)) (λ t. t.0) (leb_tells a b)

-- the reader that has a buffer
abbrev holder_or : ℕ → Holder → ℕ
holder_or d at_home = d
holder_or d (by_reader i) = i
holder_or d by_writer = d

module _ (shape : RingShape) (s : State Block View) (x : Roles) (c : HoldsFor shape s x) where
  -- what each step tells of a reader's own view
  pub settles : (i : ℕ) → i < shape.readers → ReaderSettled (x.reader i)
  settles i inside = let ok = c.each_reader i inside in let r : ReaderView = x.reader i in let wr = c.writer in
      let short = begins_short r.cleared x.writer.sealed ok.begins in let limit = wr.limit in
      subst (λ (z : RingShape). (length r.cleared ≤ z.max_blocks) × All (λ e. length e.bytes ≤ z.size) r.cleared
      × ((e : Entry) → r.got ≡ Some e → (length r.cleared < z.max_blocks) × (length e.bytes ≤ z.size)) →
      ReaderSettled r) ok.shaped (λ t. record { limit = t.0; sized = t.1; next = t.2 }) (
        omega arith,
        (λ m d below. let e : Entry = get_or r.cleared m d in
            wr.sized m e (ap (λ (l : List Entry). get_elem? l m) ok.begins.1
            ∙ at_longer r.cleared ok.begins.0 m e (at_or r.cleared m d below))),
        (λ e got. let next = (ok.got e got).1 in let below = at_below x.writer.sealed (length r.cleared) e next in
            (omega arith, wr.sized (length r.cleared) e next)),
      )

  module _ (id : ℕ) (r : ReaderView) (here : get_elem? s.views id ≡ some (Reader r)) where
    abbrev buffer : ℕ
    buffer = length r.cleared % shape.buffers

    inside : r.number < shape.readers
    inside = (is_reader shape s x c id r here).0

    itself : r ≡ x.reader r.number
    itself = (is_reader shape s x c id r here).1

    mine : ReaderOk shape x s.words r.number r
    mine = subst (λ (q : ReaderView). ReaderOk shape x s.words r.number q) (sym itself)
        (c.each_reader r.number inside)

    buffer_small : buffer < shape.buffers
    buffer_small = let two = c.ring.two_buffers in omega arith

    -- the event of a step of the reader, which is r' afterwards
    event : r.retired ≡ false → (e : Event Entry) (a : Answer Entry) (r' : ReaderView) → r'.number ≡ r.number →
        Reached shape.buffers shape.max_blocks shape.readers (shown shape x)
        → Does shape.buffers shape.max_blocks (shown shape x) e a (shown shape (reader_now x r.number r'))
        → IsEvent r.shape e a (ShowsReader r) (ShowsReader r')
    event live e a r' same reached does = subst (λ (z : RingShape). IsEvent z e a (ShowsReader r) (ShowsReader r'))
        (sym mine.shaped) record {
          old = shown shape x;
          new = shown shape (reader_now x r.number r');
          reached = reached;
          does = does;
          shows_before = is_shown shape.buffers shape.max_blocks shape x r.number inside
              ∙ ap (λ (q : ReaderView). Some (standing q)) (sym itself);
          shows_after = subst (λ (j : ℕ). slice_get
              (listed (λ k. standing (put x.reader r.number r' k)) shape.readers) j
              ≡ Some (standing r')) (sym same)
              (shows_new shape.buffers shape.max_blocks shape x r.number inside r itself live r');
        }

    -- a buffer that the step leaves alone
    other_turn : (r' : ReaderView) (turn' : ℕ → Turn) (words' : List ℕ) (homes' : Homes) (k : ℕ) → k < shape.buffers →
        get_or words' k 0 ≡ get_or s.words k 0 → get_elem? homes' k ≡ get_elem? s.homes k
        → (r.out ≡ true → (x.turn k).newest ≡ length r.cleared + 1 → ⊥) →
        TurnOk shape (record (reader_now x r.number r') { turn = turn' }) words' homes' k (x.turn k)
    other_turn r' turn' words' homes' k near word home not_mine = let ok = c.each_turn k near in
        turn_kept shape x (record (reader_now x r.number r') { turn = turn' }) s.words words' s.homes homes' k
        (x.turn k) word ok.newest record {
          home = home;
          sealed = λ m e is. is;
          readers = λ j out n. dite (ℕ_discrete j r.number)
              (λ e. let mine_out : r.out ≡ true = ap (λ (q : ReaderView). q.out) (itself ∙ ap x.reader (sym e)) ∙ out in
              let mine_newest : (x.turn k).newest ≡ length r.cleared + 1 = n
              ∙ ap (λ (q : ReaderView). length q.cleared + 1) (ap x.reader e ∙ sym itself) in
              absurd (not_mine mine_out mine_newest))
              (λ other. let same = put_else x.reader r.number r' j other in (
                ap (λ (q : ReaderView). q.out) same ∙ out,
                n
                    ∙ ap (λ (q : ReaderView). length q.cleared + 1) (sym same),
              ));
          writer = λ o e. (o, e);
        } ok

    -- a step on the buffer of the block that comes next, whose holder was h
    turn_step : (r' : ReaderView) → r'.number ≡ r.number → (h : Holder) → (x.turn buffer).holder ≡ h →
        (h ≡ by_writer → ⊥) → ((j : ℕ) → j ≢ r.number → h ≡ by_reader j → ⊥)
        → (t : Turn) (word : ℕ) (homes' : Homes) → length homes' ≡ length s.homes →
        ((k : ℕ) → k ≢ buffer → get_elem? homes' k ≡ get_elem? s.homes k)
        → TurnOk shape (turn_now (reader_now x r.number r') buffer t) (set s.words buffer word) homes' buffer t
        → ReaderOk shape (turn_now (reader_now x r.number r') buffer t) (set s.words buffer word) r.number r'
        → HoldsFor shape (record {
          words = set s.words buffer word;
          homes = homes';
          views =
              set s.views id (Reader r');
        }) (turn_now (reader_now x r.number r') buffer t)
    turn_step r' same h was no_writer no_other t word homes' deep homes_else turn_here mine' = let wr = c.writer in
        let x' : Roles = turn_now (reader_now x r.number r') buffer t in let near_here = buffer_small in
        reader_step shape s x c id r here r' same x'.turn
        (set s.words buffer word) homes' (length-set s.words buffer word) deep
        record {
          shaped = wr.shaped;
          lows = wr.lows;
          limit = wr.limit;
          sized = wr.sized;
          out = λ out. let o = wr.out out in (
            dite (ℕ_discrete (length x.writer.sealed % shape.buffers) buffer)
                (λ e. absurd (no_writer (sym was ∙ (ap (λ (k : ℕ). (x.turn k).holder) (sym e) ∙ o.0))))
                (λ other. ap (λ (y : Turn). y.holder) (put_else x.turn buffer t
                (length x.writer.sealed % shape.buffers) other)
                ∙ o.0),
            o.1,
          );
          room = wr.room;
          look = wr.look;
        }
        (at_put (λ k z. TurnOk shape x' (set s.words buffer word) homes' k z) x.turn buffer t shape.buffers turn_here
        (λ k near other. other_turn r' x'.turn (set s.words buffer word) homes' k near
        (get_or-set_other s.words buffer k word 0 other) (homes_else k other)
        (λ out n. let last = (c.each_turn k near).newest.last (length r.cleared) n in other (sym last.0))))
        (at_put (λ j q. ReaderOk shape x' (set s.words buffer word) j q) x.reader r.number r' shape.readers mine'
        (λ j near other. let ok = c.each_reader j near in
        reader_kept shape x x' s.words (set s.words buffer word) j (x.reader j)
        (get_or-set_other s.words buffer (shape.buffers + j) word 0 (λ e. omega arith)) ok.begins ok.within (λ e is. is)
        (λ holds. dite (ℕ_discrete (length (x.reader j).cleared % shape.buffers) buffer)
        (λ e. absurd (no_other j other (sym was ∙ (ap (λ (k : ℕ). (x.turn k).holder) (sym e) ∙ holds))))
        (λ elsewhere. ap (λ (y : Turn). y.holder) (put_else x.turn buffer t
        (length (x.reader j).cleared % shape.buffers) elsewhere) ∙ holds))
        ok.low ok))

    -- a step that changes no buffer and no other reader's count, of a reader with nothing out
    count_step : (r' : ReaderView) → r'.number ≡ r.number → r.out ≡ false → (words' : List ℕ) →
        length words' ≡ length s.words
        → ((k : ℕ) → k < shape.buffers → get_or words' k 0 ≡ get_or s.words k 0) →
        ((j : ℕ) → j ≢ r.number → get_or words' (shape.buffers + j) 0 ≡ get_or s.words (shape.buffers + j) 0)
        → ReaderOk shape (reader_now x r.number r') words' r.number r'
        → HoldsFor shape (record { words = words'; homes = s.homes; views = set s.views id (Reader r') })
        (reader_now x r.number r')
    count_step r' same home words' wide turns counts mine' = let wr = c.writer in
        reader_step shape s x c id r here r' same x.turn words' s.homes wide refl
        record {
          shaped = wr.shaped;
          lows = wr.lows;
          limit = wr.limit;
          sized = wr.sized;
          out = wr.out;
          room = wr.room;
          look = wr.look;
        }
        (λ k near. other_turn r' x.turn words' s.homes k near (turns k near) refl (λ out n. cc))
        (at_put (λ j q. ReaderOk shape (reader_now x r.number r') words' j q) x.reader r.number r' shape.readers mine'
        (λ j near other. let ok = c.each_reader j near in
        reader_kept shape x (reader_now x r.number r') s.words words' j (x.reader j) (counts j other) ok.begins
        ok.within
        (λ e is. is) (λ h. h) ok.low ok))

    -- the number of a holder is below 16
    code_small : (h : Holder) → Held shape x s.homes buffer (x.turn buffer).newest h → holder_code h < 16
    code_small at_home held = omega arith
    code_small (by_reader i) held = let near = held.0 in let most = c.ring.most_readers in omega arith
    code_small by_writer held = omega arith

    at_zero : (h : Holder) → holder_code h ≡ 0 → h ≡ at_home
    at_zero at_home e = refl
    at_zero (by_reader i) e = absurd (omega arith)
    at_zero by_writer e = absurd (omega arith)

    taken_turn : Turn
    taken_turn = record { newest = (x.turn buffer).newest; holder = by_reader r.number }

    -- the reader takes its block
    hit_core : (b : Block) (n : ℕ) → r.out ≡ false → r.retired ≡ false → (x.turn buffer).holder ≡ at_home →
        (x.turn buffer).newest ≡ length r.cleared + 1 → get_elem? x.writer.sealed (length r.cleared) ≡ some (entry_of b)
        → (word : ℕ) → word ≡ 16 * (length r.cleared + 1) + (r.number + 1)
        → HoldsFor shape (record {
          words = set s.words buffer word;
          homes = set s.homes buffer none;
          views =
              set s.views id (Reader (after_hit r n (entry_of b)));
        }) (turn_now (reader_now x r.number (after_hit r n (entry_of b))) buffer taken_turn)
    unfolding taken_turn
    hit_core b n home live free newest next word is = let r' : ReaderView = after_hit r n (entry_of b) in
        let small = buffer_small in let wide = c.wide in let near = inside in
        let new = put_here x.reader r.number r' in let ok = mine in let twice = ap (λ (x : ℕ). 16 * x) newest in
        turn_step r' refl at_home free (λ e. cc) (λ j _ e. cc) taken_turn word (set s.homes buffer none)
        (length-set s.homes buffer none) (λ k other. set_else s.homes buffer k none other)
        record {
          shows = get_or-set_same s.words buffer word 0 (omega arith) ∙ omega arith;
          newest = (c.each_turn buffer small).newest;
          held = (
            near,
            ap (λ (q : ReaderView). q.out) new,
            newest
                ∙ ap (λ (q : ReaderView). length q.cleared + 1) (sym new),
          );
        }
        record {
          number = refl;
          shaped = ok.shaped;
          shows = get_or-set_other s.words buffer (shape.buffers + r.number) word 0 (λ e. omega arith) ∙ ok.shows;
          begins = ok.begins;
          within = ok.within;
          got = λ e same. (live, next ∙ ap (λ (o : Option Entry). some (unwrap_or o (entry_of b))) same);
          out = λ _. ((entry_of b, refl), ap (λ (t : Turn). t.holder) (put_here x.turn buffer taken_turn));
          low = ok.low;
        }

    -- the reader finds the buffer otherwise
    miss_core : (n : ℕ) → r.out ≡ false → HoldsFor shape (record {
      words = s.words;
      homes = s.homes;
      views =
          set s.views id (Reader (after_miss r n));
    }) (reader_now x r.number (after_miss r n))
    miss_core n home = let ok = mine in count_step (after_miss r n) refl home s.words refl (λ k near. refl)
        (λ j other. refl) record {
          number = refl;
          shaped = ok.shaped;
          shows = ok.shows;
          begins = ok.begins;
          within = ok.within;
          got = ok.got;
          out = ok.out;
          low = ok.low;
        }

    given_turn : Turn
    given_turn = record { newest = (x.turn buffer).newest; holder = at_home }

    give_core : (b : Block) → r.out ≡ true → room_of b ≡ shape.size → r.got ≡ Some (entry_of b) → (word : ℕ) →
        word ≡ 16 * (length r.cleared + 1)
        → HoldsFor shape (record {
          words = set s.words buffer word;
          homes = set s.homes buffer (some b);
          views =
              set s.views id (Reader (after_give r));
        }) (turn_now (reader_now x r.number (after_give r)) buffer given_turn)
    unfolding given_turn
    give_core b out room_is got word is = let r' : ReaderView = after_give r in let small = buffer_small in
        let wide = c.wide in let deep = c.deep in let near = inside in let ok = mine in
        let was : (x.turn buffer).holder ≡ by_reader r.number = (ok.out out).1 in
        let held = subst (λ (h : Holder). Held shape x s.homes buffer (x.turn buffer).newest h) was
        (c.each_turn buffer small).held in
        let newest : (x.turn buffer).newest ≡ length r.cleared + 1 = held.2
        ∙ ap (λ (q : ReaderView). length q.cleared + 1) (sym itself) in
        let next = (ok.got (entry_of b) got).1 in
        turn_step r' refl (by_reader r.number) was (λ e. cc)
        (λ j other e. other (sym (ap (holder_or 0) e))) given_turn word (set s.homes buffer (some b))
        (length-set s.homes buffer (some b)) (λ k other. set_else s.homes buffer k (some b) other)
        record {
          shows = get_or-set_same s.words buffer word 0 (omega arith) ∙ omega arith;
          newest = (c.each_turn buffer small).newest;
          held = (
            b,
            set_here s.homes buffer (some b) (omega arith),
            room_is,
            λ m n. ap (λ (i : ℕ). get_elem? x.writer.sealed i) (let e : m ≡ length r.cleared = omega arith in e) ∙ next,
          );
        }
        record {
          number = refl;
          shaped = ok.shaped;
          shows = get_or-set_other s.words buffer (shape.buffers + r.number) word 0 (λ e. omega arith) ∙ ok.shows;
          begins = ok.begins;
          within = ok.within;
          got = ok.got;
          out = λ o. cc;
          low = ok.low;
        }

    clear_core : (e : Entry) → r.out ≡ false → r.retired ≡ false → r.got ≡ Some e → (word : ℕ) →
        word ≡ length r.cleared + 1
        → HoldsFor shape (record {
          words = set s.words (shape.buffers + r.number) word;
          homes = s.homes;
          views =
              set s.views id (Reader (after_clear r));
        }) (reader_now x r.number (after_clear r))
    clear_core e home live got word is = let near = inside in let wide = c.wide in let ok = mine in
        let next = (ok.got e got).1 in
        let longer = length-append r.cleared (e ∷ []) in let low = ok.low in let count = live_count r live in
        count_step (after_clear r) refl home (set s.words (shape.buffers + r.number) word)
        (length-set s.words (shape.buffers + r.number) word)
        (λ k small. get_or-set_other s.words (shape.buffers + r.number) k word 0 (λ z. omega arith))
        (λ j other. get_or-set_other s.words (shape.buffers + r.number) (shape.buffers + j) word 0
        (λ z. other (omega arith)))
        (subst (λ (l : List Entry). ReaderOk shape (reader_now x r.number (after_clear r))
        (set s.words (shape.buffers + r.number) word) r.number (record r { cleared = r.cleared ++ l; got = None }))
        (sym (ap got_list got))
        (let r' : ReaderView = record r { cleared = r.cleared ++ e ∷ []; got = None } in
        let count' : count_word r' ≡ length (r.cleared ++ e ∷ []) = live_count r' live in record {
          number = refl;
          shaped = ok.shaped;
          shows = get_or-set_same s.words (shape.buffers + r.number) word 0 (omega arith) ∙ omega arith;
          begins = begins_next r.cleared x.writer.sealed e ok.begins next;
          within = λ z. let old = ok.within z in omega arith;
          got = λ y z. cc;
          out = λ z. cc;
          low = omega arith;
        }))

    retire_core : r.out ≡ false → r.retired ≡ false
        → HoldsFor shape (record {
          words = set s.words (shape.buffers + r.number) greatest;
          homes = s.homes;
          views =
              set s.views id (Reader (after_retire r));
        }) (reader_now x r.number (after_retire r))
    retire_core home live = let near = inside in let wide = c.wide in let ok = mine in let low = ok.low in
        let count = live_count r live in
        let short = begins_short r.cleared x.writer.sealed ok.begins in let limit = c.writer.limit in
        let most = c.ring.most_blocks in
        count_step (after_retire r) refl home (set s.words (shape.buffers + r.number) greatest)
        (length-set s.words (shape.buffers + r.number) greatest)
        (λ k small. get_or-set_other s.words (shape.buffers + r.number) k greatest 0 (λ z. omega arith))
        (λ j other. get_or-set_other s.words (shape.buffers + r.number) (shape.buffers + j) greatest 0
        (λ z. other (omega arith)))
        record {
          number = refl;
          shaped = ok.shaped;
          shows = get_or-set_same s.words (shape.buffers + r.number) greatest 0 (omega arith);
          begins = ok.begins;
          within = λ z. cc;
          got = λ y z. cc;
          out = λ z. cc;
          low = omega arith;
        }

    -- the machine's answers to a try in vain
    empty_answer : (n : ℕ) → n / 16 ≤ length r.cleared → Answer.Empty (length r.cleared) ≡ miss_answer r n
    empty_answer n older = sym (ap (λ z. cond z (Answer.Empty (length r.cleared))
        (Answer.Busy (length r.cleared) (n % 16 - 1))) (le-leb (n / 16) (length r.cleared) older))

    busy_answer : (n j : ℕ) → n / 16 ≡ length r.cleared + 1 → n % 16 ≡ j + 1 →
        Answer.Busy (length r.cleared) j ≡ miss_answer r n
    busy_answer n j newest code = let same : j ≡ n % 16 - 1 = omega arith in
        ap (λ (k : ℕ). let y : Answer Entry = Answer.Busy (length r.cleared) k in y) same
        ∙ sym (ap (λ z. cond z (Answer.Empty (length r.cleared)) (Answer.Busy (length r.cleared) (n % 16 - 1)))
        (ne_leb (n / 16) (length r.cleared) (omega arith)))

    -- why the word n, which is not the one that the reader wants, is there, and which event it is
    abbrev Explained : ℕ → Type 0
    Explained n = IsMiss r n × Does shape.buffers shape.max_blocks (shown shape x) (Event.ReaderTake r.number)
        (miss_answer r n) (shown shape (reader_now x r.number (after_miss r n)))

    module _ (n : ℕ) (is : n ≡ turn_word (x.turn buffer)) (home : r.out ≡ false) (live : r.retired ≡ false) where
      explains_empty : length x.writer.sealed ≤ length r.cleared → Explained n
      explains_empty none_left = let small = buffer_small in let ok = c.each_turn buffer small in
          let code = code_small (x.turn buffer).holder ok.held in
          let near = newest_own shape.buffers (length x.writer.sealed) (length r.cleared) (x.turn buffer).newest
          (omega arith)
          (omega arith) ok.newest in
          let older : (x.turn buffer).newest ≤ length r.cleared = not_past (x.turn buffer).newest ok.newest in
          let read : n / 16 ≤ length r.cleared = omega arith in (
            inl read,
            subst (λ (a : Answer Entry). Does shape.buffers shape.max_blocks (shown shape x)
                (Event.ReaderTake r.number) a (shown shape (reader_now x r.number (after_miss r n))))
                (empty_answer n read)
                (does_empty shape.buffers shape.max_blocks shape x r.number inside r itself live n home
                none_left),
          )
        where
          not_past : (n : ℕ) → IsNewest shape.buffers (length x.writer.sealed) buffer n → n ≤ length r.cleared
          not_past zero old = omega arith
          not_past (suc m) old = let l = (old.last m (omega arith)).1 in omega arith

      explains_busy : length r.cleared < length x.writer.sealed → (n ≡ 16 * (length r.cleared + 1) → ⊥) → (h : Holder) →
          (x.turn buffer).holder ≡ h → Explained n
      explains_busy some_left other at_home held_by = let small = buffer_small in let ok = c.each_turn buffer small in
          let near = newest_reached shape.buffers (length x.writer.sealed) (length r.cleared) (x.turn buffer).newest
          (omega arith) some_left (mine.within live) ok.newest in
          let code = ap holder_code held_by in absurd (other (omega arith))
      explains_busy some_left other by_writer held_by = let small = buffer_small in let ok = c.each_turn buffer small in
          let held = subst (λ (h : Holder). Held shape x s.homes buffer
          (x.turn buffer).newest h) held_by ok.held in
          let room = c.writer.room held.0 r.number inside in let low = mine.low in let count = live_count r live in
          absurd (apart shape.buffers (length r.cleared) (length x.writer.sealed) some_left (omega arith) (sym held.1))
      explains_busy some_left other (by_reader j) held_by = let small = buffer_small in
          let ok = c.each_turn buffer small in
          let near = newest_reached shape.buffers (length x.writer.sealed) (length r.cleared) (x.turn buffer).newest
          (omega arith) some_left (mine.within live) ok.newest in
          let held = subst (λ (h : Holder). Held shape x s.homes buffer
          (x.turn buffer).newest h) held_by ok.held in
          let held_near = held.0 in let most = c.ring.most_readers in let newest = held.2 in
          let code = ap holder_code held_by in
          let got = ((c.each_reader j held.0).out held.1).0 in
          let read : n / 16 ≡ length r.cleared + 1 = omega arith in let rest : n % 16 ≡ j + 1 = omega arith in (
            inr (
              read,
              (
                j,
                rest,
                subst (λ (z : RingShape). j < z.readers) (sym mine.shaped) held.0,
                (λ e. not_self (ap (λ (q : ReaderView). q.out) (ap x.reader e ∙ sym itself)) held.1),
              ),
            ),
            subst (λ (a : Answer Entry). Does shape.buffers shape.max_blocks (shown shape x)
                (Event.ReaderTake r.number) a (shown shape (reader_now x r.number (after_miss r n))))
                (busy_answer n j read rest)
                (does_busy shape.buffers shape.max_blocks shape x r.number inside r itself live n j home
                some_left held.0 ((c.each_reader j held.0).got got.0 got.1).0 held.1 (omega arith)),
          )
        where
          not_self : {z : Bool} → z ≡ r.out → z ≡ true → ⊥
          not_self e f = let clash = home in cc

      explains : (n ≡ 16 * (length r.cleared + 1) → ⊥) → Explained n
      explains other = dite (dec_le (length x.writer.sealed) (length r.cleared)) explains_empty
          (λ more. explains_busy (omega arith) other (x.turn buffer).holder refl)

module _ (shape : RingShape) where
  -- what a reader's step tells of its view, where the new rule has it as r'
  settled : (s : State Block View) (x : Roles) (turn' : ℕ → Turn) (i : ℕ) (r' : ReaderView) → i < shape.readers →
      HoldsFor shape s (record (reader_now x i r') { turn = turn' }) → ReaderSettled r'
  settled s x turn' i r' inside_ c = subst ReaderSettled (put_here x.reader i r')
      (settles shape s (record (reader_now x i r') { turn = turn' }) c i inside_)

  pub tries : (slots id : ℕ) (r : ReaderView) (held : List (ℕ × Block)) (old new : ℕ) → r.out ≡ false →
      r.retired ≡ false → old ≡ 16 * (length r.cleared + 1) → new ≡ old + (r.number + 1)
      → Allows (RuleHolds shape) slots id (Reader r, held) (length r.cleared % shape.buffers)
      (λ n. either (eqb n old) new n) (Tried (step slots (length r.cleared % shape.buffers) old new none)
      (Reader r, held))
  tries slots id r held old new home live is new_is s kept _ here small =
      let k : ℕ = length r.cleared % shape.buffers in let n : ℕ = get_or s.words k 0 in let x = kept.roles in
      let c = kept.core in
      let i : ℕ = r.number in
      let near = inside shape s x c id r here in
      let k_small = buffer_small shape s x c id r here in
      let ok = c.each_turn k k_small in let shows = ok.shows in
      let code = code_small shape s x c id r here
      (x.turn k).holder ok.held in
      dite (ℕ_discrete n old)
      (λ found.
      let newest : (x.turn k).newest ≡ length r.cleared + 1 = omega arith in
      let nobody : holder_code (x.turn k).holder ≡ 0 = omega arith in
      let free = at_zero shape s x c id r here
      (x.turn k).holder nobody in
      let block = subst (λ (h : Holder). Held shape x s.homes k (x.turn k).newest h) free ok.held in
      let next = block.3 (length r.cleared) newest in let e : Entry = entry_of block.0 in
      let r' : ReaderView = after_hit r n e in
      let core = hit_core shape s x c id r here block.0 n home live free
      newest next new (omega arith) in
      let does = does_hit shape.buffers shape.max_blocks shape x i near r
      (itself shape s x c id r here) live n e home next
      (λ j inside_j out same. let taken = ((c.each_reader j inside_j).out out).1 in
      let clash : by_reader j ≡ at_home = sym taken ∙ (ap (λ (y : ℕ). (x.turn (y % shape.buffers)).holder) same
      ∙ free) in (cc)) in
      let x' : Roles = turn_now (reader_now x i r') k (taken_turn shape s x c id r here) in (
        Reader r',
        takes k block.0,
        block.1,
        record {
          roles = x';
          core = subst (λ (z : Bool). HoldsFor shape (record {
            words = set s.words k (either z new n);
            homes =
                set s.homes k none;
            views = set s.views id (Reader r');
          }) x') (sym (eq-eqb n old found)) core;
          reached = by_event _ (Event.ReaderTake i) (Answer.Got (length r.cleared) e) _ kept.reached does;
        },
        record {
          hit = λ _. record {
            block = block.0;
            slots = refl;
            view = refl;
            room = block.2 ∙ ap (λ (z : RingShape). z.size)
                (sym (mine shape s x c id r here).shaped);
            same = λ y got. same_at x.writer.sealed (length r.cleared) y e
                ((mine shape s x c id r here).got y got).1 next;
            event = event shape s x c id r here live
                (Event.ReaderTake i) (Answer.Got (length r.cleared) e) r' refl kept.reached does;
          };
          missed = λ other. absurd {A = Missed (Reader r, held) n (Reader r', (k, block.0) ∷ held)} (other found);
          settled = settled _ x x'.turn i r' near core;
        },
      ))
      (λ other.
      let r' : ReaderView = after_miss r n in let core =
      miss_core shape s x c id r here n home in
      let why = explains shape s x c id r here n shows home live
      (λ e. other (e ∙ sym is)) in (
        Reader r',
        keeps,
        tt,
        record {
          roles = reader_now x i r';
          core = subst (λ (ws : List ℕ). HoldsFor shape (record {
            words = ws;
            homes = s.homes;
            views =
                set s.views id (Reader r');
          }) (reader_now x i r'))
              (sym (ap (λ z. set s.words k (either z new n)) (ne_eqb n old other) ∙ set-get_or s.words k 0)) core;
          reached = by_event _ (Event.ReaderTake i) (miss_answer r n) _ kept.reached why.1;
        },
        record {
          hit = λ found. absurd (other found);
          missed = λ _. record {
            seat = refl;
            why = why.0;
            event = event shape s x c id r here live
                (Event.ReaderTake i) (miss_answer r n) r' refl kept.reached why.1;
          };
          settled = settled _ x x.turn i r' near core;
        },
      ))

  pub gives_back : (slots id : ℕ) (r : ReaderView) (b : Block) (word : ℕ) → r.out ≡ true → room_of b ≡ shape.size →
      r.got ≡ Some (entry_of b) → word ≡ 16 * (length r.cleared + 1)
      → Allows (RuleHolds shape) slots id (Reader r, (length r.cleared % shape.buffers, b) ∷ [])
      (length r.cleared % shape.buffers) (λ _. word)
      (λ _. Gave (step slots (length r.cleared % shape.buffers) word 0 none)
      (Reader r, (length r.cleared % shape.buffers, b) ∷ []) word)
  gives_back slots id r b word out room_is got is s kept _ here small =
      let k : ℕ = length r.cleared % shape.buffers in let x = kept.roles in let c = kept.core in let i : ℕ = r.number in
      let r' : ReaderView = after_give r in
      let near = inside shape s x c id r here in
      let own = mine shape s x c id r here in
      let live = (own.got (entry_of b) got).0 in
      let core = give_core shape s x c id r here b out room_is got word
      is in
      let does = does_give shape.buffers shape.max_blocks shape x i near r
      (itself shape s x c id r here) live out (entry_of b) got in
      let x' : Roles = turn_now (reader_now x i r') k (given_turn shape s x c id r here) in (
        Reader r',
        gives,
        tt,
        record {
          roles = x';
          core = core;
          reached = by_event _ (Event.Give i) Answer.Given _ kept.reached does;
        },
        record {
          seat = refl;
          settled = settled _ x x'.turn i r' near core;
          event = event shape s x c id r here live
              (Event.Give i) Answer.Given r' refl kept.reached does;
        },
      )

  pub clears : (slots id : ℕ) (r : ReaderView) (held : List (ℕ × Block)) (e : Entry) (word : ℕ) → r.out ≡ false →
      r.retired ≡ false → r.got ≡ Some e → word ≡ length r.cleared + 1
      → Allows (RuleHolds shape) slots id (Reader r, held) (shape.buffers + r.number) (λ _. word)
      (λ _. Cleared (step slots (shape.buffers + r.number) word 0 none) (Reader r, held) word)
  clears slots id r held e word home live got is s kept _ here small = let x = kept.roles in
      let c = kept.core in let i : ℕ = r.number in
      let r' : ReaderView = after_clear r in
      let near = inside shape s x c id r here in
      let core = clear_core shape s x c id r here e home live got word
      is in
      let longer : length r'.cleared ≡ length r.cleared + 1 = ap
      (λ (o : Option Entry). length (r.cleared ++ got_list o)) got ∙ length-append r.cleared (e ∷ []) in
      let does = does_clear shape.buffers shape.max_blocks shape x i near r
      (itself shape s x c id r here) live home e got longer in (
        Reader r',
        keeps,
        tt,
        record {
          roles = reader_now x i r';
          core = core;
          reached = by_event _ (Event.Clear i) (Answer.Cleared (length r.cleared + 1)) _ kept.reached does;
        },
        record {
          seat = refl;
          settled = settled _ x x.turn i r' near core;
          event = event shape s x c id r here live (Event.Clear i)
              (Answer.Cleared (length r.cleared + 1)) r' refl kept.reached does;
        },
      )

  pub retires : (slots id : ℕ) (r : ReaderView) (held : List (ℕ × Block)) → r.out ≡ false → r.retired ≡ false
      → Allows (RuleHolds shape) slots id (Reader r, held) (shape.buffers + r.number) (λ _. greatest)
      (λ _. Retired (step slots (shape.buffers + r.number) greatest 0 none) (Reader r, held) greatest)
  retires slots id r held home live s kept _ here small = let x = kept.roles in let c = kept.core in
      let i : ℕ = r.number in
      let r' : ReaderView = after_retire r in
      let near = inside shape s x c id r here in
      let core = retire_core shape s x c id r here home live in
      let does = does_retire shape.buffers shape.max_blocks shape x i near r
      (itself shape s x c id r here) live home in (
        Reader r',
        keeps,
        tt,
        record {
          roles = reader_now x i r';
          core = core;
          reached = by_event _ (Event.Retire i) Answer.Retired _ kept.reached does;
        },
        record {
          seat = refl;
          settled = settled _ x x.turn i r' near core;
          event = event shape s x c id r here live
              (Event.Retire i) Answer.Retired r' refl kept.reached does;
        },
      )
