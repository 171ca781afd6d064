-- The readers come back one by one.
use Rattle.std.proofs.Common.{◌≡◌, ◌≢◌, ℕ, ◌+◌, ◌<◌, ◌≤◌, List, ◌++◌, length, get_or, set, drop, remove, Option, Some, None, slice_get, unwrap_or, sym, ap, ◌∙◌, subst, arith, length-set, get_or-set_same, get_or-set_other}
use Rattle.std.proofs.lemmas.Option.{slice_get_within}
use Rattle.std.proofs.lemmas.List.{take-append-drop}
use mathlib.Core.Logic.{dite}
use native.Mathlib.Decide.{ℕ_discrete}
use Rattle.ring_blocks.specs.declared.Entry.{Entry}
use Rattle.ring_words.specs.declared.views.WriterView.{WriterView}
use Rattle.ring_words.specs.declared.views.ReaderView.{ReaderView}
use Rattle.ring_words.specs.Ring.{Begins}
use Rattle.ring_words.specs.Plays.{WriterSettled}
use Rattle.ring_words.specs.Views.{parked_at, after_look, after_join}
use Rattle.ring_ends.specs.declared.ring.Ring.{Ring}
use Rattle.ring_ends.specs.declared.passes.EndedReader.{EndedReader}
use Rattle.ring_ends.specs.Passes.{ring_shape, ended_knows, EndedFrom}
use Rattle.ring_ends.specs.Counted.{cleared_of}
use Rattle.ring_ends.specs.Ended.{Gives, AllReaders}
use Rattle.ring_ends.proofs.Rows.{removed, left_over}

-- the first n of these readers are with the writer, which knew w before, and their counts are noted
pub record Joining (all readers : List (Option EndedReader)) (n : ℕ) (w v : WriterView) (counts : List ℕ) : Type 0 where
  pub left : readers ≡ drop n all
  pub rest : v ≡ record w { parked = v.parked }
  pub wide : length counts ≡ 8
  pub parked : (j : ℕ) (e : EndedReader) → j < n → Gives all j e →
      parked_at v (ended_knows e).number ≡ Some (ended_knows e)
  pub counted : (j : ℕ) (e : EndedReader) → j < n → Gives all j e →
      get_or counts (ended_knows e).number 0 ≡ length (ended_knows e).cleared

-- all of them are
pub record Joined (all : List (Option EndedReader)) (v : WriterView) (counts : List ℕ) : Type 0 where
  pub parked : (j : ℕ) (e : EndedReader) → Gives all j e → parked_at v (ended_knows e).number ≡ Some (ended_knows e)
  pub counted : (j : ℕ) (e : EndedReader) → Gives all j e →
      get_or counts (ended_knows e).number 0 ≡ length (ended_knows e).cleared

-- one place gives one reader
gives_one : (all : List (Option EndedReader)) (j : ℕ) (e f : EndedReader) → Gives all j e → Gives all j f → e ≡ f
gives_one all j e f p q = ap (λ (o : Option (Option EndedReader)). unwrap_or (unwrap_or o None) e) (sym p ∙ q)

module _ (ring : Ring) (all : List (Option EndedReader)) (ok : AllReaders ring all) where
  -- what is taken out at place n
  pub taken : (readers : List (Option EndedReader)) (n : ℕ) (o : Option EndedReader) → n < (ring_shape ring).readers →
      readers ≡ drop n all → o ≡ get_or readers 0 o
      → (e : EndedReader) × (o ≡ Some e) × Gives all n e × EndedFrom ring e
  taken readers n o near left first = let long = ok.count in let h = ok.each n (omega arith) in
      (h.0, removed all readers n (Some h.0) o h.1 left first, h.1, h.2)

  pub join_more : (readers readers' : List (Option EndedReader)) (n : ℕ) (w v v' : WriterView) (counts : List ℕ)
      (e : EndedReader) (number count : ℕ) → Joining all readers n w v counts → Gives all n e
      → readers' ≡ remove readers 0 → v' ≡ after_join v (ended_knows e) → number ≡ (ended_knows e).number →
      number < 8 → count ≡ length (ended_knows e).cleared → (ended_knows e).number < length v.parked
      → Joining all readers' (n + 1) w v' (set counts number count)
  join_more readers readers' n w v v' counts e number count before here gone view number_is small count_is near =
      let r : ReaderView = ended_knows e in let wide = before.wide in
      let parks : v'.parked ≡ set v.parked r.number (Some r) = ap (λ (x : WriterView). x.parked) view in record {
        left = left_over all readers readers' n (Some e) here before.left gone;
        rest = view ∙ (ap (λ (x : WriterView). let y : WriterView =
            record x { parked = set v.parked r.number (Some r) } in y) before.rest
            ∙ ap (λ (l : List (Option ReaderView)). let y : WriterView = record w { parked = l } in y) (sym parks));
        wide = length-set counts number count ∙ before.wide;
        parked = λ j f below gives. dite (ℕ_discrete j n)
            (λ same. let one : e ≡ f = gives_one all n e f here (ap (λ (k : ℕ). slice_get all k) (sym same) ∙ gives) in
            subst (λ (x : EndedReader). parked_at v' (ended_knows x).number ≡ Some (ended_knows x)) one
            (ap (λ (l : List (Option ReaderView)). get_or l r.number None) parks
            ∙ get_or-set_same v.parked r.number (Some r) None near))
            (λ earlier. let other : (ended_knows f).number ≢ r.number = λ same.
            earlier (ok.once j n f e gives here same) in
            ap (λ (l : List (Option ReaderView)). get_or l (ended_knows f).number None) parks
            ∙ (get_or-set_other v.parked r.number (ended_knows f).number (Some r) None other
            ∙ before.parked j f (omega arith) gives));
        counted = λ j f below gives. dite (ℕ_discrete j n)
            (λ same. let one : e ≡ f = gives_one all n e f here (ap (λ (k : ℕ). slice_get all k) (sym same) ∙ gives) in
            subst (λ (x : EndedReader). get_or (set counts number count) (ended_knows x).number 0
            ≡ length (ended_knows x).cleared) one
            (ap (λ (k : ℕ). get_or (set counts number count) k 0) (sym number_is)
            ∙ (get_or-set_same counts number count 0 (omega arith) ∙ count_is)))
            (λ earlier. let other : (ended_knows f).number ≢ number = λ same.
            earlier (ok.once j n f e gives here (same ∙ number_is)) in
            get_or-set_other counts number (ended_knows f).number count 0 other
            ∙ before.counted j f (omega arith) gives);
      }

  -- after the last one, and a look
  pub joined_all : (readers : List (Option EndedReader)) (n : ℕ) (w v v' : WriterView) (counts : List ℕ) (i x : ℕ) →
      Joining all readers n w v counts → length all ≤ n → v' ≡ after_look v i x → Joined all v' counts
  joined_all readers n w v v' counts i x end whole view = record {
    parked = λ j e gives. let below = slice_get_within all j (Some e) gives in
        ap (λ (u : WriterView). parked_at u (ended_knows e).number) view ∙ end.parked j e (omega arith) gives;
    counted = λ j e gives. let below = slice_get_within all j (Some e) gives in end.counted j e (omega arith) gives;
  }

  module _ (v : WriterView) (counts : List ℕ) (joined : Joined all v counts) where
    -- each reader is there
    each_parked : (i : ℕ) → i < (ring_shape ring).readers → (r : ReaderView) × (parked_at v i ≡ Some r)
        × (get_or counts i 0 ≡ length r.cleared)
    each_parked i near = let h = ok.all i near in let e : EndedReader = h.1 in (
      ended_knows e,
      ap (parked_at v) (sym h.3) ∙ joined.parked h.0 e h.2,
      ap (λ (k : ℕ). get_or counts k 0) (sym h.3) ∙ joined.counted h.0 e h.2,
    )

    pub each_counted : (i : ℕ) → i < (ring_shape ring).readers → get_or counts i 0 ≡ length (cleared_of (parked_at v i))
    each_counted i near = let h = each_parked i near in
        h.2 ∙ ap (λ (o : Option ReaderView). length (cleared_of o)) (sym h.1)

    pub each_begins : WriterSettled v → (i : ℕ) → i < (ring_shape ring).readers →
        Begins (cleared_of (parked_at v i)) v.sealed
    each_begins settled i near = let h = each_parked i near in
        subst (λ (o : Option ReaderView). Begins (cleared_of o) v.sealed) (sym h.1) (
          drop (length h.0.cleared) v.sealed,
          sym (take-append-drop (length h.0.cleared) v.sealed)
              ∙ ap (λ (l : List Entry). l ++ drop (length h.0.cleared) v.sealed) (settled.begins i h.0 h.1),
        )
