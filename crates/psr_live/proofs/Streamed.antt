-- What the calls of a search leave.
use Rattle.std.proofs.Common.{◌≡◌, ℕ, ◌-◌, ◌≤◌, ◌<◌, ◌++◌, List, [], length, take, drop, refl, sym, ◌∙◌, ap, subst, append-nil, append_assoc, get_or, Fits, w8, arith}
use Rattle.std.specs.Prelude.{All, Option, Some, None}
use Rattle.std.specs.Io.KnownBytes.{append_known}
use Rattle.std.proofs.lemmas.List.{take-append-drop, take_all}
use Rattle.std.proofs.lemmas.List.Elements.{All-append, All-from_get_or, All-nil}
use Rattle.dada_model.specs.Observation.{Observation}
use Rattle.psr_base.specs.Written.{PiecesJoin, SinkSeen, WroteAll, WroteFront, room_after}
use Rattle.search_model.specs.Plan.{PlanRefusal}
use Rattle.search_model.specs.Observed.{filterbank_of}
use Rattle.run_outcome.specs.declared.causes.PlanCause.TheVariants.{SumBound}
use Rattle.live_search.specs.Laws.{LiveDataGrow}
use Rattle.live_search.specs.Live.{BrokeOff, Task, WasFed, WroteOn, so_far}
use Rattle.live_search.specs.declared.live.LiveSearch.{LiveSearch}
use Rattle.psr_live.specs.declared.task.LiveRefusal.{LiveRefusal}
use Rattle.psr_live.specs.declared.task.LiveRefusal.TheVariants.{Plan, Beyond}
use Rattle.psr_live.specs.Task.{IsRefusal, Streams, text_of}

-- ---- refusals

pub never_both : (first : Option PlanRefusal) (refusal : LiveRefusal) → first ≡ None → IsRefusal first refusal → ⊥
never_both first (Beyond place spectra) none is = is
never_both first (Plan (SumBound a b c)) none is = absurd cc
never_both first refusal none is = absurd cc

-- ---- an output that took nothing

same_bytes : (written : Option (List ℕ)) → append_known written [] ≡ written
same_bytes None = refl
same_bytes (Some xs) = ap Some (append-nil xs)

same_room : (room : Option ℕ) → room_after 0 room ≡ room
same_room None = refl
same_room (Some n) = ap Some (let same : n - 0 ≡ n = omega arith in same)

pub took_nothing : (old new : SinkSeen) → WroteAll [] old new → new ≡ old
took_nothing old new is =
    ap (λ w. record { written = w; room = new.room; faults = new.faults }) (is.written ∙ same_bytes old.written)
    ∙ ap (λ r. record { written = old.written; room = r; faults = new.faults }) (is.room ∙ same_room old.room)
    ∙ ap (λ n. record { written = old.written; room = old.room; faults = n }) is.faults

-- ---- the calls

pub bytes_are : (bytes : List ℕ) → ((i : ℕ) → Fits w8 (get_or bytes i 0)) → All (λ byte. byte < 256) bytes
bytes_are bytes fits = All-from_get_or (λ byte. byte < 256) bytes 0 (λ i _. let fit = fits i in omega (arith, fit))

module _ (o : Observation) (grow : LiveDataGrow o) (pieces : PiecesJoin) (t : Task) where
  pub begun : (w : LiveSearch) (seen : SinkSeen) → WasFed o t [] w → Streams o t [] w seen seen
  begun w seen was = record {
    was = was;
    wrote = λ more each.
        subst (λ text. WroteAll text seen seen) (sym (grow.begins t ([] ++ more) was.task.every.some))
        (pieces.nothing seen);
  }

  module _ (bytes piece : List ℕ) (w : LiveSearch) (start old new : SinkSeen)
      (numbers : All (λ byte. byte < 256) piece) (s : Streams o t bytes w start old) where
    -- the text so far, with the bytes that come next
    so_with : (more : List ℕ) → All (λ byte. byte < 256) more →
        WroteAll (so_far o t (bytes ++ piece ++ more) bytes) start old
    so_with more each =
        subst (λ all. WroteAll (so_far o t all bytes) start old) (sym (append_assoc bytes piece more))
        (s.wrote (piece ++ more) (All-append (λ byte. byte < 256) piece more numbers each))

    pub fed : (next : LiveSearch) → (WasFed o t bytes w → WasFed o t (bytes ++ piece) next) →
        (WasFed o t bytes w → WroteOn o t bytes piece old new) →
        Streams o t (bytes ++ take (length piece) piece) next start new
    fed next feeds wrote =
        subst (λ xs. Streams o t (bytes ++ xs) next start new)
        (sym (take_all (length piece) piece (let most : length piece ≤ length piece = omega arith in most)))
        (record {
          was = feeds s.was;
          wrote = λ more each. wrote s.was more start each (so_with more each);
        })

    -- the bytes that were taken, those left of the piece, and more
    all_is : (n : ℕ) (more : List ℕ) → (bytes ++ take n piece) ++ (drop n piece ++ more) ≡ bytes ++ piece ++ more
    all_is n more =
        append_assoc bytes (take n piece) (drop n piece ++ more)
        ∙ ap (λ xs. bytes ++ xs) (sym (append_assoc (take n piece) (drop n piece) more)
        ∙ ap (λ xs. xs ++ more) (take-append-drop n piece))
        ∙ sym (append_assoc bytes piece more)

    pub broke : (WasFed o t bytes w → BrokeOff o t bytes piece old new) → (more : List ℕ) →
        All (λ byte. byte < 256) more → WroteFront (text_of o t (bytes ++ piece ++ more)) start new
    broke breaks more each =
        let off = breaks s.was more start each (so_with more each) in
        let n = off.0 in
        let taken = bytes ++ take n piece in
        let so : WroteFront (so_far o t (taken ++ (drop n piece ++ more)) taken) start new =
        subst (λ all. WroteFront (so_far o t all taken) start new) (sym (all_is n more)) off.2 in
        let front = grow.whole t taken (drop n piece ++ more) s.was.task.every.some in
        subst (λ all. WroteFront (text_of o t all) start new) (all_is n more)
        (subst (λ text. WroteFront text start new) (sym front.1)
        (pieces.breaks_off (so_far o t (taken ++ (drop n piece ++ more)) taken) front.0 start new so))

module _ (o : Observation) (t : Task) (bytes : List ℕ) (w : LiveSearch) (start now : SinkSeen)
    (s : Streams o t bytes w start now) where
  -- the text so far of the data that came
  pub so_written : WroteAll (so_far o t bytes bytes) start now
  so_written =
      subst (λ all. WroteAll (so_far o t all bytes) start now) (append-nil bytes) (s.wrote [] (All-nil (λ byte. byte < 256)))

  -- none, where they don't reach the place
  pub untouched : LiveDataGrow o → (filterbank_of o bytes).spectra < t.from.place → now ≡ start
  untouched grow few =
      took_nothing start now (subst (λ text. WroteAll text start now)
      (grow.before t bytes bytes s.was.task.every.some (omega (arith, few))) so_written)
