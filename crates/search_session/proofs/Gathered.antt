-- Shards leave their hands one after another.
use Rattle.std.proofs.Common.{◌≡◌, ◌≢◌, ◌⊎◌, inl, inr, ℕ, ◌+◌, ◌%◌, ◌<◌, List, [], ◌∷◌, ◌++◌, length, length-append, Option, Some, None, slice_get, slice_set, refl, sym, ap, ◌∙◌, arith}
use Rattle.std.proofs.lemmas.List.{length-set}
use Rattle.std.proofs.lemmas.Option.{slice_get_within, same_Some}
use mathlib.Core.Logic.{dite}
use native.Mathlib.Decide.{ℕ_discrete}
use Rattle.session_readers.specs.declared.shard.ShardActor.{ShardActor}
use Rattle.search_session.specs.declared.hand.Hand.{Hand}
use Rattle.session_readers.specs.Shards.{shard_number}
use Rattle.search_session.specs.Gathering.{GivesShard, recorder_in}
use Rattle.search_session.specs.Stages.{HasShard, IsInHand, LeavesHand, AreGathered}
use Rattle.search_session.proofs.Rows.{one_at, get_set_same, get_set_other, longer, at_end}

-- ---- a slot is left

slot_was : (old new : List (Option ShardActor)) (n k : ℕ) (x y : ShardActor) → GivesShard old n x new →
    slice_get new k ≡ Some (Some y) → slice_get old k ≡ Some (Some y)
slot_was old new n k x y gives at = dite (ℕ_discrete k gives.place)
    (λ same. let e = sym (rw (
      gives.slots,
      same,
      get_set_same old gives.place None
          (slice_get_within old gives.place (Some x) gives.there),
    ) at at) in absurd cc)
    (λ other. sym (get_set_other old gives.place k None other) ∙ rw gives.slots at at)

slot_stays : (old new : List (Option ShardActor)) (n k : ℕ) (x y : ShardActor) → GivesShard old n x new →
    slice_get old k ≡ Some (Some y) → shard_number y ≢ n → slice_get new k ≡ Some (Some y)
slot_stays old new n k x y gives at other =
    rw (gives.slots, get_set_other old gives.place k None (λ same. other (same_number same))) at
  where
    same_number : k ≡ gives.place → shard_number y ≡ n
    same_number same = rw (one_at old gives.place x y gives.there (rw same at at)) at gives.is

module _ {I F : Type 0} where
  -- a list of hands of which one was written: what is at a place
  set_at : (old new : List (Hand I F)) (place k : ℕ) (after h : Hand I F) → new ≡ slice_set old place after →
      place < length old → slice_get new k ≡ Some h →
      ((k ≡ place) × (h ≡ after)) ⊎ ((k ≢ place) × (slice_get old k ≡ Some h))
  set_at old new place k after h is near at = dite (ℕ_discrete k place)
      (λ same. inl (same, same_Some h after (sym at ∙ rw (is, same) (get_set_same old place after near))))
      (λ other. inr (other, sym (get_set_other old place k after other) ∙ rw is at at))

  -- what is at a place was there, or is what was written
  pub put_at : (old new : List (Hand I F)) (place k : ℕ) (after h : Hand I F) → new ≡ slice_set old place after →
      slice_get old k ≡ Some h → k ≢ place → slice_get new k ≡ Some h
  put_at old new place k after h is at other =
      rw (is, get_set_other old place k after other) at

  pub put_here : (old new : List (Hand I F)) (place k : ℕ) (after : Hand I F) → new ≡ slice_set old place after →
      place < length old → k ≡ place → slice_get new k ≡ Some after
  put_here old new place k after is near same = rw (is, same) (get_set_same old place after near)

  pub count_same : (old new : List (Hand I F)) (place : ℕ) (after : Hand I F) → new ≡ slice_set old place after →
      length new ≡ length old
  count_same old new place after is = rw (is, length-set old place after) refl

  -- ---- one hand changes

  module _ (old new : List (Hand I F)) (place : ℕ) (before after : Hand I F) (there : slice_get old place ≡ Some before)
      (hands : new ≡ slice_set old place after) where
    near_place : place < length old
    near_place = slice_get_within old place before there

    -- the hand at a place, which may be the one that changed
    pub at_place : (P : Hand I F → Type 0) → (P before → P after) → (k : ℕ) (h : Hand I F) →
        slice_get old k ≡ Some h → P h → (g : Hand I F) × (slice_get new k ≡ Some g) × P g
    at_place P keep k h at holds = dite (ℕ_discrete k place)
        (λ same.
        let this : h ≡ before = same_Some h before (sym at ∙ rw same there) in
        (after, put_here old new place k after hands near_place same, keep (rw this at holds)))
        (λ other. (h, put_at old new place k after h hands at other, holds))

    -- a shard that its hand keeps still works
    pub shard_works : (s : ℕ) (has : HasShard old s) → (slice_get before.shards.items has.place
        ≡ Some (Some has.shard) → slice_get after.shards.items has.place ≡ Some (Some has.shard)) → HasShard new s
    shard_works s has keep =
        let works = λ (h : Hand I F). slice_get h.shards.items has.place ≡ Some (Some has.shard) in
        let g = at_place works keep ((s + 1) % length old) has.hand has.there has.works in
        record {
          hand = g.0;
          there = rw (count_same old new place after hands) g.1;
          shard = has.shard;
          place = has.place;
          works = g.2;
          number = has.number;
        }

    -- and one that works was there, where the hand had it
    pub was_in : (y : ShardActor) → ((k : ℕ) → slice_get after.shards.items k ≡ Some (Some y) →
        slice_get before.shards.items k ≡ Some (Some y)) → IsInHand new y → IsInHand old y
    was_in y had is = elim (set_at old new place is.hand_place after is.hand hands near_place is.there) [
      | inl h ↦ record {
        hand_place = place;
        hand = before;
        there = there;
        place = is.place;
        works = had is.place (rw h.1 at is.works);
      }
      | inr h ↦ record {
        hand_place = is.hand_place;
        hand = is.hand;
        there = h.1;
        place = is.place;
        works = is.works;
      }
    ]

    module _ (shards : after.shards ≡ before.shards) where
      pub still_in : (y : ShardActor) → IsInHand new y → IsInHand old y
      still_in y is = was_in y (λ k works. rw shards at works) is

      pub still_work : (s : ℕ) → HasShard old s → HasShard new s
      still_work s has = shard_works s has (λ works. rw shards works)

    -- the recorder works on, where that hand's recorder stays
    pub still_recorder : after.recorder ≡ before.recorder → recorder_in new ≡ recorder_in old
    still_recorder same = rw (count_same old new place after hands) (dite (ℕ_discrete (8 % length old) place)
        (λ at. rw (put_here old new place (8 % length old) after hands near_place at, at, there) same)
        (λ apart. rw (hands, get_set_other old place (8 % length old) after apart) refl))

  -- ---- a shard leaves its hand

  module _ (old new : List (Hand I F)) (place number : ℕ) (x : ShardActor) (leaves : LeavesHand old place number x new)
    where
      pub left_in : IsInHand old x
      left_in = record {
        hand_place = place;
        hand = leaves.before;
        there = leaves.there;
        place = leaves.gives.place;
        works = leaves.gives.there;
      }

      pub others_in : (y : ShardActor) → IsInHand new y → IsInHand old y
      others_in y is = was_in old new place leaves.before leaves.after leaves.there leaves.hands y
          (λ k works. slot_was leaves.before.shards.items leaves.after.shards.items number k x y leaves.gives works) is

      pub others_work : (s : ℕ) → s ≢ number → HasShard old s → HasShard new s
      others_work s other has = shard_works old new place leaves.before leaves.after leaves.there leaves.hands s has
          (λ works. slot_stays leaves.before.shards.items leaves.after.shards.items number has.place x has.shard
          leaves.gives works (λ same. other (sym has.number ∙ same)))

  -- ---- one more is gathered

  pub gathered_more : (hands : List (Hand I F)) (n : ℕ) (shards : List (Option ShardActor)) (x : ShardActor) →
      AreGathered hands n shards → shard_number x ≡ n → IsInHand hands x →
      AreGathered hands (n + 1) (shards ++ Some x ∷ [])
  gathered_more hands n shards x so_far number is = record {
    count = length-append shards (Some x ∷ []) ∙ ap (λ (k : ℕ). k + 1) so_far.count;
    each = λ s near'. dite (ℕ_discrete s n)
        (λ same. (x, at_end shards (Some x) s (so_far.count ∙ sym same), number ∙ sym same, is))
        (λ other. let h = so_far.each s (omega arith) in
        (h.0, longer shards (Some x ∷ []) s (Some h.0) h.1, h.2, h.3));
  }
