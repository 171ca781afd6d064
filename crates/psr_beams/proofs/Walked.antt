-- The one file of a beam once its header was accepted, and the ends of all beams.
use Rattle.std.proofs.Common.{◌≡◌, ◌⊎◌, ℕ, zero, suc, ◌<◌, ◌≤◌, Bool, true, false, List, [], ◌∷◌, length, get_or, refl, ap, ◌∙◌, inl, inr, Option, Some, None, arith}
use Rattle.std.specs.Prelude.{nat_lt, if◌then◌else◌}
use Rattle.std.specs.List.{cons_option}
use Rattle.psr_base.specs.Told.{Told}
use Rattle.dada_model.specs.Observation.{Observation}
use Rattle.search_words.specs.Settings.{SettingsSeen}
use Rattle.stream_model.specs.Walk as walk
use Rattle.stream_model.specs.Walk.{WalkStop, file_at, begin_of, header_stop, length_stop, stop_at, walk_stop, first_of_two, first_or_whole, data_between}
use Rattle.stream_model.specs.WalkLaws.{IsAccepted, AreStarts, AreWalked, FirstFilesContinue}
use Rattle.disk_feeder.specs.declared.answers.FeedEnd.{FeedEnd}
use Rattle.disk_feeder.specs.declared.answers.FeedEnd.TheVariants as feed
use Rattle.disk_feeder.specs.Ends.{end_of}
use Rattle.beam_set.specs.declared.ended.BeamEnd.{BeamEnd}
use Rattle.beam_set.specs.Laws.{HoldsData, BeamsHoldData}
use Rattle.run_outcome.specs.declared.stop.Stop.TheVariants.{ReadFault, TooLong}
use Rattle.psr_beams.specs.Files.{beam_name, stream_of_one}
use Rattle.psr_beams.specs.Driven.{HasSlotCome, HaveCome}
use Rattle.psr_beams.specs.Ends.{stop_at_data, stop_at_header, slot_stop, NoneStops}
use Rattle.psr_beams.proofs.Counting.{element}

-- ---- the walk of one file that is accepted

one_start : AreStarts (0 ∷ []) 1
one_start = record {
  some = omega arith;
  first = refl;
  rise = λ i below. absurd (omega (arith, below));
  within = within;
}
  where
    within : (i : ℕ) → i < 1 → get_or (0 ∷ []) i 1 < 1
    within zero below = omega arith
    within (suc i) below = absurd (omega (arith, below))

is_walked : (s : SettingsSeen) (file : List ℕ) → IsAccepted file → AreWalked (stream_of_one s file)
is_walked s file a = record { starts = one_start; accepted = accepted }
  where
    accepted : (transfer : ℕ) → transfer < 1 →
        IsAccepted (file_at (stream_of_one s file) (begin_of (stream_of_one s file) transfer))
    accepted zero below = a
    accepted (suc k) below = absurd (omega (arith, below))

stop_kind : (h : Option WalkStop) (b : Bool) → h ≡ None →
    let at = first_or_whole (cons_option (first_of_two h (if b then Some (walk.TooLong 0) else None)) []) in
    (at ≡ walk.Whole) ⊎ (at ≡ walk.TooLong 0)
stop_kind h true none = inr (ap (λ x. first_or_whole (cons_option (first_of_two x (Some (walk.TooLong 0))) [])) none)
stop_kind h false none = inl (ap (λ x. first_or_whole (cons_option (first_of_two x None) [])) none)

-- it is whole, or there are too many data
pub walk_kind : FirstFilesContinue → (s : SettingsSeen) (file : List ℕ) → IsAccepted file →
    (walk_stop (stream_of_one s file) ≡ walk.Whole) ⊎ (walk_stop (stream_of_one s file) ≡ walk.TooLong 0)
unfolding walk_stop stop_at length_stop
walk_kind law s file a =
    let w = stream_of_one s file in
    stop_kind (header_stop w 0) (nat_lt w.max_bytes (length (data_between w.files 0 1)))
    (law w 0 (is_walked s file a) (omega arith))

-- and so is the end of its feeder
abbrev pub EndKind : SettingsSeen → List ℕ → FeedEnd → Type 0
EndKind s file end = (((n : ℕ) × (end ≡ feed.Whole n)) × (walk_stop (stream_of_one s file) ≡ walk.Whole))
    ⊎ ((end ≡ feed.TooLong s.max_bytes) × (walk_stop (stream_of_one s file) ≡ walk.TooLong 0))

pub end_kind : (s : SettingsSeen) (file : List ℕ) (end : FeedEnd) (bytes : ℕ) →
    (walk_stop (stream_of_one s file) ≡ walk.Whole) ⊎ (walk_stop (stream_of_one s file) ≡ walk.TooLong 0) →
    end ≡ end_of bytes s.max_bytes (walk_stop (stream_of_one s file)) → EndKind s file end
end_kind s file end bytes (inl whole) is = inl ((bytes, is ∙ ap (end_of bytes s.max_bytes) whole), whole)
end_kind s file end bytes (inr long) is = inr (is ∙ ap (end_of bytes s.max_bytes) long, long)

-- the inputs of the beam of a slot failed
abbrev pub slot_failed : Option BeamEnd → Type 0
slot_failed None = ⊥
slot_failed (Some end) = end.feed ≡ feed.ReadFault

pub fails_stop : (k : ℕ) (slot : Option BeamEnd) → slot_failed slot → slot_stop stop_at_data k slot ≡ None → ⊥
fails_stop k None failed none = failed
fails_stop k (Some end) failed none =
    let some : stop_at_data k end.feed ≡ Some ReadFault = ap (stop_at_data k) failed in cc

-- where a beam stops at its data, its inputs failed, or there are too many data
pub stopped_failing : (k : ℕ) (e : FeedEnd) → stop_at_data k e ≡ Some ReadFault → e ≡ feed.ReadFault
stopped_failing k feed.ReadFault is = refl
stopped_failing k e is = absurd cc

pub slot_failing : (k : ℕ) (slot : Option BeamEnd) → slot_stop stop_at_data k slot ≡ Some ReadFault → slot_failed slot
slot_failing k None is = absurd cc
slot_failing k (Some end) is = stopped_failing k end.feed is

pub stopped_long : (k limit : ℕ) (e : FeedEnd) → stop_at_data k e ≡ Some (TooLong limit) → e ≡ feed.TooLong limit
stopped_long k limit (feed.TooLong other) is =
    let same : other ≡ limit = cc in ap (λ n. feed.TooLong n) same
stopped_long k limit e is = absurd cc

-- ---- the list of all data

pub data_list : (o : Observation) (s : _) (ends : List (Option BeamEnd)) →
    ((k : ℕ) → k < length ends → (bytes : List ℕ) × HoldsData o s bytes (get_or ends k None)) →
    (data_of_beams : List (List ℕ)) × BeamsHoldData o s data_of_beams ends
data_list o s [] held = ([], record { count = refl; each = λ k below. absurd (omega (arith, below)) })
data_list o s (end ∷ ends) held =
    let first = held 0 (omega arith) in
    let rest = data_list o s ends (λ k below. held (suc k) (omega (arith, below))) in
    let more = rest.1 in (
      first.0 ∷ rest.0,
      record {
        count = let count = more.count in omega (arith, count);
        each = each first.0 first.1 rest.0 more;
      },
    )
  where
    each : (bytes : List ℕ) → HoldsData o s bytes end → (list : List (List ℕ)) → BeamsHoldData o s list ends → (k : ℕ) →
        k < length (bytes ∷ list) → HoldsData o s (get_or (bytes ∷ list) k []) (get_or (end ∷ ends) k None)
    each bytes holds list more zero below = holds
    each bytes holds list more (suc k) below = more.each k (omega (arith, below))

module _ {I : Type 0} (told : I → Told) (is_calm : I → Type 0) (faults : I → ℕ) (s : SettingsSeen) (o : Observation)
    (count : ℕ) (mid after : List I) (ends : List (Option BeamEnd))
    (come : HaveCome told is_calm faults s o count mid after ends) (enough : count ≤ length mid) where
  slot_data : (name : List ℕ) (x y : I) (k : ℕ) (slot : Option BeamEnd) →
      HasSlotCome told is_calm faults s o name x y slot → slot_stop stop_at_data k slot ≡ None →
      slot_stop stop_at_header k slot ≡ None → (bytes : List ℕ) × HoldsData o s.search bytes slot
  slot_data name x y k None is none head = absurd is
  slot_data name x y k (Some end) is none head =
      let all = whole end.feed none head in
      (is.bytes, is.held all.0 all.1)
    where
      whole : (e : FeedEnd) → stop_at_data k e ≡ None → stop_at_header k e ≡ None → (n : ℕ) × (e ≡ feed.Whole n)
      whole (feed.Whole n) e h = (n, refl)
      whole end e h = absurd cc

  -- where no beam stopped, there are data that all ends hold
  pub all_data : NoneStops ends → (data_of_beams : List (List ℕ)) × BeamsHoldData o s.search data_of_beams ends
  all_data none = data_list o s.search ends (λ k below.
      let many = come.many in
      let within : k < count = omega (arith, below, many) in
      let x = element mid k (omega (arith, within, enough)) in
      slot_data (beam_name s k) (get_or mid k x) (get_or after k x) k (get_or ends k None) (come.each k x within)
      (none.0 k below) (none.1 k below))
