-- The one file of a beam.
use Rattle.std.proofs.Common.{◌≡◌, ℕ, zero, suc, ◌+◌, ◌-◌, ◌<◌, ◌≤◌, List, [], ◌∷◌, append-nil, length, map, take, drop, get_or, slice_get, Option, Some, None, Bool, true, false, refl, sym, ap, subst, ◌∙◌, arith}
use Rattle.std.specs.Prelude.{IsSome}
use Rattle.std.proofs.lemmas.List.{drop_more, get_or-map}
use Rattle.search_words.specs.Transfers.{AreTransferStarts}
use Rattle.psr_base.specs.Told.{Told}
use Rattle.search_words.specs.Settings.{SettingsSeen}
use Rattle.stream_model.specs.Walk.{data_of, data_between, transfer_data}
use Rattle.stream_model.specs.WalkLaws.{IsIn}
use Rattle.disk_feeder.specs.Feeding.{BreaksReading, IsCutAt}
use Rattle.disk_feeder.specs.Filling.{HoldsAll}
use Rattle.disk_feeder.specs.Front.{front_of}
use Rattle.disk_feeder.specs.History.{files_read, data_so_far, IsReadUpTo, BreaksIf}
use Rattle.disk_feeder.specs.Plan.{Plan, stream_of, begin_at, AreTold, AreToldAt}
use Rattle.disk_feeder.specs.Sources.{plan_of, first_name}
use Rattle.disk_feeder.specs.declared.place.Place.{Place}
use Rattle.disk_feeder.specs.declared.source.Source.{Source}
use Rattle.psr_beams.specs.Files.{stream_of_one, IsReadOn}
use Rattle.psr_beams.proofs.Counting.{element}

one_name : (name : List ℕ) (file : List ℕ) (told : Told) → told.bytes_under name ≡ Some file → (k : ℕ) → k < 1 →
    told.bytes_under (get_or (name ∷ []) k []) ≡ Some (get_or (file ∷ []) k [])
one_name name file told is zero below = is
one_name name file told is (suc k) below = absurd (omega (arith, below))

pub one_told : (name : List ℕ) (file : List ℕ) (told : Told) → told.bytes_under name ≡ Some file →
    AreTold told (name ∷ []) (file ∷ [])
one_told name file told is = record { count = refl; each = one_name name file told is }

-- it is told wherever it is needed
pub one_needed : {Needed : ℕ → Type 0} (names : List (List ℕ)) (name file : List ℕ) (told : Told) → names ≡ name ∷ [] →
    told.bytes_under name ≡ Some file → AreToldAt Needed told names (file ∷ [])
one_needed {Needed} names name file told same is =
    rw same (record { count = refl; each = λ k below needed. one_name name file told is k below })

-- a source of one file has its name for that of the one transfer's first file
pub first_name_is : (source : Source) (name : List ℕ) → source.starts.now ≡ 0 ∷ [] →
    (plan_of source).names ≡ name ∷ [] → first_name source 0 ≡ name
first_name_is source name starts names =
    ap (λ st. get_or (plan_of source).names (begin_at st (length source.names.now) 0) []) starts
    ∙ ap (λ ns. get_or ns 0 []) names

pub holds_one : (name : List ℕ) (told : Told) → IsSome (told.bytes_under name) → HoldsAll told (name ∷ [])
holds_one name told is zero below = is
holds_one name told is (suc k) below = absurd (omega (arith, below))

-- the stream of a plan of one file
pub stream_is : (plan : Plan) (s : SettingsSeen) (file : List ℕ) → plan.starts ≡ 0 ∷ [] → plan.max_bytes ≡ s.max_bytes →
    stream_of plan (file ∷ []) ≡ stream_of_one s file
stream_is plan s file starts limit =
    ap (λ (x : List ℕ). record { files = file ∷ []; starts = x; max_bytes = plan.max_bytes }) starts
    ∙ ap (λ (n : ℕ). record { files = file ∷ []; starts = 0 ∷ []; max_bytes = n }) limit

pub one_data : (s : SettingsSeen) (file : List ℕ) → transfer_data (stream_of_one s file) 0 ≡ data_of file
unfolding data_between
one_data s file = append-nil (data_of file)

pub some_of : {X : Type 0} (o : Option X) → IsSome o → (x : X) × (o ≡ Some x)
some_of None some = absurd cc
some_of (Some x) some = (x, refl)

pub one_there : {X : Type 0} (xs : List X) → length xs ≡ 1 → IsSome (slice_get xs 0)
one_there [] one = absurd (omega (arith, one))
one_there (x ∷ more) one = refl

-- the one file is the first
zeroth_file : (s : SettingsSeen) (file : List ℕ) (transfer k : ℕ) → IsIn (stream_of_one s file) transfer k → k ≡ 0
zeroth_file s file zero k inside = let below : k < 1 = inside.before in omega (arith, below)
zeroth_file s file (suc t) k inside = let there : suc t < 1 = inside.there in absurd (omega (arith, there))

read_first : (s : SettingsSeen) (name file : List ℕ) (before after : Told) (transfer count : ℕ) →
    count ≤ s.max_bytes → IsReadUpTo (name ∷ []) (stream_of_one s file) before after transfer 0 count →
    IsReadOn s.max_bytes name file before after
unfolding files_read
read_first s name file before after transfer count least r =
    let read : count ≡ data_so_far (stream_of_one s file) transfer 0 + (r.place - front_of file) = r.count_is in
    record {
      place = r.place;
      past = r.past;
      within = r.within;
      few = omega (arith, read, least);
      is = r.told_is;
    }

-- what a fault of the inputs leaves, once the header of the one file was read
one_left : (s : SettingsSeen) (name file : List ℕ) (before after : Told) (at : Place) (size : ℕ) (blocks : _) →
    IsCutAt (stream_of_one s file) at size blocks → (is_open : Bool) →
    BreaksIf is_open (name ∷ []) (stream_of_one s file) before after at → IsReadOn s.max_bytes name file before after
one_left s name file before after at size blocks cut false broke =
    let first = zeroth_file s file at.transfer at.file cut.inside in
    let later = broke.begun refl in
    absurd (omega (arith, first, later))
one_left s name file before after at size blocks cut true reading =
    let first = zeroth_file s file at.transfer at.file cut.inside in
    let P : ℕ → Type 0 = λ k. IsReadUpTo (name ∷ []) (stream_of_one s file) before after at.transfer k at.since in
    let few = cut.few in
    read_first s name file before after at.transfer at.since (omega (arith, few)) (subst P first reading)

pub one_broken : (plan : Plan) (s : SettingsSeen) (name file : List ℕ) → plan.names ≡ name ∷ [] →
    plan.starts ≡ 0 ∷ [] → plan.max_bytes ≡ s.max_bytes → (before after : Told) → after.bytes_under name ≡ Some file →
    (is_calm : Type 0) (at : Place) (size : ℕ) (blocks : _) → BreaksReading plan before is_calm after at size blocks →
    IsReadOn s.max_bytes name file before after
one_broken plan s name file names starts limit before after is is_calm at size blocks b =
    let same = stream_is plan s file starts limit in
    one_left s name file before after at size blocks
    (rw same at (b.cut (file ∷ []) (one_needed plan.names name file after names is))) at.is_open
    (rw (names, same) at (b.stood (file ∷ []) (one_needed plan.names name file after names is)))

-- the one start of a transfer
pub only_start : (starts : List ℕ) (count : ℕ) → AreTransferStarts starts count → length starts ≡ 1 → starts ≡ 0 ∷ []
only_start [] count are one = absurd (omega (arith, one))
only_start (x ∷ []) count are one = ap (λ n. n ∷ []) are.first
only_start (x ∷ y ∷ more) count are one = absurd (omega (arith, one))

-- one element of a list, seen by f
pub one_slice : {X : Type 0} (f : X → List ℕ) (xs all : List X) (k : ℕ) → xs ≡ all → k < length all →
    map f (take (k + 1 - k) (drop k xs)) ≡ get_or (map f all) k [] ∷ []
one_slice f xs all k same within =
    let x = element all k within in
    ap (λ ys. map f (take (k + 1 - k) (drop k ys))) same
    ∙ ap (λ n. map f (take n (drop k all))) (one_more k)
    ∙ ap (λ ys. map f (take 1 ys)) (drop_more all k x within)
    ∙ ap (λ y. y ∷ []) (sym (get_or-map f all k x [] within))
  where
    one_more : (n : ℕ) → n + 1 - n ≡ 1
    one_more n = omega arith
