-- What the sealed lists are that a feeder stands for.
use Rattle.std.proofs.Common.{◌≡◌, ℕ, zero, suc, ◌+◌, ◌-◌, ◌*◌, ◌<◌, ◌≤◌, Bool, true, false, List, [], ◌∷◌, ◌++◌, Option, Some, None, length, take, drop, refl, sym, ap, ◌∙◌, append_assoc, arith}
use Rattle.std.specs.Prelude.{◌||◌}
use mathlib.Core.List.{IsPrefix}
use Rattle.std.proofs.lemmas.List.{take_all}
use Rattle.psr_base.specs.Told.{Told}
use Rattle.dada_model.specs.Fields.{HeaderText}
use Rattle.ring_blocks.specs.declared.Entry.{Entry}
use Rattle.stream_model.specs.Blocks.{full_entry, cut_entry, full_entries, whole_stream, joined_data, abandoned_stream, ended_transfers, has_cut}
use Rattle.stream_model.specs.BlockLaws.{EndsAreCounted}
use Rattle.stream_model.specs.Walk.{FileStream, walk_stream}
use Rattle.disk_feeder.specs.declared.answers.FeedEnd.{FeedEnd}
use Rattle.disk_feeder.specs.declared.answers.FeedEnd.TheVariants.{Whole, ReadFault}
use Rattle.disk_feeder.specs.declared.due.Due.{Due}
use Rattle.disk_feeder.specs.declared.due.Due.TheVariants.{Stopped}
use Rattle.disk_feeder.specs.declared.place.Place.{Place}
use Rattle.disk_feeder.specs.declared.stream.Stream.{Stream}
use Rattle.disk_feeder.specs.Plan.{Plan, stream_of, AreTold, opened_at}
use Rattle.disk_feeder.specs.Reached.{WalkGoesOn}
use Rattle.disk_feeder.specs.Reading.{EndsReading, judged_at}
use Rattle.disk_feeder.specs.Sources.{plan_of}
use Rattle.disk_feeder.specs.Filling.{DueIs}
use Rattle.disk_feeder.specs.Feeding.{header_entries, headers_sealed, IsRunning, IsBeginning, HeadersKeepUp, SealedAs, FeedsTo, IsFeeding}
use Rattle.disk_feeder.proofs.Fulls.{within_is}
use Rattle.disk_feeder.proofs.Needed.{all_told}
use Rattle.disk_feeder.proofs.OfSource.{is_within}
use Rattle.disk_feeder.proofs.Reaching.{IsWithin, came_to}
use Rattle.disk_feeder.proofs.Turning.{counts}

-- ---- full blocks end nothing

fulls_end : EndsAreCounted → (size : ℕ) (bytes : List ℕ) (n : ℕ) → ended_transfers (full_entries size bytes n) ≡ 0
unfolding full_entries ended_transfers
fulls_end ends size bytes zero = refl
fulls_end ends size bytes (suc n) =
    ends.append (full_entries size bytes n) (full_entry (take size (drop (n * size) bytes)) ∷ [])
    ∙ ap (λ (k : ℕ). k + 0) (fulls_end ends size bytes n)

fulls_cut : EndsAreCounted → (size : ℕ) (bytes : List ℕ) (n : ℕ) → has_cut (full_entries size bytes n) ≡ false
unfolding full_entries has_cut
fulls_cut ends size bytes zero = refl
fulls_cut ends size bytes (suc n) =
    ends.cut_append (full_entries size bytes n) (full_entry (take size (drop (n * size) bytes)) ∷ [])
    ∙ ap (λ (b : Bool). b || false) (fulls_cut ends size bytes n)

module _ (ends : EndsAreCounted) (size : ℕ) (before : List (List ℕ)) (current : List ℕ) (n : ℕ) where
  so_far_ended : ended_transfers (whole_stream size before ++ full_entries size current n) ≡ length before
  so_far_ended =
      let sum = ends.append (whole_stream size before) (full_entries size current n) in
      let whole = ends.whole size before in
      let none = fulls_end ends size current n in
      omega arith

  so_far_uncut : has_cut (whole_stream size before ++ full_entries size current n) ≡ false
  so_far_uncut =
      ends.cut_append (whole_stream size before) (full_entries size current n)
      ∙ ap (λ (b : Bool). b || has_cut (full_entries size current n)) (ends.whole_uncut size before)
      ∙ fulls_cut ends size current n

-- ---- a beginning

-- the blocks before a Cut begin an abandoned stream
before_cut : (size max_bytes : ℕ) (before : List (List ℕ)) (current : List ℕ) (fulls held : ℕ) →
    fulls * size + held ≡ length current → held < size → length (joined_data before) + length current ≤ max_bytes →
    IsPrefix (whole_stream size before ++ full_entries size current fulls)
    (abandoned_stream size max_bytes before current)
unfolding abandoned_stream
before_cut size max_bytes before current fulls held count less few = (
  cut_entry ∷ [],
  append_assoc (whole_stream size before) (full_entries size current fulls) (cut_entry ∷ [])
      ∙ ap (λ (k : ℕ). whole_stream size before ++ (full_entries size current k ++ cut_entry ∷ []))
      (sym (within_is size max_bytes fulls held before current count less few)),
)

by_end : (s : FileStream) (at : Place) (before : List (List ℕ)) (current : List ℕ) (size fulls held : ℕ)
    (end : FeedEnd) → EndsReading s at before current (size - held) end → fulls * size + held ≡ length current →
    held < size → length (joined_data before) + length current ≤ s.max_bytes →
    IsPrefix (whole_stream size before ++ full_entries size current fulls) (walk_stream size s)
by_end s at before current size fulls held (Whole bytes) ends count less few = absurd ends
by_end s at before current size fulls held ReadFault ends count less few =
    ends.begins size fulls (omega arith) (omega arith)
by_end s at before current size fulls held end ends count less few =
    let p = before_cut size s.max_bytes before current fulls held count less few in
    (p.0, p.1 ∙ sym (ends.blocks size fulls held count (omega arith) (omega arith)))

by_due : WalkGoesOn → (plan : Plan) (told : Told) (at : Place) (before : List (List ℕ)) (current : List ℕ)
    (size fulls held : ℕ) (due : Option Due) → IsWithin plan at → DueIs plan told at before current size held due →
    fulls * size + held ≡ length current → 0 < size → (files : List (List ℕ)) → AreTold told plan.names files →
    IsPrefix (whole_stream size before ++ full_entries size current fulls) (walk_stream size (stream_of plan files))
by_due goes plan told at before current size fulls held (Some (Stopped end)) w d count some files are =
    let total = d.0.total in
    let within = w.within in
    by_end (stream_of plan files) at before current size fulls held end
    (d.2.ends files (all_told (λ k. k < judged_at end at) told plan.names files are)) count d.1
    (omega arith)
by_due goes plan told at before current size fulls held due w d count some files are =
    goes (stream_of plan files) at.transfer at.file before current
    (came_to plan told at before current w d.0 files (all_told (λ k. k < opened_at at) told plan.names files are)) size
    fulls some (omega arith)

pub begins : EndsAreCounted → WalkGoesOn → (s : Stream) (told : Told) (headers blocks : List Entry) →
    IsRunning s told headers blocks → IsBeginning (plan_of s.source) told (length s.block.items) blocks
begins ends goes s told headers blocks was =
    let plan = plan_of s.source in
    let at = s.source.place in
    let size = length s.block.items in
    let f = was.stream in
    let there = was.there in
    let numbers = counts plan told at f.before f.current size s.held s.due f.next in
    let transfers = numbers.transfers in
    let ended : ended_transfers blocks ≡ length f.before =
    ap ended_transfers f.sealed ∙ so_far_ended ends size f.before f.current f.fulls in
    record {
      open_still = omega arith;
      uncut = ap has_cut f.sealed ∙ so_far_uncut ends size f.before f.current f.fulls;
      begins = λ files are.
          let p = by_due goes plan told at f.before f.current size f.fulls s.held s.due (is_within s.source there)
          f.next f.count s.some files are in
          (p.0, ap (λ (es : List Entry). es ++ p.0) f.sealed ∙ p.1);
    }

-- ---- headers

-- as many headers as transfers ended, or one more
keep_up : (headers : List HeaderText) (sealed blocks : List Entry) (count ended : ℕ) → count ≤ length headers →
    sealed ≡ header_entries (take count headers) → ended_transfers blocks ≡ ended → ended ≤ count → count ≤ ended + 1 →
    HeadersKeepUp headers sealed blocks
keep_up headers sealed blocks count ended there are is from upto =
    record { count = count; there = there; are = are; ended = omega arith; next = omega arith }

of_running : EndsAreCounted → (s : Stream) (told : Told) (headers blocks : List Entry) →
    IsRunning s told headers blocks → HeadersKeepUp (plan_of s.source).headers headers blocks
of_running ends s told headers blocks was = by_mark s.header_due was.sealed
  where
    at : Place
    at = s.source.place

    size : ℕ
    size = length s.block.items

    ended : ended_transfers blocks ≡ at.transfer
    ended =
        let f = was.stream in
        let numbers = counts (plan_of s.source) told at f.before f.current size s.held s.due f.next in
        ap ended_transfers f.sealed ∙ so_far_ended ends size f.before f.current f.fulls ∙ numbers.transfers

    by_mark : (b : Bool) → headers ≡ header_entries (take (headers_sealed b at.transfer) (plan_of s.source).headers) →
        HeadersKeepUp (plan_of s.source).headers headers blocks
    by_mark true sealed =
        let there = was.there in
        let headed = s.source.headed in
        keep_up (plan_of s.source).headers headers blocks at.transfer at.transfer
        (omega arith) sealed ended (omega arith) (omega arith)
    by_mark false sealed =
        let there = was.there in
        let headed = s.source.headed in
        keep_up (plan_of s.source).headers headers blocks (at.transfer + 1) at.transfer (omega arith) sealed ended
        (omega arith) (omega arith)

of_end : EndsAreCounted → (plan : Plan) (size : ℕ) (before : List (List ℕ)) (current : List ℕ)
    (headers blocks : List Entry) (end : FeedEnd) → length plan.headers ≡ length plan.starts →
    SealedAs plan size before current headers blocks end → HeadersKeepUp plan.headers headers blocks
of_end ends plan size before current headers blocks (Whole bytes) headed s =
    let all = s.1 in
    keep_up plan.headers headers blocks (length plan.headers) (length before) (omega arith)
    (s.2 ∙ ap header_entries (sym (take_all (length plan.headers) plan.headers (omega arith))))
    (ap ended_transfers s.0 ∙ ends.whole size before) (omega arith) (omega arith)
of_end ends plan size before current headers blocks end headed s =
    keep_up plan.headers headers blocks (length before + 1) (length before) (omega arith) s.2
    (ap ended_transfers s.0 ∙ ends.abandoned size plan.max_bytes before current) (omega arith) (omega arith)

pub headers_are : EndsAreCounted → (s : Stream) (told : Told) (headers blocks : List Entry) →
    IsFeeding s told headers blocks → HeadersKeepUp (plan_of s.source).headers headers blocks
headers_are ends s told headers blocks was = by_state s.end was
  where
    by_state : (end : Option FeedEnd) → FeedsTo s told headers blocks end →
        HeadersKeepUp (plan_of s.source).headers headers blocks
    by_state None r = of_running ends s told headers blocks r
    by_state (Some end) e =
        let was = e.ended in
        of_end ends (plan_of s.source) (length s.block.items) was.before was.current headers blocks end s.source.headed
        was.sealed
