-- Files of which only those are told that are needed.
use Rattle.std.proofs.Common.{◌≡◌, ℕ, ◌+◌, ◌<◌, ◌≤◌, Bool, true, false, List, [], Option, length, sym, ap, ◌∙◌, inl, inr, arith}
use Rattle.std.specs.Prelude.{slice_index_or, if◌then◌else◌}
use Rattle.psr_base.specs.Told.{Told}
use Rattle.disk_feeder.specs.declared.place.Place.{Place}
use Rattle.disk_feeder.specs.Plan.{Plan, AreTold, begin_at, IsAmong, AreToldAt, AreToldTo, AreToldWithFirsts, opened_at, HeadersAreTold}
use Rattle.disk_feeder.specs.Reading.{NoStopBefore}

-- where nothing under a name changed, the same files are told
pub told_before : (Needed : ℕ → Type 0) (told told' : Told) (names files : List (List ℕ)) →
    told'.bytes_under ≡ told.bytes_under → AreToldAt Needed told' names files → AreToldAt Needed told names files
told_before Needed told told' names files same are = record {
  count = are.count;
  each = λ k below needed.
      ap (λ (f : List ℕ → Option (List ℕ)). f (slice_index_or names k [])) (sym same) ∙ are.each k below needed;
}

-- all files are told
pub all_told : (Needed : ℕ → Type 0) (told : Told) (names files : List (List ℕ)) → AreTold told names files →
    AreToldAt Needed told names files
all_told Needed told names files are = record { count = are.count; each = λ k below needed. are.each k below }

-- ---- the first of them

-- where more are told, fewer are
pub told_fewer : (few many : ℕ) (told : Told) (plan : Plan) (files : List (List ℕ)) → few ≤ many →
    AreToldTo many told plan files → AreToldTo few told plan files
told_fewer few many told plan files less are = record {
  count = are.count;
  each = λ k below needed. are.each k below (omega arith);
}

-- ---- and the first file of each transfer

among_more : (few many : ℕ) (starts : List ℕ) (count k : ℕ) → few ≤ many → IsAmong few starts count k →
    IsAmong many starts count k
among_more few many starts count k less (inl below) = inl (omega arith)
among_more few many starts count k less (inr first) = inr first

pub firsts_fewer : (few many : ℕ) (told : Told) (plan : Plan) (files : List (List ℕ)) → few ≤ many →
    AreToldWithFirsts many told plan files → AreToldWithFirsts few told plan files
firsts_fewer few many told plan files less are = record {
  count = are.count;
  each = λ k below needed.
      are.each k below (among_more few many plan.starts (length plan.names) k less needed);
}

-- without those
pub firsts_aside : (opened : ℕ) (told : Told) (plan : Plan) (files : List (List ℕ)) →
    AreToldWithFirsts opened told plan files → AreToldTo opened told plan files
firsts_aside opened told plan files are = record {
  count = are.count;
  each = λ k below within. are.each k below (inl within);
}

-- ---- those that were opened at a place

opened_by : (b : Bool) (n : ℕ) → (if b then n + 1 else n) ≤ n + 1
opened_by true n = omega arith
opened_by false n = omega arith

-- no more than up to the file of the place
pub told_opened : (at : Place) (told : Told) (plan : Plan) (files : List (List ℕ)) →
    AreToldTo (at.file + 1) told plan files → AreToldTo (opened_at at) told plan files
told_opened at told plan files are =
    told_fewer (opened_at at) (at.file + 1) told plan files (opened_by at.is_open at.file) are

pub firsts_opened : (at : Place) (told : Told) (plan : Plan) (files : List (List ℕ)) →
    AreToldWithFirsts (at.file + 1) told plan files → AreToldWithFirsts (opened_at at) told plan files
firsts_opened at told plan files are =
    firsts_fewer (opened_at at) (at.file + 1) told plan files (opened_by at.is_open at.file) are

-- where that is open, it is the last of them
pub told_to_open : (at : Place) (told : Told) (plan : Plan) (files : List (List ℕ)) → at.is_open ≡ true →
    AreToldTo (opened_at at) told plan files → AreToldTo (at.file + 1) told plan files
told_to_open at told plan files open_now are =
    rw open_now at are

-- ---- those that were passed

-- where nothing under a name changed, they stop no walk still
pub passed_still : (plan : Plan) (told told' : Told) (file : ℕ) → told'.bytes_under ≡ told.bytes_under →
    NoStopBefore plan told file → NoStopBefore plan told' file
passed_still plan told told' file same passed = λ k less files are.
    passed k less files (told_before (λ j. j < k + 1) told told' plan.names files same are)

-- and the first headers are those of their files still
pub headers_still : (plan : Plan) (told told' : Told) → told'.bytes_under ≡ told.bytes_under →
    HeadersAreTold plan told → HeadersAreTold plan told'
headers_still plan told told' same headers = λ transfer header at file known.
    headers transfer header at file
    (ap (λ (f : List ℕ → Option (List ℕ)).
    f (slice_index_or plan.names (begin_at plan.starts (length plan.names) transfer) [])) (sym same) ∙ known)
