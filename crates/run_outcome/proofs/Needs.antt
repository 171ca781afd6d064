-- Files of which only some have to be told.
use Rattle.std.proofs.Common.{◌≡◌, ℕ, List, [], Some}
use Rattle.std.specs.Prelude.{slice_index_or}
use Rattle.psr_base.specs.Told.{Told, OfFile}
use Rattle.disk_feeder.specs.History.{file_name}
use Rattle.disk_feeder.specs.Plan.{AreTold, AreToldAt}

-- where all are, those are that are needed
pub told_at : {Needed : ℕ → Type 0} (told : Told) (names files : List (List ℕ)) → AreTold told names files →
    AreToldAt Needed told names files
told_at told names files are = record { count = are.count; each = λ k there needed. are.each k there }

-- and where more are
pub told_less : {More Needed : ℕ → Type 0} (told : Told) (names files : List (List ℕ)) →
    ((k : ℕ) → Needed k → More k) → AreToldAt More told names files → AreToldAt Needed told names files
told_less told names files more are = record {
  count = are.count;
  each = λ k there needed. are.each k there (more k needed);
}

-- what is said of a file that is told
pub of_file : (told : Told) (names files : List (List ℕ)) (k : ℕ) (P : List ℕ → Type 0) →
    told.bytes_under (file_name names k) ≡ Some (slice_index_or files k []) → OfFile told (file_name names k) P →
    P (slice_index_or files k [])
of_file told names files k P is says = says (slice_index_or files k []) is
