-- What was opened and read of the files, step by step.
use Rattle.std.proofs.Common.{◌≡◌, ◌≢◌, ℕ, suc, ◌+◌, ◌-◌, ◌<◌, ◌≤◌, Bool, List, [], Option, Some, Result, Ok, Err, length, drop, refl, sym, ap, ◌∙◌, arith, length-drop}
use Rattle.std.specs.Prelude.{if◌then◌else◌}
use Rattle.std.specs.Option.{option_map}
use Rattle.std.proofs.lemmas.Bool.{eq-eqb, ne_eqb}
use Rattle.std.proofs.lemmas.List.{length-append}
use Rattle.dada_model.specs.Fields.{HeaderText, HeaderRefusal, header_of}
use Rattle.psr_base.specs.Told.{Told, history, left_to_read, opened, moved_by, at_end, ReadsJoin}
use Rattle.stream_model.specs.Walk.{FileStream, file_at, begin_of, data_between, data_of, data_past}
use Rattle.stream_model.specs.WalkLaws.{DataGrow, DataNone}
use Rattle.disk_feeder.specs.Front.{front_of, front_in, BreaksAt}
use Rattle.disk_feeder.specs.History.{files_read, firsts_read, file_name, name_of_first, first_of, read_before, data_so_far, IsShut, IsReadUpTo, IsBreaking}
use Rattle.disk_feeder.proofs.Fronts.{header_within}

-- ---- a file's front and its data

-- what is read for its header lies within the file
pub front_most : (file : List ℕ) → front_of file ≤ length file
unfolding front_of
front_most file = by_header (header_of file) refl
  where
    by_header : (r : Result HeaderText HeaderRefusal) → header_of file ≡ r → front_in file r ≤ length file
    by_header (Ok h) is = header_within file h is
    by_header (Err refusal) is = omega arith

-- and where it has one the rest are the data
pub data_length : (file : List ℕ) (h : HeaderText) → header_of file ≡ Ok h →
    length (data_of file) ≡ length file - front_of file
unfolding data_of front_of
data_length file h is =
    ap (λ (r : Result HeaderText HeaderRefusal). length (data_past file r)) is
    ∙ length-drop h.size file
    ∙ ap (λ (r : Result HeaderText HeaderRefusal). length file - front_in file r) (sym is)

module _ (names : List (List ℕ)) (s : FileStream) (before told told' : Told) (transfer k count : ℕ) where
  abbrev file : List ℕ
  file = file_at s k

  abbrev name : List ℕ
  name = file_name names k

  -- ---- a file is opened

  -- its header was read
  pub opened_on : (h : HeaderText) → header_of file ≡ Ok h → IsShut names s before told transfer k count →
      told' ≡ moved_by (front_of file) (opened name told) → IsReadUpTo names s before told' transfer k count
  opened_on h has was step =
      let same = was.count_is in
      record {
        header = (h, has);
        place = front_of file;
        past = omega arith;
        within = front_most file;
        told_is = step ∙ ap (λ (t : Told). moved_by (front_of file) (opened name t)) was.told_is;
        count_is = omega arith;
      }

  -- a fault came
  pub broken_on : IsShut names s before told transfer k count → BreaksAt name file told told' →
      IsBreaking names s before told' transfer k count
  broken_on was broke =
      record { begun = was.begun; broke = rw (← was.told_is) broke; count_is = was.count_is }

  -- ---- it is read

  -- what is left of it
  pub left_is : (was : IsReadUpTo names s before told transfer k count) → told.bytes_under name ≡ Some file →
      left_to_read told ≡ Some (drop was.place file)
  left_is was known =
      let from : ℕ = 0 + was.place in
      ap left_to_read was.told_is
      ∙ ap (λ (under : List ℕ → Option (List ℕ)). option_map (drop from) (under name))
      (sym (ap (λ (t : Told). t.bytes_under) was.told_is))
      ∙ ap (option_map (drop from)) known
      ∙ ap (λ (n : ℕ). Some (drop n file)) (omega arith)

  -- n bytes more
  pub read_more : ReadsJoin → (was : IsReadUpTo names s before told transfer k count) (n : ℕ) →
      told' ≡ moved_by n told → n ≤ length (drop was.place file) →
      IsReadUpTo names s before told' transfer k (count + n)
  read_more join was n step some =
      let past = was.past in
      let within = was.within in
      let so_far = was.count_is in
      record {
        header = was.header;
        place = was.place + n;
        past = omega arith;
        within = omega (arith, length-drop was.place file);
        told_is = step ∙ ap (moved_by n) was.told_is
            ∙ join.moved was.place n (opened name (read_before names s k before));
        count_is = omega arith;
      }

  -- none are left: the next file is to be opened
  pub closed_on : ReadsJoin → DataGrow → (was : IsReadUpTo names s before told transfer k count) →
      told' ≡ at_end (moved_by 0 told) → drop was.place file ≡ [] → begin_of s transfer ≤ k → k < length s.files →
      IsShut names s before told' transfer (k + 1) count
  unfolding files_read
  closed_on join grow was step none from there =
      let within = was.within in
      let past = was.past in
      let so_far = was.count_is in
      let all : was.place + 0 ≡ length file = omega (arith, ap (length {A = ℕ}) none, length-drop was.place file) in
      let next : suc k ≡ k + 1 = omega arith in
      let X = read_before names s k before in
      record {
        begun = λ one. omega arith;
        told_is = step ∙ ap (λ (t : Told). at_end (moved_by 0 t)) was.told_is
            ∙ ap at_end (join.moved was.place 0 (opened name X))
            ∙ ap (λ (n : ℕ). at_end (moved_by n (opened name X))) all
            ∙ ap (λ (n : ℕ). read_before names s n before) next;
        count_is = omega (
          arith,
          all,
          ap (length {A = ℕ}) (grow s.files (begin_of s transfer) k from there),
          length-append (data_between s.files (begin_of s transfer) k) (data_of file),
          data_length file was.header.0 was.header.1,
        );
      }

-- what was read before the open file
pub open_first : (names : List (List ℕ)) (s : FileStream) (before told : Told) (transfer k count : ℕ) →
    IsReadUpTo names s before told transfer k count → told.earlier ≡ history (read_before names s k before)
open_first names s before told transfer k count was = ap (λ (t : Told). t.earlier) was.told_is

-- ---- a transfer ends

-- all its files were read, and the next one begins
pub next_on : DataNone → (names : List (List ℕ)) (s : FileStream) (before told : Told) (transfer k count : ℕ) →
    IsShut names s before told transfer k count → k ≡ begin_of s (transfer + 1) →
    IsShut names s before told (transfer + 1) k 0
next_on none names s before told transfer k count was over = record {
  begun = was.begun;
  told_is = was.told_is;
  count_is = sym (ap (λ (j : ℕ). length (data_between s.files (begin_of s (transfer + 1)) j)) over
      ∙ ap (length {A = ℕ}) (none s.files (begin_of s (transfer + 1))));
}

-- ---- the first headers were read

-- nothing was read of the data yet
nothing : DataNone → (s : FileStream) → begin_of s 0 ≡ 0 → 0 ≡ data_so_far s 0 0
nothing none s first =
    sym (ap (λ (j : ℕ). length (data_between s.files j 0)) first ∙ ap (length {A = ℕ}) (none s.files 0))

-- of one transfer: its file is read on
pub begun_open : (names : List (List ℕ)) (s : FileStream) (before told : Told) (h : HeaderText) →
    header_of (file_at s 0) ≡ Ok h → length s.starts ≡ 1 → begin_of s 0 ≡ 0 → DataNone →
    told ≡ firsts_read (name_of_first names s) (first_of s) (length s.starts) before →
    IsReadUpTo names s before told 0 0 0
unfolding files_read firsts_read
begun_open names s before told h has one first none read =
    let start : read_before names s 0 before ≡ before =
    ap (λ (b : Bool). if b then before else firsts_read (name_of_first names s) (first_of s) (length s.starts) before)
    (eq-eqb (length s.starts) 1 one) in
    let F : ℕ → Told → Told = λ k t. moved_by (front_of (file_at s k)) (opened (file_name names k) t) in
    record {
      header = (h, has);
      place = front_of (file_at s 0);
      past = omega arith;
      within = front_most (file_at s 0);
      told_is = read
          ∙ ap (λ (n : ℕ). firsts_read (name_of_first names s) (first_of s) n before) one
          ∙ ap (λ (k : ℕ). F k before) first
          ∙ ap (F 0) (sym start);
      count_is = omega (arith, nothing none s first);
    }

-- of more: the first file is to be opened again
pub begun_shut : (names : List (List ℕ)) (s : FileStream) (before told : Told) → length s.starts ≢ 1 →
    begin_of s 0 ≡ 0 → DataNone →
    told ≡ firsts_read (name_of_first names s) (first_of s) (length s.starts) before →
    IsShut names s before told 0 0 0
unfolding files_read
begun_shut names s before told more first none read =
    let start : read_before names s 0 before
    ≡ firsts_read (name_of_first names s) (first_of s) (length s.starts) before =
    ap (λ (b : Bool). if b then before else firsts_read (name_of_first names s) (first_of s) (length s.starts) before)
    (ne_eqb (length s.starts) 1 more) in
    record { begun = λ one. absurd (more one); told_is = read ∙ sym start; count_is = nothing none s first }
