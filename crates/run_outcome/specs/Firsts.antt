-- The first files of transfers, and the first header of them that is refused: the texts are judged in order, and then
-- what they say.
-- Source: PSRDADA manual (a transfer is what one header describes); what is refused is this project's choice.
use Rattle.std.specs.Prelude.{◌≡◌, ◌+◌, ◌<◌, ◌≤◌, ℕ, List, [], length, slice_index_or, IsSome, Ok}
use mathlib.Core.List.{IsPrefix}
use Rattle.psr_base.specs.Told.{Told, OfFile, history}
use Rattle.dada_model.specs.Fields.{HeaderText, fields_of, header_of}
use Rattle.dada_header.specs.declared.faults.HeaderFault.{HeaderFault}
use Rattle.dada_header.specs.Faults.{IsHeaderRefusal}
use Rattle.disk_feeder.specs.Front.{BreaksAt}
use Rattle.disk_feeder.specs.History.{firsts_read, name_of_first, file_name}
use Rattle.disk_feeder.specs.Plan.{begin_at, IsFirstBefore, AreToldAt}
use Rattle.obs_plan.specs.declared.fault.ObsFault.{ObsFault}
use Rattle.obs_plan.specs.Faults.{IsRefusedFirst}
use Rattle.stream_model.specs.Walk.{FileStream, file_at, begin_of}
use Rattle.stream_model.specs.WalkLaws.{IsAccepted}

-- the first file of a transfer
abbrev pub first_file : FileStream → ℕ → List ℕ
first_file w transfer = file_at w (begin_of w transfer)

-- the file has a header
abbrev pub HasHeader : List ℕ → Type 0
HasHeader file = (header : HeaderText) × (header_of file ≡ Ok header)

-- the first header of each transfer was read, in order, and nothing else was
abbrev pub ReadsFirsts : List (List ℕ) → FileStream → Told → Told → Type 0
ReadsFirsts names w before after =
    after ≡ firsts_read (name_of_first names w) (first_file w) (length w.starts) before

-- ---- each file by itself

-- the number of a transfer's first file, and its name, of files with these names
abbrev pub first_at : List (List ℕ) → List ℕ → ℕ → ℕ
first_at names starts transfer = begin_at starts (length names) transfer

abbrev pub first_name : List (List ℕ) → List ℕ → ℕ → List ℕ
first_name names starts transfer = file_name names (first_at names starts transfer)

-- P holds of the first files of so many transfers, each of them that is told
abbrev pub EachFirst : Told → List (List ℕ) → List ℕ → ℕ → (List ℕ → Type 0) → Type 0
EachFirst told names starts count P = (k : ℕ) → k < count →
    OfFile told (first_name names starts k) P

-- they have headers
abbrev pub HaveHeaders : Told → List (List ℕ) → List ℕ → ℕ → Type 0
HaveHeaders told names starts count = EachFirst told names starts count HasHeader

-- this file is the first one of some transfer and has no header, and those of the transfers before it have
pub record RefusesTextAt (told : Told) (names : List (List ℕ)) (starts : List ℕ) (file : ℕ)
    (fault : HeaderFault) : Type 0 where
  pub transfer : ℕ
  pub there : transfer < length starts
  pub is : file ≡ first_at names starts transfer
  pub refused : OfFile told (file_name names file) (λ bytes. IsHeaderRefusal bytes fault)
  pub earlier : HaveHeaders told names starts transfer

-- the file has a header, and what that says is refused so
pub record RefusesFields (file : List ℕ) (fault : ObsFault) : Type 0 where
  pub header : HeaderText
  pub has : header_of file ≡ Ok header
  pub cause : IsRefusedFirst (fields_of header.text) fault

-- All first files have headers. This file is the first one of some transfer and says no observation, and those of the
-- transfers before it do. Each is said where the file is told.
pub record RefusesFieldsAt (told : Told) (names : List (List ℕ)) (starts : List ℕ) (file : ℕ)
    (fault : ObsFault) : Type 0 where
  pub texts : HaveHeaders told names starts (length starts)
  pub transfer : ℕ
  pub there : transfer < length starts
  pub is : file ≡ first_at names starts transfer
  pub refused : OfFile told (file_name names file) (λ bytes. RefusesFields bytes fault)
  pub earlier : EachFirst told names starts transfer IsAccepted

-- A fault came before the header of some transfer's first file was judged. Those of the transfers before it have
-- headers; where they and the file are told, they were read, and of it not enough to judge its header. Whether or not
-- the file is told, those before it were read in order before anything else, as far as they are told. Calm inputs fail
-- only where it isn't told; where those before it are, they were read, and nothing else was.
pub record BreaksFirstAt (names : List (List ℕ)) (starts : List ℕ) (is_calm : Type 0)
    (before after : Told) : Type 0 where
  pub transfer : ℕ
  pub there : transfer < length starts
  pub earlier : HaveHeaders before names starts transfer
  pub broke : (files : List (List ℕ)) →
      AreToldAt (IsFirstBefore (first_at names starts transfer + 1) starts (length names)) before
      names files →
      let first_of : ℕ → List ℕ = λ k. slice_index_or files (first_at names starts k) [] in
      BreaksAt (first_name names starts transfer) (first_of transfer)
      (firsts_read (first_name names starts) first_of transfer before) after
  pub through : (k : ℕ) → k ≤ transfer → (files : List (List ℕ)) →
      AreToldAt (IsFirstBefore (first_at names starts k) starts (length names)) before names files →
      let first_of : ℕ → List ℕ = λ j. slice_index_or files (first_at names starts j) [] in
      IsPrefix (history (firsts_read (first_name names starts) first_of k before)) (history after)
  pub missing : is_calm → ¬ IsSome (before.bytes_under (first_name names starts transfer))
  pub unopened : is_calm → (files : List (List ℕ)) →
      AreToldAt (IsFirstBefore (first_at names starts transfer) starts (length names)) before
      names files →
      let first_of : ℕ → List ℕ = λ k. slice_index_or files (first_at names starts k) [] in
      after ≡ firsts_read (first_name names starts) first_of transfer before

-- ---- over the files as a walk sees them

-- the first file of some transfer has no header, and those of the transfers before it have
pub record RefusesFirstText (w : FileStream) (file : ℕ) (fault : HeaderFault) : Type 0 where
  pub transfer : ℕ
  pub there : transfer < length w.starts
  pub is : file ≡ begin_of w transfer
  pub cause : IsHeaderRefusal (first_file w transfer) fault
  pub earlier : (k : ℕ) → k < transfer → HasHeader (first_file w k)

-- all first files have headers; that of some transfer says no observation, and those of the transfers before it do
pub record RefusesFirstFields (w : FileStream) (file : ℕ) (fault : ObsFault) : Type 0 where
  pub texts : (k : ℕ) → k < length w.starts → HasHeader (first_file w k)
  pub transfer : ℕ
  pub there : transfer < length w.starts
  pub is : file ≡ begin_of w transfer
  pub header : HeaderText
  pub has : header_of (first_file w transfer) ≡ Ok header
  pub cause : IsRefusedFirst (fields_of header.text) fault
  pub earlier : (k : ℕ) → k < transfer → IsAccepted (first_file w k)
