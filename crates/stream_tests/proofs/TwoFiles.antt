-- What was read of the first files of two transfers.
use Rattle.std.proofs.Common.{◌≡◌, ℕ, zero, suc, ◌+◌, List, [], ◌∷◌, ◌++◌, length, false, Option, Some, None, Ok, refl, sym, ap, ◌∙◌, subst, arith}
use Rattle.std.specs.Prelude.{slice_get, slice_index_or, IsSome}
use Rattle.dada_model.specs.Fields.{HeaderText, header_of}
use Rattle.psr_base.specs.Told.{Told, Reading, history}
use Rattle.disk_feeder.specs.declared.feeder.Feeder.{Feeder}
use Rattle.disk_feeder.specs.Beginning.{AreFirstFiles, FirstsRead}
use Rattle.disk_feeder.specs.Feeder.{FirstHeadersRead, IsBegun, SamePlan, headers_of, names_at, plan_at}
use Rattle.disk_feeder.specs.Filling.{HoldsAll}
use Rattle.disk_feeder.specs.Front.{front_in, front_of}
use Rattle.disk_feeder.specs.History.{file_name, firsts_read}
use Rattle.disk_feeder.specs.Sources.{first_name}

-- a file was read so far, and no end was seen
abbrev pub read_to : List ℕ → ℕ → Reading
read_to name place = record { name = name; place = place; ended = false }

-- two files after nothing else
read_two : (name_of file_of : ℕ → List ℕ) (told : Told) → history told ≡ [] →
    history (firsts_read name_of file_of 2 told)
    ≡ read_to (name_of 0) (front_of (file_of 0)) ∷ read_to (name_of 1) (front_of (file_of 1)) ∷ []
unfolding firsts_read
read_two name_of file_of told unread =
    let n = front_of (file_of 0) in
    let m = front_of (file_of 1) in
    let first : 0 + n ≡ n = omega arith in
    let second : 0 + m ≡ m = omega arith in
    ap (λ (l : List Reading). (l ++ read_to (name_of 0) (0 + n) ∷ []) ++ read_to (name_of 1) (0 + m) ∷ []) unread
    ∙ ap (λ (p : ℕ). read_to (name_of 0) p ∷ read_to (name_of 1) (0 + m) ∷ []) first
    ∙ ap (λ (p : ℕ). read_to (name_of 0) n ∷ read_to (name_of 1) p ∷ []) second

-- the header of a file is what it has before its data
front_is : (file : List ℕ) (header : HeaderText) → header_of file ≡ Ok header → front_of file ≡ header.size
unfolding front_of
front_is file header is = ap (front_in file) is

-- the bytes of two files, one of which each transfer begins with
pick : List ℕ → List ℕ → ℕ → List ℕ
pick first second zero = first
pick first second (suc k) = second

-- a value that is there
held_as : (o : Option (List ℕ)) → IsSome o → (file : List ℕ) × (o ≡ Some file)
held_as (Some file) is = (file, refl)
held_as None is = absurd cc

-- each transfer begins with one of them
first_is : {I : Type 0} (f : Feeder I) (names : List (List ℕ)) → (plan_at f).starts ≡ 0 ∷ 1 ∷ [] →
    names_at f ≡ names → first_name f.stream.source 0 ≡ file_name names 0
first_is f names starts is =
    ap (λ (l : List ℕ). slice_index_or (names_at f) (slice_index_or l 0 (length f.stream.source.names.now)) []) starts
    ∙ ap (λ (l : List (List ℕ)). file_name l 0) is

second_is : {I : Type 0} (f : Feeder I) (names : List (List ℕ)) → (plan_at f).starts ≡ 0 ∷ 1 ∷ [] →
    names_at f ≡ names → first_name f.stream.source 1 ≡ file_name names 1
second_is f names starts is =
    ap (λ (l : List ℕ). slice_index_or (names_at f) (slice_index_or l 1 (length f.stream.source.names.now)) []) starts
    ∙ ap (λ (l : List (List ℕ)). file_name l 1) is

first_files : {I : Type 0} (told : Told) (f : Feeder I) (names : List (List ℕ)) (first second : List ℕ) →
    (plan_at f).starts ≡ 0 ∷ 1 ∷ [] → names_at f ≡ names → told.bytes_under (file_name names 0) ≡ Some first →
    told.bytes_under (file_name names 1) ≡ Some second → AreFirstFiles told f.stream.source 2 (pick first second)
unfolding pick
first_files told f names first second starts is at_first at_second zero lt =
    ap told.bytes_under (first_is f names starts is) ∙ at_first
first_files told f names first second starts is at_first at_second (suc zero) lt =
    ap told.bytes_under (second_is f names starts is) ∙ at_second
first_files told f names first second starts is at_first at_second (suc (suc k)) lt = absurd (omega arith)

-- Two files of a transfer each: once the first headers were read, all that was read is these.
pub two_begun : {I : Type 0} (told told' : Told) (old new : Feeder I) (names : List (List ℕ)) (h k : HeaderText)
    (n m : ℕ) → n ≡ h.size → m ≡ k.size → (plan_at old).starts ≡ 0 ∷ 1 ∷ [] → names_at old ≡ names →
    length names ≡ 2 → HoldsAll told names → history told ≡ [] → told'.bytes_under ≡ told.bytes_under →
    SamePlan old new → FirstHeadersRead told old told' → IsBegun told' new → slice_get (headers_of new) 0 ≡ Some h →
    slice_get (headers_of new) 1 ≡ Some k →
    history told' ≡ read_to (file_name names 0) n ∷ read_to (file_name names 1) m ∷ []
unfolding pick
two_begun told told' old new names h k n m n_is m_is starts is two held unread stays same read begun at_h at_k =
    let x = held_as (told.bytes_under (file_name names 0)) (held 0 (omega (arith, two))) in
    let y = held_as (told.bytes_under (file_name names 1)) (held 1 (omega (arith, two))) in
    let source = old.stream.source in
    let count : length (plan_at old).starts ≡ 2 = ap (length {A = ℕ}) starts in
    let read' = subst (λ (many : ℕ). FirstsRead told source many told') count read in
    let now : told' ≡ firsts_read (first_name source) (pick x.0 y.0) 2 told =
    read' (pick x.0 y.0) (first_files told old names x.0 y.0 starts is x.1 y.1) in
    let starts' : (plan_at new).starts ≡ 0 ∷ 1 ∷ [] = same.starts ∙ starts in
    let is' : names_at new ≡ names = same.names ∙ is in
    let count' : length (plan_at new).starts ≡ 2 = ap (length {A = ℕ}) starts' in
    let still : (name : List ℕ) → told'.bytes_under name ≡ told.bytes_under name = λ name.
    ap (λ (b : List ℕ → Option (List ℕ)). b name) stays in
    let h_is : header_of x.0 ≡ Ok h =
    begun.headers 0 (omega arith) x.0
    (ap told'.bytes_under (first_is new names starts' is') ∙ still (file_name names 0) ∙ x.1) h at_h in
    let k_is : header_of y.0 ≡ Ok k =
    begun.headers 1 (omega arith) y.0
    (ap told'.bytes_under (second_is new names starts' is') ∙ still (file_name names 1) ∙ y.1) k at_k in
    ap history now ∙ read_two (first_name source) (pick x.0 y.0) told unread
    ∙ named (first_is old names starts is) (front_is x.0 h h_is ∙ sym n_is) (second_is old names starts is)
    (front_is y.0 k k_is ∙ sym m_is)
  where
    named : {a a' b b' : List ℕ} {n n' m m' : ℕ} → a ≡ a' → n ≡ n' → b ≡ b' → m ≡ m' →
        read_to a n ∷ read_to b m ∷ [] ≡ read_to a' n' ∷ read_to b' m' ∷ []
    named e f g i = cc
