-- From what the objects in memory answer exactly to what their traits say.
use Rattle.std.proofs.Common.{◌≡◌, ℕ, ◌-◌, ◌≤◌, ◌<◌, List, [], ◌∷◌, ◌++◌, length, take, Option, Some, None, Result, Ok, Err, IfOk, OnOk, OnErr, IsErr, IsSome, unwrap_or, ap, sym, subst, refl, ◌∙◌, arith}
use Rattle.std.specs.Prelude.{Contains}
use Rattle.std.specs.Option.{option_map, ForSome}
use Rattle.std.specs.Io.KnownBytes.{append_known}
use Rattle.std.proofs.lemmas.List.{take_all, length-take-le}
use Rattle.psr_base.specs.Count.{CallCount, FailsNext, Rose, after_call, after_fault}
use Rattle.psr_base.specs.Told.{Told, Reading, history, opened, read_by, GivesNext}
use Rattle.psr_base.specs.Written.{SinkSeen, WroteAll, WriteFails, room_after}
use Rattle.psr_base.specs.NamedFiles.{bytes_in, reading_of}
use Rattle.psr_base.specs.InMemory.{told_where}
use Rattle.psr_base.specs.declared.held.MemFile.{MemFile}
use Rattle.psr_base.specs.declared.held.OpenFile.{OpenFile}

-- an empty list contains nothing
pub empty_contains : (n : ℕ) → Contains [] n → ⊥
empty_contains n h = let lt : h.0 < 0 = h.1 in omega arith

-- what is seen of a sink in memory that took a piece whole
pub WroteAll-whole : {E : Type 0} (r : Result ℕ E) (old new : SinkSeen) (bytes : List ℕ) →
    IfOk r (λ n. n ≡ length bytes) → IfOk r (λ n. new.written ≡ append_known old.written (take n bytes)) →
    IfOk r (λ n. new.room ≡ room_after n old.room) → OnOk r (new.faults ≡ old.faults) →
    IfOk r (λ n. WroteAll (take n bytes) old new)
WroteAll-whole (Ok n) old new bytes whole written room faults =
    record {
      written = written;
      room = room
          ∙ ap (λ (k : ℕ). room_after k old.room) (sym (length-take-le n bytes (omega (arith, whole))));
      faults = faults;
    }
WroteAll-whole (Err x) old new bytes whole written room faults = tt

-- what is seen of one where a call failed
pub WriteFails-unchanged : {T E : Type 0} (r : Result T E) (old new : SinkSeen) →
    OnErr r (new.written ≡ old.written) → OnErr r (new.room ≡ old.room) → OnErr r (Rose old.faults new.faults) →
    old.faults ≤ new.faults →
    OnErr r (WriteFails old new)
WriteFails-unchanged (Ok x) old new written room rose count = tt
WriteFails-unchanged (Err x) old new written room rose count =
    record { written = written; room = room; rose = rose; count = count }

-- what was taken whole was written
pub written_whole : {E : Type 0} (r : Result ℕ E) (old new bytes : List ℕ) → IfOk r (λ n. n ≡ length bytes) →
    OnOk r (new ≡ old ++ bytes) → IfOk r (λ n. Some new ≡ Some (old ++ take n bytes))
written_whole (Ok n) old new bytes whole e =
    ap Some (e ∙ ap (λ (t : List ℕ). old ++ t) (sym (take_all n bytes (omega (arith, whole)))))
written_whole (Err x) old new bytes whole e = tt

-- the room that is told falls by what was taken
pub told_where-taken : {E : Type 0} (r : Result ℕ E) (fail fail' : List ℕ) (room room' len : ℕ) → fail' ≡ fail →
    IfOk r (λ n. n ≡ len) → OnOk r (room' ≡ room - len) →
    IfOk r (λ n. told_where fail' room' ≡ room_after n (told_where fail room))
told_where-taken (Ok n) fail fail' room room' len same whole falls = ap (λ (f : List ℕ). told_where f room') same
    ∙ by_fail fail
  where
    by_fail : (f : List ℕ) → told_where f room' ≡ room_after n (told_where f room)
    by_fail [] = ap Some (omega (arith, whole, falls))
    by_fail (x ∷ f) = refl
told_where-taken (Err x) fail fail' room room' len same whole falls = tt

-- the room that is told stays
pub Some-stays : {T E : Type 0} (r : Result T E) (old new : List ℕ) → OnErr r (new ≡ old) →
    OnErr r (Some new ≡ Some old)
Some-stays (Ok x) old new stays = tt
Some-stays (Err x) old new stays = ap Some stays

pub told_where-stays : {E : Type 0} (r : Result ℕ E) (fail fail' : List ℕ) (room room' : ℕ) → fail' ≡ fail →
    OnErr r (room' ≡ room) → OnErr r (told_where fail' room' ≡ told_where fail room)
told_where-stays (Ok n) fail fail' room room' same stays = tt
told_where-stays (Err x) fail fail' room room' same stays = ap (λ (f : List ℕ). told_where f room') same
    ∙ ap (told_where fail) stays

-- where room is told, a piece that it holds is taken
pub told_where-serves : {A : Type 0} (fail : List ℕ) (room number len x : ℕ) →
    ((len ≤ room) × ((Contains fail number) → ⊥) → A) → told_where fail room ≡ Some x → len ≤ x → A
told_where-serves [] room number len x serves told fits = let same : room ≡ x = cc in
    serves (omega arith, empty_contains number)
told_where-serves (n ∷ fail) room number len x serves told fits = absurd cc

-- a failed call is counted
pub Rose-failed : {T E : Type 0} (r : Result T E) (old new : CallCount) → OnErr r (new ≡ after_fault old) →
    OnErr r (Rose old.faults new.faults)
Rose-failed (Ok x) old new failed = tt
Rose-failed (Err x) old new failed = omega (arith, ap (λ (c : CallCount). c.faults) failed)

-- a call that did not fail isn't
pub count-stays : {T E : Type 0} (r : Result T E) (old new : CallCount) → OnOk r (new ≡ after_call old) →
    OnOk r (new.faults ≡ old.faults)
count-stays (Ok x) old new called = ap (λ (c : CallCount). c.faults) called
count-stays (Err x) old new called = tt

-- which calls are to fail never changes
pub fail-stays : {T E : Type 0} (r : Result T E) (old new : CallCount) → OnOk r (new ≡ after_call old) →
    OnErr r (new ≡ after_fault old) → new.fail ≡ old.fail
fail-stays (Ok x) old new called failed = ap (λ (c : CallCount). c.fail) called
fail-stays (Err x) old new called failed = ap (λ (c : CallCount). c.fail) failed

-- an object that has no call to fail answers
pub calm-serves : {A : Type 0} (calls : CallCount) → (((FailsNext calls) → ⊥) → A) → calls.fail ≡ [] → A
calm-serves calls serves calm =
    serves (λ h. empty_contains calls.number (subst (λ (fail : List ℕ). Contains fail calls.number) calm h))

-- the bytes under the names stay when a name is opened
pub names-opened : {T E : Type 0} (r : Result T E) (name : List ℕ) (old new : Told) → OnOk r (new ≡ opened name old) →
    OnErr r (new ≡ old) → new.bytes_under ≡ old.bytes_under
names-opened (Ok x) name old new ok err = ap (λ (t : Told). t.bytes_under) ok
names-opened (Err x) name old new ok err = ap (λ (t : Told). t.bytes_under) err

-- where a file is told, there is one
IsSome-from_map : {A B : Type 0} (f : A → B) (o : Option A) (y : B) → option_map f o ≡ Some y → IsSome o
IsSome-from_map f None y h = absurd cc
IsSome-from_map f (Some x) y h = refl

-- what files in memory tell
abbrev told_by : List MemFile → List Reading → Option OpenFile → Told
told_by files earlier reading =
    record { bytes_under = bytes_in files; earlier = earlier; reading = reading_of files reading }

is_open-from_told : (files : List MemFile) (earlier : List Reading) (reading : Option OpenFile) (told : Told)
    (file : Reading) → told_by files earlier reading ≡ told → told.reading ≡ Some file → IsSome reading
is_open-from_told files earlier reading told file same known =
    IsSome-from_map _ reading file (ap (λ (t : Told). t.reading) same ∙ known)

-- a name that is told to be open is open
pub is_open-opened : {T E : Type 0} (r : Result T E) (files : List MemFile) (earlier : List Reading)
    (reading : Option OpenFile) (name : List ℕ) (old : Told) →
    OnOk r (told_by files earlier reading ≡ opened name old) → OnOk r (IsSome reading)
is_open-opened (Ok x) files earlier reading name old ok =
    is_open-from_told files earlier reading (opened name old) _ ok refl
is_open-opened (Err x) files earlier reading name old ok = tt

pub still_open : {T E : Type 0} (r : Result T E) (files files' : List MemFile) (earlier earlier' : List Reading)
    (reading reading' : Option OpenFile) →
    OnErr r (told_by files' earlier' reading' ≡ told_by files earlier reading) →
    OnErr r (IsSome reading → IsSome reading')
still_open (Ok x) files files' earlier earlier' reading reading' err = tt
still_open (Err x) files files' earlier earlier' None reading' err = λ some. absurd cc
still_open (Err x) files files' earlier earlier' (Some file) reading' err = λ some.
    is_open-from_told files' earlier' reading' (told_by files earlier (Some file)) _ err refl

-- and still is after a read
pub is_open-read : {E : Type 0} (r : Result ℕ E) (files files' : List MemFile) (earlier earlier' : List Reading)
    (reading reading' : Option OpenFile) →
    IfOk r (λ n. told_by files' earlier' reading' ≡ read_by n (told_by files earlier reading)) →
    OnErr r (told_by files' earlier' reading' ≡ told_by files earlier reading) → IsSome reading → IsSome reading'
is_open-read r files files' earlier earlier' None reading' ok err some = absurd cc
is_open-read (Ok n) files files' earlier earlier' (Some file) reading' ok err some =
    is_open-from_told files' earlier' reading' (read_by n (told_by files earlier (Some file))) _ ok refl
is_open-read (Err x) files files' earlier earlier' (Some file) reading' ok err some =
    is_open-from_told files' earlier' reading' (told_by files earlier (Some file)) _ err refl

-- what holds of all bytes holds where they are told
pub opened-told : {T E A : Type 0} (r : Result T E) (o : Option A) (P : Type 0) → OnOk r P → OnOk r (ForSome o (λ _. P))
opened-told (Ok x) o P p = λ y known. p
opened-told (Err x) o P p = tt

-- what was read before a file was opened is history
pub opened-earlier : {T E : Type 0} (r : Result T E) (name : List ℕ) (old new : Told) →
    OnOk r (new ≡ opened name old) → OnOk r (new.earlier ≡ history old)
opened-earlier (Ok x) name old new e = ap (λ (t : Told). t.earlier) e
opened-earlier (Err x) name old new e = tt

-- the next bytes of what is told are the next bytes
pub GivesNext-told : {E : Type 0} (r : Result ℕ E) (left : Option (List ℕ)) (buffer : List ℕ) →
    IfOk r (λ n. GivesNext (unwrap_or left []) n buffer) →
    IfOk r (λ n. ForSome left (λ bytes. GivesNext bytes n buffer))
GivesNext-told (Ok n) left buffer next =
    λ bytes known. subst (λ (o : Option (List ℕ)). GivesNext (unwrap_or o []) n buffer) known next
GivesNext-told (Err x) left buffer next = tt

-- a call that failed, and one that did not
pub at_err : {T E : Type 0} (r : Result T E) {P : Type 0} → OnErr r P → IsErr r → P
at_err (Ok x) p is = absurd cc
at_err (Err x) p is = p

pub at_ok : {T E : Type 0} (r : Result T E) {P : Type 0} → OnOk r P → ¬ IsErr r → P
at_ok (Ok x) p not = p
at_ok (Err x) p not = absurd (not refl)

-- what is told where a call failed, and how it is counted
pub of_err : {T E : Type 0} (r : Result T E) {P Q : Type 0} → (P → Q) → OnErr r P → OnErr r Q
of_err (Ok x) f p = tt
of_err (Err x) f p = f p

pub names-read : {E : Type 0} (r : Result ℕ E) (old new : Told) → IfOk r (λ n. new ≡ read_by n old) →
    OnErr r (new ≡ old) → new.bytes_under ≡ old.bytes_under
names-read (Ok n) old new ok err = ap (λ (t : Told). t.bytes_under) ok
names-read (Err x) old new ok err = ap (λ (t : Told). t.bytes_under) err
