-- From what files in memory answer exactly to what their trait says.
use Rattle.std.proofs.Common.{◌≡◌, ℕ, ◌≤◌, ◌<◌, List, [], ◌∷◌, length, take, Option, Some, None, Result, Ok, Err, IfOk, OnOk, OnErr, IsOk, IsErr, IsSome, ap, sym, subst, refl, ◌∙◌, arith}
use Rattle.std.specs.Option.{option_map, ForSome}
use Rattle.std.proofs.lemmas.List.{take_all}
use Rattle.psr_base.specs.Count.{CallCount, FailsNext, Rose}
use Rattle.psr_base.specs.Made.{Made, FilesLeft, FilesSeen, HasName, Created, AppendedAll, Finished, MakingFails, CanCreate, with_new_file, longer_by, with_all_finished, less_a_file, less_bytes}
use Rattle.psr_base.specs.InMemory.{told_where}
use Rattle.psr_base.proofs.Tells.{empty_contains}

-- files in memory as they are seen
abbrev pub seen_of : Made → List ℕ → FilesLeft → ℕ → FilesSeen
seen_of made fail left faults = record { made = Some made; left = told_where fail left; faults = faults }

told_where-map : (g : FilesLeft → FilesLeft) (fail fail' : List ℕ) (left left' : FilesLeft) → fail' ≡ fail →
    left' ≡ g left → told_where fail' left' ≡ option_map g (told_where fail left)
told_where-map g fail fail' left left' same is = ap (λ (f : List ℕ). told_where f left') same ∙ by_fail fail
  where
    by_fail : (f : List ℕ) → told_where f left' ≡ option_map g (told_where f left)
    by_fail [] = ap Some is
    by_fail (x ∷ f) = refl

told_where-stays : (fail fail' : List ℕ) (left left' : FilesLeft) → fail' ≡ fail → left' ≡ left →
    told_where fail' left' ≡ told_where fail left
told_where-stays fail fail' left left' same stays = ap (λ (f : List ℕ). told_where f left') same
    ∙ ap (told_where fail) stays

-- where what is left is told, no call is to fail
told_where-known : (fail : List ℕ) (left x : FilesLeft) → told_where fail left ≡ Some x → (fail ≡ []) × (left ≡ x)
told_where-known [] left x known = (refl, cc)
told_where-known (n ∷ fail) left x known = absurd cc

free_of-known : (calls : CallCount) (left x : FilesLeft) → told_where calls.fail left ≡ Some x → FailsNext calls → ⊥
free_of-known calls left x known fails =
    let P : List ℕ → Type 0 = λ fail. FailsNext (record calls { fail = fail }) in
    empty_contains calls.number (subst P (told_where-known calls.fail left x known).0 fails)

pub Created-told : {T E : Type 0} (r : Result T E) (name : List ℕ) (old new : Made) (fail fail' : List ℕ)
    (left left' : FilesLeft) (n m : ℕ) → OnOk r (new ≡ with_new_file name old) → fail' ≡ fail →
    OnOk r (left' ≡ less_a_file left) → OnOk r (m ≡ n) →
    OnOk r (Created name (seen_of old fail left n) (seen_of new fail' left' m))
Created-told (Ok x) name old new fail fail' left left' n m made same less quiet =
    record { made = ap Some made; left = told_where-map less_a_file fail fail' left left' same less; faults = quiet }
Created-told (Err x) name old new fail fail' left left' n m made same less quiet = tt

pub AppendedAll-told : {E : Type 0} (r : Result ℕ E) (bytes : List ℕ) (old new : Made) (fail fail' : List ℕ)
    (left left' : FilesLeft) (n m : ℕ) → IfOk r (λ k. k ≡ length bytes) → OnOk r (new ≡ longer_by bytes old) →
    fail' ≡ fail →
    OnOk r (left' ≡ less_bytes (length bytes) left) → OnOk r (m ≡ n) →
    IfOk r (λ k. AppendedAll (take k bytes) (seen_of old fail left n) (seen_of new fail' left' m))
AppendedAll-told (Ok k) bytes old new fail fail' left left' n m whole made same less quiet =
    let P : List ℕ → Type 0 = λ piece. AppendedAll piece (seen_of old fail left n) (seen_of new fail' left' m) in
    let all : AppendedAll bytes (seen_of old fail left n) (seen_of new fail' left' m) =
    record {
      made = ap Some made;
      left =
          told_where-map (less_bytes (length bytes)) fail fail' left left' same less;
      faults = quiet;
    } in
    subst P (sym (take_all k bytes (omega (arith, whole)))) all
AppendedAll-told (Err x) bytes old new fail fail' left left' n m whole made same less quiet = tt

pub Finished-told : {T E : Type 0} (r : Result T E) (old new : Made) (fail fail' : List ℕ) (left left' : FilesLeft)
    (n m : ℕ) → OnOk r (new ≡ with_all_finished old) → fail' ≡ fail → left' ≡ left → OnOk r (m ≡ n) →
    OnOk r (Finished (seen_of old fail left n) (seen_of new fail' left' m))
Finished-told (Ok x) old new fail fail' left left' n m made same stays quiet =
    record { made = ap Some made; left = told_where-stays fail fail' left left' same stays; faults = quiet }
Finished-told (Err x) old new fail fail' left left' n m made same stays quiet = tt

pub MakingFails-told : {T E : Type 0} (r : Result T E) (old new : Made) (fail fail' : List ℕ) (left left' : FilesLeft)
    (n m : ℕ) → OnErr r (new ≡ old) → fail' ≡ fail → OnErr r (left' ≡ left) → OnErr r (Rose n m) → n ≤ m →
    OnErr r (MakingFails (seen_of old fail left n) (seen_of new fail' left' m))
MakingFails-told (Ok x) old new fail fail' left left' n m made same stays rose count = tt
MakingFails-told (Err x) old new fail fail' left left' n m made same stays rose count =
    record { made = ap Some made; left = told_where-stays fail fail' left left' same stays; rose = rose; count = count }

-- a name that is there is refused
pub once-told : {T E : Type 0} (r : Result T E) (made : Made) (name : List ℕ) → (IsOk r → ¬ HasName made name) →
    ForSome (Some made) (λ it. HasName it name → IsErr r)
once-told (Ok x) made name answer = λ it is has.
    let P : Made → Type 0 = λ m. HasName m name in
    absurd (answer refl (subst P (sym (the_same made it is)) has))
  where
    the_same : (a b : Made) → Some a ≡ Some b → a ≡ b
    the_same a b e = cc
once-told (Err x) made name answer = λ it is has. refl

pub serves-create : {A : Type 0} (made : Made) (calls : CallCount) (left : FilesLeft) (faults : ℕ) (name : List ℕ) →
    ((((¬ HasName made name) × (length name ≤ 64) × (0 < left.files)) × ¬ FailsNext calls) → A) →
    CanCreate name (seen_of made calls.fail left faults) → A
serves-create made calls left faults name answer can =
    let known = told_where-known calls.fail left can.left can.left_is_told in
    let file : 0 < left.files = omega (arith, ap (λ (l : FilesLeft). l.files) known.1, can.file) in
    answer ((can.is_new made refl, can.short, file), free_of-known calls left can.left can.left_is_told)

pub serves-append : {A : Type 0} (calls : CallCount) (left : FilesLeft) (len : ℕ) →
    (((len ≤ left.bytes) × ¬ FailsNext calls) → A) → ForSome (told_where calls.fail left) (λ it. len ≤ it.bytes → A)
serves-append calls left len answer = λ it is fits.
    let known = told_where-known calls.fail left it is in
    let fit : len ≤ left.bytes = omega (arith, ap (λ (l : FilesLeft). l.bytes) known.1, fits) in
    answer (fit, free_of-known calls left it is)

pub serves-finish : {A : Type 0} (calls : CallCount) (left : FilesLeft) → ((¬ FailsNext calls) → A) →
    IsSome (told_where calls.fail left) → A
serves-finish {A = A} calls left answer is = by_told (told_where calls.fail left) refl is
  where
    by_told : (o : Option FilesLeft) → told_where calls.fail left ≡ o → IsSome o → A
    by_told None e h = absurd cc
    by_told (Some x) e h = answer (free_of-known calls left x e)
