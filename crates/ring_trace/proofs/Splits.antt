-- Texts that are parted at a byte.
use Rattle.std.specs.Prelude.{◌≡◌, ◌≢◌, ℕ, suc, ◌<◌, ◌==◌, Bool, true, false, List, [], ◌∷◌, ◌++◌, length, if◌then◌else◌, Option, Some, None, SomeIff, IfSome, IfNone, codes}
use Rattle.std.proofs.Common.{arith, refl, sym, ap, subst, ◌∙◌, drop, ne_eqb}
use Rattle.std.proofs.Math.Seq.{drop-append_seam}
use Rattle.std.specs.Str.Parse.{digits_value}
use Rattle.ring_core.specs.Machine.{Event}
use Rattle.ring_trace.specs.Text.{Lacks, IsNumber, trace_lines, with_byte}
use Rattle.ring_trace.specs.Events.{IsNumbered, AsksFor, ring_text}
use Rattle.std.proofs.lemmas.Str.Parse.{digit_at}

pub lacks_rest : (s b : ℕ) (bytes : List ℕ) → Lacks s (b ∷ bytes) → Lacks s bytes
lacks_rest s b bytes lacks k h = lacks (suc k) (omega arith)

-- what follows the same front is the same
pub same_rest : (front xs ys : List ℕ) → front ++ xs ≡ front ++ ys → xs ≡ ys
same_rest front xs ys e = sym (drop-append_seam front xs) ∙ (ap (drop (length front)) e ∙ drop-append_seam front ys)

-- a text is parted at the first of a byte in one way
pub one_split : (s : ℕ) (a a' b b' : List ℕ) → Lacks s a → Lacks s a' → a ++ s ∷ b ≡ a' ++ s ∷ b' → (a ≡ a') × (b ≡ b')
one_split s [] [] b b' lacks lacks' e = (refl, cc)
one_split s [] (x ∷ a') b b' lacks lacks' e = let h : x ≡ s = cc in absurd (lacks' 0 (omega arith) h)
one_split s (x ∷ a) [] b b' lacks lacks' e = let h : x ≡ s = cc in absurd (lacks 0 (omega arith) h)
one_split s (x ∷ a) (y ∷ a') b b' lacks lacks' e =
    let rest = one_split s a a' b b' (lacks_rest s x a lacks) (lacks_rest s y a' lacks') cc in let h : x ≡ y = cc in
    let t = rest.0 in (cc, rest.1)

if_false : (b : Bool) (xs ys : List (List ℕ)) → b ≡ false → (if b then xs else ys) ≡ ys
if_false true xs ys e = cc
if_false false xs ys e = refl

-- a line up to its line feed, and the lines after it
pub lines_split : (line text : List ℕ) → Lacks 10 line → trace_lines (line ++ 10 ∷ text) ≡ line ∷ trace_lines text
lines_split [] text lacks = refl
lines_split (b ∷ line) text lacks =
    if_false (b == 10) _ _ (ne_eqb b 10 (lacks 0 (omega arith)))
    ∙ ap (with_byte b) (lines_split line text (lacks_rest 10 b line lacks))

-- a last line that lacks its line feed
pub lines_last : (line : List ℕ) → 0 < length line → Lacks 10 line → trace_lines line ≡ line ∷ []
lines_last [] some lacks = absurd (omega arith)
lines_last (b ∷ []) some lacks = if_false (b == 10) _ _ (ne_eqb b 10 (lacks 0 (omega arith)))
lines_last (b ∷ c ∷ line) some lacks =
    if_false (b == 10) _ _ (ne_eqb b 10 (lacks 0 (omega arith)))
    ∙ ap (with_byte b) (lines_last (c ∷ line) (omega arith) (lacks_rest 10 b (c ∷ line) lacks))

-- there is no space in a number
pub lacks_space : (text : List ℕ) → IsNumber text → Lacks 32 text
lacks_space text n k h e = let d = digit_at text k n.digits.1 h in omega arith

-- what stands after a word is one number
pub one_number : (word line : List ℕ) (n m : ℕ) → IsNumbered word line n → IsNumbered word line m → n ≡ m
one_number word line n m (x, is, number, value) (y, is', number', value') =
    let same : 32 ∷ x ≡ 32 ∷ y = same_rest word (32 ∷ x) (32 ∷ y) (sym is ∙ is') in
    let e : x ≡ y = cc in value ∙ (ap (digits_value 10) e ∙ sym value')

-- a text with the byte between two parts does not lack it
pub has_byte : (s : ℕ) (a b : List ℕ) → ¬ Lacks s (a ++ s ∷ b)
has_byte s [] b lacks = lacks 0 (omega arith) refl
has_byte s (x ∷ a) b lacks = has_byte s a b (lacks_rest s x (a ++ s ∷ b) lacks)

-- the three words of a ring's line are one choice
pub one_ring : (b r n b' r' n' : List ℕ) → Lacks 32 b → Lacks 32 r → Lacks 32 b' → Lacks 32 r' →
    ring_text b r n ≡ ring_text b' r' n' → (b ≡ b') × (r ≡ r') × (n ≡ n')
one_ring b r n b' r' n' lb lr lb' lr' e =
    let first = one_split 32 b b' (r ++ 32 ∷ n) (r' ++ 32 ∷ n') lb lb' (same_rest (codes "ring ") _ _ e) in
    let second = one_split 32 r r' n n' lr lr' first.1 in
    (first.0, second.0, second.1)

pub some_by : {A : Type 0} (r : Option A) (P Q : A → Type 0) → ((x : A) → P x → Q x) → IfSome r P → IfSome r Q
some_by (Some x) P Q f h = f x h
some_by None P Q f h = tt

pub none_by : {A : Type 0} (r : Option A) (P Q : Type 0) → (P → Q) → IfNone r P → IfNone r Q
none_by (Some x) P Q f h = tt
none_by None P Q f h = f h

-- where the digits are no number, no number stands there
pub no_number : (r : Option ℕ) (word line digits : List ℕ) → SomeIff r (IsNumber digits) (digits_value 10 digits) →
    line ≡ word ++ 32 ∷ digits → IfNone r ((n : ℕ) → ¬ IsNumbered word line n)
no_number (Some x) word line digits h e = tt
no_number None word line digits h e = λ n (x, is, number, value).
    let same : 32 ∷ x ≡ 32 ∷ digits = same_rest word (32 ∷ x) (32 ∷ digits) (sym is ∙ e) in
    let same' : x ≡ digits = cc in let P : List ℕ → Type 0 = λ t. IsNumber t in h (subst P same' number)

-- no reader's number stands after the word
abbrev pub NoReader : ℕ → List ℕ → List ℕ → Type 0
NoReader readers word line = (i : ℕ) → IsNumbered word line i → ¬ (i < readers)

-- a line that is none of the forms asks for no event
pub no_event : (readers : ℕ) (line : List ℕ) → line ≢ codes "take" → ((n : ℕ) → ¬ IsNumbered (codes "seal") line n) →
    NoReader readers (codes "look") line → NoReader readers (codes "read") line →
    NoReader readers (codes "give") line → NoReader readers (codes "clear") line →
    NoReader readers (codes "retire") line → NoReader readers (codes "detach") line →
    NoReader readers (codes "attach") line →
    (event : Event ℕ) → ¬ AsksFor readers line event
no_event readers line take seal look read give clear retire detach attach (Event.Look i) h = look i h.0 h.1
no_event readers line take seal look read give clear retire detach attach Event.WriterTake h = take h
no_event readers line take seal look read give clear retire detach attach (Event.Seal label) h = seal label h
no_event readers line take seal look read give clear retire detach attach (Event.ReaderTake i) h = read i h.0 h.1
no_event readers line take seal look read give clear retire detach attach (Event.Give i) h = give i h.0 h.1
no_event readers line take seal look read give clear retire detach attach (Event.Clear i) h = clear i h.0 h.1
no_event readers line take seal look read give clear retire detach attach (Event.Retire i) h = retire i h.0 h.1
no_event readers line take seal look read give clear retire detach attach (Event.Detach i) h = detach i h.0 h.1
no_event readers line take seal look read give clear retire detach attach (Event.Attach i) h = attach i h.0 h.1
