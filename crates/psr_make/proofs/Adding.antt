-- What pulses add to cells, in parts that follow one another.
use Rattle.std.proofs.Common.{◌≡◌, ℕ, suc, zero, ◌+◌, ◌*◌, ◌/◌, ◌%◌, ◌<◌, ◌≤◌, ◌≢◌, inl, inr, Bool, true, false, cond, ◌&&◌, List, length, slice_index, take, drop, ◌∙◌, sym, ap, ap₂, refl, subst, arith, eqb, ltb, leb}
use Rattle.std.proofs.lemmas.Bool.{cases_lt, cases_eq}
use Rattle.std.proofs.lemmas.Bool.Decides.{nat_tests}
use Rattle.std.proofs.Math.Nat.{mul-le-mul_right}
use Rattle.std.proofs.lemmas.Nat.{div-add-mod', mod-mul-add, div-mul-add}
use borrow.Rule.Slice.PartMut.{put_mid}
use Rattle.psr_make.specs.Pulses.{is_passed}
use Rattle.std.specs.Prelude.{All}
use Rattle.psr_make.specs.Made.{made_path, value_bytes, cell_bytes, spectrum_bytes, is_on_train}
use Rattle.psr_make.specs.Raised.{AreRaised, Raises, AreLow, most_low, by_cell, by_run, by_channel, by_train}
use Rattle.dada_model.specs.Bounds.{most_delay}
use Rattle.band_paths.specs.Edges.{AreDelays}
use Rattle.psr_make.specs.declared.spec.MakeSpec.{MakeSpec}
use Rattle.psr_make.proofs.Bytes.{put_before, put_within, put_after, part_at, part_length}

-- ---- places of cells

-- cell t * n + c is that of channel c at spectrum t
pub channel_at : (t n c : ℕ) → c < n → (t * n + c) % n ≡ c
channel_at t n c lt = mod-mul-add t n c lt

pub spectrum_at : (t n c : ℕ) → c < n → (t * n + c) / n ≡ t
spectrum_at t n c lt = div-mul-add t n c lt

-- and it is the only one
pub cell_is : (i t n c : ℕ) → i / n ≡ t → i % n ≡ c → i ≡ t * n + c
cell_is i t n c q r = sym (div-add-mod' i n) ∙ ap₂ (λ x y. x * n + y) q r

-- cells lie apart
apart : (i j g x : ℕ) → i < j → x < g → i * g + x < j * g
apart i j g x lt within =
    let more : (i + 1) * g ≤ j * g = mul-le-mul_right g (let up : i + 1 ≤ j = omega arith in up) in
    omega arith

-- a cell of an earlier spectrum lies within the bytes of the spectra
pub cell_within : (t end n c g x len : ℕ) → t < end → c < n → x < g → end * (n * g) ≤ len → (t * n + c) * g + x < len
cell_within t end n c g x len lt below within fits =
    let next_spectrum : t + 1 ≤ end = omega arith in
    let upto : (t + 1) * (n * g) ≤ end * (n * g) = mul-le-mul_right (n * g) next_spectrum in
    let next_cell : t * n + c + 1 ≤ t * n + n = omega arith in
    let next : (t * n + c + 1) * g ≤ (t * n + n) * g = mul-le-mul_right g next_cell in
    let same : (t * n + n) * g ≡ (t + 1) * (n * g) = omega arith in
    omega arith

-- ---- one cell

no_more : (b : Bool) (n m : ℕ) → n ≡ 0 → m ≡ m + cond b n 0
no_more true n m e = omega arith
no_more false n m e = omega arith

by_cell_here : (s : MakeSpec) (cell i : ℕ) → i ≡ cell → by_cell s cell i ≡ s.height
by_cell_here s cell i e = grind (arith, nat_tests)

by_cell_elsewhere : (s : MakeSpec) (cell i : ℕ) → i ≢ cell → by_cell s cell i ≡ 0
by_cell_elsewhere s cell i ne = grind (arith, nat_tests)

pub cell_raised : (s : MakeSpec) (xs ys : List ℕ) (cell g n : ℕ) → g ≡ cell_bytes s → n ≡ g
    → (cell + 1) * g ≤ length xs → length ys ≡ length (take n (drop (cell * g) xs))
    → AreRaised (value_bytes s) s.height (take n (drop (cell * g) xs)) ys
    → Raises s xs (put_mid (cell * g) n xs ys) (by_cell s cell)
cell_raised s xs ys cell g n g_is n_is fits long raised = record {
  byte = subst (λ (h : ℕ). (i x : ℕ) → x < h → i * h + x < length xs
      → slice_index (put_mid (cell * g) n xs ys) (i * h + x)
      ≡ slice_index xs (i * h + x) + cond (eqb (x % value_bytes s) 0) (by_cell s cell i) 0) g_is at;
}
  where
    lies : cell * g ≤ length xs
    lies = omega arith

    part_long : length (take n (drop (cell * g) xs)) ≡ n
    part_long = part_length (cell * g) n xs (omega arith)

    ys_long : length ys ≡ n
    ys_long = long ∙ part_long

    at : (i x : ℕ) → x < g → i * g + x < length xs → slice_index (put_mid (cell * g) n xs ys) (i * g + x)
        ≡ slice_index xs (i * g + x) + cond (eqb (x % value_bytes s) 0) (by_cell s cell i) 0
    at i x within inside = elim (cases_lt i cell) [
      | inl before ↦
          let apart_by = apart i cell g x before within in
          put_before (cell * g) n xs ys (i * g + x) apart_by lies
          ∙ no_more (eqb (x % value_bytes s) 0) (by_cell s cell i) (slice_index xs (i * g + x))
          (by_cell_elsewhere s cell i (omega arith))
      | inr above ↦ elim (cases_lt cell i) [
        | inl after ↦
            let next : (cell + 1) * g ≤ i * g = mul-le-mul_right g (let up : cell + 1 ≤ i = omega arith in up) in
            put_after (cell * g) n xs ys (i * g + x) (omega arith) lies ys_long
            ∙ no_more (eqb (x % value_bytes s) 0) (by_cell s cell i) (slice_index xs (i * g + x))
            (by_cell_elsewhere s cell i (omega arith))
        | inr below ↦
            let e : i ≡ cell = omega arith in
            let place : cell * g + x ≡ i * g + x = ap (λ j. j * g + x) (sym e) in
            put_within (cell * g) n xs ys (i * g + x) x (omega arith) place lies ys_long
            ∙ raised x (omega (arith, part_long))
            ∙ ap₂ (λ m h. m + cond (eqb (x % value_bytes s) 0) h 0)
            (part_at (cell * g) n xs x (omega arith) ∙ ap (slice_index xs) place) (sym (by_cell_here s cell i e))
      ]
    ]

-- ---- parts that follow one another

pub joined : (s : MakeSpec) (old mid new : List ℕ) (a b d : ℕ → ℕ) → length mid ≡ length old → Raises s old mid a
    → Raises s mid new b → ((i : ℕ) → i * cell_bytes s < length old → d i ≡ a i + b i) → Raises s old new d
joined s old mid new a b d long first second sums = record {
  byte = λ i x within inside.
      second.byte i x within (omega arith)
      ∙ ap (λ m. m + cond (eqb (x % value_bytes s) 0) (b i) 0) (first.byte i x within inside)
      ∙ sum_of (eqb (x % value_bytes s) 0) (slice_index old (i * cell_bytes s + x)) (a i) (b i) (d i)
      (sums i (omega arith));
}
  where
    sum_of : (q : Bool) (m x y z : ℕ) → z ≡ x + y → m + cond q x 0 + cond q y 0 ≡ m + cond q z 0
    sum_of true m x y z e = omega arith
    sum_of false m x y z e = omega arith

-- what is raised by nothing stays
pub stays : (s : MakeSpec) (old new : List ℕ) (a : ℕ → ℕ) (i x : ℕ) → Raises s old new a → x < cell_bytes s
    → i * cell_bytes s + x < length old → a i ≡ 0
    → slice_index new (i * cell_bytes s + x) ≡ slice_index old (i * cell_bytes s + x)
stays s old new a i x raised within inside none =
    raised.byte i x within inside
    ∙ sym (no_more (eqb (x % value_bytes s) 0) (a i) (slice_index old (i * cell_bytes s + x)) none)

-- ---- a run

-- a number's tests of another spectrum
run_sum : (h r c q start t i cell : ℕ) → start ≤ t → (i ≡ cell → (r ≡ c) × (q ≡ t)) → (r ≡ c → q ≡ t → i ≡ cell)
    → cond (eqb r c && (leb start q && ltb q (t + 1))) h 0
    ≡ cond (eqb r c && (leb start q && ltb q t)) h 0 + cond (eqb i cell) h 0
run_sum h r c q start t i cell order there only = elim (cases_eq i cell) [
  | inl e ↦ let at = there e in grind (arith, nat_tests, at.0, at.1)
  | inr ne ↦ elim (cases_eq r c) [
    | inl same ↦
        let other : q ≢ t = λ e. ne (only same e) in
        grind (arith, nat_tests, other)
    | inr differ ↦ grind (arith, nat_tests)
  ]
]

-- one spectrum more
run_step : (s : MakeSpec) (c start t i : ℕ) → start ≤ t → c < s.channels
    → by_run s c start (t + 1) i ≡ by_run s c start t i + by_cell s (t * s.channels + c) i
run_step s c start t i order lt =
    run_sum s.height (i % s.channels) c (i / s.channels) start t i (t * s.channels + c) order
    (λ e. (
      ap (λ j. j % s.channels) e ∙ channel_at t s.channels c lt,
      ap (λ j. j / s.channels) e
          ∙ spectrum_at t s.channels c lt,
    ))
    (λ r q. cell_is i t s.channels c q r)

pub run_more : (s : MakeSpec) (old mid new : List ℕ) (c start t : ℕ) → length mid ≡ length old → start ≤ t
    → c < s.channels → Raises s old mid (by_run s c start t) → Raises s mid new (by_cell s (t * s.channels + c))
    → Raises s old new (by_run s c start (t + 1))
run_more s old mid new c start t long order lt so_far cell =
    joined s old mid new (by_run s c start t) (by_cell s (t * s.channels + c)) (by_run s c start (t + 1)) long so_far
    cell (λ i inside. run_step s c start t i order lt)

-- the next cell of a run is as it was
run_waits : (s : MakeSpec) (c start t i : ℕ) → t ≤ i / s.channels → by_run s c start t i ≡ 0
run_waits s c start t i above = grind (arith, nat_tests)

pub run_low : (s : MakeSpec) (old mid : List ℕ) (c start end t : ℕ) → length mid ≡ length old → c < s.channels
    → start ≤ t → t < end → end * spectrum_bytes s ≤ length old → AreLow s old c start end
    → Raises s old mid (by_run s c start t)
    → (x : ℕ) → x < cell_bytes s → slice_index mid ((t * s.channels + c) * cell_bytes s + x) ≤ most_low
run_low s old mid c start end t long lt order before fits low raised x within =
    let i : ℕ = t * s.channels + c in
    let q : i / s.channels ≡ t = spectrum_at t s.channels c lt in
    let r : i % s.channels ≡ c = channel_at t s.channels c lt in
    let inside : i * cell_bytes s + x < length old =
    cell_within t end s.channels c (cell_bytes s) x (length old) before lt within fits in
    let same = stays s old mid (by_run s c start t) i x raised within inside (run_waits s c start t i (omega arith)) in
    let bound = low i x within inside r (omega arith) (omega arith) in
    subst (λ (y : ℕ). y ≤ most_low) (sym same) bound

-- ---- all channels

-- the channel itself: what it grows by is what the next one's count has more
train_sum : (h r c : ℕ) (on : Bool)
    → cond (ltb r (c + 1) && on) h 0 ≡ cond (ltb r c && on) h 0 + cond (eqb r c && on) h 0
train_sum h r c true = grind (arith, nat_tests)
train_sum h r c false = grind (arith, nat_tests)

-- the spectra of the bytes are all before their count
all_before : (s : MakeSpec) (c enters leaves first count i : ℕ) → i / s.channels < count
    → by_channel s c enters leaves first count i
    ≡ cond (eqb (i % s.channels) c && is_passed s enters leaves (first + i / s.channels)) s.height 0
all_before s c enters leaves first count i lt =
    let e : ltb (i / s.channels) count ≡ true = grind (arith, nat_tests) in
    ap (λ b. cond (eqb (i % s.channels) c && (b && is_passed s enters leaves (first + i / s.channels))) s.height 0) e

-- where it is the channel's, the delays are those of its path
same_channel : (s : MakeSpec) (path : List ℕ) (c r t : ℕ) → path ≡ made_path s
    → cond (eqb r c && is_on_train s r t) s.height 0
    ≡ cond (eqb r c && is_passed s (slice_index path c) (slice_index path (c + 1)) t) s.height 0
same_channel s path c r t e = elim (cases_eq r c) [
  | inl same ↦ rw (same, e) refl
  | inr differ ↦
      let no : eqb r c ≡ false = grind (arith, nat_tests) in
      rw no refl
]

-- a cell within the bytes is of one of their spectra
spectrum_within : (i n g count len : ℕ) → 0 < n → count * (n * g) ≡ len → i * g < len → i / n < count
spectrum_within i n g count len some whole inside = elim (cases_lt (i / n) count) [
  | inl lt ↦ lt
  | inr past ↦
      let more : count * n ≤ i / n * n = mul-le-mul_right n past in
      let at : i / n * n + i % n ≡ i = div-add-mod' i n in
      let bytes : count * n * g ≤ i * g = mul-le-mul_right g (let le : count * n ≤ i = omega arith in le) in
      let same : count * n * g ≡ count * (n * g) = omega arith in
      absurd (omega arith)
]

pub train_more : (s : MakeSpec) (old mid new path : List ℕ) (c first count : ℕ) → length mid ≡ length old
    → path ≡ made_path s → count * spectrum_bytes s ≡ length old → 0 < s.channels
    → Raises s old mid (by_train s c first)
    → Raises s mid new (by_channel s c (slice_index path c) (slice_index path (c + 1)) first count)
    → Raises s old new (by_train s (c + 1) first)
train_more s old mid new path c first count long path_is whole some so_far part =
    joined s old mid new (by_train s c first)
    (by_channel s c (slice_index path c) (slice_index path (c + 1)) first count) (by_train s (c + 1) first) long so_far
    part (λ i inside.
    let lt = spectrum_within i s.channels (cell_bytes s) count (length old) some whole inside in
    train_sum s.height (i % s.channels) c (is_on_train s (i % s.channels) (first + i / s.channels))
    ∙ ap (λ m. by_train s c first i + m) (same_channel s path c (i % s.channels) (first + i / s.channels) path_is
    ∙ sym (all_before s c (slice_index path c) (slice_index path (c + 1)) first count i lt)))

train_waits : (s : MakeSpec) (c first i : ℕ) → i % s.channels ≡ c → by_train s c first i ≡ 0
train_waits s c first i e = grind (arith, nat_tests)

pub train_low : (s : MakeSpec) (old mid : List ℕ) (c first count : ℕ) → length mid ≡ length old
    → All (λ x. x ≤ most_low) old → Raises s old mid (by_train s c first) → AreLow s mid c 0 count
train_low s old mid c first count long low raised = λ i x within inside r from to.
    let inside_old : i * cell_bytes s + x < length old = omega arith in
    let same = stays s old mid (by_train s c first) i x raised within inside_old (train_waits s c first i r) in
    let bound = low (i * cell_bytes s + x) 0 inside_old in
    subst (λ (y : ℕ). y ≤ most_low) (sym same) bound

-- no delay of a path is longer than the longest
pub short_delays : (n : ℕ) (delays : List ℕ) → AreDelays n delays → (d k : ℕ) → k + d ≡ n
    → slice_index delays k ≤ most_delay
short_delays n delays are zero k e =
    let same : k ≡ n = omega arith in
    subst (λ (j : ℕ). slice_index delays j ≤ most_delay) (sym same) are.last
short_delays n delays are (suc d) k e =
    let next = short_delays n delays are d (k + 1) (omega arith) in
    let rise = are.rise k (omega arith) in
    omega arith
