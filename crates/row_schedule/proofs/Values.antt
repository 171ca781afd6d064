-- The law of the values of rows.
use Rattle.std.proofs.Common.{◌≡◌, ℕ, ◌+◌, ◌-◌, ◌%◌, ◌^◌, ◌≤◌, ◌<◌, true, false, Bool, List, Some, slice_get, slice_index, refl, arith, sym, ap, ◌∙◌}
use Rattle.std.proofs.Math.Nat.{mod-add-mod, add-mod-mod, mod-eq_of_lt}
use Rattle.row_model.specs.declared.Merge.{Merge}
use Rattle.row_model.specs.declared.Rows.{Rows}
use Rattle.row_model.specs.declared.Source.TheVariants.{Channel, Sum}
use Rattle.row_model.specs.Sums.{Sums, AddUp, Fit, is_narrow, value_of}
use Rattle.row_schedule.specs.Layout.{tail_of}
use Rattle.row_schedule.specs.Making.{in_bits}

-- what n spectra later are the first values are now those from n on
pub value_later : (y : Sums) (tails : List ℕ) (u n r i : ℕ) →
    value_of y tails (u + n) r i ≡ value_of y tails u r (n + i)
unfolding value_of
value_later y tails u n r i =
    ap (λ v. y r v (slice_index tails r) % 2 ^ 32) (let e : u + n + i ≡ u + (n + i) = omega arith in e)

-- a value by how much earlier it ends
pub value_at : (rows : Rows) (x : ℕ → ℕ → ℕ) (y : Sums) (u r i k late : ℕ) → AddUp rows.sources.items x y →
    k + late ≡ tail_of rows r + i → late ≤ tail_of rows r →
    value_of y rows.tails.items u r k ≡ y r (u + i) late % 2 ^ 32
unfolding value_of
value_at rows x y u r i k late adds e le =
    let q : ℕ = tail_of rows r - late in
    ap (λ v. y r v (tail_of rows r) % 2 ^ 32) (let e : u + k ≡ u + i + q = omega arith in e)
    ∙ ap (λ l. y r (u + i + q) l % 2 ^ 32) (let e : tail_of rows r ≡ late + q = omega arith in e)
    ∙ ap (λ v. v % 2 ^ 32) (adds.shifts r (u + i) late q)

-- the values past those that are kept are the sums themselves
pub value_now : (rows : Rows) (x : ℕ → ℕ → ℕ) (y : Sums) (u r i : ℕ) → AddUp rows.sources.items x y →
    value_of y rows.tails.items u r (tail_of rows r + i) ≡ y r (u + i) 0 % 2 ^ 32
value_now rows x y u r i adds = value_at rows x y u r i _ 0 adds (omega arith) (omega arith)

-- sums in 32 bits
pub wraps : (a b : ℕ) → (a % 2 ^ 32 + b % 2 ^ 32) % 2 ^ 32 ≡ (a + b) % 2 ^ 32
wraps a b = add-mod-mod (a % 2 ^ 32) b (2 ^ 32) ∙ mod-add-mod a (2 ^ 32) b

-- a sum that fits into 16 bits has one value in either width
sum_in_bits : (narrow : Bool) (a b : ℕ) → (narrow ≡ true → a + b < 2 ^ 16) →
    in_bits narrow (a % 2 ^ 32 + b % 2 ^ 32) ≡ (a + b) % 2 ^ 32
sum_in_bits false a b fits = wraps a b
sum_in_bits true a b fits =
    let small = fits refl in
    let first : a % 2 ^ 32 ≡ a = mod-eq_of_lt (omega arith) in
    let second : b % 2 ^ 32 ≡ b = mod-eq_of_lt (omega arith) in
    let both : (a + b) % 2 ^ 16 ≡ a + b = mod-eq_of_lt small in
    let whole : (a + b) % 2 ^ 32 ≡ a + b = mod-eq_of_lt (omega arith) in
    rw (first, second) (both ∙ sym whole)

pub sample_in_bits : (narrow : Bool) (a : ℕ) → (narrow ≡ true → a < 2 ^ 16) → in_bits narrow a ≡ a % 2 ^ 32
sample_in_bits false a fits = refl
sample_in_bits true a fits =
    let small = fits refl in
    let one : a % 2 ^ 16 ≡ a = mod-eq_of_lt small in
    let whole : a % 2 ^ 32 ≡ a = mod-eq_of_lt (omega arith) in
    one ∙ sym whole

-- a value of a row is the sum of a value of each of two rows
pub summed_value : (rows : Rows) (narrow : List Bool) (x : ℕ → ℕ → ℕ) (y : Sums) (u r i k e : ℕ) (m : Merge) →
    AddUp rows.sources.items x y → Fit narrow y e → u + i < e → slice_get rows.sources.items r ≡ Some (Sum m) →
    k + m.late ≡ tail_of rows m.upper + i → m.late ≤ tail_of rows m.upper →
    in_bits (is_narrow narrow r) (value_of y rows.tails.items u m.upper k
    + value_of y rows.tails.items u m.lower (tail_of rows m.lower + i))
    ≡ value_of y rows.tails.items u r (tail_of rows r + i)
summed_value rows narrow x y u r i k end m adds fits before is e le =
    let above = value_at rows x y u m.upper i k m.late adds e le in
    let below = value_now rows x y u m.lower i adds in
    let same : 0 + m.late ≡ m.late = omega arith in
    let sum : y r (u + i) 0 ≡ y m.upper (u + i) m.late + y m.lower (u + i) 0 =
    adds.sums r (u + i) 0 m is ∙ ap (λ l. y m.upper (u + i) l + y m.lower (u + i) 0) same in
    rw (above, below) (sum_in_bits (is_narrow narrow r) (y m.upper (u + i) m.late) (y m.lower (u + i) 0)
    (λ on. let fit = fits r (u + i) 0 on (omega arith) in omega arith)
    ∙ ap (λ v. v % 2 ^ 32) (sym sum) ∙ sym (value_now rows x y u r i adds))

-- or a sample
pub sampled_value : (rows : Rows) (narrow : List Bool) (x : ℕ → ℕ → ℕ) (y : Sums) (u r i c e : ℕ) →
    AddUp rows.sources.items x y → Fit narrow y e → u + i < e → slice_get rows.sources.items r ≡ Some (Channel c) →
    in_bits (is_narrow narrow r) (x c (u + i)) ≡ value_of y rows.tails.items u r (tail_of rows r + i)
sampled_value rows narrow x y u r i c end adds fits before is =
    let sample = adds.samples r c (u + i) is in
    sample_in_bits (is_narrow narrow r) (x c (u + i)) (λ on. let fit = fits r (u + i) 0 on (omega arith) in omega arith)
    ∙ ap (λ v. v % 2 ^ 32) (sym sample) ∙ sym (value_now rows x y u r i adds)
