-- What a leveller made so far is a front of what is to be made.
use Rattle.std.proofs.Common.{◌≡◌, ℕ, zero, suc, ◌+◌, ◌-◌, ◌*◌, ◌/◌, ◌%◌, ◌<◌, ◌≤◌, Bool, true, false, List, [], ◌∷◌, ◌++◌, length, refl, sym, ap, ◌∙◌, inl, inr, append_assoc, arith}
use Rattle.std.specs.Prelude.{◌⊎◌}
use Rattle.std.specs.List.{range_with_len, flat_map}
use Rattle.std.proofs.lemmas.Bool.{true≢false}
use Rattle.std.proofs.lemmas.Grind.{flat_map-append}
use Rattle.std.proofs.lemmas.List.{append-nil}
use Rattle.std.proofs.Math.Nat.{div-add-mod, mod-lt, div-lt_iff_lt-mul, div-mul-le_self, add-mul, mul_comm, mul-div_cancel, mul-le-mul}
use Rattle.std.proofs.lemmas.Nat.{div-mul-add}
use mathlib.Core.List.{IsPrefix}
use Rattle.band_level.specs.declared.format.Format.{Format}
use Rattle.band_level.specs.Ranges.{FormatInRange}
use Rattle.band_level.specs.Values.{Band, band, cells, spectrum_bytes}
use Rattle.band_level.specs.Holding.{held_bytes}
use Rattle.band_level.specs.Levelled.{Task, first_levels, levelled, spectrum_levels}
use Rattle.band_level.specs.Levelling.{Levelling, Levels, StandsFor, Waits, IsWhole, Ends, pending, band_of}
use Rattle.psr_level.specs.Draining.{LevelsAreFronts, whole_stretches}

-- so many whole stretches of n spectra of so many bytes each
stretches : (bytes size n start held m : ℕ) → start * size + held ≡ bytes → held < n * size → start ≡ m * n →
    bytes / size / n * n ≡ start
stretches bytes size n start held m is short whole =
    let some : 0 < size = size_some size n held short in
    let h = held / size in
    let r = held % size in
    let parts : size * h + r ≡ held = div-add-mod held size in
    let less : r < size = mod-lt held some in
    let few : h < n = (div-lt_iff_lt-mul some).1 short in
    let sum : (start + h) * size + r ≡ bytes = sums start h size r held bytes parts is in
    let spectra : bytes / size ≡ start + h =
    ap (λ (b : ℕ). b / size) (sym sum) ∙ div-mul-add (start + h) size r less in
    let count : (m * n + h) / n ≡ m = div-mul-add m n h few in
    ap (λ (t : ℕ). t / n * n) (spectra ∙ ap (λ (x : ℕ). x + h) whole) ∙ ap (λ (k : ℕ). k * n) count ∙ sym whole
  where
    size_some : (size n held : ℕ) → held < n * size → 0 < size
    size_some zero n held short = let none : n * 0 ≡ 0 = omega arith in absurd (omega (arith, none))
    size_some (suc size) n held short = omega arith

    sums : (start h size r held bytes : ℕ) → size * h + r ≡ held → start * size + held ≡ bytes →
        (start + h) * size + r ≡ bytes
    sums start h size r held bytes parts is =
        let apart = add-mul start h size in
        let turned : size * h ≡ h * size = mul_comm size h in
        omega (arith, apart, turned)

-- the stretch begins after whole ones
begins : (l : Levelling) (start stretch : ℕ) → Waits l start stretch → (m : ℕ) × (start ≡ m * l.task.plan.spectra)
begins l start stretch w = by l.is_scaled refl
  where
    by : (b : Bool) → l.is_scaled ≡ b → (m : ℕ) × (start ≡ m * l.task.plan.spectra)
    by true e = (stretch + 1, w.scaled e)
    by false e = let none = w.begins e in (0, omega arith)

waiting : (l : Levelling) (bytes out : List ℕ) (start stretch : ℕ) → StandsFor l bytes start stretch →
    out ≡ first_levels l.task (band_of l bytes) (start + l.first) → Waits l start stretch →
    out ≡ whole_stretches l.task bytes
waiting l bytes out start stretch s made w =
    let whole = begins l start stretch w in
    let count = stretches (length bytes) (spectrum_bytes l.task.format) l.task.plan.spectra start
    (held_bytes l.task.format l.held) whole.0 s.place.size w.short whole.1 in
    let first = w.first in
    let same : start + l.first ≡ start = omega arith in
    made ∙ ap (λ (n : ℕ). first_levels l.task (band l.task.format bytes) n) (same ∙ sym count)

pub whole_when_waiting : (l : Levelling) (bytes out : List ℕ) → pending l ≡ 0 → l.has_ended ≡ false →
    Levels l bytes out → out ≡ whole_stretches l.task bytes
whole_when_waiting l bytes out none on was = by was.2.stage
  where
    by : Waits l was.0 was.1 ⊎ IsWhole l was.0 was.1 ⊎ Ends l bytes was.0 was.1 → out ≡ whole_stretches l.task bytes
    by (inl w) = waiting l bytes out was.0 was.1 was.2 was.3 w
    by (inr (inl w)) = let some = w.some in absurd (omega arith)
    by (inr (inr e)) = absurd (true≢false (sym e.ended ∙ on))

-- ---- fronts

same_front : (xs ys : List ℕ) → xs ≡ ys → IsPrefix xs ys
same_front xs ys is = ([], append-nil xs ∙ is)

front_follows : (xs ys zs : List ℕ) → IsPrefix xs ys → IsPrefix ys zs → IsPrefix xs zs
front_follows xs ys zs first second = (
  first.0 ++ second.0,
  sym (append_assoc xs first.0 second.0) ∙ ap (λ (l : List ℕ). l ++ second.0) first.1 ∙ second.1,
)

ranges_join : (a n m j : ℕ) → a + n ≡ j → range_with_len a n ++ range_with_len j m ≡ range_with_len a (n + m)
ranges_join a zero m j is =
    let start : j ≡ a = omega arith in
    let count : m ≡ 0 + m = omega arith in
    ap (λ (k : ℕ). range_with_len k m) start ∙ ap (range_with_len a) count
ranges_join a (suc n) m j is =
    let count : suc (n + m) ≡ suc n + m = omega arith in
    ap (λ (l : List ℕ). a ∷ l) (ranges_join (a + 1) n m j (omega arith)) ∙ ap (range_with_len a) count

-- the levels of some spectra are a front of those of more
more_levels : (k : Task) (b : Band) (n m : ℕ) → n ≤ m → IsPrefix (first_levels k b n) (first_levels k b m)
unfolding first_levels
more_levels k b n m fewer =
    let rest = range_with_len n (m - n) in
    let count : n + (m - n) ≡ m = omega arith in
    let all = ranges_join 0 n (m - n) n (omega arith) ∙ ap (range_with_len 0) count in (
      flat_map (spectrum_levels k b) rest,
      sym (flat_map-append (spectrum_levels k b) (range_with_len 0 n) rest) ∙ ap (flat_map (spectrum_levels k b)) all,
    )

some_product : (a b : ℕ) → 0 < a → 0 < b → 0 < a * b
some_product a b x y = let h : 1 * 1 ≤ a * b = mul-le-mul x y in omega (arith, h)

-- a spectrum has some bytes
some_bytes : (f : Format) → FormatInRange f → 0 < spectrum_bytes f
some_bytes f range =
    let width : 0 < f.bits / 8 = elim range.bits [
      | inl e ↦ omega arith
      | inr e ↦ omega arith
    ] in
    let pols : 0 < f.polarisations = elim range.polarisations [
      | inl e ↦ omega arith
      | inr e ↦ omega arith
    ] in
    some_product f.average (cells f * (f.bits / 8)) range.some_average
    (some_product (cells f) (f.bits / 8) (some_product f.channels f.polarisations range.some_channels pols) width)

-- so many bytes of whole stretches are these spectra
whole_count : (bytes size n start held m : ℕ) → 0 < size → 0 < n → start * size + held ≡ bytes → held ≡ n * size →
    start ≡ m * n → bytes / size / n * n ≡ start + n
whole_count bytes size n start held m some few is long whole =
    let parts = add-mul start n size in
    let all : bytes ≡ (start + n) * size = omega (arith, parts, is, long) in
    let spectra : bytes / size ≡ start + n = ap (λ (b : ℕ). b / size) all ∙ mul-div_cancel (start + n) some in
    let more = add-mul m 1 n in
    let one : 1 * n ≡ n = omega arith in
    let stretch : start + n ≡ (m + 1) * n = omega (arith, more, one, whole) in
    ap (λ (t : ℕ). t / n * n) (spectra ∙ stretch) ∙ ap (λ (k : ℕ). k * n) (mul-div_cancel (m + 1) few) ∙ sym stretch

-- while more data may come
going : (l : Levelling) (bytes out : List ℕ) → FormatInRange l.task.format → l.has_ended ≡ false →
    Levels l bytes out → IsPrefix out (whole_stretches l.task bytes)
going l bytes out range on was = by was.2.stage
  where
    by : Waits l was.0 was.1 ⊎ IsWhole l was.0 was.1 ⊎ Ends l bytes was.0 was.1 →
        IsPrefix out (whole_stretches l.task bytes)
    by (inl w) = same_front out (whole_stretches l.task bytes) (waiting l bytes out was.0 was.1 was.2 was.3 w)
    by (inr (inl w)) =
        let k = l.task in
        let n = k.plan.spectra in
        let order = w.some in
        let last = w.last in
        let some : 0 < n = omega (arith, order, last) in
        let count = whole_count (length bytes) (spectrum_bytes k.format) n was.0 (held_bytes k.format l.held) was.1
        (some_bytes k.format range) some was.2.place.size w.long w.begins in
        front_follows out (first_levels k (band k.format bytes) (was.0 + l.first)) (whole_stretches k bytes)
        (same_front out (first_levels k (band k.format bytes) (was.0 + l.first)) was.3)
        (more_levels k (band k.format bytes) (was.0 + l.first)
        (length bytes / spectrum_bytes k.format / n * n) (omega (arith, count, order, last)))
    by (inr (inr e)) = absurd (true≢false (sym e.ended ∙ on))

-- at any time
ever : (l : Levelling) (bytes out : List ℕ) → FormatInRange l.task.format → Levels l bytes out →
    IsPrefix out (levelled l.task bytes)
ever l bytes out range was = by was.2.stage
  where
    on : l.has_ended ≡ false → IsPrefix out (levelled l.task bytes)
    on goes_on =
        let k = l.task in
        let all = length bytes / spectrum_bytes k.format in
        front_follows out (whole_stretches k bytes) (levelled k bytes) (going l bytes out range goes_on was)
        (more_levels k (band k.format bytes) (all / k.plan.spectra * k.plan.spectra) all
        (div-mul-le_self all k.plan.spectra))

    by : Waits l was.0 was.1 ⊎ IsWhole l was.0 was.1 ⊎ Ends l bytes was.0 was.1 →
        IsPrefix out (levelled l.task bytes)
    by (inl w) = on w.goes_on
    by (inr (inl w)) = on w.goes_on
    by (inr (inr e)) =
        let k = l.task in
        let order = was.2.order in
        let last = e.last in
        front_follows out (first_levels k (band k.format bytes) (was.0 + l.first)) (levelled k bytes)
        (same_front out (first_levels k (band k.format bytes) (was.0 + l.first)) was.3)
        (more_levels k (band k.format bytes) (was.0 + l.first) (length bytes / spectrum_bytes k.format)
        (omega (arith, order, last)))

pub levels_fronts : LevelsAreFronts
levels_fronts = record { going = going; ever = ever }
