-- A spectrum that is levelled, and one more.
use Rattle.std.proofs.Common.{◌≡◌, ℕ, ◌+◌, ◌-◌, ◌*◌, ◌/◌, ◌%◌, ◌<◌, ◌++◌, min, List, length, slice_index, refl, sym, ◌∙◌, ap, subst, append_assoc, append-nil, arith}
use Rattle.std.specs.List.{range_with_len, flat_map}
use Rattle.std.proofs.lemmas.List.FromFn.{fill_by_all}
use Rattle.band_level.proofs.Ranges.{flat_map_range_more, sum_range_more}
use Rattle.band_level.specs.Values.{Band, cells}
use Rattle.band_level.specs.Holding.{Holding, held_value}
use Rattle.band_level.specs.Scales.{Scale, unit}
use Rattle.band_level.specs.Finished.{finished}
use Rattle.band_level.specs.Levelled.{Task, is_masked, scale_at, fine, fine_before, whole, level, value_bytes, spectrum_levels}
use Rattle.band_level.specs.Rows.{LevelsRow, HoldScales, scale_held, units_at}
use Rattle.band_level.specs.Spectra.{AreHeld, Carried, LevelsSpectra}

-- what all spectra before have, and one more
pub fine_more : (k : Task) (b : Band) (i t : ℕ) → fine_before k b i (t + 1) ≡ fine_before k b i t + fine k b i t
unfolding fine_before
fine_more k b i t = sum_range_more (fine k b i) t

pub fine_is : (k : Task) (b : Band) (i t : ℕ) (s : Scale) (x : ℕ) → s ≡ scale_at k b t i → x ≡ b.value t i
    → s.base + s.gain * x ≡ fine k b i t
unfolding fine
fine_is k b i t s x scale is =
    ap (λ (z : Scale). z.base + z.gain * x) scale
    ∙ ap (λ y. (scale_at k b t i).base + (scale_at k b t i).gain * y) is

-- the fraction of a sum, and its whole part
carried_on : (before here next units fraction : ℕ) → next ≡ before + here → fraction ≡ before % 1048576
    → units ≡ here + fraction → (units % 1048576 ≡ next % 1048576) × (units / 1048576 ≡ next / 1048576 - before / 1048576)
carried_on before here next units fraction is carried sum = (omega arith, omega arith)

module _ (k : Task) (b : Band) (t : ℕ) (row gains bases lifts fractions levels fractions' : List ℕ)
    (long : length row ≡ cells k.format)
    (levelled : LevelsRow k.plan.most row gains bases lifts fractions levels fractions')
    (values : (i : ℕ) → i < cells k.format → slice_index row i ≡ b.value t i)
    (scales : HoldScales (cells k.format) (scale_at k b t) gains bases lifts)
    (carried : Carried k b t fractions) where
  here : (i : ℕ) → i < cells k.format
      → (units_at row gains bases fractions i % unit ≡ fine_before k b i (t + 1) % unit)
      × (units_at row gains bases fractions i / unit ≡ whole k b i t)
  here i lt = carried_on (fine_before k b i t) (fine k b i t) (fine_before k b i (t + 1)) _ _ (fine_more k b i t)
      (carried i lt)
      (ap (λ v. v + slice_index fractions i) (fine_is k b i t (scale_held gains bases lifts i) _ (scales i lt) (values i lt)))

  pub spectrum_carried : Carried k b (t + 1) fractions'
  spectrum_carried i lt = levelled.fraction i (omega (arith, long)) ∙ (here i lt).0

  pub spectrum_level : (i : ℕ) → i < cells k.format → slice_index levels i ≡ level k b i t
  spectrum_level i lt =
      levelled.level i (omega (arith, long))
      ∙ ap (λ v. min k.plan.most (v - slice_index lifts i)) (here i lt).1
      ∙ ap (λ (s : Scale). min k.plan.most (whole k b i t - s.lift)) (scales i lt)

pub spectrum_written : (k : Task) (b : Band) (t : ℕ) (levels done : List ℕ) → length levels ≡ cells k.format
    → ((i : ℕ) → i < cells k.format → slice_index levels i ≡ level k b i t)
    → done ≡ finished k.plan (is_masked k) levels
    → flat_map (value_bytes k.plan.bits) done ≡ spectrum_levels k b t
unfolding spectrum_levels
spectrum_written k b t levels done long is finishes =
    ap (flat_map (value_bytes k.plan.bits))
    (finishes ∙ ap (finished k.plan (is_masked k))
    (fill_by_all (λ i. level k b i t) levels (cells k.format) 0 long is))

-- one spectrum that is held
pub one_levelled : (k : Task) (held : Holding) (gains bases lifts row levels done old new before after : List ℕ)
    (first : ℕ)
    → length row ≡ cells k.format → length levels ≡ cells k.format
    → LevelsRow k.plan.most row gains bases lifts old levels new
    → ((i : ℕ) → i < cells k.format → slice_index row i ≡ held_value k.format held first i)
    → done ≡ finished k.plan (is_masked k) levels
    → after ≡ before ++ flat_map (value_bytes k.plan.bits) done
    → LevelsSpectra k held gains bases lifts first 1 old new before after
one_levelled k held gains bases lifts row levels done old new before after first long levels_long levelled read finishes
    wrote b start is_held carried =
    let f = k.format in
    let at : first + 0 ≡ first = omega arith in
    let on : start + 0 ≡ start = omega arith in
    let values : (i : ℕ) → i < cells f → slice_index row i ≡ b.value start i =
    λ i lt. read i lt ∙ (rw (at, on) at (is_held.values 0 i (omega arith) lt)) in
    let scales : HoldScales (cells f) (scale_at k b start) gains bases lifts =
    subst (λ (t : ℕ). HoldScales (cells f) (scale_at k b t) gains bases lifts) on (is_held.scales 0 (omega arith)) in
    record {
      carried = spectrum_carried k b start row gains bases lifts old levels new long levelled values scales carried;
      written = wrote ∙ ap (λ xs. before ++ xs)
          (spectrum_written k b start levels done levels_long
          (spectrum_level k b start row gains bases lifts old levels new long levelled values scales carried) finishes
          ∙ sym (append-nil (spectrum_levels k b start)));
    }

-- and one more behind others
pub spectra_more : (k : Task) (held : Holding) (gains bases lifts old mid new before middle after : List ℕ)
    (first count at : ℕ) → at ≡ first + count
    → LevelsSpectra k held gains bases lifts first count old mid before middle
    → LevelsSpectra k held gains bases lifts at 1 mid new middle after
    → LevelsSpectra k held gains bases lifts first (count + 1) old new before after
spectra_more k held gains bases lifts old mid new before middle after first count at is_at so_far one
    b start is_held carried =
    let f = k.format in
    let front : AreHeld k b start count held first gains bases lifts = record {
      values = λ t i lt here. is_held.values t i (omega arith) here;
      scales = λ t lt. is_held.scales t (omega arith);
    } in
    let last : AreHeld k b (start + count) 1 held at gains bases lifts = record {
      values = λ t i lt here.
          let from : at + t ≡ first + count = omega arith in
          let to : start + count ≡ start + count + t = omega arith in
          ap (λ j. held_value f held j i) from ∙ is_held.values count i (omega arith) here
          ∙ ap (λ u. b.value u i) to;
      scales = λ t lt.
          let to : start + count ≡ start + count + t = omega arith in
          subst (λ (u : ℕ). HoldScales (cells f) (scale_at k b u) gains bases lifts) to (is_held.scales count (omega arith));
    } in
    let before_it = so_far b start front carried in
    let it = one b (start + count) last before_it.carried in
    let next : start + count + 1 ≡ start + (count + 1) = omega arith in
    record {
      carried = subst (λ (t : ℕ). Carried k b t new) next it.carried;
      written = it.written
          ∙ ap (λ xs. xs ++ flat_map (spectrum_levels k b) (range_with_len (start + count) 1)) before_it.written
          ∙ append_assoc before (flat_map (spectrum_levels k b) (range_with_len start count)) _
          ∙ ap (λ xs. before ++ (flat_map (spectrum_levels k b) (range_with_len start count) ++ xs))
          (append-nil (spectrum_levels k b (start + count)))
          ∙ ap (λ xs. before ++ xs) (sym (flat_map_range_more (spectrum_levels k b) start count (start + count) refl));
    }
