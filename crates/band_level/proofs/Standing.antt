-- What a leveller stands for, from call to call.
use Rattle.std.proofs.Common.{◌≡◌, ℕ, refl, ◌+◌, ◌*◌, ◌/◌, ◌%◌, ◌<◌, ◌≤◌, min, inl, inr, Bool, true, false, List, ◌++◌, length, drop, map, ◌∙◌, sym, ap, subst, arith, length-append}
use Rattle.std.specs.List.{range_with_len}
use Rattle.std.proofs.Math.Nat.{mul-le-mul_right}
use Rattle.std.proofs.lemmas.Nat.{le-div}
use Rattle.std.proofs.lemmas.List.{drop-append-le}
use Rattle.band_level.specs.Ranges.{FormatInRange}
use Rattle.band_level.specs.Values.{band, cells, spectrum_bytes, cell_value}
use Rattle.band_level.specs.Holding.{Holding, Holds, Puts, held_bytes, held_value}
use Rattle.band_level.specs.Moments.{fair_moments}
use Rattle.band_level.specs.Columns.{column}
use Rattle.band_level.specs.Scales.{scale_of, unit}
use Rattle.band_level.specs.Rows.{HoldScales}
use Rattle.band_level.specs.Levelled.{Task, is_masked, stretch_values, scale_by, fine_before, first_levels}
use Rattle.band_level.specs.Levelling.{Levelling, IsAt, StandsFor, Waits, Levels, Takes, band_of, pending}
use Rattle.band_level.specs.Steps.{HeldScales, Measures, stretch_bytes}
use Rattle.band_level.proofs.Values.{some_bytes}
use Rattle.band_level.proofs.Puts.{cell_more, cell_dropped, held_is}
use Rattle.band_level.proofs.Agreeing.{Agree, before_agrees, levels_agree, scales_agree}
use Rattle.band_level.proofs.Ranges.{maps_agree}

-- ---- more bytes

-- whole stretches stay as they are
prefix_agrees : (k : Task) (bytes more : List ℕ) (stretches start : ℕ) → FormatInRange k.format → 0 < k.plan.spectra
    → start ≡ stretches * k.plan.spectra → start * spectrum_bytes k.format ≤ length bytes
    → Agree k (band k.format bytes) (band k.format (bytes ++ more)) stretches
prefix_agrees k bytes more stretches start range some is_start fits =
    let f = k.format in
    let both = length-append bytes more in
    let here : start ≤ length bytes / spectrum_bytes f = le-div start _ _ (some_bytes f range) fits in
    let there : start ≤ length (bytes ++ more) / spectrum_bytes f =
    le-div start _ _ (some_bytes f range) (omega arith) in
    record {
      some = some;
      enough = omega arith;
      others = omega arith;
      values = λ t i lt inside.
          let part : (t + 1) * spectrum_bytes f ≤ start * spectrum_bytes f = mul-le-mul_right _ (omega arith) in
          cell_more f bytes more t i range (omega arith) inside;
    }

-- what is held of the bytes
pub held_cells : (l : Levelling) (bytes : List ℕ) (start t i : ℕ) → FormatInRange l.task.format → IsAt l bytes start
    → (t + 1) * spectrum_bytes l.task.format ≤ held_bytes l.task.format l.held → i < cells l.task.format
    → held_value l.task.format l.held t i ≡ cell_value l.task.format bytes (start + t) i
held_cells l bytes start t i range place fits here =
    let f = l.task.format in
    let n = start * spectrum_bytes f in
    let size = place.held.size in
    held_is f l.held (drop n bytes) t i range place.held (omega arith) here
    ∙ cell_dropped f bytes n t (start + t) i range (omega arith) (omega arith) here

module _ (l : Levelling) (next : Holding) (bytes piece : List ℕ) (start stretches : ℕ)
    (range : FormatInRange l.task.format) (some : 0 < l.task.plan.spectra)
    (is_start : start ≡ stretches * l.task.plan.spectra) (first : l.first ≡ 0) (place : IsAt l bytes start) where
  agrees : Agree l.task (band_of l bytes) (band_of l (bytes ++ piece)) stretches
  agrees =
      let size = place.size in
      prefix_agrees l.task bytes piece stretches start range some is_start (omega arith)

  -- bytes that are held behind the others
  at_more : Puts l.task.format l.held next piece → IsAt (record l { held = next }) (bytes ++ piece) start
  at_more puts =
      let size = place.size in
      let n = start * spectrum_bytes l.task.format in
      record {
        size = omega (arith, length-append bytes piece, puts.size);
        held = subst (λ (xs : List ℕ). Holds l.task.format next xs) (sym (drop-append-le n bytes piece (omega arith)))
            (puts.holds (drop n bytes) place.held);
        carried = λ i lt. place.carried i lt
            ∙ ap (λ x. x % unit)
            (before_agrees l.task (band_of l bytes) (band_of l (bytes ++ piece)) stretches agrees (start + l.first) i
            (omega arith) lt);
      }

  levels_more : first_levels l.task (band_of l bytes) (start + l.first)
      ≡ first_levels l.task (band_of l (bytes ++ piece)) (start + l.first)
  levels_more =
      levels_agree l.task (band_of l bytes) (band_of l (bytes ++ piece)) stretches agrees (start + l.first) (omega arith)

-- ---- stages

-- which stage it is
pub is_waiting : (l : Levelling) (bytes : List ℕ) (start stretch : ℕ) → StandsFor l bytes start stretch
    → l.has_ended ≡ false → pending l ≡ 0 → Waits l start stretch
is_waiting l bytes start stretch stands goes_on none = elim stands.stage [
  | inl waits ↦ waits
  | inr other ↦ elim other [
    | inl whole ↦ let some = whole.some in absurd (omega arith)
    | inr ends ↦ let e : true ≡ false = sym ends.ended ∙ goes_on in absurd (cc)
  ]
]

-- the stretch that a waiting leveller begins with
begins_on : (l : Levelling) (start stretch : ℕ) (b : Bool) → l.is_scaled ≡ b → Waits l start stretch
    → (q : ℕ) × (start ≡ q * l.task.plan.spectra)
begins_on l start stretch true e waits = (stretch + 1, waits.scaled e)
begins_on l start stretch false e waits = (0, let h = waits.begins e in omega arith)

begins : (l : Levelling) (start stretch : ℕ) → Waits l start stretch → (q : ℕ) × (start ≡ q * l.task.plan.spectra)
begins l start stretch waits = begins_on l start stretch l.is_scaled refl waits

-- ---- scales

-- the scales of what is held are those of a stretch, where the first spectra that are held are its own
pub held_scales : (l : Levelling) (bytes : List ℕ) (start stretch count : ℕ) (gains bases lifts : List ℕ)
    → FormatInRange l.task.format → IsAt l bytes start → start ≡ stretch * l.task.plan.spectra
    → count * spectrum_bytes l.task.format ≤ held_bytes l.task.format l.held
    → min l.task.plan.spectra (band_of l bytes).spectra ≡ count
    → HeldScales l l.held count gains bases lifts
    → HoldScales (cells l.task.format) (scale_by l.task (band_of l bytes) stretch) gains bases lifts
held_scales l bytes start stretch count gains bases lifts range place is_start fits is_count scales i lt =
    let f = l.task.format in
    let n = l.task.plan.spectra in
    let values : column (held_value f l.held) count i ≡ stretch_values l.task (band_of l bytes) stretch i =
    maps_agree 0 (λ j. held_value f l.held j i) (λ j. cell_value f bytes (stretch * n + j) i) count
    (λ j lt_count.
    let part : (j + 1) * spectrum_bytes f ≤ count * spectrum_bytes f = mul-le-mul_right _ (omega arith) in
    let e : start + j ≡ stretch * n + j = omega arith in
    held_cells l bytes start j i range place (omega arith) lt ∙ ap (λ u. cell_value f bytes u i) e)
    ∙ ap (λ m. map (λ j. cell_value f bytes (stretch * n + j) i) (range_with_len 0 m)) (sym is_count) in
    scales i lt ∙ ap (λ xs. scale_of l.task.plan (is_masked l.task i) (fair_moments xs)) values

-- the first `last` spectra that are held are to be levelled
abbrev pub scheduled : Levelling → List ℕ → List ℕ → List ℕ → Bool → ℕ → Bool → Levelling
scheduled l gains bases lifts is_scaled last has_ended = record l {
  gains = gains;
  bases = bases;
  lifts = lifts;
  is_scaled = is_scaled;
  first = 0;
  last = last;
  has_ended = has_ended;
}

pub at_front : (l : Levelling) (gains bases lifts : List ℕ) (is_scaled : Bool) (last : ℕ) (has_ended : Bool)
    (bytes : List ℕ) (start : ℕ) → l.first ≡ 0 → IsAt l bytes start
    → IsAt (scheduled l gains bases lifts is_scaled last has_ended) bytes start
at_front l gains bases lifts is_scaled last has_ended bytes start first place = record {
  size = place.size;
  held = place.held;
  carried = λ i lt. place.carried i lt ∙ ap (λ n. fine_before l.task (band_of l bytes) i (start + n) % unit) first;
}

-- ---- bytes that are taken

module _ (l mid : Levelling) (piece : List ℕ) (range : FormatInRange l.task.format)
    (some : 0 < l.task.plan.spectra) (goes_on : l.has_ended ≡ false) (none : pending l ≡ 0)
    (is : mid ≡ record l { held = mid.held }) (puts : Puts l.task.format l.held mid.held piece) where
  levels_short : held_bytes l.task.format mid.held < stretch_bytes l.task → (bytes out : List ℕ)
      → Levels l bytes out → Levels (record l { held = mid.held }) (bytes ++ piece) out
  levels_short short bytes out (start, stretch, stands, is_out) =
      let waits = is_waiting l bytes start stretch stands goes_on none in
      let on = begins l start stretch waits in
      let size = stands.place.size in (
        start,
        stretch,
        record {
          place = at_more l mid.held bytes piece start on.0 range some on.1 waits.first stands.place puts;
          order = stands.order;
          scales = λ is_scaled i lt.
              let is_start = waits.scaled is_scaled in
              let agree = prefix_agrees l.task bytes piece (stretch + 1) start range some is_start (omega arith) in
              stands.scales is_scaled i lt
              ∙ scales_agree l.task (band_of l bytes) (band_of l (bytes ++ piece)) (stretch + 1) agree stretch i
              (omega arith) lt;
          stage = inl record {
            goes_on = goes_on;
            first = waits.first;
            last = waits.last;
            short = short;
            scaled = waits.scaled;
            begins = waits.begins;
          };
        },
        is_out ∙ levels_more l mid.held bytes piece start on.0 range some on.1 waits.first stands.place,
      )

  levels_whole : (gains bases lifts : List ℕ) → held_bytes l.task.format mid.held ≡ stretch_bytes l.task
      → HeldScales l mid.held l.task.plan.spectra gains bases lifts → (bytes out : List ℕ) → Levels l bytes out
      → Levels (scheduled (record l { held = mid.held }) gains bases lifts true l.task.plan.spectra false) (bytes ++ piece) out
  levels_whole gains bases lifts long scales bytes out (start, stretch, stands, is_out) =
      let n = l.task.plan.spectra in
      let waits = is_waiting l bytes start stretch stands goes_on none in
      let on = begins l start stretch waits in
      let place = at_more l mid.held bytes piece start on.0 range some on.1 waits.first stands.place puts in
      let size = place.size in
      let all : start + n ≤ length (bytes ++ piece) / spectrum_bytes l.task.format =
      le-div (start + n) _ _ (some_bytes l.task.format range) (omega arith) in (
        start,
        on.0,
        record {
          place = at_front (record l { held = mid.held }) gains bases lifts true n false (bytes ++ piece) start waits.first place;
          order = omega arith;
          scales = λ is_scaled. held_scales (record l { held = mid.held }) (bytes ++ piece) start on.0 n gains bases lifts
              range place on.1 (omega arith) (omega arith) scales;
          stage = inr (inl record {
            goes_on = refl;
            last = refl;
            some = some;
            long = long;
            scaled = refl;
            begins = on.1;
          });
        },
        is_out ∙ levels_more l mid.held bytes piece start on.0 range some on.1 waits.first stands.place
            ∙ ap (λ k. first_levels l.task (band_of l (bytes ++ piece)) (start + k)) waits.first,
      )

  -- they leave the stretch short
  pub takes_short : held_bytes mid.task.format mid.held < stretch_bytes mid.task → Takes l mid piece
  takes_short short =
      let few = subst (λ (x : Levelling). held_bytes x.task.format x.held < stretch_bytes x.task) is short in
      subst (λ (x : Levelling). Takes l x piece) (sym is) record { task = refl; ended = refl; levels = levels_short few }

  -- they fill it, and its scales are made
  pub takes_whole : (next m : Levelling) (n : ℕ) → held_bytes mid.task.format mid.held ≡ stretch_bytes mid.task
      → n ≡ mid.task.plan.spectra → next ≡ record mid { first = 0; last = n; has_ended = false } → Measures next m n
      → Takes l m piece
  takes_whole next m n long is_n next_is measures =
      let all = subst (λ (x : Levelling). held_bytes x.task.format x.held ≡ stretch_bytes x.task) is long in
      let made = subst (λ (k : ℕ). Measures (record l { held = mid.held; first = 0; last = k; has_ended = false }) m k)
      (is_n ∙ ap (λ (x : Levelling). x.task.plan.spectra) is)
      (subst (λ (x : Levelling). Measures x m n)
      (next_is ∙ ap (λ (x : Levelling). record x { first = 0; last = n; has_ended = false }) is) measures) in
      subst (λ (x : Levelling). Takes l x piece) (sym made.same)
      record { task = refl; ended = sym goes_on; levels = levels_whole m.gains m.bases m.lifts all made.scales }
