-- Spectra that are levelled, and the end of the data.
use Rattle.std.proofs.Common.{◌≡◌, ℕ, zero, suc, refl, ◌+◌, ◌-◌, ◌*◌, ◌/◌, ◌%◌, ◌<◌, ◌≤◌, inl, inr, true, false, List, [], ◌++◌, length, drop, slice_index, ◌∙◌, sym, ap, subst, append_assoc, append-nil, arith, Bool}
use Rattle.std.specs.List.{range_with_len, flat_map}
use Rattle.std.proofs.Math.Nat.{mul-le-mul_right, div-mul-le_self}
use Rattle.std.proofs.lemmas.List.{drop_all}
use Rattle.std.proofs.lemmas.Nat.{le-div, div-mul-add, div-add-mod', mod_below, div_below}
use Rattle.band_level.proofs.Ranges.{flat_map_range_more}
use Rattle.band_level.specs.Ranges.{FormatInRange}
use Rattle.band_level.specs.Values.{Band, cells, spectrum_bytes, cell_value}
use Rattle.band_level.specs.Holding.{Holds, cleared, held_bytes, Holding}
use Rattle.band_level.specs.Scales.{unit}
use Rattle.band_level.specs.Levelled.{Task, scale_by, stretch_for, fine_before, first_levels, spectrum_levels}
use Rattle.band_level.specs.Spectra.{AreHeld, AreLevelled}
use Rattle.band_level.specs.Levelling.{Levelling, IsAt, StandsFor, Levels, Gives, band_of, pending, Waits, EndsAs}
use Rattle.band_level.specs.Steps.{MakesPiece, HeldScales, Measures}
use Rattle.band_level.proofs.Agreeing.{own_stretch}
use Rattle.band_level.proofs.Puts.{holds_nothing}
use Rattle.band_level.proofs.Standing.{held_cells, at_front, held_scales, is_waiting, scheduled}
use Rattle.band_level.proofs.Values.{product_some, some_bytes}
use Rattle.band_level.specs.Rows.{HoldScales}

-- ---- levels behind others

front_and_rest : (f : ℕ → List ℕ) (a n : ℕ) → flat_map f (range_with_len 0 (a + n))
    ≡ flat_map f (range_with_len 0 a) ++ flat_map f (range_with_len a n)
front_and_rest f a zero =
    let e : a + 0 ≡ a = omega arith in
    ap (λ m. flat_map f (range_with_len 0 m)) e ∙ sym (append-nil (flat_map f (range_with_len 0 a)))
front_and_rest f a (suc n) =
    let e : a + suc n ≡ a + n + 1 = omega arith in
    let g : n + 1 ≡ suc n = omega arith in
    ap (λ m. flat_map f (range_with_len 0 m)) e
    ∙ flat_map_range_more f 0 (a + n) (a + n) (omega arith)
    ∙ ap (λ xs. xs ++ f (a + n)) (front_and_rest f a n)
    ∙ append_assoc (flat_map f (range_with_len 0 a)) (flat_map f (range_with_len a n)) (f (a + n))
    ∙ ap (λ xs. flat_map f (range_with_len 0 a) ++ xs)
    (sym (flat_map_range_more f a n (a + n) refl) ∙ ap (λ m. flat_map f (range_with_len a m)) g)

levels_behind : (k : Task) (b : Band) (a n : ℕ)
    → first_levels k b (a + n) ≡ first_levels k b a ++ flat_map (spectrum_levels k b) (range_with_len a n)
unfolding first_levels
levels_behind k b a n = front_and_rest (spectrum_levels k b) a n

-- ---- what is to be levelled

-- the spectra to be levelled are held, and their scales are those of one stretch
record IsReady (l : Levelling) (bytes : List ℕ) (start stretch : ℕ) : Type 0 where
  inside : l.last * spectrum_bytes l.task.format ≤ held_bytes l.task.format l.held
  scaled : l.is_scaled ≡ true
  here : (t : ℕ) → start ≤ t → t < start + l.last → stretch_for l.task (band_of l bytes) t ≡ stretch

-- a quotient, where the rest is known
pub quotient : (t q n : ℕ) → q * n ≤ t → t < (q + 1) * n → t / n ≡ q
quotient t q n low high =
    let e : t ≡ q * n + (t - q * n) = omega arith in
    ap (λ m. m / n) e ∙ div-mul-add q n (t - q * n) (omega arith)

ready : (l : Levelling) (bytes : List ℕ) (start stretch : ℕ) → FormatInRange l.task.format
    → 0 < l.task.plan.spectra → 0 < pending l → StandsFor l bytes start stretch → IsReady l bytes start stretch
ready l bytes start stretch range some next stands =
    let n = l.task.plan.spectra in
    let sb = spectrum_bytes l.task.format in
    let size = stands.place.size in
    elim stands.stage [
      | inl waits ↦ let e = waits.last in absurd (omega arith)
      | inr other ↦ elim other [
        | inl whole ↦
            let long = whole.long in
            let is_start = whole.begins in
            let last = whole.last in
            let all : (stretch + 1) * n ≤ length bytes / sb =
            omega (arith, le-div (start + n) (length bytes) sb (some_bytes l.task.format range) (omega arith)) in
            record {
              inside = let e : l.last * sb ≡ n * sb = ap (λ m. m * sb) last in omega arith;
              scaled = whole.scaled;
              here = λ t low high.
                  own_stretch l.task (band_of l bytes) (stretch + 1) t some all (omega arith)
                  ∙ quotient t stretch n (omega arith) (omega arith);
            }
        | inr ends ↦
            let fits : length bytes / sb * sb ≤ length bytes = div-mul-le_self (length bytes) sb in
            let e : (start + l.last) * sb ≡ length bytes / sb * sb = ap (λ m. m * sb) ends.last in
            record { inside = omega arith; scaled = ends.scaled (omega arith); here = ends.here }
      ]
    ]

held_spectra : (l : Levelling) (bytes : List ℕ) (start stretch count : ℕ) → FormatInRange l.task.format
    → StandsFor l bytes start stretch → IsReady l bytes start stretch → l.first + count ≤ l.last
    → AreHeld l.task (band_of l bytes) (start + l.first) count l.held l.first l.gains l.bases l.lifts
held_spectra l bytes start stretch count range stands is_ready few = record {
  values = λ t i lt here.
      let inside = is_ready.inside in
      let part : (l.first + t + 1) * spectrum_bytes l.task.format ≤ l.last * spectrum_bytes l.task.format =
      mul-le-mul_right _ (omega arith) in
      let e : start + (l.first + t) ≡ start + l.first + t = omega arith in
      held_cells l bytes start (l.first + t) i range stands.place (omega arith) here
      ∙ ap (λ u. cell_value l.task.format bytes u i) e;
  scales = λ t lt i here.
      stands.scales is_ready.scaled i here
      ∙ ap (λ s. scale_by l.task (band_of l bytes) s i) (sym (is_ready.here (start + l.first + t) (omega arith) (omega arith)));
}

-- ---- what a piece leaves

-- nothing is left behind all bytes
dropped : (xs : List ℕ) → drop (length xs) xs ≡ []
dropped xs = drop_all (length xs) xs (omega arith)

module _ (l m : Levelling) (range : FormatInRange l.task.format) (some : 0 < l.task.plan.spectra)
    (next : 0 < pending l) (makes : MakesPiece l m) where
  module _ (bytes out : List ℕ) (start stretch n : ℕ) (stands : StandsFor l bytes start stretch)
      (is_n : n ≡ start + l.first + makes.count) where
    made : AreLevelled l.task (band_of l bytes) (start + l.first) makes.count m.fractions [] m.piece
    made = makes.levels (band_of l bytes) (start + l.first)
        (held_spectra l bytes start stretch makes.count range stands (ready l bytes start stretch range some next stands)
        makes.few)
        stands.place.carried

    out_more : out ≡ first_levels l.task (band_of l bytes) (start + l.first)
        → out ++ m.piece ≡ first_levels l.task (band_of l bytes) n
    out_more is_out =
        ap (λ xs. xs ++ m.piece) is_out
        ∙ ap (λ xs. first_levels l.task (band_of l bytes) (start + l.first) ++ xs) made.written
        ∙ sym (levels_behind l.task (band_of l bytes) (start + l.first) makes.count)
        ∙ ap (λ k. first_levels l.task (band_of l bytes) k) (sym is_n)

    carried_more : (i : ℕ) → i < cells l.task.format
        → slice_index m.fractions i ≡ fine_before l.task (band_of l bytes) i n % unit
    carried_more i lt = made.carried i lt ∙ ap (λ k. fine_before l.task (band_of l bytes) i k % unit) (sym is_n)

  -- some spectra of the stretch are left, or the data have ended
  levels_on : (l.has_ended ≡ false → l.first + makes.count < l.last) → (bytes out : List ℕ) → Levels l bytes out
      → Levels (record l { fractions = m.fractions; piece = m.piece; first = l.first + makes.count }) bytes (out ++ m.piece)
  levels_on left bytes out (start, stretch, stands, is_out) =
      let few = makes.few in
      let n = start + (l.first + makes.count) in (
        start,
        stretch,
        record {
          place = record {
            size = stands.place.size;
            held = stands.place.held;
            carried = carried_more bytes out start stretch n stands (omega arith);
          };
          order = omega arith;
          scales = stands.scales;
          stage = elim stands.stage [
            | inl waits ↦ let e = waits.last in absurd (omega arith)
            | inr other ↦ elim other [
              | inl whole ↦ inr (inl record {
                goes_on = whole.goes_on;
                last = whole.last;
                some = left whole.goes_on;
                long = whole.long;
                scaled = whole.scaled;
                begins = whole.begins;
              })
              | inr ends ↦ inr (inr record { ended = ends.ended; last = ends.last; scaled = ends.scaled; here = ends.here })
            ]
          ];
        },
        out_more bytes out start stretch n stands (omega arith) is_out,
      )

  -- the stretch is over: the next one begins
  levels_over : l.has_ended ≡ false → l.first + makes.count ≡ l.last → (bytes out : List ℕ) → Levels l bytes out
      → Levels (record l {
        fractions = m.fractions;
        piece = m.piece;
        held = cleared l.held;
        first = 0;
        last = 0;
      }) bytes (out ++ m.piece)
  levels_over goes_on all bytes out (start, stretch, stands, is_out) =
      elim stands.stage [
        | inl waits ↦ let e = waits.last in absurd (omega arith)
        | inr other ↦ elim other [
          | inr ends ↦ let e : true ≡ false = sym ends.ended ∙ goes_on in absurd (cc)
          | inl whole ↦
              let n = l.task.plan.spectra in
              let sb = spectrum_bytes l.task.format in
              let size = stands.place.size in
              let long = whole.long in
              let last = whole.last in
              let is_start = whole.begins in
              let next_start : (start + n) * sb ≡ length bytes = omega arith in (
                start + n,
                stretch,
                record {
                  place = record {
                    size = omega arith;
                    held = subst (λ (xs : List ℕ). Holds l.task.format (cleared l.held) xs)
                        (sym (ap (λ k. drop k bytes) next_start ∙ dropped bytes)) (holds_nothing l.task.format l.held);
                    carried = carried_more bytes out start stretch (start + n + 0) stands (omega arith);
                  };
                  order = omega arith;
                  scales = stands.scales;
                  stage = inl record {
                    goes_on = goes_on;
                    first = refl;
                    last = refl;
                    short = let h = product_some n sb some (some_bytes l.task.format range) in omega arith;
                    scaled = λ is_scaled. omega arith;
                    begins = λ not_scaled. let e : true ≡ false = sym whole.scaled ∙ not_scaled in absurd (cc);
                  };
                },
                out_more bytes out start stretch (start + n + 0) stands (omega arith) is_out,
              )
        ]
      ]

  pub gives_on : (l.has_ended ≡ false → l.first + makes.count < l.last) → Gives l m
  gives_on left =
      let few = makes.few in
      let there = makes.some in
      subst (λ (x : Levelling). Gives l x) (sym makes.same)
      record { task = refl; ended = refl; fewer = omega arith; levels = levels_on left }

  pub gives_over : (after : Levelling) → l.has_ended ≡ false → l.first + makes.count ≡ l.last
      → after ≡ record m { held = cleared m.held; first = 0; last = 0 } → Gives l after
  gives_over after goes_on all is =
      subst (λ (x : Levelling). Gives l x)
      (sym (is ∙ ap (λ (x : Levelling). record x { held = cleared x.held; first = 0; last = 0 }) makes.same))
      record { task = refl; ended = refl; fewer = omega arith; levels = levels_over goes_on all }

-- ---- the beginning

none_before : (k : Task) (b : Band) (i : ℕ) → fine_before k b i 0 ≡ 0
unfolding fine_before
none_before k b i = refl

no_levels : (k : Task) (b : Band) → [] ≡ first_levels k b 0
unfolding first_levels
no_levels k b = refl

pub starts : (l : Levelling) → FormatInRange l.task.format → 0 < l.task.plan.spectra → l.held ≡ cleared l.held
    → l.first ≡ 0 → l.last ≡ 0 → l.is_scaled ≡ false → l.has_ended ≡ false
    → ((i : ℕ) → slice_index l.fractions i ≡ 0) → Levels l [] []
starts l range some held first last not_scaled goes_on none =
    let sb = spectrum_bytes l.task.format in
    let at : 0 + l.first ≡ 0 = omega arith in
    let nothing = subst (λ (h : Holding). Holds l.task.format h []) (sym held) (holds_nothing l.task.format l.held) in
    let long = nothing.size in
    let size : 0 * sb ≡ 0 = omega arith in (
      0,
      0,
      record {
        place = record {
          size = omega arith;
          held = subst (λ (n : ℕ). Holds l.task.format l.held (drop n [])) (sym size) nothing;
          carried = λ i lt. none i ∙ ap (λ n. n % unit)
              (sym (ap (fine_before l.task (band_of l []) i) at ∙ none_before l.task (band_of l []) i));
        };
        order = omega arith;
        scales = λ is_scaled. let e : true ≡ false = sym is_scaled ∙ not_scaled in absurd (cc);
        stage = inl record {
          goes_on = goes_on;
          first = first;
          last = last;
          short = let h = product_some l.task.plan.spectra sb some (some_bytes l.task.format range) in omega arith;
          scaled = λ is_scaled. let e : true ≡ false = sym is_scaled ∙ not_scaled in absurd (cc);
          begins = λ e. refl;
        };
      },
      no_levels l.task (band_of l []) ∙ ap (first_levels l.task (band_of l [])) (sym at),
    )

-- ---- the end

-- how many spectra there are
spectra_are : (l : Levelling) (bytes : List ℕ) (start : ℕ) → FormatInRange l.task.format → IsAt l bytes start
    → start + held_bytes l.task.format l.held / spectrum_bytes l.task.format ≡ (band_of l bytes).spectra
spectra_are l bytes start range place =
    let sb = spectrum_bytes l.task.format in
    let held = held_bytes l.task.format l.held in
    let size = place.size in
    let split : held / sb * sb + held % sb ≡ held = div-add-mod' held sb in
    let rest : held % sb < sb = mod_below held sb (some_bytes l.task.format range) in
    let all : length bytes ≡ (start + held / sb) * sb + held % sb = omega arith in
    sym (ap (λ n. n / sb) all ∙ div-mul-add (start + held / sb) sb (held % sb) rest)

-- those of a short stretch are few
few : (l : Levelling) (start stretch : ℕ) → FormatInRange l.task.format → Waits l start stretch
    → held_bytes l.task.format l.held / spectrum_bytes l.task.format < l.task.plan.spectra
few l start stretch range waits =
    div_below (held_bytes l.task.format l.held) (spectrum_bytes l.task.format) l.task.plan.spectra
    (some_bytes l.task.format range) waits.short

module _ (l : Levelling) (count : ℕ) (range : FormatInRange l.task.format) (goes_on : l.has_ended ≡ false)
    (none : pending l ≡ 0) (is_count : count ≡ held_bytes l.task.format l.held / spectrum_bytes l.task.format) where
  -- the scales are those of stretch `to`, if spectra are left, which begin behind q whole stretches
  ends_at : (gains bases lifts : List ℕ) (is_scaled : Bool) (bytes : List ℕ) (start stretch to q : ℕ)
      → IsAt l bytes start → Waits l start stretch
      → (0 < count → is_scaled ≡ true) → (0 < count → start ≡ q * l.task.plan.spectra) → (0 < count → to ≡ q - 1)
      → (is_scaled ≡ true
      → HoldScales (cells l.task.format) (scale_by l.task (band_of l bytes) to) gains bases lifts)
      → StandsFor (scheduled l gains bases lifts is_scaled count true) bytes start to
  ends_at gains bases lifts is_scaled bytes start stretch to q place waits scaled begins is_to scales =
      let n = l.task.plan.spectra in
      let total = spectra_are l bytes start range place in
      let short = few l start stretch range waits in
      record {
        place = at_front l gains bases lifts is_scaled count true bytes start waits.first place;
        order = omega arith;
        scales = scales;
        stage = inr (inr record {
          ended = refl;
          last = omega arith;
          scaled = scaled;
          here = λ t low high.
              let is_start = begins (omega arith) in
              let last_is = is_to (omega arith) in
              let mine : t / n ≡ q = quotient t q n (omega arith) (omega arith) in
              let all : (band_of l bytes).spectra / n ≡ q =
              quotient (band_of l bytes).spectra q n (omega arith) (omega arith) in
              omega arith;
        });
      }

  levels_scaled : (0 < count → l.is_scaled ≡ true) → (bytes out : List ℕ) → Levels l bytes out
      → Levels (scheduled l l.gains l.bases l.lifts l.is_scaled count true) bytes out
  levels_scaled scaled bytes out (start, stretch, stands, is_out) =
      let waits = is_waiting l bytes start stretch stands goes_on none in (
        start,
        stretch,
        ends_at l.gains l.bases l.lifts l.is_scaled bytes start stretch stretch (stretch + 1) stands.place waits
            scaled (λ there. waits.scaled (scaled there)) (λ there. omega arith) stands.scales,
        is_out ∙ ap (λ n. first_levels l.task (band_of l bytes) (start + n)) waits.first,
      )

  levels_made : (gains bases lifts : List ℕ) → 0 < l.task.plan.spectra
      → count * spectrum_bytes l.task.format ≤ held_bytes l.task.format l.held → l.is_scaled ≡ false
      → HeldScales l l.held count gains bases lifts → (bytes out : List ℕ) → Levels l bytes out
      → Levels (scheduled l gains bases lifts true count true) bytes out
  levels_made gains bases lifts some fits not_scaled scales bytes out (start, stretch, stands, is_out) =
      let waits = is_waiting l bytes start stretch stands goes_on none in
      let total = spectra_are l bytes start range stands.place in
      let short = few l start stretch range waits in
      let at_zero = waits.begins not_scaled in (
        start,
        0,
        ends_at gains bases lifts true bytes start stretch 0 0 stands.place waits
            (λ there. refl) (λ there. omega arith) (λ there. omega arith)
            (λ is_scaled. held_scales l bytes start 0 count gains bases lifts range stands.place (omega arith) fits
            (omega arith) scales),
        is_out ∙ ap (λ n. first_levels l.task (band_of l bytes) (start + n)) waits.first,
      )

  -- with the scales that are there
  pub ends_scaled : (m : Levelling) → m ≡ record l { first = 0; last = count; has_ended = true }
      → (0 < count → l.is_scaled ≡ true) → EndsAs l m
  ends_scaled m is scaled =
      subst (λ (x : Levelling). EndsAs l x) (sym is)
      record { task = refl; ended = refl; levels = levels_scaled scaled }

  -- with the scales of what is held, where there are none
  pub ends_made : (mid m : Levelling) → mid ≡ record l { first = 0; last = count; has_ended = true }
      → 0 < l.task.plan.spectra → count * spectrum_bytes l.task.format ≤ held_bytes l.task.format l.held
      → l.is_scaled ≡ false → Measures mid m count → EndsAs l m
  ends_made mid m is some fits not_scaled measures =
      let made = subst (λ (x : Levelling). Measures x m count) is measures in
      subst (λ (x : Levelling). EndsAs l x) (sym made.same)
      record {
        task = refl;
        ended = refl;
        levels = levels_made m.gains m.bases m.lifts some fits not_scaled made.scales;
      }
