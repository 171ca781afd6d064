-- What is held of a stretch, as its bytes come.
use Rattle.std.proofs.Common.{◌≡◌, ℕ, refl, ◌+◌, ◌-◌, ◌*◌, ◌<◌, ◌≤◌, ◌⊎◌, inl, inr, Bool, true, false, cond, ltb, eqb, List, [], ◌++◌, length, take, drop, slice_index, ◌∙◌, sym, ap, subst, arith, length-append, length-drop, append-nil, append_assoc}
use Rattle.std.proofs.Math.Nat.{mul-le-mul, mul-le-mul_right}
use Rattle.std.proofs.lemmas.Bool.{cases_lt, lt-ltb, true≢false}
use Rattle.std.proofs.lemmas.Bool.Decides.{nat_tests}
use Rattle.std.proofs.lemmas.List.{get_or_append_left, get_or-drop, get_or_past, drop-append-le, drop_all, take_all}
use Rattle.band_level.specs.declared.format.Format.{Format}
use Rattle.band_level.specs.Ranges.{FormatInRange}
use Rattle.band_level.specs.Values.{cells, spectrum_bytes, cell_value, most_value}
use Rattle.band_level.specs.declared.sums.Sums.{Sums}
use Rattle.band_level.specs.Holding.{Holding, AddsUp, HasSpectra, HeldFits, Holds, Puts, WritesRow, cleared, held_value, sums_of}
use Rattle.band_level.proofs.Values.{few_cells, some_bytes, cell_shift}

-- ---- sizes

one_more : (n size : ℕ) → (n + 1) * size ≡ n * size + size
one_more n size = omega arith

-- so many spectra before, and others behind them
pub behind : (count more t size : ℕ) → t ≡ count + more → count * size + more * size ≡ t * size
behind count more t size e = let both : (count + more) * size ≡ t * size = ap (λ n. n * size) (sym e) in omega arith

-- where so many don't fill the room, one more fits
one_fits : (count spectra size : ℕ) → count * size < spectra * size → count + 1 ≤ spectra
one_fits count spectra size short = elim (cases_lt count spectra) [
  | inl lt ↦ omega arith
  | inr ge ↦ let part : spectra * size ≤ count * size = mul-le-mul_right size ge in absurd (omega arith)
]

pub as_few : (a b size : ℕ) → 0 < size → a * size ≤ b * size → a ≤ b
as_few a b size some fits = elim (cases_lt b a) [
  | inl lt ↦
      let part : (b + 1) * size ≤ a * size = mul-le-mul_right size (let h : b + 1 ≤ a = omega arith in h) in
      absurd (omega (arith, one_more b size))
  | inr ge ↦ ge
]

-- ---- room

-- bytes that fill their place are those of one spectrum, and its sums have a place
pub record HasPlace (f : Format) (spectra count limit sums : ℕ) : Type 0 where
  pub one : limit ≡ spectrum_bytes f
  pub sums_long : sums ≡ spectra * cells f
  pub few : count + 1 ≤ spectra
  pub inside : count * cells f + cells f ≤ sums

module _ {f : Format} {spectra spectrum room count filled : ℕ} {sums : Sums} {bytes row : List ℕ}
    (held : HeldFits f spectra spectrum room count sums bytes filled row) where
  -- where the sums of a spectrum begin
  pub place_fits : (t : ℕ) → t ≤ count → t * cells f ≤ room
  place_fits t few =
      let part : t * cells f ≤ count * spectrum =
      mul-le-mul few (omega (arith, few_cells f held.in_range, held.spectrum_is)) in
      omega (arith, held.inside)

  all_bytes : spectra * spectrum ≡ spectra * spectrum_bytes f
  all_bytes = ap (λ n. spectra * n) held.spectrum_is

  pub has_place : count * spectrum + filled < room → filled ≡ length bytes
      → HasPlace f spectra count (length bytes) (length (sums_of sums))
  has_place short full = elim held.kind [
    | inl all ↦ absurd (omega (arith, all.0, all_bytes, held.room_is))
    | inr one ↦
        let few : count + 1 ≤ spectra = one_fits count spectra spectrum (omega (arith, held.room_is)) in
        let part : (count + 1) * cells f ≤ spectra * cells f = mul-le-mul_right (cells f) few in
        record { one = one.0; sums_long = one.1; few = few; inside = omega (arith, one.1, one_more count (cells f)) }
  ]

  -- what fits into its place fits into the room
  pub has_room : count * spectrum + filled < room → (n : ℕ) → filled + n ≤ length bytes
      → count * spectrum + (filled + n) ≤ room
  has_room short n fits = elim held.kind [
    | inl all ↦
        let none : count * spectrum ≡ 0 * spectrum = ap (λ k. k * spectrum) all.1 in
        omega (arith, all.0, all_bytes, held.room_is)
    | inr one ↦
        let few : count + 1 ≤ spectra = one_fits count spectra spectrum (omega (arith, held.room_is)) in
        let part : (count + 1) * spectrum ≤ spectra * spectrum = mul-le-mul_right spectrum few in
        omega (arith, one.0, held.spectrum_is, held.room_is, one_more count spectrum)
  ]

  -- a spectrum that was added up has its sums
  pub has_sums : (t : ℕ) → t < count → t * cells f + cells f ≤ length (sums_of sums)
  has_sums t lt = elim held.kind [
    | inl all ↦ absurd (omega (arith, all.1))
    | inr one ↦
        let few : count ≤ spectra = as_few count spectra spectrum
        (omega (arith, some_bytes f held.in_range, held.spectrum_is)) (omega (arith, held.inside, held.room_is)) in
        let part : (t + 1) * cells f ≤ spectra * cells f = mul-le-mul_right (cells f) (omega arith) in
        omega (arith, one.1, one_more t (cells f))
  ]

-- sums in 16 bits are those of bytes
pub narrow_for : (bits : ℕ) (b : Bool) → (bits ≡ 8) ⊎ (bits ≡ 16) → b ≡ eqb bits 16 → b ≡ false → bits ≡ 8
narrow_for bits b kind is narrow = elim kind [
  | inl e ↦ e
  | inr e ↦ let h : eqb bits 16 ≡ true = grind (arith, nat_tests) in absurd (true≢false (sym h ∙ sym is ∙ narrow))
]

-- ---- values

pub cell_more : (f : Format) (bytes more : List ℕ) (t i : ℕ) → FormatInRange f
    → (t + 1) * spectrum_bytes f ≤ length bytes → i < cells f
    → cell_value f bytes t i ≡ cell_value f (bytes ++ more) t i
cell_more f bytes more t i range fits here =
    cell_shift f bytes (bytes ++ more) 0 (length bytes) t t i range
    (λ k low. let e : k ≡ 0 + k = omega arith in
    sym (get_or_append_left bytes more 0 k low) ∙ ap (λ j. slice_index (bytes ++ more) j) e)
    (omega arith) fits here

pub cell_dropped : (f : Format) (bytes : List ℕ) (n t u i : ℕ) → FormatInRange f
    → n + t * spectrum_bytes f ≡ u * spectrum_bytes f → (t + 1) * spectrum_bytes f ≤ length (drop n bytes) → i < cells f
    → cell_value f (drop n bytes) t i ≡ cell_value f bytes u i
cell_dropped f bytes n t u i range at fits here =
    cell_shift f (drop n bytes) bytes n (length (drop n bytes)) t u i range (λ k low. get_or-drop n bytes k 0) at fits
    here

-- the value of a spectrum that was added up, and of one behind them
pub value_summed : (f : Format) (h : Holding) (t i : ℕ) → t < h.count
    → held_value f h t i ≡ slice_index h.sums (t * cells f + i)
value_summed f h t i lt =
    ap (λ b. cond b (slice_index h.sums (t * cells f + i)) (cell_value f h.bytes (t - h.count) i)) (lt-ltb t h.count lt)

pub value_behind : (f : Format) (h : Holding) (t i : ℕ) → h.count ≤ t
    → held_value f h t i ≡ cell_value f h.bytes (t - h.count) i
value_behind f h t i ge =
    let test : ltb t h.count ≡ false = grind (arith, nat_tests) in
    ap (λ b. cond b (slice_index h.sums (t * cells f + i)) (cell_value f h.bytes (t - h.count) i)) test

-- a row of sums is as small as they are
pub read_small : (f : Format) (row sums : List ℕ) (t count wide i : ℕ) → wide ≡ cells f → length row ≡ wide
    → t < count → ((k : ℕ) → k < count * cells f → slice_index sums k ≤ most_value f)
    → ((j : ℕ) → j < wide → slice_index row j ≡ slice_index sums (t * wide + j)) → slice_index row i ≤ most_value f
read_small f row sums t count wide i is long lt small reads = elim (cases_lt i wide) [
  | inl here ↦
      let part : (t + 1) * cells f ≤ count * cells f = mul-le-mul_right (cells f) (omega arith) in
      let at : t * wide ≡ t * cells f = ap (λ n. t * n) is in
      let last : t * wide + i < count * cells f = omega (arith, one_more t (cells f)) in
      omega (arith, reads i here, small (t * wide + i) last)
  | inr past ↦ omega (arith, get_or_past row i 0 (omega arith))
]

-- they are those of the bytes that came
pub held_is : (f : Format) (h : Holding) (bytes : List ℕ) (t i : ℕ) → FormatInRange f → Holds f h bytes
    → (t + 1) * spectrum_bytes f ≤ length bytes → i < cells f → held_value f h t i ≡ cell_value f bytes t i
held_is f h bytes t i range holds fits here = elim (cases_lt t h.count) [
  | inl lt ↦ value_summed f h t i lt ∙ holds.sums t i lt here
  | inr ge ↦
      let size = spectrum_bytes f in
      let at = behind h.count (t - h.count) t size (omega arith) in
      let next = behind h.count (t - h.count + 1) (t + 1) size (omega arith) in
      value_behind f h t i ge
      ∙ ap (λ xs. cell_value f xs (t - h.count) i) holds.rest
      ∙ cell_dropped f bytes (h.count * size) (t - h.count) t i range at
      (omega (arith, length-drop (h.count * size) bytes)) here
]

-- ---- pieces

pub puts_none : (f : Format) (h : Holding) → Puts f h h []
puts_none f h = record {
  format = refl;
  room = refl;
  size = omega arith;
  holds = λ bytes holds. subst (λ (xs : List ℕ). Holds f h xs) (sym (append-nil bytes)) holds;
}

pub puts_join : (f : Format) (h m n : Holding) (p q : List ℕ) → Puts f h m p → Puts f m n q → Puts f h n (p ++ q)
puts_join f h m n p q one two = record {
  format = two.format ∙ one.format;
  room = two.room ∙ one.room;
  size = omega (arith, one.size, two.size, length-append p q);
  holds = λ bytes holds.
      subst (λ (xs : List ℕ). Holds f n xs) (append_assoc bytes p q) (two.holds (bytes ++ p) (one.holds bytes holds));
}

pub puts_bytes : (f : Format) (h : Holding) (piece : List ℕ) → FormatInRange f
    → Puts f h (record h { bytes = h.bytes ++ piece }) piece
puts_bytes f h piece range = record {
  format = refl;
  room = refl;
  size = omega (arith, length-append h.bytes piece);
  holds = λ bytes holds.
      let size = holds.size in
      record {
        size = omega (arith, length-append h.bytes piece, length-append bytes piece);
        sums = λ t i lt here.
            let part : (t + 1) * spectrum_bytes f ≤ h.count * spectrum_bytes f = mul-le-mul_right _ (omega arith) in
            holds.sums t i lt here ∙ cell_more f bytes piece t i range (omega arith) here;
        rest = ap (λ xs. xs ++ piece) holds.rest ∙ sym (drop-append-le _ bytes piece (omega arith));
      };
}

-- ---- sums

-- a spectrum whose bytes are there is added up
sum_is : (h m : Holding) → FormatInRange h.format → AddsUp h m → (bytes : List ℕ) → Holds h.format h bytes → (t i : ℕ)
    → t < h.count + 1 → i < cells h.format
    → slice_index m.sums (t * cells h.format + i) ≡ cell_value h.format bytes t i
sum_is h m range adds bytes holds t i lt here = elim (cases_lt t h.count) [
  | inl earlier ↦
      let part : (t + 1) * cells h.format ≤ h.count * cells h.format = mul-le-mul_right _ (omega arith) in
      adds.before (t * cells h.format + i) (omega (arith, one_more t (cells h.format))) ∙ holds.sums t i earlier here
  | inr late ↦
      let n = h.count * spectrum_bytes h.format in
      let whole = adds.whole in
      let size = holds.size in
      let e : t ≡ h.count = omega arith in
      rw e (adds.row i here ∙ ap (λ xs. cell_value h.format xs 0 i) holds.rest
      ∙ cell_dropped h.format bytes n 0 h.count i range (omega arith) (omega (arith, length-drop n bytes)) here)
]

pub adds_puts : (h m : Holding) → FormatInRange h.format → AddsUp h m → Puts h.format h m []
adds_puts h m range adds =
    let whole = adds.whole in
    let more = one_more h.count (spectrum_bytes h.format) in
    subst (λ (x : Holding). Puts h.format h x []) (sym adds.same)
    record {
      format = refl;
      room = refl;
      size = omega arith;
      holds = λ bytes holds.
          let size = holds.size in
          rw append-nil record {
            size = omega arith;
            sums = sum_is h m range adds bytes holds;
            rest = sym (drop_all ((h.count + 1) * spectrum_bytes h.format) bytes (omega arith));
          };
    }

-- the sums of one spectrum more, written behind the others
module _ (f : Format) (at count : ℕ) (row sums sums' : List ℕ) (is_at : at ≡ count * cells f)
    (writes : WritesRow at row sums sums') (long : length row ≡ cells f) where
  pub adds_of : (room limit filled : ℕ) (bytes : List ℕ)
      → ((i : ℕ) → i < cells f → slice_index row i ≡ cell_value f bytes 0 i) → length bytes ≡ spectrum_bytes f
      → length bytes ≤ filled
      → AddsUp (record {
        format = f;
        room = room;
        limit = limit;
        count = count;
        sums = sums;
        bytes = take filled bytes;
      }) (record { format = f; room = room; limit = limit; count = count + 1; sums = sums'; bytes = [] })
  adds_of room limit filled bytes read whole full =
      let all : take filled bytes ≡ bytes = take_all filled bytes full in
      record {
        same = refl;
        whole = ap length all ∙ whole;
        before = λ k lt. writes.before k (omega arith);
        row = λ i lt. rw (← is_at, all) (writes.row i (omega arith) ∙ read i lt);
      }

  pub small_sums : ((k : ℕ) → k < count * cells f → slice_index sums k ≤ most_value f)
      → ((i : ℕ) → slice_index row i ≤ most_value f)
      → (k : ℕ) → k < (count + 1) * cells f → slice_index sums' k ≤ most_value f
  small_sums small row_small k lt = elim (cases_lt k (count * cells f)) [
    | inl earlier ↦ omega (arith, writes.before k (omega arith), small k earlier)
    | inr late ↦
        let e : at + (k - at) ≡ k = omega arith in
        let last : k - at < length row = omega (arith, one_more count (cells f)) in
        let is : slice_index sums' (at + (k - at)) ≡ slice_index row (k - at) = writes.row (k - at) last in
        subst (λ (j : ℕ). slice_index sums' j ≤ most_value f) e (omega (arith, is, row_small (k - at)))
  ]

-- ---- spectra that are held

pub has_fewer : (f : Format) (h : Holding) (m n : ℕ) → m ≤ n → HasSpectra f h n → HasSpectra f h m
has_fewer f h m n few has = record {
  same = has.same;
  inside =
      let part : m * spectrum_bytes f ≤ n * spectrum_bytes f = mul-le-mul_right _ few in
      let fits = has.inside in
      omega arith;
}

-- ---- nothing

pub holds_nothing : (f : Format) (h : Holding) → Holds f (cleared h) []
holds_nothing f h = let none : 0 * spectrum_bytes f ≡ 0 = omega arith in record {
  size = omega arith;
  sums = λ t i lt here. absurd (omega arith);
  rest = ap (λ n. drop n []) (sym none);
}
