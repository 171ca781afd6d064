-- What an unpacker stands for.
use Rattle.std.proofs.Common.{◌≡◌, ℕ, refl, ◌+◌, ◌-◌, ◌*◌, ◌/◌, ◌%◌, ◌<◌, ◌≤◌, min, inl, inr, Bool, List, [], ◌++◌, length, take, drop, slice_index, ◌∙◌, sym, ap, subst, arith, length-append}
use Rattle.std.proofs.Math.Nat.{div-mul-le_self, le_of_mul-le-mul_right, mul-le-mul_right}
use Rattle.std.proofs.lemmas.Bool.{cases_lt}
use Rattle.std.proofs.lemmas.Nat.{le-div, div-mul-add, div_below, div-add-mod', mod_below}
use Rattle.std.proofs.Math.Seq.{take-add}
use Rattle.std.proofs.lemmas.List.{append_assoc, length-drop, length-take-le, take_all, take_rest, take-append-drop, drop_all, drop-append-le, get_or-take, get_or_append_left, get_or-append_right}
use Rattle.std.proofs.lemmas.List.FromFn.{length-map-range_with_len, get_or-map-range_with_len}
use Rattle.search_model.specs.Samples.{sample_bytes, sample_at}
use Rattle.spectra_rows.specs.Unpacking.{Unpacking, AreValues, HoldsBytes, OpenedAlike, StandsForBytes, Takes, spectrum_bytes, unpacked}
use Rattle.spectra_rows.specs.Cells.{Unpacks, channel_place}
use Rattle.spectra_rows.proofs.Alike.{sample_alike, some_bytes}
use Rattle.spectra_rows.proofs.Parts.{place_below}

-- the place of a sample lies within the spectra
pub within_spectra : (n t place count : ℕ) → place < n → t < count → t * n + place + 1 ≤ count * n
within_spectra n t place count here low =
    let next : t + 1 ≤ count = omega arith in
    let part : (t + 1) * n ≤ count * n = mul-le-mul_right n next in
    omega arith

-- and so do its bytes
pub within_bytes : (n s t place count limit : ℕ) → place < n → t < count → count * (n * s) ≤ limit
    → (t * n + place) * s + s ≤ limit
within_bytes n s t place count limit here low fits =
    let part : (t * n + place + 1) * s ≤ count * n * s =
    mul-le-mul_right s (within_spectra n t place count here low) in
    omega arith

-- ---- how many spectra

quotient_of : (q w r n : ℕ) → r < w → n ≡ q * w + r → n / w ≡ q
quotient_of q w r n small is = ap (λ x. x / w) is ∙ div-mul-add q w r small

-- bytes to samples to spectra
two_quotients : (q n s r length : ℕ) → 0 < s → r < n * s → length ≡ q * (n * s) + r → length / s / n ≡ q
two_quotients q n s r length some small is =
    let part = r / s in
    let split : r / s * s + r % s ≡ r = div-add-mod' r s in
    let rest : r % s < s = mod_below r s some in
    let below : part < n = div_below r s n some small in
    let samples : length / s ≡ q * n + part = quotient_of (q * n + part) s (r % s) length rest (omega arith) in
    ap (λ x. x / n) samples ∙ div-mul-add q n part below

-- ---- values of spectra

module _ (u : Unpacking) (values : AreValues u.nbit u.npol) where
  abbrev s : ℕ
  s = sample_bytes u.nbit u.npol

  abbrev place : ℕ → ℕ
  place c = channel_place u.channels u.is_falling c

  value_is : (bytes : List ℕ) (c t count : ℕ) → c < u.channels → t < count → count * spectrum_bytes u ≤ length bytes
      → (unpacked u bytes).value c t ≡ sample_at u.nbit u.npol bytes (t * u.channels + place c)
  value_is bytes c t count here low fits =
      let j = t * u.channels + place c in
      let inside = place_below u.channels u.is_falling c here in
      let room = within_bytes u.channels s t (place c) count (length bytes) inside low fits in
      let there : j + 1 ≤ length bytes / s = le-div (j + 1) (length bytes) s (some_bytes u.nbit u.npol values)
      (omega arith) in
      get_or-map-range_with_len (λ k. sample_at u.nbit u.npol bytes k) 0 (length bytes / s) j j 0 (omega arith)
      (omega arith)

  -- further bytes change no spectrum before
  value_before : (before piece : List ℕ) (c t count : ℕ) → c < u.channels → t < count
      → count * spectrum_bytes u ≤ length before
      → (unpacked u (before ++ piece)).value c t ≡ (unpacked u before).value c t
  value_before before piece c t count here low fits =
      let i = t * u.channels + place c in
      let inside = place_below u.channels u.is_falling c here in
      let both = length-append before piece in
      let room = within_bytes u.channels s t (place c) count (length before) inside low fits in
      value_is (before ++ piece) c t count here low (omega arith)
      ∙ sample_alike (before ++ piece) before i i u.nbit u.npol values
      (λ k lt. get_or_append_left before piece 0 (i * s + k) (omega arith))
      ∙ sym (value_is before c t count here low fits)

  -- the spectra of a piece stand behind whole spectra
  value_behind : (before piece : List ℕ) (gone c t count : ℕ) → c < u.channels → t < count
      → length before ≡ gone * spectrum_bytes u → count * spectrum_bytes u ≤ length piece
      → (unpacked u (before ++ piece)).value c (gone + t)
      ≡ sample_at u.nbit u.npol piece (t * u.channels + place c)
  value_behind before piece gone c t count here low long fits =
      let i = t * u.channels + place c in
      let j = (gone + t) * u.channels + place c in
      let inside = place_below u.channels u.is_falling c here in
      let both = length-append before piece in
      let room = within_bytes u.channels s t (place c) count (length piece) inside low fits in
      value_is (before ++ piece) c (gone + t) (gone + count) here (omega arith) (omega arith)
      ∙ sample_alike (before ++ piece) piece j i u.nbit u.npol values
      (λ k lt.
      let e : j * s + k - length before ≡ i * s + k = omega arith in
      get_or-append_right before piece (length before) (j * s + k) 0 refl (omega arith)
      ∙ ap (λ x. slice_index piece x) e)

  pub spectra_are : (bytes : List ℕ) (gone : ℕ) → HoldsBytes u bytes gone
      → (unpacked u bytes).spectra ≡ gone + u.whole
  spectra_are bytes gone holds =
      let size = holds.size in
      let short = holds.short in
      ap (λ x. x / u.channels)
      (length-map-range_with_len (λ k. sample_at u.nbit u.npol bytes k) 0 (length bytes / s))
      ∙ two_quotients (gone + u.whole) u.channels s (length u.part) (length bytes) (some_bytes u.nbit u.npol values)
      short size

-- ---- what calls take

pub takes_both : (u v w : Unpacking) (a b : List ℕ) → Takes u v a → Takes v w b → Takes u w (a ++ b)
takes_both u v w a b first second = record {
  alike = record {
    channels = second.alike.channels ∙ first.alike.channels;
    is_falling = second.alike.is_falling ∙ first.alike.is_falling;
    nbit = second.alike.nbit ∙ first.alike.nbit;
    npol = second.alike.npol ∙ first.alike.npol;
    chunk = second.alike.chunk ∙ first.alike.chunk;
    in_bytes = second.alike.in_bytes ∙ first.alike.in_bytes;
  };
  held =
      let one = first.held in
      let two = second.held in
      let both = length-append a b in
      omega arith;
  pieces = λ before gone stands.
      subst (λ (xs : List ℕ). StandsForBytes w xs gone) (append_assoc before a b)
      (second.pieces (before ++ a) gone (first.pieces before gone stands));
}

-- whatever it holds, an unpacker is opened as before
opened_alike : (u : Unpacking) (whole : ℕ) (part rows : List ℕ) →
    OpenedAlike (record u { whole = whole; part = part; rows = rows }) u
opened_alike u whole part rows = record {
  channels = refl;
  is_falling = refl;
  nbit = refl;
  npol = refl;
  chunk = refl;
  in_bytes = refl;
}

-- bytes that make no spectrum whole
pub takes_part : (u : Unpacking) (piece : List ℕ) → AreValues u.nbit u.npol
    → length u.part + length piece < spectrum_bytes u → Takes u (record u { part = u.part ++ piece }) piece
takes_part u piece values small =
    let long = length-append u.part piece in
    record {
      alike = opened_alike u u.whole (u.part ++ piece) u.rows;
      held = omega arith;
      pieces = λ before gone stands.
          let size = stands.size in
          let both = length-append before piece in
          let full : (gone + u.whole) * spectrum_bytes u ≤ length before = omega arith in
          record {
            size = omega arith;
            short = omega arith;
            part = ap (λ xs. xs ++ piece) stands.part
                ∙ sym (drop-append-le ((gone + u.whole) * spectrum_bytes u) before piece full);
            rows = λ c t here low. stands.rows c t here low
                ∙ sym (value_before u values before piece c (gone + t) (gone + u.whole) here (omega arith) full);
          };
    }

-- whole spectra, where no part of one is held
pub takes_spectra : (u : Unpacking) (piece rows : List ℕ) (count : ℕ) → AreValues u.nbit u.npol → u.part ≡ []
    → length piece ≡ count * spectrum_bytes u
    → Unpacks u.channels u.is_falling u.nbit u.npol u.chunk piece u.rows rows u.whole count
    → Takes u (record u { whole = u.whole + count; rows = rows }) piece
takes_spectra u piece rows count values none long unpacks =
    let empty : length u.part ≡ 0 = ap (λ (xs : List ℕ). length xs) none in
    record {
      alike = opened_alike u (u.whole + count) u.part rows;
      held = omega arith;
      pieces = λ before gone stands.
          let size = stands.size in
          let both = length-append before piece in
          let all : length before ≡ (gone + u.whole) * spectrum_bytes u = omega arith in
          record {
            size = omega arith;
            short = stands.short;
            part = none
                ∙ sym (drop_all ((gone + (u.whole + count)) * spectrum_bytes u) (before ++ piece) (omega arith));
            rows = λ c t here low. elim (cases_lt t u.whole) [
              | inl lt ↦ unpacks.before c t here lt ∙ stands.rows c t here lt
                  ∙ sym (value_before u values before piece c (gone + t) (gone + u.whole) here (omega arith)
                  (omega arith))
              | inr ge ↦
                  let i : ℕ = t - u.whole in
                  let at : c * u.chunk + t ≡ c * u.chunk + (u.whole + i) = omega arith in
                  let sum : gone + u.whole + i ≡ gone + t = omega arith in
                  ap (λ k. slice_index rows k) at ∙ unpacks.behind c i here (omega arith)
                  ∙ sym (value_behind u values before piece (gone + u.whole) c i count here (omega arith) all
                  (omega arith))
                  ∙ ap (λ k. (unpacked u (before ++ piece)).value c k) sum
            ];
          };
    }

-- the bytes that are missing in a spectrum, which is unpacked with the part that is held
pub completes : (u : Unpacking) (piece rows : List ℕ) → AreValues u.nbit u.npol
    → length u.part + length piece ≡ spectrum_bytes u
    → Unpacks u.channels u.is_falling u.nbit u.npol u.chunk (u.part ++ piece) u.rows rows u.whole 1
    → Takes u (record u { whole = u.whole + 1; part = []; rows = rows }) piece
completes u piece rows values full unpacks =
    let long = length-append u.part piece in
    let v : Unpacking = record u { part = [] } in
    let whole : Takes v (record u { whole = u.whole + 1; part = []; rows = rows }) (u.part ++ piece) =
    takes_spectra v (u.part ++ piece) rows 1 values refl (omega arith) unpacks in
    record {
      alike = opened_alike u (u.whole + 1) [] rows;
      held = omega arith;
      pieces = λ before gone stands.
          let size = stands.size in
          let q : ℕ = (gone + u.whole) * spectrum_bytes u in
          let front : List ℕ = take q before in
          let full : q ≤ length before = omega arith in
          let fits : length front ≡ q = length-take-le q before full in
          let cut : front ++ u.part ≡ before = ap (λ xs. front ++ xs) stands.part ∙ take-append-drop q before in
          let stood : StandsForBytes v front gone = record {
            size = omega arith;
            short = omega arith;
            part = sym (drop_all q front (omega arith));
            rows = λ c t here low. stands.rows c t here low
                ∙ ap (λ xs. (unpacked u xs).value c (gone + t)) (sym cut)
                ∙ value_before u values front u.part c (gone + t) (gone + u.whole) here (omega arith) (omega arith);
          } in
          subst (λ (xs : List ℕ). StandsForBytes (record u { whole = u.whole + 1; part = []; rows = rows }) xs gone)
          (sym (append_assoc front u.part piece) ∙ ap (λ xs. xs ++ piece) cut)
          (whole.pieces front gone stood);
    }

-- ---- pieces of bytes

pub rest_is : (i : ℕ) (bytes : List ℕ) → take (length bytes - i) (drop i bytes) ≡ drop i bytes
rest_is i bytes =
    let long = length-drop i bytes in
    take_all (length bytes - i) (drop i bytes) (omega arith)

-- three pieces, one behind the other
pub takes_three : (t u v w : Unpacking) (i j : ℕ) (bytes rest last : List ℕ) → Takes t u (take i bytes)
    → rest ≡ take (length bytes - i) (drop i bytes) → Takes u v (take j rest)
    → last ≡ take (length rest - j) (drop j rest) → Takes v w last → Takes t w bytes
takes_three t u v w i j bytes rest last first rest_of second last_of third =
    let two : take j rest ++ last ≡ drop i bytes =
    ap (λ xs. take j rest ++ xs) (last_of ∙ rest_is j rest) ∙ take-append-drop j rest ∙ rest_of ∙ rest_is i bytes in
    subst (λ (xs : List ℕ). Takes t w xs)
    (ap (λ xs. take i bytes ++ xs) two ∙ take-append-drop i bytes)
    (takes_both t u w (take i bytes) (take j rest ++ last) first
    (takes_both u v w (take j rest) last second third))

-- where the rows are right, the bytes are held
pub held : (u : Unpacking) (bytes : List ℕ) (gone : ℕ) → StandsForBytes u bytes gone → HoldsBytes u bytes gone
held u bytes gone stands = record {
  size = stands.size;
  short = stands.short;
  part = stands.part;
}

-- the whole spectra are given up
pub given_up : (u : Unpacking) (bytes : List ℕ) (gone : ℕ) → HoldsBytes u bytes gone
    → StandsForBytes (record u { whole = 0 }) bytes (gone + u.whole)
given_up u bytes gone holds =
    let sum : gone + u.whole ≡ gone + u.whole + 0 = omega arith in
    record {
      size = holds.size ∙ ap (λ n. n * spectrum_bytes u + length u.part) sum;
      short = holds.short;
      part = holds.part ∙ ap (λ n. drop (n * spectrum_bytes u) bytes) sum;
      rows = λ c t here low. absurd (omega arith);
    }

-- ---- what calls leave

-- a part that is kept with more bytes, of which there may be none
pub keeps_part : (u v : Unpacking) (piece more : List ℕ) → u ≡ v → AreValues u.nbit u.npol
    → length u.part < spectrum_bytes u → (0 < length piece → length v.part + length piece < spectrum_bytes v)
    → more ≡ u.part ++ piece → Takes v (record u { part = more }) piece
keeps_part u v piece more is values short small more_is =
    let fits : length u.part + length piece < spectrum_bytes u = elim (cases_lt 0 (length piece)) [
      | inl some ↦
          subst (λ (w : Unpacking). length w.part + length piece < spectrum_bytes w) (sym is) (small some)
      | inr none ↦ omega arith
    ] in
    subst (λ (w : Unpacking). Takes w (record u { part = more }) piece) is
    (subst (λ (xs : List ℕ). Takes u (record u { part = xs }) piece) (sym more_is) (takes_part u piece values fits))

-- a spectrum that a part and further bytes make
pub completes_part : (u v : Unpacking) (in_bytes : Bool) (piece full rows : List ℕ) → u ≡ v → in_bytes ≡ u.in_bytes
    → AreValues u.nbit u.npol → length v.part + length piece ≡ spectrum_bytes v → full ≡ u.part ++ piece
    → Unpacks u.channels u.is_falling u.nbit u.npol u.chunk full u.rows rows u.whole 1
    → Takes v (record u { in_bytes = in_bytes; whole = u.whole + 1; part = []; rows = rows }) piece
completes_part u v in_bytes piece full rows is kind values missing full_is unpacks =
    let New : Bool → Unpacking = λ b. record u { in_bytes = b; whole = u.whole + 1; part = []; rows = rows } in
    subst (λ (w : Unpacking). length w.part + length piece ≡ spectrum_bytes w → Takes w (New in_bytes) piece) is
    (λ here. subst (λ (b : Bool). Takes u (New b) piece) (sym kind) (completes u piece rows values here
    (subst (λ (xs : List ℕ). Unpacks u.channels u.is_falling u.nbit u.npol u.chunk xs u.rows rows u.whole 1) full_is
    unpacks)))
    missing

-- whole spectra at the front of bytes
pub leaves_spectra : (u v : Unpacking) (in_bytes : Bool) (bytes rows : List ℕ) (count spectrum : ℕ) → u ≡ v
    → in_bytes ≡ u.in_bytes → AreValues u.nbit u.npol → spectrum ≡ spectrum_bytes u → v.part ≡ []
    → count * spectrum ≤ length bytes
    → Unpacks u.channels u.is_falling u.nbit u.npol u.chunk bytes u.rows rows u.whole count
    → Takes v (record u { in_bytes = in_bytes; whole = u.whole + count; rows = rows }) (take (count * spectrum) bytes)
leaves_spectra u v in_bytes bytes rows count spectrum is kind values size none fits unpacks =
    let New : Bool → Unpacking = λ b. record u { in_bytes = b; whole = u.whole + count; rows = rows } in
    let piece : List ℕ = take (count * spectrum) bytes in
    let long : length piece ≡ count * spectrum = length-take-le (count * spectrum) bytes fits in
    let all : length piece ≡ count * spectrum_bytes u = long ∙ ap (λ n. count * n) size in
    subst (λ (w : Unpacking). w.part ≡ [] → Takes w (New in_bytes) piece) is
    (λ empty. subst (λ (b : Bool). Takes u (New b) piece) (sym kind) (takes_spectra u piece rows count values empty all
    record {
      before = unpacks.before;
      behind = λ c t here low.
          let s = sample_bytes u.nbit u.npol in
          let i = t * u.channels + channel_place u.channels u.is_falling c in
          let inside = place_below u.channels u.is_falling c here in
          let room = within_bytes u.channels s t (channel_place u.channels u.is_falling c) count (length piece) inside
          low (omega arith) in
          unpacks.behind c t here low
          ∙ sample_alike bytes piece i i u.nbit u.npol values
          (λ k lt. sym (get_or-take (count * spectrum) bytes (i * s + k) 0 (omega arith)));
    }))
    none

-- as many spectra as are unpacked at a time lie within the bytes
pub group_within : (count most long spectrum : ℕ) → count ≡ min most (long / spectrum) → count * spectrum ≤ long
group_within count most long spectrum is =
    let few : count ≤ long / spectrum = omega arith in
    let part : count * spectrum ≤ long / spectrum * spectrum = mul-le-mul_right spectrum few in
    let all : long / spectrum * spectrum ≤ long = div-mul-le_self long spectrum in
    omega arith

-- a group more
pub takes_more : (t u v : Unpacking) (done n : ℕ) (bytes : List ℕ) → Takes t u (take done bytes)
    → Takes u v (take n (take (length bytes - done) (drop done bytes))) → Takes t v (take (done + n) bytes)
takes_more t u v done n bytes first second =
    subst (λ (xs : List ℕ). Takes t v xs)
    (ap (λ (rest : List ℕ). take done bytes ++ take n rest) (take_rest bytes done) ∙ sym (take-add done n bytes))
    (takes_both t u v (take done bytes) (take n (take (length bytes - done) (drop done bytes))) first second)

-- where so many spectra fit, no more than a chunk are held
pub still_room : (spectrum chunk ready filled count long : ℕ) → 0 < spectrum
    → ready * spectrum + filled + long ≤ chunk * spectrum → count * spectrum ≤ long → ready + count ≤ chunk
still_room spectrum chunk ready filled count long some room fits =
    let all : (ready + count) * spectrum ≤ chunk * spectrum = omega arith in
    le_of_mul-le-mul_right all some

-- bytes behind whole spectra make none, and there are none where a part of one is held
pub short_rest : (u v : Unpacking) (i j : ℕ) (bytes rest last : List ℕ) → OpenedAlike v u
    → rest ≡ take (length bytes - i) (drop i bytes) → last ≡ take (length rest - j) (drop j rest)
    → length rest < j + spectrum_bytes u → (0 < length rest → v.part ≡ []) → 0 < length last
    → length v.part + length last < spectrum_bytes v
short_rest u v i j bytes rest last alike rest_of last_of small none some =
    let long : length last ≡ length rest - j = ap (λ (xs : List ℕ). length xs) (last_of ∙ rest_is j rest)
    ∙ length-drop j rest in
    let empty : length v.part ≡ 0 = ap (λ (xs : List ℕ). length xs) (none (omega arith)) in
    let same : spectrum_bytes v ≡ spectrum_bytes u =
    ap (λ n. n * sample_bytes v.nbit v.npol) alike.channels
    ∙ ap (λ n. u.channels * sample_bytes n v.npol) alike.nbit
    ∙ ap (λ n. u.channels * sample_bytes u.nbit n) alike.npol in
    omega arith
