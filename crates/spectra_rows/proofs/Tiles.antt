-- Sixteen vectors that are interleaved half by half.
use Rattle.std.proofs.Common.{◌≡◌, ℕ, zero, suc, ◌+◌, ◌-◌, ◌*◌, ◌/◌, ◌%◌, ◌<◌, ◌≤◌, inl, inr, List, ◌∷◌, [], ◌++◌, length, slice_index, get_or, map, ◌∙◌, ap, subst, arith}
use Rattle.std.proofs.lemmas.Bool.{cases_lt}
use Rattle.std.proofs.lemmas.List.{get_or_append_left, get_or-append_right}
use Rattle.std.proofs.lemmas.List.FromFn.{get_or-map-range_with_len}
use Rattle.std.proofs.lemmas.Simd.{get_or-chunk, length-chunk}
use Rattle.std.proofs.Math.Nat.{mul-le-mul_right}
use Rattle.std.specs.List.{range_with_len}
use Rattle.std.specs.Simd.Lanes.{chunk}
use Rattle.spectra_rows.specs.Cells.{WritesCells, lane}
use Rattle.spectra_rows.proofs.Parts.{same_values, more_places}

-- the vectors that are made of the first eight and the last eight
abbrev pub interleaved : List (List ℕ) → List (List ℕ)
interleaved tile = map (λ i. map (λ j. get_or (get_or tile (i / 2) [] ++ get_or tile (8 + i / 2) [])
    (8 * (i % 2 + j / 16) + (j / 2 + 32 * (j % 2))) 0) (range_with_len 0 32)) (range_with_len 0 16)

-- value j of vector i of those
value_of : (tile : List (List ℕ)) (i j : ℕ) → i < 16 → j < 32
    → slice_index (get_or (interleaved tile) i []) j
    ≡ get_or (get_or tile (i / 2) [] ++ get_or tile (8 + i / 2) []) (8 * (i % 2 + j / 16) + (j / 2 + 32 * (j % 2))) 0
value_of tile i j lt small =
    ap (λ v. slice_index v j) (get_or-map-range_with_len (λ i. map (λ j. get_or (get_or tile (i / 2) []
    ++ get_or tile (8 + i / 2) []) (8 * (i % 2 + j / 16) + (j / 2 + 32 * (j % 2))) 0) (range_with_len 0 32)) 0 16 i i []
    lt (omega arith))
    ∙ get_or-map-range_with_len (λ j. get_or (get_or tile (i / 2) [] ++ get_or tile (8 + i / 2) [])
    (8 * (i % 2 + j / 16) + (j / 2 + 32 * (j % 2))) 0) 0 32 j j 0 small (omega arith)

pub halves : (tile : List (List ℕ)) → ((i : ℕ) → i < 16 → length (get_or tile i []) ≡ 32)
    → (h k : ℕ) → h < 2 → k < 256 → lane h (interleaved tile) k ≡ lane h tile (k / 2 + 128 * (k % 2))
halves tile wide h k low lt =
    let i : ℕ = k / 16 in
    let j : ℕ = 16 * h + k % 16 in
    let p : ℕ = 16 * h + (8 * (i % 2) + k % 16 / 2) in
    let first : List ℕ = get_or tile (i / 2) [] in
    let second : List ℕ = get_or tile (8 + i / 2) [] in
    let long : length first ≡ 32 = wide (i / 2) (omega arith) in
    value_of tile i j (omega arith) (omega arith)
    ∙ elim (cases_lt (j % 2) 1) [
      | inl even ↦
          let at : 8 * (i % 2 + j / 16) + (j / 2 + 32 * (j % 2)) ≡ p = omega arith in
          let here : i / 2 ≡ (k / 2 + 128 * (k % 2)) / 16 = omega arith in
          let place : p ≡ 16 * h + (k / 2 + 128 * (k % 2)) % 16 = omega arith in
          ap (λ n. get_or (first ++ second) n 0) at ∙ get_or_append_left first second 0 p (omega arith)
          ∙ ap (λ n. slice_index (get_or tile n []) p) here
          ∙ ap (λ n. slice_index (get_or tile ((k / 2 + 128 * (k % 2)) / 16) []) n) place
      | inr odd ↦
          let at : 8 * (i % 2 + j / 16) + (j / 2 + 32 * (j % 2)) ≡ 32 + p = omega arith in
          let here : 8 + i / 2 ≡ (k / 2 + 128 * (k % 2)) / 16 = omega arith in
          let place : 32 + p - 32 ≡ 16 * h + (k / 2 + 128 * (k % 2)) % 16 = omega arith in
          ap (λ n. get_or (first ++ second) n 0) at
          ∙ get_or-append_right first second 32 (32 + p) 0 long (omega arith)
          ∙ ap (λ n. slice_index (get_or tile n []) (32 + p - 32)) here
          ∙ ap (λ n. slice_index (get_or tile ((k / 2 + 128 * (k % 2)) / 16) []) n) place
    ]

-- 32 bytes of each of sixteen spectra
abbrev pub spectra : List ℕ → ℕ → ℕ → List (List ℕ)
spectra bytes at n = chunk at 32 bytes ∷ chunk (at + n) 32 bytes
    ∷ map (λ s. chunk (at + s * n) 32 bytes) (range_with_len 2 14)

spectrum_is : (bytes : List ℕ) (at n s : ℕ) → s < 16 → get_or (spectra bytes at n) s [] ≡ chunk (at + s * n) 32 bytes
spectrum_is bytes at n zero lt = ap (λ i. chunk i 32 bytes) (omega arith)
spectrum_is bytes at n (suc zero) lt = ap (λ i. chunk i 32 bytes) (omega arith)
spectrum_is bytes at n (suc (suc s)) lt =
    get_or-map-range_with_len (λ t. chunk (at + t * n) 32 bytes) 2 14 s (suc (suc s)) [] (omega arith) (omega arith)

place_fits : (at n s : ℕ) (room : ℕ) → s < 16 → at + 15 * n + 32 ≤ room → at + s * n + 32 ≤ room
place_fits at n s room lt fits =
    let most : s ≤ 15 = omega arith in
    let part : s * n ≤ 15 * n = mul-le-mul_right n most in
    omega arith

pub spectra_wide : (bytes : List ℕ) (at n : ℕ) → at + 15 * n + 32 ≤ length bytes
    → (s : ℕ) → s < 16 → length (get_or (spectra bytes at n) s []) ≡ 32
spectra_wide bytes at n fits s lt =
    ap length (spectrum_is bytes at n s lt)
    ∙ length-chunk (at + s * n) 32 bytes (place_fits at n s (length bytes) lt fits)

-- four times interleaved, the bytes of a channel stand together
pub turned : (bytes : List ℕ) (at n : ℕ) (once twice thrice last : List (List ℕ))
    → ((h k : ℕ) → h < 2 → k < 256 → lane h once k ≡ lane h (spectra bytes at n) (k / 2 + 128 * (k % 2)))
    → ((h k : ℕ) → h < 2 → k < 256 → lane h twice k ≡ lane h once (k / 2 + 128 * (k % 2)))
    → ((h k : ℕ) → h < 2 → k < 256 → lane h thrice k ≡ lane h twice (k / 2 + 128 * (k % 2)))
    → ((h k : ℕ) → h < 2 → k < 256 → lane h last k ≡ lane h thrice (k / 2 + 128 * (k % 2)))
    → (h c s : ℕ) → h < 2 → c < 16 → s < 16 → lane h last (16 * c + s) ≡ slice_index bytes (at + s * n + 16 * h + c)
turned bytes at n once twice thrice last first second third fourth h c s side low lt =
    let x : ℕ = 16 * c + s in
    let y : ℕ = x / 2 + 128 * (x % 2) in
    let z : ℕ = y / 2 + 128 * (y % 2) in
    let w : ℕ = z / 2 + 128 * (z % 2) in
    let p : ℕ = w / 2 + 128 * (w % 2) in
    let here : p / 16 ≡ s = omega arith in
    let place : 16 * h + p % 16 ≡ 16 * h + c = omega arith in
    fourth h x side (omega arith) ∙ third h y side (omega arith) ∙ second h z side (omega arith)
    ∙ first h w side (omega arith)
    ∙ ap (λ i. slice_index (get_or (spectra bytes at n) i []) (16 * h + p % 16)) here
    ∙ ap (λ i. slice_index (get_or (spectra bytes at n) s []) i) place
    ∙ ap (λ v. slice_index v (16 * h + c)) (spectrum_is bytes at n s lt)
    ∙ get_or-chunk (at + s * n) 32 bytes (16 * h + c) 0 (omega arith)
    ∙ ap (λ i. slice_index bytes i) (omega arith)

-- ---- writing

-- sixteen lanes of a vector
abbrev pub half : List ℕ → ℕ → List ℕ
half vector start = map (λ j. get_or (vector ++ vector) (start + j) 0) (range_with_len 0 16)

half_is : (vector : List ℕ) (start j : ℕ) → length vector ≡ 32 → start ≤ 16 → j < 16
    → slice_index (half vector start) j ≡ slice_index vector (start + j)
half_is vector start j long low lt =
    get_or-map-range_with_len (λ j. get_or (vector ++ vector) (start + j) 0) 0 16 j j 0 lt (omega arith)
    ∙ get_or_append_left vector vector 0 (start + j) (omega arith)

-- the bytes of channel c of half h of a tile
channel_is : (tile : List (List ℕ)) (bytes : List ℕ) (n place from h c : ℕ)
    → ((i : ℕ) → i < 16 → length (get_or tile i []) ≡ 32)
    → ((h c s : ℕ) → h < 2 → c < 16 → s < 16
    → lane h tile (16 * c + s) ≡ slice_index bytes (from * n + place + s * n + 16 * h + c))
    → (p t : ℕ) → h < 2 → c < 16 → p ≡ place + 16 * h + c → from ≤ t → t < from + 16
    → slice_index (half (get_or tile c []) (16 * h)) (t - from) ≡ slice_index bytes (t * n + p)
channel_is tile bytes n place from h c wide turn p t side low here after before =
    let s : ℕ = t - from in
    let vector : ℕ = (16 * c + s) / 16 in
    let same : c ≡ vector = omega arith in
    let at : 16 * h + s ≡ 16 * h + (16 * c + s) % 16 = omega arith in
    let sum : s + from ≡ t = omega arith in
    let part : (s + from) * n ≡ t * n = ap (λ i. i * n) sum in
    half_is (get_or tile c []) (16 * h) s (wide c low) (omega arith) (omega arith)
    ∙ ap (λ i. slice_index (get_or tile i []) (16 * h + s)) same
    ∙ ap (λ i. slice_index (get_or tile vector []) i) at
    ∙ turn h c s side low (omega arith)
    ∙ ap (λ i. slice_index bytes i) (omega arith)

-- one channel of a tile more, where the half's channels begin at place `start`
pub tile_more : (row : ℕ → ℕ) (channels chunk place from start h c : ℕ) (tile : List (List ℕ))
    (bytes old mid new : List ℕ)
    → ((i : ℕ) → i < 16 → length (get_or tile i []) ≡ 32)
    → ((h c s : ℕ) → h < 2 → c < 16 → s < 16
    → lane h tile (16 * c + s) ≡ slice_index bytes (from * channels + place + s * channels + 16 * h + c))
    → start ≡ place + 16 * h → h < 2 → c < 16 → from + 16 ≤ chunk
    → WritesCells old mid row channels chunk place (start + c) from (from + 16)
    (λ p t. slice_index bytes (t * channels + p))
    → WritesCells mid new row channels chunk (start + c) (start + c + 1) from (from + 16)
    (λ p t. slice_index (half (get_or tile c []) (16 * h)) (t - from))
    → WritesCells old new row channels chunk place (start + (c + 1)) from (from + 16)
    (λ p t. slice_index bytes (t * channels + p))
tile_more row channels chunk place from start h c tile bytes old mid new wide turn begins side low fits first second =
    let value : ℕ → ℕ → ℕ = λ p t. slice_index bytes (t * channels + p) in
    let end : start + c + 1 ≡ start + (c + 1) = omega arith in
    subst (λ (hi : ℕ). WritesCells old new row channels chunk place hi from (from + 16) value) end
    (more_places row channels chunk value old mid new place (start + c) (start + c + 1) from (from + 16) (omega arith)
    fits first
    (same_values row channels chunk value mid new (start + c) (start + c + 1) from (from + 16) _ second
    (λ p t least most after before.
    channel_is tile bytes channels place from h c wide turn p t side low (omega arith) after before)))
