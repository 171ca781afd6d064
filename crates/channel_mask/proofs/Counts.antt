-- The kept cells in parts of the band.
use Rattle.std.proofs.Common.{◌≡◌, ℕ, zero, suc, ◌+◌, ◌-◌, ◌<◌, ◌≤◌, true, false, Bool, List, [], ◌∷◌, ◌++◌, length, length-append, map, sum, sum_by, slice_index, get_or, refl, sym, ap, subst, ◌∙◌, inl, inr, arith}
use Rattle.std.specs.Prelude.{if◌then◌else◌}
use Rattle.std.specs.List.{range_with_len}
use Rattle.std.proofs.Math.Path.{fun_ext}
use Rattle.std.proofs.Math.ListN.{get_or-append}
use Rattle.std.proofs.lemmas.Bool.{cases_lt, le-ltb}
use Rattle.std.proofs.lemmas.List.{get_or_read, get_or-append_right}
use Rattle.dada_model.specs.Bounds.{most_delay}
use Rattle.dada_model.specs.Edges.{AreEdges}
use Rattle.band_paths.specs.Edges.{channels_of}
use Rattle.search_model.specs.Masks.{kept_cells}
use Rattle.search_model.specs.MaskLaws.{PathSumsCountCells}
use Rattle.search_model.specs.Paths.{middle, split_at}
use Rattle.search_model.specs.Subbands.{node_path, node_sum}
use Rattle.search_model.specs.SubbandLaws.{HalvesAdd, OneChannelAdds, OneChannelIsItsSample, WholeBandIsPathSum}
use Rattle.search_model.specs.Sums.{between}
use Rattle.search_engine.specs.Scope.{kept_by}
use Rattle.subband_plan.specs.declared.nodes.Node.{Node}
use Rattle.subband_plan.specs.NodeLaws.{AskedRowsAreThere}
use Rattle.subband_plan.specs.Nodes.{split_of}
use Rattle.channel_mask.specs.Counting.{AreCounts, IsCount, marks_bank, part_cells}

-- ---- sums over spectra that are all alike

module _ (edges : List ℕ) (mask : List Bool) where
  abbrev cells : ℕ → ℕ → ℕ → ℕ
  cells lo hi d = part_cells edges mask lo hi d

  abbrev mark : ℕ → ℕ
  mark c = if kept_by mask c then 1 else 0

  -- all cells of a path that begins within the data have the mark of their channel
  marks_sum : (lo hi d u late : ℕ) → d + late ≤ u →
      node_sum (marks_bank mask) edges lo hi d u late
      ≡ sum_by (λ c. sum (map (λ k. mark c) (between (node_path edges lo hi d c) (node_path edges lo hi d (c + 1)))))
      (range_with_len lo (hi - lo))
  marks_sum lo hi d u late within =
      let e : ℕ → ℕ = node_path edges lo hi d in
      ap (λ (g : ℕ → ℕ → ℕ). sum_by (λ c. sum (map (g c) (between (e c) (e (c + 1))))) (range_with_len lo (hi - lo)))
      (fun_ext (λ c. fun_ext (λ k. ap (λ (b : Bool). if b then 0 else mark c)
      (le-ltb (u + k) (d + late) (omega arith)))))

  -- so it doesn't matter where it ends
  ends_anywhere : (lo hi d u late : ℕ) → d + late ≤ u →
      node_sum (marks_bank mask) edges lo hi d u late ≡ cells lo hi d
  unfolding part_cells
  ends_anywhere lo hi d u late within = marks_sum lo hi d u late within ∙ sym (marks_sum lo hi d d 0 (omega arith))

  -- ---- lists of counts

  pub none_counted : (lo hi : ℕ) → AreCounts edges mask lo hi 0 []
  none_counted lo hi = record { entries = refl; each = λ d less. absurd (omega arith) }

  pub count_more : (lo hi n count : ℕ) (counts : List ℕ) → AreCounts edges mask lo hi n counts →
      IsCount edges mask lo hi n count → AreCounts edges mask lo hi (n + 1) (counts ++ count ∷ [])
  count_more lo hi n count counts before is =
      let entries = before.entries in
      record {
        entries = let more = length-append counts (count ∷ []) in omega arith;
        each = λ d less. elim (cases_lt d n) [
          | inl early ↦ subst (λ x. IsCount edges mask lo hi d x)
              (sym (get_or-append counts (count ∷ []) 0 d (omega arith))) (before.each d early)
          | inr late ↦
              let last : d ≡ n = omega arith in
              let at : slice_index (counts ++ count ∷ []) d ≡ count =
              get_or-append_right counts (count ∷ []) n d 0 entries late
              ∙ ap (λ k. slice_index (count ∷ []) k) (let none : d - n ≡ 0 = omega arith in none) in
              subst (λ x. IsCount edges mask lo hi d x) (sym at)
              (subst (λ k. IsCount edges mask lo hi k count) (sym last) is)
        ];
      }

  module _ (band : AreEdges (length mask) edges) where
    halves_cells : HalvesAdd → (lo hi d : ℕ) → lo + 2 ≤ hi → hi ≤ length mask → split_at edges lo hi d ≤ d →
        cells lo hi d ≡ cells lo (middle lo hi) (split_at edges lo hi d)
        + cells (middle lo hi) hi (d - split_at edges lo hi d)
    halves_cells add lo hi d two within part =
        let s : ℕ = split_at edges lo hi d in
        let m : ℕ = middle lo hi in
        sym (ends_anywhere lo hi d d 0 (omega arith))
        ∙ add (marks_bank mask) edges (length mask) lo hi d d 0 band two within
        ∙ ap (λ n. n + node_sum (marks_bank mask) edges m hi (d - s) d 0)
        (ends_anywhere lo m s d (0 + (d - s)) (omega arith))
        ∙ ap (λ n. cells lo m s + n) (ends_anywhere m hi (d - s) d 0 (omega arith))

    first_cells : OneChannelIsItsSample → (c : ℕ) → c < length mask → cells c (c + 1) 0 ≡ mark c
    first_cells sample c within =
        sym (ends_anywhere c (c + 1) 0 0 0 (omega arith))
        ∙ sample (marks_bank mask) edges (length mask) c 0 0 band within (omega arith)

    more_cells : OneChannelAdds → (c d : ℕ) → c < length mask →
        cells c (c + 1) (d + 1) ≡ cells c (c + 1) 0 + cells c (c + 1) d
    more_cells adds c d within =
        sym (ends_anywhere c (c + 1) (d + 1) (d + 1) 0 (omega arith))
        ∙ adds (marks_bank mask) edges (length mask) c d (d + 1) 0 band within
        ∙ ap (λ n. n + node_sum (marks_bank mask) edges c (c + 1) d (d + 1) 0)
        (ends_anywhere c (c + 1) 0 (d + 1) (0 + (d + 1)) (omega arith))
        ∙ ap (λ n. cells c (c + 1) 0 + n) (ends_anywhere c (c + 1) d (d + 1) 0 (omega arith))

    one_more : (b : Bool) (d : ℕ) → (if b then 1 else 0) + (if b then d + 1 else 0) ≡ (if b then d + 1 + 1 else 0)
    one_more true d = omega arith
    one_more false d = refl

    channel_cells : OneChannelAdds → OneChannelIsItsSample → (c d : ℕ) → c < length mask →
        cells c (c + 1) d ≡ (if kept_by mask c then d + 1 else 0)
    channel_cells adds sample c zero within = first_cells sample c within
    channel_cells adds sample c (suc d) within =
        let next : suc d ≡ d + 1 = omega arith in
        rw next (more_cells adds c d within
        ∙ ap (λ n. n + cells c (c + 1) d) (first_cells sample c within)
        ∙ ap (λ n. mark c + n) (channel_cells adds sample c d within) ∙ one_more (kept_by mask c) d)

    -- ---- counts

    pub channel_count : OneChannelAdds → OneChannelIsItsSample → (c d count : ℕ) → c < length mask →
        count ≡ (if kept_by mask c then d + 1 else 0) → IsCount edges mask c (c + 1) d count
    channel_count adds sample c d count within is = record {
      is = is ∙ sym (channel_cells adds sample c d within);
      few = subst (λ n. n ≤ c + 1 - c + d) (sym is) (few (kept_by mask c));
    }
      where
        few : (b : Bool) → (if b then d + 1 else 0) ≤ c + 1 - c + d
        few true = omega arith
        few false = omega arith

    -- the counts of both halves that make up that of delay d, whose part s lies in the upper half
    pub record AreHalves (lo hi d s : ℕ) (upper lower : List ℕ) : Type 0 where
      pub upper_there : s < length upper
      pub lower_there : d - s < length lower
      pub sum : (x y : ℕ) → x ≡ get_or upper s x → y ≡ get_or lower (d - s) y → IsCount edges mask lo hi d (x + y)

    pub are_halves : HalvesAdd → AskedRowsAreThere → (lo hi last : ℕ) → lo + 2 ≤ hi → hi ≤ length mask →
        last ≤ most_delay → (above : ℕ) → above ≡ split_at edges lo hi last → (upper lower : List ℕ) →
        AreCounts edges mask lo (middle lo hi) (above + 1) upper →
        AreCounts edges mask (middle lo hi) hi (last - above + 1) lower → (d s : ℕ) → d < last + 1 →
        s ≡ split_at edges lo hi d → AreHalves lo hi d s upper lower
    unfolding split_of
    are_halves add asked lo hi last two within short above above_is upper lower upper_are lower_are d s early s_is =
        let n : Node = record { lo = lo; hi = hi; first_row = 0; last_row = last; tail = 0 } in
        let count = band.count in
        let same : length mask ≡ channels_of edges = omega arith in
        let has = asked edges n d (subst (λ k. AreEdges k edges) same band)
        (record { some = omega arith; within = omega arith; rows = omega arith; few = short }) two
        (record { least = omega arith; most = omega arith }) in
        let part : split_at edges lo hi d ≤ d = has.part in
        let most : split_at edges lo hi d ≤ split_at edges lo hi last = has.upper.most in
        let left : d - split_at edges lo hi d ≤ last - split_at edges lo hi last = has.lower.most in
        let upper_entries = upper_are.entries in
        let lower_entries = lower_are.entries in
        let m : ℕ = middle lo hi in
        let first : s < above + 1 = omega arith in
        let rest : d - s < last - above + 1 = omega arith in
        let one = upper_are.each s first in
        let other = lower_are.each (d - s) rest in
        let upper_few = one.few in
        let lower_few = other.few in
        record {
          upper_there = omega arith;
          lower_there = omega arith;
          sum = λ x y x_is y_is.
              let x_read = get_or_read upper s x (omega arith) x_is 0 in
              let y_read = get_or_read lower (d - s) y (omega arith) y_is 0 in
              record {
                is = ap (λ k. k + y) (x_read ∙ one.is) ∙ ap (λ k. cells lo m s + k) (y_read ∙ other.is)
                    ∙ ap (λ k. cells lo m k + cells m hi (d - k)) s_is ∙ sym (halves_cells add lo hi d two within part);
                few = omega arith;
              };
        }

    -- ---- delays of the whole band

    pub delay_counted : WholeBandIsPathSum → PathSumsCountCells → (n : ℕ) (counts : List ℕ) →
        AreCounts edges mask 0 (length mask) n counts → (d : ℕ) → d < n →
        slice_index counts d ≡ kept_cells (kept_by mask) edges (length mask) d
    delay_counted whole law n counts counted d below =
        (counted.each d below).is ∙ sym (ends_anywhere 0 (length mask) d d 0 (omega arith))
        ∙ whole (marks_bank mask) edges d d 0 band
        ∙ law (marks_bank mask) edges (kept_by mask) d d 0 band (omega arith) (λ c t small early. refl)
