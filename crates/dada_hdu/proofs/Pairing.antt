-- The readers of two rings become one, place by place.
use Rattle.std.proofs.Common.{◌≡◌, ℕ, ◌+◌, ◌<◌, List, [], ◌∷◌, ◌++◌, length, get_or, drop, remove, Option, Some, slice_get, subst, sym, ap, ◌∙◌, arith, length-append}
use mathlib.Core.Logic.{dite}
use native.Mathlib.Decide.{ℕ_discrete}
use Rattle.ring_ends.specs.declared.passes.ReaderPass.{ReaderPass}
use Rattle.dada_hdu.specs.declared.passes.HduReader.{HduReader}
use Rattle.dada_hdu.specs.Pairs.{reader_with, Pairs}
use Rattle.dada_hdu.proofs.Rows.{removed, left_over, longer, at_end}

module _ (headers blocks : List (Option ReaderPass)) where
  -- the first n of the readers
  pub record Pairing (n : ℕ) (headers' blocks' : List (Option ReaderPass)) (readers : List (Option HduReader))
      : Type 0 where
    pub headers_left : headers' ≡ drop n headers
    pub blocks_left : blocks' ≡ drop n blocks
    pub count : length readers ≡ n
    pub each : (i : ℕ) (h b : ReaderPass) → i < n → slice_get headers i ≡ Some (Some h) →
        slice_get blocks i ≡ Some (Some b) → slice_get readers i ≡ Some (Some (reader_with h b))

  pub pair_more : (headers' blocks' headers'' blocks'' : List (Option ReaderPass)) (n : ℕ)
      (readers readers' : List (Option HduReader)) (h0 b0 : Option ReaderPass) (r : Option HduReader) →
      n < length headers → n < length blocks → Pairing n headers' blocks' readers →
      h0 ≡ get_or headers' 0 h0 → headers'' ≡ remove headers' 0 →
      b0 ≡ get_or blocks' 0 b0 → blocks'' ≡ remove blocks' 0 →
      Pairs h0 b0 r → readers' ≡ readers ++ r ∷ [] → Pairing (n + 1) headers'' blocks'' readers'
  pair_more headers' blocks' headers'' blocks'' n readers readers' h0 b0 r in_headers in_blocks before h_is h_gone b_is
      b_gone pair pushed =
      let count = before.count in record {
        headers_left = left_over headers headers' headers'' n h0 in_headers before.headers_left h_gone;
        blocks_left = left_over blocks blocks' blocks'' n b0 in_blocks before.blocks_left b_gone;
        count = ap length pushed ∙ (length-append readers (r ∷ []) ∙ ap (λ (k : ℕ). k + 1) before.count);
        each = λ i h b near at_h at_b. subst (λ (l : List (Option HduReader)). slice_get l i
            ≡ Some (Some (reader_with h b))) (sym pushed) (dite (ℕ_discrete i n)
            (λ same.
            let place : length readers ≡ i = omega arith in
            at_end readers r i place ∙ ap Some (pair h b
            (removed headers headers' i (Some h) h0 at_h
            (before.headers_left ∙ ap (λ (k : ℕ). drop k headers) (sym same)) h_is)
            (removed blocks blocks' i (Some b) b0 at_b
            (before.blocks_left ∙ ap (λ (k : ℕ). drop k blocks) (sym same)) b_is)))
            (λ other. longer readers (r ∷ []) i (Some (reader_with h b))
            (before.each i h b (omega arith) at_h at_b)));
      }
