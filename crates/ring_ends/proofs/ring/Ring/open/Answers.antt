use Rattle.std.proofs.Common.{◌≡◌, ◌<◌, ◌+◌, ℕ, List, Option, Some, unwrap_or, refl, sym, ap, ◌∙◌, subst, arith}
use Rattle.ring_words.specs.declared.seats.ReaderSeat.{ReaderSeat}
use Rattle.ring_words.specs.Seats.{IsFreshReader}
use Rattle.ring_ends.specs.declared.ring.Ring.{Ring}
use Rattle.ring_ends.specs.declared.passes.ReaderPass.{ReaderPass}
use Rattle.ring_ends.specs.Passes.{HasFreshPass}
use Rattle.ring_ends.proofs.Opening.{taken, passes_more, all_passes}
use Rattle.ring_ends.proofs.Rows.{left_over}
use Rattle.ring_ends.proofs.ring.Ring.open.Goals as goal

pub unreachable-requires : goal.unreachable-requires
unreachable-requires c = let n : ℕ = c.loop-number._number in let long = c.in_ok-words.ensures.count in
    let test = c.loop-number-test.true in
    let h = taken c.in_ok-words.words c.in_ok-words.seats.items c.loop-number.seats.items n c.remove.result
    (c.in_ok-words.ensures.readers n (omega arith)) c.loop-number.invariant.left c.remove.ensures.value in
    c.in_default.not-Some h.0 h.1

pub invariant_of-push : goal.invariant_of-push
invariant_of-push c = let n : ℕ = c.loop-number._number in let long = c.in_ok-words.ensures.count in
    let test = c.loop-number-test.true in
    let h = taken c.in_ok-words.words c.in_ok-words.seats.items c.loop-number.seats.items n c.remove.result
    (c.in_ok-words.ensures.readers n (omega arith)) c.loop-number.invariant.left c.remove.ensures.value in
    let one : h.0 ≡ c.in-Some.seat = ap (λ (o : Option ReaderSeat). unwrap_or o h.0) (sym h.1 ∙ c.in-Some.is) in
    let fresh : IsFreshReader c.in_ok-words.words n c.in-Some.seat = subst
    (IsFreshReader c.in_ok-words.words n) one h.3 in
    record { home = ap (λ r. r.out) fresh.1; registered = ap (λ r. r.retired) fresh.1; got = λ e. cc }

pub loop-number-preserved : goal.loop-number-preserved
loop-number-preserved c = let n : ℕ = c.loop-number._number in let long = c.in_ok-words.ensures.count in
    let test = c.loop-number-test.true in let now = c.loop-number.invariant in let pushed = c.push.ensures.items in
    let h = taken c.in_ok-words.words c.in_ok-words.seats.items c.loop-number.seats.items n c.remove.result
    (c.in_ok-words.ensures.readers n (omega arith)) now.left c.remove.ensures.value in
    let one : h.0 ≡ c.in-Some.seat = ap (λ (o : Option ReaderSeat). unwrap_or o h.0) (sym h.1 ∙ c.in-Some.is) in
    let fresh : IsFreshReader c.in_ok-words.words n c.in-Some.seat = subst
    (IsFreshReader c.in_ok-words.words n) one h.3 in
    let ring : Ring = record { words = c.in_ok-words.words } in let count = now.count in record {
      left = left_over c.in_ok-words.seats.items c.loop-number.seats.items c.remove.new.self.items n
          (Some h.0) h.2 now.left c.remove.ensures.items;
      count = c.push.ensures.len ∙ ap (λ (k : ℕ). k + 1) now.count;
      fresh = subst (λ (l : List (Option ReaderPass)). (i : ℕ) → i < n + 1 → HasFreshPass ring l i) (sym pushed)
          (passes_more ring c.loop-number.readers.items n _ now.count fresh.0 fresh.1 refl now.fresh);
    }

pub returns-clause-passes : goal.returns-clause-passes
returns-clause-passes c = let ring : Ring = record { words = c.in_ok-words.words } in
    let now = c.loop-number.invariant in let count = now.count in let test = c.loop-number-test.false in
    all_passes ring c.loop-number.readers.items (λ i near. now.fresh i (omega arith))
