-- Engines that were fed nothing.
use Rattle.std.proofs.Common.{◌≡◌, ℕ, ◌<◌, false, List, [], length, refl, sym, arith}
use Rattle.std.specs.Prelude.{nat_le, nat_lt}
use Rattle.std.proofs.lemmas.Bool.Decides.{nat_tests}
use Rattle.ring_blocks.specs.declared.Entry.{Entry}
use Rattle.stream_model.specs.Blocks.{ended_transfers, has_cut, is_over}
use Rattle.session_readers.specs.declared.bank.Bank.{Bank}
use Rattle.session_readers.specs.Banks.{engines_of}
use Rattle.search_session.specs.Stages.{IsUnfed}
use Rattle.session_readers.specs.Shards.{AreEnginesAt}
use Rattle.search_session.proofs.Engines.{nothing}

pub none_ended : ended_transfers [] ≡ 0
unfolding ended_transfers
none_ended = refl

no_cut : has_cut [] ≡ false
unfolding has_cut
no_cut = refl

pub not_below_zero : (k : ℕ) → nat_lt k 0 ≡ false
not_below_zero k = grind (arith, nat_tests)

not_most : (n : ℕ) → 0 < n → nat_le n 0 ≡ false
not_most n some = grind (arith, nat_tests)

not_over : (n : ℕ) → 0 < n → is_over n [] ≡ false
not_over n some = rw (none_ended, not_most n some) no_cut

-- engines that were fed nothing, where no block was cleared
pub unfed_at : (size transfers : ℕ) (xs : List Entry) (bank : Bank) → xs ≡ [] → IsUnfed transfers bank →
    AreEnginesAt size xs (engines_of bank)
unfed_at size transfers xs bank none unfed = λ k near.
    let count = unfed.count in
    let h = unfed.each k (omega arith) in
    let fed = h.2 in (
      h.0,
      h.1,
      record {
        ended = rw (none, none_ended, not_below_zero k) h.3;
        fed = rw (none, nothing k) h.2;
        most = omega arith;
      },
    )

pub unread_over : (transfers : ℕ) (xs : List Entry) (bank : Bank) → xs ≡ [] → 0 < transfers → IsUnfed transfers bank →
    false ≡ is_over (length (engines_of bank)) xs
unread_over transfers xs bank none some unfed =
    rw (none, unfed.count) (sym (not_over transfers some))

pub unread_done : (xs : List Entry) → xs ≡ [] → 0 ≡ ended_transfers xs
unread_done xs none = rw none (sym none_ended)
