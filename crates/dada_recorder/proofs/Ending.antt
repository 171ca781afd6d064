-- Where a recorder is once a block ended a transfer, or the stream.
use Rattle.std.proofs.Common.{◌≡◌, ◌≢◌, ℕ, ◌+◌, ◌-◌, ◌^◌, ◌<◌, false, List, [], ◌∷◌, ◌++◌, length, Result, refl, sym, ap, ◌∙◌, arith}
use Rattle.std.proofs.lemmas.Bool.{false≢true}
use Rattle.psr_base.specs.Made.{NamedBytes, FilesSeen}
use Rattle.ring_blocks.specs.declared.Entry.{Entry}
use Rattle.ring_blocks.specs.declared.Mark.TheVariants.{End, Cut}
use Rattle.dada_hdu.specs.Answers.{entry}
use Rattle.stream_model.specs.Blocks.{ended_transfers, transfer_bytes}
use Rattle.stream_model.specs.BlockLaws.{EndsAreCounted, EntriesAreOfTransfers}
use Rattle.dada_recorder.specs.Making.{Makes}
use Rattle.dada_recorder.specs.Blocks.{RecordPlan, files_of_blocks}
use Rattle.dada_recorder.specs.Recording.{IsWhole, IsGivenUp}
use Rattle.dada_recorder.specs.declared.transfers.Transfers.{Transfers}
use Rattle.dada_recorder.specs.Transfers.{plan_in, IsRunning, HasAppended}
use Rattle.dada_recorder.proofs.BlockFiles.{all_are_first}
use Rattle.dada_recorder.proofs.DataBlocks.{ended_more, cut_more, in_limits_with, split_last, count_all}

-- ---- the block that ends a transfer

last_ends : EndsAreCounted → (blocks : List Entry) (bytes : List ℕ) →
    ended_transfers (blocks ++ entry End bytes ∷ []) ≡ ended_transfers blocks + 1
last_ends counts blocks bytes = ended_more counts blocks (entry End bytes)

-- the next transfer has no bytes
next_is_empty : EntriesAreOfTransfers → EndsAreCounted → (blocks : List Entry) (bytes : List ℕ) →
    transfer_bytes (ended_transfers (blocks ++ entry End bytes ∷ [])) (blocks ++ entry End bytes ∷ []) ≡ []
unfolding transfer_bytes
next_is_empty law counts blocks bytes =
    let block = entry End bytes in
    let n = ended_transfers blocks in
    let one : n + 1 - n ≡ 1 = omega arith in
    rw (
      last_ends counts blocks bytes,
      law.open_still (n + 1) blocks (block ∷ []) (omega arith),
      law.to_come (n + 1)
          blocks (omega arith),
      one,
    ) refl

pub last_is_whole : EntriesAreOfTransfers → EndsAreCounted → (t t' : Transfers) (headers blocks : List Entry)
    (bytes : List ℕ) → HasAppended t headers blocks (entry End bytes) → plan_in t' ≡ plan_in t →
    t'.finished ≡ t.finished + (t.files.place.number + 1) → t.ended + 1 ≡ length t.offsets.now →
    IsWhole (plan_in t') headers (blocks ++ entry End bytes ∷ []) t'.finished
last_is_whole law counts t t' headers blocks bytes has same finished all =
    let ends = last_ends counts blocks bytes in
    let ended = has.ended in
    let begun = has.goes_on.begun in
    rw same (record {
      in_limits = in_limits_with t headers blocks (entry End bytes) has;
      all = omega (arith, ends, ended, all);
      uncut = cut_more counts blocks (entry End bytes) has.goes_on.uncut;
      begun = omega (arith, begun, ended, all);
      count = finished ∙ count_all law t headers blocks (entry End bytes) has;
    })

pub cut_is_given_up : EntriesAreOfTransfers → EndsAreCounted → (t t' : Transfers) (headers blocks : List Entry)
    (bytes : List ℕ) → HasAppended t headers blocks (entry Cut bytes) → plan_in t' ≡ plan_in t →
    t'.finished ≡ t.finished + (t.files.place.number + 1) →
    IsGivenUp (plan_in t') headers (blocks ++ entry Cut bytes ∷ []) t'.finished
cut_is_given_up law counts t t' headers blocks bytes has same finished =
    let ends : ended_transfers (blocks ++ entry Cut bytes ∷ []) ≡ ended_transfers blocks =
    ended_more counts blocks (entry Cut bytes) ∙ omega arith in
    let begun = has.goes_on.begun in
    let more = has.goes_on.more in
    rw same (record {
      in_limits = in_limits_with t headers blocks (entry Cut bytes) has;
      more = omega (arith, ends, more);
      cut = cut_more counts blocks (entry Cut bytes) has.goes_on.uncut;
      begun = omega (arith, ends, begun);
      count = finished ∙ count_all law t headers blocks (entry Cut bytes) has;
    })

-- what stays where a transfer's files are closed
pub record IsNext (t t' : Transfers) : Type 0 where
  pub plan : plan_in t' ≡ plan_in t
  pub ended : t'.ended ≡ t.ended + 1
  pub total : t'.total ≡ t.total
  pub finished : t'.finished ≡ t.finished + (t.files.place.number + 1)
  pub header : t'.has_header ≡ false
  pub closed : t'.files.place.is_open ≡ false

pub next_runs : EntriesAreOfTransfers → EndsAreCounted → (t t' : Transfers) (headers blocks : List Entry)
    (bytes : List ℕ) → HasAppended t headers blocks (entry End bytes) → IsNext t t' →
    t.files.place.number < 10 ^ 6 → t.ended + 1 ≢ length t.offsets.now →
    IsRunning t' headers (blocks ++ entry End bytes ∷ [])
next_runs law counts t t' headers blocks bytes has next small more =
    let block = entry End bytes in
    let ends = last_ends counts blocks bytes in
    let ended = has.ended in
    let begun = has.goes_on.begun in
    let below = has.goes_on.more in
    let few = has.few in
    let finished = next.finished in
    let after = next.ended in
    let plan = next.plan in
    let count = count_all law t headers blocks block has in
    let all = ap length (all_are_first (plan_in t) headers (blocks ++ block ∷ [])) in
    let to : length headers ≡ t'.ended = omega (arith, begun, ended, after) in
    record {
      plan = rw plan has.plan;
      goes_on = rw (next.header, plan) (record {
        in_limits = in_limits_with t headers blocks block has;
        more = omega (arith, ends, ended, below, more);
        uncut = cut_more counts blocks block has.goes_on.uncut;
        begun = omega (arith, ends, begun);
        between = λ is. next_is_empty law counts blocks bytes;
      });
      ended = omega (arith, after, ended, ends);
      total = next.total ∙ has.total;
      finished = rw (finished, plan, ← to) (count ∙ all);
      few = omega (arith, finished, after, few, small);
      within = λ is. absurd (false≢true (sym next.header ∙ is));
      between = λ is. next.closed;
    }

-- ---- its files

-- the last file of the blocks is finished
pub end_makes : {T E : Type 0} {result : Result T E} {old new : FilesSeen} → EntriesAreOfTransfers →
    (t t' : Transfers) (headers blocks : List Entry) (block : Entry) → HasAppended t headers blocks block →
    plan_in t' ≡ plan_in t → ((before : List NamedBytes) (file : NamedBytes) →
    Makes t.files.place.is_open (before ++ file ∷ []) false (before ++ file ∷ []) old new result) →
    Makes t.files.place.is_open (files_of_blocks (plan_in t) headers (blocks ++ block ∷ [])) false
    (files_of_blocks (plan_in t') headers (blocks ++ block ∷ [])) old new result
end_makes law t t' headers blocks block has same makes =
    rw (same, split_last law t headers blocks block has) (makes _ _)

-- whether all transfers have ended
pub of_offsets : (t t' : Transfers) → plan_in t' ≡ plan_in t → length t'.offsets.now ≡ length t.offsets.now
of_offsets t t' same = ap (λ (p : RecordPlan). length p.offsets) same
