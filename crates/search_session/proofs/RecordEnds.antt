-- What a recorder comes to that cleared the blocks of a session from the beginning.
use Rattle.std.proofs.Common.{◌≡◌, ◌≢◌, ℕ, ◌≤◌, true, false, List, [], length, take, get_or, Some, slice_get, refl, sym, ap, ◌∙◌, arith}
use Rattle.std.proofs.lemmas.List.{get_or-map, get_or-take, length-map, length-take}
use Rattle.std.proofs.lemmas.Option.{slice_get_within, slice_get-get_or, get_or_from_slice_get}
use mathlib.Core.List.{IsPrefix}
use Rattle.dada_model.specs.Fields.{HeaderText}
use Rattle.psr_base.specs.Made.{NamedBytes, FilesSeen}
use Rattle.ring_blocks.specs.declared.Entry.{Entry}
use Rattle.ring_words.specs.Ring.{Begins}
use Rattle.dada_hdu.specs.Answers.{header_entry}
use Rattle.stream_model.specs.Blocks.{joined_bytes, has_cut}
use Rattle.disk_feeder.specs.declared.answers.FeedEnd.{FeedEnd}
use Rattle.disk_feeder.specs.declared.answers.FeedEnd.TheVariants as feed
use Rattle.disk_feeder.specs.Plan.{Plan}
use Rattle.disk_feeder.specs.Feeding.{header_entries, HeadersKeepUp, IsEnding}
use Rattle.dada_recorder.specs.declared.answers.RecordEnd.{RecordEnd}
use Rattle.dada_recorder.specs.declared.answers.RecordEnd.TheVariants.{Whole, Cut, FileFault}
use Rattle.dada_recorder.specs.Making.{Outset}
use Rattle.dada_recorder.specs.Blocks.{RecordPlan, files_of_blocks, AcceptsBlock}
use Rattle.dada_recorder.specs.RecordingLaws.{AreComplete, Cleared, EndsComplete, HasFilesOfAll}
use Rattle.search_session.specs.Recorded.{SealsRecordable, EndsRecording, HasRecorded}

-- ---- what was sealed can be recorded

accepts_at : (plan : RecordPlan) (feeds : Plan) → SealsRecordable plan feeds → (n k : ℕ) (block : Entry) →
    slice_get (header_entries (take n feeds.headers)) k ≡ Some block → AcceptsBlock plan k block.bytes
accepts_at plan feeds can n k block at =
    let front = take n feeds.headers in
    let none : HeaderText = record { size = 0; text = [] } in
    let within = slice_get_within (header_entries front) k block at in
    let many = length-map front header_entry in
    let part = length-take n feeds.headers in
    let header = get_or feeds.headers k none in
    let there : slice_get feeds.headers k ≡ Some header = slice_get-get_or feeds.headers k none (omega arith) in
    let is : header_entry header ≡ block =
    rw (get_or-map header_entry front k none block (omega arith), get_or-take n feeds.headers k none (omega arith))
    at (get_or_from_slice_get (header_entries front) k block block at) in
    let accepted = can.accepted k header there in
    rw (← is) (record { header = header; read = accepted.0; accepted = accepted.1 })

pub complete : (plan : RecordPlan) (feeds : Plan) → SealsRecordable plan feeds → (headers blocks : List Entry)
    (end : FeedEnd) → HeadersKeepUp feeds.headers headers blocks → IsEnding (length feeds.starts) blocks end →
    length (joined_bytes blocks) ≤ feeds.max_bytes → AreComplete plan headers blocks
complete plan feeds can headers blocks end up ending few =
    let limit = can.limit in
    let there = up.there in
    let next = up.next in
    let all = can.headers in
    let offsets = can.transfers in
    let entries = ap length up.are ∙ length-map (take up.count feeds.headers) header_entry in
    let part = length-take up.count feeds.headers in
    record {
      in_limits = record {
        accepted = rw up.are (λ k block at. accepts_at plan feeds can up.count k block at);
        limit = omega arith;
      };
      once = λ front rest parts over. ending.once front rest parts
          (rw can.transfers at over);
      begun = omega arith;
      few = omega arith;
    }

-- ---- the end

pub prefix_of : (xs ys : List Entry) → Begins xs ys → IsPrefix xs ys
prefix_of xs ys begins = (begins.0, sym begins.1)

whole_end : (n : ℕ) (blocks : List Entry) (end : FeedEnd) → IsEnding n blocks end → has_cut blocks ≡ false →
    (bytes : ℕ) × (end ≡ feed.Whole bytes)
whole_end n blocks (feed.Whole bytes) ending uncut = (bytes, refl)
whole_end n blocks end ending uncut =
    let both = sym uncut ∙ ending.cut (λ bytes e. absurd cc) in
    absurd cc

cut_end : (n : ℕ) (blocks : List Entry) (end : FeedEnd) → IsEnding n blocks end → has_cut blocks ≡ true →
    (bytes : ℕ) → end ≢ feed.Whole bytes
cut_end n blocks end ending cut bytes whole = let both = sym (ending.uncut bytes whole) ∙ cut in cc

module _ (plan : RecordPlan) (c : Cleared) (n : ℕ) (fed : FeedEnd) (ending : IsEnding n c.all_blocks fed) where
  abbrev all_files : List NamedBytes
  all_files = files_of_blocks plan c.all_headers c.all_blocks

  pub ends_recording : (end : RecordEnd) → EndsComplete plan c end → EndsRecording fed all_files end
  ends_recording (Whole count) e = (whole_end n c.all_blocks fed ending e.given_up, e.count)
  ends_recording (Cut count) e = (cut_end n c.all_blocks fed ending e.given_up, e.count)
  ends_recording FileFault e = _
  ends_recording end e = absurd e

  pub has_recorded : (outset : Outset) (seen : FilesSeen) (end : RecordEnd) →
      HasFilesOfAll plan outset c end seen → HasRecorded outset all_files seen end
  has_recorded outset seen (Whole count) h = h
  has_recorded outset seen end h = h

  pub all_cleared : (end : RecordEnd) → EndsComplete plan c end → end ≢ FileFault → c.blocks ≡ c.all_blocks
  all_cleared (Whole count) e other = e.cleared.blocks
  all_cleared (Cut count) e other = e.cleared.blocks
  all_cleared FileFault e other = absurd (other refl)
  all_cleared end e other = absurd e
