use Rattle.std.proofs.Common.{◌≡◌, ℕ, ◌+◌, ◌*◌, ◌/◌, ◌<◌, ◌≤◌, length, take, sym, ap, subst, ◌∙◌}
use Rattle.ring_words.specs.declared.shape.RingShape.{RingShape}
use Rattle.dada_hdu.specs.Passes.{data_shape}
use Rattle.search_engine.specs.Engine.{most_fed}
use Rattle.disk_feeder.specs.Feeder.{headers_of, plan_at, block_size, FeederFeeds}
use Rattle.disk_feeder.specs.Turns.{sealed_blocks}
use Rattle.disk_feeder.specs.Feeding.{header_entries}
use Rattle.session_readers.specs.declared.bank.Bank.{Bank}
use Rattle.search_session.specs.Books.{HasBank}
use Rattle.search_session.specs.Stages.{IsUnfed, recorder_count}
use Rattle.search_opening.proofs.Staging.{first_entry, is_unread}
use Rattle.search_opening.proofs.space.StageSpace.stage.Goals as goal

pub returns-clause-on : goal.returns-clause-on
returns-clause-on g c =
    let feeder = c.args.feeder in
    let told = g.I.Inputs.told feeder.inputs.now in
    let writer = c.args.self.writer in
    let is = c.requires.space_is in
    let feeds = c.requires.feeds in
    let shape : data_shape c.args.self.hdu ≡ c.requires.shape = is.rings.shape_is in
    let headers = is.rings.sealed ∙ sym (first_entry (headers_of feeder) c.requires.header feeds.first) in
    record {
      writes = is.rings.writes;
      fits = record {
        size = ap (λ (s : RingShape). s.size) shape ∙ feeds.size;
        blocks = subst (λ (s : RingShape). (plan_at feeder).max_bytes / block_size feeder
            + length (plan_at feeder).starts + 1 ≤ s.max_blocks) (sym shape) feeds.blocks;
      };
      file = feeds.file;
      running = feeds.running;
      feeding = subst (λ hs. FeederFeeds told feeder hs (sealed_blocks writer)) (sym headers)
          (subst (λ bs. FeederFeeds told feeder (header_entries (take 1 (headers_of feeder))) bs)
          (sym is.rings.no_data) feeds.feeds);
      transfers = c.requires.transfers;
      all_readers = is.rings.count ∙ ap (λ (s : RingShape). s.readers) (sym shape);
      readers_count = is.rings.count ∙ c.requires.readers
          ∙ ap (λ banks. length banks.items + recorder_count c.args.recorder) (sym is.banks_are);
      readers = λ s within.
          let found = is.rings.fresh s within in
          (found.0, found.1, is_unread c.args.self.hdu s found.0 found.2);
      banks = subst (λ banks. (s : ℕ) → s < length banks.items →
          (bank : Bank) × HasBank banks.items s bank × IsUnfed (length (plan_at feeder).starts) bank)
          (sym is.banks_are) c.requires.engines;
      spaces_count = is.spaces_count ∙ ap (λ banks. length banks.items) (sym is.banks_are);
      spaces = is.spaces;
      recorder = c.requires.recorder_is;
      few = subst (λ (s : RingShape). s.max_blocks * s.size ≤ most_fed) (sym shape) c.requires.few;
      some_hand = is.some_hand;
      empty = is.empty;
    }
