use Rattle.std.proofs.Common.{refl, Some, Bool, [], ◌∷◌, ◌++◌, take, ap, ◌∙◌}
use Rattle.ring_blocks.specs.declared.Mark.TheVariants.{Cut}
use Rattle.dada_hdu.specs.Answers.{entry}
use Rattle.disk_feeder.specs.declared.due.Due.TheVariants.{Stopped}
use Rattle.disk_feeder.specs.Sources.{plan_of}
use Rattle.disk_feeder.specs.Feeding.{header_entries, headers_sealed}
use Rattle.disk_feeder.proofs.Runs.{with_due}
use Rattle.disk_feeder.proofs.Sealings.{cut_sealed, cut_at, cut_past}
use Rattle.disk_feeder.proofs.OfSource.{plan_place}
use Rattle.disk_feeder.proofs.stream.Stream.hand_cut.Goals as goal

pub returns-clause-hands : goal.returns-clause-hands
returns-clause-hands c = λ told headers blocks was.
    let old = c.args.self.now in
    let plan = plan_of old.source in
    let more = blocks ++ entry Cut [] ∷ [] in
    let filled = with_due old told (Some (Stopped c.args.end)) blocks c.requires.due was.stream in
    record {
      ended = cut_sealed plan told old.source.place old.block.items old.held c.args.end headers blocks more filled
          (plan_place old.source).total was.there
          (was.sealed
          ∙ ap (λ (b : Bool). header_entries (take (headers_sealed b old.source.place.transfer) plan.headers))
          c.requires.header)
          refl;
      cut = λ failed files are.
          cut_at plan told old.source.place old.block.items old.held c.args.end blocks more filled
          (plan_place old.source).total refl failed files are;
      past = λ failed.
          cut_past plan told old.source.place old.block.items old.held c.args.end blocks more filled
          (plan_place old.source).total refl;
    }
