use Rattle.std.proofs.Common.{sym, ap, ◌∙◌, rules}
use Rattle.std.specs.Prelude.{slice_get}
use Rattle.disk_feeder.specs.Beginning.{IsBegunStream}
use Rattle.disk_feeder.specs.Resting.{at_rest}
use Rattle.disk_feeder.proofs.Accepting.{first_is, keeps_begun}
use Rattle.disk_feeder.proofs.Beginnings.{begins_feeding}
use Rattle.disk_feeder.proofs.feeder.FeederSpace.accept.Goals as goal

pub returns-clause-feeds : goal.returns-clause-feeds
returns-clause-feeds c = λ told begun all.
    let new = c.accept.new.self in
    let now : IsBegunStream told new = search rules in
    begins_feeding c.first_files_continue.ensures c.data_grow.ensures c.data_none.ensures new told now all

pub returns-clause-accepts : goal.returns-clause-accepts
returns-clause-accepts c =
    let old = c.args.self.now.stream.source in
    let new = c.accept.new.self.source in
    let a = c.accept.ensures.source in
    record {
      first = λ header at.
          first_is old new c.args.transfer c.args.observation.now header a
          (c.requires.accepted header (ap (λ v. slice_get v.items c.args.transfer) (sym a.headers) ∙ at));
      others = λ k header other was. (was.0, a.others k other ∙ was.1, was.2);
    }

pub returns-clause-kept : goal.returns-clause-kept
returns-clause-kept c =
    let old = c.args.self.now in
    keeps_begun (at_rest old) (at_rest (record old { stream = c.accept.new.self })) c.args.transfer
    c.args.observation.now c.requires.begun.0 c.requires.begun.1 c.accept.ensures.source c.accept.ensures.block
    c.accept.ensures.due c.accept.ensures.end
