use Rattle.std.proofs.Common.{◌≡◌, true, refl, rules}
use Rattle.session_readers.proofs.OneRead.{rested_itself}
use Rattle.session_readers.proofs.Turning.{on_retired, moved_retired}
use Rattle.session_readers.proofs.shard.ShardActor.retired.Goals as goal

pub returns-then-not-self-clause-moved : goal.returns-then-not-self-clause-moved
returns-then-not-self-clause-moved c =
    moved_retired c.args.hdu.now c.args.self c.args.self (rested_itself c.args.self.pass) refl refl c.requires.count
    refl

pub returns : goal.returns
returns c =
    let over : c.args.self.ended ≡ true = search rules in
    record {
      on = on_retired c.args.hdu.now c.args.self _ c.retire.ensures.rested refl refl c.retire.ensures.reads
          c.retire.ensures.retired refl refl refl
          over c.requires;
      moved = moved_retired c.args.hdu.now c.args.self _ c.retire.ensures.rested refl refl c.requires.count refl;
      retired = λ ended. c.retire.ensures.retired;
    }
