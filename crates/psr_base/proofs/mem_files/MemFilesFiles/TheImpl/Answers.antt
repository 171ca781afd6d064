use Rattle.std.proofs.Common.{length, OnErr, rules}
use Rattle.psr_base.specs.InMemory.{made_of, files_left, files_calls, HasNotMade}
use Rattle.psr_base.proofs.Tells.{of_err, Rose-failed, count-stays, fail-stays}
use Rattle.psr_base.proofs.TellsFiles.{Created-told, AppendedAll-told, Finished-told, MakingFails-told, once-told, serves-create, serves-append, serves-finish}
use Rattle.psr_base.proofs.mem_files.MemFilesFiles.TheImpl.Goals as goal

pub create-tells : goal.create-tells
create-tells c =
    let old = c.args.self.now in
    let new = c.new.self.now in
    let before = files_calls old in
    let after = files_calls new in
    let failed : OnErr c.result (HasNotMade old new) = c.ensures.failed in
    let counted = of_err c.result (λ (h : HasNotMade old new). h.calls) failed in
    let same = fail-stays c.result before after c.ensures.called counted in
    let quiet = count-stays c.result before after c.ensures.called in
    let rose = Rose-failed c.result before after counted in
    record {
      created = Created-told c.result c.args.name.now (made_of old) (made_of new) before.fail after.fail
          (files_left old) (files_left new) before.faults after.faults c.ensures.created same c.ensures.left quiet;
      is_open = c.ensures.is_open;
      failed = MakingFails-told c.result (made_of old) (made_of new) before.fail after.fail (files_left old)
          (files_left new) before.faults after.faults (of_err c.result (λ (h : HasNotMade old new). h.made) failed)
          same (of_err c.result (λ (h : HasNotMade old new). h.left) failed) rose
          c.ensures.count;
      still_closed = c.ensures.still_closed;
      once = once-told c.result (made_of old) c.args.name.now (λ ok. (c.ensures.answer.0 ok).0.0);
      serves = serves-create (made_of old) before (files_left old) before.faults c.args.name.now c.ensures.answer.1;
    }

pub append-tells : goal.append-tells
append-tells c =
    let old = c.args.self.now in
    let new = c.new.self.now in
    let before = files_calls old in
    let after = files_calls new in
    let failed : OnErr c.result (HasNotMade old new) = c.ensures.failed in
    let counted = of_err c.result (λ (h : HasNotMade old new). h.calls) failed in
    let same = fail-stays c.result before after c.ensures.called counted in
    let quiet = count-stays c.result before after c.ensures.called in
    let rose = Rose-failed c.result before after counted in
    record {
      bound = search rules;
      some = search rules;
      took = AppendedAll-told c.result c.args.bytes.now (made_of old) (made_of new) before.fail after.fail
          (files_left old) (files_left new) before.faults after.faults c.ensures.whole c.ensures.appended same
          c.ensures.left quiet;
      failed = MakingFails-told c.result (made_of old) (made_of new) before.fail after.fail (files_left old)
          (files_left new) before.faults after.faults (of_err c.result (λ (h : HasNotMade old new). h.made) failed)
          same (of_err c.result (λ (h : HasNotMade old new). h.left) failed) rose
          c.ensures.count;
      still_open = c.ensures.still_open;
      serves = serves-append before (files_left old) (length c.args.bytes.now) c.ensures.answer.1;
    }

pub finish-tells : goal.finish-tells
finish-tells c =
    let old = c.args.self.now in
    let new = c.new.self.now in
    let before = files_calls old in
    let after = files_calls new in
    let failed : OnErr c.result (HasNotMade old new) = c.ensures.failed in
    let counted = of_err c.result (λ (h : HasNotMade old new). h.calls) failed in
    let same = fail-stays c.result before after c.ensures.called counted in
    let quiet = count-stays c.result before after c.ensures.called in
    let rose = Rose-failed c.result before after counted in
    record {
      finished = Finished-told c.result (made_of old) (made_of new) before.fail after.fail (files_left old)
          (files_left new) before.faults after.faults c.ensures.finished same c.ensures.left quiet;
      closed = c.ensures.closed;
      failed = MakingFails-told c.result (made_of old) (made_of new) before.fail after.fail (files_left old)
          (files_left new) before.faults after.faults (of_err c.result (λ (h : HasNotMade old new). h.made) failed)
          same (search rules) rose c.ensures.count;
      still_open = c.ensures.still_open;
      serves = serves-finish before (files_left old) c.ensures.answer.1;
    }
