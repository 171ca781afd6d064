use Rattle.std.proofs.Common.{◌≡◌, ◌∙◌, rules}
use Rattle.psr_base.specs.InMemory.{told_of, calls_of, HasNotRead}
use Rattle.psr_base.specs.Told.{left_to_read, opened}
use Rattle.psr_base.proofs.Tells.{at_err, at_ok, of_err, Rose-failed, count-stays, fail-stays, calm-serves, names-opened, names-read, opened-told, opened-earlier, is_open-opened, still_open, is_open-read, GivesNext-told}
use Rattle.psr_base.proofs.mem_inputs.MemInputsInputs.TheImpl.Goals as goal

pub open-tells : goal.open-tells
open-tells c =
    let old = c.args.self.now in
    let new = c.new.self.now in
    let stands = of_err c.result (λ (h : HasNotRead old new). h.told) c.ensures.failed in
    let counted = of_err c.result (λ (h : HasNotRead old new). h.calls) c.ensures.failed in
    let same = fail-stays c.result (calls_of old) (calls_of new) c.ensures.called counted in
    record {
      opened = opened-told c.result ((told_of old).bytes_under c.args.name.now) (told_of new
          ≡ opened c.args.name.now (told_of old)) c.ensures.opened;
      earlier = opened-earlier c.result c.args.name.now (told_of old) (told_of new) c.ensures.opened;
      is_open = is_open-opened c.result new.files.files.items new.files.earlier.files new.files.reading
          c.args.name.now (told_of old) c.ensures.opened;
      unchanged = stands;
      still_open = still_open c.result old.files.files.items new.files.files.items old.files.earlier.files
          new.files.earlier.files old.files.reading new.files.reading stands;
      inputs = record {
        names = names-opened c.result c.args.name.now (told_of old) (told_of new) c.ensures.opened stands;
        count = c.ensures.count;
        rose = at_err c.result (Rose-failed c.result (calls_of old) (calls_of new) counted);
        quiet = at_ok c.result (count-stays c.result (calls_of old) (calls_of new) c.ensures.called);
        calm = λ calm. same ∙ calm;
      };
      serves = λ calm held. calm-serves (calls_of old) (λ free. c.ensures.answer.1 (held, free)) calm;
    }

pub read-tells : goal.read-tells
read-tells c =
    let old = c.args.self.now in
    let new = c.new.self.now in
    let stands = of_err c.result (λ (h : HasNotRead old new). h.told) c.ensures.failed in
    let counted = of_err c.result (λ (h : HasNotRead old new). h.calls) c.ensures.failed in
    let same = fail-stays c.result (calls_of old) (calls_of new) c.ensures.called counted in
    record {
      bound = search rules;
      next = GivesNext-told c.result (left_to_read (told_of old)) c.new.into.now c.ensures.next;
      moved = c.ensures.moved;
      is_open = is_open-read c.result old.files.files.items new.files.files.items old.files.earlier.files
          new.files.earlier.files old.files.reading new.files.reading c.ensures.moved stands
          c.requires.is_open;
      unchanged = stands;
      inputs = record {
        names = names-read c.result (told_of old) (told_of new) c.ensures.moved stands;
        count = c.ensures.count;
        rose = at_err c.result (Rose-failed c.result (calls_of old) (calls_of new) counted);
        quiet = at_ok c.result (count-stays c.result (calls_of old) (calls_of new) c.ensures.called);
        calm = λ calm. same ∙ calm;
      };
      serves = λ calm. calm-serves (calls_of old) c.ensures.answer.1 calm;
    }
