use Rattle.std.proofs.Common.{subst}
use Rattle.psr_base.specs.Written.{WroteAll, WroteFront}
use Rattle.transfer_text.proofs.Numbered.{as_written}
use Rattle.transfer_text.proofs.texts.write_list.Goals as goal

pub returns-in-Ok : goal.returns-in-Ok
returns-in-Ok g c = λ found is.
    let wrote = (c.in-Ok.ensures found.list is.merged).text in
    let same = as_written found c.args.observation.now c.in-Some.observation c.args.books.now c.args.spectra
    c.in-Some.is is in
    record {
      all = subst (λ t. WroteAll t (g.K.Sink.seen c.args.out.now) (g.K.Sink.seen c.write_merged.new.sink))
          same wrote.all;
      front = tt;
    }

pub returns-in-Err : goal.returns-in-Err
returns-in-Err g c = λ found is.
    let wrote = (c.in-Err.ensures found.list is.merged).text in
    let same = as_written found c.args.observation.now c.in-Some.observation c.args.books.now c.args.spectra
    c.in-Some.is is in
    record {
      all = tt;
      front = subst (λ t. WroteFront t (g.K.Sink.seen c.args.out.now) (g.K.Sink.seen c.write_merged.new.sink))
          same wrote.front;
    }
