use Rattle.std.proofs.Common.{◌≡◌, ◌≢◌, ◌<◌, inl, inr, Some, None, length, slice_get, sym, ap, subst, ◌∙◌, arith}
use Rattle.std.proofs.lemmas.Bool.{cases_lt}
use Rattle.std.proofs.lemmas.List.{get_or_read}
use Rattle.std.proofs.lemmas.Option.{slice_get_within}
use Rattle.disk_feeder.specs.Feeder.{IsAcceptedAt, headers_of}
use Rattle.search_opening.proofs.Observed.{as_many, some_at, accepted_at}
use Rattle.search_opening.proofs.accept.accept_all.Goals as goal

pub unreachable-requires : goal.unreachable-requires
unreachable-requires g c =
    let headers = headers_of c.args.feeder.now in
    let observations = c.args.observations.now in
    let o = some_at headers observations c.requires.observed c.loop-k.k c.loop-k-test.true in
    let read = get_or_read observations c.loop-k.k c.index-observations-k.result c.loop-k-test.true
    c.index-observations-k.is None in
    c.in_default.not-Some o.0 (read ∙ o.1)

pub accept-requires-clause-accepted : goal.accept-requires-clause-accepted
accept-requires-clause-accepted g c = λ header there.
    let observations = c.args.observations.now in
    let read = get_or_read observations c.loop-k.k c.index-observations-k.result c.loop-k-test.true
    c.index-observations-k.is None in
    accepted_at (headers_of c.args.feeder.now) observations c.requires.observed c.loop-k.k c.in-Some.observation header
    (sym read ∙ c.in-Some.is)
    (subst (λ hs. slice_get hs c.loop-k.k ≡ Some header) c.loop-k.invariant.headers there)

pub loop-k-preserved : goal.loop-k-preserved
loop-k-preserved g c =
    let before = c.loop-k.invariant in
    let now = c.accept.ensures in
    let kept = now.kept in
    record {
      same_reference = now.same_reference ∙ before.same_reference;
      inputs = now.inputs ∙ before.inputs;
      plan = record {
        names = kept.plan.names ∙ before.plan.names;
        starts = kept.plan.starts ∙ before.plan.starts;
        limit = kept.plan.limit ∙ before.plan.limit;
        size = kept.plan.size ∙ before.plan.size;
        headers = kept.plan.headers ∙ before.plan.headers;
      };
      headers = kept.headers ∙ before.headers;
      begun = now.begun;
      accepted = λ j header within there. elim (cases_lt j c.loop-k.k) [
        | inl below ↦
            let differs : j ≢ c.loop-k.k = λ same. omega (arith, below, same) in
            now.accepts.others j header differs
            (before.accepted j header below (subst (λ hs. slice_get hs j ≡ Some header) kept.headers there))
        | inr above ↦
            let same : j ≡ c.loop-k.k = omega (arith, within, above) in
            subst (λ i. IsAcceptedAt c.accept.new.self i header) (sym same)
            (now.accepts.first header
            (subst (λ i. slice_get (headers_of c.accept.new.self) i ≡ Some header) same there))
      ];
      reads_on = λ outset told was. kept.reads_on outset told (before.reads_on outset told was);
      reading = λ open_now. before.reading (kept.reading open_now);
      feeds = λ some all. now.feeds all;
      faultless = λ some. kept.faultless;
      running = λ some. kept.running;
    }

pub returns-clause-accepted : goal.returns-clause-accepted
returns-clause-accepted g c =
    let headers = headers_of c.args.feeder.now in
    let were = c.loop-k.invariant in
    let many = as_many headers c.args.observations.now c.requires.observed in
    let same = ap length were.headers in
    let some : 0 < c.loop-k.k = omega (arith, c.requires.some, c.loop-k-test.false) in
    record {
      kept = record {
        plan = were.plan;
        headers = were.headers;
        reading = were.reading;
        reads_on = were.reads_on;
        faultless = were.faultless some;
        running = were.running some;
      };
      inputs = were.inputs;
      feeds = were.feeds some (λ j header there.
          let within = slice_get_within (headers_of c.loop-k.feeder) j header there in
          were.accepted j header (omega (arith, within, same, many, c.loop-k-test.false)) there);
    }
