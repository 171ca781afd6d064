use Rattle.std.proofs.Common.{◌≡◌, inl, inr, None, Some, slice_get, ap, sym, subst, ◌∙◌, arith, rules}
use Rattle.std.specs.Prelude.{IsSome}
use Rattle.std.proofs.lemmas.Bool.{cases_lt}
use Rattle.std.proofs.lemmas.List.{get_or_read}
use Rattle.std.proofs.lemmas.Option.{same_Some, slice_get-get_or, slice_get_within}
use Rattle.dada_model.specs.ChangeLaws.{IsReadBack}
use Rattle.disk_feeder.specs.Feeder.{headers_of}
use Rattle.search_opening.proofs.Observed.{as_many, some_at, one_recorded}
use Rattle.search_opening.proofs.recordings.judge_recordings.Goals as goal

pub fits_one-requires-clause-there : goal.fits_one-requires-clause-there
fits_one-requires-clause-there g c =
    let observations = c.args.observations.now in
    let o = some_at (headers_of c.args.feeder.now) observations c.requires.observed c.loop-k.k c.loop-k-test.true in
    let read = get_or_read observations c.loop-k.k c.index-observations-k.result c.loop-k-test.true
    c.index-observations-k.is None in
    subst IsSome (sym (read ∙ o.1)) (search rules)

pub returns-in-Err-clause-refused : goal.returns-in-Err-clause-refused
returns-in-Err-clause-refused g c =
    let observations = c.args.observations.now in
    let o = some_at (headers_of c.args.feeder.now) observations c.requires.observed c.loop-k.k c.loop-k-test.true in
    let read = get_or_read observations c.loop-k.k c.index-observations-k.result c.loop-k-test.true
    c.index-observations-k.is None in
    record {
      transfer = c.loop-k.k;
      header = c.header-header.result.now;
      observation = o.0;
      there = c.header-header.ensures;
      said = slice_get-get_or observations c.loop-k.k None c.loop-k-test.true ∙ ap Some o.1;
      cause = c.in-Err.ensures.refused o.0 (read ∙ o.1);
      earlier = c.loop-k.invariant.fit;
    }

pub loop-k-preserved : goal.loop-k-preserved
loop-k-preserved g c =
    let observations = c.args.observations.now in
    let o = some_at (headers_of c.args.feeder.now) observations c.requires.observed c.loop-k.k c.loop-k-test.true in
    let read = get_or_read observations c.loop-k.k c.index-observations-k.result c.loop-k-test.true
    c.index-observations-k.is None in
    record {
      fit = one_recorded c.args.file_size c.args.max_bytes (headers_of c.args.feeder.now) observations c.loop-k.k
          c.header-header.result.now o.0 c.loop-k.invariant.fit c.header-header.ensures o.1
          (c.in-Ok.ensures.fits o.0 (read ∙ o.1));
      read_back = λ j other within at. elim (cases_lt j c.loop-k.k) [
        | inl below ↦ c.loop-k.invariant.read_back j other below at
        | inr above ↦
            let same : j ≡ c.loop-k.k = omega (arith, within, above) in
            subst IsReadBack (same_Some c.header-header.result.now other
            (sym c.header-header.ensures
            ∙ subst (λ i. slice_get (headers_of c.args.feeder.now) i ≡ Some other) same at))
            c.fits_one.ensures.read_back
      ];
    }

pub returns-clause-read_back : goal.returns-clause-read_back
returns-clause-read_back g c = λ k header there.
    let within = slice_get_within (headers_of c.args.feeder.now) k header there in
    let many = as_many (headers_of c.args.feeder.now) c.args.observations.now c.requires.observed in
    c.loop-k.invariant.read_back k header (omega (arith, within, many, c.loop-k-test.false)) there
