use Rattle.std.proofs.Common.{◌≡◌, ℕ, List, length, refl, sym, ap, ◌∙◌, subst, inl, inr, arith}
use Rattle.std.specs.Prelude.{slice_get}
use Rattle.std.proofs.lemmas.Bool.{cases_eq}
use Rattle.std.proofs.lemmas.Option.{slice_get_within}
use Rattle.psr_base.specs.Told.{Told}
use Rattle.dada_model.specs.Fields.{HeaderText}
use Rattle.disk_feeder.specs.declared.feeder.Feeder.{Feeder}
use Rattle.disk_feeder.specs.Feeder.{IsAcceptedAt, IsBegun, KeepsBegun, headers_of}
use Rattle.stream_tests.proofs.feeding.accept_all.Goals as goal

-- before anything was accepted
kept_at_first : {I : Type 0} (told : Told) (f : Feeder I) → IsBegun told f → KeepsBegun f f
kept_at_first told f begun = record {
  plan = record { names = refl; starts = refl; limit = refl; size = refl; headers = refl };
  headers = refl;
  reading = λ now. now;
  reads_on = λ before after read. read;
  faultless = ((λ due. absurd cc), (λ end. absurd cc));
  running = begun.end;
}

-- what two calls keep that follow one another
kept_twice : {I : Type 0} (old mid new : Feeder I) → KeepsBegun old mid → KeepsBegun mid new → KeepsBegun old new
kept_twice old mid new first second = record {
  plan = record {
    names = second.plan.names ∙ first.plan.names;
    starts = second.plan.starts ∙ first.plan.starts;
    limit = second.plan.limit ∙ first.plan.limit;
    size = second.plan.size ∙ first.plan.size;
    headers = second.plan.headers ∙ first.plan.headers;
  };
  headers = second.headers ∙ first.headers;
  reading = λ now. first.reading (second.reading now);
  reads_on = λ before told read. second.reads_on before told (first.reads_on before told read);
  faultless = second.faultless;
  running = second.running;
}

pub loop-k-init : goal.loop-k-init
loop-k-init g c = record {
  begun = c.requires.begun;
  same_reference = refl;
  inputs = refl;
  kept = kept_at_first (g.I.Inputs.told c.args.feeder.now.inputs.now) c.args.feeder.now c.requires.begun;
  accepted = λ j header below at. absurd (omega arith);
  feeds = λ some. absurd (omega arith);
}

pub loop-k-preserved : goal.loop-k-preserved
loop-k-preserved g c =
    let before = c.loop-k.invariant in
    let after = c.accept.ensures in
    let new = c.accept.new.self in
    let k = c.loop-k.k in
    record {
      begun = after.begun;
      same_reference = after.same_reference ∙ before.same_reference;
      inputs = after.inputs ∙ before.inputs;
      kept = kept_twice _ _ _ before.kept after.kept;
      accepted = λ j header below at. elim (cases_eq j k) [
        | inl same ↦
            let P : ℕ → Type 0 = λ i. IsAcceptedAt new i header in
            subst P (sym same) (after.accepts.first header (ap (slice_get (headers_of new)) (sym same) ∙ at))
        | inr other ↦
            after.accepts.others j header other
            (before.accepted j header (omega arith)
            (ap (λ (hs : List HeaderText). slice_get hs j) (sym after.kept.headers) ∙ at))
      ];
      feeds = λ some all. after.feeds all;
    }

pub returns-clause-feeds : goal.returns-clause-feeds
returns-clause-feeds g c = λ ended.
    let all = c.loop-k.invariant in
    let count : length (headers_of c.loop-k.feeder) ≡ c.args.transfers =
    ap (length {A = HeaderText}) all.kept.headers ∙ c.requires.count in
    all.feeds (omega arith) (λ j header at.
    let within = slice_get_within (headers_of c.loop-k.feeder) j header at in
    all.accepted j header (omega arith) at)
