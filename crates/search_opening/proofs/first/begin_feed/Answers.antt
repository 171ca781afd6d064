use Rattle.std.proofs.Common.{◌≡◌, ℕ, List, Err, ◌<◌, length, sym, ap, subst, ◌∙◌, arith}
use Rattle.std.specs.Prelude.{slice_index_or}
use Rattle.std.proofs.lemmas.List.{get_or_default}
use Rattle.std.proofs.lemmas.Option.{slice_get_within}
use Rattle.stream_model.specs.WalkLaws.{AreStarts}
use Rattle.disk_feeder.specs.Feeder.{plan_at}
use Rattle.disk_feeder.specs.Plan.{Plan, stream_of}
use Rattle.search_opening.specs.First.{AreHeadersOf, ComesFirst, StopsFirsts}
use Rattle.search_opening.proofs.Firsts.{still_told, still_headed, same_stream, headers_are, texts_are, firsts_are, breaks_first, fault_of_begin, fields_no_fault, stops_text, no_want, stops_fields, refuses_fields, refuses_fields_at, are_firsts, are_firsts_at, begin_comes, fields_come}
use Rattle.search_opening.proofs.first.begin_feed.Goals as goal

-- as many names as files, where transfers begin
starts_are : (plan : Plan) (starts : List ℕ) (names : List (List ℕ)) → plan.starts ≡ starts → plan.names ≡ names →
    AreStarts starts (length names) → AreStarts plan.starts (length plan.names)
starts_are plan starts names same named are =
    subst (λ ns. AreStarts plan.starts (length ns)) (sym named) (subst (λ s. AreStarts s (length names)) (sym same) are)

pub returns-in-Ok-observe_all-clause-read : goal.returns-in-Ok-observe_all-clause-read
returns-in-Ok-observe_all-clause-read g c =
    let begins = c.in-Ok.ensures in
    let source = c.args.feeder.now.stream.source in
    let source_now = c.begin.new.self.stream.source in
    let old = plan_at c.args.feeder.now in
    let new = plan_at c.begin.new.self in
    let told = g.I.Inputs.told c.args.feeder.now.inputs.now in
    let told_now = g.I.Inputs.told c.begin.new.self.inputs.now in
    let kept = c.begin.ensures.plan in
    let same = kept.starts ∙ c.requires.plan in
    let headed = kept.headers ∙ c.requires.headed ∙ ap length (sym same) in
    let starts = starts_are new c.args.starts.now old.names same kept.names c.requires.begin in
    let headers = headers_are told_now source_now starts headed begins.begun.headers in
    record {
      begun = begins.begun;
      file = begins.open;
      observed = c.in-Ok-observe_all.ensures.observed;
      headers = headers;
      firsts = λ files are.
          are_firsts (stream_of new files) new.headers headed (headers files are) c.accepted_by_rows.ensures
          (subst (AreStarts new.starts) (sym are.count) starts) c.in-Ok-observe_all.observations.items
          c.in-Ok-observe_all.ensures.observed;
      each = are_firsts_at c.accepted_by_rows.ensures told_now new.names new.starts new.headers
          c.in-Ok-observe_all.observations.items headed
          (texts_are told_now source_now starts headed begins.begun.headers) c.in-Ok-observe_all.ensures.observed;
      read = firsts_are told source
          (subst (λ s. AreStarts s (length old.names)) (sym c.requires.plan) c.requires.begin) told_now
          begins.reads.read;
      begins = begins.reads.begins;
    }

pub returns-in-Err-observe_all-clause-stopped : goal.returns-in-Err-observe_all-clause-stopped
returns-in-Err-observe_all-clause-stopped g c =
    let source = c.args.feeder.now.stream.source in
    let source_now = c.begin.new.self.stream.source in
    let old = plan_at c.args.feeder.now in
    let new = plan_at c.begin.new.self in
    let told = g.I.Inputs.told c.args.feeder.now.inputs.now in
    let told_now = g.I.Inputs.told c.begin.new.self.inputs.now in
    let kept = c.begin.ensures.plan in
    let bytes = c.begin.ensures.inputs.names in
    let refused = c.in-Err-observe_all.refused in
    let r = c.in-Err-observe_all.ensures.refused in
    let same = kept.starts ∙ c.requires.plan in
    let headed = kept.headers ∙ c.requires.headed ∙ ap length (sym c.requires.plan) in
    let headed_now = kept.headers ∙ c.requires.headed ∙ ap length (sym same) in
    let starts = starts_are new c.args.starts.now old.names same kept.names c.requires.begin in
    let headers = headers_are told_now source_now starts headed_now c.in-Ok.ensures.begun.headers in
    let texts = still_headed told told_now old new new.headers bytes kept.names kept.starts
    (texts_are told_now source_now starts headed_now c.in-Ok.ensures.begun.headers) in
    let within = slice_get_within new.headers refused.transfer r.header r.there in
    let there : refused.transfer < length old.starts = omega (arith, within, headed) in
    record {
      kind = subst ComesFirst (sym c.of_observation.ensures) (fields_come _ refused.cause);
      stopped = subst (StopsFirsts told old) (sym c.of_observation.ensures)
          (stops_fields told old _ refused.cause (λ other.
          refuses_fields_at told old.names old.starts new.headers texts refused.transfer _ refused.cause r.header there
          (ap (λ s. slice_index_or s refused.transfer 0) (sym c.requires.plan)
          ∙ get_or_default old.starts refused.transfer 0 (length old.names) there)
          r.there r.cause other r.earlier) (λ other files are.
          let are_now = still_told told told_now old new files bytes kept.names kept.starts are in
          let have = subst (λ w. AreHeadersOf w new.headers) (same_stream new old files kept.starts kept.limit)
          (headers files are_now) in
          refuses_fields (stream_of old files) new.headers headed have refused.transfer _ refused.cause r.header there
          (ap (λ s. slice_index_or s refused.transfer 0) (sym c.requires.plan)
          ∙ get_or_default old.starts refused.transfer 0 (length files) there)
          r.there r.cause other r.earlier));
      unread = λ want. firsts_are told source
          (subst (λ s. AreStarts s (length old.names)) (sym c.requires.plan) c.requires.begin) told_now
          c.in-Ok.ensures.reads.read;
      broke = λ failed. absurd (fields_no_fault _ refused.cause (sym c.of_observation.ensures ∙ failed));
    }

pub returns-in-Err-clause-stopped : goal.returns-in-Err-clause-stopped
returns-in-Err-clause-stopped g c =
    let source = c.args.feeder.now.stream.source in
    let old = plan_at c.args.feeder.now in
    let told = g.I.Inputs.told c.args.feeder.now.inputs.now in
    let told_now = g.I.Inputs.told c.begin.new.self.inputs.now in
    let starts = subst (λ s. AreStarts s (length old.names)) (sym c.requires.plan) c.requires.begin in
    let fault = c.in-Err.fault in
    let is = sym c.of_begin.ensures in
    let refused = c.in-Err.ensures.refused in
    record {
      kind = subst ComesFirst is (begin_comes fault);
      stopped = subst (StopsFirsts told old) is (stops_text told source starts fault refused);
      unread = λ want files are. absurd (no_want told source starts fault refused (is ∙ want) files are);
      broke = λ failed. breaks_first told source starts (g.I.Inputs.is_calm c.args.feeder.now.inputs.now) told_now
          (c.in-Err.ensures.broke (ap Err (fault_of_begin fault (is ∙ failed))));
    }
