use Rattle.std.proofs.Common.{◌≡◌, List, ℕ, None, Some, refl, sym, ◌∙◌, subst, map}
use Rattle.std.specs.Prelude.{Option, string_bytes}
use Rattle.search_words.specs.Settings.{settings_seen}
use Rattle.channel_mask.specs.Masks.{mask_of}
use Rattle.run_outcome.specs.Conversions.{stop_of_feed}
use Rattle.run_outcome.specs.declared.stop.Stop.{Stop}
use Rattle.run_outcome.specs.declared.stop.Stop.TheVariants.{Memory}
use Rattle.drive_lone.specs.declared.stop.LoneStop.TheVariants.{Run, Unscoped}
use Rattle.drive_lone.specs.Found.{IsFoundAlone}
use Rattle.drive_lone.specs.Stops.{StopsAlone}
use Rattle.psr_mask.specs.Ends.{as_alone}
use Rattle.psr_mask.specs.Masking.{mask_search, mask_word, AcceptsMask, RefusesMask, ScopesMask}
use Rattle.psr_mask.specs.declared.refusal.MaskRefusal.{MaskRefusal}
use Rattle.psr_mask.proofs.Faults.{not_words, fails, of_alone}
use Rattle.psr_mask.proofs.Endings.{at_words, before_session, after_session, answered_so, holds, memory_is_early}
use Rattle.psr_mask.proofs.top.search.Goals as goal

pub returns-in-Err-clause-ends : goal.returns-in-Err-clause-ends
returns-in-Err-clause-ends g c =
    at_words _ _ _ c.in-Err.fault c.of_words.result _ c.of_words.ensures
    (c.alone_at_words.ensures.plain c.args.inputs.now _ _ _ _ c.in-Err.fault c.of_words.result c.in-Err.ensures.fault
    c.of_words.ensures refl)

pub write_end-stop-requires : goal.write_end-stop-requires
write_end-stop-requires g c = λ count whole.
    let words = map string_bytes c.args.words.now in
    let told = g.I.Inputs.told c.args.inputs.now in
    let s = settings_seen c.in-Ok.settings in
    let found = c.in-Ok-drive_alone.found in
    let is = subst (λ (text : List ℕ). IsFoundAlone (ScopesMask text) s told found) c.mask_word.ensures
    c.in-Ok-drive_alone.ensures.found in
    let all = is.held count whole in
    let kept = holds words told s found is c.in-Ok.ensures.in_range.search all in
    (mask_of found.observation (mask_word words), all.bytes, kept)

pub returns-in-Ok-drive_alone-clause-ends : goal.returns-in-Ok-drive_alone-clause-ends
returns-in-Ok-drive_alone-clause-ends g c =
    let words = map string_bytes c.args.words.now in
    let told = g.I.Inputs.told c.args.inputs.now in
    let s = settings_seen c.in-Ok.settings in
    let found = c.in-Ok-drive_alone.found in
    let r = c.in-Ok-drive_alone.ensures in
    let says = c.in-Ok.ensures.says in
    let is = subst (λ (text : List ℕ). IsFoundAlone (ScopesMask text) s told found) c.mask_word.ensures r.found in
    answered_so _ _ _ _ _ c.write_end-stop.result _ _ c.as_stop.ensures
    (after_session words _ _ c.words_say_once.ensures s found is (record {
      says = says;
      fed = r.fed (mask_search words) words says;
      read = record { rose = r.inputs.rose; quiet = r.inputs.quiet; count = r.inputs.count; serves = r.serves };
      cleared = is.cleared;
    })
    (c.alone_at_feed_stop.ensures.plain c.args.inputs.now) (c.alone_after_whole.ensures.plain c.args.inputs.now)
    c.in-Ok.ensures.in_range.search _ _ c.write_end-stop.result c.write_end-stop.ensures.stopped
    c.write_end-stop.ensures.ended (stop_of_feed found.feed) refl)

pub returns-clause-ends : goal.returns-clause-ends
returns-clause-ends g c =
    let words = map string_bytes c.args.words.now in
    let told = g.I.Inputs.told c.args.inputs.now in
    let s = settings_seen c.in-Ok.settings in
    let r = c.in-Err-drive_alone.ensures in
    let says = c.in-Ok.ensures.says in
    let stop = c.in-Err-drive_alone.stop in
    before_session words _ _ s says (c.alone_before_session.ensures.plain c.args.inputs.now)
    (c.alone_at_own_stop.ensures.plain c.args.inputs.now) stop _
    (subst (λ (text : List ℕ). StopsAlone (AcceptsMask text) (RefusesMask text) (mask_search words) words told stop)
    c.mask_word.ensures (r.stopped (mask_search words) words says))
    (record { rose = r.inputs.rose; quiet = r.inputs.quiet; count = r.inputs.count; serves = r.serves })
    (g.I.Inputs.told c.drive_alone.new.inputs) (λ failed. r.broken failed (mask_search words) words says)

pub returns-in-Ok-drive_alone-clause-early : goal.returns-in-Ok-drive_alone-clause-early
returns-in-Ok-drive_alone-clause-early g c = λ is.
    absurd (memory_is_early _ _ _ _ _ _ _ (returns-in-Ok-drive_alone-clause-ends g c) is)

pub returns-clause-early : goal.returns-clause-early
returns-clause-early g c = λ is.
    let words = map string_bytes c.args.words.now in
    let same : c.in-Err-drive_alone.stop ≡ Run Memory = cc in
    (rw same at (c.in-Err-drive_alone.ensures.unread (mask_search words) words c.in-Ok.ensures.says)) refl

-- ---- what was read where the mask is refused

pub returns-clause-refused : goal.returns-clause-refused
returns-clause-refused g c = λ refusal is.
    let words = map string_bytes c.args.words.now in
    let same : c.in-Err-drive_alone.stop ≡ Unscoped refusal = cc in
    rw same at (c.in-Err-drive_alone.ensures.unread (mask_search words) words c.in-Ok.ensures.says)

pub returns-in-Ok-drive_alone-clause-refused : goal.returns-in-Ok-drive_alone-clause-refused
returns-in-Ok-drive_alone-clause-refused g c = λ refusal is.
    absurd (no_refusal c.write_end-stop.result refusal (sym c.as_stop.ensures ∙ is))
  where
    no_refusal : (stop : Option Stop) (refusal : MaskRefusal) → as_alone stop ≡ Some (Unscoped refusal) → ⊥
    no_refusal None refusal e = cc
    no_refusal (Some stop) refusal e = cc

-- ---- what a fault of the inputs leaves

pub returns-in-Err-clause-broken : goal.returns-in-Err-clause-broken
returns-in-Err-clause-broken g c = λ is. absurd (not_words c.in-Err.fault c.of_words.result c.of_words.ensures is)

pub returns-in-Ok-drive_alone-clause-broken : goal.returns-in-Ok-drive_alone-clause-broken
returns-in-Ok-drive_alone-clause-broken g c = λ failed.
    let words = map string_bytes c.args.words.now in
    let stopped = of_alone c.write_end-stop.result (sym c.as_stop.ensures ∙ failed) in
    c.in-Ok-drive_alone.ensures.broken (c.write_end-stop.ensures.read_fault stopped) (mask_search words) words
    c.in-Ok.ensures.says

pub returns-clause-broken : goal.returns-clause-broken
returns-clause-broken g c = λ is.
    let words = map string_bytes c.args.words.now in
    c.in-Err-drive_alone.ensures.broken (fails c.in-Err-drive_alone.stop is) (mask_search words) words
    c.in-Ok.ensures.says
