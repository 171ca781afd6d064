use Rattle.std.proofs.Common.{Some, None, inr, refl, map}
use Rattle.std.specs.Prelude.{⊤, string_bytes}
use Rattle.psr_base.specs.Told.{Told}
use Rattle.warm_restart.specs.declared.checkpoint.Checkpoint.{Checkpoint}
use Rattle.psr_part.proofs.Endings.{at_words}
use Rattle.psr_part.specs.Part.{GoesOnFrom, check_names, part_search, searching}
use Rattle.psr_part.specs.Outcome.{AfterCheck}
use Rattle.psr_part.proofs.Said.{until_is}
use Rattle.psr_part.proofs.Runs.{goes_on, never, after_check, part_found, is_memory, check_read, where_refused, where_lone, where_driven}
use Rattle.psr_part.proofs.Moved.{where_calm}
use Rattle.psr_part.proofs.Faults.{not_words, not_memory, at_check, fails}
use Rattle.psr_part.proofs.top.search.Goals as goal
use Rattle.psr_part.proofs.top.search.Goals.{In-Ok-read_checkpoint}

-- a checkpoint was read that the part goes on from
goes : (g : _) (c : In-Ok-read_checkpoint g) →
    GoesOnFrom (g.I.Inputs.told c.args.inputs.now) (map string_bytes c.args.words.now)
    c.in-Ok-read_checkpoint.checkpoint
goes g c =
    let words = map string_bytes c.args.words.now in
    let read = c.in-Ok-read_checkpoint.ensures in
    goes_on (g.I.Inputs.told c.args.inputs.now) words c.check_of.result.now c.in-Ok.said.until _ c.check_of.ensures
    (until_is words c.in-Ok.said.until c.in-Ok.ensures.until) read.within.1 read.judged

-- and what comes after it
after : (g : _) (c : In-Ok-read_checkpoint g) (P : Checkpoint → Told → Type 0) →
    P c.in-Ok-read_checkpoint.checkpoint (g.I.Inputs.told c.read_checkpoint.new.inputs) →
    AfterCheck (map string_bytes c.args.words.now) (g.I.Inputs.told c.args.inputs.now) P
after g c P =
    let read = c.in-Ok-read_checkpoint.ensures in
    after_check g.I.Inputs.told _ c.check_of.result.now c.in-Ok-read_checkpoint.checkpoint c.args.inputs.now
    c.read_checkpoint.new.inputs c.check_of.ensures (goes g c)
    (λ new. (read.new new).0) read.read read.inputs.names P

pub returns-in-Err-clause-ends : goal.returns-in-Err-clause-ends
returns-in-Err-clause-ends g c =
    let words = map string_bytes c.args.words.now in
    let told = g.I.Inputs.told c.args.inputs.now in
    at_words _ _ _ (c.alone_at_words.ensures.with_more c.args.inputs.now told (check_names words)) c.in-Err.fault
    c.of_words.result
    c.in-Err.ensures.fault c.of_words.ensures refl _

pub returns-in-Err-read_checkpoint-clause-ends : goal.returns-in-Err-read_checkpoint-clause-ends
returns-in-Err-read_checkpoint-clause-ends g c =
    let words = map string_bytes c.args.words.now in
    let told = g.I.Inputs.told c.args.inputs.now in
    let read = c.in-Err-read_checkpoint.ensures in
    where_refused g.I.Inputs.told g.I.Inputs.is_calm g.I.Inputs.faults words c.args.inputs.now
    c.read_checkpoint.new.inputs
    _ c.check_of.result.now c.in-Ok.said.until c.check_of.ensures (until_is words c.in-Ok.said.until
    c.in-Ok.ensures.until)
    c.in-Ok.ensures.says c.in-Err-read_checkpoint.fault read.judged read.late read.inputs read.serves
    (c.alone_before_session.ensures.with_more c.args.inputs.now told (check_names words))
    (c.alone_at_own_stop.ensures.with_more c.args.inputs.now told (check_names words)) c.of_checkpoint.result
    c.of_checkpoint.ensures _

pub drive_alone-requires-clause-one : goal.drive_alone-requires-clause-one
drive_alone-requires-clause-one g c = (c.in-Ok.ensures.says c.in-Ok-read_checkpoint.checkpoint).search.one

pub finish-requires : goal.finish-requires
finish-requires g c = record {
  found = λ count is.
      let part = part_found _ _ c.in-Ok-drive_alone.found c.in-Ok-read_checkpoint.checkpoint c.in-Ok.said.until _ _
      c.in-Ok-read_checkpoint.ensures.within c.in-Ok.ensures.bound c.in-Ok.ensures.unfolded c.in-Ok.ensures.in_range
      c.of-scope.ensures.place c.of-scope.ensures.until c.in-Ok-drive_alone.ensures.found count is in
      (part.0, part.2);
}

pub returns-in-Ok-drive_alone-clause-ends : goal.returns-in-Ok-drive_alone-clause-ends
returns-in-Ok-drive_alone-clause-ends g c =
    let words = map string_bytes c.args.words.now in
    let told = g.I.Inputs.told c.args.inputs.now in
    let read = c.in-Ok-read_checkpoint.ensures in
    let driven = c.in-Ok-drive_alone.ensures in
    let from = c.in-Ok-read_checkpoint.checkpoint in
    let until = c.in-Ok.said.until in
    let says = c.in-Ok.ensures.says from in
    rw c.finish.ensures.blocks (where_driven g.I.Inputs.told g.I.Inputs.is_calm g.I.Inputs.faults words
    c.args.inputs.now c.read_checkpoint.new.inputs c.drive_alone.new.inputs _ _ from
    (goes g (goal.at.returns-in-Ok-drive_alone-clause-ends g c).In-Ok-read_checkpoint) says read.inputs
    (never from) c.in-Ok-drive_alone.found driven.inputs driven.serves (driven.fed _ _ says) driven.found.cleared
    driven.found.first c.words_say_once.ensures (c.alone_at_feed_stop.ensures.with_more c.args.inputs.now told
    (check_names words))
    (c.alone_after_whole.ensures.with_more c.args.inputs.now told (check_names words)) _ _ c.finish.result.stop
    c.finish.ensures.stopped
    until (until_is words until c.in-Ok.ensures.until) (λ count is.
    let part = part_found _ _ c.in-Ok-drive_alone.found from until _ _ read.within c.in-Ok.ensures.bound
    c.in-Ok.ensures.unfolded c.in-Ok.ensures.in_range c.of-scope.ensures.place c.of-scope.ensures.until driven.found
    count is in
    (part.0, part.1, c.finish.ensures.ended part.0 part.2)))

pub returns-in-Ok-drive_alone-clause-early : goal.returns-in-Ok-drive_alone-clause-early
returns-in-Ok-drive_alone-clause-early g c = λ is. absurd (c.finish.ensures.no_memory is)

pub returns-clause-ends : goal.returns-clause-ends
returns-clause-ends g c =
    let words = map string_bytes c.args.words.now in
    let told = g.I.Inputs.told c.args.inputs.now in
    let read = c.in-Ok-read_checkpoint.ensures in
    let driven = c.in-Err-drive_alone.ensures in
    let from = c.in-Ok-read_checkpoint.checkpoint in
    let says = c.in-Ok.ensures.says from in
    where_lone g.I.Inputs.told g.I.Inputs.is_calm g.I.Inputs.faults words c.args.inputs.now c.read_checkpoint.new.inputs
    c.drive_alone.new.inputs _ _ from (goes g (goal.at.returns-clause-ends g c).In-Ok-read_checkpoint) says read.inputs
    (never from) (λ o. ⊤)
    (λ o refusal. ⊥) c.in-Err-drive_alone.stop c.stop_of_run.result c.stop_of_run.ensures driven.inputs driven.serves
    (driven.stopped _ _ says) (c.alone_before_session.ensures.with_more c.args.inputs.now told (check_names words)) _

-- ---- what was read at want of memory, and what a fault of the inputs leaves

pub returns-in-Err-clause-broken : goal.returns-in-Err-clause-broken
returns-in-Err-clause-broken g c = λ is. absurd (not_words c.in-Err.fault c.of_words.result c.of_words.ensures is)

pub returns-in-Err-read_checkpoint-clause-early : goal.returns-in-Err-read_checkpoint-clause-early
returns-in-Err-read_checkpoint-clause-early g c = λ is.
    absurd (not_memory c.in-Err-read_checkpoint.fault c.of_checkpoint.result c.of_checkpoint.ensures is)

pub returns-in-Err-read_checkpoint-clause-broken : goal.returns-in-Err-read_checkpoint-clause-broken
returns-in-Err-read_checkpoint-clause-broken g c = λ is.
    let words = map string_bytes c.args.words.now in
    let told = g.I.Inputs.told c.args.inputs.now in
    let read = c.in-Err-read_checkpoint.ensures in
    at_check words (g.I.Inputs.is_calm c.args.inputs.now) c.check_of.result.now told
    (g.I.Inputs.told c.read_checkpoint.new.inputs) c.in-Err-read_checkpoint.fault c.of_checkpoint.result
    c.check_of.ensures (λ new. (read.new new).1) read.broke read.serves c.of_checkpoint.ensures is

pub returns-in-Ok-drive_alone-clause-broken : goal.returns-in-Ok-drive_alone-clause-broken
returns-in-Ok-drive_alone-clause-broken g c = λ is.
    let words = map string_bytes c.args.words.now in
    let from = c.in-Ok-read_checkpoint.checkpoint in
    rw c.finish.ensures.blocks
    (inr (after g (goal.at.returns-in-Ok-drive_alone-clause-broken g c).In-Ok-read_checkpoint _
    (where_calm (searching words from) words _ _ _ _ (Some c.in-Ok-drive_alone.found.blocks)
    c.in-Ok-read_checkpoint.ensures.inputs.calm
    (c.in-Ok-drive_alone.ensures.broken (c.finish.ensures.read_fault is) _ words (c.in-Ok.ensures.says from)))))

pub returns-clause-early : goal.returns-clause-early
returns-clause-early g c = λ is.
    let words = map string_bytes c.args.words.now in
    let from = c.in-Ok-read_checkpoint.checkpoint in
    let same = is_memory c.in-Err-drive_alone.stop c.stop_of_run.result c.stop_of_run.ensures is in
    inr (after g (goal.at.returns-clause-early g c).In-Ok-read_checkpoint _ ((rw same at
    (c.in-Err-drive_alone.ensures.unread (part_search words from) words (c.in-Ok.ensures.says from))) refl))

pub returns-clause-broken : goal.returns-clause-broken
returns-clause-broken g c = λ is.
    let words = map string_bytes c.args.words.now in
    let from = c.in-Ok-read_checkpoint.checkpoint in
    inr (after g (goal.at.returns-clause-broken g c).In-Ok-read_checkpoint _
    (where_calm (searching words from) words _ _ _ _ None c.in-Ok-read_checkpoint.ensures.inputs.calm
    (c.in-Err-drive_alone.ensures.broken
    (fails c.in-Err-drive_alone.stop c.stop_of_run.result c.stop_of_run.ensures is) _ words
    (c.in-Ok.ensures.says from))))

-- ---- what was read where the checkpoint is refused

pub returns-in-Err-read_checkpoint-clause-refused : goal.returns-in-Err-read_checkpoint-clause-refused
returns-in-Err-read_checkpoint-clause-refused g c = λ refusal is none.
    let words = map string_bytes c.args.words.now in
    let read = c.in-Err-read_checkpoint.ensures in
    check_read g.I.Inputs.told words c.check_of.result.now c.args.inputs.now c.read_checkpoint.new.inputs
    c.in-Err-read_checkpoint.fault c.of_checkpoint.result refusal c.check_of.ensures (λ new. (read.new new).0) read.read
    read.inputs.names c.of_checkpoint.ensures is

pub returns-in-Ok-drive_alone-clause-refused : goal.returns-in-Ok-drive_alone-clause-refused
returns-in-Ok-drive_alone-clause-refused g c = λ refusal is none.
    let some = c.finish.ensures.blocks in absurd cc
