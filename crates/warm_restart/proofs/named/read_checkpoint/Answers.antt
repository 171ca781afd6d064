-- The text that is judged is the one that the word names.
use Rattle.std.proofs.Common.{◌≡◌, ℕ, List, Bool, true, false, Option, Some, subst, sym, ap, ◌∙◌, length, take, arith}
use Rattle.std.specs.Prelude.{if◌then◌else◌}
use Rattle.std.specs.Str.{bytes_eq}
use Rattle.search_model.specs.Parts.{check_line}
use Rattle.warm_restart.specs.Checkpoint.{IsJudged, judged_place}
use Rattle.warm_restart.specs.Named.{new_word}
use Rattle.warm_restart.proofs.Judging.{judged_said, judged_by_first, accepted_can}
use Rattle.warm_restart.proofs.named.read_checkpoint.Goals as goal

-- the text of `new`
named_new : (is_new : Bool) (file : Option (List ℕ)) (text : List ℕ) → is_new ≡ true →
    (if is_new then Some (check_line 0 0) else file) ≡ Some text → check_line 0 0 ≡ text
named_new true file text new e = cc
named_new false file text new e = absurd cc

-- the text of a file
named_file : (is_new : Bool) (file : Option (List ℕ)) (text : List ℕ) → is_new ≡ false →
    (if is_new then Some (check_line 0 0) else file) ≡ Some text → file ≡ Some text
named_file true file text other e = absurd cc
named_file false file text other e = e

pub returns-then-eq-clause-judged : goal.returns-then-eq-clause-judged
returns-then-eq-clause-judged g c never text named =
    let new : bytes_eq c.args.word.now new_word ≡ true = sym c.eq.ensures ∙ c.if-eq.true in
    let line = named_new (bytes_eq c.args.word.now new_word) _ text new named in
    let said = c.lines_are_read_back.ensures.line (record { place = 0; pulses = 0 })
    (record { place = omega arith; pulses = omega arith }) in
    let judged = judged_said c.texts_say_one.ensures (check_line 0 0) c.args.until
    (record { place = 0; pulses = 0 }) said in
    let result = c.before-then-eq.ensures ∙ ap (judged_place c.args.until) c.first.ensures in
    subst (λ t. IsJudged t c.args.until c.before-then-eq.result) line
    (subst (λ r. IsJudged (check_line 0 0) c.args.until r) (sym result) judged)

pub returns-in-Ok-clause-judged : goal.returns-in-Ok-clause-judged
returns-in-Ok-clause-judged g c never text named =
    let other : bytes_eq c.args.word.now new_word ≡ false = sym c.eq.ensures ∙ c.if-eq.false in
    let file = named_file (bytes_eq c.args.word.now new_word) _ text other named in
    let first = c.in-Ok.ensures.first text file in
    let size : length c.read_first.new.space ≡ 65 = omega arith in
    judged_by_first c.texts_say_one.ensures (take c.in-Ok.n c.read_first.new.space) text c.args.until c.judge.result
    (first ∙ ap (λ (n : ℕ). take n text) size) c.judge.ensures.judged

pub returns-in-Ok-clause-within : goal.returns-in-Ok-clause-within
returns-in-Ok-clause-within g c = accepted_can _ c.args.until c.judge.result c.judge.ensures.judged

pub returns-then-eq-clause-late : goal.returns-then-eq-clause-late
returns-then-eq-clause-late g c place limit e =
    let said = c.lines_are_read_back.ensures.line (record { place = 0; pulses = 0 })
    (record { place = omega arith; pulses = omega arith }) in
    let judged = judged_said c.texts_say_one.ensures (check_line 0 0) c.args.until
    (record { place = 0; pulses = 0 }) said in
    let result = c.before-then-eq.ensures ∙ ap (judged_place c.args.until) c.first.ensures in
    let h = (judged.place place limit).0 (sym result ∙ e) in (h.3, h.4)

pub returns-in-Ok-clause-late : goal.returns-in-Ok-clause-late
returns-in-Ok-clause-late g c place limit e =
    let h = (c.judge.ensures.judged.place place limit).0 e in (h.3, h.4)
