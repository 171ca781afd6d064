use Rattle.std.proofs.Common.{◌≡◌, length, drop}
use Rattle.std.specs.Prelude.{codes}
use Rattle.stream_model.specs.Recorded.{has_form, is_time}
use Rattle.dada_recorder.proofs.changes.has_time_form.Given as goal

abbrev pub invariant-loop-i : goal.invariant-loop-i
invariant-loop-i l =
    (length l.text ≡ 19) × (has_form (drop l.i (codes "0000-00-00-00:00:00")) (drop l.i l.text) ≡ is_time l.text)
