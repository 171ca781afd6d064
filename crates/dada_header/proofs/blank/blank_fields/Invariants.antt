use Rattle.std.proofs.Common.{◌-◌, length}
use Rattle.dada_header.proofs.Edits.{IsBlankTo}
use Rattle.dada_header.proofs.blank.blank_fields.Given as goal

abbrev pub invariant-loop-text : goal.invariant-loop-text
invariant-loop-text l = IsBlankTo l.key l.initial.text l.text l.from

abbrev pub decreases-loop-text : goal.decreases-loop-text
decreases-loop-text l = length l.initial.text - l.from
