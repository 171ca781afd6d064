-- What comes of a stream, by what is due and by its end.
use Rattle.std.proofs.Common.{◌≡◌, ◌≢◌, ℕ, inl, inr, Option, Some, None, ap, ◌∙◌, refl}
use Rattle.std.proofs.lemmas.Bool.{cases_eq}
use Rattle.psr_base.specs.Told.{Told}
use Rattle.disk_feeder.specs.declared.answers.FeedEnd.{FeedEnd}
use Rattle.disk_feeder.specs.declared.answers.FeedEnd.TheVariants.{ReadFault}
use Rattle.disk_feeder.specs.declared.due.Due.{Due}
use Rattle.disk_feeder.specs.declared.due.Due.TheVariants.{Full, Last, Stopped}
use Rattle.disk_feeder.specs.declared.place.Place.{Place}
use Rattle.disk_feeder.specs.declared.stream.Stream.{Stream}
use Rattle.disk_feeder.specs.declared.answers.FeedTurn.{FeedTurn}
use Rattle.disk_feeder.specs.declared.answers.FeedTurn.TheVariants.{Moved, Waiting, Ended}
use Rattle.disk_feeder.specs.declared.source.Source.{Source}
use Rattle.disk_feeder.specs.Feeding.{GoesOn}
use Rattle.disk_feeder.specs.History.{Fate, Running, Over, fate, fate_of, IsFated, ReadsUpTo, BreaksOffAt}
use Rattle.disk_feeder.specs.Plan.{Plan}
use Rattle.disk_feeder.specs.Sources.{plan_of}
use Rattle.disk_feeder.specs.Streams.{StreamRead}

pub fate_in : (due due' : Option Due) (end end' : Option FeedEnd) → due ≡ due' → end ≡ end' →
    fate due end ≡ fate due' end'
fate_in due due' end end' d e = ap (λ (x : Option Due). fate x end) d ∙ ap (fate due') e

pub goes_on : (due : Option Due) (end : Option FeedEnd) → due ≡ None → end ≡ None → fate due end ≡ Running
goes_on due end d e = rw (d, e) refl

pub is_full : (due : Option Due) (end : Option FeedEnd) → due ≡ Some Full → end ≡ None → fate due end ≡ Running
is_full due end d e = rw (d, e) refl

pub is_last : (due : Option Due) (end : Option FeedEnd) → due ≡ Some Last → end ≡ None → fate due end ≡ Running
is_last due end d e = rw (d, e) refl

pub is_stopped : (due : Option Due) (end : Option FeedEnd) (stop : FeedEnd) → due ≡ Some (Stopped stop) → end ≡ None →
    fate due end ≡ fate_of stop
is_stopped due end stop d e = rw (d, e) refl

pub has_ended : (due : Option Due) (end : Option FeedEnd) (stop : FeedEnd) → end ≡ Some stop →
    fate due end ≡ fate_of stop
has_ended due end stop e = rw e refl

-- a block that holds more: it is full, or nothing is due
pub held_goes_on : (held size : ℕ) (due old : Option Due) (end : Option FeedEnd) → (held ≡ size → due ≡ Some Full) →
    (held ≢ size → due ≡ old) → old ≡ None → end ≡ None → fate due end ≡ Running
held_goes_on held size due old end full more none running =
    elim (cases_eq held size) [
      | inl same ↦ is_full due end (full same) running
      | inr other ↦ goes_on due end (more other ∙ none) running
    ]

-- it is no fault
pub held_is_calm : (held size : ℕ) (due old : Option Due) (end : FeedEnd) → (held ≡ size → due ≡ Some Full) →
    (held ≢ size → due ≡ old) → old ≡ None → due ≡ Some (Stopped end) → ⊥
held_is_calm held size due old end full more none stopped =
    elim (cases_eq held size) [
      | inl same ↦ let now = full same in absurd cc
      | inr other ↦ let still = more other in absurd cc
    ]

-- what an end leaves that is a fault, or none
pub at_stop : (stop : FeedEnd) (plan : Plan) (before told : Told) (at : Place) →
    (stop ≡ ReadFault → BreaksOffAt plan before told at) → IsFated (fate_of stop) plan before told at
at_stop ReadFault plan before told at broke = broke refl
at_stop stop plan before told at broke = tt

-- a stream of this fate
pub of_fate : (s : Stream) (f : Fate) (before told : Told) → fate s.due s.end ≡ f → StreamRead before told s →
    IsFated f (plan_of s.source) before told s.source.place
of_fate s f before told is read = rw (← is) read

-- so it is in the words of another plan and place
pub to_fate : (s : Stream) (f : Fate) (plan : Plan) (at : Place) (before told : Told) → fate s.due s.end ≡ f →
    plan_of s.source ≡ plan → s.source.place ≡ at → IsFated f plan before told at → StreamRead before told s
to_fate s f plan at before told is same here read = rw (is, same, here) read

-- plans of the same files
pub same_files : (p q : Plan) (before told : Told) (at : Place) → q.names ≡ p.names → q.starts ≡ p.starts →
    q.max_bytes ≡ p.max_bytes → ReadsUpTo p before told at → ReadsUpTo q before told at
same_files p q before told at names starts limit reads =
    record { known = rw (names, starts, limit) reads.known; through = rw (names, starts, limit) reads.through }

-- the same of the files that another state of the source reads
pub reads_of : (mid next : Source) (plan : Plan) (before told : Told) → mid ≡ next → plan_of next ≡ plan →
    ReadsUpTo plan before told next.place → ReadsUpTo (plan_of mid) before told mid.place
reads_of mid next plan before told source same reads = rw (source, same) reads

-- after the last block of a transfer
pub after_last : (mid new : Stream) (turn : FeedTurn) (before told : Told) → GoesOn mid new turn →
    new.source ≡ mid.source → new.due ≡ mid.due → mid.due ≡ None →
    ReadsUpTo (plan_of mid.source) before told mid.source.place → StreamRead before told new
after_last mid new Moved before told goes source due none reads =
    to_fate new Running (plan_of mid.source) mid.source.place before told
    (goes_on new.due new.end (due ∙ none) goes.2) (ap plan_of source) (ap (λ (x : Source). x.place) source) reads
after_last mid new (Waiting reader cleared) before told goes source due none reads = absurd goes
after_last mid new (Ended end) before told goes source due none reads =
    to_fate new Over (plan_of new.source) new.source.place before told
    (has_ended new.due new.end end goes.2 ∙ ap fate_of goes.1) refl refl tt
