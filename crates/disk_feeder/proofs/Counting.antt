-- Counts of faults over several calls.
use Rattle.std.proofs.Common.{◌≡◌, ◌≢◌, ℕ, ◌+◌, ◌<◌, ◌≤◌, Option, Some, None, refl, sym, ap, ◌∙◌, arith}
use Rattle.psr_base.specs.Count.{Rose}
use Rattle.disk_feeder.specs.declared.answers.FeedEnd.{FeedEnd}
use Rattle.disk_feeder.specs.declared.answers.FeedEnd.TheVariants.{ReadFault}
use Rattle.disk_feeder.specs.declared.due.Due.{Due}
use Rattle.disk_feeder.specs.declared.due.Due.TheVariants.{Stopped}
use Rattle.disk_feeder.specs.Filling.{IsSince}
use Rattle.disk_feeder.specs.Streams.{steps_left}

pub rose_from : (k f f' : ℕ) → k ≤ f → Rose f f' → Rose k f'
rose_from k f f' below rose = omega arith

pub rose_more : (k f f' : ℕ) → Rose k f → f ≤ f' → Rose k f'
rose_more k f f' rose more = omega arith

-- nothing is due
pub not_due : (due : Option Due) → due ≡ None → due ≢ Some (Stopped ReadFault)
not_due due none is = absurd cc

-- it has not ended
pub not_ended : (end : Option FeedEnd) → end ≡ None → end ≢ Some ReadFault
not_ended end none is = absurd cc

-- another call while nothing was due, which failed only where the count rose
pub since_more : (k f f' : ℕ) (due due' : Option Due) (end end' : Option FeedEnd) → IsSince k f due end → f ≤ f' →
    due ≡ None → end ≡ None → end' ≡ end → (due' ≡ Some (Stopped ReadFault) → Rose f f') →
    (due' ≢ Some (Stopped ReadFault) → f' ≡ f) → IsSince k f' due' end'
since_more k f f' due due' end end' was more none running same failed quiet =
    let below = was.count in
    record {
      count = omega arith;
      due_failed = λ e. rose_from k f f' below (failed e);
      end_failed = λ e. rose_more k f f' (was.end_failed (sym same ∙ e)) more;
      due_quiet = λ runs fine. quiet fine ∙ was.due_quiet running (not_due due none);
      end_quiet = λ stop e other. absurd cc;
    }

pub fewer_steps : (due due' : Option Due) (work work' : ℕ) → due ≡ None → (due' ≡ None → work' < work) →
    steps_left due' work' < steps_left due work
fewer_steps due None work work' is less =
    let now = less refl in
    let e : steps_left due work ≡ work + 1 = ap (λ (d : Option Due). steps_left d work) is in
    omega arith
fewer_steps due (Some d) work work' is less =
    let e : steps_left due work ≡ work + 1 = ap (λ (d : Option Due). steps_left d work) is in
    omega arith
