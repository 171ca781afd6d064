-- What an event leaves of a ring.
use Rattle.std.specs.Prelude.{◌≡◌, ℕ, List, [], ◌∷◌, ◌++◌}
use Rattle.std.proofs.Common.{◌∙◌, refl, ap, sym, subst, arith}
use Rattle.ring_core.specs.Machine.{Machine, Event, Answer, Does, Runs}
use Rattle.ring_core.specs.State.{CoreState, IsSoundCore, Steps, RunsTo}
use Rattle.ring_core.specs.declared.Shape.{Shape}
use Rattle.ring_core.proofs.Kept.{does_keeps, does_readers}

-- the ring with its machine moved by an event
pub ring_by : (old : CoreState) (e : Event ℕ) (a : Answer ℕ) (m : Machine ℕ) → IsSoundCore old →
    Does old.shape.buffers old.shape.max_blocks old.machine e a m → IsSoundCore (record old { machine = m })
ring_by old e a m r does = record {
  two = r.two;
  few = r.few;
  short = r.short;
  all_readers = does_readers _ _ old.machine e a m does ∙ r.all_readers;
  sound = let short = r.short in does_keeps _ _ old.machine e a m (omega arith) r.sound does;
}

pub ring_after : (old : CoreState) (e : Event ℕ) (a : Answer ℕ) (new : CoreState) → IsSoundCore old →
    Steps old e a new → IsSoundCore new
ring_after old e a new r steps =
    let P : CoreState → Type 0 = λ x. IsSoundCore x in
    let same : new ≡ record old { machine = new.machine } =
    ap (λ (s : Shape). record { shape = s; machine = new.machine }) steps.shape in
    subst P (sym same) (ring_by old e a new.machine r steps.does)

-- a run goes on by one step
runs_on : (buffers limit : ℕ) (m : Machine ℕ) (events : List (Event ℕ)) (answers : List (Answer ℕ)) (n : Machine ℕ)
    (e : Event ℕ) (a : Answer ℕ) (n' : Machine ℕ) →
    Runs buffers limit m events answers n → Does buffers limit n e a n' →
    Runs buffers limit m (events ++ e ∷ []) (answers ++ a ∷ []) n'
runs_on buffers limit m [] [] n e a n' is does = (
  n',
  (let P : Machine ℕ → Type 0 =
      λ x. Does buffers limit x e a n' in subst P is does),
  refl,
)
runs_on buffers limit m [] (b ∷ answers) n e a n' runs does = absurd runs
runs_on buffers limit m (f ∷ events) [] n e a n' runs does = absurd runs
runs_on buffers limit m (f ∷ events) (b ∷ answers) n e a n' (k, first, runs) does =
    (k, first, runs_on buffers limit k events answers n e a n' runs does)

pub run_by : (old : CoreState) (events : List (Event ℕ)) (mid : CoreState) (e : Event ℕ) (a : Answer ℕ)
    (new : CoreState) → RunsTo old events mid → Steps mid e a new → RunsTo old (events ++ e ∷ []) new
run_by old events mid e a new runs steps = record {
  shape = steps.shape ∙ runs.shape;
  answers = runs.answers ++ a ∷ [];
  runs = runs_on old.shape.buffers old.shape.max_blocks old.machine events runs.answers mid.machine e a new.machine
      runs.runs
      (let P : Shape → Type 0 = λ s. Does s.buffers s.max_blocks mid.machine e a new.machine in
      subst P runs.shape steps.does);
}
