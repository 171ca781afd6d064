-- The steps of orders read and write within the lists.
use Rattle.std.proofs.Common.{◌≡◌, ◌≢◌, ℕ, suc, ◌+◌, ◌*◌, ◌≤◌, ◌<◌, true, false, Bool, List, [], ◌∷◌, ◌++◌, Some, length, slice_get, slice_index, slice_index_or, refl, arith, sym, ap, subst, ◌∙◌, inl, inr}
use Rattle.std.proofs.lemmas.Bool.{cases_lt}
use Rattle.std.proofs.lemmas.List.{get_or_append_left, length_push}
use Rattle.std.proofs.lemmas.Option.{slice_get-get_or}
use Rattle.std.proofs.Math.Nat.{mul-le-mul_right, suc-mul}
use Rattle.std.proofs.Math.Seq.{get_or-append_seam}
use Rattle.row_model.specs.declared.Merge.{Merge}
use Rattle.row_model.specs.declared.Rows.{Rows}
use Rattle.row_model.specs.declared.Source.{Source}
use Rattle.row_model.specs.declared.Source.TheVariants.{Channel, Sum}
use Rattle.row_model.specs.Sums.{is_narrow}
use Rattle.row_model.specs.Tails.{AreRows}
use Rattle.row_schedule.specs.declared.builder.Order.{Order}
use Rattle.row_schedule.specs.declared.step.Kind.{Kind}
use Rattle.row_schedule.specs.declared.step.Step.{Step}
use Rattle.row_schedule.specs.Orders.{AreInOrder, StandsBeside, order_at, holds}
use Rattle.row_schedule.specs.Marks.{AreMadeOnce, slot_of}
use Rattle.row_schedule.specs.Schedules.{Scheduled}
use Rattle.row_schedule.specs.Steps.{AreApart, IsSafe, PartFits, StepFits, copies, kept_size_of, lower_narrow, makes_narrow, size_of, step_at, upper_narrow}
use Rattle.row_schedule.specs.Layout.{AreHolds, AreLaid, AreSizes, AreWithin, hold_of, kept_room, slot_narrow, tail_of}
use Rattle.row_schedule.specs.Follows.{AddsRows, AreSteps, BeginsAt, IsStep, StandApart}
use Rattle.row_schedule.proofs.Holding.{MakesIn, holds_made, held_found, slot_at, row_at}
use Rattle.row_schedule.proofs.Keeping.{hold_within}

pub once_of : (rows : Rows) (narrow slots : List Bool) (orders : List Order) → AreInOrder rows narrow slots orders →
    AreMadeOnce orders
once_of rows narrow slots orders are j lt = (are j lt).once

pub within_of : (rows : Rows) (narrow slots : List Bool) (orders : List Order) →
    AreInOrder rows narrow slots orders → AreWithin rows orders (length slots)
within_of rows narrow slots orders are j lt = ((are j lt).row, (are j lt).slot)

-- after the first j orders a slot other than `own` has row r
pub record Stands (narrow slots : List Bool) (orders : List Order) (j own r : ℕ) : Type 0 where
  pub slot : ℕ
  pub has : holds orders j slot ≡ Some r
  pub other : slot ≢ own
  pub there : slot < length slots
  pub found : slot_of orders (length orders) r ≡ Some slot
  pub width : slot_narrow slots slot ≡ is_narrow narrow r

pub stands_of : (rows : Rows) (narrow slots : List Bool) (orders : List Order) (j own r : ℕ) →
    AreInOrder rows narrow slots orders → j ≤ length orders → StandsBeside orders j own r →
    Stands narrow slots orders j own r
stands_of rows narrow slots orders j own r are le (slot, has, other) =
    let m : MakesIn orders j slot r = holds_made orders j slot r has in
    let before = m.before in
    let ready = are m.number (omega arith) in
    record {
      slot = slot;
      has = has;
      other = other;
      there = subst (λ s. s < length slots) m.slot_is ready.slot;
      found = held_found orders (length orders) j slot r (once_of rows narrow slots orders are) le (omega arith) has;
      width = ap (slot_narrow slots) (sym m.slot_is) ∙ ready.width ∙ ap (is_narrow narrow) m.row_is;
    }

-- a part of each of two stretches that stand apart
shorter : (a n b m a' n' m' : ℕ) → a ≤ a' → a' + n' ≤ a + n → m' ≤ m → AreApart a n b m → AreApart a' n' b m'
shorter a n b m a' n' m' from to less (inl before) = inl (omega arith)
shorter a n b m a' n' m' from to less (inr after) = inr (omega arith)

-- rows in different slots of a width stand apart
pub stand_apart : (rows : Rows) (s : Scheduled) (sizes : List ℕ) →
    AreLaid s.slots sizes (length s.slots) s.places s.narrow_size s.wide_size →
    AreSizes rows s.orders (length s.slots) s.most sizes → AreWithin rows s.orders (length s.slots) → StandApart rows s
stand_apart rows s sizes laid are within i j in_i in_j other same =
    let first = are.enough i in_i in
    let second = are.enough j in_j in
    shorter _ _ _ _ _ _ _ (omega arith) (omega arith) second
    (laid.apart (slot_at s.orders i) (slot_at s.orders j) (within i in_i).1 (within j in_j).1 other same)

-- what a step makes is within its list
own_fits : (rows : Rows) (s : Scheduled) (sizes : List ℕ) (j : ℕ) (step : Step) → j < length s.orders →
    AreInOrder rows s.narrow s.slots s.orders →
    AreLaid s.slots sizes (length s.slots) s.places s.narrow_size s.wide_size →
    AreSizes rows s.orders (length s.slots) s.most sizes → IsStep rows s.narrow s.orders s.places s.chunk j step →
    step.out + (step.tail + s.most) ≤ size_of s (makes_narrow step.kind)
own_fits rows s sizes j step lt order laid are is =
    let ready = order j lt in
    let out = is.out in
    let tail = is.tail in
    let enough = are.enough j lt in
    let within = laid.within (slot_at s.orders j) ready.slot in
    let width : slot_narrow s.slots (slot_at s.orders j) ≡ makes_narrow step.kind = ready.width ∙ sym is.width in
    let e : size_of s (slot_narrow s.slots (slot_at s.orders j)) ≡ size_of s (makes_narrow step.kind) =
    ap (size_of s) width in
    omega arith

pub kept_size : (rows : Rows) (s : Scheduled) (w : Bool) →
    AreHolds rows s.narrow s.held s.kept_narrow_size s.kept_wide_size → kept_size_of s w ≡ kept_room rows s.narrow w
kept_size rows s true holds = holds.narrow_end
kept_size rows s false holds = holds.wide_end

-- and what is kept of its row
kept_fits : (rows : Rows) (s : Scheduled) (j : ℕ) (step : Step) → j < length s.orders →
    AreInOrder rows s.narrow s.slots s.orders →
    AreHolds rows s.narrow s.held s.kept_narrow_size s.kept_wide_size →
    IsStep rows s.narrow s.orders s.places s.chunk j step → step.hold + step.tail ≤ kept_size_of s (makes_narrow step.kind)
kept_fits rows s j step lt order holds is =
    let hold = is.hold in
    let tail = is.tail in
    let within = hold_within rows s.narrow (is_narrow s.narrow (row_at s.orders j)) (row_at s.orders j)
    (order j lt).row refl in
    let room = kept_size rows s (is_narrow s.narrow (row_at s.orders j)) holds in
    let size = ap (kept_size_of s) is.width in
    omega arith

-- a row that is added is within its list, and apart from what the step makes
part_fits : (rows : Rows) (s : Scheduled) (sizes : List ℕ) (j : ℕ) (step : Step) (r late place : ℕ) (width : Bool) →
    j < length s.orders → AreInOrder rows s.narrow s.slots s.orders →
    AreLaid s.slots sizes (length s.slots) s.places s.narrow_size s.wide_size →
    AreSizes rows s.orders (length s.slots) s.most sizes → IsStep rows s.narrow s.orders s.places s.chunk j step →
    width ≡ is_narrow s.narrow r → late ≤ tail_of rows r →
    BeginsAt rows s.orders s.places j r (place + late) → PartFits s step width place
part_fits rows s sizes j step r late place width lt order laid are is width_is le at =
    let m : MakesIn s.orders j at.slot r = holds_made s.orders j at.slot r at.has in
    let before = m.before in
    let in_i : m.number < length s.orders = omega arith in
    let ready = order m.number in_i in
    let place_is = at.place in
    let slot_is = m.slot_is in
    let row_is = m.row_is in
    let tail_is : tail_of rows (row_at s.orders m.number) ≡ tail_of rows r = ap (tail_of rows) row_is in
    let at_is : slice_index s.places (slot_at s.orders m.number) ≡ slice_index s.places at.slot =
    ap (slice_index s.places) slot_is in
    let enough = are.enough m.number in_i in
    let within = laid.within (slot_at s.orders m.number) ready.slot in
    let widths : slot_narrow s.slots (slot_at s.orders m.number) ≡ width =
    ready.width ∙ ap (is_narrow s.narrow) row_is ∙ sym width_is in
    let e : size_of s (slot_narrow s.slots (slot_at s.orders m.number)) ≡ size_of s width = ap (size_of s) widths in
    let apart = stand_apart rows s sizes laid are (within_of rows s.narrow s.slots s.orders order) in
    record {
      within = omega arith;
      apart = λ same.
          let other : slot_at s.orders m.number ≢ slot_at s.orders j = λ e. at.other (sym slot_is ∙ e) in
          let both : slot_narrow s.slots (slot_at s.orders m.number) ≡ slot_narrow s.slots (slot_at s.orders j) =
          widths ∙ same ∙ is.width ∙ sym (order j lt).width in
          let out : step.out ≡ slice_index s.places (slot_at s.orders j) = is.out in
          let tail : step.tail ≡ tail_of rows (row_at s.orders j) = is.tail in
          rw (out, tail) (shorter _ _ _ _ _ _ _ (omega arith) (omega arith) (omega arith)
          (apart m.number j in_i lt other both));
    }

-- the samples of a channel are there
channel_fits : (c channels chunk : ℕ) → c < channels → c * chunk + chunk ≤ channels * chunk
channel_fits c channels chunk lt =
    let more : suc c * chunk ≤ channels * chunk = mul-le-mul_right chunk lt in
    let e = suc-mul c chunk in
    omega arith

pub step_fits : (rows : Rows) (s : Scheduled) → AreRows s.channels rows → (sizes : List ℕ) (j : ℕ) (step : Step) →
    j < length s.orders → AreInOrder rows s.narrow s.slots s.orders → AreHolds rows s.narrow s.held s.kept_narrow_size s.kept_wide_size →
    AreLaid s.slots sizes (length s.slots) s.places s.narrow_size s.wide_size →
    AreSizes rows s.orders (length s.slots) s.most sizes → IsStep rows s.narrow s.orders s.places s.chunk j step →
    StepFits s step
step_fits rows s rows_are sizes j step lt order kept laid are is =
    let source = slice_get-get_or rows.sources.items (row_at s.orders j) (Channel 0) (order j lt).row in
    by_source (slice_index_or rows.sources.items (row_at s.orders j) (Channel 0)) source
  where
    by_source : (source : Source) → slice_get rows.sources.items (row_at s.orders j) ≡ Some source → StepFits s step
    by_source (Channel c) e =
        let copy = is.channel c e in
        let from = copy.from in
        let some = channel_fits c s.channels s.chunk (rows_are.channel (row_at s.orders j) c e) in
        record {
          own = own_fits rows s sizes j step lt order laid are is;
          kept = kept_fits rows s j step lt order kept is;
          samples = λ _. omega arith;
          upper = λ not_copy. absurd (let both : true ≡ false = sym copy.copies_it ∙ not_copy in cc);
          lower = λ not_copy. absurd (let both : true ≡ false = sym copy.copies_it ∙ not_copy in cc);
        }
    by_source (Sum m) e =
        let adds = is.sum m e in
        let merge = rows_are.merge (row_at s.orders j) m e in
        let at = adds.lower in
        record {
          own = own_fits rows s sizes j step lt order laid are is;
          kept = kept_fits rows s j step lt order kept is;
          samples = λ copy. absurd (let both : true ≡ false = sym copy ∙ adds.adds in cc);
          upper = λ _. part_fits rows s sizes j step m.upper m.late step.upper (upper_narrow step.kind) lt order laid
              are is adds.upper_width merge.enough adds.upper;
          lower = λ _. part_fits rows s sizes j step m.lower 0 step.lower (lower_narrow step.kind) lt order laid are
              is adds.lower_width (omega arith)
              (let e : step.lower ≡ step.lower + 0 = omega arith in
              subst (λ p. BeginsAt rows s.orders s.places j m.lower p) e at);
        }

-- a step that copies samples
pub copy_step_is : (rows : Rows) (narrow : List Bool) (orders : List Order) (places : List ℕ) (chunk j : ℕ) (o : Order)
    (kind : Kind) (tail hold lower c : ℕ) → o ≡ order_at orders j →
    slice_get rows.sources.items o.row ≡ Some (Channel c) → copies kind ≡ true →
    makes_narrow kind ≡ is_narrow narrow o.row → tail ≡ tail_of rows o.row →
    hold ≡ hold_of rows narrow (is_narrow narrow o.row) o.row → IsStep rows narrow orders places chunk j (record {
      kind = kind;
      tail = tail;
      out = slice_index places o.slot;
      hold = hold;
      upper = c * chunk;
      lower = lower;
    })
copy_step_is rows narrow orders places chunk j o kind tail hold lower c is source copy width tail_is hold_is = record {
  out = ap (λ (o : Order). slice_index places o.slot) is;
  tail = tail_is ∙ ap (λ (o : Order). tail_of rows o.row) is;
  hold = hold_is ∙ ap (λ (o : Order). hold_of rows narrow (is_narrow narrow o.row) o.row) is;
  width = width ∙ ap (λ (o : Order). is_narrow narrow o.row) is;
  channel = λ d e.
      let both = sym source ∙ ap (λ (o : Order). slice_get rows.sources.items o.row) is ∙ e in
      let same : c ≡ d = cc in
      record { copies_it = copy; from = ap (λ c. c * chunk) same };
  sum = λ m e.
      absurd (let both = sym source ∙ ap (λ (o : Order). slice_get rows.sources.items o.row) is ∙ e in cc);
}

-- and one that adds two rows
pub sum_step_is : (rows : Rows) (narrow slots : List Bool) (orders : List Order) (places : List ℕ) (chunk j : ℕ)
    (o : Order) (kind : Kind) (tail hold upper lower : ℕ) (m : Merge)
    (up : Stands narrow slots orders j (slot_at orders j) m.upper)
    (low : Stands narrow slots orders j (slot_at orders j) m.lower) → o ≡ order_at orders j →
    slice_get rows.sources.items (row_at orders j) ≡ Some (Sum m) → copies kind ≡ false →
    makes_narrow kind ≡ is_narrow narrow o.row → upper_narrow kind ≡ is_narrow narrow m.upper →
    lower_narrow kind ≡ is_narrow narrow m.lower → tail ≡ tail_of rows o.row →
    hold ≡ hold_of rows narrow (is_narrow narrow o.row) o.row →
    upper + m.late ≡ slice_index places up.slot + tail_of rows m.upper →
    lower ≡ slice_index places low.slot + tail_of rows m.lower → IsStep rows narrow orders places chunk j (record {
      kind = kind;
      tail = tail;
      out = slice_index places o.slot;
      hold = hold;
      upper = upper;
      lower = lower;
    })
sum_step_is rows narrow slots orders places chunk j o kind tail hold upper lower m up low is source adds width
    upper_width lower_width tail_is hold_is upper_is lower_is = record {
      out = ap (λ (o : Order). slice_index places o.slot) is;
      tail = tail_is ∙ ap (λ (o : Order). tail_of rows o.row) is;
      hold = hold_is ∙ ap (λ (o : Order). hold_of rows narrow (is_narrow narrow o.row) o.row) is;
      width = width ∙ ap (λ (o : Order). is_narrow narrow o.row) is;
      channel = λ d e. absurd (let both = sym source ∙ e in cc);
      sum = λ m' e.
          let both = sym source ∙ e in
          let same : m ≡ m' = cc in
          subst (λ m. AddsRows rows narrow orders places j m (record {
            kind = kind;
            tail = tail;
            out = slice_index places o.slot;
            hold = hold;
            upper = upper;
            lower = lower;
          })) same (record {
            adds = adds;
            upper_width = upper_width;
            lower_width = lower_width;
            upper = record { slot = up.slot; has = up.has; other = up.other; place = upper_is };
            lower = record { slot = low.slot; has = low.has; other = low.other; place = lower_is };
          });
    }

-- one step more
pub steps_more : (rows : Rows) (narrow : List Bool) (orders : List Order) (places : List ℕ) (chunk j : ℕ)
    (steps steps' : List Step) (step : Step) → AreSteps rows narrow orders places chunk steps → length steps ≡ j →
    steps' ≡ steps ++ step ∷ [] → IsStep rows narrow orders places chunk j step →
    AreSteps rows narrow orders places chunk steps'
steps_more rows narrow orders places chunk j steps steps' step are long items is i lt =
    let more = ap length items ∙ length_push steps step in
    elim (cases_lt i j) [
      | inl before ↦
          let e : step_at steps' i ≡ step_at steps i =
          ap (λ xs. step_at xs i) items ∙ get_or_append_left steps (step ∷ []) _ i (omega arith) in
          subst (λ s. IsStep rows narrow orders places chunk i s) (sym e) (are i (omega arith))
      | inr last ↦
          let e : j ≡ i = omega arith in
          let here : step_at steps' j ≡ step =
          ap (λ k. step_at steps' k) (sym long) ∙ ap (λ xs. step_at xs (length steps)) items
          ∙ get_or-append_seam steps step [] _ in
          subst (λ k. IsStep rows narrow orders places chunk k (step_at steps' k)) e
          (subst (λ s. IsStep rows narrow orders places chunk j s) (sym here) is)
    ]

-- what was laid is safe, and follows the orders
pub is_safe : (rows : Rows) (s : Scheduled) → AreRows s.channels rows → (sizes : List ℕ) →
    AreInOrder rows s.narrow s.slots s.orders → AreHolds rows s.narrow s.held s.kept_narrow_size s.kept_wide_size →
    AreLaid s.slots sizes (length s.slots) s.places s.narrow_size s.wide_size →
    AreSizes rows s.orders (length s.slots) s.most sizes → length s.steps ≡ length s.orders →
    AreSteps rows s.narrow s.orders s.places s.chunk s.steps → s.most ≤ s.chunk → IsSafe s
is_safe rows s rows_are sizes order kept laid are entries steps within = record {
  entries = entries;
  slot_entries = laid.entries;
  within = within;
  fit = λ j lt.
      step_fits rows s rows_are sizes j (step_at s.steps j) (omega arith) order kept laid are (steps j lt);
}
