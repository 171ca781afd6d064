use Rattle.std.proofs.Common.{◌≡◌, ◌+◌, ◌-◌, ◌≤◌, ℕ, List, ◌++◌, Option, Some, Ok, length, take, drop, refl, ◌∙◌, ap, arith, length-drop}
use Rattle.std.proofs.lemmas.List.{length-take}
use Rattle.dada_model.specs.Fields.{HeaderText, header_of}
use Rattle.dada_header.specs.Faults.{IsSizeRefusal}
use Rattle.dada_header.specs.declared.faults.HeaderFault.{HeaderFault}
use Rattle.dada_header.specs.declared.faults.HeaderFault.TheVariants.{Short, BadSize}
use Rattle.psr_base.specs.Told.{Told, left_to_read, moved_by, filled_by, ReadsJoin}
use Rattle.disk_feeder.specs.Front.{IsFrontRead, judged_after}
use Rattle.disk_feeder.proofs.Fronts.{front_of_size, front_of_short, front_of_refused, header_within, judged_least, judged_is, none_unsized, none_short, size_is}
use Rattle.disk_feeder.proofs.front.read_front.Goals as goal

-- a front whose size can't be read
unsized : (front file : List ℕ) (left : Option (List ℕ)) (fault : HeaderFault) → front ≡ take 4096 file →
    IsSizeRefusal front fault → left ≡ Some (drop 4096 file) → IsFrontRead front left file
unsized front file left (Short had) first refusal is_left = front_of_short front file left first refusal.0 is_left
unsized front file left BadSize first refusal is_left =
    front_of_refused front file left first refusal.0 refusal.1 is_left
unsized front file left fault first refusal is_left = absurd refusal

-- the first bytes of a space
from_start : (n : ℕ) (new old file : List ℕ) → take (0 + n) new ≡ take 0 old ++ take (4096 - 0) file →
    take n new ≡ take 4096 file
from_start n new old file is = ap (λ (m : ℕ). take m new) (omega arith) ∙ is

pub returns-in-Err-size_of-clause-front : goal.returns-in-Err-size_of-clause-front
returns-in-Err-size_of-clause-front g c = λ file known.
    let n = c.in-Ok.first in
    let space = c.fill_part.new.space in
    unsized (take n space) file (left_to_read (g.I.Inputs.told c.fill_part.new.inputs)) c.in-Err-size_of.field-0
    (from_start n space c.args.space.now file (c.in-Ok.ensures.read file known).bytes)
    c.in-Err-size_of.ensures.fault (c.in-Ok.ensures.read file known).rest

pub returns-in-Ok-fill_part-clause-front : goal.returns-in-Ok-fill_part-clause-front
returns-in-Ok-fill_part-clause-front g c = λ file known.
    let n = c.in-Ok.first in
    let space = c.fill_part.new.space in
    let size = c.in-Ok-size_of.size in
    let whole = c.fill_part-in-Ok-size_of.new.space in
    let middle = (c.in-Ok.ensures.read file known).rest in
    let count : n + (size - 4096) - n ≡ size - 4096 = omega arith in
    front_of_size (take n space) (take (size - 4096) (drop 4096 file)) (take (n + c.in-Ok-fill_part.rest) whole) file
    (left_to_read (g.I.Inputs.told c.fill_part-in-Ok-size_of.new.inputs)) size
    (from_start n space c.args.space.now file (c.in-Ok.ensures.read file known).bytes) refl
    (rw count at (c.in-Ok-fill_part.ensures.read (drop 4096 file) middle).bytes)
    c.in-Ok-size_of.ensures.range.0 c.in-Ok-size_of.ensures.long c.in-Ok-size_of.ensures.ok
    (rw count at (c.in-Ok-fill_part.ensures.read (drop 4096 file) middle).rest)

-- ---- what is told after it

-- all of the first bytes were read
all_first : ReadsJoin → (n : ℕ) (space : List ℕ) (told told' : Told) → 0 + n ≤ 4096 → 4096 ≤ length (take n space) →
    told' ≡ filled_by n (4096 - 0) told → told' ≡ moved_by 4096 told
all_first join n space told told' most long moved =
    let all : n ≡ 4096 = omega (arith, length-take n space) in
    moved ∙ join.all n (4096 - 0) told (omega arith) ∙ ap (λ (m : ℕ). moved_by m told) all

-- a file whose size can't be read has no header
none_refused : (front file : List ℕ) (fault : HeaderFault) (h : HeaderText) → front ≡ take 4096 file →
    IsSizeRefusal front fault → header_of file ≡ Ok h → ⊥
none_refused front file (Short had) h first refusal is = none_short front file h first refusal.0 is
none_refused front file BadSize h first refusal is = none_unsized front file h first refusal.0 refusal.1 is
none_refused front file fault h first refusal is = absurd refusal

pub returns-in-Err-size_of-clause-whole : goal.returns-in-Err-size_of-clause-whole
returns-in-Err-size_of-clause-whole g c = λ file known h is.
    let n = c.in-Ok.first in
    let space = c.fill_part.new.space in
    absurd (none_refused (take n space) file c.in-Err-size_of.field-0 h
    (from_start n space c.args.space.now file (c.in-Ok.ensures.read file known).bytes)
    c.in-Err-size_of.ensures.fault is)

pub returns-in-Ok-fill_part-clause-whole : goal.returns-in-Ok-fill_part-clause-whole
returns-in-Ok-fill_part-clause-whole g c = λ file known h is.
    let join = c.reads_join.ensures in
    let n = c.in-Ok.first in
    let rest = c.in-Ok-fill_part.rest in
    let space = c.fill_part.new.space in
    let size = c.in-Ok-size_of.size in
    let told = g.I.Inputs.told c.args.inputs.now in
    let told' = g.I.Inputs.told c.fill_part.new.inputs in
    let first = from_start n space c.args.space.now file (c.in-Ok.ensures.read file known).bytes in
    let long = c.in-Ok-size_of.ensures.long in
    let same : size ≡ h.size = size_is (take n space) file size h first long c.in-Ok-size_of.ensures.ok is in
    let within : h.size ≤ length file = header_within file h is in
    let least = c.in-Ok-size_of.ensures.range.0 in
    let count : rest ≡ n + (size - 4096) - n =
    omega (
      arith,
      (c.in-Ok-fill_part.ensures.read (drop 4096 file) (c.in-Ok.ensures.read file known).rest).count,
      length-drop 4096 file,
    ) in
    c.in-Ok-fill_part.ensures.told
    ∙ join.all rest (n + (size - 4096) - n) told' count
    ∙ ap (moved_by rest) (all_first join n space told told' c.in-Ok.ensures.bound long c.in-Ok.ensures.told)
    ∙ join.moved 4096 rest told
    ∙ ap (λ (m : ℕ). moved_by m told) (omega arith)

pub returns-in-Err-clause-broke : goal.returns-in-Err-clause-broke
returns-in-Err-clause-broke g c = λ file known.
    let lost = c.in-Err.ensures.told in (lost.0, omega (arith, lost.1, judged_least file), lost.2)

pub returns-in-Err-fill_part-clause-broke : goal.returns-in-Err-fill_part-clause-broke
returns-in-Err-fill_part-clause-broke g c = λ file known.
    let join = c.reads_join.ensures in
    let n = c.in-Ok.first in
    let space = c.fill_part.new.space in
    let size = c.in-Ok-size_of.size in
    let told = g.I.Inputs.told c.args.inputs.now in
    let told' = g.I.Inputs.told c.fill_part.new.inputs in
    let lost = c.in-Err-fill_part.ensures.told in
    let judged : judged_after file ≡ size =
    judged_is (take n space) file size
    (from_start n space c.args.space.now file (c.in-Ok.ensures.read file known).bytes)
    c.in-Ok-size_of.ensures.ok in
    let long = c.in-Ok-size_of.ensures.long in
    let least = c.in-Ok-size_of.ensures.range.0 in (
      4096 + lost.0,
      omega (arith, lost.1, judged),
      lost.2
          ∙ ap (moved_by lost.0) (all_first join n space told told' c.in-Ok.ensures.bound long c.in-Ok.ensures.told)
          ∙ join.moved 4096 lost.0 told,
    )
