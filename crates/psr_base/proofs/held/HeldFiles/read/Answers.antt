use Rattle.std.proofs.Common.{◌≡◌, ◌-◌, ◌<◌, ℕ, List, Some, drop, length, min, ◌∙◌, ap, sym, arith}
use Rattle.psr_base.specs.NamedFiles.{bytes_at, name_at}
use Rattle.psr_base.specs.Held.{told_by}
use Rattle.psr_base.specs.Told.{left_to_read}
use Rattle.psr_base.specs.declared.held.MemFile.{MemFile}
use Rattle.psr_base.proofs.Places.{place_in-within, bytes_at-get_or, left_to_read-first, count-copied, GivesNext-copied, told-read}
use Rattle.psr_base.proofs.held.HeldFiles.read.Goals as goal

pub index-requires : goal.index-requires
index-requires c =
    let before = c.args.self.now in
    let files = before.files.items in
    let index = c.unwrap-file.result.index in
    omega (
      arith,
      before.files.ok.0,
      place_in-within files (name_at files index) index
          (before.open_is_first c.unwrap-file.result c.unwrap-file.ensures),
    )

known_left : (c : goal.After-self-1) →
    left_to_read (told_by c.args.self.now) ≡ Some (drop c.unwrap-file.result.place c.as_slice.result.now)
known_left c =
    let before = c.args.self.now in
    let files = before.files.items in
    let file = c.unwrap-file.result in
    let first = before.open_is_first file c.unwrap-file.ensures in
    let within = place_in-within files (name_at files file.index) file.index first in
    let same : bytes_at files file.index ≡ c.as_slice.result.now =
    bytes_at-get_or files file.index c.index.result.now within
    ∙ sym (ap (λ (f : MemFile). f.bytes.items) c.index.ensures) ∙ sym c.as_slice.ensures.value in
    left_to_read-first files before.earlier.files before.reading file c.unwrap-file.ensures first
    ∙ ap (λ (bytes : List ℕ). Some (drop file.place bytes)) same

count : (c : goal.After-self-1) →
    c.copy_from-n.result
    ≡ min (length c.as_slice.result.now - c.unwrap-file.result.place) (length c.copy_from-n.new.into)
count c = omega (arith, c.copy_from-n.ensures.count, c.copy_from-n.auto.into)

pub returns-clause-whole : goal.returns-clause-whole
returns-clause-whole c =
    count-copied (left_to_read (told_by c.args.self.now)) c.as_slice.result.now c.copy_from-n.new.into
    c.unwrap-file.result.place c.copy_from-n.result (known_left c) (count c)

pub returns-clause-next : goal.returns-clause-next
returns-clause-next c =
    let room : 0 < length c.copy_from-n.new.into = omega (arith, c.requires.room, c.copy_from-n.auto.into) in
    GivesNext-copied (left_to_read (told_by c.args.self.now)) c.as_slice.result.now c.copy_from-n.new.into
    c.unwrap-file.result.place c.copy_from-n.result (known_left c) (count c) room c.copy_from-n.ensures.copied

pub returns-clause-moved : goal.returns-clause-moved
returns-clause-moved c =
    let before = c.args.self.now in
    told-read before.files.items before.earlier.files before.reading c.unwrap-file.result c.copy_from-n.result
    c.sees_end.result c.unwrap-file.ensures c.sees_end.ensures
