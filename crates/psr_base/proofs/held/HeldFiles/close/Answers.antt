use Rattle.std.proofs.Common.{◌≡◌, Option, Some, None, string_bytes, refl, ap, sym, ◌∙◌, arith}
use Rattle.psr_base.specs.NamedFiles.{name_at}
use Rattle.psr_base.specs.declared.held.MemFile.{MemFile}
use Rattle.psr_base.specs.declared.held.OpenFile.{OpenFile}
use Rattle.psr_base.proofs.Places.{place_in-within, name_at-get_or, told-set_aside, told-none_open}
use Rattle.psr_base.proofs.held.HeldFiles.close.Goals as goal

pub index-requires : goal.index-requires
index-requires c =
    let before = c.args.self.now in
    let files = before.files.items in
    let file = c.in-Some.file in
    omega (
      arith,
      before.files.ok.0,
      place_in-within files (name_at files file.index) file.index (before.open_is_first file c.in-Some.is),
    )

pub returns-in-Some-clause-told : goal.returns-in-Some-clause-told
returns-in-Some-clause-told c =
    let before = c.args.self.now in
    let files = before.files.items in
    let file = c.in-Some.file in
    let within = place_in-within files (name_at files file.index) file.index (before.open_is_first file c.in-Some.is) in
    let named : c.as_str-name.result.now ≡ name_at files file.index =
    c.as_str-name.ensures.value ∙ ap (λ (f : MemFile). string_bytes f.name) c.index.ensures
    ∙ sym (name_at-get_or files file.index c.index.result.now within) in
    told-set_aside files before.earlier.files c.add.new.self.files before.reading file c.as_str-name.result.now
    c.in-Some.is named c.add.ensures

none_open : (reading : Option OpenFile) → ((file : OpenFile) → reading ≡ Some file → ⊥) → reading ≡ None
none_open None never = refl
none_open (Some file) never = absurd (never file refl)

pub returns-in_default-clause-told : goal.returns-in_default-clause-told
returns-in_default-clause-told c =
    let before = c.args.self.now in
    told-none_open before.files.items before.earlier.files before.reading
    (none_open before.reading c.in_default.not-Some)
