use Rattle.std.proofs.Common.{◌≡◌, true, false, List, ◌∙◌, ap, sym, refl, rules}
use Rattle.std.specs.List.{list_any}
use Rattle.psr_base.specs.Made.{HasName}
use Rattle.psr_base.specs.Stored.{is_stored_as}
use Rattle.psr_base.specs.InMemory.{made_of}
use Rattle.psr_base.specs.declared.stored.StoredFile.{StoredFile}
use Rattle.psr_base.proofs.Buffer.{HasName-any, any-HasName}
use Rattle.psr_base.proofs.mem_files.MemFiles.new_file.Goals as goal

pub returns-then-is_there-clause-answer : goal.returns-then-is_there-clause-answer
returns-then-is_there-clause-answer c =
    let it = c.args.self.now in
    let name = c.args.name.now in
    let any : list_any (is_stored_as name) it.finished.items ≡ true =
    ap (λ (files : List StoredFile). list_any (is_stored_as name) files) (sym c.deref.ensures.value)
    ∙ sym c.is_there.ensures ∙ c.if-is_there.true in
    let has : HasName (made_of it) name =
    HasName-any it.bytes.items it.finished.items it.unfinished name c.requires any in
    (λ never. absurd cc, λ can. absurd (can.0 has))

pub returns-clause-answer : goal.returns-clause-answer
returns-clause-answer c =
    let it = c.args.self.now in
    let name = c.args.name.now in
    let none : list_any (is_stored_as name) it.finished.items ≡ false =
    ap (λ (files : List StoredFile). list_any (is_stored_as name) files) (sym c.deref.ensures.value)
    ∙ sym c.is_there.ensures ∙ c.if-is_there.false in (
      λ yes. (
        λ has. let any = any-HasName it.bytes.items it.finished.items it.unfinished name c.requires has in absurd cc,
        search rules,
        search rules,
      ),
      λ can. refl,
    )
