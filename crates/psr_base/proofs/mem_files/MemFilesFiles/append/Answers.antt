use Rattle.std.proofs.Common.{◌≡◌, ◌+◌, length, vec_len, Some, refl, ◌∙◌, ap, sym, rules}
use Rattle.std.specs.Prelude.{Option}
use Rattle.psr_base.specs.Made.{longer_by}
use Rattle.psr_base.specs.Stored.{made_in}
use Rattle.psr_base.specs.declared.stored.StoredFile.{StoredFile}
use Rattle.psr_base.proofs.Buffer.{made_in-longer}
use Rattle.psr_base.proofs.mem_files.MemFilesFiles.append.Goals as goal

pub returns-in-Ok-clause-appended : goal.returns-in-Ok-clause-appended
returns-in-Ok-clause-appended c =
    let it = c.args.self.now in
    let file = c.unwrap-file.result in
    let bytes = c.args.bytes.now in
    let new : StoredFile = record { name = file.name; start = file.start; len = file.len + length bytes } in
    let was : it.unfinished ≡ Some file = sym c.take.ensures.value ∙ c.unwrap-file.ensures in
    let len : vec_len it.bytes ≡ length it.bytes.items = search rules in
    made_in-longer it.bytes.items bytes c.extend_from_slice.new.self.items it.finished.items file new (search rules)
    (search rules) (it.unfinished_ends file was ∙ len) refl refl refl
    ∙ ap (λ (o : Option StoredFile). longer_by bytes (made_in it.bytes.items it.finished.items o)) (sym was)
