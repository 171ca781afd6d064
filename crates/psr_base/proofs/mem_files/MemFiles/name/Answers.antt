use Rattle.std.proofs.Common.{Some, List, ℕ, ◌∙◌, ap, sym}
use Rattle.psr_base.proofs.Buffer.{name_at-stored}
use Rattle.psr_base.proofs.mem_files.MemFiles.name.Goals as goal

pub returns : goal.returns
returns c =
    let it = c.args.self.now in
    name_at-stored it.bytes.items it.finished.items it.unfinished c.args.i c.file.result.now c.file.ensures
    ∙ ap (λ (name : List ℕ). Some name) (sym c.as_str.ensures.value)
