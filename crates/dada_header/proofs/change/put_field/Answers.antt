use Rattle.std.proofs.Common.{◌++◌, ◌∷◌, []}
use Rattle.dada_header.proofs.Edits.{put_twice}
use Rattle.dada_header.proofs.change.put_field.Goals as goal

pub returns : goal.returns
returns c =
    let old = c.args.bytes.now in
    let value = c.args.value.now in
    let ends = put_twice c.put-end-2.result value
    (10 ∷ []) c.put-end-2.new.bytes c.put-end-3.new.bytes c.put.new.bytes c.put-end-3.result c.put.result
    c.put-end-3.ensures c.put.ensures in
    let later = put_twice c.put-end.result (32 ∷ [])
    (value ++ 10 ∷ []) c.put-end.new.bytes c.put-end-2.new.bytes c.put.new.bytes c.put-end-2.result c.put.result
    c.put-end-2.ensures ends in
    put_twice c.args.place c.args.key.now (32 ∷
    (value ++ 10 ∷ [])) old c.put-end.new.bytes c.put.new.bytes c.put-end.result c.put.result c.put-end.ensures later
