use Rattle.std.proofs.Common.{◌≡◌, List, ℕ, ◌++◌, length, ap, sym, ◌∙◌}
use Rattle.psr_demo.specs.Demo.{demo_line, summary}
use Rattle.psr_demo.proofs.Summed.{summed, wrote_after, front_of}
use Rattle.psr_demo.proofs.summary.write_summary.Goals as goal

pub returns-in-Ok : goal.returns-in-Ok
returns-in-Ok g c =
    let seen = g.K.Sink.seen in
    let text = c.args.text.now in
    let last = c.last_line.result.now in
    let line : c.as_bytes.result.now ≡ demo_line c.args.number c.args.status (length text) =
    c.as_bytes.ensures ∙ c.demo_line.ensures in
    let parts = summed c.samples_of_bytes.ensures c.args.number c.args.status text last c.requires.ends c.requires.text
    c.last_line.ensures in
    wrote_after c.pieces_join.ensures.pieces (summary c.args.number c.args.status) c.as_bytes.result.now last
    (seen c.args.out.now) (seen c.write_all.new.sink) (seen c.write_all-in-Ok.new.sink) c.write_all-in-Ok.result
    (parts ∙ ap (λ (xs : List ℕ). xs ++ last) (sym line)) c.in-Ok.ensures.all c.write_all-in-Ok.ensures

pub returns-in-Err : goal.returns-in-Err
returns-in-Err g c =
    let seen = g.K.Sink.seen in
    let text = c.args.text.now in
    let line : c.as_bytes.result.now ≡ demo_line c.args.number c.args.status (length text) =
    c.as_bytes.ensures ∙ c.demo_line.ensures in
    record {
      all = tt;
      front = front_of c.pieces_join.ensures.pieces c.args.number c.args.status text c.as_bytes.result.now
          (seen c.args.out.now) (seen c.write_all.new.sink) c.requires.text line c.in-Err.ensures.front;
    }
