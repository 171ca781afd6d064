use Rattle.std.proofs.Common.{◌≡◌, ◌<◌, ◌≤◌}
use Rattle.disk_feeder.specs.Beginning.{KeepsSource, HeadersRead, LastLeft, FirstsRead, FirstsThrough}
use Rattle.disk_feeder.proofs.source.Source.read_headers.Given as goal

abbrev pub invariant-loop-transfer : goal.invariant-loop-transfer
invariant-loop-transfer g l =
    let i = g.I.Inputs in
    record {
      kept : KeepsSource l.fn.self l.self;
      headers : HeadersRead (i.told l.fn.inputs) l.fn.self l.transfer l.self;
      left : LastLeft (i.told l.fn.inputs) l.fn.self l.transfer (i.told l.inputs);
      read : FirstsRead (i.told l.fn.inputs) l.fn.self l.transfer (i.told l.inputs);
      through : FirstsThrough (i.told l.fn.inputs) l.fn.self l.transfer (i.told l.inputs);
      is_open : 0 < l.transfer → i.is_open l.inputs;
      names : (i.told l.inputs).bytes_under ≡ (i.told l.fn.inputs).bytes_under;
      quiet : i.faults l.inputs ≡ i.faults l.fn.inputs;
      count : i.faults l.fn.inputs ≤ i.faults l.inputs;
      calm : i.is_calm l.fn.inputs → i.is_calm l.inputs;
    }
