use Rattle.std.proofs.Common.{◌≡◌, ◌-◌, ◌*◌, ◌++◌}
use Rattle.psr_base.specs.Made.{AppendedAll}
use Rattle.psr_make.specs.Made.{spectrum_bytes, data_part, made_header}
use Rattle.psr_make.proofs.blocks.append_file.Given as goal

abbrev pub invariant-loop-maker : goal.invariant-loop-maker
invariant-loop-maker g l = record {
  spec : l.maker.spec ≡ l.fn.maker.spec;
  is_open : g.F.Files.is_open l.files;
  appended : AppendedAll
      (made_header l.fn.maker.spec ++ data_part l.fn.maker.spec 0 (l.maker.made * spectrum_bytes l.fn.maker.spec))
      (g.F.Files.seen l.fn.files) (g.F.Files.seen l.files);
}

abbrev pub decreases-loop-maker : goal.decreases-loop-maker
decreases-loop-maker g l = l.fn.maker.spec.spectra - l.maker.made
