use Rattle.std.proofs.Common.{◌≡◌, ◌+◌, ◌∙◌, sym, ap, not, subst}
use Rattle.spectra_rows.specs.Unpacking.{Unpacking, StandsForKept}
use Rattle.search_engine.specs.Scope.{kept_below}
use Rattle.search_engine.proofs.Less.{same_kept, keeps, leaves_out}
use Rattle.search_engine.proofs.hiding.hide_marked.Goals as goal
use Rattle.search_engine.proofs.hiding.hide_marked.Goals.{then-marks-channel, else-marks-channel}

pub loop-channel-preserved : goal.loop-channel-preserved
loop-channel-preserved c =
    let i = c.loop-channel.channel in
    let masked = c.args.marks.now in
    let u = c.loop-channel.unpacker in
    let inv = c.loop-channel.invariant in
    elim c.if-marks-channel.branch [
      | then-marks-channel w ↦
          let v = c.if-marks-channel.unpacker in
          let s = w.silence.ensures in
          let old = c.args.unpacker.now in
          record {
            same = subst (λ (x : Unpacking). x ≡ record old { rows = x.rows }) (sym w.unpacker-is)
                (s.without.same ∙ ap (λ (x : Unpacking). record x { rows = w.silence.new.self.rows }) inv.same);
            kept = λ bytes gone stands.
                subst (λ (x : Unpacking). StandsForKept (kept_below masked (i + 1)) x bytes gone) (sym w.unpacker-is)
                (s.kept (kept_below masked i) (kept_below masked (i + 1)) bytes gone
                (leaves_out masked i u.channels (ap not w.if-marks-channel.true)) (inv.kept bytes gone stands));
          }
      | else-marks-channel w ↦
          let old = c.args.unpacker.now in
          record {
            same = subst (λ (x : Unpacking). x ≡ record old { rows = x.rows }) (sym w.unpacker-is) inv.same;
            kept = λ bytes gone stands.
                subst (λ (x : Unpacking). StandsForKept (kept_below masked (i + 1)) x bytes gone) (sym w.unpacker-is)
                (same_kept u bytes gone (kept_below masked i) (kept_below masked (i + 1))
                (λ k here. keeps masked i k (ap not w.if-marks-channel.false)) (inv.kept bytes gone stands));
          }
    ]
