-- A stream goes through, from its head to its end.
use Rattle.std.proofs.Common.{◌≡◌, ℕ, List, [], ◌++◌, Option, Some, None, inl, inr, refl, sym, ap, ◌∙◌, subst}
use Rattle.std.specs.Prelude.{◌⊎◌}
use Rattle.psr_base.specs.Told.{Told}
use Rattle.psr_base.specs.Written.{SinkSeen}
use Rattle.dada_model.specs.Fields.{HeaderText}
use Rattle.stream_model.specs.Blocks.{joined_bytes}
use Rattle.disk_feeder.specs.declared.answers.FeedEnd.{FeedEnd}
use Rattle.disk_feeder.specs.declared.answers.FeedEnd.TheVariants.{Whole, ReadFault}
use Rattle.disk_feeder.specs.declared.feeder.Feeder.{Feeder}
use Rattle.disk_feeder.specs.Feeder.{FeederFaultless, has_end}
use Rattle.disk_feeder.specs.Handing.{FeederHands}
use Rattle.run_outcome.specs.declared.stop.Stop.TheVariants.{SinkFault}
use Rattle.drive_stream.specs.declared.stop.StreamStop.{StreamStop}
use Rattle.drive_stream.specs.declared.stop.StreamStop.TheVariants.{Run}
use Rattle.drive_stream.specs.Endings.{Failed, Midway, AtEnd}
use Rattle.drive_stream.specs.Flows.{FlowsTo, BreaksFlow}
use Rattle.drive_stream.specs.Stops.{Closes, BreaksClosing, phase_at}
use Rattle.drive_stream.specs.Streams.{Standing, Leaving, Begins, BreaksHead}
use Rattle.drive_stream.specs.Writings.{WritesTo, BreaksWriting}
use Rattle.drive_stream.proofs.Blocks.{keeps_none, no_bytes}

-- a call fails at the end of all data only where all came
end_is_whole : (end : FeedEnd) → phase_at end ≡ AtEnd → (bytes : ℕ) × (end ≡ Whole bytes)
end_is_whole (Whole bytes) is = (bytes, refl)
end_is_whole end is = absurd cc

some_same : (a b : FeedEnd) → Some a ≡ Some b → a ≡ b
some_same a b is = cc

some_none : (a : FeedEnd) → Some a ≡ None → ⊥
some_none a is = absurd cc

module _ {I S F : Type 0} (told : I → Told) (is_calm : I → Type 0) (faults : I → ℕ)
    (opens : HeaderText → S → Type 0) (streams : Standing S) (leaves : Leaving F) where
  pub head_broke : (f : Feeder I) (a : S) (before after : SinkSeen) → FeederHands (told f.inputs.now) f [] →
      has_end f ≡ None → FeederFaultless f →
      BreaksHead opens leaves a before after →
      BreaksWriting told is_calm faults opens leaves f f a before after (Some (Run SinkFault))
  head_broke f a before after stands running faultless broke =
      record {
        is = refl;
        phase = Midway;
        all = λ e. absurd cc;
        read = λ ended. absurd cc;
        quiet = λ still. faultless;
        kept = keeps_none told is_calm faults f;
        blocks = [];
        hands = stands;
        left = λ header was.
            let P : List ℕ → Type 0 = λ xs. leaves header xs (Failed Midway) before after in
            subst P (sym no_bytes) (broke header was);
      }

  pub flow_broke : (f j : Feeder I) (a b : S) (before middle after : SinkSeen) →
      Begins opens streams a b before middle → BreaksFlow told is_calm faults streams leaves f j b middle after →
      BreaksWriting told is_calm faults opens leaves f j a before after (Some (Run SinkFault))
  flow_broke f j a b before middle after begins broke =
      record {
        is = refl;
        phase = Midway;
        all = λ e. absurd cc;
        read = broke.read;
        quiet = broke.quiet;
        kept = broke.kept;
        blocks = broke.blocks;
        hands = broke.hands;
        left = λ header was. broke.left header [] before (begins header was);
      }

  pub closed : (f j : Feeder I) (a b c : S) (before middle late after : SinkSeen) (end : FeedEnd)
      (stop : Option (StreamStop F)) → Begins opens streams a b before middle →
      FlowsTo told is_calm faults streams f j b c middle late end →
      (Closes streams leaves c end late after stop ⊎ BreaksClosing streams leaves c end late after stop) →
      WritesTo told is_calm faults opens leaves f j a before after stop
      ⊎ BreaksWriting told is_calm faults opens leaves f j a before after stop
  closed f j a b c before middle late after end stop begins flows (inl closes) =
      inl (record {
        end = end;
        ending = closes.ending;
        is = closes.is;
        ended = flows.ended;
        kept = flows.taken.kept;
        blocks = flows.taken.blocks;
        hands = flows.taken.hands;
        left = λ header was. closes.left header ([] ++ joined_bytes flows.taken.blocks) before
            (flows.taken.on header [] before (begins header was));
      })
  closed f j a b c before middle late after end stop begins flows (inr broke) =
      inr (record {
        is = broke.is;
        phase = phase_at end;
        all = λ e. let whole = end_is_whole end e in (whole.0, flows.ended ∙ ap Some whole.1);
        read = λ ended. broke.read (some_same end ReadFault (sym flows.ended ∙ ended));
        quiet = λ still. absurd (some_none end (sym flows.ended ∙ still));
        kept = flows.taken.kept;
        blocks = flows.taken.blocks;
        hands = flows.taken.hands;
        left = λ header was. broke.left header ([] ++ joined_bytes flows.taken.blocks) before
            (flows.taken.on header [] before (begins header was));
      })
