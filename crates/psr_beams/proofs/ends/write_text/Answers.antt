use Rattle.std.proofs.Common.{inl, inr, refl}
use Rattle.psr_beams.proofs.Ended.{can_be_written, text_written, text_front}
use Rattle.psr_beams.proofs.ends.write_text.Goals as goal

pub write_beams-requires : goal.write_beams-requires
write_beams-requires g c =
    can_be_written c.args.ends.now c.args.observation.now c.args.search.now c.searched_beams_are_found.ensures
    c.requires.range c.requires.found.0 c.requires.found.1 c.requires.few

pub returns-in-Ok : goal.returns-in-Ok
returns-in-Ok g c = record {
  whole = c.requires.whole;
  few = c.requires.few;
  wrote = λ bytes held. text_written c.args.ends.now c.args.observation.now c.args.search.now
      c.searched_beams_are_found.ensures c.requires.range bytes held c.requires.few c.args.within c.args.more _ _
      c.in-Ok.ensures.all;
  kind = inl refl;
}

pub returns-in-Err : goal.returns-in-Err
returns-in-Err g c = record {
  whole = c.requires.whole;
  few = c.requires.few;
  wrote = λ bytes held. text_front c.args.ends.now c.args.observation.now c.args.search.now
      c.searched_beams_are_found.ensures c.requires.range bytes held c.requires.few c.args.within c.args.more _ _
      c.in-Err.ensures.front;
  kind = inr refl;
}
