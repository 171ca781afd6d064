use Rattle.stream_model.proofs.Alike.{stay_alike}
use Rattle.stream_model.proofs.recorded_laws.changes_stay_alike.Goals as goal

pub returns : goal.returns
returns c =
    stay_alike
    (record {
      words = c.first_word_of_line.ensures;
      lines = c.fields_by_lines.ensures;
      gives = c.change_gives_value.ensures;
      keeps = c.change_keeps_others.ensures;
      blanks = c.blank_keeps_length.ensures;
    })
