-- What a leveller makes of bytes, step by step.
use Rattle.std.proofs.Common.{◌≡◌, true, ℕ, List, [], ◌++◌, refl, sym, ◌∙◌, subst, append_assoc}
use Rattle.std.proofs.lemmas.List.{append-nil}
use Rattle.psr_base.specs.Written.{SinkSeen, WroteAll, WroteFront, PiecesJoin}
use Rattle.band_level.specs.Levelling.{Levelling, Levels, Gives, IsDone, pending}
use Rattle.psr_level.specs.Draining.{Makes, Drains, BreaksDrain}

-- another text of the same bytes
pub with_text : (l : Levelling) (bytes out out' : List ℕ) → out ≡ out' → Levels l bytes out → Levels l bytes out'
with_text l bytes out out' same was = let P : List ℕ → Type 0 = λ o. Levels l bytes o in subst P same was

pub with_bytes : (l : Levelling) (bytes bytes' out : List ℕ) → bytes ≡ bytes' → Levels l bytes out → Levels l bytes' out
with_bytes l bytes bytes' out same was = let P : List ℕ → Type 0 = λ b. Levels l b out in subst P same was

-- ---- what is to be levelled

pub record Draining (l m : Levelling) (before after : SinkSeen) : Type 0 where
  pub text : List ℕ
  pub makes : Makes l m text
  pub wrote : WroteAll text before after

pub nothing_made : PiecesJoin → (l : Levelling) (seen : SinkSeen) → Draining l l seen seen
nothing_made join l seen = record {
  text = [];
  makes = record {
    task = refl;
    ended = refl;
    levels = λ bytes out was. with_text l bytes out (out ++ []) (sym (append-nil out)) was;
  };
  wrote = join.nothing seen;
}

one_made : (l m n : Levelling) (text : List ℕ) → Makes l m text → Gives m n → Makes l n (text ++ n.piece)
one_made l m n text makes gives = record {
  task = gives.task ∙ makes.task;
  ended = gives.ended ∙ makes.ended;
  levels = λ bytes out was.
      with_text n bytes ((out ++ text) ++ n.piece) (out ++ (text ++ n.piece)) (append_assoc out text n.piece)
      (gives.levels bytes (out ++ text) (makes.levels bytes out was));
}

pub one_more : PiecesJoin → (l m n : Levelling) (before middle after : SinkSeen) → Draining l m before middle →
    Gives m n → WroteAll n.piece middle after → Draining l n before after
one_more join l m n before middle after so_far gives wrote = record {
  text = so_far.text ++ n.piece;
  makes = one_made l m n so_far.text so_far.makes gives;
  wrote = join.joins so_far.text n.piece before middle after so_far.wrote wrote;
}

pub one_broke : PiecesJoin → (l m n : Levelling) (before middle after : SinkSeen) → Draining l m before middle →
    Gives m n → WroteFront n.piece middle after → BreaksDrain l n before after
one_broke join l m n before middle after so_far gives front = record {
  text = so_far.text ++ n.piece;
  makes = one_made l m n so_far.text so_far.makes gives;
  front = join.stops so_far.text n.piece before middle after so_far.wrote front;
}

pub all_made : (l m : Levelling) (before after : SinkSeen) → Draining l m before after → pending m ≡ 0 →
    (m.has_ended ≡ true → IsDone m) → Drains l m before after
all_made l m before after so_far none done = record {
  text = so_far.text;
  makes = so_far.makes;
  wrote = so_far.wrote;
  drained = none;
  done = done;
}
