-- A file that is created, appended to and finished.
use Rattle.std.proofs.Common.{◌≡◌, ℕ, ◌≤◌, inr, List, [], ◌++◌, length, Option, Some, None, sym, ◌∙◌, ap, refl, subst, append-nil}
use Rattle.std.specs.Option.{option_map}
use Rattle.psr_base.specs.Count.{Rose}
use Rattle.psr_base.specs.Made.{FilesLeft, FilesSeen, with_new_file, longer_by, less_a_file, less_bytes, Created, AppendedAll, MakingFails}
use Rattle.psr_make.specs.Filed.{HoldsFront, MakingStopped}

mapped_twice : {A B C : Type 0} (f : B → C) (g : A → B) (x : Option A)
    → option_map f (option_map g x) ≡ option_map (λ a. f (g a)) x
mapped_twice f g None = refl
mapped_twice f g (Some a) = refl

holds : (name bytes front rest : List ℕ) (old created new : FilesSeen) → Created name old created
    → bytes ≡ front ++ rest → new.made ≡ option_map (longer_by front) created.made → HoldsFront name bytes old new
holds name bytes front rest old created new c splits made = (
  front,
  rest,
  splits,
  made ∙ ap (option_map (longer_by front)) c.made
      ∙ mapped_twice (longer_by front) (with_new_file name) old.made,
)

-- what was left before is left but for a file
told_left : (old created : FilesSeen) (name : List ℕ) (left : FilesLeft) → Created name old created
    → old.left ≡ Some left → created.left ≡ Some (less_a_file left)
told_left old created name left c is = c.left ∙ ap (option_map less_a_file) is

pub not_finished : (name bytes : List ℕ) (old created appended new : FilesSeen) → Created name old created
    → AppendedAll bytes created appended → MakingFails appended new
    → ((left : FilesLeft) → appended.left ≡ Some left → ⊥) → MakingStopped name bytes old new
not_finished name bytes old created appended new c a fails untold = record {
  front = inr (holds name bytes bytes [] old created new c (sym (append-nil bytes)) (fails.made ∙ a.made));
  rose = subst (λ (n : ℕ). Rose n new.faults) (a.faults ∙ c.faults) fails.rose;
  count = subst (λ (n : ℕ). n ≤ new.faults) (a.faults ∙ c.faults) fails.count;
  short = λ room.
      let told = told_left old created name room.can_create.left c room.can_create.left_is_told in
      untold (less_bytes (length bytes) (less_a_file room.can_create.left))
      (a.left ∙ ap (option_map (less_bytes (length bytes))) told);
}
