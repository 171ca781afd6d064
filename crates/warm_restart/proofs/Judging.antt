-- What a judged text is accepted or refused for.
use Rattle.std.proofs.Common.{◌≡◌, ℕ, ◌<◌, ◌≤◌, true, false, List, length, Some, refl, sym, ap, subst, ◌∙◌, arith, Ok, Err, Result, Bool, take, ◌≢◌, Option, None}
use Rattle.std.specs.Prelude.{if◌then◌else◌, nat_lt, ◌↔◌, IfOk}
use Rattle.std.proofs.lemmas.Bool.{ltb-true, ltb-false}
use Rattle.std.proofs.lemmas.List.{take_all, length-take}
use Rattle.warm_restart.specs.declared.checkpoint.Checkpoint.{Checkpoint}
use Rattle.warm_restart.specs.declared.checkpoint.CheckpointFault.{CheckpointFault}
use Rattle.warm_restart.specs.declared.checkpoint.CheckpointFault.TheVariants.{Form, Place}
use Rattle.warm_restart.specs.Counts.{IsCount}
use Rattle.warm_restart.specs.Checkpoint.{Lacks, check_text, CanBeSaid, IsCheckpointText, IsNoCheckpointText, IsJudged, judged_place, checkpoint_of}
use Rattle.warm_restart.specs.Laws.{TextsSayOne}
use Rattle.warm_restart.proofs.Splits.{one_line}
use Rattle.warm_restart.proofs.Texts.{lacks_space}

-- a text says one checkpoint
pub one_said : TextsSayOne → (text : List ℕ) (c d : Checkpoint) → IsCheckpointText text c →
    IsCheckpointText text d → c ≡ d
one_said law text c d is is' =
    let e = sym ((law.computed text c).0 is) ∙ (law.computed text d).0 is' in cc

-- no checkpoint text is refused for its form
pub judged_form : (text : List ℕ) (until : ℕ) → IsNoCheckpointText text → IsJudged text until (Err Form)
judged_form text until none = record {
  accepted = λ c. ((λ e. absurd cc), (λ h. absurd (none c h.0)));
  form = ((λ _. none), (λ _. refl));
  place = λ place limit. ((λ e. absurd cc), (λ (c, is, at, to, late). absurd (none c is)));
}

-- a checkpoint before the end of the part is accepted
judged_early : TextsSayOne → (text : List ℕ) (until : ℕ) (c : Checkpoint) → IsCheckpointText text c →
    c.place < until → IsJudged text until (Ok c)
judged_early law text until c is early = record {
  accepted = λ d. (
    (λ e. let P : Checkpoint → Type 0 = λ k. IsCheckpointText text k × (k.place < until) in
        let same : c ≡ d = cc in subst P same (is, early)),
    (λ h. ap Ok (one_said law text c d is h.0)),
  );
  form = ((λ e. absurd cc), (λ none. absurd (none c is)));
  place = λ place limit. (
    (λ e. absurd cc),
    (λ (d, is', at, to, late).
        let same : c.place ≡ d.place = ap (λ (k : Checkpoint). k.place) (one_said law text c d is is') in
        absurd (omega arith)),
  );
}

-- another one is refused for its place
judged_late : TextsSayOne → (text : List ℕ) (until : ℕ) (c : Checkpoint) → IsCheckpointText text c →
    until ≤ c.place → IsJudged text until (Err (Place c.place until))
judged_late law text until c is late = record {
  accepted = λ d. (
    (λ e. absurd cc),
    (λ h.
        let same : c.place ≡ d.place = ap (λ (k : Checkpoint). k.place) (one_said law text c d is h.0) in
        let early = h.1 in absurd (omega arith)),
  );
  form = ((λ e. absurd cc), (λ none. absurd (none c is)));
  place = λ place limit. (
    (λ e.
        let at : c.place ≡ place = cc in let to : until ≡ limit = cc in
        let P : ℕ → Type 0 = λ n. until ≤ n in (c, is, at, to, subst P at late)),
    (λ (d, is', at, to, late').
        let same : c.place ≡ d.place = ap (λ (k : Checkpoint). k.place) (one_said law text c d is is') in cc),
  );
}

-- what a text says is judged by its place
pub judged_said : TextsSayOne → (text : List ℕ) (until : ℕ) (c : Checkpoint) → IsCheckpointText text c →
    IsJudged text until (judged_place until c)
judged_said law text until c is = by_test (nat_lt c.place until) refl
  where
    by_test : (b : Bool) → nat_lt c.place until ≡ b →
        IsJudged text until (if b then Ok c else Err (Place c.place until))
    by_test true e = judged_early law text until c is (ltb-true c.place until e)
    by_test false e = judged_late law text until c is (ltb-false c.place until e)

-- the first bytes of a text say what the text says
pub first_bytes : TextsSayOne → (text file : List ℕ) → text ≡ take 65 file → (c : Checkpoint) →
    IsCheckpointText text c ↔ IsCheckpointText file c
first_bytes law text file is c = (
  (λ first.
      let few = law.short text c first in let size = ap (length {A = ℕ}) is in
      let taken = length-take 65 file in subst P (is ∙ take_all 65 file (omega arith)) first),
  (λ whole. let few = law.short file c whole in
      subst P (sym (is ∙ take_all 65 file (omega arith))) whole),
)
  where
    P : List ℕ → Type 0
    P t = IsCheckpointText t c

-- where the first bytes were judged, the file was
pub judged_by_first : TextsSayOne → (text file : List ℕ) (until : ℕ) (r : Result Checkpoint CheckpointFault) →
    text ≡ take 65 file → IsJudged text until r → IsJudged file until r
judged_by_first law text file until r is judged = record {
  accepted = λ c. (
    (λ e. let h = (judged.accepted c).0 e in ((first_bytes law text file is c).0 h.0, h.1)),
    (λ h. (judged.accepted c).1 ((first_bytes law text file is c).1 h.0, h.1)),
  );
  form = (
    (λ e c whole. judged.form.0 e c ((first_bytes law text file is c).1 whole)),
    (λ none. judged.form.1 (λ c first. none c ((first_bytes law text file is c).0 first))),
  );
  place = λ place limit. (
    (λ e. let h = (judged.place place limit).0 e in
        (h.0, (first_bytes law text file is h.0).0 h.1, h.2, h.3, h.4)),
    (λ (c, whole, at, to, late). (judged.place place limit).1
        (c, (first_bytes law text file is c).1 whole, at, to, late)),
  );
}

-- what is accepted can be said
pub accepted_can : (text : List ℕ) (until : ℕ) (r : Result Checkpoint CheckpointFault) → IsJudged text until r →
    IfOk r (λ c. CanBeSaid c × (c.place < until))
accepted_can text until (Ok c) judged =
    let h = (judged.accepted c).0 refl in
    (record { place = h.0.place_is.bound; pulses = h.0.pulses_are.bound }, h.1)
accepted_can text until (Err e) judged = tt

-- nothing is computed of a text that says nothing
pub unsaid : TextsSayOne → (text : List ℕ) → IsNoCheckpointText text → None ≡ checkpoint_of text
unsaid law text none = by_said (checkpoint_of text) refl
  where
    by_said : (o : Option Checkpoint) → checkpoint_of text ≡ o → None ≡ o
    by_said (Some c) e = absurd (none c ((law.computed text c).1 e))
    by_said None e = refl

-- nothing is said where there are no words, or the word of the place or of the pulses is no count
pub no_place : (text place pulses : List ℕ) → text ≡ check_text place pulses → Lacks 32 place →
    ((n : ℕ) → ¬ IsCount place n) → IsNoCheckpointText text
no_place text place pulses line lacks none c is =
    let same = one_line place pulses is.place is.pulses lacks (lacks_space is.place c.place is.place_is)
    (sym line ∙ is.line) in
    let P : List ℕ → Type 0 = λ t. IsCount t c.place in none c.place (subst P (sym same.0) is.place_is)

pub no_pulses : (text place pulses : List ℕ) → text ≡ check_text place pulses → Lacks 32 place →
    ((n : ℕ) → ¬ IsCount pulses n) → IsNoCheckpointText text
no_pulses text place pulses line lacks none c is =
    let same = one_line place pulses is.place is.pulses lacks (lacks_space is.place c.place is.place_is)
    (sym line ∙ is.line) in
    let P : List ℕ → Type 0 = λ t. IsCount t c.pulses in none c.pulses (subst P (sym same.1) is.pulses_are)

pub no_words : (text : List ℕ) → ((place pulses : List ℕ) → Lacks 32 place → text ≢ check_text place pulses) →
    IsNoCheckpointText text
no_words text none c is = none is.place is.pulses (lacks_space is.place c.place is.place_is) is.line
