use Rattle.std.proofs.Common.{◌≡◌, ◌≢◌, vec_len, ap, ◌∙◌, Bool, true, false, ◌⊎◌, inl, inr, List, ℕ, Result, Ok, Err, is_err, OnOk, OnErr, length, ◌≤◌, string_bytes, refl, subst, rules}
use Rattle.psr_base.specs.Written.{WroteAll, WroteFront}
use Rattle.psr_base.specs.Told.{Told, OfFile, opened, moved_by, at_end}
use Rattle.ring_trace.specs.Trace.{IsWhole, IsCut, AppendsCut, AppendsFront}
use Rattle.ring_trace.specs.Run.{ReadsTrace, ReadsWhole, most_bytes}
use Rattle.ring_trace.proofs.FileWords.{for_file, for_named, two_words}
use Rattle.ring_trace.proofs.answer_words.Goals as goal

on_err : {T E : Type 0} (r : Result T E) (P : Type 0) → is_err r ≡ true → OnErr r P → P
on_err (Ok x) P e p = absurd cc
on_err (Err x) P e p = p

on_ok : {T E : Type 0} (r : Result T E) (P : Type 0) → is_err r ≡ false → OnOk r P → P
on_ok (Ok x) P e p = p
on_ok (Err x) P e p = absurd cc

either : (b : Bool) (P Q : Type 0) → (b ≡ true → P) → (b ≡ false → Q) → P ⊎ Q
either true P Q p q = inl (p refl)
either false P Q p q = inr (q refl)

-- a status at which all of the file was read
reads_whole : (words : List (List ℕ)) (before after : Told) (status : ℕ) → status ≢ 2 → status ≢ 6 → status ≢ 8 →
    status ≢ 5 → ReadsWhole words before after → ReadsTrace words before after status
reads_whole words before after status two six eight five read = record {
  none = λ e. absurd (two e);
  whole = λ _. read;
  some = λ e. elim e [ inl is ↦ absurd (six is) | inr is ↦ absurd (eight is) ];
  either = λ e. absurd (five e);
}

-- as many bytes as the file has were read of it, under a name that is the word's
all_read : (told after : Told) (word name file : List ℕ) (n : ℕ) → word ≡ name →
    OfFile told name (λ bytes. file ≡ bytes) → n ≡ length file →
    OfFile told word (λ _. after ≡ at_end (moved_by n (opened word told))) →
    OfFile told name (λ bytes. after ≡ at_end (moved_by (length bytes) (opened name told)))
all_read told after word name file n named is count read = λ bytes known.
    let Q : List ℕ → Type 0 = λ x. OfFile told x (λ _. after ≡ at_end (moved_by n (opened x told))) in
    let same : n ≡ length bytes = count ∙ ap length (is bytes known) in
    subst Q named read bytes known ∙ ap (λ (k : ℕ). at_end (moved_by k (opened name told))) same

pub returns-then-is_err : goal.returns-then-is_err
returns-then-is_err g c =
    let words = c.args.words.now in
    let told = g.I.Inputs.told c.args.inputs.now in
    let after = g.I.Inputs.told c.read_file.new.inputs in
    let old = g.K.Sink.seen c.args.out.now in
    let new = g.K.Sink.seen c.write_all.new.sink in
    let file = c.as_slice.result.now in
    let text = c.in-Ok-replay.answers.text.items in
    let piece : c.as_slice-2.result.now ≡ text = search rules in
    let P : List ℕ → Type 0 = λ t. WroteFront t old new in
    let front : P text = subst P piece (on_err c.write_all.result (P c.as_slice-2.result.now)
    (search rules) c.write_all.ensures.front) in
    let of_file : OfFile told (string_bytes c.index-words-1.result) (λ bytes. file ≡ bytes) = search rules in
    let short : length file ≤ most_bytes = search rules in
    let two : length words ≡ 2 = search rules in
    record {
      known = inr (inr (inr refl));
      whole = λ e. absurd cc;
      cut = λ e. absurd cc;
      front = λ e. for_file words _ told _ c.index-words-1.is (λ bytes known.
          let Q : List ℕ → Type 0 = λ xs. AppendsFront xs old new in subst Q (of_file bytes known) (record {
            text = text;
            answers = either c.in-Ok-replay.answers.is_whole (IsWhole file text) (IsCut file text)
                c.in-Ok-replay.ensures.whole c.in-Ok-replay.ensures.cut;
            wrote = front;
          }));
      silent = λ e. search rules;
      read = reads_whole _ told after 10 (λ e. cc) (λ e. cc) (λ e. cc) (λ e. cc) (for_named words _ told
          (λ name bytes. after ≡ at_end (moved_by (length bytes) (opened name told))) c.index-words-1.is
          (all_read told after _ _ file (vec_len c.in-Ok.file) (search rules) of_file (search rules)
          c.in-Ok.ensures.read));
      words_refused = two_words words 10 two (λ e. cc);
      too_long = λ e. absurd cc;
      short = λ e. for_file words _ told _ c.index-words-1.is (λ bytes known.
          let Q : List ℕ → Type 0 = λ xs. length xs ≤ most_bytes in subst Q (of_file bytes known) short);
      read_fault = λ e. absurd cc;
      calm = λ calm. search rules;
      inputs_quiet = search rules;
      sink_fault = λ e. front.rose;
      out_quiet = λ e. absurd (e refl);
      inputs_count = search rules;
      out_count = front.count;
    }

pub returns : goal.returns
returns g c =
    let words = c.args.words.now in
    let told = g.I.Inputs.told c.args.inputs.now in
    let after = g.I.Inputs.told c.read_file.new.inputs in
    let old = g.K.Sink.seen c.args.out.now in
    let new = g.K.Sink.seen c.write_all.new.sink in
    let file = c.as_slice.result.now in
    let text = c.in-Ok-replay.answers.text.items in
    let piece : c.as_slice-2.result.now ≡ text = search rules in
    let not_whole : c.in-Ok-replay.answers.is_whole ≡ false = search rules in
    let P : List ℕ → Type 0 = λ t. WroteAll t old new in
    let all : P text = subst P piece
    (on_ok c.write_all.result (P c.as_slice-2.result.now) (search rules) c.write_all.ensures.all) in
    let of_file : OfFile told (string_bytes c.index-words-1.result) (λ bytes. file ≡ bytes) = search rules in
    let short : length file ≤ most_bytes = search rules in
    let two : length words ≡ 2 = search rules in
    record {
      known = inr (inr (inl refl));
      whole = λ e. absurd cc;
      cut = λ e. for_file words _ told _ c.index-words-1.is (λ bytes known.
          let Q : List ℕ → Type 0 = λ xs. AppendsCut xs old new in subst Q (of_file bytes known)
          (record { text = text; cut = c.in-Ok-replay.ensures.cut not_whole; wrote = all }));
      front = λ e. absurd cc;
      silent = search rules;
      read = reads_whole _ told after 3 (λ e. cc) (λ e. cc) (λ e. cc) (λ e. cc) (for_named words _ told
          (λ name bytes. after ≡ at_end (moved_by (length bytes) (opened name told))) c.index-words-1.is
          (all_read told after _ _ file (vec_len c.in-Ok.file) (search rules) of_file (search rules)
          c.in-Ok.ensures.read));
      words_refused = two_words words 3 two (λ e. cc);
      too_long = λ e. absurd cc;
      short = λ e. for_file words _ told _ c.index-words-1.is (λ bytes known.
          let Q : List ℕ → Type 0 = λ xs. length xs ≤ most_bytes in subst Q (of_file bytes known) short);
      read_fault = λ e. absurd cc;
      calm = search rules;
      inputs_quiet = search rules;
      sink_fault = λ e. absurd cc;
      out_quiet = λ e. all.faults;
      inputs_count = search rules;
      out_count = search rules;
    }
