-- What a stream stands for, call by call.
use Rattle.std.proofs.Common.{◌≡◌, ℕ, ◌+◌, ◌<◌, Bool, true, false, List, [], ◌++◌, length, take, drop, refl, sym, ap, ◌∙◌, subst, append_assoc, arith}
use Rattle.std.proofs.Common.{take-add}
use Rattle.std.proofs.Math.Seq.{take-append_seam, drop-append_seam}
use Rattle.std.proofs.lemmas.List.{append-nil}
use Rattle.std.proofs.lemmas.List.FromFn.{get_or-map-range_with_len}
use Rattle.psr_base.specs.Written.{SinkSeen, WroteAll, WroteFront, PiecesJoin}
use Rattle.dada_model.specs.Fields.{HeaderText, header_bytes}
use Rattle.dada_model.specs.Observation.{Observation}
use Rattle.channel_mask.specs.declared.fault.MaskFault.{MaskFault}
use Rattle.channel_mask.specs.declared.fault.MaskFault.TheVariants as mask
use Rattle.channel_mask.specs.Masks.{IsMaskOf, ExplainsMask, file_channel, mask_of, place_in_file}
use Rattle.channel_mask.specs.Texts.{names_channel}
use mathlib.Core.List.{IsPrefix}
use Rattle.band_level.specs.Ranges.{FormatInRange}
use Rattle.band_level.specs.Levelled.{Task, levelled}
use Rattle.band_level.specs.Levelling.{Levelling, Levels, Takes, EndsAs}
use Rattle.level_words.specs.Settings.{LevelSeen}
use Rattle.drive_stream.specs.Endings.{All, Early, Failed, Midway, AtEnd}
use Rattle.psr_level.specs.declared.refusal.LevelRefusal.{LevelRefusal}
use Rattle.psr_level.specs.declared.refusal.LevelRefusal.TheVariants.{LongTime, BadMask, NoRoom}
use Rattle.psr_level.specs.declared.task.LevelStream.{LevelStream}
use Rattle.psr_level.specs.Draining.{Drains, BreaksDrain, LevelsAreFronts, StretchesAreWhole, whole_stretches}
use Rattle.psr_level.specs.Levels.{CanLevel, Refuses, Opens, Streams, Leaves, header_in, task_in}

take_behind : (xs ys : List ℕ) (n : ℕ) → take (length xs + n) (xs ++ ys) ≡ xs ++ take n ys
take_behind xs ys n =
    take-add (length xs) n (xs ++ ys)
    ∙ ap (λ (zs : List ℕ). zs ++ take n (drop (length xs) (xs ++ ys))) (take-append_seam xs ys)
    ∙ ap (λ (zs : List ℕ). xs ++ take n zs) (drop-append_seam xs ys)

-- ---- what is refused isn't taken

fits : (n : ℕ) (f : Bool) (i : ℕ) → i < n → place_in_file n f i < n
fits n true i small = small
fits n false i small = omega arith

never : (b : Bool) → b ≡ false → b ≡ true → ⊥
never b left named = absurd cc

mask_stands : (o : Observation) (text : List ℕ) (fault : MaskFault) → IsMaskOf o text (mask_of o text) →
    ExplainsMask o text fault → (fault ≡ mask.Memory → ⊥) → ⊥
mask_stands o text (mask.BadMask place) is why other = let a = is.is_text in let b = why.0 in absurd cc
mask_stands o text (mask.OutOfRange channel channels) is why other =
    let a = is.within in let b = why.1 in absurd cc
mask_stands o text mask.AllMasked is why other =
    let c = is.leaves.0 in
    let place = file_channel o c in
    let named = why.2 place (fits o.channels o.is_falling c is.leaves.1) in
    let mark = get_or-map-range_with_len (λ k. names_channel text (file_channel o k)) 0 o.channels c c false
    is.leaves.1 (omega arith) in
    never _ (sym mark ∙ is.leaves.2) named
mask_stands o text mask.Memory is why other = other refl

pub not_refused : (s : LevelSeen) (o : Observation) (header : HeaderText) (refusal : LevelRefusal) →
    CanLevel s o header → Refuses s o header refusal → ⊥
not_refused s o header LongTime can refused = refused can.time
not_refused s o header (BadMask fault) can refused = mask_stands o s.mask fault can.mask refused.0 refused.1
not_refused s o header (NoRoom need size) can refused = can.room need size refused

-- ---- call by call

module _ (join : PiecesJoin) (s : LevelSeen) (o : Observation) (h : HeaderText) where
  head_is : (l : LevelStream) → Opens s o h l → (bytes : List ℕ) → bytes ≡ header_bytes l.header →
      bytes ≡ header_in s o h
  head_is l was bytes is = is ∙ ap header_bytes was.header_is

  pub began : (l b : LevelStream) (before middle after : SinkSeen) (bytes : List ℕ) → Opens s o h l →
      bytes ≡ header_bytes l.header → WroteAll bytes before middle → Drains l.leveller b.leveller middle after →
      Streams s o h [] b before after
  began l b before middle after bytes was is wrote drains =
      let Wrote : List ℕ → Type 0 = λ xs. WroteAll xs before middle in
      record {
        task = drains.makes.task ∙ was.task;
        format = was.format;
        goes_on = drains.makes.ended ∙ was.goes_on;
        drained = drains.drained;
        text = [] ++ drains.text;
        levels = drains.makes.levels [] [] was.fresh;
        wrote = join.joins (header_in s o h) drains.text before middle after
            (subst Wrote (head_is l was bytes is) wrote) drains.wrote;
      }

  pub begin_broke : (l : LevelStream) (before after : SinkSeen) (bytes : List ℕ) → Opens s o h l →
      bytes ≡ header_bytes l.header → WroteFront bytes before after → Leaves s o h [] (Failed Midway) before after
  begin_broke l before after bytes was is front =
      let Front : List ℕ → Type 0 = λ xs. WroteFront xs before after in
      record {
        count = 0;
        front = join.breaks_off (header_in s o h) (whole_stretches (task_in s o) (take 0 [])) before after
            (subst Front (head_is l was bytes is) front);
      }

  -- all that was made so far, and a text more
  pub fed : (a b : LevelStream) (m : Levelling) (bytes piece : List ℕ) (start before after : SinkSeen) →
      Streams s o h bytes a start before → Takes a.leveller m piece → Drains m b.leveller before after →
      Streams s o h (bytes ++ piece) b start after
  fed a b m bytes piece start before after was takes drains =
      let head = header_in s o h in
      let Wrote : List ℕ → Type 0 = λ xs. WroteAll xs start after in
      record {
        task = drains.makes.task ∙ takes.task ∙ was.task;
        format = was.format;
        goes_on = drains.makes.ended ∙ takes.ended ∙ was.goes_on;
        drained = drains.drained;
        text = was.text ++ drains.text;
        levels = drains.makes.levels (bytes ++ piece) was.text (takes.levels bytes was.text was.levels);
        wrote = subst Wrote (append_assoc head was.text drains.text)
            (join.joins (head ++ was.text) drains.text start before after was.wrote drains.wrote);
      }

  -- a call of the output failed, once a leveller had made the front of what is to be written
  broke_in : (all text more : List ℕ) (start before after : SinkSeen) → IsPrefix (text ++ more) all →
      WroteAll (header_in s o h ++ text) start before → WroteFront more before after →
      WroteFront (header_in s o h ++ all) start after
  broke_in all text more start before after made wrote front =
      let head = header_in s o h in
      let Front : List ℕ → Type 0 = λ xs. WroteFront xs start after in
      subst Front
      (append_assoc (head ++ text) more made.0 ∙ append_assoc head text (more ++ made.0)
      ∙ ap (λ (xs : List ℕ). head ++ xs) (sym (append_assoc text more made.0) ∙ made.1))
      (join.breaks_off ((head ++ text) ++ more) made.0 start after
      (join.stops (head ++ text) more start before after wrote front))

  -- while more data may come
  broke_at : LevelsAreFronts → (n : Levelling) (bytes all text more : List ℕ) (count : ℕ)
      (start before after : SinkSeen) → n.task ≡ task_in s o → FormatInRange (task_in s o).format →
      n.has_ended ≡ false → take count all ≡ bytes → Levels n bytes (text ++ more) →
      WroteAll (header_in s o h ++ text) start before → WroteFront more before after →
      Leaves s o h all (Failed Midway) start after
  broke_at fronts n bytes all text more count start before after task range on is levels wrote front =
      let OfTask : Task → Type 0 = λ k. IsPrefix (text ++ more) (whole_stretches k bytes) in
      let OfBytes : List ℕ → Type 0 = λ xs. IsPrefix (text ++ more) (whole_stretches (task_in s o) xs) in
      let Ranged : Task → Type 0 = λ k. FormatInRange k.format in
      let made = fronts.going n bytes (text ++ more) (subst Ranged (sym task) range) on levels in
      record {
        count = count;
        front = broke_in (whole_stretches (task_in s o) (take count all)) text more start before after
            (subst OfBytes (sym is) (subst OfTask task made)) wrote front;
      }

  pub feed_broke : LevelsAreFronts → (a : LevelStream) (m n : Levelling) (bytes all : List ℕ) (count : ℕ)
      (start before after : SinkSeen) → Streams s o h bytes a start before → Takes a.leveller m (take count all) →
      BreaksDrain m n before after → Leaves s o h (bytes ++ all) (Failed Midway) start after
  feed_broke fronts a m n bytes all count start before after was takes broke =
      broke_at fronts n (bytes ++ take count all) (bytes ++ all) was.text broke.text (length bytes + count) start before
      after (broke.makes.task ∙ takes.task ∙ was.task) was.format (broke.makes.ended ∙ takes.ended ∙ was.goes_on)
      (take_behind bytes all count)
      (broke.makes.levels (bytes ++ take count all) was.text (takes.levels bytes was.text was.levels)) was.wrote
      broke.front

  pub begin_breaks : LevelsAreFronts → (l : LevelStream) (n : Levelling) (before middle after : SinkSeen)
      (bytes : List ℕ) → Opens s o h l → bytes ≡ header_bytes l.header → WroteAll bytes before middle →
      BreaksDrain l.leveller n middle after → Leaves s o h [] (Failed Midway) before after
  begin_breaks fronts l n before middle after bytes was is wrote broke =
      let Wrote : List ℕ → Type 0 = λ xs. WroteAll xs before middle in
      broke_at fronts n [] [] [] broke.text 0 before middle after (broke.makes.task ∙ was.task) was.format
      (broke.makes.ended ∙ was.goes_on) refl (broke.makes.levels [] [] was.fresh)
      (subst Wrote (head_is l was bytes is ∙ sym (append-nil (header_in s o h))) wrote) broke.front

  pub finished : (a : LevelStream) (m n : Levelling) (bytes : List ℕ) (start before after : SinkSeen) →
      Streams s o h bytes a start before → EndsAs a.leveller m → Drains m n before after →
      Leaves s o h bytes All start after
  finished a m n bytes start before after was ends drains =
      let head = header_in s o h in
      let Wrote : List ℕ → Type 0 = λ xs. WroteAll xs start after in
      let whole = drains.done (drains.makes.ended ∙ ends.ended) bytes (was.text ++ drains.text)
      (drains.makes.levels bytes was.text (ends.levels bytes was.text was.levels)) in
      let same : was.text ++ drains.text ≡ levelled (task_in s o) bytes =
      whole ∙ ap (λ (k : Task). levelled k bytes) (drains.makes.task ∙ ends.task ∙ was.task) in
      subst Wrote (append_assoc head was.text drains.text ∙ ap (λ (xs : List ℕ). head ++ xs) same)
      (join.joins (head ++ was.text) drains.text start before after was.wrote drains.wrote)

  pub finish_broke : LevelsAreFronts → (a : LevelStream) (m n : Levelling) (bytes : List ℕ)
      (start before after : SinkSeen) → Streams s o h bytes a start before → EndsAs a.leveller m →
      BreaksDrain m n before after → Leaves s o h bytes (Failed AtEnd) start after
  finish_broke fronts a m n bytes start before after was ends broke =
      let task = broke.makes.task ∙ ends.task ∙ was.task in
      let OfTask : Task → Type 0 = λ k. IsPrefix (was.text ++ broke.text) (levelled k bytes) in
      let Ranged : Task → Type 0 = λ k. FormatInRange k.format in
      let made = fronts.ever n bytes (was.text ++ broke.text) (subst Ranged (sym task) was.format)
      (broke.makes.levels bytes was.text (ends.levels bytes was.text was.levels)) in
      broke_in (levelled (task_in s o) bytes) was.text broke.text start before after (subst OfTask task made) was.wrote
      broke.front

  pub stopped : StretchesAreWhole → (a : LevelStream) (bytes : List ℕ) (start now : SinkSeen) →
      Streams s o h bytes a start now → Leaves s o h bytes Early start now
  stopped law a bytes start now was =
      let head = header_in s o h in
      let Wrote : List ℕ → Type 0 = λ xs. WroteAll xs start now in
      let same : was.text ≡ whole_stretches (task_in s o) bytes =
      law a.leveller bytes was.text was.drained was.goes_on was.levels
      ∙ ap (λ (k : Task). whole_stretches k bytes) was.task in
      subst Wrote (ap (λ (xs : List ℕ). head ++ xs) same) was.wrote
