-- The passes of shards that ended, and of a recorder after them, are all readers of the rings.
use Rattle.std.proofs.Common.{◌≡◌, ℕ, ◌<◌, List, [], ◌∷◌, length, length-append, Option, Some, None, slice_get, option_map, refl, sym, ◌∙◌, arith}
use Rattle.std.proofs.lemmas.List.{length-map}
use Rattle.std.proofs.lemmas.Option.{slice_get-map, slice_get_within}
use mathlib.Core.Logic.{dite}
use native.Mathlib.Decide.{ℕ_discrete}
use Rattle.ring_words.specs.Ring.{Begins}
use Rattle.ring_ends.specs.declared.ring.Ring.{Ring}
use Rattle.ring_ends.specs.declared.passes.WriterPass.{WriterPass}
use Rattle.ring_ends.specs.declared.passes.EndedReader.{EndedReader}
use Rattle.ring_ends.specs.declared.finished.Finished.{Finished}
use Rattle.ring_ends.specs.Passes.{ring_shape, ended_knows}
use Rattle.ring_ends.specs.Ended.{sealed_at_end, cleared_at_end}
use Rattle.dada_hdu.specs.declared.hdu.Hdu.{Hdu}
use Rattle.dada_hdu.specs.declared.ended.HduEnded.{HduEnded}
use Rattle.dada_hdu.specs.Passes.{header_ring, data_ring, header_end, data_end, number_of, EndedFromBoth}
use Rattle.dada_hdu.specs.Ended.{GivesBoth, AreBothInOrder, AllReadersOfBoth, RingFinished}
use Rattle.session_readers.specs.declared.shard.ShardActor.{ShardActor}
use Rattle.session_readers.specs.declared.record.RecordActor.{RecordActor}
use Rattle.session_readers.specs.Shards.{shard_cleared, shard_number}
use Rattle.session_readers.specs.Records.{recorded_headers, recorded_blocks}
use Rattle.search_session.specs.Books.{HasBank, HaveEngines, passes_of, banks_of}
use Rattle.search_session.specs.Ends.{passes_with, recorder_passes, ReadsLast, AreDone}
use Rattle.search_session.proofs.Rows.{one_at, longer, at_end}

-- ---- what is at a place

gives_pass : (shards : List (Option ShardActor)) (s : ℕ) (x : ShardActor) → slice_get shards s ≡ Some (Some x) →
    GivesBoth (passes_of shards) s x.pass
gives_pass shards s x at = slice_get-map (option_map (λ (y : ShardActor). y.pass)) shards s
    ∙ rw at refl

pub gives_bank : (shards : List (Option ShardActor)) (s : ℕ) (x : ShardActor) → slice_get shards s ≡ Some (Some x) →
    HasBank (banks_of shards) s x.part
gives_bank shards s x at = slice_get-map (option_map (λ (y : ShardActor). y.part)) shards s
    ∙ rw at refl

-- as many passes as shards
pub pass_count : (shards : List (Option ShardActor)) → length (passes_of shards) ≡ length shards
pass_count shards = length-map shards (option_map (λ (y : ShardActor). y.pass))

module _ {F : Type 0} where
  gives_first : (shards : List (Option ShardActor)) (recorder : Option (RecordActor F)) (s : ℕ) (x : ShardActor) →
      slice_get shards s ≡ Some (Some x) → GivesBoth (passes_with shards recorder) s x.pass
  gives_first shards recorder s x at =
      longer (passes_of shards) (recorder_passes recorder) s (Some x.pass) (gives_pass shards s x at)

  gives_last : (shards : List (Option ShardActor)) (recorder : Option (RecordActor F)) (x : RecordActor F) →
      recorder ≡ Some x → GivesBoth (passes_with shards recorder) (length shards) x.pass
  gives_last shards recorder x is =
      rw is (at_end (passes_of shards) (Some x.pass) (length shards) (pass_count shards))

  -- a place among the passes is that of a shard, or the last
  each_pass : (hdu : Hdu) (transfers : ℕ) (shards : List (Option ShardActor)) (recorder : Option (RecordActor F)) →
      AreDone hdu transfers shards recorder → (j : ℕ) → j < length (passes_with shards recorder) →
      (e : HduEnded) × GivesBoth (passes_with shards recorder) j e × EndedFromBoth hdu e × (number_of e ≡ j)
  each_pass hdu transfers shards None done j near =
      let long = pass_count shards in
      let all = length-append (passes_of shards) [] in
      let h = done.each j (omega arith) in
      (h.0.pass, gives_first shards None j h.0 h.1, h.2.on.reads, h.2.number)
  each_pass hdu transfers shards (Some x) done j near = dite (ℕ_discrete j (length shards))
      (λ same. (
        x.pass,
        rw same (gives_last shards (Some x) x refl),
        done.last.reads,
        done.last.number ∙ sym same,
      ))
      (λ other.
      let long = pass_count shards in
      let all = length-append (passes_of shards) (Some x.pass ∷ []) in
      let h = done.each j (omega arith) in
      (h.0.pass, gives_first shards (Some x) j h.0 h.1, h.2.on.reads, h.2.number))

-- ---- what a ring knows of a reader at the end

module _ (ring : Ring) (writer : WriterPass) (part : HduEnded → EndedReader) (readers : List (Option HduEnded))
    (f : Finished) (end : RingFinished ring writer part readers f) (j : ℕ) (e : HduEnded)
    (gives : GivesBoth readers j e) (number : (ended_knows (part e)).number ≡ j) where
  known_cleared : cleared_at_end f j ≡ (ended_knows (part e)).cleared
  known_cleared = rw (rw number at (end.known j e gives)) refl

  known_begins : j < (ring_shape ring).readers → Begins (ended_knows (part e)).cleared (sealed_at_end f)
  known_begins near = rw known_cleared at (end.begins j near)

-- ---- shards and a recorder

module _ {F : Type 0} (hdu : Hdu) (transfers : ℕ) (shards : List (Option ShardActor))
    (recorder : Option (RecordActor F)) (done : AreDone hdu transfers shards recorder) where
  pub passes_in_order : AreBothInOrder hdu (passes_with shards recorder)
  passes_in_order =
      record { count = done.all; each = λ j near. each_pass hdu transfers shards recorder done j near }

  pub banks_have : HaveEngines transfers (banks_of shards)
  banks_have = λ s near.
      let long = length-map shards (option_map (λ (y : ShardActor). y.part)) in
      let h = done.each s (omega arith) in
      (h.0.part, gives_bank shards s h.0 h.1, h.2.count)

  module _ (writer : WriterPass) (f : Finished)
      (end : RingFinished (data_ring hdu) writer data_end (passes_with shards recorder) f) where
    module _ (s : ℕ) (x : ShardActor) (at : slice_get shards s ≡ Some (Some x)) where
      number_is : shard_number x ≡ s
      number_is =
          let h = done.each s (slice_get_within shards s (Some x) at) in
          rw (one_at shards s h.0 x h.1 at) at h.2.number

      pub cleared_is : cleared_at_end f s ≡ shard_cleared x
      cleared_is = known_cleared (data_ring hdu) writer data_end (passes_with shards recorder) f end s x.pass
          (gives_first shards recorder s x at) number_is

      pub cleared_begins : Begins (shard_cleared x) (sealed_at_end f)
      cleared_begins =
          let within = slice_get_within (passes_with shards recorder) s (Some x.pass)
          (gives_first shards recorder s x at) in
          let all = done.all in
          known_begins (data_ring hdu) writer data_end (passes_with shards recorder) f end s x.pass
          (gives_first shards recorder s x at) number_is (omega arith)

    module _ (x : RecordActor F) (is : recorder ≡ Some x) where
      pub last_reads : ReadsLast hdu (length shards) x
      last_reads = rw is at done.last

      within : length shards < length (passes_with shards recorder)
      within = slice_get_within (passes_with shards recorder) (length shards) (Some x.pass)
          (gives_last shards recorder x is)

      pub last_cleared : cleared_at_end f (length shards) ≡ recorded_blocks x
      last_cleared = known_cleared (data_ring hdu) writer data_end (passes_with shards recorder) f end (length shards)
          x.pass (gives_last shards recorder x is) last_reads.number

      pub last_begins : Begins (recorded_blocks x) (sealed_at_end f)
      last_begins =
          let near = within in
          let all = done.all in
          known_begins (data_ring hdu) writer data_end (passes_with shards recorder) f end (length shards)
          x.pass (gives_last shards recorder x is) last_reads.number (omega arith)

      pub last_headers : (header_writer : WriterPass) (header : Finished) →
          RingFinished (header_ring hdu) header_writer header_end (passes_with shards recorder) header →
          AllReadersOfBoth hdu (passes_with shards recorder) → Begins (recorded_headers x) (sealed_at_end header)
      last_headers header_writer header header_is readers =
          let near = within in
          let all = readers.header.count in
          let long = length-map (passes_with shards recorder) (option_map header_end) in
          known_begins (header_ring hdu) header_writer header_end (passes_with shards recorder) header header_is
          (length shards) x.pass (gives_last shards recorder x is) (last_reads.reads.number ∙ last_reads.number)
          (omega arith)
