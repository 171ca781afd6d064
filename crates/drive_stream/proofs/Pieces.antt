-- Pieces of data, one after another.
use Rattle.std.proofs.Common.{◌≡◌, ℕ, ◌+◌, ◌-◌, ◌≤◌, List, [], ◌++◌, length, take, drop, sym, ap, ◌∙◌, subst, append_assoc, arith}
use Rattle.std.proofs.Common.{take-add, take-append-drop, length-append}
use Rattle.std.proofs.lemmas.List.{append-nil, take_all, length-drop}
use Rattle.psr_base.specs.Written.{SinkSeen}
use Rattle.drive_stream.specs.Endings.{Ending}
use Rattle.drive_stream.specs.Streams.{Standing, Leaving, IsStreaming, StreamsOn, LeavesAt}

-- another list of the same bytes
pub same_bytes : {S : Type 0} (streams : Standing S) (old new : S) (before after : SinkSeen) (xs ys : List ℕ) →
    xs ≡ ys → StreamsOn streams old xs new before after → StreamsOn streams old ys new before after
same_bytes streams old new before after xs ys same on =
    let P : List ℕ → Type 0 = λ zs. StreamsOn streams old zs new before after in subst P same on

-- nothing was taken
pub none_taken : {S : Type 0} (streams : Standing S) (stream : S) (seen : SinkSeen) →
    StreamsOn streams stream [] stream seen seen
none_taken streams stream seen header bytes start was =
    let P : List ℕ → Type 0 = λ xs. streams header xs stream start seen in
    subst P (sym (append-nil bytes)) was

-- one piece more
pub one_more : {S : Type 0} (streams : Standing S) (a b c : S) (xs ys : List ℕ) (before middle after : SinkSeen) →
    StreamsOn streams a xs b before middle → StreamsOn streams b ys c middle after →
    StreamsOn streams a (xs ++ ys) c before after
one_more streams a b c xs ys before middle after first second header bytes start was =
    let P : List ℕ → Type 0 = λ zs. streams header zs c start after in
    subst P (append_assoc bytes xs ys) (second header (bytes ++ xs) start (first header bytes start was))

-- or one at which the stream ended
pub one_ends : {S F : Type 0} (streams : Standing S) (leaves : Leaving F) (a b : S) (xs ys : List ℕ)
    (ending : Ending F) (before middle after : SinkSeen) → StreamsOn streams a xs b before middle →
    LeavesAt streams leaves b ys ending middle after → LeavesAt streams leaves a (xs ++ ys) ending before after
one_ends streams leaves a b xs ys ending before middle after first second header bytes start was =
    let P : List ℕ → Type 0 = λ zs. leaves header zs ending start after in
    subst P (append_assoc bytes xs ys) (second header (bytes ++ xs) start (first header bytes start was))

pub same_left : {S F : Type 0} (streams : Standing S) (leaves : Leaving F) (old : S) (xs ys : List ℕ)
    (ending : Ending F) (before after : SinkSeen) → xs ≡ ys → LeavesAt streams leaves old xs ending before after →
    LeavesAt streams leaves old ys ending before after
same_left streams leaves old xs ys ending before after same left =
    let P : List ℕ → Type 0 = λ zs. LeavesAt streams leaves old zs ending before after in subst P same left

-- the stream stands still, with room for what is left
pub stands_still : {S : Type 0} (streams : Standing S) (a b : S) (xs : List ℕ) (more left : ℕ)
    (before after : SinkSeen) → StreamsOn streams a xs b before after → length xs + left ≤ more →
    IsStreaming streams more a before → IsStreaming streams left b after
stands_still streams a b xs more left before after on room was = record {
  header = was.header;
  bytes = was.bytes ++ xs;
  start = was.start;
  stands = on was.header was.bytes was.start was.stands;
  few = omega (arith, was.few, room, length-append was.bytes xs);
}

-- ---- the bytes of a piece from a place on

pub pieces_meet : (t n : ℕ) (xs : List ℕ) →
    take t xs ++ take n (take (length xs - t) (drop t xs)) ≡ take (t + n) xs
pieces_meet t n xs =
    ap (λ (ys : List ℕ). take t xs ++ take n ys)
    (take_all (length xs - t) (drop t xs) (omega (arith, length-drop t xs)))
    ∙ sym (take-add t n xs)

pub rest_meets : (t : ℕ) (xs : List ℕ) → take t xs ++ take (length xs - t) (drop t xs) ≡ xs
rest_meets t xs =
    ap (λ (ys : List ℕ). take t xs ++ ys) (take_all (length xs - t) (drop t xs) (omega (arith, length-drop t xs)))
    ∙ take-append-drop t xs

pub rest_length : (t : ℕ) (xs : List ℕ) → t ≤ length xs → length (take (length xs - t) (drop t xs)) ≡ length xs - t
rest_length t xs within =
    ap (length {A = ℕ}) (take_all (length xs - t) (drop t xs) (omega (arith, length-drop t xs))) ∙ length-drop t xs
