use Rattle.std.proofs.Common.{◌≡◌, ℕ, ◌<◌, Bool, true, false, List, [], ◌∷◌, ◌++◌, length, map, refl, sym, ap, ◌∙◌, arith}
use Rattle.std.specs.Prelude.{slice_index_or}
use Rattle.std.specs.List.{range_with_len}
use Rattle.std.proofs.lemmas.List.FromFn.{map-range_with_len_more, get_or-map-range_with_len, length-map-range_with_len}
use Rattle.dada_model.specs.Observation.{Observation}
use Rattle.channel_mask.specs.Texts.{names_channel}
use Rattle.channel_mask.specs.Masks.{place_in_file, file_channel, is_masked, IsMaskOf}
use Rattle.level_plan.proofs.marks.marks_in_file.Goals as goal

-- a channel of the file by its count from the highest frequency on, and back
twice : (n : ℕ) (f : Bool) (i : ℕ) → i < n → place_in_file n f (place_in_file n f i) ≡ i
twice n true i small = refl
twice n false i small = omega arith

fits : (n : ℕ) (f : Bool) (i : ℕ) → i < n → place_in_file n f i < n
fits n true i small = small
fits n false i small = omega arith

marked : (o : Observation) (text : List ℕ) (mask : List Bool) → IsMaskOf o text mask → (i : ℕ) → i < o.channels →
    is_masked mask (place_in_file o.channels o.is_falling i) ≡ names_channel text i
marked o text mask is i small =
    let c = place_in_file o.channels o.is_falling i in
    ap (λ (m : List Bool). slice_index_or m c false) is.mask_is
    ∙ get_or-map-range_with_len (λ k. names_channel text (file_channel o k)) 0 o.channels c c false
    (fits o.channels o.is_falling i small) (omega arith)
    ∙ ap (names_channel text) (twice o.channels o.is_falling i small)

pub loop-i-preserved : goal.loop-i-preserved
loop-i-preserved c =
    let o = c.args.observation.now in
    let i = c.loop-i.i in
    let test = c.loop-i-test.true in
    let channels = c.channels-channels.ensures in
    let place = c.from_top.ensures
    ∙ ap (λ (n : ℕ). place_in_file n c.falling.result i) channels
    ∙ ap (λ (f : Bool). place_in_file o.channels f i) c.falling.ensures in
    let mark = c.masked.ensures ∙ ap (is_masked c.args.mask.now) place
    ∙ marked o c.args.text.now c.args.mask.now c.requires i (omega arith) in
    let names = λ (k : ℕ). names_channel c.args.text.now k in
    c.in_ok-push.ensures.items ∙ ap (λ (m : Bool). c.loop-i.marks.items ++ m ∷ []) mark
    ∙ ap (λ (ms : List Bool). ms ++ names i ∷ []) c.loop-i.invariant
    ∙ sym (map-range_with_len_more names 0 i i (omega arith))

pub returns-clause-marks : goal.returns-clause-marks
returns-clause-marks c =
    let channels = c.channels-channels.ensures in
    let test = c.loop-i-test.false in
    let end = c.loop-i.auto.i-end in
    let same : c.loop-i.i ≡ c.args.observation.now.channels = omega arith in
    c.loop-i.invariant
    ∙ ap (λ (n : ℕ). map (λ k. names_channel c.args.text.now k) (range_with_len 0 n)) same

pub returns-clause-long : goal.returns-clause-long
returns-clause-long c =
    let channels = c.channels-channels.ensures in
    let test = c.loop-i-test.false in
    let end = c.loop-i.auto.i-end in
    let same : c.loop-i.i ≡ c.args.observation.now.channels = omega arith in
    ap (length {A = Bool}) c.loop-i.invariant
    ∙ length-map-range_with_len (λ k. names_channel c.args.text.now k) 0 c.loop-i.i ∙ same

pub masked-requires : goal.masked-requires
masked-requires c =
    let o = c.args.observation.now in
    let i = c.loop-i.i in
    let test = c.loop-i-test.true in
    let channels = c.channels-channels.ensures in
    let place : c.from_top.result ≡ place_in_file o.channels o.is_falling i = c.from_top.ensures
    ∙ ap (λ (n : ℕ). place_in_file n c.falling.result i) channels
    ∙ ap (λ (f : Bool). place_in_file o.channels f i) c.falling.ensures in
    let fit = fits o.channels o.is_falling i (omega arith) in
    let long = c.requires.channels in
    omega arith
