use Rattle.std.proofs.Common.{◌≡◌, ◌++◌, true≢false, length, not, ap, sym, ◌∙◌, append_assoc}
use Rattle.std.specs.Cmp.Lexicographic.{bytes_decides}
use Rattle.std.proofs.lemmas.List.{take-append-drop}
use Rattle.ropey_walk.specs.Comparing.{slice_bytes}
use Rattle.ropey_walk.specs.Slices.{slice_text}
use Rattle.ropey_walk.proofs.ChunkWalks.{written}
use Rattle.ropey_walk.proofs.PartWalks.{same_text, same_bytes, not_no, other_front, all_the_same, as_long_left}
use mathlib.Core.Path.{refl}
use Rattle.ropey_walk.proofs.slice.RopeSlice.eq_str.Goals as goal

pub returns-then-len_bytes-text : goal.returns-then-len_bytes-text
returns-then-len_bytes-text c =
    let differ : slice_bytes c.args.self.now ≡ c.args.text.now → ⊥ = λ e. c.if-len_bytes-text.true (c.len_bytes.ensures.bytes ∙ ap length e) in
    (λ no. absurd (true≢false (sym no)), λ e. absurd (differ (same_bytes (slice_text c.args.self.now) c.args.text.now c.utf8.text e)))

pub split_at-requires : goal.split_at-requires
split_at-requires c =
    let now = c.loop-chunk.invariant in
    let step = c.in-Some.ensures.steps in
    as_long_left now.0 c.loop-chunk.rest.now c.args.text.now c.in-Some.chunk.now c.loop-chunk.chunk-iterator.ahead c.next.new.self.ahead (slice_bytes c.args.self.now) now.1 now.2 step.0.0 step.1 (sym c.len_bytes.ensures.bytes ∙ c.if-len_bytes-text.false)

pub returns-then-ne : goal.returns-then-ne
returns-then-ne c =
    let now = c.loop-chunk.invariant in
    let step = c.in-Some.ensures.steps in
    let front = c.split_at.result.0.now in
    let behind = c.split_at.result.1.now in
    let chunk = c.in-Some.chunk.now in
    let parts : now.0 ++ (front ++ behind) ≡ c.args.text.now =
    ap (λ xs. now.0 ++ xs) ((λ i. c.split_at.ensures.front i ++ c.split_at.ensures.back i) ∙ take-append-drop (length c.in-Some.chunk.now) c.loop-chunk.rest.now) ∙ now.1 in
    let len : length front ≡ length chunk = c.split_at.ensures.front_len in
    let differ : slice_bytes c.args.self.now ≡ c.args.text.now → ⊥ =
    λ e.
    let same = other_front now.0 front behind c.args.text.now chunk c.loop-chunk.chunk-iterator.ahead c.next.new.self.ahead (slice_bytes c.args.self.now) parts now.2 step.0.0 step.1 len e in
    true≢false (c.if-ne.ensures ∙ ap not ((bytes_decides front c.as_bytes.result.now).1 (same ∙ sym c.as_bytes.ensures.value))) in
    (λ no. absurd (true≢false (sym no)), λ e. absurd (differ (same_bytes (slice_text c.args.self.now) c.args.text.now c.utf8.text e)))

pub loop-chunk-preserved : goal.loop-chunk-preserved
loop-chunk-preserved c =
    let now = c.loop-chunk.invariant in
    let step = c.in-Some.ensures.steps in
    let chunk = c.in-Some.chunk.now in
    let front : c.split_at.result.0.now ≡ chunk =
    (bytes_decides c.split_at.result.0.now c.as_bytes.result.now).0 (not_no _ c.if-ne.ensures) ∙ c.as_bytes.ensures.value in
    let parts : now.0 ++ (c.split_at.result.0.now ++ c.split_at.result.1.now) ≡ c.args.text.now =
    ap (λ xs. now.0 ++ xs) ((λ i. c.split_at.ensures.front i ++ c.split_at.ensures.back i) ∙ take-append-drop (length c.in-Some.chunk.now) c.loop-chunk.rest.now) ∙ now.1 in (
      now.0 ++ chunk,
      append_assoc now.0 chunk c.split_at.result.1.now ∙ ap (λ xs. now.0 ++ (xs ++ c.split_at.result.1.now)) (sym front) ∙ parts,
      written now.0 chunk c.loop-chunk.chunk-iterator.ahead c.next.new.self.ahead (slice_bytes c.args.self.now) now.2 step.0.0 step.1,
    )

pub returns : goal.returns
returns c =
    let now = c.loop-chunk.invariant in
    let all = all_the_same now.0 c.loop-chunk.rest.now c.args.text.now c.loop-chunk.chunk-iterator.ahead (slice_bytes c.args.self.now) now.1 now.2 c.in-None.ensures.steps.0.0 (sym c.len_bytes.ensures.bytes ∙ c.if-len_bytes-text.false) in
    (λ yes. same_text (slice_text c.args.self.now) c.args.text.now c.utf8.text all, λ e. refl)
