use Rattle.std.proofs.Common.{◌+◌, length, ap, refl, sym, ◌∙◌, arith}
use Rattle.std.specs.Str.{chars}
use Rattle.std.proofs.lemmas.Str.{encodes-chars}
use Rattle.str_indices.specs.Text.{byte_len}
use Rattle.ropey_tree.specs.declared.counts.By.TheVariants.{Bytes}
use Rattle.ropey_walk.specs.Chunks.{text_of, lone_piece}
use Rattle.ropey_tree.specs.Counts.{counts_of}
use Rattle.ropey_walk.specs.Clips.{between, clip}
use Rattle.ropey_walk.specs.Slices.{slice_pieces}
use Rattle.ropey_walk.specs.Sources.{source_pieces}
use Rattle.ropey_walk.proofs.ChunkParts.{text_of_piece, light_utf8, only_cut, only_stands}
use Rattle.ropey_walk.proofs.OneByte.{known-bytes}
use Rattle.ropey_walk.proofs.Reaching.{sum-fits}
use Rattle.ropey_walk.proofs.Slices.{part_of}
use Rattle.ropey_walk.proofs.BreakLaws.{breaks_of_parts}
use Rattle.ropey_walk.proofs.slice.RopeSlice.only.Goals as goal

pub overflow_add-self : goal.overflow_add-self
overflow_add-self c =
    let s = c.args.self.now in
    let t = chars c.args.text.now in
    let same = ap source_pieces c.requires.under in
    let part = part_of s (lone_piece t) same in
    omega (arith, sum-fits breaks_of_parts Bytes (text_of (lone_piece t)) s.start s.len part (omega (arith, s.fits, ap (λ ps. byte_len (text_of ps)) same)))

pub range-requires-clause-start_boundary : goal.range-requires-clause-start_boundary
range-requires-clause-start_boundary c =
    let s = c.args.self.now in
    let t = chars c.args.text.now in
    λ _. (only_cut t s.start s.len (part_of s (lone_piece t) (ap source_pieces c.requires.under)) c.requires.some c.args.text.now (light_utf8 s c.args.text c.requires.under) refl).starts

pub range-requires-clause-end_boundary : goal.range-requires-clause-end_boundary
range-requires-clause-end_boundary c =
    let s = c.args.self.now in
    let t = chars c.args.text.now in
    (only_cut t s.start s.len (part_of s (lone_piece t) (ap source_pieces c.requires.under)) c.requires.some c.args.text.now (light_utf8 s c.args.text c.requires.under) refl).ends

pub returns-clause-stands : goal.returns-clause-stands
returns-clause-stands c =
    let s = c.args.self.now in
    let t = chars c.args.text.now in
    let same = ap source_pieces c.requires.under in
    let part = part_of s (lone_piece t) same in
    let cut = only_cut t s.start s.len part c.requires.some c.args.text.now (light_utf8 s c.args.text c.requires.under) refl in
    let text = ap chars c.range.ensures.value ∙ cut.is in
    λ by i. rw (text, c.zero.ensures) (only_stands t s.start s.len part c.requires.some (slice_pieces s) by i (ap (clip s.start.chars (s.start.chars + s.len.chars)) same))

pub invariant_of-result : goal.invariant_of-result
invariant_of-result c =
    let s = c.args.self.now in
    let t = chars c.args.text.now in
    let same = ap source_pieces c.requires.under in
    let part = part_of s (lone_piece t) same in
    let cut = only_cut t s.start s.len part c.requires.some c.args.text.now (light_utf8 s c.args.text c.requires.under) refl in
    let text = ap chars c.range.ensures.value ∙ cut.is in
    let counted = part.counted ∙ ap (λ u. counts_of (between s.start.chars (s.start.chars + s.len.chars) u)) (text_of_piece t) in
    record {
      ascii = λ is. ap length text ∙ known-bytes _ s.len is counted ∙ ap byte_len (sym text) ∙ ap length (encodes-chars c.range.result.now c.range.utf8);
    }
