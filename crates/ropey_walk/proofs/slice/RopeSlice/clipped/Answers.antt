use Rattle.std.proofs.Common.{◌≡◌, ◌+◌, ◌-◌, ◌==◌, inl, inr, List, ℕ, length, ap, sym, ◌∙◌, subst, arith}
use Rattle.std.specs.Str.{chars}
use Rattle.std.proofs.lemmas.Str.{encodes-chars}
use Rattle.str_indices.specs.Text.{byte_len}
use Rattle.ropey_tree.specs.declared.counts.By.TheVariants.{Bytes}
use Rattle.ropey_tree.specs.Cutting.{IsRopeText}
use Rattle.ropey_walk.specs.Chunks.{text_of}
use Rattle.ropey_walk.specs.Clips.{clip}
use Rattle.ropey_walk.specs.Sources.{source_pieces}
use Rattle.ropey_walk.proofs.Cuts.{text_fits}
use Rattle.ropey_walk.proofs.Clipping.{text-clip}
use Rattle.ropey_walk.proofs.Clipped.{text-is}
use Rattle.ropey_walk.proofs.OneByte.{IsOneByte, between-bytes, piece-bytes, known-bytes, either}
use Rattle.ropey_walk.proofs.Reaching.{IsCutAt, clipped_leaf, leaf_stands_in, leaf_cut_at, ends_behind, sum-fits}
use Rattle.ropey_walk.proofs.Slices.{part_of}
use Rattle.ropey_walk.proofs.BreakLaws.{breaks_of_parts}
use Rattle.ropey_walk.proofs.slice.RopeSlice.clipped.Goals as goal
use Rattle.ropey_walk.proofs.slice.RopeSlice.clipped.Goals.{After-min-end}

cut_at : (c : After-min-end) → let s = c.args.self.now in let r = c.requires.reached in
    IsCutAt c.as_str-text.result.now c.saturating_sub-start.result c.min-end.result (clipped_leaf (text_of r.left) s.start.chars (s.start.chars + s.len.chars) c.args.found.now.leaf.now)
cut_at c =
    let s = c.args.self.now in
    let pieces = c.args.node.now.pieces in
    let leaf = c.args.found.now.leaf.now in
    let before = c.args.found.now.before in
    let text = c.height.ensures.tree.text in
    let r = c.requires.reached in
    let at = leaf_cut_at breaks_of_parts pieces text s.start s.len (part_of s pieces c.requires.under) c.requires.some c.args.by c.args.i leaf before r
    c.saturating_sub-start.result c.min-end.result c.as_str-text.ensures.piece.scalars c.saturating_sub-start.ensures (omega (arith, c.min-end.ensures, ap length c.as_str-text.ensures.bytes)) in
    subst (λ (bs : List ℕ). IsCutAt bs c.saturating_sub-start.result c.min-end.result (clipped_leaf (text_of r.left) s.start.chars (s.start.chars + s.len.chars) leaf)) (sym c.as_str-text.ensures.bytes) at

pub overflow_add-self : goal.overflow_add-self
overflow_add-self c =
    let s = c.args.self.now in
    let pieces = c.args.node.now.pieces in
    let fits = sum-fits breaks_of_parts Bytes (text_of pieces) s.start s.len (part_of s pieces c.requires.under) (text_fits pieces c.height.ensures.tree.text) in
    omega (arith, fits)

pub overflow_sub-self : goal.overflow_sub-self
overflow_sub-self c =
    let s = c.args.self.now in
    let pieces = c.args.node.now.pieces in
    let found = c.args.found.now in
    omega (arith, ends_behind breaks_of_parts pieces c.height.ensures.tree.text s.start s.len (part_of s pieces c.requires.under) c.requires.some c.args.by c.args.i found.leaf.now found.before c.requires.reached)

pub range-requires-clause-start_le_end : goal.range-requires-clause-start_le_end
range-requires-clause-start_le_end c = (cut_at (goal.at.range-requires-clause-start_le_end c).After-min-end).order

pub range-requires-clause-start_boundary : goal.range-requires-clause-start_boundary
range-requires-clause-start_boundary c = λ _. (cut_at (goal.at.range-requires-clause-start_boundary c).After-min-end).starts

pub range-requires-clause-end_boundary : goal.range-requires-clause-end_boundary
range-requires-clause-end_boundary c = (cut_at (goal.at.range-requires-clause-end_boundary c).After-min-end).ends

pub returns-clause-stands : goal.returns-clause-stands
returns-clause-stands c =
    let s = c.args.self.now in
    let pieces = c.args.node.now.pieces in
    let found = c.args.found.now in
    let text = ap chars c.range.ensures.value ∙ (cut_at (goal.at.returns-clause-stands c).After-min-end).is in
    let stands = leaf_stands_in breaks_of_parts pieces c.height.ensures.tree.text s.start s.len (part_of s pieces c.requires.under) c.requires.some c.args.by c.args.i found.leaf.now found.before c.requires.reached in
    rw (text, c.saturating_sub.ensures, c.requires.under) stands

pub returns-clause-cut : goal.returns-clause-cut
returns-clause-cut c =
    let s = c.args.self.now in
    let text : IsRopeText (source_pieces s.source) = subst IsRopeText (sym c.requires.under) c.height.ensures.tree.text in
    text-is s.start.chars (s.start.chars + s.len.chars) (source_pieces s.source) text

pub invariant_of-result : goal.invariant_of-result
invariant_of-result c =
    let s = c.args.self.now in
    let pieces = c.args.node.now.pieces in
    let found = c.args.found.now in
    let leaf = found.leaf.now in
    let part = part_of s pieces c.requires.under in
    let text = ap chars c.range.ensures.value ∙ (cut_at (goal.at.invariant_of-result c).After-min-end).is in
    let bytes = ap length (encodes-chars c.range.result.now c.range.utf8) in
    let a = s.start.chars in
    let end = s.start.chars + s.len.chars in
    let cut = clipped_leaf (text_of c.requires.reached.left) a end leaf in
    let stands = leaf_stands_in breaks_of_parts pieces c.height.ensures.tree.text s.start s.len part c.requires.some c.args.by c.args.i leaf found.before c.requires.reached in
    let told : IsOneByte cut → length (chars c.range.result.now) ≡ length c.range.result.now = λ one. ap length text ∙ one ∙ ap byte_len (sym text) ∙ bytes in
    record {
      ascii = λ is. elim (either found.is_ascii (s.len.chars == s.len.bytes) is) [
        | inl known ↦ told (between-bytes (a - length (text_of c.requires.reached.left)) (end - length (text_of c.requires.reached.left)) leaf (found.ascii known))
        | inr same ↦
            let whole : IsOneByte (text_of (clip a end pieces)) = subst IsOneByte (sym (text-clip a end pieces)) (known-bytes _ s.len same part.counted) in
            told (piece-bytes (clip a end pieces) stands.before stands.after cut stands.parts whole)
      ];
    }
