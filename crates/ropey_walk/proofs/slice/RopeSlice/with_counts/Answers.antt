use Rattle.std.proofs.Common.{◌+◌, ◌^◌, ◌<◌, List, ℕ, [], length, arith, ap, sym, ◌∙◌, subst}
use Rattle.std.specs.Str.{is_utf8}
use Rattle.std.proofs.lemmas.Str.{is_utf8-from_IsUtf8, IsUtf8-nil}
use Rattle.str_indices.specs.Text.{byte_len}
use Rattle.ropey_walk.specs.Chunks.{text_of}
use Rattle.ropey_walk.specs.Clips.{clip}
use Rattle.ropey_walk.specs.Parts.{pieces_under}
use Rattle.ropey_walk.proofs.Cuts.{text_fits}
use Rattle.ropey_walk.proofs.Reaching.{IsPart, whole_part, whole_clip}
use Rattle.ropey_walk.proofs.BreakLaws.{breaks_of_parts}
use Rattle.ropey_walk.proofs.slice.RopeSlice.with_counts.Goals as goal

pub invariant_of-result : goal.invariant_of-result
invariant_of-result c =
    let whole = whole_part breaks_of_parts (pieces_under c.args.node) c.zero.result c.args.len c.zero.ensures c.requires.counts in
    let same = sym c.new.ensures.pieces in
    let part = subst (λ (ps : List (List ℕ)). IsPart (text_of ps) c.zero.result c.args.len) same whole in
    record { within = part.within; starts = part.starts; counted = part.counted; fits = subst (λ (ps : List (List ℕ)). byte_len (text_of ps) < 2 ^ 63) same (text_fits (pieces_under c.args.node) c.requires.cut); utf8 = ap is_utf8 c.new.ensures.bytes ∙ is_utf8-from_IsUtf8 [] IsUtf8-nil; short = omega (arith, ap length c.new.ensures.bytes) }

pub returns : goal.returns
returns c =
    ap (clip c.zero.result.chars (c.zero.result.chars + c.args.len.chars)) c.new.ensures.pieces
    ∙ whole_clip (pieces_under c.args.node) c.zero.result c.args.len c.zero.ensures c.requires.counts c.requires.cut
