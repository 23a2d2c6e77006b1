use Rattle.std.proofs.Common.{◌≡◌, ◌+◌, ap, ◌∙◌, arith}
use Rattle.ropey_walk.specs.Clips.{clip}
use Rattle.ropey_walk.specs.Conversions.{char_of_line}
use Rattle.ropey_walk.specs.Slices.{slice_pieces, slice_text}
use Rattle.ropey_walk.proofs.LineWalks.{chars_are, stands, counts, lines_rise}
use Rattle.ropey_walk.proofs.BreakLaws.{line_starts}
use Rattle.ropey_walk.proofs.iter.lines.LinePlace.line_to.Goals as goal
use Rattle.ropey_walk.proofs.iter.lines.LinePlace.line_to.Goals.{Start}

here_is : (c : Start) → c.args.self.before.chars ≡ char_of_line (slice_text c.args.slice.now) c.args.self.line_idx
here_is c = chars_are line_starts (slice_text c.args.slice.now) c.args.self c.requires.here

there_is : (c : Start) → c.args.end.before.chars ≡ char_of_line (slice_text c.args.slice.now) (c.args.self.line_idx + 1)
there_is c = chars_are line_starts (slice_text c.args.slice.now) c.args.end c.requires.there ∙ ap (char_of_line (slice_text c.args.slice.now)) c.requires.next

pub between-requires-clause-order : goal.between-requires-clause-order
between-requires-clause-order c =
    let at = (goal.at.between-requires-clause-order c).Start in
    omega (arith, here_is at, there_is at, lines_rise line_starts (slice_text c.args.slice.now) c.args.self.line_idx (c.args.self.line_idx + 1) (omega arith))

pub between-requires-clause-starts : goal.between-requires-clause-starts
between-requires-clause-starts c = stands line_starts (slice_text c.args.slice.now) c.args.self c.requires.here

pub between-requires-clause-ends : goal.between-requires-clause-ends
between-requires-clause-ends c = counts line_starts (slice_text c.args.slice.now) c.args.end c.requires.there

pub returns : goal.returns
returns c =
    let at = (goal.at.returns c).Start in
    let pieces = slice_pieces c.args.slice.now in
    c.between.ensures ∙ ap (λ n. clip n c.args.end.before.chars pieces) (here_is at)
    ∙ ap (λ n. clip (char_of_line (slice_text c.args.slice.now) c.args.self.line_idx) n pieces) (there_is at)
