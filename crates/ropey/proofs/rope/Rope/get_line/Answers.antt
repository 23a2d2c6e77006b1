use Rattle.std.proofs.Common.{◌≡◌, ℕ, List, subst}
use Rattle.std.specs.Prelude.{IfSome}
use Rattle.ropey_walk.specs.Lines.{line_pieces}
use Rattle.ropey_walk.specs.Slices.{slice_pieces}
use Rattle.ropey.proofs.rope.Rope.get_line.Goals as goal

pub returns-clause-line : goal.returns-clause-line
returns-clause-line c =
    subst (λ (ps : List (List ℕ)). IfSome c.get_line.result (λ line. slice_pieces line ≡ line_pieces ps c.args.line_idx)) c.whole.ensures.pieces c.get_line.ensures.line
