use Rattle.std.proofs.Common.{ap, sym, ◌∙◌}
use Rattle.std.specs.Ordering.{is_eq}
use Rattle.std.specs.Cmp.Lexicographic.{texts_ties}
use Rattle.ropey_walk.specs.Comparing.{slice_bytes}
use Rattle.ropey_walk.proofs.comparing.RopeSlicePartialEq.eq.Goals as goal

pub returns-then-len_bytes : goal.returns-then-len_bytes
returns-then-len_bytes c =
    c.is_eq.ensures ∙ ap is_eq c.compare.ensures ∙ sym (texts_ties (slice_bytes c.args.self.now) (slice_bytes c.args.other.now))
