use Rattle.std.proofs.Common.{◌∙◌}
use Rattle.rope_search.proofs.UndoStepLemmas.{changes_with_none, steps_none}
use Rattle.rope_search.proofs.buffer.Buffer.forget.Goals as goal

pub returns-clause-state : goal.returns-clause-state
returns-clause-state c = c.keep.ensures.state ∙ steps_none c.args.self.now.state c.text.ensures.current

pub returns-clause-changes : goal.returns-clause-changes
returns-clause-changes c = c.keep.ensures.changes ∙ changes_with_none c.args.self.now.changes c.args.self.now.state.current
