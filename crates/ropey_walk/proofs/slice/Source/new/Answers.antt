use Rattle.std.proofs.Common.{ap, sym, ◌∙◌}
use Rattle.std.proofs.lemmas.Str.{chars-nil}
use Rattle.ropey_walk.specs.Chunks.{lone_piece}
use Rattle.ropey_walk.specs.Parts.{pieces_under}
use Rattle.ropey_walk.proofs.slice.Source.new.Goals as goal

pub returns-in-None-clause-pieces : goal.returns-in-None-clause-pieces
returns-in-None-clause-pieces c = ap lone_piece chars-nil ∙ sym (ap pieces_under c.in-None.is)
