use Rattle.std.proofs.lemmas.Str.{chars-nil}
use Rattle.ropey_walk.proofs.slice.Chunk.nothing.Goals as goal

pub returns-clause-text : goal.returns-clause-text
returns-clause-text c = chars-nil
