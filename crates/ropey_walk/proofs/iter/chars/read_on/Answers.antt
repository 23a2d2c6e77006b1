use Rattle.std.proofs.lemmas.Str.{IsCharBoundary-after_ascii}
use Rattle.ropey_walk.proofs.iter.chars.read_on.Goals as goal

pub returns-then-byte-lt128-clause-boundary : goal.returns-then-byte-lt128-clause-boundary
returns-then-byte-lt128-clause-boundary c = IsCharBoundary-after_ascii c.args.chunk.now c.args.at c.utf8.chunk c.requires.more (rw c.as_bytes.ensures.value at c.if-byte-lt128.true)
