-- The matches so far are at the buffer's start.
use Rattle.ropey.specs.Chunks.{text_of}
use Rattle.rope_search.specs.TextMatches.{match_at}
use Rattle.rope_search.proofs.TextMatchLemmas.{PutSoFar}
use Rattle.rope_search.proofs.text_matches.put_matches.Given as goal

abbrev pub invariant-loop-span : goal.invariant-loop-span
invariant-loop-span l = PutSoFar (match_at (text_of l.text)) l.place l.spans l.span-index l.count l.fn.out l.out
