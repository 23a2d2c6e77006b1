use Rattle.std.proofs.lemmas.Str.{IsUtf8-nil}
use Rattle.rope_search_templates.proofs.ContentLemmas.{text-scalars}
use Rattle.rope_search_templates.proofs.left.Left.of.Goals as goal

pub invariant_of-result : goal.invariant_of-result
invariant_of-result c = (IsUtf8-nil, rw c.chunks.ensures.pieces (text-scalars c.args.text.now c.chunks.ensures.cut.cut))
