use Rattle.rope_search_templates.proofs.ChunkLemmas.{chunk-in}
use Rattle.rope_search_templates.proofs.parts.Parts.show.Goals as goal

pub invariant_of-self : goal.invariant_of-self
invariant_of-self c =
    let e = c.chunk_at_byte-start.ensures in
    (e.utf8, chunk-in c.self.inside.text.now _ c.args.place _ _ _ e.utf8 e.chunk)
