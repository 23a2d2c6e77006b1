use Rattle.std.proofs.lemmas.Str.{IsUtf8-nil}
use Rattle.ropey.specs.Chunks.{text_of}
use Rattle.rope_search_changes.specs.Text.{bytes_of}
use Rattle.rope_search_templates.proofs.ChunkLemmas.{chunk-of-nothing}
use Rattle.rope_search_templates.proofs.parts.Parts.of.Goals as goal

pub invariant_of-result : goal.invariant_of-result
invariant_of-result c = (IsUtf8-nil, chunk-of-nothing (bytes_of (text_of c.args.text.now)))
