-- The chunks so far follow the old text.
use Rattle.std.proofs.Common.{string_bytes}
use Rattle.std.specs.Str.{chars}
use Rattle.ropey.specs.Chunks.{text_of}
use Rattle.ropey.specs.Slices.{slice_text}
use Rattle.rope_search_templates.proofs.PushLemmas.{IsPushed}
use Rattle.rope_search_templates.proofs.parts.push_slice.Given as goal

abbrev pub invariant-loop-chunk : goal.invariant-loop-chunk
invariant-loop-chunk l = IsPushed (chars (string_bytes l.fn.out)) (chars (string_bytes l.out)) (text_of l.chunk-iterator.ahead) (slice_text l.fn.slice)
