-- The expansions of the pieces so far follow the old text.
use Rattle.std.proofs.Common.{◌≡◌, string_bytes}
use Rattle.std.specs.Str.{chars}
use Rattle.ropey.specs.Chunks.{text_of}
use Rattle.rope_search_changes.specs.Text.{bytes_of}
use Rattle.rope_search_changes.specs.Replacement.{expand}
use Rattle.rope_search_templates.specs.Matches.{groups_in}
use Rattle.rope_search_templates.proofs.PushLemmas.{IsPushed}
use Rattle.rope_search_templates.proofs.templates.Template.expand.Given as goal

abbrev pub invariant-loop-piece : goal.invariant-loop-piece
invariant-loop-piece l =
    let content = bytes_of (text_of l.fn.parts) in
    IsPushed (chars (string_bytes l.fn.out)) (chars (string_bytes l.out)) (expand content (groups_in l.found) l.piece-iterator) (expand content (groups_in l.found) l.self)
    × (l.parts ≡ l.fn.parts)
