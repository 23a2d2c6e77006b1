use Rattle.std.proofs.Common.{ℕ, length, ap, sym, subst, ◌∙◌}
use Rattle.std.proofs.lemmas.Str.{encodes-chars}
use Rattle.rope_search_changes.specs.Text.{bytes_of}
use Rattle.rope_search_templates.specs.Matches.{groups_in}
use Rattle.rope_search_templates.specs.Pieces.{IsTemplatePiece}
use Rattle.rope_search_templates.proofs.SpanLemmas.{utf8-of, span-of, span-len}
use Rattle.rope_search_templates.proofs.pieces.Piece.len.Goals as goal

pub returns-in-Text : goal.returns-in-Text
returns-in-Text c =
    λ text scalars spans. rw c.in-Text.is (sym (ap length (encodes-chars c.in-Text.part.now (subst IsTemplatePiece c.in-Text.is c.requires.piece))))

pub returns-in-Some : goal.returns-in-Some
returns-in-Some c =
    λ text scalars spans.
    let span : ℕ × ℕ = (c.in-Some.start, c.in-Some.end) in
    let is = sym c.group.ensures ∙ c.in-Some.is in
    let in-text = span-of (bytes_of text) (groups_in c.args.found) c.in-Group.number span spans is in
    rw (c.in-Group.is, is) (sym (span-len (bytes_of text) span (utf8-of text scalars) in-text))
