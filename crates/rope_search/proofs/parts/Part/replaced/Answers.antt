use Rattle.std.proofs.Common.{ℕ, List, ap, sym, subst, arith}
use Rattle.std.specs.Str.{chars, IsCharBoundary}
use Rattle.str_indices.specs.Text.{byte_len}
use Rattle.ropey.specs.Chunks.{text_of}
use Rattle.ropey.specs.Edits.{IsReplaced}
use Rattle.rope_search_reports.specs.Text.{bytes_of}
use Rattle.rope_search.proofs.PartLaws.{boundary_at, marked_within, replaced_there}
use Rattle.rope_search.proofs.parts.Part.replaced.Goals as goal

pub byte_replace-requires : goal.byte_replace-requires
byte_replace-requires c =
    let part = c.args.self in
    let cut = c.len_bytes.ensures.cut.cut in
    let marked = c.requires.marked in
    let within = marked_within (text_of c.args.text.now) part marked in
    let same = sym c.in_ok-new.ensures.cases in
    record {
      range = record { order = within.0; within = omega (arith, within.1, ap (λ ps. byte_len (text_of ps)) same) };
      starts = subst (λ (ps : List (List ℕ)). IsCharBoundary (bytes_of (text_of ps)) part.start.byte_idx) same (boundary_at c.args.text.now part.start.char_idx part.start.byte_idx cut marked.starts);
      stops = subst (λ (ps : List (List ℕ)). IsCharBoundary (bytes_of (text_of ps)) part.end.byte_idx) same (boundary_at c.args.text.now part.end.char_idx part.end.byte_idx cut marked.ends);
    }

pub returns-clause-text : goal.returns-clause-text
returns-clause-text c =
    let part = c.args.self in
    let inserted = chars c.args.inserted.now in
    let new = text_of c.byte_replace.new.self in
    replaced_there (text_of c.args.text.now) new part inserted c.requires.marked
    (subst (λ (ps : List (List ℕ)). IsReplaced (text_of ps) part.start.byte_idx part.end.byte_idx inserted new) c.in_ok-new.ensures.cases c.in-Ok.ensures.text)
