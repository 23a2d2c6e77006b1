use Rattle.std.proofs.Common.{◌≡◌, ℕ, List, ◌++◌, take, OnOk, OnErr, ap, sym, subst, ◌∙◌, string_bytes}
use Rattle.std.specs.Str.{chars}
use Rattle.ropey.specs.Chunks.{text_of}
use Rattle.rope_search_changes.specs.Text.{bytes_of}
use Rattle.rope_search_changes.specs.Replacement.{between, text_of_span, group_text}
use Rattle.rope_search_templates.specs.Matches.{groups_in}
use Rattle.rope_search_templates.specs.Pieces.{shown}
use Rattle.rope_search_templates.proofs.PushLemmas.{pushed-ok}
use Rattle.rope_search_templates.proofs.SpanLemmas.{span-of}
use Rattle.rope_search_templates.proofs.templates.push_piece.Goals as goal

pub returns-in-Text-clause-pushed : goal.returns-in-Text-clause-pushed
returns-in-Text-clause-pushed c =
    rw c.in-Text.is (pushed-ok c.push_str.result c.args.out.now c.push_str.new.self c.in-Text.part.now c.push_str.ensures.bytes)

pub push-requires : goal.push-requires
push-requires c =
    span-of (bytes_of (text_of c.args.parts.now)) (groups_in c.args.found) c.in-Group.number (c.in-Some.start, c.in-Some.end) c.requires.spans (sym c.group.ensures ∙ c.in-Some.is)

pub returns-in-Some : goal.returns-in-Some
returns-in-Some c =
    let content = bytes_of (text_of c.args.parts.now) in
    let groups = groups_in c.args.found in
    let span : ℕ × ℕ = (c.in-Some.start, c.in-Some.end) in
    let is : between content c.in-Some.start c.in-Some.end ≡ group_text content groups c.in-Group.number =
    sym (ap (text_of_span content) (sym c.group.ensures ∙ c.in-Some.is)) in
    let named : between content c.in-Some.start c.in-Some.end ≡ shown content groups c.args.piece = rw c.in-Group.is is in
    record {
      pushed = subst (λ (t : List ℕ). OnOk c.push.result (chars (string_bytes c.push.new.out) ≡ chars (string_bytes c.args.out.now) ++ t)) named c.push.ensures.pushed;
      front = subst (λ (t : List ℕ). OnErr c.push.result ((len : ℕ) × (chars (string_bytes c.push.new.out) ≡ chars (string_bytes c.args.out.now) ++ take len t))) named c.push.ensures.front;
      parts = c.push.ensures.parts;
    }
