use Rattle.std.proofs.Common.{◌++◌, ap, subst, ◌∙◌, string_bytes}
use Rattle.std.specs.Str.{chars}
use Rattle.ropey.specs.Chunks.{text_of}
use Rattle.rope_search_changes.specs.Text.{bytes_of}
use Rattle.rope_search_templates.specs.Matches.{groups_in}
use Rattle.rope_search_templates.specs.Pieces.{shown}
use Rattle.rope_search_templates.proofs.PushLemmas.{HasFront, pushed-next, pushed-part, on_err}
use Rattle.rope_search_templates.proofs.templates.Template.expand.Goals as goal

pub loop-piece-preserved : goal.loop-piece-preserved
loop-piece-preserved c =
    let inv = c.loop-piece.invariant in
    let content = bytes_of (text_of c.args.parts.now) in
    let old = chars (string_bytes c.loop-piece.out) in
    let part_is = ap (λ ps. old ++ shown (bytes_of (text_of ps)) (groups_in c.args.found) c.in-Some.piece) inv.1 in (
      pushed-next _ _ _ _ _ _ _ inv.0 (c.in-Some.ensures.steps.expands content (groups_in c.args.found)) (c.in_ok-push_piece.ensures.pushed ∙ part_is),
      c.push_piece.ensures.parts ∙ inv.1,
    )

pub returns-in_err-push_piece-clause-front : goal.returns-in_err-push_piece-clause-front
returns-in_err-push_piece-clause-front c =
    let inv = c.loop-piece.invariant in
    let content = bytes_of (text_of c.args.parts.now) in
    let old = chars (string_bytes c.loop-piece.out) in
    let new = chars (string_bytes c.push_piece.new.out) in
    let front = subst (λ ps. HasFront old new (shown (bytes_of (text_of ps)) (groups_in c.args.found) c.in-Some.piece)) inv.1 c.in_err-push_piece.ensures.front in
    on_err c.from_residual.result _ (pushed-part _ _ _ _ _ _ _ inv.0 (c.in-Some.ensures.steps.expands content (groups_in c.args.found)) front)
