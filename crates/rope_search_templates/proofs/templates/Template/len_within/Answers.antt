use Rattle.std.proofs.Common.{◌≡◌, ℕ, ◌≤◌, List, IfSome, SomeIff, ap, sym, subst, ◌∙◌, arith, chars}
use Rattle.str_indices.specs.Text.{byte_len}
use Rattle.rope_search_changes.specs.Replacement.{expand}
use Rattle.rope_search_templates.specs.Templates.{IsSame}
use Rattle.rope_search_templates.proofs.ExpandLemmas.{expand-fixed, then-within}
use Rattle.rope_search_changes.specs.Text.{bytes_of}
use Rattle.rope_search_templates.specs.Matches.{groups_in}
use Rattle.rope_search_templates.proofs.SpanLemmas.{piece-len}
use Rattle.rope_search_templates.proofs.templates.Template.len_within.Goals as goal

pub returns-in_err-left : goal.returns-in_err-left
returns-in_err-left c =
    λ text scalars spans.
    let here = piece-len (bytes_of text) (groups_in c.args.found) c.loop-piece.piece-iterator c.in-Some-piece.piece c.next.new.self c.in-Some-piece.ensures.steps in
    let so-far = c.loop-piece.invariant text scalars spans in
    let len = c.len.ensures text scalars spans in
    rw c.from_residual.ensures (λ low. omega (arith, here, low, len, so-far))

pub loop-piece-preserved : goal.loop-piece-preserved
loop-piece-preserved c =
    λ text scalars spans.
    let here = piece-len (bytes_of text) (groups_in c.args.found) c.loop-piece.piece-iterator c.in-Some-piece.piece c.next.new.self c.in-Some-piece.ensures.steps in
    let so-far = c.loop-piece.invariant text scalars spans in
    let len = c.len.ensures text scalars spans in
    omega (arith, here, len, so-far)

pub returns-in-Some : goal.returns-in-Some
returns-in-Some c = λ text scalars spans.
    let own = chars c.self.inside.text.now in
    let told : List ℕ → ℕ = λ t. byte_len (expand (bytes_of text) (groups_in c.args.found) t) in
    let same : IsSame own c.in-Some.len = subst (λ len. IfSome len (IsSame own)) c.in-Some.is c.self.invariant.1 in
    let len_is : told c.args.self.now ≡ c.in-Some.len = ap told (sym c.self.view_is) ∙ ap byte_len (expand-fixed (bytes_of text) (groups_in c.args.found) own same.names_none) ∙ same.len_is in
    subst (λ r. SomeIff r (told c.args.self.now ≤ c.args.limit) (told c.args.self.now)) (sym c.then_some.ensures) (then-within c.in-Some.len c.args.limit (told c.args.self.now) len_is)
