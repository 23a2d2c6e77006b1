use Rattle.std.proofs.Common.{ℕ, List, [], ◌++◌, ap, sym, ◌∙◌, append_assoc, append-nil}
use Rattle.std.specs.Str.{chars}
use Rattle.std.proofs.lemmas.Str.{chars-append, chars-nil}
use Rattle.rope_search_templates.proofs.LeftLemmas.{taken-none, taken-more}
use Rattle.rope_search_templates.proofs.left.Left.copy.Goals as goal

pub loop-left-init : goal.loop-left-init
loop-left-init c = ([], taken-none c.args.self.now.bytes c.args.len c.requires, sym (append-nil c.args.builder.now) ∙ ap (λ l. c.args.builder.now ++ l) (sym chars-nil))

pub loop-left-preserved : goal.loop-left-preserved
loop-left-preserved c =
    let so = c.loop-left.invariant in
    let part = c.part-part.result.now in (
      so.0 ++ part,
      taken-more _ _ so.0 part _ _ _ so.1 c.part-part.ensures.parts c.part-part.ensures.utf8 c.part-part.ensures.within,
      c.in-Ok.ensures.text ∙ ap (λ (l : List ℕ). l ++ chars part) so.2 ∙ append_assoc c.args.builder.now (chars so.0) (chars part)
          ∙ ap (λ l. c.args.builder.now ++ l) (sym (chars-append so.0 part so.1.utf8)),
    )
