use Rattle.std.proofs.Common.{◌≡◌, ℕ, List, length, ap, sym, subst, ◌∙◌, arith}
use Rattle.std.specs.Str.{chars}
use Rattle.str_indices.specs.Text.{byte_len}
use Rattle.ropey_tree.specs.Cutting.{IsBoundaryOf}
use Rattle.ropey_tree.specs.Edits.{IsReplaced}
use Rattle.ropey_tree.specs.Splits.{pieces_in}
use Rattle.ropey.specs.Chunks.{text_of}
use Rattle.std.proofs.lemmas.Bool.Decides.{nat_tests}
use Rattle.ropey.proofs.Editing.{place_within, chars_of_none, replaced_nothing}
use Rattle.ropey.proofs.rope.Rope.replace_between.Goals as goal

pub overflow_sub-kept-2 : goal.overflow_sub-kept-2
overflow_sub-kept-2 c =
    omega (arith, c.requires.order, c.len_bytes-len.ensures.bytes, place_within (text_of c.args.self.now) c.args.to c.requires.ends)

pub replaced-requires-clause-starts : goal.replaced-requires-clause-starts
replaced-requires-clause-starts c = subst (λ (ps : List (List ℕ)). IsBoundaryOf (text_of ps) c.args.from) (sym c.self.view_is) c.requires.starts

pub replaced-requires-clause-ends : goal.replaced-requires-clause-ends
replaced-requires-clause-ends c = subst (λ (ps : List (List ℕ)). IsBoundaryOf (text_of ps) c.args.to) (sym c.self.view_is) c.requires.ends

pub replaced-requires-clause-fits : goal.replaced-requires-clause-fits
replaced-requires-clause-fits c =
    omega (arith, c.if-text-kept.false, c.requires.order, c.len_bytes-len.ensures.bytes, place_within (text_of c.args.self.now) c.args.to c.requires.ends, ap (λ ps. byte_len (text_of ps)) c.self.view_is)

pub returns-then-is_empty-clause-text : goal.returns-then-is_empty-clause-text
returns-then-is_empty-clause-text c =
    let none : length c.args.text.now ≡ 0 = grind (arith, nat_tests, c.is_empty.ensures, c.if-is_empty.true) in
    let same : c.args.from ≡ c.args.to = omega (arith, c.if-from-to.true) in
    replaced_nothing (text_of c.args.self.now) c.args.from c.args.to (chars c.args.text.now) same (chars_of_none c.args.text.now none) c.requires.starts

pub returns-clause-text : goal.returns-clause-text
returns-clause-text c =
    let new = text_of (pieces_in c.in_ok-root.root) in
    let text = chars c.args.text.now in
    let done = subst (λ (ps : List (List ℕ)). IsReplaced (text_of ps) c.args.from c.args.to text new) c.self.view_is c.in_ok-root.ensures in
    subst (λ (ps : List (List ℕ)). IsReplaced (text_of c.args.self.now) c.args.from c.args.to text (text_of ps)) (sym (c.of_tree-2.view_is ∙ c.of_tree.ensures)) done
