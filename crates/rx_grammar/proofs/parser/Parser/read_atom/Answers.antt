use Rattle.std.proofs.Common.{◌∷◌, refl, ap, subst, ◌∙◌}
use Rattle.rx_grammar.specs.Grammar.{PlainAtom}
use Rattle.rx_grammar.specs.Atoms.{atom_tree, NoPlainAtom}
use Rattle.rx_grammar.proofs.PlaceLaws.{refusal_map, result_map, atom_read, atom_refused, no_atom_here}
use Rattle.rx_grammar.proofs.parser.Parser.read_atom.Goals as goal

pub returns-in_default : goal.returns-in_default
returns-in_default c = record {
  reads = λ place stands.
      let none : NoPlainAtom c.args.self.now.config c.args.text.now = rw c.in_default.is at c.in_ok-tree.ensures in
      no_atom_here place c.requires.atom (subst (λ s. NoPlainAtom s c.args.text.now) stands.settings none);
}

pub returns : goal.returns
returns c = record {
  reads = λ place stands.
      let one : PlainAtom c.args.self.now.config c.args.text.now (atom_tree c.in-Some.tree) c.in-Some.behind.now = rw c.in-Some.is at c.in_ok-tree.ensures in
      let here = subst (λ s. PlainAtom s c.args.text.now (atom_tree c.in-Some.tree) c.in-Some.behind.now) stands.settings one in
      result_map _ _ _ _ c.finish_item.result (λ rest read. atom_read place here read refl) (λ err h. refusal_map err (atom_refused place here) h)
      (c.finish_item.ensures.reads place (atom_tree c.in-Some.tree) 0 (record {
        trees = stands.trees;
        below = stands.below;
        trees_are = c.in_ok-push_atom.ensures ∙ ap (λ x. atom_tree c.in-Some.tree ∷ x) stands.trees_are;
        level = stands.level;
        settings = stands.settings;
        groups = stands.groups;
        around = stands.around;
      }) refl);
}
