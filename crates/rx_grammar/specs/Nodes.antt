-- The nodes of a tree as the code stores them, and the properties of its subtrees.
use Rattle.std.specs.Prelude.{Some, None, length}
use Rattle.std.specs.String.{string_bytes}
use Rattle.rx_grammar.specs.declared.hir.Node.{Node}
use Rattle.rx_grammar.specs.declared.hir.Node.TheVariants as node
use Rattle.rx_grammar.specs.declared.properties.Properties.{Properties}
use Rattle.rx_grammar.specs.Trees.{Tree}
use Rattle.rx_grammar.specs.Subtrees.{NodeKind, an_empty, a_set, a_look, a_group, a_concat, an_alternation, a_repetition, subtrees_of}
use Rattle.rx_grammar.specs.Weights.{may_be_empty, weight_of, size_of, held}
use Rattle.rx_grammar.specs.StaticGroups.{static_groups}

abbrev pub kind_of : Node → NodeKind
kind_of node.Empty = an_empty
kind_of (node.Set set) = a_set set.value
kind_of (node.Look look) = a_look look
kind_of (node.Group number None) = a_group number None
kind_of (node.Group number (Some name)) = a_group number (Some (string_bytes name))
kind_of (node.Concat count) = a_concat count
kind_of (node.Alternation count) = an_alternation count
kind_of (node.Repeat repetition) = a_repetition repetition

-- the properties of a subtree
abbrev pub properties_of : Tree → Properties
properties_of tree = record {
  extent = length (subtrees_of tree);
  weight = held (weight_of tree);
  size = held (size_of tree);
  may_be_empty = may_be_empty tree;
  static_groups = static_groups tree;
}
