use Rattle.rx_grammar.specs.Subtrees.{subtrees_of}
use Rattle.rx_grammar.specs.Postorder.{tree_of}
use Rattle.rx_program.proofs.FactLaws.{known_is}
use Rattle.rx_program.proofs.parts.known_of.Goals as goal

pub returns : goal.returns
returns c = known_is (subtrees_of (tree_of c.args.hir.now)) c.properties.result.now c.args.root _ c.properties.ensures c.requires
