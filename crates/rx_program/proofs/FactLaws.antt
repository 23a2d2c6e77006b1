-- What the code knows of a part from its root.
use Rattle.std.proofs.Common.{◌≡◌, ℕ, zero, suc, ◌+◌, ◌<◌, ◌^◌, List, [], ◌∷◌, length, map, get_or, refl, sym, ap, ◌∙◌, arith}
use Rattle.std.proofs.lemmas.List.{length-map}
use Rattle.rx_grammar.specs.declared.properties.Properties.{Properties}
use Rattle.rx_grammar.specs.declared.hir.Node.{Node}
use Rattle.rx_grammar.specs.Trees.{Tree, empty}
use Rattle.rx_grammar.specs.Subtrees.{subtrees_of, root_of}
use Rattle.rx_grammar.specs.Weights.{may_be_empty, size_of, held}
use Rattle.rx_grammar.specs.Nodes.{kind_of, properties_of}
use Rattle.rx_program.specs.Jobs.{part_at}

get_mapped : {A B : Type 0} (f : A → B) (xs : List A) (k : ℕ) (d : A) (e : B) → k < length xs → get_or (map f xs) k e ≡ f (get_or xs k d)
get_mapped f [] k d e below = absurd (omega (arith, below))
get_mapped f (x ∷ xs) zero d e below = refl
get_mapped f (x ∷ xs) (suc k) d e below = get_mapped f xs k d e (omega (arith, below))

pub record Known (tree : Tree) (part : Properties) : Type 0 where
  pub extent : part.extent ≡ length (subtrees_of tree)
  pub size : size_of tree + 1 < 2 ^ 64 → part.size ≡ size_of tree
  pub may : part.may_be_empty ≡ may_be_empty tree

held_small : (n : ℕ) → n + 1 < 2 ^ 64 → held n ≡ n
held_small n small = grind arith

pub node_at : (parts : List Tree) (list : List Node) (root : ℕ) (node : Node) → map kind_of list ≡ map root_of parts → root < length parts → node ≡ get_or list root node → kind_of node ≡ root_of (part_at parts root)
node_at parts list root node same below at =
    let long : root < length list = omega (arith, ap length same, length-map list kind_of, length-map parts root_of, below) in
    ap kind_of at ∙ sym (get_mapped kind_of list root node (kind_of node) long) ∙ ap (λ xs. get_or xs root (kind_of node)) same ∙ get_mapped root_of parts root empty (kind_of node) below

pub known_any : (parts : List Tree) (list : List Properties) (root : ℕ) (d : Properties) → list ≡ map properties_of parts → root < length parts → Known (part_at parts root) (get_or list root d)
known_any parts list root d same below =
    let is : get_or list root d ≡ properties_of (part_at parts root) = ap (λ xs. get_or xs root d) same ∙ get_mapped properties_of parts root empty d below in
    record {
      extent = ap (λ (p : Properties). p.extent) is;
      size = λ small. ap (λ (p : Properties). p.size) is ∙ held_small (size_of (part_at parts root)) small;
      may = ap (λ (p : Properties). p.may_be_empty) is;
    }

pub known_is : (parts : List Tree) (list : List Properties) (root : ℕ) (d : Properties) → list ≡ map properties_of parts → root < length parts → get_or list root d ≡ properties_of (part_at parts root)
known_is parts list root d same below = ap (λ xs. get_or xs root d) same ∙ get_mapped properties_of parts root empty d below

pub known_by : (parts : List Tree) (root : ℕ) (part : Properties) → part ≡ properties_of (part_at parts root) → Known (part_at parts root) part
known_by parts root part is = record {
  extent = ap (λ (p : Properties). p.extent) is;
  size = λ small. ap (λ (p : Properties). p.size) is ∙ held_small (size_of (part_at parts root)) small;
  may = ap (λ (p : Properties). p.may_be_empty) is;
}
