-- The number of groups that a text spells: each has some of its characters.
use Rattle.std.proofs.Common.{◌≡◌, ℕ, ◌+◌, ◌≤◌, List, ◌∷◌, length, append-nil, length-append, ap, ◌∙◌, arith}
use Rattle.std.specs.List.{flat_map}
use Rattle.std.proofs.lemmas.Str.{length-le-encodes}
use Rattle.rx_grammar.specs.Settings.{Settings}
use Rattle.rx_grammar.specs.Trees.{Tree, concat_of, numbers_of}
use Rattle.rx_grammar.specs.Groups.{numbered, unnumbered}
use Rattle.rx_grammar.specs.Grammar.{Atom, plain_atom, group as group_atom, Items, ended, setting, item, Branches, last, bar, Spells}
use Rattle.rx_grammar.proofs.ShorterLaws.{plain_shorter, postfixes_shorter, setting_shorter, opening_shorter}
use Rattle.rx_grammar.proofs.NumberLaws.{numbers_of-concat, numbers_of-alternation, plain_numbers, postfixes_numbers}

mutual
  atom_few : {s : Settings} {m n d : ℕ} {t u : List ℕ} {h : Tree} → Atom s m t h d n u → length (numbers_of h) + length u ≤ length t
  atom_few (plain_atom one) = omega (arith, ap length (plain_numbers one), plain_shorter one)
  atom_few (group_atom {h = h} {hs = hs} {k = numbered name} opening inside close) =
      omega (arith, ap length (numbers_of-alternation h hs), opening_shorter opening, branches_few inside, ap length close)
  atom_few (group_atom {h = h} {hs = hs} {k = unnumbered} opening inside close) =
      omega (arith, ap length (numbers_of-alternation h hs), opening_shorter opening, branches_few inside, ap length close)

  items_few : {s z : Settings} {m n d : ℕ} {t u : List ℕ} {hs : List Tree} → Items s m t hs d z n u → length (flat_map numbers_of hs) + length u ≤ length t
  items_few (ended stops) = omega arith
  items_few (setting one others) = omega (arith, setting_shorter one, items_few others)
  items_few (item {g = g} {hs = hs} one postfixes others) =
      omega (arith, length-append (numbers_of g) (flat_map numbers_of hs), ap length (postfixes_numbers postfixes), atom_few one, postfixes_shorter postfixes, items_few others)

  branches_few : {s z : Settings} {m n d : ℕ} {t u : List ℕ} {h : Tree} {hs : List Tree} → Branches s m t h hs d z n u → length (flat_map numbers_of (h ∷ hs)) + length u ≤ length t
  branches_few (last {hs = hs} items stops) =
      omega (arith, ap length (append-nil (numbers_of (concat_of hs))), ap length (numbers_of-concat hs), items_few items)
  branches_few (bar {g = g} {hs = hs} {gs = gs} items e others) =
      omega (arith, length-append (numbers_of (concat_of hs)) (flat_map numbers_of (g ∷ gs)), ap length (numbers_of-concat hs), items_few items, ap length e, branches_few others)

-- a text spells at most 65,536 groups
pub few_groups : (text : List ℕ) (settings : Settings) (tree : Tree) → Spells text settings tree → length (numbers_of tree) ≤ 65536
few_groups text settings tree spells =
    let is : numbers_of tree ≡ flat_map numbers_of (spells.first ∷ spells.others) = ap numbers_of spells.tree_is ∙ numbers_of-alternation spells.first spells.others in
    omega (arith, ap length is, branches_few spells.whole, length-le-encodes text, spells.size)
