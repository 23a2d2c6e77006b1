-- An atom that is no group by what it begins with.
use Rattle.std.proofs.Common.{◌≡◌, ℕ, List, ◌∷◌, refl, sym, subst}
use Rattle.rx_grammar.specs.Settings.{Settings}
use Rattle.rx_grammar.specs.Trees.{Tree}
use Rattle.rx_grammar.specs.Readers.{NoClass}
use Rattle.rx_grammar.specs.Grammar.{is_literal, PlainAtom, literal, dot, caret, dollar, escape, class}
use Rattle.rx_grammar.specs.Atoms.{ClassAtom, NoEscape, NoPlainAtom}
use Rattle.rx_grammar.proofs.InputLemmas.{rest_is, apart, told_apart}
use Rattle.rx_grammar.proofs.GrammarLaws.{escape_along, class_along}

pub no_escape_atom : {s : Settings} {t v : List ℕ} → t ≡ 92 ∷ v → NoEscape s v → NoPlainAtom s t
no_escape_atom {s = s} {t = t} e none = λ tree u one. at one
  where
    at : {tree : Tree} {u : List ℕ} → PlainAtom s t tree u → ⊥
    at (literal e' is_one is) = told_apart is_literal e' e is_one refl
    at (dot e' allowed is) = apart e e' refl
    at (caret e') = apart e e' refl
    at (dollar e') = apart e e' refl
    at (escape e' one) = none _ _ (escape_along (rest_is e e') one)
    at (class e' one is) = apart e e' refl

pub no_class_atom : {s : Settings} {t v : List ℕ} → t ≡ 91 ∷ v → NoClass v → NoPlainAtom s t
no_class_atom {s = s} {t = t} e none = λ tree u one. at one
  where
    at : {tree : Tree} {u : List ℕ} → PlainAtom s t tree u → ⊥
    at (literal e' is_one is) = told_apart is_literal e' e is_one refl
    at (dot e' allowed is) = apart e e' refl
    at (caret e') = apart e e' refl
    at (dollar e') = apart e e' refl
    at (escape e' one) = apart e e' refl
    at (class e' one is) = none _ _ _ (class_along (rest_is e e') one)

pub class_atom : {s : Settings} {t v u : List ℕ} {tree : Tree} → t ≡ 91 ∷ v → ClassAtom s v tree u → PlainAtom s t tree u
class_atom {s = s} {t = t} {u = u} e found = subst (λ x. PlainAtom s t x u) (sym found.tree_is) (class e found.reads found.is_set)
