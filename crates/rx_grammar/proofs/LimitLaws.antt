-- What the parts of a text spell doesn't depend on the nest limit.
use Rattle.std.proofs.Common.{◌≡◌, ℕ, Bool, true, false, List, [], ◌∷◌, refl, ap, subst, ◌∙◌}
use Rattle.rx_grammar.specs.declared.flags.Flag.{Flag}
use Rattle.rx_grammar.specs.declared.flags.Flag.TheVariants.{CaseInsensitive, MultiLine, DotMatchesNewLine, SwapGreed}
use Rattle.rx_grammar.specs.Settings.{Settings, with_flag, with_flags}
use Rattle.rx_grammar.specs.Trees.{Tree}
use Rattle.rx_grammar.specs.Groups.{flagged, Setting, setting, Capture, Opening, plain, without_number, with_name, with_short_name, changing}
use Rattle.rx_grammar.specs.Grammar.{Escape, character, letter_class, look, PlainAtom, literal, dot, caret, dollar, escape, class, Atom, plain_atom, group, Items, ended, setting as a_setting, item, Branches, last, bar, with_limit}

with_flag-limit : (limit : ℕ) (on : Bool) (s : Settings) (flag : Flag) → with_flag on (with_limit limit s) flag ≡ with_limit limit (with_flag on s flag)
with_flag-limit limit on s CaseInsensitive = refl
with_flag-limit limit on s MultiLine = refl
with_flag-limit limit on s DotMatchesNewLine = refl
with_flag-limit limit on s SwapGreed = refl

with_flags-limit : (limit : ℕ) (on : Bool) (s : Settings) (flags : List Flag) → with_flags on (with_limit limit s) flags ≡ with_limit limit (with_flags on s flags)
with_flags-limit limit on s [] = refl
with_flags-limit limit on s (flag ∷ flags) = ap (λ x. with_flags on x flags) (with_flag-limit limit on s flag) ∙ with_flags-limit limit on (with_flag on s flag) flags

flagged-limit : (limit : ℕ) (s : Settings) (on off : List Flag) → flagged (with_limit limit s) on off ≡ with_limit limit (flagged s on off)
flagged-limit limit s on off = ap (λ x. with_flags false x off) (with_flags-limit limit true s on) ∙ with_flags-limit limit false (with_flags true s on) off

setting_limit : {s s' : Settings} {t u : List ℕ} (limit : ℕ) → Setting s t s' u → Setting (with_limit limit s) t (with_limit limit s') u
setting_limit {s = s} {t = t} {u = u} limit (setting {on = on} {off = off} e flags close) =
    subst (λ x. Setting (with_limit limit s) t x u) (flagged-limit limit s on off) (setting e flags close)

opening_limit : {s s' : Settings} {k : Capture} {t u : List ℕ} (limit : ℕ) → Opening s t s' k u → Opening (with_limit limit s) t (with_limit limit s') k u
opening_limit limit (plain e stop) = plain e stop
opening_limit limit (without_number e) = without_number e
opening_limit limit (with_name e close is) = with_name e close is
opening_limit limit (with_short_name e close is) = with_short_name e close is
opening_limit {s = s} {k = k} {t = t} {u = u} limit (changing {on = on} {off = off} e flags close) =
    subst (λ x. Opening (with_limit limit s) t x k u) (flagged-limit limit s on off) (changing e flags close)

escape_limit : {s : Settings} {t u : List ℕ} {h : Tree} (limit : ℕ) → Escape s t h u → Escape (with_limit limit s) t h u
escape_limit limit (character one is) = character one is
escape_limit limit (letter_class kind negated e is) = letter_class kind negated e is
escape_limit limit (look letter e f) = look letter e f

plain_limit : {s : Settings} {t u : List ℕ} {h : Tree} (limit : ℕ) → PlainAtom s t h u → PlainAtom (with_limit limit s) t h u
plain_limit limit (literal e is_one is) = literal e is_one is
plain_limit limit (dot e allowed is) = dot e allowed is
plain_limit limit (caret e) = caret e
plain_limit limit (dollar e) = dollar e
plain_limit limit (escape e one) = escape e (escape_limit limit one)
plain_limit limit (class e one is) = class e one is

mutual
  atom_limit : {s : Settings} {m n d : ℕ} {t u : List ℕ} {h : Tree} (limit : ℕ) → Atom s m t h d n u → Atom (with_limit limit s) m t h d n u
  atom_limit limit (plain_atom one) = plain_atom (plain_limit limit one)
  atom_limit limit (group opening inside close) = group (opening_limit limit opening) (branches_limit limit inside) close

  items_limit : {s z : Settings} {m n d : ℕ} {t u : List ℕ} {hs : List Tree} (limit : ℕ) → Items s m t hs d z n u → Items (with_limit limit s) m t hs d (with_limit limit z) n u
  items_limit limit (ended stops) = ended stops
  items_limit limit (a_setting one others) = a_setting (setting_limit limit one) (items_limit limit others)
  items_limit limit (item one postfixes others) = item (atom_limit limit one) postfixes (items_limit limit others)

  pub branches_limit : {s z : Settings} {m n d : ℕ} {t u : List ℕ} {h : Tree} {hs : List Tree} (limit : ℕ) → Branches s m t h hs d z n u
      → Branches (with_limit limit s) m t h hs d (with_limit limit z) n u
  branches_limit limit (last items stops) = last (items_limit limit items) stops
  branches_limit limit (bar items e others) = bar (items_limit limit items) e (branches_limit limit others)
