-- The rest of a text after a part of it is shorter.
use Rattle.std.proofs.Common.{ℕ, ◌≤◌, ◌<◌, Bool, List, ◌∷◌, length, map, Option, ap, arith, length-append}
use Rattle.rx_grammar.specs.declared.flags.Flag.{Flag}
use Rattle.rx_sets.specs.declared.items.ClassItem.{ClassItem}
use Rattle.rx_grammar.specs.declared.hir.Repetition.{Repetition}
use Rattle.rx_grammar.specs.Settings.{Settings, letter_of}
use Rattle.rx_grammar.specs.Trees.{Tree}
use Rattle.rx_grammar.specs.Classes.{ClassItems, closed, last_hyphen, ClassBody, bracket_first, hyphen_first, other_first, Class}
use Rattle.rx_grammar.specs.Classes as classes
use Rattle.rx_grammar.specs.Repetitions.{Number, CountInBraces, exactly, at_least, between, Count, star, plus, question, in_braces, Postfix, alone, marked, Postfixes}
use Rattle.rx_grammar.specs.Repetitions as repetitions
use Rattle.rx_grammar.specs.Groups.{FlagLetters, Flags, turning_on, turning_off, Setting, setting, Capture, Opening, plain, without_number, with_name, with_short_name, changing}
use Rattle.rx_grammar.specs.Grammar.{Escape, character, letter_class, look, PlainAtom, literal, dot, caret, dollar, escape, class}
use Rattle.rx_grammar.proofs.ClassLaws.{escape_shorter, item_shorter}

items_shorter : {t u : List ℕ} {items : List ClassItem} → ClassItems t items u → length u < length t
items_shorter (closed e) = omega (arith, ap length e)
items_shorter (last_hyphen e f) = omega (arith, ap length e, ap length f)
items_shorter (classes.further one others) = omega (arith, item_shorter one, items_shorter others)

body_shorter : {t u : List ℕ} {items : List ClassItem} → ClassBody t items u → length u < length t
body_shorter (bracket_first e items) = omega (arith, ap length e, items_shorter items)
body_shorter (hyphen_first e other items) = omega (arith, ap length e, items_shorter items)
body_shorter (other_first bracket hyphen items) = items_shorter items

class_shorter : {t u : List ℕ} {n : Bool} {items : List ClassItem} → Class t n items u → length u < length t
class_shorter (classes.plain other body) = body_shorter body
class_shorter (classes.negation e body) = omega (arith, ap length e, body_shorter body)

escape_tree_shorter : {s : Settings} {t u : List ℕ} {h : Tree} → Escape s t h u → length u < length t
escape_tree_shorter (character one is) = escape_shorter one
escape_tree_shorter (letter_class k n e is) = omega (arith, ap length e)
escape_tree_shorter (look letter e f) = omega (arith, ap length e)

pub plain_shorter : {s : Settings} {t u : List ℕ} {h : Tree} → PlainAtom s t h u → length u < length t
plain_shorter (literal e is_one is) = omega (arith, ap length e)
plain_shorter (dot e allowed is) = omega (arith, ap length e)
plain_shorter (caret e) = omega (arith, ap length e)
plain_shorter (dollar e) = omega (arith, ap length e)
plain_shorter (escape e one) = omega (arith, ap length e, escape_tree_shorter one)
plain_shorter (class e one is) = omega (arith, ap length e, class_shorter one)

number_shorter : {t u : List ℕ} {n : ℕ} → Number t n u → length u ≤ length t
number_shorter {u = u} number = omega (arith, ap length number.whole, length-append number.digits u)

braces_shorter : {t u : List ℕ} {n : ℕ} {m : Option ℕ} → CountInBraces t n m u → length u < length t
braces_shorter (exactly number close) = omega (arith, number_shorter number, ap length close)
braces_shorter (at_least number comma close) = omega (arith, number_shorter number, ap length comma, ap length close)
braces_shorter (between number comma second close order) = omega (arith, number_shorter number, ap length comma, number_shorter second, ap length close)

count_shorter : {t u : List ℕ} {n : ℕ} {m : Option ℕ} → Count t n m u → length u < length t
count_shorter (star e) = omega (arith, ap length e)
count_shorter (plus e) = omega (arith, ap length e)
count_shorter (question e) = omega (arith, ap length e)
count_shorter (in_braces e inside) = omega (arith, ap length e, braces_shorter inside)

pub postfix_shorter : {swap : Bool} {t u : List ℕ} {r : Repetition} → Postfix swap t r u → length u < length t
postfix_shorter (alone count other) = count_shorter count
postfix_shorter (marked count e) = omega (arith, count_shorter count, ap length e)

pub postfixes_shorter : {swap : Bool} {h g : Tree} {d e : ℕ} {t u : List ℕ} → Postfixes swap h d t g e u → length u ≤ length t
postfixes_shorter (repetitions.ended stops) = omega arith
postfixes_shorter (repetitions.further one others) = omega (arith, postfix_shorter one, postfixes_shorter others)

letters_shorter : {t u : List ℕ} {flags : List Flag} → FlagLetters t flags u → length u ≤ length t
letters_shorter {u = u} {flags = flags} letters = omega (arith, ap length letters.whole, length-append (map letter_of flags) u)

flags_shorter : {t u : List ℕ} {on off : List Flag} → Flags t on off u → length u ≤ length t
flags_shorter (turning_on letters some stop once) = letters_shorter letters
flags_shorter (turning_off letters minus letters' some once) = omega (arith, letters_shorter letters, ap length minus, letters_shorter letters')

pub setting_shorter : {s s' : Settings} {t u : List ℕ} → Setting s t s' u → length u < length t
setting_shorter (setting e flags close) = omega (arith, ap length e, flags_shorter flags, ap length close)

pub opening_shorter : {s s' : Settings} {k : Capture} {t u : List ℕ} → Opening s t s' k u → length u < length t
opening_shorter (plain e stop) = omega (arith, ap length e)
opening_shorter (without_number e) = omega (arith, ap length e)
opening_shorter {u = u} (with_name {name = name} e close is) = omega (arith, ap length e, ap length close, length-append name (62 ∷ u))
opening_shorter {u = u} (with_short_name {name = name} e close is) = omega (arith, ap length e, ap length close, length-append name (62 ∷ u))
opening_shorter (changing e flags close) = omega (arith, ap length e, flags_shorter flags, ap length close)
