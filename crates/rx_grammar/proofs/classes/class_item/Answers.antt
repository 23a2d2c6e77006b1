use Rattle.std.proofs.Common.{◌≤◌, arith}
use Rattle.rx_grammar.specs.Classes.{character, range, letter_class}
use Rattle.rx_grammar.proofs.ClassLaws.{class_character_unique, range_read}
use Rattle.rx_grammar.proofs.classes.class_item.Goals as goal

pub returns-in-Some : goal.returns-in-Some
returns-in-Some c = letter_class c.in-Some.kind c.in-Some.negated c.in-Some.ensures

pub returns-in_default-range_goes_on : goal.returns-in_default-range_goes_on
returns-in_default-range_goes_on c = character c.in-Some-class_character.ensures c.in_default-range_goes_on.ensures

pub returns-in_default-class_character-2 : goal.returns-in_default-class_character-2
returns-in_default-class_character-2 c = λ item u one.
    let read = range_read c.in_default.ensures c.in-Some-class_character.ensures c.in-Some-range_goes_on.ensures one in
    c.in_default-class_character-2.ensures read.0 u read.1

pub returns-then-high-low : goal.returns-then-high-low
returns-then-high-low c = λ item u one.
    let read = range_read c.in_default.ensures c.in-Some-class_character.ensures c.in-Some-range_goes_on.ensures one in
    let same = class_character_unique read.1 c.in-Some-class_character-2.ensures in
    let order : c.in-Some-class_character.low ≤ read.0 = read.2 in
    omega (arith, same.0)

pub returns : goal.returns
returns c =
    range c.in-Some-class_character.ensures c.in-Some-range_goes_on.ensures.hyphen c.in-Some-class_character-2.ensures c.if-high-low.false
