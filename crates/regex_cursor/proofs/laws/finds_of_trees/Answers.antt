use Rattle.unicode.specs.Perl.{is_word_char}
use Rattle.rx_utf8.specs.Automata.{is_in}
use Rattle.regex_cursor.specs.Patterns.{program_for}
use Rattle.regex_cursor.proofs.laws.finds_of_trees.Goals as goal

pub returns : goal.returns
returns c = λ tree. record {
  one_find = c.finds_at_most_one.ensures is_in is_word_char (program_for tree);
  has_find = c.finds_exist.ensures is_in is_word_char (program_for tree);
  inside = c.finds_lie_inside.ensures is_in is_word_char (program_for tree);
  at_boundaries = c.finds_at_boundaries.ensures is_in is_word_char (program_for tree);
  one_list = c.matches_are_one_list.ensures is_in is_word_char (program_for tree);
  has_list = c.matches_exist.ensures is_in is_word_char (program_for tree);
  found = c.matches_are_found.ensures is_in is_word_char (program_for tree);
  rise = c.matches_rise.ensures is_in is_word_char (program_for tree);
  list_at_boundaries = c.matches_at_boundaries.ensures is_in is_word_char (program_for tree);
  first = c.first_matches_grow.ensures is_in is_word_char (program_for tree);
}
