use Rattle.rope_search.proofs.laws.known.Goals as goal

pub returns : goal.returns
returns c = record {
  placed = c.one_place.ensures;
  told = c.pattern_or_not.ensures;
  apart = c.one_of_three.ensures;
  one = c.finds_one.ensures;
  some = c.has_find.ensures;
  one_list = c.one_list_of_groups.ensures;
  groups = c.has_groups.ensures;
  replaced = c.replaced_is_text.ensures;
}
