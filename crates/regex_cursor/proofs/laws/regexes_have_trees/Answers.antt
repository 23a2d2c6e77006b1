use Rattle.regex_cursor.specs.Patterns.{search_from}
use Rattle.regex_cursor.proofs.PatternLemmas.{light-of, finds-of, slots-of, notes-of, says-of, tells-of, tells_slots-of}
use Rattle.regex_cursor.proofs.laws.regexes_have_trees.Goals as goal

pub returns : goal.returns
returns c = record {
  spells = λ text re built. built.spells;
  light = light-of;
  tells = tells-of;
  tells_slots = tells_slots-of;
  notes = notes-of c.matches_note_their_places.ensures c.groups_are_noted_whole.ensures;
  finds = finds-of;
  slots = slots-of;
  noted = λ text re built content from t finds. notes-of c.matches_note_their_places.ensures c.groups_are_noted_whole.ensures text re built (search_from content from) t finds;
  refused = says-of;
}
