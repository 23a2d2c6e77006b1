-- The matches that a template replaces, by their groups.
use Rattle.std.specs.Prelude.{List, map}
use Rattle.rope_search_changes.specs.Replacement.{Groups, alone}
use Rattle.rope_search_templates.specs.declared.matches.Match.{Match}
use Rattle.rope_search_templates.specs.declared.matches.Match.TheVariants as match
use Rattle.rope_search_templates.specs.declared.matches.Matches.{Matches}
use Rattle.rope_search_templates.specs.declared.matches.Matches.TheVariants as matches

-- the groups of a match; if only its span is known, that is the only group
abbrev pub groups_in : Match → Groups
groups_in (match.Span start end) = alone (start, end)
groups_in (match.Grouped groups) = groups.now

-- all matches
abbrev pub matched : Matches → List Groups
matched (matches.Spans spans) = map alone spans.items
matched (matches.Grouped groups) = groups.items
