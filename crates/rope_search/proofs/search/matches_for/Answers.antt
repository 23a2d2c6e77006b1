use Rattle.std.proofs.Common.{sym, ◌∙◌}
use Rattle.ropey.specs.Chunks.{text_of}
use Rattle.rope_search.proofs.MatchLemmas.{enough_groups, enough_spans}
use Rattle.rope_search.proofs.search.matches_for.Goals as goal

pub returns-then-names_explicit_groups-clause-found : goal.returns-then-names_explicit_groups-clause-found
returns-then-names_explicit_groups-clause-found c = enough_groups c.first_groups_are_enough.ensures _ _ _ _ _ c.group_count.ensures c.in_ok-groups.ensures.found c.in_ok-groups.ensures.stand

pub returns-clause-found : goal.returns-clause-found
returns-clause-found c =
    enough_spans c.spans_are_enough.ensures (text_of c.args.text.now) c.args.finder.now c.args.template.now c.in_ok-spans.spans.items
    (sym c.names_explicit_groups.ensures ∙ c.if-names_explicit_groups.false) c.in_ok-spans.ensures.found c.in_ok-spans.ensures.stand
