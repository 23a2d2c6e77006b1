use Rattle.std.proofs.Common.{◌≡◌, sym, ◌∙◌}
use Rattle.std.proofs.lemmas.Iterator.{YieldsList-from_chars}
use Rattle.std.proofs.lemmas.Iterator.Consumers.{YieldsList-end}
use Rattle.std.proofs.lemmas.List.{map-id}
use Rattle.std.specs.Str.{chars}
use Rattle.rope_search_reports.proofs.pattern_text.PatternText.new.Goals as goal

pub returns : goal.returns
returns c =
    let t = YieldsList-end (YieldsList-from_chars c.args.pattern.now c.utf8.pattern cc) c.loop-c.yielded _ c.loop-c.yielded_by _ _ c.in-None.is c.next.ensures.steps in
    let whole : c.loop-c.yielded ≡ chars c.args.pattern.now = sym (map-id c.loop-c.yielded) ∙ t.0 in
    c.loop-c.invariant ∙ whole
