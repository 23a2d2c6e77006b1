use Rattle.std.proofs.Common.{refl, sym, subst}
use Rattle.rope_search_reports.specs.Turned.{Lead}
use Rattle.ropey.specs.Chunks.{text_of}
use Rattle.rope_search.proofs.history.History.new.Goals as goal

pub of_changes-requires : goal.of_changes-requires
of_changes-requires c =
    let text = text_of c.args.text in
    (text, subst (λ changes. Lead changes text text) (sym c.new.ensures.items) (0, (refl, refl)))
