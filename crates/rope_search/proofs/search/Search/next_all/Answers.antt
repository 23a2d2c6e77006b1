use Rattle.std.proofs.Common.{All, sym, subst}
use Rattle.ropey.specs.Chunks.{text_of}
use Rattle.rope_search_reports.specs.Replacement.{IsSpanIn}
use Rattle.rope_search_reports.specs.Text.{bytes_of}
use Rattle.rope_search.proofs.TextMatchLemmas.{spans-in}
use Rattle.rope_search.proofs.search.Search.next_all.Goals as goal

pub put_matches-count-requires : goal.put_matches-count-requires
put_matches-count-requires c =
    let content = bytes_of (text_of c.args.text.now) in
    subst (All (IsSpanIn content)) (sym c.deref.ensures.value) (spans-in content c.in_ok-spans.spans.items c.in_ok-spans.ensures.stand.spans)
