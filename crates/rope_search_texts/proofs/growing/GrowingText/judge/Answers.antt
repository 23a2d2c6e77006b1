use Rattle.rope_search_texts.proofs.GrowingLemmas.{judges_part}
use Rattle.rope_search_texts.proofs.growing.GrowingText.judge.Goals as goal

pub returns : goal.returns
returns c = λ more.
    let inside = c.self.inside in
    judges_part inside.text inside.part.items c.args.self.now more _ _ c.self.invariant.0 c.self.view_is c.new-judge.ensures (rw c.as_slice.ensures.value at c.feed.ensures)
