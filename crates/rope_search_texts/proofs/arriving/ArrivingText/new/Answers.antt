use Rattle.rope_search_texts.proofs.arriving.ArrivingText.new.Goals as goal

pub returns-else-len-limit-clause-arrives : goal.returns-else-len-limit-clause-arrives
returns-else-len-limit-clause-arrives c = (c.if-len-limit.false, λ more. ((c.new-else-len-limit.ensures more).1, (c.new-else-len-limit.ensures more).0))
