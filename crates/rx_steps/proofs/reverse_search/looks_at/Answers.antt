use Rattle.rx_steps.proofs.reverse_search.looks_at.Goals as goal

pub returns-clause-looks : goal.returns-clause-looks
returns-clause-looks g c = λ states utf8_empty inside unasked l asks. (c.of.ensures.place states utf8_empty inside unasked).looks l asks
