use Rattle.rx_onepass.proofs.search.Walker.set_slot_len.Goals as goal

pub returns-then-self-len-clause-made : goal.returns-then-self-len-clause-made
returns-then-self-len-clause-made c = λ p made. record { widths_are = made.widths_are; looks = made.looks; are_edges = c.clear.ensures p c.args.len }
