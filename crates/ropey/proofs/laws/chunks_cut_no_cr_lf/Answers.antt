use Rattle.ropey.proofs.laws.chunks_cut_no_cr_lf.Goals as goal

pub returns : goal.returns
returns c = c.chunks_cut_no_cr_lf.ensures
