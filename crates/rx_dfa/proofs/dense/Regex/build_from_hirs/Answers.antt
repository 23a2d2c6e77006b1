use Rattle.std.proofs.lemmas.Result.{err_from_is_err_and}
use Rattle.rx_engine.specs.Engines.{no_memory}
use Rattle.rx_dfa.proofs.dense.Regex.build_from_hirs.Goals as goal

pub returns-in_err-over-clause-refused : goal.returns-in_err-over-clause-refused
returns-in_err-over-clause-refused c =
    let p = err_from_is_err_and c.from_residual-in_err-over.result c.from_residual-in_err-over.ensures.1 in
    rw (p.1, p.2) no_memory
