use Rattle.rx_utf8.specs.Automata.{is_in}
use Rattle.rx_program.specs.Code.{program_of}
use Rattle.rx_program.specs.Owned.{owner_in}
use Rattle.rx_program.proofs.laws.programs_keep_patterns.Goals as goal

pub returns : goal.returns
returns c = λ trees terminator is_word s.
    c.owners_keep_patterns.ensures is_in is_word (program_of trees terminator) (owner_in trees) (c.programs_have_owners.ensures trees terminator) s
