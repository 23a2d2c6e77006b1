use Rattle.std.proofs.Common.{rules}
use Rattle.str_indices.specs.Bytes.{ends_lf_line}
use Rattle.str_indices.proofs.Tested.{tested-at}
use Rattle.str_indices.proofs.breaks.LfBreaksMeasure.weight.Goals as goal

pub returns : goal.returns
returns c = let e = tested-at ends_lf_line 0 0 c.args.bytes.now c.args.at c.requires in search rules
