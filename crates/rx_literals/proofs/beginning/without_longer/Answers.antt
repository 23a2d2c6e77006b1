use Rattle.std.proofs.Common.{String, Global, string_bytes, arith}
use Rattle.rx_literals.proofs.KeptLaws.{left_on, kept_stand}
use Rattle.rx_literals.proofs.MapLaws.{nothing}
use Rattle.rx_literals.proofs.beginning.without_longer.Goals as goal

pub loop-literal-preserved : goal.loop-literal-preserved
loop-literal-preserved c =
    left_on (λ (literal : String Global). string_bytes literal) c.args.literals.items c.loop-literal.literals.items c.pop.new.self.items c.loop-literal.kept.items c.keep.new.kept.items c.in-Some.literal
    c.in-Some.ensures.items c.in_ok-keep.ensures c.loop-literal.invariant

pub returns : goal.returns
returns c = kept_stand (λ (literal : String Global). string_bytes literal) c.args.literals.items c.loop-literal.literals.items c.loop-literal.kept.items
    (nothing c.loop-literal.literals.items (omega (arith, c.in_default.ensures.cases.0, c.loop-literal.literals.ok.0))) c.loop-literal.invariant
