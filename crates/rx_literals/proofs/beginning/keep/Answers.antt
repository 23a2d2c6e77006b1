use Rattle.std.proofs.Common.{String, Global, string_bytes, map, subst}
use Rattle.rx_literals.specs.Needles.{OneOccursAt}
use Rattle.rx_literals.proofs.KeptLaws.{keeps_same, keeps_more}
use Rattle.rx_literals.proofs.beginning.keep.Goals as goal

pub returns-then-begins_with_one : goal.returns-then-begins_with_one
returns-then-begins_with_one c = keeps_same (λ (other : String Global). string_bytes other) c.args.kept.now.items c.args.literal
    (λ bytes i occurs. subst (λ others. OneOccursAt bytes i (map (λ (other : String Global). string_bytes other) others)) c.deref.ensures.value (c.begins_with_one.ensures c.if-begins_with_one.true bytes i occurs))

pub returns : goal.returns
returns c = keeps_more (λ (other : String Global). string_bytes other) c.args.kept.now.items c.push.new.self.items c.args.literal c.in_ok-push.ensures.items
