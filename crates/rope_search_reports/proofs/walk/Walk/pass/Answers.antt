use Rattle.std.proofs.Common.{sym, subst, arith}
use Rattle.ropey.specs.Slices.{slice_text}
use Rattle.rope_search_reports.specs.Drafts.{IsWalk}
use Rattle.rope_search_reports.proofs.WalkLemmas.{inside-rest, skip-walk}
use Rattle.rope_search_reports.proofs.walk.Walk.pass.Goals as goal

pub invariant_of-self-2 : goal.invariant_of-self-2
invariant_of-self-2 c =
    let inside = inside-rest _ c.args.count c.to_byte_idx-place.result c.to_byte_idx-place.ensures (omega (arith, c.if-place-self.false)) in
    subst (IsWalk (slice_text c.self.inside.text) _ _) (sym c.range_from-self-inside.ensures.value)
    (skip-walk _ _ _ _ c.args.count c.to_byte_idx-place.result c.self.invariant inside c.to_byte_idx-place.ensures).walk

pub range_from-self-inside-requires : goal.range_from-self-inside-requires
range_from-self-inside-requires c = λ _.
    let inside = inside-rest _ c.args.count c.to_byte_idx-place.result c.to_byte_idx-place.ensures (omega (arith, c.if-place-self.false)) in
    (skip-walk _ _ _ _ c.args.count c.to_byte_idx-place.result c.self.invariant inside c.to_byte_idx-place.ensures).boundary
