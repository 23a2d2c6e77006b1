use Rattle.std.proofs.Common.{[], refl, ap, subst, arith}
use Rattle.rope_search.specs.Joints.{GoesOnTo}
use Rattle.rope_search.proofs.JoinLemmas.{no_joint}
use Rattle.rope_search.proofs.JoinSteps.{led-by, all-taken, put-so_far, so_far-start, so_far-first, so_far-second, first-fits, second-fits, start-fits, fits-last, end-lead, end-stays, end-apart, end-few}
use Rattle.rope_search.proofs.joins.composed.Goals.{then-takes_first+in_ok-reach, else-takes_first+in_ok-reach-2}
use Rattle.rope_search.proofs.joins.composed.Goals as goal

pub loop-init : goal.loop-init
loop-init c = (
  put-so_far c.args.first.now c.args.second.now no_joint c.new-joint.result 0 0 0 0 [] c.new-changes.result.items c.new-joint.ensures refl refl c.new-changes.ensures.items (so_far-start c.args.first.now c.args.second.now),
  refl,
)

pub takes_first-requires-clause-within : goal.takes_first-requires-clause-within
takes_first-requires-clause-within c = c.loop.invariant.0.within

pub takes_first-requires-clause-left : goal.takes_first-requires-clause-left
takes_first-requires-clause-left c = omega (arith, c.loop.invariant.1, c.loop-test.true)

pub takes_first-requires-clause-behind : goal.takes_first-requires-clause-behind
takes_first-requires-clause-behind c = λ some other. (start-fits c.args.first.now c.args.second.now c.loop.joint c.loop.i c.loop.j c.loop.changes.items (led-by _ _ c.requires) other c.loop.invariant.0).0

pub takes_first-requires-clause-fits : goal.takes_first-requires-clause-fits
takes_first-requires-clause-fits c = λ some other. (start-fits c.args.first.now c.args.second.now c.loop.joint c.loop.i c.loop.j c.loop.changes.items (led-by _ _ c.requires) other c.loop.invariant.0).1

pub reach-requires-clause-old_fits : goal.reach-requires-clause-old_fits
reach-requires-clause-old_fits c =
    let told = c.takes_first.ensures.first c.if-takes_first.true in
    (first-fits c.args.first.now c.args.second.now c.loop.joint c.loop.i c.loop.j c.loop.changes.items (led-by _ _ c.requires) told.0 told.1 c.loop.invariant.0).0

pub reach-requires-clause-new_fits : goal.reach-requires-clause-new_fits
reach-requires-clause-new_fits c =
    let told = c.takes_first.ensures.first c.if-takes_first.true in
    (first-fits c.args.first.now c.args.second.now c.loop.joint c.loop.i c.loop.j c.loop.changes.items (led-by _ _ c.requires) told.0 told.1 c.loop.invariant.0).1

pub middle_start-requires-clause-behind : goal.middle_start-requires-clause-behind
middle_start-requires-clause-behind c =
    let told = c.takes_first.ensures.second c.if-takes_first.false in
    (start-fits c.args.first.now c.args.second.now c.loop.joint c.loop.i c.loop.j c.loop.changes.items (led-by _ _ c.requires) told.0 c.loop.invariant.0).0

pub middle_start-requires-clause-fits : goal.middle_start-requires-clause-fits
middle_start-requires-clause-fits c =
    let told = c.takes_first.ensures.second c.if-takes_first.false in
    (start-fits c.args.first.now c.args.second.now c.loop.joint c.loop.i c.loop.j c.loop.changes.items (led-by _ _ c.requires) told.0 c.loop.invariant.0).1

pub reach-requires-else-takes_first-clause-old_fits : goal.reach-requires-else-takes_first-clause-old_fits
reach-requires-else-takes_first-clause-old_fits c =
    let told = c.takes_first.ensures.second c.if-takes_first.false in
    let fits = second-fits c.args.first.now c.args.second.now c.loop.joint c.loop.i c.loop.j c.loop.changes.items (led-by _ _ c.requires) told.0 told.1 c.loop.invariant.0 in
    omega (arith, fits.0, c.middle_start.ensures)

pub reach-requires-else-takes_first-clause-new_fits : goal.reach-requires-else-takes_first-clause-new_fits
reach-requires-else-takes_first-clause-new_fits c =
    let told = c.takes_first.ensures.second c.if-takes_first.false in
    let fits = second-fits c.args.first.now c.args.second.now c.loop.joint c.loop.i c.loop.j c.loop.changes.items (led-by _ _ c.requires) told.0 told.1 c.loop.invariant.0 in
    omega (arith, fits.1, c.middle_start.ensures)

pub loop-preserved : goal.loop-preserved
loop-preserved c =
    let so = c.loop.invariant.0 in
    let led = led-by c.args.first.now c.args.second.now c.requires in
    elim c.if-takes_first.branch [
      | then-takes_first+in_ok-reach w ↦
          let told = c.takes_first.ensures.first w.if-takes_first.true in (
            put-so_far c.args.first.now c.args.second.now _ c.if-takes_first.joint _ c.if-takes_first.i _ c.if-takes_first.j _ c.if-takes_first.changes.items w.joint-is w.i-is w.j-is (ap (λ cs. cs.items) w.changes-is)
                (so_far-first c.args.first.now c.args.second.now c.loop.joint w.reach.new.self c.loop.i c.loop.j c.loop.changes.items w.reach.new.changes.items led told.0 told.1 so w.in_ok-reach.ensures),
            omega (arith, c.loop.invariant.1, w.i-is, w.j-is),
          )
      | else-takes_first+in_ok-reach-2 w ↦
          let told = c.takes_first.ensures.second w.if-takes_first.false in
          let new = w.reach-else-takes_first.new in (
            put-so_far c.args.first.now c.args.second.now _ c.if-takes_first.joint _ c.if-takes_first.i _ c.if-takes_first.j _ c.if-takes_first.changes.items w.joint-is w.i-is w.j-is (ap (λ cs. cs.items) w.changes-is)
                (so_far-second c.args.first.now c.args.second.now c.loop.joint new.self c.loop.i c.loop.j c.loop.changes.items new.changes.items led told.0 told.1 so
                (subst (λ n. GoesOnTo c.loop.joint n c.loop.changes.items new.self new.changes.items) w.middle_start.ensures w.in_ok-reach-2.ensures)),
            omega (arith, c.loop.invariant.1, w.i-is, w.j-is),
          )
    ]

pub add_change-requires-clause-old_fits : goal.add_change-requires-clause-old_fits
add_change-requires-clause-old_fits c =
    let all = all-taken c.args.first.now c.args.second.now c.loop.joint c.loop.i c.loop.j c.loop.counter c.loop.changes.items c.loop.invariant.0 c.loop.invariant.1 (omega (arith, c.loop-test.false)) in
    (fits-last c.args.first.now c.args.second.now c.loop.joint c.loop.i c.loop.j c.loop.changes.items (led-by _ _ c.requires) all.0 all.1 c.loop.invariant.0).0

pub add_change-requires-clause-new_fits : goal.add_change-requires-clause-new_fits
add_change-requires-clause-new_fits c =
    let all = all-taken c.args.first.now c.args.second.now c.loop.joint c.loop.i c.loop.j c.loop.counter c.loop.changes.items c.loop.invariant.0 c.loop.invariant.1 (omega (arith, c.loop-test.false)) in
    (fits-last c.args.first.now c.args.second.now c.loop.joint c.loop.i c.loop.j c.loop.changes.items (led-by _ _ c.requires) all.0 all.1 c.loop.invariant.0).1

pub returns-clause-lead : goal.returns-clause-lead
returns-clause-lead c =
    let all = all-taken c.args.first.now c.args.second.now c.loop.joint c.loop.i c.loop.j c.loop.counter c.loop.changes.items c.loop.invariant.0 c.loop.invariant.1 (omega (arith, c.loop-test.false)) in
    end-lead c.args.first.now c.args.second.now c.loop.joint c.loop.i c.loop.j c.loop.changes.items c.add_change.new.changes.items all.0 all.1 c.loop.invariant.0 c.in_ok-add_change.ensures

pub returns-clause-stays : goal.returns-clause-stays
returns-clause-stays c =
    let all = all-taken c.args.first.now c.args.second.now c.loop.joint c.loop.i c.loop.j c.loop.counter c.loop.changes.items c.loop.invariant.0 c.loop.invariant.1 (omega (arith, c.loop-test.false)) in
    end-stays c.args.first.now c.args.second.now c.loop.joint c.loop.i c.loop.j c.loop.changes.items c.add_change.new.changes.items (led-by _ _ c.requires) all.0 all.1 c.loop.invariant.0 c.in_ok-add_change.ensures

pub returns-clause-apart : goal.returns-clause-apart
returns-clause-apart c = end-apart c.args.first.now c.args.second.now c.loop.joint c.loop.i c.loop.j c.loop.changes.items c.add_change.new.changes.items c.loop.invariant.0 c.in_ok-add_change.ensures

pub returns-clause-few : goal.returns-clause-few
returns-clause-few c = end-few c.args.first.now c.args.second.now c.loop.joint c.loop.i c.loop.j c.loop.changes.items c.add_change.new.changes.items c.loop.invariant.0 c.in_ok-add_change.ensures
