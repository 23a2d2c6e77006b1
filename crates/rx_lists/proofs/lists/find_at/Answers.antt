use Rattle.std.proofs.Common.{◌≡◌, ◌+◌, ◌≤◌, Bool, true, [], ◌∷◌, Option, slice_get, sym, subst, ◌∙◌, arith}
use Rattle.rx_walks.specs.Leading.{LeadsToMatch, Follows}
use Rattle.rx_walks.specs.Finds.{IsInside}
use Rattle.rx_walks.specs.Machines.{Outcome}
use Rattle.rx_walks.specs.ProgramFinds.{highest}
use Rattle.rx_steps.specs.Threads.{Slots, no_slots, first_node}
use Rattle.rx_steps.specs.Searching.{search_of}
use Rattle.rx_steps.specs.Coming.{machine_in}
use Rattle.rx_steps.proofs.FollowLaws.{if_ok, on_ok}
use Rattle.rx_steps.proofs.OverLaws.{same_search}
use Rattle.rx_lists.specs.declared.walk.Ending.{Ending}
use Rattle.rx_lists.specs.Bits.{HasNode}
use Rattle.rx_lists.specs.Blocks.{AreBlocks, BlockReaches}
use Rattle.rx_lists.specs.LeadingSets.{IsLeadingSet}
use Rattle.rx_lists.specs.Passes.{outcome_of}
use Rattle.rx_lists.proofs.NodeLaws.{first_may}
use Rattle.rx_lists.proofs.WayLaws.{inside_is, top_within, below_inside, set_at}
use Rattle.rx_lists.proofs.GoOnLaws.{found_by, not_begun, found_counted, found_reached, if_ok_both, some_so}
use Rattle.rx_lists.proofs.lists.find_at.Goals as goal

pub returns-then-not-may_begin-clause-found : goal.returns-then-not-may_begin-clause-found
returns-then-not-may_begin-clause-found g c =
    let u = c.args.of.now.utf8_empty in
    let s = search_of u c.args.input.now in
    not_begun c.args.program.now s c.args.of.now.start c.args.of.now.slot_len c.args.from c.args.input.now.position
    (λ b. let told : c.may_begin.result ≡ true = (c.may_begin.ensures (c.requires.inside u) c.requires.from).1 b in cc (told, c.if-not-may_begin.true))

pub returns-then-not-has-clause-found : goal.returns-then-not-has-clause-found
returns-then-not-has-clause-found g c = λ b leads.
    let u = c.args.of.now.utf8_empty in
    let p = c.args.program.now in
    let s = search_of u c.args.input.now in
    let i = c.args.input.now.position in
    let come = c.in_ok-come_to.ensures in
    let set = c.set-set.result.now in
    let stays : c.position.result ≡ i = c.position.ensures.position ∙ come.position in
    let leading : IsLeadingSet p s i set = set_at p s c.come_to.new.self.block.top c.position.result i c.come_to.new.self.block.sets set (come.blocks u).sets c.set-set.ensures (omega (arith, stays, come.there)) stays in
    let there : HasNode c.come_to.new.self.pass.index set (first_node c.args.of.now.start) = subst (λ w. HasNode w set (first_node c.args.of.now.start)) (sym (come.blocks u).ready.index_is)
    (leading.all (first_node c.args.of.now.start) (first_may (slice_get p.states c.args.of.now.start)) leads) in
    let told : c.has.result ≡ true = c.has.ensures.1 (subst (λ z. HasNode c.come_to.new.self.pass.index set z) (sym c.first.ensures) there) in
    cc (told, c.if-not-has.true)

pub returns-then-not-has-clause-reaches : goal.returns-then-not-has-clause-reaches
returns-then-not-has-clause-reaches g c = c.in_ok-come_to.ensures.reaches c.args.input.now.position (below_inside c.args.program.now (search_of true c.args.input.now) c.args.blocks.now c.args.input.now.position (c.requires.blocks true) (c.requires.inside true)) (omega arith) c.requires.reaches

pub returns-clause-found : goal.returns-clause-found
returns-clause-found g c =
    let u = c.args.of.now.utf8_empty in
    let p = c.args.program.now in
    let s = search_of u c.args.input.now in
    let i = c.args.input.now.position in
    let come = c.in_ok-come_to.ensures in
    let set = c.set-set.result.now in
    let stays : c.position.result ≡ i = c.position.ensures.position ∙ come.position in
    let leading : IsLeadingSet p s i set = set_at p s c.come_to.new.self.block.top c.position.result i c.come_to.new.self.block.sets set (come.blocks u).sets c.set-set.ensures (omega (arith, stays, come.there)) stays in
    let leads : LeadsToMatch (machine_in p s) (first_node c.args.of.now.start) i = leading.leads (first_node c.args.of.now.start)
    (subst (λ w. HasNode w set (first_node c.args.of.now.start)) (come.blocks u).ready.index_is (subst (λ z. HasNode c.come_to.new.self.pass.index set z) c.first.ensures (c.has.ensures.0 c.if-not-has.false))) in
    let same : search_of u c.come_to.new.input ≡ s = same_search u c.come_to.new.input c.args.input.now come.same.content come.asked in
    let fresh = (no_slots c.args.of.now.slot_len, first_node c.args.of.now.start) ∷ [] in
    let here : (out : Option (Outcome Slots)) → Follows (machine_in p (search_of u c.come_to.new.input)) c.come_to.new.input.position [] fresh out → Follows (machine_in p s) i [] fresh out = λ out follows.
    subst (λ j. Follows (machine_in p s) j [] fresh out) come.position (subst (λ x. Follows (machine_in p x) c.come_to.new.input.position [] fresh out) same follows) in
    let begins = (c.may_begin.ensures (c.requires.inside u) c.requires.from).0 c.if-not-may_begin.false in
    if_ok c.follow.result (λ found followed. found_by p s c.args.of.now.start c.args.of.now.slot_len c.args.from i (outcome_of found c.follow.new.self.stepper.slots) begins (here (outcome_of found c.follow.new.self.stepper.slots) (followed u))) c.follow.ensures.followed

pub returns-clause-reaches : goal.returns-clause-reaches
returns-clause-reaches g c =
    let u = c.args.of.now.utf8_empty in
    let p = c.args.program.now in
    let s = search_of u c.args.input.now in
    let i = c.args.input.now.position in
    let come = c.in_ok-come_to.ensures in
    let set = c.set-set.result.now in
    let stays : c.position.result ≡ i = c.position.ensures.position ∙ come.position in
    let leading : IsLeadingSet p s i set = set_at p s c.come_to.new.self.block.top c.position.result i c.come_to.new.self.block.sets set (come.blocks u).sets c.set-set.ensures (omega (arith, stays, come.there)) stays in
    let leads : LeadsToMatch (machine_in p s) (first_node c.args.of.now.start) i = leading.leads (first_node c.args.of.now.start)
    (subst (λ w. HasNode w set (first_node c.args.of.now.start)) (come.blocks u).ready.index_is (subst (λ z. HasNode c.come_to.new.self.pass.index set z) c.first.ensures (c.has.ensures.0 c.if-not-has.false))) in
    let same : search_of u c.come_to.new.input ≡ s = same_search u c.come_to.new.input c.args.input.now come.same.content come.asked in
    let fresh = (no_slots c.args.of.now.slot_len, first_node c.args.of.now.start) ∷ [] in
    let here : (out : Option (Outcome Slots)) → Follows (machine_in p (search_of u c.come_to.new.input)) c.come_to.new.input.position [] fresh out → Follows (machine_in p s) i [] fresh out = λ out follows.
    subst (λ j. Follows (machine_in p s) j [] fresh out) come.position (subst (λ x. Follows (machine_in p x) c.come_to.new.input.position [] fresh out) same follows) in
    if_ok_both c.follow.result (λ found followed reaches. found_reached p s c.args.of.now.start c.args.of.now.slot_len i found c.follow.new.self.stepper.slots c.follow.new.blocks.block leads (here (outcome_of found c.follow.new.self.stepper.slots) (followed u)) reaches) c.follow.ensures.followed c.follow.ensures.reaches

pub returns-clause-counted : goal.returns-clause-counted
returns-clause-counted g c =
    let u = c.args.of.now.utf8_empty in
    let p = c.args.program.now in
    let s = search_of u c.args.input.now in
    let i = c.args.input.now.position in
    let come = c.in_ok-come_to.ensures in
    let set = c.set-set.result.now in
    let stays : c.position.result ≡ i = c.position.ensures.position ∙ come.position in
    let leading : IsLeadingSet p s i set = set_at p s c.come_to.new.self.block.top c.position.result i c.come_to.new.self.block.sets set (come.blocks u).sets c.set-set.ensures (omega (arith, stays, come.there)) stays in
    let leads : LeadsToMatch (machine_in p s) (first_node c.args.of.now.start) i = leading.leads (first_node c.args.of.now.start)
    (subst (λ w. HasNode w set (first_node c.args.of.now.start)) (come.blocks u).ready.index_is (subst (λ z. HasNode c.come_to.new.self.pass.index set z) c.first.ensures (c.has.ensures.0 c.if-not-has.false))) in
    let same : search_of u c.come_to.new.input ≡ s = same_search u c.come_to.new.input c.args.input.now come.same.content come.asked in
    let fresh = (no_slots c.args.of.now.slot_len, first_node c.args.of.now.start) ∷ [] in
    let here : (out : Option (Outcome Slots)) → Follows (machine_in p (search_of u c.come_to.new.input)) c.come_to.new.input.position [] fresh out → Follows (machine_in p s) i [] fresh out = λ out follows.
    subst (λ j. Follows (machine_in p s) j [] fresh out) come.position (subst (λ x. Follows (machine_in p x) c.come_to.new.input.position [] fresh out) same follows) in
    let r' = c.follow.new.read + c.args.blocks.now.block.top in
    let r = c.args.read.now + c.follow.new.blocks.block.top in
    if_ok_both c.follow.result (λ found followed counted. found_counted p s c.args.of.now.start c.args.of.now.slot_len i r r' found c.follow.new.self.stepper.slots leads (here (outcome_of found c.follow.new.self.stepper.slots) (followed u))
    (some_so (λ (x : Ending). c.follow.new.read + c.come_to.new.self.block.top + c.come_to.new.input.position ≤ c.come_to.new.read + c.follow.new.blocks.block.top + x.end + 1) (λ (x : Ending). r' + i ≤ r + 1 + x.end + 1) found
    (λ x more. omega (arith, more, c.add.ensures, come.position, come.counted)) counted)) c.follow.ensures.followed c.follow.ensures.counted

pub set-set-requires-clause-there : goal.set-set-requires-clause-there
set-set-requires-clause-there g c = omega (arith, c.position.ensures.position, c.in_ok-come_to.ensures.position, c.in_ok-come_to.ensures.there)

pub set-set-requires-clause-reaches : goal.set-set-requires-clause-reaches
set-set-requires-clause-reaches g c = subst (λ j. BlockReaches c.come_to.new.self.block j) (sym (c.position.ensures.position ∙ c.in_ok-come_to.ensures.position))
    (c.in_ok-come_to.ensures.reaches c.args.input.now.position (below_inside c.args.program.now (search_of true c.args.input.now) c.args.blocks.now c.args.input.now.position (c.requires.blocks true) (c.requires.inside true)) (omega arith) c.requires.reaches)

pub follow-requires-clause-inside : goal.follow-requires-clause-inside
follow-requires-clause-inside g c = λ b.
    let come = c.in_ok-come_to.ensures in
    subst (λ x. IsInside x c.come_to.new.input.position) (sym (same_search b c.come_to.new.input c.args.input.now come.same.content come.asked))
    (subst (λ j. IsInside (search_of b c.args.input.now) j) (sym come.position) (c.requires.inside b))

pub follow-requires-clause-blocks : goal.follow-requires-clause-blocks
follow-requires-clause-blocks g c = λ b.
    let come = c.in_ok-come_to.ensures in
    subst (λ x. AreBlocks c.args.program.now x c.come_to.new.self) (sym (same_search b c.come_to.new.input c.args.input.now come.same.content come.asked)) (come.blocks b)

pub follow-requires-clause-reaches : goal.follow-requires-clause-reaches
follow-requires-clause-reaches g c = subst (λ j. BlockReaches c.come_to.new.self.block j) (sym c.in_ok-come_to.ensures.position)
    (c.in_ok-come_to.ensures.reaches c.args.input.now.position (below_inside c.args.program.now (search_of true c.args.input.now) c.args.blocks.now c.args.input.now.position (c.requires.blocks true) (c.requires.inside true)) (omega arith) c.requires.reaches)

pub returns-then-not-may_begin-clause-bound : goal.returns-then-not-may_begin-clause-bound
returns-then-not-may_begin-clause-bound g c = λ b. omega (arith, c.add.ensures, (inside_is (search_of b c.args.input.now) c.args.input.now.position (c.requires.inside b)).1)

pub returns-then-not-may_begin-clause-last : goal.returns-then-not-may_begin-clause-last
returns-then-not-may_begin-clause-last g c = λ b. top_within c.args.program.now (search_of b c.args.input.now) c.args.blocks.now (c.requires.blocks b)

pub returns-in_err-come_to-clause-bound : goal.returns-in_err-come_to-clause-bound
returns-in_err-come_to-clause-bound g c = λ b. omega (arith, c.add.ensures, c.come_to.ensures.counted, (inside_is (search_of b c.args.input.now) c.args.input.now.position (c.requires.inside b)).1)

pub returns-in_err-come_to-clause-last : goal.returns-in_err-come_to-clause-last
returns-in_err-come_to-clause-last g c = λ b. omega (arith, c.come_to.ensures.last, (c.requires.blocks b).last_is)

pub returns-then-not-has-clause-bound : goal.returns-then-not-has-clause-bound
returns-then-not-has-clause-bound g c = λ b. omega (arith, c.add.ensures, c.come_to.ensures.counted, (inside_is (search_of b c.args.input.now) c.args.input.now.position (c.requires.inside b)).1)

pub returns-then-not-has-clause-last : goal.returns-then-not-has-clause-last
returns-then-not-has-clause-last g c = λ b. omega (arith, c.come_to.ensures.last, (c.requires.blocks b).last_is)

pub returns-clause-bound : goal.returns-clause-bound
returns-clause-bound g c = λ b.
    let come = c.in_ok-come_to.ensures in
    let s = search_of b c.args.input.now in
    let follow : c.follow.new.read + c.come_to.new.self.block.top + c.come_to.new.input.position ≤ c.come_to.new.read + c.follow.new.blocks.block.top + highest s + 1 =
    subst (λ x. c.follow.new.read + c.come_to.new.self.block.top + c.come_to.new.input.position ≤ c.come_to.new.read + c.follow.new.blocks.block.top + highest x + 1) (same_search b c.come_to.new.input c.args.input.now come.same.content come.asked) (c.follow.ensures.bound b) in
    omega (arith, c.add.ensures, come.counted, come.position, follow)

pub returns-clause-last : goal.returns-clause-last
returns-clause-last g c = λ b.
    let come = c.in_ok-come_to.ensures in
    subst (λ x. c.follow.new.blocks.block.top ≤ highest x) (same_search b c.come_to.new.input c.args.input.now come.same.content come.asked) (c.follow.ensures.last b)

pub returns-clause-inside : goal.returns-clause-inside
returns-clause-inside g c =
    let come = c.in_ok-come_to.ensures in
    if_ok c.follow.result (λ found inside. some_so (λ (x : Ending). (c.come_to.new.input.position ≤ x.end) × ((b : Bool) → IsInside (search_of b c.come_to.new.input) x.end))
    (λ (x : Ending). (c.args.input.now.position ≤ x.end) × ((b : Bool) → IsInside (search_of b c.args.input.now) x.end)) found
    (λ x both. (omega (arith, both.0, come.position), λ b. subst (λ y. IsInside y x.end) (same_search b c.come_to.new.input c.args.input.now come.same.content come.asked) (both.1 b))) inside) c.follow.ensures.inside

pub returns-clause-blocks : goal.returns-clause-blocks
returns-clause-blocks g c =
    let come = c.in_ok-come_to.ensures in
    on_ok c.follow.result (λ blocks b. subst (λ x. AreBlocks c.args.program.now x c.follow.new.blocks) (same_search b c.come_to.new.input c.args.input.now come.same.content come.asked) (blocks b)) c.follow.ensures.blocks
