use Rattle.std.proofs.Common.{◌≡◌, ◌+◌, ◌<◌, ◌≤◌, Bool, ℕ, true, false, IfSome, None, [], length, refl, sym, ap, subst, ◌∙◌, arith}
use Rattle.rx_walks.specs.Finds.{IsInside}
use Rattle.rx_walks.specs.ProgramFinds.{highest}
use Rattle.rx_steps.specs.Searching.{search_of}
use Rattle.rx_steps.proofs.OverLaws.{same_search}
use Rattle.rx_lists.specs.Blocks.{AreBlocks}
use Rattle.rx_lists.specs.Lists.{AreListedTo, read_before}
use Rattle.rx_lists.specs.declared.walk.Ending.{Ending}
use Rattle.rx_lists.proofs.GoOnLaws.{list_begun, taken_at, went_on, went_less, ended_list, some_so, some_end, some_is, none_was, inside_on, read_on, read_all, read_refused, reached_on}
use Rattle.rx_lists.proofs.WayLaws.{inside_is, top_within}
use Rattle.rx_lists.proofs.lists.list_all.Goals as goal

pub loop-progress-init : goal.loop-progress-init
loop-progress-init g c =
    let p = c.args.program.now in
    let of = c.args.of.now in
    let s = search_of of.utf8_empty c.args.input.now in
    let at = c.args.input.now.position in
    record {
      ready = c.requires.ready;
      inside = c.requires.inside;
      blocks = c.requires.blocks;
      reaches = c.requires.reaches;
      from = omega (arith, c.requires.first, c.start.ensures);
      after = λ e. absurd {A = c.start.result ≡ at} (cc e);
      listed = subst (λ xs. AreListedTo p s of.start of.slot_len xs false c.start.result at) (sym c.new.ensures.items)
          (subst (λ j. AreListedTo p s of.start of.slot_len [] false j at) (sym c.start.ensures) (list_begun p s of.start of.slot_len at c.requires.first));
      counted = λ b. omega (arith, c.requires.first);
      same = record { content = refl; is_sized = refl };
      asked = refl;
    }

pub find_at-requires-clause-ready : goal.find_at-requires-clause-ready
find_at-requires-clause-ready g c = c.loop-progress.invariant.ready

pub find_at-requires-clause-blocks : goal.find_at-requires-clause-blocks
find_at-requires-clause-blocks g c = λ b.
    let inv = c.loop-progress.invariant in
    subst (λ x. AreBlocks c.args.program.now x c.loop-progress.blocks) (sym (same_search b c.loop-progress.input c.args.input.now inv.same.content inv.asked)) (inv.blocks b)

pub find_at-requires-clause-inside : goal.find_at-requires-clause-inside
find_at-requires-clause-inside g c = λ b.
    let inv = c.loop-progress.invariant in
    subst (λ x. IsInside x c.loop-progress.input.position) (sym (same_search b c.loop-progress.input c.args.input.now inv.same.content inv.asked)) (inv.inside b)

pub find_at-requires-clause-from : goal.find_at-requires-clause-from
find_at-requires-clause-from g c = c.loop-progress.invariant.from

pub take-requires : goal.take-requires
take-requires g c =
    let at = c.position-at.ensures in
    record { bound = omega (arith, at.position, at.holds.before_end, at.holds.lawful.within, at.holds.lawful.bound) }

pub returns-then-not-go_on-clause-listed : goal.returns-then-not-go_on-clause-listed
returns-then-not-go_on-clause-listed g c =
    let p = c.args.program.now in
    let of = c.args.of.now in
    let u = of.utf8_empty in
    let input = c.loop-progress.input in
    let progress = c.loop-progress.progress in
    let after = c.take.new.self in
    let moved = c.find_at.new.input in
    let inv = c.loop-progress.invariant in
    let there = c.position-at.ensures.position in
    let s = search_of u c.args.input.now in
    let same = same_search u input c.args.input.now inv.same.content inv.asked in
    let same' = same_search u moved c.args.input.now (c.find_at.ensures.same.content ∙ inv.same.content) (c.find_at.ensures.asked ∙ inv.asked) in
    let len : length moved.cursor.content ≡ length input.cursor.content = ap (λ xs. length xs) c.find_at.ensures.same.content in
    let len' : length input.cursor.content ≡ length c.args.input.now.cursor.content = ap (λ xs. length xs) inv.same.content in
    let within : IfSome c.in_ok-end.end (λ e. e ≤ length moved.cursor.content) = some_end c.in_ok-found.found c.in_ok-end.end (λ e. e ≤ length moved.cursor.content) c.in_ok-end.ensures.end
    (some_so (λ (x : Ending). (input.position ≤ x.end) × ((b : Bool) → IsInside (search_of b input) x.end)) (λ (x : Ending). x.end ≤ length moved.cursor.content) c.in_ok-found.found
    (λ x in_it. let inside = in_it.1 u in omega (arith, inside.4, len)) c.in_ok-found.ensures.inside) in
    let taken = taken_at p s of.start of.slot_len (search_of u input) progress.from input.position c.position-at.result c.in_ok-found.found c.find_at.new.walk.stepper.slots c.slots.result.now progress.found.items after.found.items progress.after after.after after.from c.in_ok-end.end
    c.in_ok-end.ensures.taken same there c.slots.ensures c.in_ok-found.ensures.found inv.from inv.after inv.listed in
    let nothing : c.in_ok-end.end ≡ None = none_was c.in_ok-end.end c.go_on.result c.go_on.new.input.position (λ e. e ≤ length moved.cursor.content) c.go_on.ensures.end within c.if-not-go_on.true in
    let past : highest s < c.position-at.result + 1 = subst (λ x. highest x < c.position-at.result + 1) same' (c.go_on.ensures.last nothing c.if-not-go_on.true (let inside = inv.inside u in omega (arith, inside.4, len, len', there)) u) in
    ended_list p s of.start of.slot_len input.position after.found.items after.after after.from c.in_ok-end.end taken nothing (omega (arith, past, there))

pub returns-then-not-go_on-clause-counted : goal.returns-then-not-go_on-clause-counted
returns-then-not-go_on-clause-counted g c = λ b.
    let u = c.args.of.now.utf8_empty in
    let input = c.loop-progress.input in
    let moved = c.find_at.new.input in
    let inv = c.loop-progress.invariant in
    let there = c.position-at.ensures.position in
    let s = search_of b c.args.input.now in
    let len : length moved.cursor.content ≡ length input.cursor.content = ap (λ xs. length xs) c.find_at.ensures.same.content in
    let within : IfSome c.in_ok-end.end (λ e. e ≤ length moved.cursor.content) = some_end c.in_ok-found.found c.in_ok-end.end (λ e. e ≤ length moved.cursor.content) c.in_ok-end.ensures.end
    (some_so (λ (x : Ending). (input.position ≤ x.end) × ((b : Bool) → IsInside (search_of b input) x.end)) (λ (x : Ending). x.end ≤ length moved.cursor.content) c.in_ok-found.found
    (λ x in_it. let inside = in_it.1 u in omega (arith, inside.4, len)) c.in_ok-found.ensures.inside) in
    let nothing : c.in_ok-end.end ≡ None = none_was c.in_ok-end.end c.go_on.result c.go_on.new.input.position (λ e. e ≤ length moved.cursor.content) c.go_on.ensures.end within c.if-not-go_on.true in
    let before = read_before s input.position c.loop-progress.progress.after in
    let inside = inside_is s input.position (inv.inside b) in
    let all = read_all s (c.args.read.now + c.find_at.new.blocks.block.top) (c.args.read.now + c.find_at.new.blocks.block.top + before) (c.find_at.new.read + c.args.blocks.now.block.top) input.position c.loop-progress.progress.after c.in_ok-found.found
    (omega arith) (omega (arith, inv.counted b, c.in_ok-found.ensures.counted)) inside
    (some_so (λ (x : Ending). x.end ≡ c.position-at.result) (λ (x : Ending). x.end ≡ input.position) c.in_ok-found.found (λ x e. e ∙ there) (c.in_ok-end.ensures.passed nothing)) in
    let top = top_within c.args.program.now (search_of b input) c.find_at.new.blocks (c.in_ok-found.ensures.blocks b) in
    let top' : c.find_at.new.blocks.block.top ≤ highest s = subst (λ x. c.find_at.new.blocks.block.top ≤ highest x) (same_search b input c.args.input.now inv.same.content inv.asked) top in
    omega (arith, all, top', (c.requires.blocks b).above, inside.0, inside.1)

pub loop-progress-smaller : goal.loop-progress-smaller
loop-progress-smaller g c =
    let p = c.args.program.now in
    let of = c.args.of.now in
    let u = of.utf8_empty in
    let input = c.loop-progress.input in
    let progress = c.loop-progress.progress in
    let after = c.take.new.self in
    let moved = c.find_at.new.input in
    let inv = c.loop-progress.invariant in
    let there = c.position-at.ensures.position in
    let s = search_of u c.args.input.now in
    let same = same_search u input c.args.input.now inv.same.content inv.asked in
    let len : length moved.cursor.content ≡ length input.cursor.content = ap (λ xs. length xs) c.find_at.ensures.same.content in
    let len' : length input.cursor.content ≡ length c.args.input.now.cursor.content = ap (λ xs. length xs) inv.same.content in
    let inside = inv.inside u in
    let within : IfSome c.in_ok-end.end (λ e. e ≤ length moved.cursor.content) = some_end c.in_ok-found.found c.in_ok-end.end (λ e. e ≤ length moved.cursor.content) c.in_ok-end.ensures.end
    (some_so (λ (x : Ending). (input.position ≤ x.end) × ((b : Bool) → IsInside (search_of b input) x.end)) (λ (x : Ending). x.end ≤ length moved.cursor.content) c.in_ok-found.found
    (λ x in_it. let inside' = in_it.1 u in omega (arith, inside'.4, len)) c.in_ok-found.ensures.inside) in
    let on : IfSome c.in_ok-end.end (λ e. input.position ≤ e) = some_end c.in_ok-found.found c.in_ok-end.end (λ e. input.position ≤ e) c.in_ok-end.ensures.end
    (some_so (λ (x : Ending). (input.position ≤ x.end) × ((b : Bool) → IsInside (search_of b input) x.end)) (λ (x : Ending). input.position ≤ x.end) c.in_ok-found.found (λ x in_it. in_it.0) c.in_ok-found.ensures.inside) in
    let further : IfSome c.in_ok-end.end (λ e. progress.after ≡ true → e ≡ input.position → ⊥) =
    some_so (λ (e : ℕ). progress.after ≡ true → e ≡ c.position-at.result → ⊥) (λ (e : ℕ). progress.after ≡ true → e ≡ input.position → ⊥) c.in_ok-end.end (λ e not yes' at. not yes' (at ∙ sym there)) c.in_ok-end.ensures.further in
    let taken = taken_at p s of.start of.slot_len (search_of u input) progress.from input.position c.position-at.result c.in_ok-found.found c.find_at.new.walk.stepper.slots c.slots.result.now progress.found.items after.found.items progress.after after.after after.from c.in_ok-end.end
    c.in_ok-end.ensures.taken same there c.slots.ensures c.in_ok-found.ensures.found inv.from inv.after inv.listed in
    let at = some_is c.in_ok-end.end c.go_on.result c.go_on.new.input.position (λ e. e ≤ length moved.cursor.content) c.go_on.ensures.end within in
    let next : c.in_ok-end.end ≡ None → c.go_on.new.input.position ≡ input.position + 1 = λ nothing. c.go_on.ensures.next nothing c.if-not-go_on.false (omega (arith, inside.4, len, len', there)) ∙ ap (λ j. j + 1) there in
    went_less p s of.start of.slot_len c.args.input.now.cursor.content input.position c.go_on.new.input.position after.found.items progress.after after.after after.from c.in_ok-end.end taken at next on further inside.4

pub loop-progress-preserved : goal.loop-progress-preserved
loop-progress-preserved g c =
    let p = c.args.program.now in
    let of = c.args.of.now in
    let u = of.utf8_empty in
    let input = c.loop-progress.input in
    let progress = c.loop-progress.progress in
    let after = c.take.new.self in
    let moved = c.find_at.new.input in
    let inv = c.loop-progress.invariant in
    let there = c.position-at.ensures.position in
    let s = search_of u c.args.input.now in
    let same : (b : Bool) → search_of b input ≡ search_of b c.args.input.now = λ b. same_search b input c.args.input.now inv.same.content inv.asked in
    let same' : (b : Bool) → search_of b moved ≡ search_of b c.args.input.now = λ b. same_search b moved c.args.input.now (c.find_at.ensures.same.content ∙ inv.same.content) (c.find_at.ensures.asked ∙ inv.asked) in
    let len : length moved.cursor.content ≡ length input.cursor.content = ap (λ xs. length xs) c.find_at.ensures.same.content in
    let len' : length input.cursor.content ≡ length c.args.input.now.cursor.content = ap (λ xs. length xs) inv.same.content in
    let inside = inv.inside u in
    let ends : (b : Bool) → IfSome c.in_ok-end.end (λ e. IsInside (search_of b input) e) = λ b. some_end c.in_ok-found.found c.in_ok-end.end (λ e. IsInside (search_of b input) e) c.in_ok-end.ensures.end
    (some_so (λ (x : Ending). (input.position ≤ x.end) × ((b' : Bool) → IsInside (search_of b' input) x.end)) (λ (x : Ending). IsInside (search_of b input) x.end) c.in_ok-found.found (λ x in_it. in_it.1 b) c.in_ok-found.ensures.inside) in
    let within : IfSome c.in_ok-end.end (λ e. e ≤ length moved.cursor.content) = some_so (λ (e : ℕ). IsInside (search_of u input) e) (λ (e : ℕ). e ≤ length moved.cursor.content) c.in_ok-end.end (λ e in_it. omega (arith, in_it.4, len)) (ends u) in
    let taken = taken_at p s of.start of.slot_len (search_of u input) progress.from input.position c.position-at.result c.in_ok-found.found c.find_at.new.walk.stepper.slots c.slots.result.now progress.found.items after.found.items progress.after after.after after.from c.in_ok-end.end
    c.in_ok-end.ensures.taken (same u) there c.slots.ensures c.in_ok-found.ensures.found inv.from inv.after inv.listed in
    let at = some_is c.in_ok-end.end c.go_on.result c.go_on.new.input.position (λ e. e ≤ length moved.cursor.content) c.go_on.ensures.end within in
    let next : c.in_ok-end.end ≡ None → c.go_on.new.input.position ≡ input.position + 1 = λ nothing. c.go_on.ensures.next nothing c.if-not-go_on.false (omega (arith, inside.4, len, len', there)) ∙ ap (λ j. j + 1) there in
    let on : IfSome c.in_ok-end.end (λ e. input.position ≤ e) = some_end c.in_ok-found.found c.in_ok-end.end (λ e. input.position ≤ e) c.in_ok-end.ensures.end
    (some_so (λ (x : Ending). (input.position ≤ x.end) × ((b : Bool) → IsInside (search_of b input) x.end)) (λ (x : Ending). input.position ≤ x.end) c.in_ok-found.found (λ x in_it. in_it.0) c.in_ok-found.ensures.inside) in
    let further : IfSome c.in_ok-end.end (λ e. progress.after ≡ true → e ≡ input.position → ⊥) =
    some_so (λ (e : ℕ). progress.after ≡ true → e ≡ c.position-at.result → ⊥) (λ (e : ℕ). progress.after ≡ true → e ≡ input.position → ⊥) c.in_ok-end.end (λ e not yes' at. not yes' (at ∙ sym there)) c.in_ok-end.ensures.further in
    let passed : c.in_ok-end.end ≡ None → IfSome c.in_ok-found.found (λ x. x.end ≡ input.position) = λ nothing.
    some_so (λ (x : Ending). x.end ≡ c.position-at.result) (λ (x : Ending). x.end ≡ input.position) c.in_ok-found.found (λ x e. e ∙ there) (c.in_ok-end.ensures.passed nothing) in
    let went = went_on p s of.start of.slot_len input.position c.go_on.new.input.position after.found.items after.after after.from c.in_ok-end.end taken at next in
    record {
      ready = c.find_at.ensures.ready;
      blocks = λ b. subst (λ x. AreBlocks p x c.find_at.new.blocks) (same b) (c.in_ok-found.ensures.blocks b);
      reaches = reached_on p s of.start of.slot_len input.position c.go_on.new.input.position c.in_ok-found.found c.in_ok-end.end c.find_at.new.blocks.block c.in_ok-found.ensures.reaches at next c.in_ok-end.ensures.end passed;
      inside = λ b. inside_on (search_of b c.args.input.now) c.in_ok-end.end c.go_on.new.input.position at (subst (λ x. IfSome c.in_ok-end.end (λ e. IsInside x e)) (same b) (ends b))
          (λ nothing. subst (λ x. IsInside x c.go_on.new.input.position) (same' b)
          (c.go_on.ensures.inside nothing c.if-not-go_on.false b (subst (λ x. IsInside x c.position-at.result) (sym (same' b)) (subst (λ j. IsInside (search_of b c.args.input.now) j) (sym there) (inv.inside b)))));
      from = went.0;
      after = went.1;
      listed = went.2;
      counted = λ b. read_on p s of.start of.slot_len (search_of b c.args.input.now) (c.args.read.now + c.find_at.new.blocks.block.top) (c.args.read.now + c.find_at.new.blocks.block.top + read_before (search_of b c.args.input.now) input.position progress.after) (c.find_at.new.read + c.args.blocks.now.block.top) input.position c.go_on.new.input.position after.found.items progress.after after.after after.from c.in_ok-found.found c.in_ok-end.end
          taken (omega arith) (omega (arith, inv.counted b, c.in_ok-found.ensures.counted)) (inside_is (search_of b c.args.input.now) input.position (inv.inside b)).0 at next c.in_ok-end.ensures.end passed on further;
      same = record {
        content = c.go_on.ensures.same.same.content ∙ c.find_at.ensures.same.content ∙ inv.same.content;
        is_sized = c.go_on.ensures.same.same.is_sized ∙ c.find_at.ensures.same.is_sized ∙ inv.same.is_sized;
      };
      asked = c.go_on.ensures.same.asked_is ∙ c.find_at.ensures.asked ∙ inv.asked;
    }

pub returns-in_err-found-clause-counted : goal.returns-in_err-found-clause-counted
returns-in_err-found-clause-counted g c = λ b.
    let inv = c.loop-progress.invariant in
    let input = c.loop-progress.input in
    let s = search_of b c.args.input.now in
    let top = c.find_at.new.blocks.block.top in
    let before = read_before s input.position c.loop-progress.progress.after in
    let same = same_search b input c.args.input.now inv.same.content inv.asked in
    let inside = inside_is s input.position (inv.inside b) in
    let bound : c.find_at.new.read + c.loop-progress.blocks.block.top + input.position ≤ c.loop-progress.read + top + highest s + 2 = subst (λ x. c.find_at.new.read + c.loop-progress.blocks.block.top + input.position ≤ c.loop-progress.read + top + highest x + 2) same (c.find_at.ensures.bound b) in
    let last : top ≤ highest s = subst (λ x. top ≤ highest x) same (c.find_at.ensures.last b) in
    let all = read_refused s (c.args.read.now + top) (c.args.read.now + top + before) (c.find_at.new.read + c.args.blocks.now.block.top) input.position c.loop-progress.progress.after (omega arith) (omega (arith, inv.counted b, bound)) inside in
    omega (arith, all, last, (c.requires.blocks b).above, inside.0, inside.1)

pub returns-in_err-end-clause-counted : goal.returns-in_err-end-clause-counted
returns-in_err-end-clause-counted g c = λ b.
    let inv = c.loop-progress.invariant in
    let input = c.loop-progress.input in
    let s = search_of b c.args.input.now in
    let top = c.find_at.new.blocks.block.top in
    let before = read_before s input.position c.loop-progress.progress.after in
    let same = same_search b input c.args.input.now inv.same.content inv.asked in
    let inside = inside_is s input.position (inv.inside b) in
    let bound : c.find_at.new.read + c.loop-progress.blocks.block.top + input.position ≤ c.loop-progress.read + top + highest s + 2 = subst (λ x. c.find_at.new.read + c.loop-progress.blocks.block.top + input.position ≤ c.loop-progress.read + top + highest x + 2) same (c.find_at.ensures.bound b) in
    let last : top ≤ highest s = subst (λ x. top ≤ highest x) same (c.find_at.ensures.last b) in
    let all = read_refused s (c.args.read.now + top) (c.args.read.now + top + before) (c.find_at.new.read + c.args.blocks.now.block.top) input.position c.loop-progress.progress.after (omega arith) (omega (arith, inv.counted b, bound)) inside in
    omega (arith, all, last, (c.requires.blocks b).above, inside.0, inside.1)
