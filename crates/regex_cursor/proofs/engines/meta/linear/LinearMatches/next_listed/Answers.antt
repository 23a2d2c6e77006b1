use Rattle.std.proofs.Common.{◌≡◌, false, Some, IfSome, sym, ap, subst, ◌∙◌, arith}
use Rattle.rx_chunk.specs.Engines.{EngineFinds}
use Rattle.rx_chunk.specs.Iterating.{StartsFrom}
use Rattle.regex_cursor.specs.Linear.{GivesSlots, IsRestOf, LinearState, left_of}
use Rattle.regex_cursor.proofs.LinearLaws.{gives_slots, left_by, rest_as, rest_moved, so, taken_ends, tells_taken}
use Rattle.regex_cursor.proofs.engines.meta.linear.LinearMatches.next_listed.Goals as goal

pub go_on-pattern-requires-clause-within : goal.go_on-pattern-requires-clause-within
go_on-pattern-requires-clause-within g c =
    let inside = c.self.inside in
    let m : LinearState = record { input = inside.input; last_end = inside.last_end; is_over = inside.is_over; first = inside.first; finds_read = inside.finds_read; rest = inside.rest } in
    let is : IsRestOf m c.args.rest = subst (λ (x : LinearState). IsRestOf x c.args.rest) (sym c.self.view_is) c.requires.rest in
    so _ _ c.take-half.result (λ half some. (taken_ends m c.args.rest c.take-half.new.self c.args.slots.now c.take-half.new.slots half is some).in_span) c.take-half.ensures.some

pub go_on-pattern-requires-clause-behind : goal.go_on-pattern-requires-clause-behind
go_on-pattern-requires-clause-behind g c =
    let inside = c.self.inside in
    let m : LinearState = record { input = inside.input; last_end = inside.last_end; is_over = inside.is_over; first = inside.first; finds_read = inside.finds_read; rest = inside.rest } in
    let is : IsRestOf m c.args.rest = subst (λ (x : LinearState). IsRestOf x c.args.rest) (sym c.self.view_is) c.requires.rest in
    let further = c.self.invariant.0.further (ap (λ (x : LinearState). x.is_over) c.self.view_is ∙ c.requires.on) in
    so _ _ c.take-half.result (λ half some.
    let ends = taken_ends m c.args.rest c.take-half.new.self c.args.slots.now c.take-half.new.slots half is some in
    omega (arith, ends.on, further)) c.take-half.ensures.some

pub invariant_of-self-2 : goal.invariant_of-self-2
invariant_of-self-2 g c =
    let inside = c.self.inside in
    let later = c.self-2.inside in
    let m : LinearState = record { input = inside.input; last_end = inside.last_end; is_over = inside.is_over; first = inside.first; finds_read = inside.finds_read; rest = inside.rest } in
    let n : LinearState = record { input = later.input; last_end = later.last_end; is_over = later.is_over; first = later.first; finds_read = later.finds_read; rest = Some c.take-half.new.self } in
    let is : IsRestOf m c.args.rest = subst (λ (x : LinearState). IsRestOf x c.args.rest) (sym c.self.view_is) c.requires.rest in
    let half = c.take-half.result in
    let starts = subst (λ (x : LinearState). IfSome half (λ h. StartsFrom inside.input x.input h.offset)) (sym c.self-2.view_is) c.go_on-pattern.ensures.input in
    let last = subst (λ (x : LinearState). IfSome half (λ h. x.last_end ≡ Some h.offset)) (sym c.self-2.view_is) c.go_on-pattern.ensures.last_end in
    let old = c.self-2.invariant.0 in (
      record {
        few = old.few;
        further = old.further;
        starts = old.starts;
        fresh = old.fresh;
        rest = rest_moved m n c.args.rest c.take-half.new.self c.args.slots.now c.take-half.new.slots half is c.take-half.ensures.none c.take-half.ensures.some c.take-half.ensures.engine c.take-half.ensures.slot_len starts last
            c.take-half.ensures.same (λ none. let same = c.self-2.view_is ∙ c.go_on-pattern.ensures.none none in rest_as m n c.args.rest (ap (λ (x : LinearState). x.input) same) (ap (λ (x : LinearState). x.last_end) same) is);
      },
      c.self-2.invariant.1,
    )

pub returns-clause-next : goal.returns-clause-next
returns-clause-next g c =
    let inside = c.self.inside in
    let later = c.self-2.inside in
    let e = c.args.rest.engine in
    let m : LinearState = record { input = inside.input; last_end = inside.last_end; is_over = inside.is_over; first = inside.first; finds_read = inside.finds_read; rest = inside.rest } in
    let n : LinearState = record { input = later.input; last_end = later.last_end; is_over = later.is_over; first = later.first; finds_read = later.finds_read; rest = Some c.take-half.new.self } in
    let is : IsRestOf m c.args.rest = subst (λ (x : LinearState). IsRestOf x c.args.rest) (sym c.self.view_is) c.requires.rest in
    let half = c.take-half.result in
    let starts = subst (λ (x : LinearState). IfSome half (λ h. StartsFrom inside.input x.input h.offset)) (sym c.self-2.view_is) c.go_on-pattern.ensures.input in
    let last = subst (λ (x : LinearState). IfSome half (λ h. x.last_end ≡ Some h.offset)) (sym c.self-2.view_is) c.go_on-pattern.ensures.last_end in
    let on = subst (λ (x : LinearState). IfSome half (λ h. x.is_over ≡ false)) (sym c.self-2.view_is) c.go_on-pattern.ensures.on in
    let tells = tells_taken m c.args.rest c.take-half.new.self c.args.slots.now c.take-half.new.slots half is c.requires.few c.requires.clear c.take-half.ensures.none c.take-half.ensures.some in
    subst (λ (x : LinearState). GivesSlots (EngineFinds e) (left_of e x) c.go_on-pattern.result c.take-half.new.slots (left_of e n)) c.self.view_is
    (gives_slots (EngineFinds e) (left_of e m) (left_of e n) half c.go_on-pattern.result c.take-half.new.slots tells c.go_on-pattern.ensures.pattern
    (λ none. ap (λ (x : LinearState). x.is_over) (c.self-2.view_is ∙ c.go_on-pattern.ensures.none none)) (left_by e m n half starts last on))
