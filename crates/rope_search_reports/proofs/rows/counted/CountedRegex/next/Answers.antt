use Rattle.std.proofs.Common.{◌≡◌, ◌≤◌, ◌*◌, ℕ, List, false, length, ap, sym, subst, ◌∙◌, arith}
use Rattle.regex_cursor.specs.Linear.{IsListedFor}
use Rattle.regex_cursor.specs.Regexes.{IsRegexOf, RegexView}
use Rattle.regex_cursor.specs.NextMatches.{TreeFindsNext}
use Rattle.regex_cursor.proofs.TreeLaws.{one_of_trees}
use Rattle.rope_search_reports.specs.Finders.{FinderTells, PassState}
use Rattle.rope_search_reports.proofs.PassLemmas.{came-of, came-told, ends-then, goes-on, on-of, step-behind, step-of}
use Rattle.rope_search_reports.proofs.rows.counted.CountedRegex.next.Goals as goal

-- the search was begun by this regex
pub next_slots-requires-clause-alike : goal.next_slots-requires-clause-alike
next_slots-requires-clause-alike g c =
    let same = ap (λ p. p.by) c.pass.view_is ∙ c.requires.by ∙ sym c.self.view_is in
    subst (λ (re : RegexView). IsListedFor re.engine c.pass.inside.matches) same c.pass.invariant.0

pub next_slots-requires-clause-slots : goal.next_slots-requires-clause-slots
next_slots-requires-clause-slots g c =
    let built = c.self.invariant.0 in
    let one = one_of_trees built.0 c.self.inside.regex built.1 in
    subst (λ k. 2 * k ≤ length c.args.slots.now) (sym one) c.requires.slots

pub invariant_of-pass : goal.invariant_of-pass
invariant_of-pass g c =
    let same = ap (λ p. p.by) c.pass.view_is ∙ c.requires.by ∙ sym c.self.view_is in
    let alike = subst (λ (re : RegexView). IsListedFor re.engine c.next_slots.new.self) (sym same) c.next_slots.ensures.alike in
    let told = c.next_slots.ensures in
    let step = step-of c.self.inside.regex c.pass.inside.matches c.next_slots.new.self c.next_slots.result c.in-Ok-Some.field-0 c.next_slots.new.slots c.in-Ok-Some.is told.next told.over told.stays_over in
    let two : 2 ≤ length c.next_slots.new.slots = omega (arith, c.requires.slots, c.next_slots.auto.slots) in
    let built = c.self.invariant.0 in (
      alike,
      λ on.
          step-behind built.0 c.self.inside.regex built.1 c.pass.inside.matches c.next_slots.new.self c.in-Ok-Some.field-0 c.next_slots.new.slots told.same.0 step c.pass.invariant.1 two told.same.1.same.content told.same.1.asked on,
    )

pub returns-in-Ok-Some-clause-found : goal.returns-in-Ok-Some-clause-found
returns-in-Ok-Some-clause-found g c =
    let m = c.pass.inside.matches in
    let slots = c.next_slots.new.slots in
    let told = c.next_slots.ensures in
    let step = step-of c.self.inside.regex m c.next_slots.new.self c.next_slots.result c.in-Ok-Some.field-0 slots c.in-Ok-Some.is told.next told.over told.stays_over in
    let two : 2 ≤ length slots = omega (arith, c.requires.slots, c.next_slots.auto.slots) in
    let begun : PassState = record { content = m.input.cursor.content; last = m.last_end; is_over = m.is_over; by = c.pass.inside.by.value } in
    let Told : RegexView → PassState → Type 0 = λ re p. p.is_over ≡ false → (text : List ℕ) → (built : IsRegexOf text re) → FinderTells (TreeFindsNext built.tree p.content p.last) c.group_in.result slots in
    subst (Told c.args.self.now) c.pass.view_is
    (subst (λ re. Told re begun) c.self.view_is
    (λ on text built.
    let asks = (c.pass.invariant.1 on).0 in
    let came = came-of text c.self.inside.regex built m.input.cursor.content m c.next_slots.new.self c.in-Ok-Some.field-0 slots step on asks two in
    subst (λ span. FinderTells (TreeFindsNext built.tree m.input.cursor.content m.last_end) span slots) (sym c.group_in.ensures) (came-told built.tree m.input.cursor.content m c.next_slots.new.self c.in-Ok-Some.field-0 slots came)))

pub returns-in-Ok-Some-clause-goes_on : goal.returns-in-Ok-Some-clause-goes_on
returns-in-Ok-Some-clause-goes_on g c =
    let m = c.pass.inside.matches in
    let n = c.next_slots.new.self in
    let slots = c.next_slots.new.slots in
    let told = c.next_slots.ensures in
    let step = step-of c.self.inside.regex m n c.next_slots.result c.in-Ok-Some.field-0 slots c.in-Ok-Some.is told.next told.over told.stays_over in
    let two : 2 ≤ length slots = omega (arith, c.requires.slots, c.next_slots.auto.slots) in
    let built = c.self.invariant.0 in
    let on = on-of c.self.inside.regex m n c.in-Ok-Some.field-0 c.in-Ok-Some.field-0-0 slots step c.in-Ok-Some.field-0-is in
    let came = came-of built.0 c.self.inside.regex built.1 m.input.cursor.content m n c.in-Ok-Some.field-0 slots step on (c.pass.invariant.1 on).0 two in
    goes-on built.1.tree m n c.in-Ok-Some.field-0 slots c.group_in.result c.pass.inside.by.value c.args.pass.now came c.group_in.ensures told.same.1.same.content c.pass.view_is

pub returns-in-Ok-Some-clause-ends : goal.returns-in-Ok-Some-clause-ends
returns-in-Ok-Some-clause-ends g c =
    let m = c.pass.inside.matches in
    let n = c.next_slots.new.self in
    let slots = c.next_slots.new.slots in
    let told = c.next_slots.ensures in
    let step = step-of c.self.inside.regex m n c.next_slots.result c.in-Ok-Some.field-0 slots c.in-Ok-Some.is told.next told.over told.stays_over in
    let two : 2 ≤ length slots = omega (arith, c.requires.slots, c.next_slots.auto.slots) in
    let built = c.self.invariant.0 in
    let on = on-of c.self.inside.regex m n c.in-Ok-Some.field-0 c.in-Ok-Some.field-0-0 slots step c.in-Ok-Some.field-0-is in
    let came = came-of built.0 c.self.inside.regex built.1 m.input.cursor.content m n c.in-Ok-Some.field-0 slots step on (c.pass.invariant.1 on).0 two in
    ends-then built.1.tree m n c.in-Ok-Some.field-0 slots c.group_in.result came c.group_in.ensures
