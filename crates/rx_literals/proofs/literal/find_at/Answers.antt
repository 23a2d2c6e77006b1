use Rattle.std.proofs.Common.{◌≡◌, ◌+◌, ◌<◌, ◌^◌, ℕ, Vec, Global, [], length, true, sym, ap, subst, ◌∙◌, arith}
use Rattle.memchr.specs.Find.{OccursAt}
use Rattle.rx_literals.specs.Needles.{bytes_to_end}
use Rattle.rx_literals.proofs.NeedleLaws.{found_this, carried_on, has_some, found_none}
use Rattle.rx_literals.proofs.InputLaws.{same_bytes}
use Rattle.rx_literals.proofs.literal.find_at.Goals as goal

pub occurs_at-requires : goal.occurs_at-requires
occurs_at-requires g c =
    has_some (λ (needle : Vec ℕ Global). needle.items) [] 0 c.needles-needle-items.result.now c.loop-needle.needle-index c.needle-item.result c.deref.result.now
    c.loop-needle-test.true c.needle-item.is c.deref.ensures.value c.args.prefilter.now c.needles-needle-items.ensures.needles c.needles-needle-items.ensures.are.each

pub overflow_add-result : goal.overflow_add-result
overflow_add-result g c =
    let long : c.len.result ≡ length c.deref.result.now = omega (arith, c.len.ensures, c.needle-item.result.ok.0, ap length c.deref.ensures.value) in
    let fits : c.args.at + length c.deref.result.now < 2 ^ 64 = c.occurs_at.ensures.fits c.if-occurs_at.true in
    omega (arith, fits, long)

pub returns-then-occurs_at-clause-found : goal.returns-then-occurs_at-clause-found
returns-then-occurs_at-clause-found g c =
    let same = same_bytes c.args.input.now c.loop-needle.input c.loop-needle.invariant.same c.loop-needle.invariant.asked in
    let occurs = subst (λ bytes. OccursAt bytes c.deref.result.now c.args.at) (sym same) (c.occurs_at.ensures.occurs.0 c.if-occurs_at.true) in
    found_this (λ (needle : Vec ℕ Global). needle.items) (bytes_to_end c.args.input.now) c.args.at c.needles-needle-items.result.now c.loop-needle.needle-index c.needle-item.result c.deref.result.now
    c.loop-needle-test.true c.needle-item.is c.deref.ensures.value c.args.prefilter.now c.len.result (sym c.needles-needle-items.ensures.needles)
    (omega (arith, c.len.ensures, c.needle-item.result.ok.0, ap length c.deref.ensures.value)) occurs c.loop-needle.invariant.carries

pub loop-needle-preserved : goal.loop-needle-preserved
loop-needle-preserved g c =
    let same = same_bytes c.args.input.now c.loop-needle.input c.loop-needle.invariant.same c.loop-needle.invariant.asked in
    record {
      same = record {
        content = c.occurs_at.ensures.same.content ∙ c.loop-needle.invariant.same.content;
        is_sized = c.occurs_at.ensures.same.is_sized ∙ c.loop-needle.invariant.same.is_sized;
      };
      asked = c.occurs_at.ensures.asked ∙ c.loop-needle.invariant.asked;
      carries = carried_on (λ (needle : Vec ℕ Global). needle.items) (bytes_to_end c.args.input.now) c.args.at c.needles-needle-items.result.now c.loop-needle.needle-index c.needle-item.result c.deref.result.now
          c.loop-needle-test.true c.needle-item.is c.deref.ensures.value
          (λ occurs.
          let yes : c.occurs_at.result ≡ true = c.occurs_at.ensures.occurs.1 (subst (λ bytes. OccursAt bytes c.deref.result.now c.args.at) same occurs) in
          absurd (cc (yes, c.if-occurs_at.false)))
          c.loop-needle.invariant.carries;
    }

pub returns-clause-found : goal.returns-clause-found
returns-clause-found g c =
    found_none (λ (needle : Vec ℕ Global). needle.items) (bytes_to_end c.args.input.now) c.args.at c.needles-needle-items.result.now c.loop-needle.needle-index c.args.prefilter.now
    (sym c.needles-needle-items.ensures.needles) c.loop-needle-test.false c.loop-needle.invariant.carries
