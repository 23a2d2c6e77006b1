use Rattle.std.proofs.Common.{◌≡◌, [], get_or, sym, subst, ◌∙◌}
use Rattle.std.specs.Cmp.Lexicographic.{same_text}
use Rattle.rx_utf8.specs.Subsets.{lists_of}
use Rattle.rx_utf8.proofs.ListLaws.{known_at}
use Rattle.rx_utf8.proofs.subsets.Subsets.stands_for.Goals as goal

pub returns-then-from-clause-set : goal.returns-then-from-clause-set
returns-then-from-clause-set c = λ same.
    subst (λ t. get_or (lists_of c.args.self.now.sets.items) t [] ≡ c.args.set.now) c.from.ensures
    (known_at c.args.self.now.sets.items c.deref.result.now c.from.result c.in-Some.known.now c.as_slice.result.now
    c.deref.ensures.value c.in-Some.ensures.lookup.3.0 c.in-Some.ensures.lookup.1 c.as_slice.ensures.value
    ∙ same_text c.as_slice.result.now c.args.set.now (sym same ∙ c.eq.ensures))
