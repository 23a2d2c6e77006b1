use Rattle.std.proofs.Common.{◌<◌, ◌∷◌, [], ◌++◌, Contains, true≢false, sym, ap, ◌∙◌, subst, arith}
use Rattle.rx_util.proofs.SparseSetLemmas.{has_room, IsIndexed-insert, members-insert}
use Rattle.rx_util.proofs.sparse_set.SparseSet.insert.Goals as goal

pub index_mut-requires : goal.index_mut-requires
index_mut-requires c =
    omega (
      arith,
      c.self.inside.dense.ok.0,
      has_room c.self.invariant (subst (λ v. c.args.id < v.capacity) (sym c.self.view_is) c.requires.in_range)
          (λ has. true≢false (sym (c.if-contains.ensures.1 (subst (λ v. Contains v.members c.args.id) c.self.view_is has)))),
    )

pub invariant_of-self : goal.invariant_of-self
invariant_of-self c =
    rw c.as_usize.ensures (IsIndexed-insert c.self.invariant (subst (λ v. c.args.id < v.capacity) (sym c.self.view_is) c.requires.in_range)
    (λ has. true≢false (sym (c.if-contains.ensures.1 (subst (λ v. Contains v.members c.args.id) c.self.view_is has)))))

pub returns-clause-members : goal.returns-clause-members
returns-clause-members c =
    members-insert c.self.invariant (subst (λ v. c.args.id < v.capacity) (sym c.self.view_is) c.requires.in_range)
    (λ has. true≢false (sym (c.if-contains.ensures.1 (subst (λ v. Contains v.members c.args.id) c.self.view_is has))))
    ∙ ap (λ v. v.members ++ c.args.id ∷ []) c.self.view_is
