use Rattle.std.proofs.Common.{◌≡◌, ◌+◌, ◌-◌, ◌<◌, ◌≤◌, ◌^◌, [], length, refl, sym, ap, subst, ◌∙◌, arith}
use Rattle.rx_grammar.specs.Subtrees.{subtrees_of, root_of, a_group, a_concat, an_alternation, a_repetition, an_empty, a_look, a_set}
use Rattle.rx_grammar.specs.Postorder.{tree_of}
use Rattle.rx_grammar.specs.Weights.{size_of}
use Rattle.rx_grammar.specs.Nodes.{kind_of}
use Rattle.rx_walks.specs.Programs as programs
use Rattle.rx_program.specs.declared.states.State.TheVariants as state
use Rattle.rx_program.specs.declared.compiler.Job.TheVariants as job
use Rattle.rx_program.specs.Jobs.{part_at, sizes_of, trees_before, DoesJob}
use Rattle.rx_program.proofs.PartLaws.{each_stands}
use Rattle.rx_program.proofs.FactLaws.{known_any, node_at}
use Rattle.rx_program.proofs.NodeLaws.{group_kind, group_some, concat_some, alternation_row, repetition_child, empty_done, look_done, set_done, group_done, concat_done, alternation_done}
use Rattle.rx_program.proofs.compiler.Compiler.part.Goals as goal

pub overflow_sub-root : goal.overflow_sub-root
overflow_sub-root c =
    let parts = subtrees_of (tree_of c.args.hir.now) in
    let stands = each_stands (tree_of c.args.hir.now) c.args.root c.requires.root in
    let node = node_at parts c.nodes.result.now c.args.root c.index-nodes-root.result (c.nodes.ensures.nodes ∙ c.nodes.ensures.exact) c.requires.root c.index-nodes-root.is in
    let name = group_kind c.in-Group.number c.in-Group.field-1 in
    let kind : root_of (part_at parts c.args.root) ≡ a_group c.in-Group.number name.0 = sym node ∙ ap kind_of c.in-Group.is ∙ name.1 in
    (group_some parts c.args.root stands c.in-Group.number name.0 kind).0

pub overflow_sub-at : goal.overflow_sub-at
overflow_sub-at c =
    let parts = subtrees_of (tree_of c.args.hir.now) in
    let stands = each_stands (tree_of c.args.hir.now) c.args.root c.requires.root in
    let node = node_at parts c.nodes.result.now c.args.root c.index-nodes-root.result (c.nodes.ensures.nodes ∙ c.nodes.ensures.exact) c.requires.root c.index-nodes-root.is in
    let name = group_kind c.in-Group.number c.in-Group.field-1 in
    let kind : root_of (part_at parts c.args.root) ≡ a_group c.in-Group.number name.0 = sym node ∙ ap kind_of c.in-Group.is ∙ name.1 in
    let small : size_of (part_at parts c.args.root) + 1 < 2 ^ 64 = omega (arith, c.requires.room) in
    let some = (group_some parts c.args.root stands c.in-Group.number name.0 kind).1 in
    subst (λ n. 1 ≤ c.len-at.result + n) (sym ((known_any parts c.properties.result.now c.args.root _ c.properties.ensures c.requires.root).size small)) (omega (arith, some))

pub returns-in_ok-push-in-Empty-clause-done : goal.returns-in_ok-push-in-Empty-clause-done
returns-in_ok-push-in-Empty-clause-done c =
    let parts = subtrees_of (tree_of c.args.hir.now) in
    let stands = each_stands (tree_of c.args.hir.now) c.args.root c.requires.root in
    let node = node_at parts c.nodes.result.now c.args.root c.index-nodes-root.result (c.nodes.ensures.nodes ∙ c.nodes.ensures.exact) c.requires.root c.index-nodes-root.is in
    let kind : root_of (part_at parts c.args.root) ≡ an_empty = sym node ∙ ap kind_of c.in-Empty.is in
    empty_done parts c.args.root stands c.args.self.now.states.items c.push.new.self.items c.args.self.now.jobs.items [] [] c.args.next c.new-on.result c.new-on.ensures kind c.in_ok-push-in-Empty.ensures.items

pub returns-in_ok-push-in-Look-clause-done : goal.returns-in_ok-push-in-Look-clause-done
returns-in_ok-push-in-Look-clause-done c =
    let parts = subtrees_of (tree_of c.args.hir.now) in
    let stands = each_stands (tree_of c.args.hir.now) c.args.root c.requires.root in
    let node = node_at parts c.nodes.result.now c.args.root c.index-nodes-root.result (c.nodes.ensures.nodes ∙ c.nodes.ensures.exact) c.requires.root c.index-nodes-root.is in
    let kind : root_of (part_at parts c.args.root) ≡ a_look c.in-Look.look = sym node ∙ ap kind_of c.in-Look.is in
    look_done parts c.args.root stands c.args.self.now.states.items c.push-in-Look.new.self.items c.args.self.now.jobs.items [] [] c.args.next c.new-on.result c.new-on.ensures c.in-Look.look kind c.in_ok-push-in-Look.ensures.items

pub returns-in_ok-push-in-Set-clause-done : goal.returns-in_ok-push-in-Set-clause-done
returns-in_ok-push-in-Set-clause-done c =
    let parts = subtrees_of (tree_of c.args.hir.now) in
    let stands = each_stands (tree_of c.args.hir.now) c.args.root c.requires.root in
    let node = node_at parts c.nodes.result.now c.args.root c.index-nodes-root.result (c.nodes.ensures.nodes ∙ c.nodes.ensures.exact) c.requires.root c.index-nodes-root.is in
    let kind : root_of (part_at parts c.args.root) ≡ a_set c.in-Set.set.value = sym node ∙ ap kind_of c.in-Set.is in
    set_done parts c.args.root stands c.args.self.now.states.items c.push-in-Set.new.self.items c.args.self.now.jobs.items [] [] c.args.next c.new-on.result c.new-on.ensures c.in-Set.set.value
    (state.Ranges c.in_ok-automaton-in-Set.automaton c.new-on.result) kind (ap (λ x. programs.set x c.new-on.result) c.in_ok-automaton-in-Set.ensures.ranges) c.in_ok-automaton-in-Set.ensures.reader c.in_ok-push-in-Set.ensures.items

pub returns-in_ok-push-in-Group-3-clause-done : goal.returns-in_ok-push-in-Group-3-clause-done
returns-in_ok-push-in-Group-3-clause-done c =
    let parts = subtrees_of (tree_of c.args.hir.now) in
    let stands = each_stands (tree_of c.args.hir.now) c.args.root c.requires.root in
    let node = node_at parts c.nodes.result.now c.args.root c.index-nodes-root.result (c.nodes.ensures.nodes ∙ c.nodes.ensures.exact) c.requires.root c.index-nodes-root.is in
    let name = group_kind c.in-Group.number c.in-Group.field-1 in
    let kind : root_of (part_at parts c.args.root) ≡ a_group c.in-Group.number name.0 = sym node ∙ ap kind_of c.in-Group.is ∙ name.1 in
    let small : size_of (part_at parts c.args.root) + 1 < 2 ^ 64 = omega (arith, c.requires.room) in
    let states = c.args.self.now.states in
    let len : c.len-at.result ≡ length states.items = omega (arith, c.len-at.ensures, states.ok.0) in
    let some = group_some parts c.args.root stands c.in-Group.number name.0 kind in
    group_done parts c.args.root stands states.items c.push-in-Group.new.self.items c.args.self.now.jobs.items c.push-in-Group-2.new.self.items c.push-in-Group-3.new.self.items c.args.next c.new-on.result c.new-on.ensures
    c.in-Group.number _ _ c.new.result _ name.0 kind refl refl (c.new.ensures ∙ ap (λ n. n + 1) len)
    (subst (λ n. c.len-at.result + n - 1 + 1 ≡ length states.items + size_of (part_at parts c.args.root)) (sym ((known_any parts c.properties.result.now c.args.root _ c.properties.ensures c.requires.root).size small)) (omega (arith, len, some.1)))
    c.in_ok-push-in-Group.ensures.items c.in_ok-push-in-Group-2.ensures.items c.in_ok-push-in-Group-3.ensures.items

pub overflow_sub-root-in-Concat : goal.overflow_sub-root-in-Concat
overflow_sub-root-in-Concat c =
    let parts = subtrees_of (tree_of c.args.hir.now) in
    let stands = each_stands (tree_of c.args.hir.now) c.args.root c.requires.root in
    let node = node_at parts c.nodes.result.now c.args.root c.index-nodes-root.result (c.nodes.ensures.nodes ∙ c.nodes.ensures.exact) c.requires.root c.index-nodes-root.is in
    let kind : root_of (part_at parts c.args.root) ≡ a_concat c.in-Concat.count = sym node ∙ ap kind_of c.in-Concat.is in
    concat_some parts c.args.root stands c.in-Concat.count kind

pub returns-in_ok-push-in-Concat-clause-done : goal.returns-in_ok-push-in-Concat-clause-done
returns-in_ok-push-in-Concat-clause-done c =
    let parts = subtrees_of (tree_of c.args.hir.now) in
    let stands = each_stands (tree_of c.args.hir.now) c.args.root c.requires.root in
    let node = node_at parts c.nodes.result.now c.args.root c.index-nodes-root.result (c.nodes.ensures.nodes ∙ c.nodes.ensures.exact) c.requires.root c.index-nodes-root.is in
    let kind : root_of (part_at parts c.args.root) ≡ a_concat c.in-Concat.count = sym node ∙ ap kind_of c.in-Concat.is in
    let small : size_of (part_at parts c.args.root) + 1 < 2 ^ 64 = omega (arith, c.requires.room) in
    concat_done parts c.args.root stands c.args.self.now.states.items c.args.self.now.states.items c.args.self.now.jobs.items c.push-in-Concat.new.self.items [] c.args.next c.new-on.result c.new-on.ensures
    c.in-Concat.count _ kind ((known_any parts c.properties.result.now c.args.root _ c.properties.ensures c.requires.root).size small) c.in_ok-push-in-Concat.ensures.items

pub overflow_sub-root-in-Alternation : goal.overflow_sub-root-in-Alternation
overflow_sub-root-in-Alternation c =
    let parts = subtrees_of (tree_of c.args.hir.now) in
    let stands = each_stands (tree_of c.args.hir.now) c.args.root c.requires.root in
    let node = node_at parts c.nodes.result.now c.args.root c.index-nodes-root.result (c.nodes.ensures.nodes ∙ c.nodes.ensures.exact) c.requires.root c.index-nodes-root.is in
    let kind : root_of (part_at parts c.args.root) ≡ an_alternation c.in-Alternation.count = sym node ∙ ap kind_of c.in-Alternation.is in
    (alternation_row parts c.args.root stands c.in-Alternation.count kind).0

pub overflow_sub-root-in-Alternation-2 : goal.overflow_sub-root-in-Alternation-2
overflow_sub-root-in-Alternation-2 c =
    let parts = subtrees_of (tree_of c.args.hir.now) in
    let stands = each_stands (tree_of c.args.hir.now) c.args.root c.requires.root in
    let node = node_at parts c.nodes.result.now c.args.root c.index-nodes-root.result (c.nodes.ensures.nodes ∙ c.nodes.ensures.exact) c.requires.root c.index-nodes-root.is in
    let kind : root_of (part_at parts c.args.root) ≡ an_alternation c.in-Alternation.count = sym node ∙ ap kind_of c.in-Alternation.is in
    (alternation_row parts c.args.root stands c.in-Alternation.count kind).0

pub branch_starts-requires-clause-row : goal.branch_starts-requires-clause-row
branch_starts-requires-clause-row c =
    let parts = subtrees_of (tree_of c.args.hir.now) in
    let stands = each_stands (tree_of c.args.hir.now) c.args.root c.requires.root in
    let node = node_at parts c.nodes.result.now c.args.root c.index-nodes-root.result (c.nodes.ensures.nodes ∙ c.nodes.ensures.exact) c.requires.root c.index-nodes-root.is in
    let kind : root_of (part_at parts c.args.root) ≡ an_alternation c.in-Alternation.count = sym node ∙ ap kind_of c.in-Alternation.is in
    (alternation_row parts c.args.root stands c.in-Alternation.count kind).1

pub branch_starts-requires-clause-room : goal.branch_starts-requires-clause-room
branch_starts-requires-clause-room c =
    let parts = subtrees_of (tree_of c.args.hir.now) in
    let stands = each_stands (tree_of c.args.hir.now) c.args.root c.requires.root in
    let node = node_at parts c.nodes.result.now c.args.root c.index-nodes-root.result (c.nodes.ensures.nodes ∙ c.nodes.ensures.exact) c.requires.root c.index-nodes-root.is in
    let kind : root_of (part_at parts c.args.root) ≡ an_alternation c.in-Alternation.count = sym node ∙ ap kind_of c.in-Alternation.is in
    let small : size_of (part_at parts c.args.root) + 1 < 2 ^ 64 = omega (arith, c.requires.room) in
    let sum = (alternation_row parts c.args.root stands c.in-Alternation.count kind).2 in
    subst (λ n. sizes_of (trees_before parts c.in-Alternation.count (c.args.root - 1)) < c.len-at.result + n) (sym ((known_any parts c.properties.result.now c.args.root _ c.properties.ensures c.requires.root).size small)) (omega (arith, sum))

pub returns-in_ok-push-in-Alternation-2-clause-done : goal.returns-in_ok-push-in-Alternation-2-clause-done
returns-in_ok-push-in-Alternation-2-clause-done c =
    let parts = subtrees_of (tree_of c.args.hir.now) in
    let stands = each_stands (tree_of c.args.hir.now) c.args.root c.requires.root in
    let node = node_at parts c.nodes.result.now c.args.root c.index-nodes-root.result (c.nodes.ensures.nodes ∙ c.nodes.ensures.exact) c.requires.root c.index-nodes-root.is in
    let kind : root_of (part_at parts c.args.root) ≡ an_alternation c.in-Alternation.count = sym node ∙ ap kind_of c.in-Alternation.is in
    let small : size_of (part_at parts c.args.root) + 1 < 2 ^ 64 = omega (arith, c.requires.room) in
    let states = c.args.self.now.states in
    let len : c.len-at.result ≡ length states.items = omega (arith, c.len-at.ensures, states.ok.0) in
    let trees = trees_before parts c.in-Alternation.count (c.args.root - 1) in
    let sum = (alternation_row parts c.args.root stands c.in-Alternation.count kind).2 in
    alternation_done parts c.args.root stands states.items c.push-in-Alternation.new.self.items c.args.self.now.jobs.items c.push-in-Alternation-2.new.self.items [] c.args.next c.new-on.result c.new-on.ensures
    c.in-Alternation.count _ (state.Union c.in_ok-starts-in-Alternation.starts) c.in_ok-starts-in-Alternation.starts.items kind refl tt c.in_ok-starts-in-Alternation.ensures
    (subst (λ n. c.len-at.result + n - sizes_of trees ≡ length states.items + 1) (sym ((known_any parts c.properties.result.now c.args.root _ c.properties.ensures c.requires.root).size small)) (omega (arith, len, sum)))
    c.in_ok-push-in-Alternation.ensures.items c.in_ok-push-in-Alternation-2.ensures.items

pub overflow_sub-root-in-Repeat : goal.overflow_sub-root-in-Repeat
overflow_sub-root-in-Repeat c =
    let parts = subtrees_of (tree_of c.args.hir.now) in
    let stands = each_stands (tree_of c.args.hir.now) c.args.root c.requires.root in
    let node = node_at parts c.nodes.result.now c.args.root c.index-nodes-root.result (c.nodes.ensures.nodes ∙ c.nodes.ensures.exact) c.requires.root c.index-nodes-root.is in
    let kind : root_of (part_at parts c.args.root) ≡ a_repetition c.in-Repeat.repetition = sym node ∙ ap kind_of c.in-Repeat.is in
    (repetition_child parts c.args.root stands c.in-Repeat.repetition kind).0

pub repetition-requires-clause-is : goal.repetition-requires-clause-is
repetition-requires-clause-is c =
    let parts = subtrees_of (tree_of c.args.hir.now) in
    let stands = each_stands (tree_of c.args.hir.now) c.args.root c.requires.root in
    let node = node_at parts c.nodes.result.now c.args.root c.index-nodes-root.result (c.nodes.ensures.nodes ∙ c.nodes.ensures.exact) c.requires.root c.index-nodes-root.is in
    let kind : root_of (part_at parts c.args.root) ≡ a_repetition c.in-Repeat.repetition = sym node ∙ ap kind_of c.in-Repeat.is in
    (repetition_child parts c.args.root stands c.in-Repeat.repetition kind).1

pub repetition-requires-clause-room : goal.repetition-requires-clause-room
repetition-requires-clause-room c =
    let parts = subtrees_of (tree_of c.args.hir.now) in
    let stands = each_stands (tree_of c.args.hir.now) c.args.root c.requires.root in
    let node = node_at parts c.nodes.result.now c.args.root c.index-nodes-root.result (c.nodes.ensures.nodes ∙ c.nodes.ensures.exact) c.requires.root c.index-nodes-root.is in
    let kind : root_of (part_at parts c.args.root) ≡ a_repetition c.in-Repeat.repetition = sym node ∙ ap kind_of c.in-Repeat.is in
    let some = (repetition_child parts c.args.root stands c.in-Repeat.repetition kind).0 in
    let back : c.args.root ≡ c.args.root - 1 + 1 = omega (arith, some) in
    subst (λ k. length c.args.self.now.states.items + size_of (part_at parts k) + 1 < 2 ^ 64) back c.requires.room

pub returns-in_ok-repetition-in-Repeat-clause-done : goal.returns-in_ok-repetition-in-Repeat-clause-done
returns-in_ok-repetition-in-Repeat-clause-done c =
    let parts = subtrees_of (tree_of c.args.hir.now) in
    let stands = each_stands (tree_of c.args.hir.now) c.args.root c.requires.root in
    let node = node_at parts c.nodes.result.now c.args.root c.index-nodes-root.result (c.nodes.ensures.nodes ∙ c.nodes.ensures.exact) c.requires.root c.index-nodes-root.is in
    let kind : root_of (part_at parts c.args.root) ≡ a_repetition c.in-Repeat.repetition = sym node ∙ ap kind_of c.in-Repeat.is in
    let some = (repetition_child parts c.args.root stands c.in-Repeat.repetition kind).0 in
    let back : c.args.root - 1 + 1 ≡ c.args.root = omega (arith, some) in
    subst (λ k. DoesJob c.args.self.now.slots parts (job.Part k c.args.next) c.args.self.now.states.items c.repetition.new.self.states.items c.args.self.now.jobs.items c.repetition.new.self.jobs.items) back c.in_ok-repetition-in-Repeat.ensures.done
