use Rattle.std.proofs.Common.{◌≡◌, ◌+◌, ◌-◌, ◌<◌, ◌^◌, length, Some, Fits, w64, refl, sym, ap, subst, ◌∙◌, arith}
use Rattle.std.proofs.lemmas.List.Elements.{All-pop}
use Rattle.rx_grammar.specs.Subtrees.{subtrees_of}
use Rattle.rx_grammar.specs.Postorder.{tree_of}
use Rattle.rx_grammar.specs.Weights.{size_of, pattern_weight}
use Rattle.rx_program.specs.Jobs.{part_at, IsJob, DoesJob, jobs_size, jobs_work}
use Rattle.rx_program.proofs.FactLaws.{known_any}
use Rattle.rx_program.proofs.SizeLaws.{size_le_weight}
use Rattle.rx_program.proofs.JobLaws.{whole_code, whole_kept, work_falls, size_kept, valid_kept, reads_kept, job_fits}
use Rattle.rx_program.proofs.PatternLaws.{whole_root, begun}
use Rattle.rx_program.proofs.compiler.Compiler.pattern.Goals as goal

pub overflow_add-end : goal.overflow_add-end
overflow_add-end c =
    let tree = tree_of c.args.hir.now in
    let light : pattern_weight tree < 2 ^ 63 = omega (arith, c.requires.room) in
    let root = whole_root tree c.nodes.result.now (c.nodes.ensures.nodes ∙ c.nodes.ensures.exact) light in
    let same = ap size_of root.is in
    let small : size_of (part_at (subtrees_of tree) (length c.nodes.result.now - 1)) + 1 < 2 ^ 64 = omega (arith, root.small, same) in
    let states = c.args.self.now.states in
    let len : c.len-start.result ≡ length states.items = omega (arith, c.len-start.ensures, states.ok.0) in
    subst (λ n. Fits w64 (c.len-start.result + 1 + n)) (sym ((known_any (subtrees_of tree) c.properties.result.now (length c.nodes.result.now - 1) _ c.properties.ensures root.below).size small)) (omega (arith, c.requires.room, len, same, size_le_weight tree))

pub overflow_add-end-2 : goal.overflow_add-end-2
overflow_add-end-2 c =
    let tree = tree_of c.args.hir.now in
    let light : pattern_weight tree < 2 ^ 63 = omega (arith, c.requires.room) in
    let root = whole_root tree c.nodes.result.now (c.nodes.ensures.nodes ∙ c.nodes.ensures.exact) light in
    let same = ap size_of root.is in
    let small : size_of (part_at (subtrees_of tree) (length c.nodes.result.now - 1)) + 1 < 2 ^ 64 = omega (arith, root.small, same) in
    let states = c.args.self.now.states in
    let len : c.len-start.result ≡ length states.items = omega (arith, c.len-start.ensures, states.ok.0) in
    subst (λ n. Fits w64 (c.len-start.result + 1 + n + 1)) (sym ((known_any (subtrees_of tree) c.properties.result.now (length c.nodes.result.now - 1) _ c.properties.ensures root.below).size small)) (omega (arith, c.requires.room, len, same, size_le_weight tree))

pub run-requires-clause-slots : goal.run-requires-clause-slots
run-requires-clause-slots c = omega (arith, c.loop-job.invariant.slots, c.requires.slots)

pub run-requires-clause-job : goal.run-requires-clause-job
run-requires-clause-job c =
    (All-pop (IsJob (subtrees_of (tree_of c.args.hir.now))) c.loop-job.self.jobs.items c.pop.new.self.items (Some c.in-Some.job) c.in-Some.ensures.items c.loop-job.invariant.begun.valid).1

pub run-requires-clause-room : goal.run-requires-clause-room
run-requires-clause-room c =
    let tree = tree_of c.args.hir.now in
    let parts = subtrees_of tree in
    let sum = ap (jobs_size parts) c.in-Some.ensures.items ∙ job_fits parts c.in-Some.job c.pop.new.self.items in
    omega (arith, c.loop-job.invariant.begun.size, sum, c.requires.room, size_le_weight tree)

pub loop-job-smaller : goal.loop-job-smaller
loop-job-smaller c =
    let parts = subtrees_of (tree_of c.args.hir.now) in
    subst (λ n. jobs_work parts c.run.new.self.jobs.items < n) (ap (jobs_work parts) (sym c.in-Some.ensures.items))
    (work_falls parts c.in-Some.job c.loop-job.self.states.items c.run.new.self.states.items c.pop.new.self.items c.run.new.self.jobs.items c.in_ok-run.ensures.done)

pub loop-job-preserved : goal.loop-job-preserved
loop-job-preserved c =
    let parts = subtrees_of (tree_of c.args.hir.now) in
    let inv = c.loop-job.invariant.begun in
    let states = c.loop-job.self.states.items in
    let more = c.run.new.self.states.items in
    let jobs = c.pop.new.self.items in
    let left = c.run.new.self.jobs.items in
    let was = c.in-Some.ensures.items in
    let slots = c.args.self.now.slots in
    let done : DoesJob slots parts c.in-Some.job states more jobs left = subst (λ n. DoesJob n parts c.in-Some.job states more jobs left) c.loop-job.invariant.slots c.in_ok-run.ensures.done in
    record {
      begun = record {
        whole = whole_kept parts c.in-Some.job states more jobs left done ∙ ap (whole_code slots parts states) (sym was) ∙ inv.whole;
        size = size_kept parts c.in-Some.job states more jobs left done ∙ ap (λ x. length states + jobs_size parts x) (sym was) ∙ inv.size;
        valid = valid_kept parts c.in-Some.job states more jobs left done (All-pop (IsJob parts) c.loop-job.self.jobs.items jobs (Some c.in-Some.job) was inv.valid).0;
        reads = reads_kept parts c.in-Some.job states more jobs left done inv.reads;
      };
      slots = c.run.ensures.slots ∙ c.loop-job.invariant.slots;
    }

pub loop-job-init : goal.loop-job-init
loop-job-init c =
    let tree = tree_of c.args.hir.now in
    let at = length c.nodes.result.now - 1 in
    let light : pattern_weight tree < 2 ^ 63 = omega (arith, c.requires.room) in
    let root = whole_root tree c.nodes.result.now (c.nodes.ensures.nodes ∙ c.nodes.ensures.exact) light in
    let same = ap size_of root.is in
    let small : size_of (part_at (subtrees_of tree) at) + 1 < 2 ^ 64 = omega (arith, root.small, same) in
    let states = c.args.self.now.states in
    let len : c.len-start.result ≡ length states.items = omega (arith, c.len-start.ensures, states.ok.0) in
    let size = (known_any (subtrees_of tree) c.properties.result.now at _ c.properties.ensures root.below).size small in
    record {
      begun = begun c.args.self.now.slots c.args.number tree states.items c.push.new.self.items at c.new.result c.new-3.result _ _ _ c.new-2.result
          c.args.self.now.jobs.items c.push-2.new.self.items c.push-3.new.self.items c.push-4.new.self.items root c.requires.reads refl refl c.new-2.ensures
          (c.new.ensures ∙ ap (λ n. n + 1) len)
          (c.new-3.ensures ∙ subst (λ n. c.len-start.result + 1 + n + 1 ≡ length states.items + 2 + size_of tree) (sym size) (omega (arith, same, len)))
          (subst (λ n. c.len-start.result + 1 + n ≡ length states.items + 1 + size_of tree) (sym size) (omega (arith, same, len)))
          c.requires.idle c.in_ok-push.ensures.items c.in_ok-push-2.ensures.items c.in_ok-push-3.ensures.items c.in_ok-push-4.ensures.items;
      slots = refl;
    }
