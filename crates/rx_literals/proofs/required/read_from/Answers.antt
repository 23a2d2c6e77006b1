use Rattle.std.proofs.Common.{[], ◌++◌, string_bytes, sym, subst, ap, ◌∙◌}
use Rattle.std.specs.Char.{encode_utf8}
use Rattle.rx_program.specs.Programs.{character_program}
use Rattle.rx_literals.specs.Requirements.{ReadsTo}
use Rattle.rx_literals.proofs.RequirementLaws.{reads_more, reads_nothing}
use Rattle.rx_literals.proofs.required.read_from.Goals as goal

pub loop-init : goal.loop-init
loop-init c =
    let p = character_program c.args.program.now in
    subst (λ xs. ReadsTo p c.args.at xs c.args.at) (sym c.new-literal.ensures.bytes) (reads_nothing p c.args.at)

pub loop-preserved : goal.loop-preserved
loop-preserved c =
    let p = character_program c.args.program.now in
    reads_more p c.args.at c.loop.next c.in-Some.read.0 c.in-Some.read.1 (string_bytes c.loop.literal) (string_bytes c.push.new.self) c.in-Some.ensures c.in_ok-push-in-Some.ensures.bytes c.loop.invariant

pub returns-in-None : goal.returns-in-None
returns-in-None c = record { next = c.loop.next; reads = c.loop.invariant }

pub returns : goal.returns
returns c = record { next = c.loop.next; reads = c.loop.invariant }
