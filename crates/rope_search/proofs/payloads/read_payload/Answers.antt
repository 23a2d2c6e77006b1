use Rattle.std.proofs.Common.{◌≡◌, [], ◌++◌, ◌+◌, ◌-◌, ◌≤◌, List, ℕ, length, take, sym, ap, ◌∙◌, subst, arith, length-append}
use Rattle.rope_search_io.specs.ReadBuffer.{Takes}
use Rattle.rope_search.proofs.PayloadLemmas.{GathersMore-none, GathersMore-trans}
use Rattle.rope_search.proofs.TakesLemmas.{Takes-nil, Takes-trans, Takes-front}
use Rattle.rope_search.proofs.payloads.read_payload.Goals as goal

pub loop-left-init : goal.loop-left-init
loop-left-init g c = ([], omega arith, GathersMore-none g.G.Gather.keeps _, Takes-nil _ _)

pub loop-left-preserved : goal.loop-left-preserved
loop-left-preserved g c =
    let before = c.loop-left.invariant in
    let part = c.front-bytes.result.now in
    let filled = rw c.if-not-branch.false at c.in_ok-fill.ensures.taken in
    let here : take (length part) c.fill.new.self.bytes ≡ part =
    ap (take (length part)) (sym c.as_slice.ensures) ∙ sym c.front-bytes.ensures.front in
    let enough : length part ≤ length c.fill.new.self.bytes = omega (arith, c.front-bytes.ensures.within, ap length c.as_slice.ensures) in
    let taken = Takes-front c.fill.new.self c.consume.new.self (g.R.Source.state c.fill.new.source) (length part) enough c.consume.ensures.bytes c.consume.ensures.reads in
    let front : Takes c.fill.new.self c.consume.new.self (g.R.Source.state c.fill.new.source) (g.R.Source.state c.fill.new.source) part =
    subst (λ (bs : List ℕ). Takes c.fill.new.self c.consume.new.self (g.R.Source.state c.fill.new.source) (g.R.Source.state c.fill.new.source) bs) here taken in
    let left : length (before.0 ++ part) + (c.loop-left.left - length part) ≡ c.args.len =
    omega (arith, before.1, length-append before.0 part, c.front-bytes.ensures.most) in (
      before.0 ++ part,
      left,
      GathersMore-trans g.G.Gather.keeps _ _ _ before.0 part before.2 c.gather.ensures,
      Takes-trans _ _ _ _ _ _ before.0 part before.3 (Takes-trans _ _ _ _ _ _ [] part filled front),
    )
