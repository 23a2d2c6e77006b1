use Rattle.std.proofs.Common.{◌≡◌, ◌+◌, length, List, subst, sym, arith}
use Rattle.std.specs.List.{All}
use Rattle.std.specs.Str.{continuation_len, lead_bits}
use Rattle.std.proofs.lemmas.List.Elements.{All-set}
use Rattle.rx_sets.specs.Sets.{Range, in_ranges}
use Rattle.rx_utf8.specs.Automata.{step_in, IsAutomatonRow, RiseWithin}
use Rattle.rx_utf8.specs.Blocks.{prepared, Fits, rows_of, pick, ReadsAll}
use Rattle.rx_utf8.proofs.TargetLaws.{extends_on}
use Rattle.rx_utf8.proofs.StartLaws.{Started, started_push, started_skip, started_reads, set_first}
use Rattle.rx_utf8.proofs.set_automaton.rows_for.Goals.{in-Some+in_ok-push_byte, in_default}
use Rattle.rx_utf8.proofs.set_automaton.rows_for.Goals as goal

pub loop-code-preserved : goal.loop-code-preserved
loop-code-preserved c =
    let R = rows_of c.loop-code.rows.items in
    let S = rows_of c.target.new.rows.items in
    let codes = pick c.args.one.now c.args.two.now c.args.three.now c.args.four.now in
    let to = c.loop-code.code in
    let inv = c.loop-code.invariant in
    let ext = c.in_ok-next.ensures.grows in
    let fit₁ : Fits (step_in S) (length S) (in_ranges (codes c.continuation_len-rest.result)) c.continuation_len-rest.result c.lead_bits.result c.in_ok-next.field-0
    = subst (λ (xs : List Range). Fits (step_in S) (length S) (in_ranges xs) c.continuation_len-rest.result c.lead_bits.result c.in_ok-next.field-0) c.pick-codes.ensures c.in_ok-next.ensures.fits in
    let fit₂ : Fits (step_in S) (length S) (in_ranges (codes (continuation_len to))) (continuation_len to) c.lead_bits.result c.in_ok-next.field-0
    = subst (λ k. Fits (step_in S) (length S) (in_ranges (codes k)) k c.lead_bits.result c.in_ok-next.field-0) c.continuation_len-rest.ensures.value fit₁ in
    let fit : Fits (step_in S) (length S) (in_ranges (codes (continuation_len to))) (continuation_len to) (lead_bits to) c.in_ok-next.field-0
    = subst (λ v. Fits (step_in S) (length S) (in_ranges (codes (continuation_len to))) (continuation_len to) v c.in_ok-next.field-0) c.lead_bits.ensures.value fit₂ in
    let started : Started S codes (to + 1) c.match-branch-3.start.items = elim c.match-branch-3.branch [
      | in-Some+in_ok-push_byte w ↦
          subst (λ row. Started S codes (to + 1) row.items) (sym w.start-is)
          (started_push R S codes to c.loop-code.start.items w.push_byte.new.row.items w.in-Some.next ext inv.started (subst (Fits (step_in S) (length S) (in_ranges (codes (continuation_len to))) (continuation_len to) (lead_bits to)) w.in-Some.is fit)
          w.in_ok-push_byte.ensures.leads w.in_ok-push_byte.ensures.rises)
      | in_default w ↦
          subst (λ row. Started S codes (to + 1) row.items) (sym w.start-is)
          (started_skip R S codes to c.loop-code.start.items ext inv.started (subst (Fits (step_in S) (length S) (in_ranges (codes (continuation_len to))) (continuation_len to) (lead_bits to)) w.in_default.is fit))
    ] in
    record { grows = extends_on prepared R S inv.grows ext; kept = c.in_ok-next.ensures.kept; started = started }

pub returns-clause-reads : goal.returns-clause-reads
returns-clause-reads c =
    let R = rows_of c.loop-code.rows.items in
    let codes = pick c.args.one.now c.args.two.now c.args.three.now c.args.four.now in
    let inv = c.loop-code.invariant in
    let end : c.loop-code.code ≡ 256 = omega (arith, c.loop-code-test.false, c.loop-code.auto.code-end) in
    let started : Started R codes 256 c.loop-code.start.items = subst (λ x. Started R codes x c.loop-code.start.items) end inv.started in
    let reads : ReadsAll codes (rows_of _) = subst (ReadsAll codes) (set_first c.loop-code.rows.items c.loop-code.start)
    (started_reads c.first_character_stands.ensures R codes c.loop-code.start.items (omega (arith, inv.grows.0)) started) in
    reads

pub returns-clause-disjoint : goal.returns-clause-disjoint
returns-clause-disjoint c =
    let R = rows_of c.loop-code.rows.items in
    let inv = c.loop-code.invariant in
    let end : c.loop-code.code ≡ 256 = omega (arith, c.loop-code-test.false, c.loop-code.auto.code-end) in
    let rises : RiseWithin 0 256 c.loop-code.start.items = subst (λ x. RiseWithin 0 x c.loop-code.start.items) end inv.started.rises in
    subst (All IsAutomatonRow) (set_first c.loop-code.rows.items c.loop-code.start) (All-set IsAutomatonRow R 0 c.loop-code.start.items rises inv.kept)
