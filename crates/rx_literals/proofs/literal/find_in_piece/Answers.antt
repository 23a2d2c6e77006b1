use Rattle.std.proofs.Common.{◌≡◌, ◌+◌, ◌≤◌, Some, min, length, sym, ap, subst, ◌∙◌, arith}
use Rattle.rx_util.specs.declared.search.Span.{Span}
use Rattle.rx_literals.specs.Needles.{FoundBetween, bytes_to_end}
use Rattle.rx_literals.proofs.FoundLaws.{Tells, all_told, some_told, piece_is_part, piece_length, told_found, told_else, end_inside}
use Rattle.rx_literals.proofs.literal.find_in_piece.Goals as goal
use Rattle.rx_literals.proofs.literal.find_in_piece.Goals.{then-at-len, else-at-len, in_default-via-in-Some+else-span-told, in_default-via-in_default}

pub overflow_add-result-in-Some : goal.overflow_add-result-in-Some
overflow_add-result-in-Some g c =
    let i = c.args.input.now in
    let holds = c.position-at.ensures.holds in
    let long = piece_length i.cursor.content c.left_in_piece-hay.result.now i.position i.cursor.end i.asked.span.end holds.lawful.within c.left_in_piece-hay.ensures.part in
    omega (arith, end_inside c.in-Some.ensures, long, c.position-at.ensures.position, holds.lawful.within, holds.lawful.bound, c.requires)

pub returns-in-Some-clause-found : goal.returns-in-Some-clause-found
returns-in-Some-clause-found g c =
    let i = c.args.input.now in
    let hay = c.left_in_piece-hay.result.now in
    let needles = c.args.prefilter.now in
    let holds = c.position-at.ensures.holds in
    let long = piece_length i.cursor.content hay i.position i.cursor.end i.asked.span.end holds.lawful.within c.left_in_piece-hay.ensures.part in
    let part = piece_is_part i.cursor.content hay i.position i.cursor.end i.asked.span.end c.requires holds.lawful.within c.left_in_piece-hay.ensures.part in
    let at = c.position-at.ensures.position in
    let tells : Tells hay (bytes_to_end i) i.position needles c.if-at-len.told = elim c.if-at-len.branch [
      | then-at-len w ↦ all_told hay i.cursor.content i.asked.span.end i.position c.if-at-len.told needles (omega (arith, w.if-at-len.true, at, c.end.ensures)) w.told-is
      | else-at-len w ↦ some_told hay (bytes_to_end i) i.position c.if-at-len.told w.max_needle_len.result needles w.max_needle_len.ensures.some w.max_needle_len.ensures.longest (w.told-is ∙ w.saturating_sub-told.ensures)
    ] in
    let told = told_found hay (bytes_to_end i) i.position part needles c.if-at-len.told tells.within tells.lies c.in-Some.ensures c.if-span-told.true in
    let stop : i.position + length hay ≡ min i.asked.span.end i.cursor.end = omega (arith, long, c.requires) in
    subst (λ n. FoundBetween (bytes_to_end i) needles i.position n (Some (record { start = c.position-at.result + c.in-Some.span.start; end = c.position-at.result + c.in-Some.span.end }))) stop
    (subst (λ n. FoundBetween (bytes_to_end i) needles i.position (i.position + length hay) (Some (record { start = n + c.in-Some.span.start; end = n + c.in-Some.span.end }))) (sym at) told)

pub returns-in_default-clause-found : goal.returns-in_default-clause-found
returns-in_default-clause-found g c =
    let i = c.args.input.now in
    let hay = c.left_in_piece-hay.result.now in
    let needles = c.args.prefilter.now in
    let holds = c.position-at.ensures.holds in
    let long = piece_length i.cursor.content hay i.position i.cursor.end i.asked.span.end holds.lawful.within c.left_in_piece-hay.ensures.part in
    let part = piece_is_part i.cursor.content hay i.position i.cursor.end i.asked.span.end c.requires holds.lawful.within c.left_in_piece-hay.ensures.part in
    let at = c.position-at.ensures.position in
    let tells : Tells hay (bytes_to_end i) i.position needles c.if-at-len.told = elim c.if-at-len.branch [
      | then-at-len w ↦ all_told hay i.cursor.content i.asked.span.end i.position c.if-at-len.told needles (omega (arith, w.if-at-len.true, at, c.end.ensures)) w.told-is
      | else-at-len w ↦ some_told hay (bytes_to_end i) i.position c.if-at-len.told w.max_needle_len.result needles w.max_needle_len.ensures.some w.max_needle_len.ensures.longest (w.told-is ∙ w.saturating_sub-told.ensures)
    ] in
    let late : (span : Span) → c.find_in.result ≡ Some span → c.if-at-len.told ≤ span.start = elim c.in_default.branch [
      | in_default-via-in-Some+else-span-told w ↦ (λ span e. (let one : w.in-Some.span ≡ span = cc (w.in-Some.is, e) in let same : w.in-Some.span.start ≡ span.start = ap (λ (x : Span). x.start) one in omega (arith, same, w.if-span-told.false)))
      | in_default-via-in_default w ↦ (λ span e. absurd (w.in_default.not-Some span e))
    ] in
    let stop : c.position-at.result + length hay ≡ min i.asked.span.end i.cursor.end = omega (arith, long, at, c.requires) in
    told_else hay (bytes_to_end i) i.position c.position-at.result (min i.asked.span.end i.cursor.end) part needles c.if-at-len.told tells at stop c.find_in.ensures late c.try_each.ensures.found
