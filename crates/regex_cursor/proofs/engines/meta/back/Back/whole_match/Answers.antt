use Rattle.std.proofs.Common.{Some, sym, ap, subst, ◌∙◌}
use Rattle.rx_walks.specs.Backward.{back_from}
use Rattle.rx_steps.specs.Reversed.{IsHalfAnswerBack}
use Rattle.rx_steps.specs.Searching.{search_of}
use Rattle.rx_chunk.specs.Engines.{Finds, IsFound}
use Rattle.rx_matches.specs.Halves.{whole_of}
use Rattle.rx_matches.proofs.HalfLaws.{back_whole}
use Rattle.regex_cursor.proofs.BackLaws.{ends_half}
use Rattle.regex_cursor.proofs.engines.meta.back.Back.whole_match.Goals as goal

pub returns-in-Some-clause-whole : goal.returns-in-Some-clause-whole
returns-in-Some-clause-whole g c = λ p reverse last.
    let u = c.args.utf8_empty in
    let i = c.args.input.now in
    let s = search_of u i in
    let half = c.new-half.result in
    let back = c.in-Some.back in
    let answer = ends_half p u i c.args.pattern half c.new-half.ensures.pattern (c.new-half.ensures.offset ∙ c.end-end.ensures) last in
    let told : IsHalfAnswerBack p (back_from s c.end-end.result) (Some back) = subst (λ o. IsHalfAnswerBack p (back_from s c.end-end.result) o) c.in-Some.is (c.in_ok-back.ensures.answer p reverse) in
    let there : IsHalfAnswerBack p (back_from s half.offset) (Some back) = subst (λ k. IsHalfAnswerBack p (back_from s k) (Some back)) (sym c.new-half.ensures.offset) told in
    subst (λ m. IsFound (Finds p) s (Some m)) (sym (c.whole.ensures ∙ ap (λ k. whole_of half k) c.offset-in-Some.ensures)) (back_whole p s half back answer there)
