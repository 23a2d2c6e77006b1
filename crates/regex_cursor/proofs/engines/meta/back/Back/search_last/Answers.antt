use Rattle.std.proofs.Common.{◌≡◌, ◌<◌, ℕ, Option, Some, None, length, min, sym, ap, ap₂, subst, ◌∙◌, arith}
use Rattle.rx_util.specs.Search.{HalfFound}
use Rattle.rx_walks.specs.Backward.{back_from}
use Rattle.rx_walks.specs.Finds.{Search}
use Rattle.rx_program.specs.Programs.{ByteProgram}
use Rattle.rx_steps.specs.Reversed.{IsHalfAnswerBack}
use Rattle.rx_steps.specs.Searching.{anchoring_of, search_of}
use Rattle.rx_chunk.specs.Engines.{Finds, IsFound}
use Rattle.rx_matches.specs.Halves.{whole_of}
use Rattle.regex_cursor.proofs.LastLaws.{none_before, none_last, some_last}
use Rattle.regex_cursor.proofs.StartLaws.{same_search}
use Rattle.regex_cursor.proofs.engines.meta.back.Back.search_last.Goals as goal

-- the result for an input that was moved to its end is that for the input
told_there : (p : ByteProgram) (s moved : Search) (end : ℕ) (found : Option HalfFound) → moved ≡ s → end ≡ s.end → IsHalfAnswerBack p (back_from moved end) found → IsHalfAnswerBack p (back_from s s.end) found
told_there p s moved end found same at told =
    subst (λ e. IsHalfAnswerBack p (back_from s e) found) at (subst (λ x. IsHalfAnswerBack p (back_from x end) found) same told)

pub returns-then-place-end-clause-left : goal.returns-then-place-end-clause-left
returns-then-place-end-clause-left g c = λ p reverse ends.
    let s = search_of c.args.utf8_empty c.args.input.now in
    let before : s.end < min s.slice_end (length s.content) = omega (arith, c.enter_behind-place.ensures.place, c.end-end.ensures, c.if-place-end.true) in
    none_before p s ends (ap anchoring_of c.requires.unanchored) before

pub returns-in-Some-clause-left : goal.returns-in-Some-clause-left
returns-in-Some-clause-left g c = λ p reverse ends.
    let u = c.args.utf8_empty in
    let i = c.args.input.now in
    let s = search_of u i in
    let back = c.in-Some.back in
    let last : s.end ≡ min s.slice_end (length s.content) = omega (arith, c.enter_behind-place.ensures.place, c.end-end.ensures, c.if-place-end.false, c.if-place-end-2.false) in
    let moved = c.enter_behind-place.new.input in
    let search = same_search u i moved c.enter_behind-place.ensures.same c.enter_behind-place.ensures.asked in
    let told = told_there p s (search_of u moved) c.end-end.result (Some back) search c.end-end.ensures
    (subst (λ o. IsHalfAnswerBack p (back_from (search_of u moved) c.end-end.result) o) c.in-Some.is (c.in_ok-back.ensures.answer p reverse)) in
    let half : c.new-half.result ≡ record { pattern = back.pattern; offset = s.end } =
    ap₂ (λ k e. record { pattern = k; offset = e }) (c.new-half.ensures.pattern ∙ c.pattern.ensures) (c.new-half.ensures.offset ∙ c.end-end.ensures) in
    let is : c.whole.result ≡ whole_of (record { pattern = back.pattern; offset = s.end }) back.offset = c.whole.ensures ∙ ap₂ whole_of half c.offset-in-Some.ensures in
    subst (λ m. IsFound (Finds p) s (Some m)) (sym is) (some_last p s c.args.self.now reverse ends (ap anchoring_of c.requires.unanchored) last back told)

pub returns-in-None-clause-left : goal.returns-in-None-clause-left
returns-in-None-clause-left g c = λ p reverse ends.
    let u = c.args.utf8_empty in
    let i = c.args.input.now in
    let s = search_of u i in
    let last : s.end ≡ min s.slice_end (length s.content) = omega (arith, c.enter_behind-place.ensures.place, c.end-end.ensures, c.if-place-end.false, c.if-place-end-2.false) in
    let moved = c.enter_behind-place.new.input in
    let search = same_search u i moved c.enter_behind-place.ensures.same c.enter_behind-place.ensures.asked in
    let told = told_there p s (search_of u moved) c.end-end.result None search c.end-end.ensures
    (subst (λ o. IsHalfAnswerBack p (back_from (search_of u moved) c.end-end.result) o) c.in-None.is (c.in_ok-back.ensures.answer p reverse)) in
    none_last p s c.args.self.now reverse ends (ap anchoring_of c.requires.unanchored) last told
