use Rattle.std.proofs.Common.{◌≡◌, ◌↔◌, ◌++◌, ◌∙◌, ◌-◌, sym, ap, subst, [], List, ℕ, take, drop, arith, length, take-append-drop}
use Rattle.std.proofs.lemmas.List.{take_rest}
use Rattle.rope_search_io.specs.Utf8Judge.{Judging, Continues}
use Rattle.rope_search_io.proofs.Utf8Lemmas.{Continues-two, Continues-past}
use Rattle.rope_search_io.proofs.utf8_judge.Utf8Judge.feed.Goals as goal

-- the two parts of a text that is split
halves : (front back bytes : List ℕ) (n : ℕ) → front ≡ take n bytes → back ≡ drop n bytes → front ++ back ≡ bytes
halves front back bytes n p q = ap (λ l. l ++ back) p ∙ ap (λ l. take n bytes ++ l) q ∙ take-append-drop n bytes

pub returns-then-self-gt0 : goal.returns-then-self-gt0
returns-then-self-gt0 c =
    Continues-two _ _ _ _ _ _ (halves _ _ _ _ c.split_at.ensures.front c.split_at.ensures.back) c.push_all.ensures c.push_all-then-self-gt0.ensures

pub returns : goal.returns
returns c =
    let inside = c.self.inside in
    let rest = c.split_at.result.1.now in
    let valid = c.text_len.result in
    let mid = c.push_all.new.self in
    let new = c.push_all-2.new.self in
    let empty : inside.len ≡ 0 = omega arith in
    let none : record { part = []; dead = inside.dead } ≡ mid =
    ap (λ (n : ℕ). record { part = take n inside.part; dead = inside.dead }) (sym empty) ∙ c.self.view_is in
    let past : (more : List ℕ) → Continues mid (take valid rest ++ more) ↔ Continues mid more =
    λ more. subst (λ (j : Judging). Continues j (take valid rest ++ more) ↔ Continues j more) none
    (Continues-past inside.dead (take valid rest) more c.text_len.ensures.front) in
    let tail : take (length rest - valid) (drop valid rest) ≡ drop valid rest = take_rest rest valid in
    let last : (more : List ℕ) → Continues mid (drop valid rest ++ more) ↔ Continues new more =
    subst (λ (l : List ℕ). (more : List ℕ) → Continues mid (l ++ more) ↔ Continues new more) tail c.push_all-2.ensures in
    let judged : (more : List ℕ) → Continues mid (rest ++ more) ↔ Continues new more =
    Continues-two mid mid new (take valid rest) (drop valid rest) rest (take-append-drop valid rest) past last in
    Continues-two _ _ _ _ _ _ (halves _ _ _ _ c.split_at.ensures.front c.split_at.ensures.back) c.push_all.ensures judged
