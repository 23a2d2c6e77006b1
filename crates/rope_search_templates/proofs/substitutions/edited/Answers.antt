use Rattle.std.proofs.Common.{◌≡◌, ℕ, ◌+◌, ◌-◌, ◌<◌, ◌≤◌, true, List, [], ◌∷◌, length, drop, map, slice_index_or, ap, sym, subst, ◌∙◌, arith}
use Rattle.std.specs.Str.{all_scalars}
use Rattle.std.proofs.lemmas.List.{drop_all, length-map}
use Rattle.std.proofs.lemmas.Str.{IsCharBoundary-start, scalars-chars}
use Rattle.ropey.specs.Chunks.{text_of}
use Rattle.rope_search_changes.specs.Text.{bytes_of}
use Rattle.rope_search_templates.specs.declared.substitutions.Substitution.{Substitution as Given}
use Rattle.rope_search_templates.specs.Substitutions.{Substitution, told}
use Rattle.rope_search_templates.proofs.ContentLemmas.{text-scalars, text-utf8}
use Rattle.rope_search_templates.proofs.SubstitutionLemmas.{AreAhead, all-ahead, ahead-further, given-next, IsEditedBehind, edited-none, edited-all, starts-there, ends-there, edited-one, scalars-one}
use Rattle.rope_search_templates.proofs.substitutions.edited.Goals as goal

abbrev nothing : Given
nothing = record { start = 0; end = 0; text = record { ref_ptr = (0, 0); now = [] } }

-- the next one, from the last on
record IsNext (content : List ℕ) (all : List Given) (left : ℕ) (one : Substitution) : Type 0 where
  at : ℕ
  more : drop (left - 1) (map told all) ≡ one ∷ drop left (map told all)
  ahead : AreAhead content at (one ∷ drop left (map told all))

next-of : (content : List ℕ) (all : List Given) (left : ℕ) → AreAhead content 0 (map told all) → 0 < left → left ≤ length all
    → IsNext content all left (told (slice_index_or all (left - 1) nothing))
next-of content all left ahead some within =
    let k = left - 1 in
    let count : k + 1 ≡ left = omega (arith, some) in
    let more = given-next all k nothing (omega (arith, some, within)) ∙ ap (λ n. told (slice_index_or all k nothing) ∷ drop n (map told all)) count in
    let from = ahead-further content (map told all) k 0 ahead in
    record { at = from.0; more = more; ahead = subst (AreAhead content from.0) more from.1 }

pub loop-left-init : goal.loop-left-init
loop-left-init c =
    let text = text_of c.args.text.now in
    let all = c.args.substitutions.now in
    let scalars = text-scalars c.args.text.now c.len_bytes.ensures.cut.cut in
    let same = c.in_ok-new.ensures.cases in
    let none : drop (length all) (map told all) ≡ [] = drop_all (length all) (map told all) (omega (arith, length-map all told)) in (
      subst (λ (ps : List (List ℕ)). IsEditedBehind (bytes_of text) (drop (length all) (map told all)) (text_of ps)) (sym same)
          (subst (λ os. IsEditedBehind (bytes_of text) os text) (sym none) (edited-none text scalars)),
      subst (λ (ps : List (List ℕ)). all_scalars (text_of ps) ≡ true) (sym same) scalars,
      omega arith,
    )

pub byte_replace-requires : goal.byte_replace-requires
byte_replace-requires c =
    let utf8 = text-utf8 c.args.text.now c.len_bytes.ensures.cut.cut in
    let content = bytes_of (text_of c.args.text.now) in
    let all = c.args.substitutions.now in
    let so = c.loop-left.invariant in
    let next = next-of content all c.loop-left.left (all-ahead content (map told all) utf8 c.requires.follow) (omega (arith, c.loop-left-test.true)) so.2 in
    let one = told (slice_index_or all (c.loop-left.left - 1) nothing) in
    let rest = drop c.loop-left.left (map told all) in
    let old = text_of c.loop-left.new in
    let starts = starts-there content utf8 one rest old next.at next.ahead so.1 so.0 in
    let ends = ends-there content utf8 one rest old next.at next.ahead so.1 so.0 in
    record {
      range = record { order = next.ahead.follow.1; within = ends.0 };
      starts = starts;
      stops = ends;
    }

pub loop-left-preserved : goal.loop-left-preserved
loop-left-preserved c =
    let utf8 = text-utf8 c.args.text.now c.len_bytes.ensures.cut.cut in
    let content = bytes_of (text_of c.args.text.now) in
    let all = c.args.substitutions.now in
    let so = c.loop-left.invariant in
    let next = next-of content all c.loop-left.left (all-ahead content (map told all) utf8 c.requires.follow) (omega (arith, c.loop-left-test.true)) so.2 in
    let given = slice_index_or all (c.loop-left.left - 1) nothing in
    let one = told given in
    let rest = drop c.loop-left.left (map told all) in
    let old = text_of c.loop-left.new in
    let new = text_of c.byte_replace.new.self in
    let own : all_scalars one.text ≡ true = scalars-chars given.text.now (c.requires.utf8 (c.loop-left.left - 1) nothing (omega (arith, c.loop-left-test.true, so.2))) in (
      subst (λ os. IsEditedBehind content os new) (sym next.more) (edited-one content utf8 one rest old new next.at next.ahead so.0 c.in-Ok.ensures.text),
      scalars-one content utf8 one rest old one.text new one.start one.end so.1 own c.in-Ok.ensures.text,
      omega (arith, so.2),
    )

pub returns-clause-text : goal.returns-clause-text
returns-clause-text c =
    let content = bytes_of (text_of c.args.text.now) in
    let all = c.args.substitutions.now in
    let utf8 = text-utf8 c.args.text.now c.len_bytes.ensures.cut.cut in
    let none : c.loop-left.left ≡ 0 = omega (arith, c.loop-left-test.false) in
    edited-all content (map told all) (text_of c.loop-left.new) (IsCharBoundary-start content utf8) c.requires.follow
    (subst (λ n. IsEditedBehind content (drop n (map told all)) (text_of c.loop-left.new)) none c.loop-left.invariant.0)
