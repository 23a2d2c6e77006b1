use Rattle.std.proofs.Common.{◌≡◌, ℕ, ◌+◌, ◌-◌, List, [], ◌++◌, take, drop, map, slice_index_or, ap, sym, subst, ◌∙◌, arith, chars}
use Rattle.std.specs.Str.{IsCharBoundary}
use Rattle.std.proofs.lemmas.List.{drop-drop}
use Rattle.ropey.specs.Chunks.{text_of}
use Rattle.rope_search_changes.specs.Text.{bytes_of}
use Rattle.rope_search_changes.specs.Replacement.{between}
use Rattle.rope_search_templates.specs.declared.substitutions.Substitution.{Substitution as Given}
use Rattle.rope_search_templates.specs.Substitutions.{substituted, told}
use Rattle.rope_search_templates.proofs.ContentLemmas.{text-utf8}
use Rattle.rope_search_templates.proofs.LeftLemmas.{boundary-left}
use Rattle.rope_search_templates.proofs.SubstitutionLemmas.{IsBuiltUpTo, all-ahead, built-more, built-next}
use Rattle.rope_search_templates.proofs.substitutions.rebuilt.Goals as goal

abbrev nothing : Given
nothing = record { start = 0; end = 0; text = record { ref_ptr = (0, 0); now = [] } }

pub loop-substitution-init : goal.loop-substitution-init
loop-substitution-init c =
    let content = bytes_of (text_of c.args.text.now) in
    let all = substituted content 0 (map told c.args.substitutions.now) in (
      record {
        ahead = all-ahead _ _ (text-utf8 _ c.len_bytes.ensures.cut.cut) c.requires.follow;
        text_is = ap (λ (l : List ℕ). l ++ all) c.new-builder.ensures;
      },
      c.of-left.ensures,
    )

pub overflow_sub-substitution : goal.overflow_sub-substitution
overflow_sub-substitution c =
    (built-next _ _ c.args.substitutions.now c.loop-substitution.substitution-index nothing _ _ c.loop-substitution-test.true c.loop-substitution.invariant.0).ahead.follow.0

pub overflow_sub-substitution-in-loop-substitution : goal.overflow_sub-substitution-in-loop-substitution
overflow_sub-substitution-in-loop-substitution c =
    (built-next _ _ c.args.substitutions.now c.loop-substitution.substitution-index nothing _ _ c.loop-substitution-test.true c.loop-substitution.invariant.0).ahead.follow.1

pub copy-requires : goal.copy-requires
copy-requires c =
    let content = bytes_of (text_of c.args.text.now) in
    let all = c.args.substitutions.now in
    let i = c.loop-substitution.substitution-index in
    let at = c.loop-substitution.at in
    let here = built-next content at all i nothing _ _ c.loop-substitution-test.true c.loop-substitution.invariant.0 in
    let follow = here.ahead.follow in
    subst (λ bs. IsCharBoundary bs ((slice_index_or all i nothing).start - at)) (sym c.loop-substitution.invariant.1)
    (boundary-left content at _ follow.0 here.ahead.here follow.2)

pub skip-requires : goal.skip-requires
skip-requires c =
    let content = bytes_of (text_of c.args.text.now) in
    let all = c.args.substitutions.now in
    let i = c.loop-substitution.substitution-index in
    let given = slice_index_or all i nothing in
    let at = c.loop-substitution.at in
    let here = built-next content at all i nothing _ _ c.loop-substitution-test.true c.loop-substitution.invariant.0 in
    let follow = here.ahead.follow in
    let left_is : c.copy.new.self.bytes ≡ drop given.start content =
    c.in_ok-copy.ensures.left ∙ ap (drop (given.start - at)) c.loop-substitution.invariant.1 ∙ drop-drop (given.start - at) at content
    ∙ ap (λ n. drop n content) (omega (arith, follow.0)) in
    subst (λ bs. IsCharBoundary bs (given.end - given.start)) (sym left_is) (boundary-left content _ _ follow.1 follow.2 follow.3)

pub loop-substitution-preserved : goal.loop-substitution-preserved
loop-substitution-preserved c =
    let content = bytes_of (text_of c.args.text.now) in
    let given = c.args.substitutions.now in
    let i = c.loop-substitution.substitution-index in
    let one = slice_index_or given i nothing in
    let rest = drop (i + 1) (map told given) in
    let at = c.loop-substitution.at in
    let all = substituted content 0 (map told given) in
    let here = built-next content at given i nothing _ _ c.loop-substitution-test.true c.loop-substitution.invariant.0 in
    let follow = here.ahead.follow in
    let gap_is : chars (take (one.start - at) c.loop-substitution.left.bytes) ≡ between content at one.start =
    ap (λ bs. chars (take (one.start - at) bs)) c.loop-substitution.invariant.1 in
    let built_is : c.append.new.self ≡ (c.loop-substitution.builder ++ between content at one.start) ++ chars one.text.now =
    c.in-Ok.ensures.text
    ∙ ap (λ (l : List ℕ). l ++ chars one.text.now) (c.in_ok-copy.ensures.text ∙ ap (λ (l : List ℕ). c.loop-substitution.builder ++ l) gap_is) in
    let left_is : c.copy.new.self.bytes ≡ drop one.start content =
    c.in_ok-copy.ensures.left ∙ ap (drop (one.start - at)) c.loop-substitution.invariant.1 ∙ drop-drop (one.start - at) at content
    ∙ ap (λ n. drop n content) (omega (arith, follow.0)) in (
      subst (λ l. IsBuiltUpTo content one.end rest l all) (sym built_is) (built-more content at (told one) rest c.loop-substitution.builder all here),
      c.skip.ensures ∙ ap (drop (one.end - one.start)) left_is ∙ drop-drop (one.end - one.start) one.start content
          ∙ ap (λ n. drop n content) (omega (arith, follow.1)),
    )
