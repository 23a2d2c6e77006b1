use Rattle.std.proofs.Common.{◌≡◌, ℕ, ◌+◌, ◌-◌, ◌<◌, ◌^◌, List, [], ◌++◌, length, take, drop, slice_index_or, ap, sym, subst, ◌∙◌, arith, chars}
use Rattle.std.specs.Str.{IsCharBoundary}
use Rattle.std.proofs.lemmas.List.{drop-drop}
use Rattle.ropey.specs.Chunks.{text_of}
use Rattle.rope_search_changes.specs.Text.{bytes_of}
use Rattle.rope_search_changes.specs.Replacement.{replaced, whole, between, expand}
use Rattle.rope_search_changes.specs.declared.Change.{Change}
use Rattle.rope_search_templates.specs.Matches.{groups_in, matched}
use Rattle.rope_search_templates.specs.Told.{IsToldNext, IsToldOfNone, change_at}
use Rattle.rope_search_templates.proofs.ContentLemmas.{text-utf8, all-left}
use Rattle.rope_search_templates.proofs.LeftLemmas.{boundary-left}
use Rattle.rope_search_templates.proofs.BuildingLemmas.{IsBuilt, built-next, built-more}
use Rattle.rope_search_templates.proofs.ToldLemmas.{told-none, told-fits, told-step}
use Rattle.rope_search_templates.proofs.replacing.rebuilt.Goals as goal

pub loop-index-init : goal.loop-index-init
loop-index-init c =
    let content = bytes_of (text_of c.args.text.now) in
    let matches = matched c.args.matches.now in
    let all = replaced content c.args.template.now 0 matches in
    let left = all-left content matches (text-utf8 _ c.len_bytes.ensures.cut.cut) c.requires.matches in
    let none : IsToldOfNone (length matches) c.in_ok-told.told = subst (λ n. IsToldOfNone n c.in_ok-told.told) c.len.ensures c.in_ok-told.ensures in (
      subst (λ n. IsBuilt content c.args.template.now n matches c.new-builder.result all) (sym none.at)
          (record { left = left; text_is = ap (λ (l : List ℕ). l ++ all) c.new-builder.ensures }),
      c.of-left.ensures ∙ ap (λ n. drop n content) (sym none.at),
      told-none content c.args.template.now matches c.in_ok-told.told left none,
      c.of-parts.ensures,
    )

pub tell-requires-clause-fits : goal.tell-requires-clause-fits
tell-requires-clause-fits c =
    let content = bytes_of (text_of c.args.text.now) in
    let matches = matched c.args.matches.now in
    let inside : c.loop-index.index < length matches = omega (arith, c.loop-index-test.true, c.len-index-end.ensures) in
    rw c.loop-index.invariant.3 (subst (λ g. (change_at content c.args.template.now c.loop-index.told.at c.loop-index.told.at_new g).new_end < 2 ^ 63) (sym c.at-found.ensures)
    (told-fits content c.args.template.now matches c.loop-index.index (2 ^ 63) c.loop-index.told (text-utf8 _ c.len_bytes.ensures.cut.cut) inside c.loop-index.invariant.2 c.requires.fits))

pub copy-requires : goal.copy-requires
copy-requires c =
    let content = bytes_of (text_of c.args.text.now) in
    let matches = matched c.args.matches.now in
    let at = c.loop-index.told.at in
    let here = built-next content c.args.template.now at matches c.loop-index.index _ _ (omega (arith, c.loop-index-test.true, c.len-index-end.ensures)) c.loop-index.invariant.0 in
    let follow = here.left.follow in
    let span = c.span-start.ensures ∙ ap whole c.at-found.ensures in
    subst (λ bs. IsCharBoundary bs (c.span-start.result.0 - at)) (sym c.loop-index.invariant.1)
    (subst (λ (p : ℕ × ℕ). IsCharBoundary (drop at content) (p.0 - at)) (sym span) (boundary-left content at _ follow.0 here.left.here follow.2))

pub skip-requires : goal.skip-requires
skip-requires c =
    let content = bytes_of (text_of c.args.text.now) in
    let template = c.args.template.now in
    let matches = matched c.args.matches.now in
    let at = c.loop-index.told.at in
    let start = c.span-start.result.0 in
    let end = c.span-start.result.1 in
    let here = built-next content template at matches c.loop-index.index _ _ (omega (arith, c.loop-index-test.true, c.len-index-end.ensures)) c.loop-index.invariant.0 in
    let follow = here.left.follow in
    let span = c.span-start.ensures ∙ ap whole c.at-found.ensures in
    let left_is : c.copy.new.self.bytes ≡ drop start content =
    c.in_ok-copy.ensures.left ∙ ap (drop (start - at)) c.loop-index.invariant.1 ∙ drop-drop (start - at) at content
    ∙ ap (λ n. drop n content) (omega (arith, follow.0, ap (λ p. p.0) span)) in
    subst (λ bs. IsCharBoundary bs (end - start)) (sym left_is)
    (subst (λ (p : ℕ × ℕ). IsCharBoundary (drop p.0 content) (p.1 - p.0)) (sym span) (boundary-left content _ _ follow.1 follow.2 follow.3))

pub loop-index-preserved : goal.loop-index-preserved
loop-index-preserved c =
    let content = bytes_of (text_of c.args.text.now) in
    let template = c.args.template.now in
    let matches = matched c.args.matches.now in
    let k = c.loop-index.index in
    let at = c.loop-index.told.at in
    let match = slice_index_or matches k [] in
    let rest = drop (k + 1) matches in
    let inside : k < length matches = omega (arith, c.loop-index-test.true, c.len-index-end.ensures) in
    let here = built-next content template at matches k _ _ inside c.loop-index.invariant.0 in
    let follow = here.left.follow in
    let change = c.in_ok-tell.field-0 in
    let told = c.tell.new.self in
    let own : IsToldNext content template (groups_in c.at-found.result) c.loop-index.told told change =
    subst (λ ps. IsToldNext (bytes_of (text_of ps)) template (groups_in c.at-found.result) c.loop-index.told told change) c.loop-index.invariant.3 c.in_ok-tell.ensures.told in
    let step : IsToldNext content template match c.loop-index.told told change = subst (λ g. IsToldNext content template g c.loop-index.told told change) c.at-found.ensures own in
    let at_is : told.at ≡ (whole match).1 = step.at ∙ ap (λ (a : Change). a.old_end) step.change_is in
    let span = c.span-start.ensures ∙ ap whole c.at-found.ensures in
    let start = c.span-start.result.0 in
    let end = c.span-start.result.1 in
    let gap_is : chars (take (start - at) c.loop-index.left.bytes) ≡ between content at (whole match).0 =
    ap (λ bs. chars (take (start - at) bs)) c.loop-index.invariant.1 ∙ ap (λ (p : ℕ × ℕ). between content at p.0) span in
    let all = replaced content template 0 matches in
    let built_is : c.append.new.self ≡ (c.loop-index.builder ++ between content at (whole match).0) ++ expand content match template =
    c.in-Ok.ensures.text
    ∙ ap (λ (l : List ℕ). l ++ chars c.as_str.result.now) (c.in_ok-copy.ensures.text ∙ ap (λ (l : List ℕ). c.loop-index.builder ++ l) gap_is)
    ∙ ap (λ l. (c.loop-index.builder ++ between content at (whole match).0) ++ l) (ap chars c.as_str.ensures.value ∙ step.text) in
    let left_is : c.copy.new.self.bytes ≡ drop start content =
    c.in_ok-copy.ensures.left ∙ ap (drop (start - at)) c.loop-index.invariant.1 ∙ drop-drop (start - at) at content
    ∙ ap (λ n. drop n content) (omega (arith, follow.0, ap (λ p. p.0) span)) in (
      subst (λ n. IsBuilt content template n rest c.append.new.self all) (sym at_is)
          (subst (λ l. IsBuilt content template (whole match).1 rest l all) (sym built_is)
          (built-more content template at match rest c.loop-index.builder all here)),
      c.skip.ensures ∙ ap (drop (end - start)) left_is ∙ drop-drop (end - start) start content
          ∙ ap (λ n. drop n content) (omega (arith, follow.1, ap (λ p. p.0) span, ap (λ p. p.1) span, at_is)),
      told-step content template matches k c.loop-index.told told change (text-utf8 _ c.len_bytes.ensures.cut.cut) inside c.loop-index.invariant.2 step,
      c.tell.ensures.parts ∙ c.loop-index.invariant.3,
    )
