use Rattle.std.proofs.Common.{◌≡◌, ℕ, ◌+◌, ◌-◌, ◌<◌, ◌^◌, [], length, drop, slice_index_or, ap, sym, subst, ◌∙◌, arith, chars}
use Rattle.std.specs.Str.{IsCharBoundary}
use Rattle.std.proofs.lemmas.Str.{scalars-chars}
use Rattle.ropey.specs.Chunks.{text_of}
use Rattle.str_indices.specs.Text.{byte_len}
use Rattle.rope_search_changes.specs.Text.{bytes_of}
use Rattle.rope_search_changes.specs.Replacement.{replaced, whole, expand}
use Rattle.rope_search_changes.specs.declared.Change.{Change}
use Rattle.rope_search_templates.specs.Matches.{groups_in, matched}
use Rattle.rope_search_templates.specs.Told.{IsToldNext, IsToldOfNone, change_at}
use Rattle.rope_search_templates.proofs.ContentLemmas.{text-scalars, text-utf8, all-left}
use Rattle.rope_search_templates.proofs.EditingLemmas.{IsReplacedBefore, replaced-none, replaced-next, starts-there, ends-there, replaced-one}
use Rattle.rope_search_templates.proofs.ToldLemmas.{told-none, told-fits, told-step}
use Rattle.rope_search_templates.proofs.replacing.edited.Goals as goal

pub loop-index-init : goal.loop-index-init
loop-index-init c =
    let text = text_of c.args.text.now in
    let content = bytes_of text in
    let matches = matched c.args.matches.now in
    let cut = c.len_bytes.ensures.cut.cut in
    let left = all-left content matches (text-utf8 _ cut) c.requires.matches in
    let none : IsToldOfNone (length matches) c.in_ok-told.told = subst (λ n. IsToldOfNone n c.in_ok-told.told) c.len.ensures c.in_ok-told.ensures in (
      replaced-none text c.args.template.now matches _ _ _ (text-scalars _ cut) left none.at none.at_new (ap text_of c.in_ok-new.ensures.cases),
      told-none content c.args.template.now matches c.in_ok-told.told left none,
      c.of-parts.ensures,
    )

pub tell-requires-clause-fits : goal.tell-requires-clause-fits
tell-requires-clause-fits c =
    let content = bytes_of (text_of c.args.text.now) in
    let matches = matched c.args.matches.now in
    let inside : c.loop-index.index < length matches = omega (arith, c.loop-index-test.true, c.len-index-end.ensures) in
    rw c.loop-index.invariant.2 (subst (λ g. (change_at content c.args.template.now c.loop-index.told.at c.loop-index.told.at_new g).new_end < 2 ^ 63) (sym c.at-found.ensures)
    (told-fits content c.args.template.now matches c.loop-index.index (2 ^ 63) c.loop-index.told (text-utf8 _ c.len_bytes.ensures.cut.cut) inside c.loop-index.invariant.1 c.requires.fits))

pub byte_replace-requires : goal.byte_replace-requires
byte_replace-requires c =
    let content = bytes_of (text_of c.args.text.now) in
    let template = c.args.template.now in
    let matches = matched c.args.matches.now in
    let utf8 = text-utf8 _ c.len_bytes.ensures.cut.cut in
    let k = c.loop-index.index in
    let at = c.loop-index.told.at in
    let at_new = c.loop-index.told.at_new in
    let match = slice_index_or matches k [] in
    let rest = drop (k + 1) matches in
    let old = text_of c.loop-index.new in
    let all = replaced content template 0 matches in
    let inside : k < length matches = omega (arith, c.loop-index-test.true, c.len-index-end.ensures) in
    let next = replaced-next content template at at_new matches k old all inside c.loop-index.invariant.0 in
    let span = c.span-start.ensures ∙ ap whole c.at-found.ensures in
    let own = ap (λ ps. change_at (bytes_of (text_of ps)) template at at_new (groups_in c.at-found.result)) c.loop-index.invariant.2 in
    let change_is = c.in_ok-change.ensures.told.change_is ∙ own ∙ ap (change_at content template at at_new) c.at-found.ensures in
    let start : c.in_ok-change.change.new_start ≡ at_new + ((whole match).0 - at) = ap (λ (a : Change). a.new_start) change_is in
    let end : c.in_ok-change.change.new_start + (c.span-start.result.1 - c.span-start.result.0) ≡ at_new + ((whole match).0 - at) + ((whole match).1 - (whole match).0) =
    ap (λ n. n + (c.span-start.result.1 - c.span-start.result.0)) start ∙ ap (λ (p : ℕ × ℕ). at_new + ((whole match).0 - at) + (p.1 - p.0)) span in
    let stops = subst (IsCharBoundary (bytes_of old)) (sym end) (ends-there content template utf8 at at_new match rest old all next) in
    record {
      range = record { order = omega arith; within = stops.0 };
      starts = subst (IsCharBoundary (bytes_of old)) (sym start) (starts-there content template utf8 at at_new match rest old all next);
      stops = stops;
    }

pub loop-index-preserved : goal.loop-index-preserved
loop-index-preserved c =
    let content = bytes_of (text_of c.args.text.now) in
    let template = c.args.template.now in
    let matches = matched c.args.matches.now in
    let utf8 = text-utf8 _ c.len_bytes.ensures.cut.cut in
    let k = c.loop-index.index in
    let at = c.loop-index.told.at in
    let at_new = c.loop-index.told.at_new in
    let match = slice_index_or matches k [] in
    let rest = drop (k + 1) matches in
    let old = text_of c.loop-index.new in
    let new = text_of c.byte_replace.new.self in
    let all = replaced content template 0 matches in
    let inside : k < length matches = omega (arith, c.loop-index-test.true, c.len-index-end.ensures) in
    let next = replaced-next content template at at_new matches k old all inside c.loop-index.invariant.0 in
    let change = c.in_ok-change.change in
    let told = c.tell.new.self in
    let own : IsToldNext content template (groups_in c.at-found.result) c.loop-index.told told change =
    subst (λ ps. IsToldNext (bytes_of (text_of ps)) template (groups_in c.at-found.result) c.loop-index.told told change) c.loop-index.invariant.2 c.in_ok-change.ensures.told in
    let step : IsToldNext content template match c.loop-index.told told change = subst (λ g. IsToldNext content template g c.loop-index.told told change) c.at-found.ensures own in
    let span = c.span-start.ensures ∙ ap whole c.at-found.ensures in
    let start : change.new_start ≡ at_new + ((whole match).0 - at) = ap (λ (a : Change). a.new_start) step.change_is in
    let end : change.new_start + (c.span-start.result.1 - c.span-start.result.0) ≡ change.new_start + ((whole match).1 - (whole match).0) =
    ap (λ (p : ℕ × ℕ). change.new_start + (p.1 - p.0)) span in
    let told_is : chars c.as_str.result.now ≡ expand content match template = ap chars c.as_str.ensures.value ∙ step.text in
    let at_new_is : told.at_new ≡ change.new_start + byte_len (chars c.as_str.result.now) =
    step.at_new ∙ ap (λ (a : Change). a.new_end) step.change_is ∙ omega (arith, start, ap byte_len told_is) in
    let one = replaced-one content template utf8 at at_new match rest old all next (chars c.as_str.result.now) new change.new_start _ told.at_new
    c.in-Ok.ensures.text (scalars-chars c.as_str.result.now c.as_str.utf8) told_is start end at_new_is in (
      subst (λ n. IsReplacedBefore content template n told.at_new rest new all) (sym (step.at ∙ ap (λ (a : Change). a.old_end) step.change_is)) one,
      told-step content template matches k c.loop-index.told told change utf8 inside c.loop-index.invariant.1 step,
      c.tell.ensures.parts ∙ c.loop-index.invariant.2,
    )
