use Rattle.std.proofs.Common.{◌+◌, ◌-◌, [], ◌++◌, length, drop, map, slice_index_or, refl, ap, sym, subst, ◌∙◌, arith, append-nil}
use Rattle.str_indices.specs.Text.{byte_len}
use Rattle.ropey.specs.Chunks.{text_of}
use Rattle.rope_search_changes.specs.Text.{bytes_of}
use Rattle.rope_search_templates.specs.declared.substitutions.Substitution.{Substitution as Given}
use Rattle.rope_search_templates.specs.Substitutions.{told, substituted, changes_by}
use Rattle.rope_search_templates.proofs.ContentLemmas.{text-utf8}
use Rattle.rope_search_templates.proofs.SubstitutionLemmas.{AreToldSoFar, all-ahead, given-text, len-none, len-more, told-next, told-last, told-more}
use Rattle.rope_search_templates.proofs.substitutions.changes_by.Goals.{then-limit-new_start-via-then-limit-new_start, then-limit-new_start-via-else-limit-new_start+then-limit-new_start-2}
use Rattle.rope_search_templates.proofs.substitutions.changes_by.Goals as goal

abbrev nothing : Given
nothing = record { start = 0; end = 0; text = record { ref_ptr = (0, 0); now = [] } }

pub loop-substitution-init : goal.loop-substitution-init
loop-substitution-init c = (
  record {
    ahead = all-ahead _ _ (text-utf8 _ c.len_bytes-text_len.ensures.cut.cut) c.requires.follow;
    changes_are = ap (λ cs. cs ++ changes_by 0 0 (map told c.args.substitutions.now)) c.in_ok-changes.ensures.items;
    len_is = omega arith;
    within = omega arith;
  },
  c.in_ok-changes.ensures.len,
  c.in_ok-changes.ensures.exact,
)

pub overflow_sub-new_start : goal.overflow_sub-new_start
overflow_sub-new_start c =
    let here = told-next _ _ _ _ c.args.substitutions.now c.loop-substitution.substitution-index nothing _ _ _ c.loop-substitution-test.true c.loop-substitution.invariant.0 in
    here.ahead.follow.0

pub overflow_add-new_start : goal.overflow_add-new_start
overflow_add-new_start c =
    let here = told-next _ _ _ _ c.args.substitutions.now c.loop-substitution.substitution-index nothing _ _ _ c.loop-substitution-test.true c.loop-substitution.invariant.0 in
    omega (arith, here.within, c.requires.limit, here.ahead.follow.2.0, c.len_bytes-text_len.ensures.bytes, c.len_bytes-text_len.ensures.fits)

pub returns-then-limit-new_start-clause-size : goal.returns-then-limit-new_start-clause-size
returns-then-limit-new_start-clause-size c =
    let all = c.args.substitutions.now in
    let i = c.loop-substitution.substitution-index in
    let one = told (slice_index_or all i nothing) in
    let utf8 = text-utf8 _ c.len_bytes-text_len.ensures.cut.cut in
    let here = told-next _ _ _ _ all i nothing _ _ _ c.loop-substitution-test.true c.loop-substitution.invariant.0 in
    let sizes = len-more (bytes_of (text_of c.args.text.now)) c.loop-substitution.at one (drop (i + 1) (map told all)) utf8 here.ahead in
    let own = given-text all i nothing c.loop-substitution-test.true c.requires.utf8 in
    elim c.then-limit-new_start.branch [
      | then-limit-new_start-via-then-limit-new_start w ↦ λ _. omega (arith, sizes, here.len_is, w.if-limit-new_start.true)
      | then-limit-new_start-via-else-limit-new_start+then-limit-new_start-2 w ↦ λ _. omega (arith, sizes, here.len_is, own, w.if-limit-new_start.false, w.if-limit-new_start-2.true)
    ]

pub loop-substitution-preserved : goal.loop-substitution-preserved
loop-substitution-preserved c =
    let all = c.args.substitutions.now in
    let i = c.loop-substitution.substitution-index in
    let given = slice_index_or all i nothing in
    let at = c.loop-substitution.at in
    let new_start = c.loop-substitution.at_new + (given.start - at) in
    let new_end = new_start + length given.text.now in
    let here = told-next _ _ _ _ all i nothing _ _ _ c.loop-substitution-test.true c.loop-substitution.invariant.0 in
    let own = given-text all i nothing c.loop-substitution-test.true c.requires.utf8 in
    let more = told-more (bytes_of (text_of c.args.text.now)) c.args.limit at c.loop-substitution.at_new (told given) (drop (i + 1) (map told all)) c.loop-substitution.changes.items
    (changes_by 0 0 (map told all)) (byte_len (substituted (bytes_of (text_of c.args.text.now)) 0 (map told all))) new_start new_end (text-utf8 _ c.len_bytes-text_len.ensures.cut.cut) here refl
    (ap (λ n. new_start + n) (sym own)) (omega (arith, c.if-limit-new_start.false, c.if-limit-new_start-2.false)) in (
      subst (λ cs. AreToldSoFar (bytes_of (text_of c.args.text.now)) c.args.limit given.end new_end (drop (i + 1) (map told all)) cs (changes_by 0 0 (map told all)) (byte_len (substituted (bytes_of (text_of c.args.text.now)) 0 (map told all))))
          (sym c.push_reserved.ensures.items) more,
      c.push_reserved.ensures.len ∙ ap (λ n. n + 1) c.loop-substitution.invariant.1,
      c.push_reserved.ensures.capacity ∙ c.loop-substitution.invariant.2,
    )

pub returns-then-limit-at_new-clause-size : goal.returns-then-limit-at_new-clause-size
returns-then-limit-at_new-clause-size c =
    let last = told-last _ _ _ _ c.args.substitutions.now c.loop-substitution.substitution-index _ _ _ (omega (arith, c.loop-substitution-test.false)) c.loop-substitution.invariant.0 in
    let rest = len-none (bytes_of (text_of c.args.text.now)) c.loop-substitution.at (text-utf8 _ c.len_bytes-text_len.ensures.cut.cut) last.ahead.here in
    λ _. omega (arith, rest, last.len_is, last.within, c.if-limit-at_new.true, c.len_bytes-text_len.ensures.bytes)

pub returns-clause-fits : goal.returns-clause-fits
returns-clause-fits c =
    let last = told-last _ _ _ _ c.args.substitutions.now c.loop-substitution.substitution-index _ _ _ (omega (arith, c.loop-substitution-test.false)) c.loop-substitution.invariant.0 in
    let rest = len-none (bytes_of (text_of c.args.text.now)) c.loop-substitution.at (text-utf8 _ c.len_bytes-text_len.ensures.cut.cut) last.ahead.here in
    omega (arith, rest, last.len_is, last.within, c.if-limit-at_new.false, c.len_bytes-text_len.ensures.bytes)

pub returns-clause-changes : goal.returns-clause-changes
returns-clause-changes c =
    let last = told-last _ _ _ _ c.args.substitutions.now c.loop-substitution.substitution-index _ _ _ (omega (arith, c.loop-substitution-test.false)) c.loop-substitution.invariant.0 in
    sym (append-nil c.loop-substitution.changes.items) ∙ last.changes_are
