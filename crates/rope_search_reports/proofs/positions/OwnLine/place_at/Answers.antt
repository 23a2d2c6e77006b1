use Rattle.std.proofs.Common.{◌≡◌, ◌+◌, List, ℕ, chars, refl, subst, ap, arith}
use Rattle.std.specs.Prelude.{MatchOption, IfSome}
use Rattle.ropey.specs.Slices.{slice_text}
use Rattle.rope_search_reports.specs.Position.{line_text, IsNowhere, IsPlaceOf}
use Rattle.rope_search_reports.specs.Text.{line_count}
use Rattle.rope_search_reports.specs.declared.positions.Place.{Place}
use Rattle.rope_search_reports.proofs.ColumnPlaces.{off-line, on-line}
use Rattle.rope_search_reports.proofs.positions.OwnLine.place_at.Goals as goal

pub place_across-requires : goal.place_across-requires
place_across-requires c =
    let is = c.requires.2 in
    let inside = is.inside in
    omega (arith, inside, is.line_is, ap line_count is.whole_is)

pub returns-in_default : goal.returns-in_default
returns-in_default c = λ text line is.
    let own = c.args.self.now in
    let column = c.args.column in
    subst (λ (t : List ℕ). MatchOption c.place_across.result (IsNowhere t (line, column)) (IsPlaceOf t (line, column))) is.whole_is
    (subst (λ (l : ℕ). MatchOption c.place_across.result (IsNowhere (slice_text own.whole) (l, column)) (IsPlaceOf (slice_text own.whole) (l, column))) is.line_is c.place_across.ensures)

pub returns-in_err-own : goal.returns-in_err-own
returns-in_err-own c =
    rw (c.from_residual.ensures)
    (λ text line is. off-line text line c.args.column c.args.self.now (chars c.in-Some.text.now) is (subst (λ o. IfSome o (λ told. chars told.now ≡ line_text text line)) c.in-Some.is is.text_is) c.in_err-own.ensures)

pub overflow_add-result : goal.overflow_add-result
overflow_add-result c =
    let own = c.in_ok-own.own in
    let start = c.args.self.now.start in
    let text = c.requires.0 in
    let line = c.requires.1 in
    let is = c.requires.2 in
    let place : Place = record { byte_idx = start.byte_idx + own.byte_idx; char_idx = start.char_idx + own.char_idx } in
    let near = (on-line text line c.args.column c.args.self.now (chars c.in-Some.text.now) own place is (subst (λ o. IfSome o (λ told. chars told.now ≡ line_text text line)) c.in-Some.is is.text_is) c.in_ok-own.ensures refl refl).near in
    omega (arith, near, is.fits)

pub overflow_add-result-2 : goal.overflow_add-result-2
overflow_add-result-2 c =
    let own = c.in_ok-own.own in
    let start = c.args.self.now.start in
    let text = c.requires.0 in
    let line = c.requires.1 in
    let is = c.requires.2 in
    let place : Place = record { byte_idx = start.byte_idx + own.byte_idx; char_idx = start.char_idx + own.char_idx } in
    let few = (on-line text line c.args.column c.args.self.now (chars c.in-Some.text.now) own place is (subst (λ o. IfSome o (λ told. chars told.now ≡ line_text text line)) c.in-Some.is is.text_is) c.in_ok-own.ensures refl refl).few in
    omega (arith, few, is.fits)

pub returns : goal.returns
returns c = λ text line is. (on-line text line c.args.column c.args.self.now (chars c.in-Some.text.now) c.in_ok-own.own _ is (subst (λ o. IfSome o (λ told. chars told.now ≡ line_text text line)) c.in-Some.is is.text_is) c.in_ok-own.ensures refl refl).is
