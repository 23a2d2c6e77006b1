use Rattle.std.proofs.Common.{◌≡◌, Err, length, refl, sym, ap, subst, ◌∙◌}
use Rattle.std.specs.Str.{chars}
use Rattle.std.proofs.lemmas.Result.{on_ok_weaker}
use Rattle.rope_search_reports.specs.Text.{IsText}
use Rattle.rope_search_reports.specs.declared.positions.Position.{Position}
use Rattle.rope_search.specs.ByteEdits.{ForBytes}
use Rattle.rope_search.specs.Places.{GetsTooLong}
use Rattle.rope_search.specs.Session.{current_text}
use Rattle.rope_search.proofs.ByteEditLemmas.{no-range, none-between, of-any}
use Rattle.rope_search.proofs.PartLaws.{cutting_scalars}
use Rattle.rope_search.proofs.buffer.Buffer.edit_bytes.Goals as goal

pub returns-in_default-clause-range : goal.returns-in_default-clause-range
returns-in_default-clause-range c = (λ _. λ start stop there ordered. c.in_default.ensures.range start stop there, λ _. refl)

pub returns-in_default-clause-size : goal.returns-in_default-clause-size
returns-in_default-clause-size c = (λ e. absurd (cc), λ f. absurd (c.in_default.ensures.range f.start f.stop f.at))

pub returns-clause-ok : goal.returns-clause-ok
returns-clause-ok c =
    let told : Position × Position = (c.in-Ok.start, c.in-Ok.stop) in
    on_ok_weaker c.edit.result (λ holds. record { start = told.0; stop = told.1; at = c.in-Ok.ensures.at; holds = holds }) c.edit.ensures.ok

pub returns-clause-kept : goal.returns-clause-kept
returns-clause-kept c =
    let told : Position × Position = (c.in-Ok.start, c.in-Ok.stop) in
    on_ok_weaker c.edit.result (λ holds. record { start = told.0; stop = told.1; at = c.in-Ok.ensures.at; holds = holds }) c.edit.ensures.kept

pub returns-clause-range : goal.returns-clause-range
returns-clause-range c =
    let told : Position × Position = (c.in-Ok.start, c.in-Ok.stop) in
    let text = current_text c.args.self.now.state in
    let scalars : IsText text = subst IsText c.text.ensures.text (cutting_scalars c.text.result.now c.len_bytes.ensures.cut.cut) in (
      λ e. no-range text c.args.from c.args.to told.0 told.1 scalars c.in-Ok.ensures.at (c.edit.ensures.range.0 e),
      λ none. c.edit.ensures.range.1 (none-between text c.args.from c.args.to told.0 told.1 scalars c.in-Ok.ensures.at none),
    )

pub returns-clause-size : goal.returns-clause-size
returns-clause-size c =
    let told : Position × Position = (c.in-Ok.start, c.in-Ok.stop) in
    let text = current_text c.args.self.now.state in (
      λ e. record { start = told.0; stop = told.1; at = c.in-Ok.ensures.at; holds = c.edit.ensures.size.0 e },
      λ f. c.edit.ensures.size.1
          (of-any text c.args.from c.args.to f.start f.stop told.0 told.1 (λ p q. GetsTooLong c.args.self.now.limit text p q (length c.args.inserted.now)) f.at c.in-Ok.ensures.at f.holds),
    )
