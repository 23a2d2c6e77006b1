use Rattle.std.proofs.Common.{◌≡◌, List, ℕ, ◌<◌, ◌≤◌, length, refl, ap, subst, ◌∙◌, arith}
use Rattle.ropey.specs.Slices.{slice_text}
use Rattle.str_indices.specs.Text.{byte_len}
use Rattle.rope_search_reports.specs.Position.{line_text}
use Rattle.rope_search_reports.specs.Text.{bytes_of, line_count}
use Rattle.rope_search.specs.Session.{current_text}
use Rattle.rope_search_c.specs.Reading.{text_in, with_front}
use Rattle.rope_search_c.proofs.counting.CountingSession.copy_line.Goals as goal

pub returns-in_default : goal.returns-in_default
returns-in_default c = (
  λ inside.
      let past = subst (λ b. line_count (current_text b) ≤ c.args.line) c.buffer.ensures.state c.in_default.ensures.range in
      absurd (omega (arith, inside, past)),
  refl,
)

pub returns-then-out-len_bytes : goal.returns-then-out-len_bytes
returns-then-out-len_bytes c =
    let own : slice_text c.in-Ok.own ≡ line_text (text_in c.args.self.now) c.args.line =
    c.in-Ok.ensures.text ∙ ap (λ b. line_text (current_text b) c.args.line) c.buffer.ensures.state in (
      λ inside. omega (arith, c.if-out-len_bytes.true, c.len_bytes.ensures.bytes, ap byte_len own),
      refl,
    )

pub returns : goal.returns
returns c =
    let own : slice_text c.in-Ok.own ≡ line_text (text_in c.args.self.now) c.args.line =
    c.in-Ok.ensures.text ∙ ap (λ b. line_text (current_text b) c.args.line) c.buffer.ensures.state in (
      subst (λ b. c.args.line < line_count (current_text b)) c.buffer.ensures.state c.in-Ok.ensures.inside,
      omega (arith, c.if-out-len_bytes.false, c.len_bytes.ensures.bytes, ap byte_len own),
      c.put_text.ensures ∙ ap (λ t. with_front (bytes_of t) c.args.out.now) own,
    )
