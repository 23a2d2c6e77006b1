-- The number of lines after the last change.
use Rattle.std.proofs.Common.{◌≡◌, refl, ℕ, ◌+◌, ◌-◌, ◌<◌, ◌≤◌, min, List, ◌++◌, length, sym, ap, ◌∙◌, arith, length-drop}
use Rattle.str_indices.specs.Text.{breaks, break_ends, byte_len, ends_up_to}
use Rattle.str_indices.proofs.TextLaws.{conversion_there_and_back-lines, ends_behind_a_boundary-lines}
use Rattle.ropey.specs.Chunks.{is_break}
use Rattle.rope_search_reports.specs.Text.{line_count}
use Rattle.rope_search_reports.specs.Position.{line_at}
use Rattle.rope_search_reports.specs.Report.{line_texts}
use Rattle.rope_search_reports.specs.Drafts.{GoOnAlike, IsTeller, IsWalk}
use Rattle.rope_search_reports.proofs.LineLemmas.{byte_len-append, lines-counted}
use Rattle.rope_search_reports.proofs.PartLemmas.{past-last}

-- all breaks end up to the end
pub all-ended : (text : List ℕ) → line_at text (byte_len text) ≡ breaks is_break text
all-ended text =
    let count = breaks is_break text in
    let back : ends_up_to _ (break_ends is_break text) ≡ min (count + 1) (length (break_ends is_break text)) = conversion_there_and_back-lines is_break text (count + 1) in
    ap (line_at text) (sym (past-last text count refl)) ∙ back ∙ omega arith

-- those up to an offset, and those of the text after it
pub behind-it : (before after : List ℕ) → breaks is_break (before ++ after) ≡ line_at (before ++ after) (byte_len before) + ends_up_to (byte_len after) (break_ends is_break after)
behind-it before after =
    let all = before ++ after in
    let width : byte_len all - byte_len before ≡ byte_len after = omega (arith, byte_len-append before after) in
    sym (all-ended all) ∙ ends_behind_a_boundary-lines is_break before after (byte_len all) (omega (arith, byte_len-append before after))
    ∙ ap (λ n. line_at all (byte_len before) + ends_up_to n (break_ends is_break after)) width

-- the lines of offsets, from what a walk shows of a chunk
pub teller-of-walk : (text : List ℕ) (line byte : ℕ) (rest : List ℕ) → IsWalk text line byte rest → line < line_count text → IsTeller text rest byte line
teller-of-walk text line byte rest w below =
    let start = w.starts below in
    let shown = start.shown in
    let lines = ap length start.lines in
    let one = behind-it start.before start.behind in
    let own = ap (breaks is_break) start.parts in
    let here : line_at text byte ≡ line_at (start.before ++ start.behind) (byte_len start.before) = ap (line_at text) start.place ∙ ap (λ t. line_at t (byte_len start.before)) start.parts in
    record {
      before = start.before;
      after = shown.after;
      parts = start.parts ∙ ap (λ t. start.before ++ t) shown.parts;
      utf8 = w.utf8;
      start_is = start.place;
      line_is = omega (arith, lines, length-drop line (line_texts text), lines-counted text, lines-counted start.behind, one, own, here, all-ended start.behind, below);
      whole = shown.whole;
      fits = w.fits;
      bytes_fit = w.bytes_fit;
    }

pub record AreAsMany (old new : List ℕ) (old_end done : ℕ) : Type 0 where
  pub less : line_count new - done ≤ line_count old
  pub lines : line_count old - (line_count new - done) ≡ line_at old old_end + 1

pub as-many : (old new : List ℕ) (old_end done : ℕ) → GoOnAlike old new old_end done → AreAsMany old new old_end done
as-many old new old_end done h =
    let one = behind-it h.before h.after in
    let other = behind-it h.before' h.after in
    let old_is = ap (breaks is_break) h.old_is in
    let new_is = ap (breaks is_break) h.new_is in
    let place : line_at old old_end ≡ line_at (h.before ++ h.after) (byte_len h.before) = ap (line_at old) h.end_is ∙ ap (λ t. line_at t (byte_len h.before)) h.old_is in
    let there : done ≡ line_at (h.before' ++ h.after) (byte_len h.before') + 1 = h.done_is ∙ ap (λ t. line_at t (byte_len h.before') + 1) h.new_is in
    record {
      less = omega (arith, one, other, old_is, new_is, place, there);
      lines = omega (arith, one, other, old_is, new_is, place, there);
    }
