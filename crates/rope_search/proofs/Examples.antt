-- Examples of the definitions on a few small lines and sessions, each by computation.
use Rattle.std.proofs.Common.{◌≡◌, ℕ, List, [], ◌∷◌, codes, refl, arith}
use Rattle.std.specs.Prelude.{Ok, Err, None}
use Rattle.std.specs.Str.{chars}
use Rattle.std.specs.Fmt.{digits}
use Rattle.std.proofs.Math.Utf8.{encode}
use Rattle.rope_search_io.specs.declared.faults.Fault.TheVariants.{Nothing, Range, Utf8, Pattern, Limit, Size, Memory}
use Rattle.rope_search.specs.declared.commands.Reply.TheVariants.{Done, Number, List as Listing, Print}
use Rattle.rope_search.specs.declared.endings.Ended.TheVariants.{Input, Command, Cut}
use Rattle.rope_search_reports.specs.Report.{line_texts}
use Rattle.rope_search.specs.Places.{IsBetween, IsEdit}
use Rattle.rope_search.specs.Session.{State, fresh, first_state, current_text, with_edit, undone, redone}
use Rattle.rope_search.specs.Reads.{digits_after}
use Rattle.rope_search.specs.Shows.{shows, closing}

-- ---- numbers

pub digits_zeros : digits_after 0 (codes "007") ≡ 7
digits_zeros = refl

pub digits_many : digits_after 0 (codes "18446744073709551615") ≡ 18446744073709551615
digits_many = refl

-- ---- what is written

-- a session with one buffer, with this text
abbrev pub session_of : List ℕ → State
session_of text = record { buffers = fresh text ∷ []; chosen = 0 }

pub shows_done : shows first_state [] (Ok Done) ≡ codes "ok\n"
shows_done = refl

pub shows_number : shows first_state [] (Ok (Number 12)) ≡ codes "ok 12\n"
unfolding digits
shows_number = refl

-- a text is shown after its number of bytes, and followed by an LF
pub shows_print : shows (session_of (codes "hi")) [] (Ok Print) ≡ codes "text 2\nhi\n"
unfolding digits encode
shows_print = refl

-- a report of two lines with one match each
pub shows_list : shows first_state (((0, 1) ∷ []) ∷ ((0, 1) ∷ []) ∷ []) (Ok Listing) ≡ codes "m 0 0 1\nm 1 0 1\nok 2\n"
unfolding digits
shows_list = refl

pub shows_empty : shows first_state [] (Ok Print) ≡ codes "text 0\n\n"
unfolding digits
shows_empty = refl

pub shows_nothing : shows first_state [] (Err Nothing) ≡ codes "error none\n"
shows_nothing = refl

pub shows_range : shows first_state [] (Err Range) ≡ codes "error range\n"
shows_range = refl

pub shows_utf8 : shows first_state [] (Err Utf8) ≡ codes "error utf8\n"
shows_utf8 = refl

pub shows_pattern : shows first_state [] (Err Pattern) ≡ codes "error pattern\n"
shows_pattern = refl

pub shows_limit : shows first_state [] (Err Limit) ≡ codes "error limit\n"
shows_limit = refl

pub shows_size : shows first_state [] (Err Size) ≡ codes "error size\n"
shows_size = refl

pub shows_memory : shows first_state [] (Err Memory) ≡ codes "error memory\n"
shows_memory = refl

pub closing_input : closing Input ≡ []
closing_input = refl

pub closing_command : closing Command ≡ codes "error command\n"
closing_command = refl

pub closing_cut : closing Cut ≡ codes "error end\n"
closing_cut = refl

-- ---- edits

-- an edit after an undo drops the texts that could be redone
pub edit_drops : with_edit (undone (with_edit (fresh (codes "a")) (codes "b"))) (codes "c")
    ≡ record { texts = codes "a" ∷ codes "c" ∷ []; current = 1; pattern = None }
edit_drops = refl

-- the text before the edit is current after an undo, and the other can be redone
pub undo_goes_back : current_text (undone (with_edit (fresh (codes "a")) (codes "b"))) ≡ codes "a"
undo_goes_back = refl

pub redo_goes_on : current_text (redone (undone (with_edit (fresh (codes "a")) (codes "b")))) ≡ codes "b"
redo_goes_on = refl

-- a CR LF is between the end of a line's text and the start of the next line
pub crlf_between : IsBetween (codes "ab\r\ncd") (record { line = 0; column = 2 }) (record { line = 1; column = 0 }) (codes "ab") (codes "\r\n") (codes "cd")
unfolding encode chars line_texts
crlf_between = record {
  scalars = refl;
  parts = refl;
  starts = record { boundary = (omega arith, λ inside high. omega (arith, high)); same = refl; within = omega arith };
  ends = record { boundary = (omega arith, λ inside high. omega (arith, high)); same = refl; within = omega arith };
}

-- replacing it joins the two lines
pub crlf_replaced : IsEdit (fresh (codes "ab\r\ncd")) (record { line = 0; column = 2 }) (record { line = 1; column = 0 }) (codes " ") (with_edit (fresh (codes "ab\r\ncd")) (codes "ab cd"))
crlf_replaced = record { before = codes "ab"; part = codes "\r\n"; behind = codes "cd"; between = crlf_between; changed = refl }
