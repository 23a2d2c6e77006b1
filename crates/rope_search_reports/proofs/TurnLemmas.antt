-- Reversed changes, and the lines that changes insert.
use Rattle.std.proofs.Common.{◌≡◌, ℕ, ◌+◌, ◌-◌, ◌<◌, ◌≤◌, true, List, [], ◌∷◌, ◌++◌, length, take, drop, chars, refl, sym, ap, subst, ◌∙◌, arith, append_assoc, append-nil}
use Rattle.std.specs.Str.{all_scalars}
use Rattle.std.proofs.Math.Seq.{take-append_seam, drop-append_seam}
use Rattle.std.proofs.lemmas.List.Sums.{sum_by-cons}
use Rattle.std.proofs.lemmas.Str.{chars-encodes, encodes-append}
use Rattle.str_indices.specs.Text.{byte_len}
use Rattle.rope_search_reports.specs.Text.{bytes_of, line_count}
use Rattle.rope_search_reports.specs.Changes.{AreChanges}
use Rattle.rope_search_reports.specs.Replacement.{between}
use Rattle.rope_search_reports.specs.Turned.{Lead, turned_from, turned_changes, lines_put, ChangesLeadBack, ChangesTurnTwice, ChangesPutLines}
use Rattle.rope_search_changes.specs.declared.Change.{Change}
use Rattle.rope_search_reports.proofs.LineLemmas.{byte_len-append}
use Rattle.rope_search_reports.proofs.PlaceLemmas.{scalars-parts}
use Rattle.rope_search_reports.proofs.WeaveLemmas.{change_at, drop-cons}

-- ---- reversed

back-from : (changes : List Change) (at_old at_new : ℕ) (old new : List ℕ) (n : ℕ) → AreChanges changes at_old at_new old new n
    → (m : ℕ) × AreChanges (turned_changes at_old at_new changes) at_new at_old new old m
back-from [] at_old at_new old new n are = (0, (sym are.0, refl))
back-from (c ∷ cs) at_old at_new old new n one =
    let later = back-from cs c.old_end c.new_end one.old_behind one.new_behind one.left one.further in (
      _,
      record {
        gap = one.gap;
        removed = one.inserted;
        inserted = one.removed;
        old_behind = one.new_behind;
        new_behind = one.old_behind;
        left = later.0;
        old_is = one.new_is;
        new_is = one.old_is;
        old_end = one.new_end;
        new_start = omega (arith, one.new_start);
        new_end = one.old_end;
        counts = refl;
        further = later.1;
      },
    )

pub lead_back : ChangesLeadBack
lead_back changes old new lead = back-from changes 0 0 old new lead.0 lead.1

twice-from : (changes : List Change) (at_old at_new : ℕ) (old new : List ℕ) (n : ℕ) → AreChanges changes at_old at_new old new n
    → turned_changes at_new at_old (turned_changes at_old at_new changes) ≡ changes
twice-from [] at_old at_new old new n are = refl
twice-from (c ∷ cs) at_old at_new old new n one =
    let start : at_new + (at_old + (c.new_start - at_new) - at_old) ≡ c.new_start = omega (arith, one.new_start) in
    ap (λ s. record { old_end = c.old_end; new_start = s; new_end = c.new_end } ∷ turned_changes c.new_end c.old_end (turned_changes c.old_end c.new_end cs)) start
    ∙ ap (λ xs. c ∷ xs) (twice-from cs c.old_end c.new_end one.old_behind one.new_behind one.left one.further)

pub turn_twice : ChangesTurnTwice
turn_twice changes old new lead = twice-from changes 0 0 old new lead.0 lead.1

-- ---- what changes insert

-- the text between the offsets of a text's part
part-between : (before part behind : List ℕ) (start end : ℕ) → all_scalars part ≡ true → start ≡ byte_len before → end ≡ byte_len before + byte_len part
    → between (bytes_of (before ++ part ++ behind)) start end ≡ part
part-between before part behind start end scalars starts ends =
    let front = bytes_of before in
    let here = bytes_of part in
    let all : bytes_of (before ++ part ++ behind) ≡ front ++ (here ++ bytes_of behind) =
    encodes-append (before ++ part) behind ∙ ap (λ bs. bs ++ bytes_of behind) (encodes-append before part) ∙ append_assoc front here (bytes_of behind) in
    let long : end - start ≡ length here = omega (arith, starts, ends) in
    ap (λ bs. between bs start end) all
    ∙ ap (λ n. chars (take n (drop start (front ++ (here ++ bytes_of behind))))) long
    ∙ ap (λ n. chars (take (length here) (drop n (front ++ (here ++ bytes_of behind))))) starts
    ∙ ap (λ bs. chars (take (length here) bs)) (drop-append_seam front (here ++ bytes_of behind))
    ∙ ap chars (take-append_seam here (bytes_of behind))
    ∙ chars-encodes part scalars

put-from : (changes : List Change) (before : List ℕ) (at_old : ℕ) (old new : List ℕ) (n : ℕ) → all_scalars new ≡ true
    → AreChanges changes at_old (byte_len before) old new n → n ≡ lines_put (bytes_of (before ++ new)) changes
put-from [] before at_old old new n scalars are = are.1
put-from (c ∷ cs) before at_old old new n scalars one =
    let front = before ++ one.gap in
    let whole : before ++ new ≡ (front ++ one.inserted) ++ one.new_behind =
    ap (λ t. before ++ t) one.new_is ∙ sym (append_assoc before (one.gap ++ one.inserted) one.new_behind)
    ∙ ap (λ t. t ++ one.new_behind) (sym (append_assoc before one.gap one.inserted)) in
    let split = scalars-parts (one.gap ++ one.inserted) one.new_behind (subst (λ t. all_scalars t ≡ true) one.new_is scalars) in
    let own : all_scalars one.inserted ≡ true = (scalars-parts one.gap one.inserted split.0).1 in
    let starts : c.new_start ≡ byte_len front = omega (arith, one.new_start, byte_len-append before one.gap) in
    let ends : c.new_end ≡ byte_len front + byte_len one.inserted = omega (arith, one.new_end, byte_len-append before one.gap) in
    let here : between (bytes_of (before ++ new)) c.new_start c.new_end ≡ one.inserted =
    ap (λ t. between (bytes_of t) c.new_start c.new_end) whole ∙ part-between front one.inserted one.new_behind c.new_start c.new_end own starts ends in
    let behind : c.new_end ≡ byte_len (front ++ one.inserted) = omega (arith, ends, byte_len-append front one.inserted) in
    let later : one.left ≡ lines_put (bytes_of ((front ++ one.inserted) ++ one.new_behind)) cs =
    put-from cs (front ++ one.inserted) c.old_end one.old_behind one.new_behind one.left split.1
    (subst (λ p. AreChanges cs c.old_end p one.old_behind one.new_behind one.left) behind one.further) in
    let left : one.left ≡ lines_put (bytes_of (before ++ new)) cs = later ∙ ap (λ t. lines_put (bytes_of t) cs) (sym whole) in
    let lines : line_count (between (bytes_of (before ++ new)) c.new_start c.new_end) ≡ line_count one.inserted = ap line_count here in
    omega (arith, one.counts, left, lines, sum_by-cons (λ (d : Change). line_count (between (bytes_of (before ++ new)) d.new_start d.new_end)) c cs)

pub put_lines : ChangesPutLines
put_lines changes old new n is are = put-from changes [] 0 old new n is are

-- ---- one after the other

-- The changes before these offsets are reversed; with those after them reversed too, the list is
-- complete.
pub record TurnsOn (at_old at_new : ℕ) (changes back all : List Change) : Type 0 where
  pub old : List ℕ
  pub new : List ℕ
  pub n : ℕ
  pub left : AreChanges changes at_old at_new old new n
  pub are : back ++ turned_changes at_old at_new changes ≡ all

pub turns-start : (changes back : List Change) (old new : List ℕ) → back ≡ [] → Lead changes old new → TurnsOn 0 0 changes back (turned_changes 0 0 changes)
turns-start changes back old new none lead = record {
  old = old;
  new = new;
  n = lead.0;
  left = lead.1;
  are = ap (λ cs. cs ++ turned_changes 0 0 changes) none;
}

pub turns-at : (at_old at_new : ℕ) (changes : List Change) (i : ℕ) (back all : List Change) → i < length changes
    → TurnsOn at_old at_new (drop i changes) back all → TurnsOn at_old at_new (change_at changes i ∷ drop (i + 1) changes) back all
turns-at at_old at_new changes i back all l t = subst (λ cs. TurnsOn at_old at_new cs back all) (drop-cons i changes (record { old_end = 0; new_start = 0; new_end = 0 }) l) t

pub turns-behind : (at_old at_new : ℕ) (c : Change) (changes back all : List Change) → TurnsOn at_old at_new (c ∷ changes) back all
    → (at_new ≤ c.new_start) × (at_old + (c.new_start - at_new) ≤ c.old_end)
turns-behind at_old at_new c changes back all t = (omega (arith, t.left.new_start), omega (arith, t.left.new_start, t.left.old_end))

pub turns-more : (at_old at_new : ℕ) (c : Change) (changes back back' all : List Change) → TurnsOn at_old at_new (c ∷ changes) back all
    → back' ≡ back ++ turned_from at_old at_new c ∷ [] → TurnsOn c.old_end c.new_end changes back' all
turns-more at_old at_new c changes back back' all t more = record {
  old = t.left.old_behind;
  new = t.left.new_behind;
  n = t.left.left;
  left = t.left.further;
  are =
      ap (λ cs. cs ++ turned_changes c.old_end c.new_end changes) more
      ∙ append_assoc back (turned_from at_old at_new c ∷ []) (turned_changes c.old_end c.new_end changes) ∙ t.are;
}

pub turns-all : (at_old at_new : ℕ) (changes back all : List Change) → changes ≡ [] → TurnsOn at_old at_new changes back all → back ≡ all
turns-all at_old at_new changes back all none t =
    sym (append-nil back) ∙ ap (λ cs. back ++ turned_changes at_old at_new cs) (sym none) ∙ t.are
