-- The ranges of a text that changes replace.
use Rattle.std.proofs.Common.{◌≡◌, ℕ, ◌+◌, ◌-◌, ◌<◌, ◌≤◌, Bool, true, false, inl, inr, List, [], ◌∷◌, ◌++◌, length, take, drop, map, min, set, slice_index_or, refl, sym, ap, subst, ◌∙◌, arith, append_assoc, append-nil, length-take}
use Rattle.std.specs.Str.{all_scalars, IsCharBoundary}
use Rattle.std.proofs.Math.Seq.{take-append_seam, drop-append_seam, set-append_seam, take-add}
use Rattle.std.proofs.lemmas.Bool.{cases_lt}
use Rattle.std.proofs.lemmas.List.{take-append-drop, drop-append-le, drop-drop, drop_all, take_all, length-map}
use Rattle.std.proofs.lemmas.Str.{encodes-append, IsCharBoundary-at_seam}
use Rattle.str_indices.specs.Text.{byte_len}
use Rattle.ropey.specs.Slices.{between}
use Rattle.rope_search_reports.specs.Text.{bytes_of}
use Rattle.rope_search_reports.specs.Changes.{AreChanges}
use Rattle.rope_search_reports.specs.Turned.{Lead}
use Rattle.rope_search_changes.specs.declared.Change.{Change}
use Rattle.rope_search_reports.proofs.LineLemmas.{byte_len-append}
use Rattle.rope_search_reports.proofs.PlaceLemmas.{scalars-parts}
use Rattle.rope_search_reports.proofs.WeaveLemmas.{change_at, drop-cons}
use Rattle.rope_search.specs.declared.text_changes.TextChange.{TextChange}
use Rattle.rope_search.specs.TextChanges.{ComesNext, RangesFollow, AreTextChanges, TextChangesMakeText, with_ranges, whole_change, range_from, ranges_from, ranges_of, range_in, ranges_in, turned_range}

-- ---- parts of a text in bytes

-- the bytes between the offsets of a text's part
part-bytes : (before part behind : List ℕ) (start end : ℕ) → start ≡ byte_len before → end ≡ byte_len before + byte_len part
    → between start end (bytes_of (before ++ part ++ behind)) ≡ bytes_of part
part-bytes before part behind start end starts ends =
    let front = bytes_of before in
    let here = bytes_of part in
    let all : bytes_of (before ++ part ++ behind) ≡ (front ++ here) ++ bytes_of behind =
    encodes-append (before ++ part) behind ∙ ap (λ bs. bs ++ bytes_of behind) (encodes-append before part) in
    let long : end ≡ length (front ++ here) = ends ∙ sym (byte_len-append before part) ∙ ap length (encodes-append before part) in
    ap (λ bs. drop start (take end bs)) all
    ∙ ap (λ n. drop start (take n ((front ++ here) ++ bytes_of behind))) long
    ∙ ap (drop start) (take-append_seam (front ++ here) (bytes_of behind))
    ∙ ap (λ n. drop n (front ++ here)) starts
    ∙ drop-append_seam front here

-- a part of a text starts at a character boundary
seam-boundary : (before behind : List ℕ) (at : ℕ) → all_scalars behind ≡ true → at ≡ byte_len before → IsCharBoundary (bytes_of (before ++ behind)) at
seam-boundary before behind at scalars is =
    subst (IsCharBoundary (bytes_of (before ++ behind))) (sym is)
    (IsCharBoundary-at_seam (bytes_of (before ++ behind)) (bytes_of before) (bytes_of behind) (encodes-append before behind) (behind, (scalars, refl)))

-- ---- changes from two offsets on

-- the text of a change, with the text before it
pub whole-of : (before gap part behind text : List ℕ) → text ≡ gap ++ part ++ behind → before ++ text ≡ ((before ++ gap) ++ part) ++ behind
whole-of before gap part behind text is =
    ap (λ t. before ++ t) is ∙ sym (append_assoc before (gap ++ part) behind) ∙ ap (λ t. t ++ behind) (sym (append_assoc before gap part))

follow-from : (changes : List Change) (before before' old new : List ℕ) (at at' n : ℕ) → at ≡ byte_len before → at' ≡ byte_len before'
    → all_scalars old ≡ true → all_scalars new ≡ true → AreChanges changes at at' old new n
    → RangesFollow (bytes_of (before ++ old)) (bytes_of (before' ++ new)) at at' (ranges_from at at' changes)
follow-from [] before before' old new at at' n here here' scalars scalars' are =
    ap (λ k. drop k (bytes_of (before ++ old))) here ∙ ap (drop (byte_len before)) (encodes-append before old) ∙ drop-append_seam (bytes_of before) (bytes_of old)
    ∙ ap bytes_of are.0
    ∙ sym (ap (λ k. drop k (bytes_of (before' ++ new))) here' ∙ ap (drop (byte_len before')) (encodes-append before' new) ∙ drop-append_seam (bytes_of before') (bytes_of new))
follow-from (c ∷ cs) before before' old new at at' n here here' scalars scalars' one =
    let front = before ++ one.gap in
    let front' = before' ++ one.gap in
    let whole = whole-of before one.gap one.removed one.old_behind old one.old_is in
    let whole' = whole-of before' one.gap one.inserted one.new_behind new one.new_is in
    let split = scalars-parts (one.gap ++ one.removed) one.old_behind (subst (λ t. all_scalars t ≡ true) one.old_is scalars) in
    let split' = scalars-parts (one.gap ++ one.inserted) one.new_behind (subst (λ t. all_scalars t ≡ true) one.new_is scalars') in
    let start = at + (c.new_start - at') in
    let starts : start ≡ byte_len front = omega (arith, one.new_start, here, byte_len-append before one.gap) in
    let starts' : c.new_start ≡ byte_len front' = omega (arith, one.new_start, here', byte_len-append before' one.gap) in
    let ends : c.old_end ≡ byte_len (front ++ one.removed) = omega (arith, one.old_end, here, byte_len-append before one.gap, byte_len-append front one.removed) in
    let ends' : c.new_end ≡ byte_len (front' ++ one.inserted) = omega (arith, one.new_end, here', byte_len-append before' one.gap, byte_len-append front' one.inserted) in
    let from-gap : before ++ old ≡ before ++ one.gap ++ (one.removed ++ one.old_behind) =
    whole ∙ append_assoc front one.removed one.old_behind in
    let from-gap' : before' ++ new ≡ before' ++ one.gap ++ (one.inserted ++ one.new_behind) =
    whole' ∙ append_assoc front' one.inserted one.new_behind in
    let behind-gap : all_scalars (one.removed ++ one.old_behind) ≡ true =
    (scalars-parts one.gap (one.removed ++ one.old_behind) (subst (λ t. all_scalars t ≡ true) (one.old_is ∙ append_assoc one.gap one.removed one.old_behind) scalars)).1 in
    let behind-gap' : all_scalars (one.inserted ++ one.new_behind) ≡ true =
    (scalars-parts one.gap (one.inserted ++ one.new_behind) (subst (λ t. all_scalars t ≡ true) (one.new_is ∙ append_assoc one.gap one.inserted one.new_behind) scalars')).1 in
    let next : ComesNext (bytes_of (before ++ old)) (bytes_of (before' ++ new)) at at' (range_from at at' c) = record {
      forward = omega arith;
      forward_new = omega (arith, one.new_start);
      ordered = omega (arith, one.new_start, one.old_end);
      ordered_new = omega (arith, one.new_start, one.new_end);
      starts = subst (λ t. IsCharBoundary (bytes_of t) start) (sym (whole ∙ append_assoc front one.removed one.old_behind)) (seam-boundary front (one.removed ++ one.old_behind) start behind-gap starts);
      starts_new = subst (λ t. IsCharBoundary (bytes_of t) c.new_start) (sym (whole' ∙ append_assoc front' one.inserted one.new_behind)) (seam-boundary front' (one.inserted ++ one.new_behind) c.new_start behind-gap' starts');
      ends = subst (λ t. IsCharBoundary (bytes_of t) c.old_end) (sym whole) (seam-boundary (front ++ one.removed) one.old_behind c.old_end split.1 ends);
      ends_new = subst (λ t. IsCharBoundary (bytes_of t) c.new_end) (sym whole') (seam-boundary (front' ++ one.inserted) one.new_behind c.new_end split'.1 ends');
      same =
          ap (λ t. between at start (bytes_of t)) from-gap
          ∙ part-bytes before one.gap (one.removed ++ one.old_behind) at start here (omega (arith, starts, byte_len-append before one.gap))
          ∙ sym (ap (λ t. between at' c.new_start (bytes_of t)) from-gap'
          ∙ part-bytes before' one.gap (one.inserted ++ one.new_behind) at' c.new_start here' (omega (arith, starts', byte_len-append before' one.gap)));
    } in
    let later = follow-from cs (front ++ one.removed) (front' ++ one.inserted) one.old_behind one.new_behind c.old_end c.new_end one.left ends ends' split.1 split'.1 one.further in (
      next,
      subst (λ t. RangesFollow (bytes_of t) (bytes_of (before' ++ new)) c.old_end c.new_end (ranges_from c.old_end c.new_end cs)) (sym whole)
          (subst (λ t. RangesFollow (bytes_of ((front ++ one.removed) ++ one.old_behind)) (bytes_of t) c.old_end c.new_end (ranges_from c.old_end c.new_end cs)) (sym whole') later),
    )

-- ---- of a text

pub led-ranges : (changes : List Change) (old new : List ℕ) → all_scalars old ≡ true → all_scalars new ≡ true → Lead changes old new → AreTextChanges old new (ranges_of changes)
led-ranges changes old new scalars scalars' lead = follow-from changes [] [] old new 0 0 lead.0 refl refl scalars scalars' lead.1

turned-follow : (ranges : List TextChange) (old new : List ℕ) (at at' : ℕ) → RangesFollow old new at at' ranges → RangesFollow new old at' at (map turned_range ranges)
turned-follow [] old new at at' follow = sym follow
turned-follow (r ∷ rs) old new at at' follow = (
  record {
    forward = follow.0.forward_new;
    forward_new = follow.0.forward;
    ordered = follow.0.ordered_new;
    ordered_new = follow.0.ordered;
    starts = follow.0.starts_new;
    starts_new = follow.0.starts;
    ends = follow.0.ends_new;
    ends_new = follow.0.ends;
    same = sym follow.0.same;
  },
  turned-follow rs old new r.old_end r.new_end follow.1,
)

pub back-ranges : (changes : List Change) (old new : List ℕ) → all_scalars old ≡ true → all_scalars new ≡ true → Lead changes old new → AreTextChanges new old (map turned_range (ranges_of changes))
back-ranges changes old new scalars scalars' lead = turned-follow (ranges_of changes) (bytes_of old) (bytes_of new) 0 0 (led-ranges changes old new scalars scalars' lead)

-- one change leads from any text to any other
pub whole-lead : (old new : List ℕ) → Lead (whole_change (byte_len old) (byte_len new) ∷ []) old new
whole-lead old new = (
  _,
  record {
    gap = [];
    removed = old;
    inserted = new;
    old_behind = [];
    new_behind = [];
    left = 0;
    old_is = sym (append-nil old);
    new_is = sym (append-nil new);
    old_end = omega arith;
    new_start = omega arith;
    new_end = omega arith;
    counts = refl;
    further = (refl, refl);
  },
)

-- ---- with its ranges the old text is the new one

rejoined : (a b : ℕ) (xs : List ℕ) → a ≤ b → b ≤ length xs → between a b xs ++ drop b xs ≡ drop a xs
rejoined a b xs ordered within =
    sym (drop-append-le a (take b xs) (drop b xs) (omega (arith, ordered, within, length-take b xs))) ∙ ap (drop a) (take-append-drop b xs)

ranges-made : (ranges : List TextChange) (old new : List ℕ) (at at' : ℕ) → RangesFollow old new at at' ranges → with_ranges old new at ranges ≡ drop at' new
ranges-made [] old new at at' follow = follow
ranges-made (r ∷ rs) old new at at' follow =
    let n = follow.0 in
    let gap = between at' r.new_start new in
    let put = between r.new_start r.new_end new in
    ap (λ t. t ++ put ++ with_ranges old new r.old_end rs) n.same
    ∙ ap (λ t. gap ++ put ++ t) (ranges-made rs old new r.old_end r.new_end follow.1)
    ∙ append_assoc gap put (drop r.new_end new)
    ∙ ap (λ t. gap ++ t) (rejoined r.new_start r.new_end new n.ordered_new n.ends_new.0)
    ∙ rejoined at' r.new_start new n.forward_new n.starts_new.0

pub make_text : TextChangesMakeText
make_text old new ranges are = ranges-made ranges (bytes_of old) (bytes_of new) 0 0 are

-- ---- written to a buffer's start, one after the other

-- the ranges of changes from two offsets on, or of their reverse
abbrev pub ranges_on : Bool → ℕ → ℕ → List Change → List TextChange
ranges_on false at at' changes = ranges_from at at' changes
ranges_on true at at' changes = map turned_range (ranges_from at at' changes)

on-start : (is_back : Bool) (changes : List Change) → ranges_in is_back changes ≡ ranges_on is_back 0 0 changes
on-start false changes = refl
on-start true changes = refl

on-next : (is_back : Bool) (at at' : ℕ) (c : Change) (cs : List Change)
    → ranges_on is_back at at' (c ∷ cs) ≡ range_in is_back (range_from at at' c) ∷ ranges_on is_back c.old_end c.new_end cs
on-next false at at' c cs = refl
on-next true at at' c cs = refl

on-none : (is_back : Bool) (at at' : ℕ) → ranges_on is_back at at' [] ≡ []
on-none false at at' = refl
on-none true at at' = refl

from-length : (changes : List Change) (at at' : ℕ) → length (ranges_from at at' changes) ≡ length changes
from-length [] at at' = refl
from-length (c ∷ cs) at at' = omega (arith, from-length cs c.old_end c.new_end)

pub ranges-length : (is_back : Bool) (changes : List Change) → length (ranges_in is_back changes) ≡ length changes
ranges-length false changes = from-length changes 0 0
ranges-length true changes = length-map (ranges_from 0 0 changes) turned_range ∙ from-length changes 0 0

-- Changes from an index on are left; the ranges of those before them are at the buffer's start.
pub record RangesPut (is_back : Bool) (changes : List Change) (k at at' : ℕ) (first out : List TextChange) : Type 0 where
  pub old : List ℕ
  pub new : List ℕ
  pub n : ℕ
  pub left : AreChanges (drop k changes) at at' old new n
  pub are : drop k (ranges_in is_back changes) ≡ ranges_on is_back at at' (drop k changes)
  pub put : out ≡ take k (ranges_in is_back changes) ++ drop k first

pub put-start : (is_back : Bool) (changes : List Change) (first : List TextChange) (old new : List ℕ) → Lead changes old new → RangesPut is_back changes 0 0 0 first first
put-start is_back changes first old new lead = record {
  old = old;
  new = new;
  n = lead.0;
  left = lead.1;
  are = on-start is_back changes;
  put = refl;
}

pub put-behind : (is_back : Bool) (changes : List Change) (k at at' : ℕ) (first out : List TextChange) → k < length changes → RangesPut is_back changes k at at' first out
    → (at' ≤ (change_at changes k).new_start) × (at + ((change_at changes k).new_start - at') ≤ (change_at changes k).old_end)
put-behind is_back changes k at at' first out low p =
    let left = subst (λ cs. AreChanges cs at at' p.old p.new p.n) (drop-cons k changes (record { old_end = 0; new_start = 0; new_end = 0 }) low) p.left in
    (omega (arith, left.new_start), omega (arith, left.new_start, left.old_end))

take-next : {A : Type 0} (xs : List A) (k : ℕ) (x : A) (rest : List A) → drop k xs ≡ x ∷ rest → take (k + 1) xs ≡ take k xs ++ x ∷ []
take-next xs k x rest is = take-add k 1 xs ∙ ap (λ l. take k xs ++ take 1 l) is

pub put-more : (is_back : Bool) (changes : List Change) (k at at' : ℕ) (first out : List TextChange) (x : TextChange) → k < length changes → k < length first
    → x ≡ range_in is_back (range_from at at' (change_at changes k)) → RangesPut is_back changes k at at' first out
    → RangesPut is_back changes (k + 1) (change_at changes k).old_end (change_at changes k).new_end first (set out k x)
put-more is_back changes k at at' first out x low room is p =
    let c = change_at changes k in
    let all = ranges_in is_back changes in
    let rest = drop (k + 1) changes in
    let cut = drop-cons k changes (record { old_end = 0; new_start = 0; new_end = 0 }) low in
    let left = subst (λ cs. AreChanges cs at at' p.old p.new p.n) cut p.left in
    let here : drop k all ≡ x ∷ ranges_on is_back c.old_end c.new_end rest =
    p.are ∙ ap (ranges_on is_back at at') cut ∙ on-next is_back at at' c rest ∙ ap (λ y. y ∷ ranges_on is_back c.old_end c.new_end rest) (sym is) in
    let long : length (take k all) ≡ k = omega (arith, length-take k all, ranges-length is_back changes, low) in
    let y = slice_index_or first k x in
    record {
      old = left.old_behind;
      new = left.new_behind;
      n = left.left;
      left = left.further;
      are = sym (drop-drop 1 k all) ∙ ap (drop 1) here;
      put =
          ap (λ l. set l k x) (p.put ∙ ap (λ l. take k all ++ l) (drop-cons k first x room))
          ∙ ap (λ n. set (take k all ++ y ∷ drop (k + 1) first) n x) (sym long)
          ∙ set-append_seam (take k all) y (drop (k + 1) first) x
          ∙ sym (append_assoc (take k all) (x ∷ []) (drop (k + 1) first))
          ∙ ap (λ l. l ++ drop (k + 1) first) (sym (take-next all k x (ranges_on is_back c.old_end c.new_end rest) here));
    }

-- all that fit
pub put-all : (is_back : Bool) (changes : List Change) (k at at' : ℕ) (first out : List TextChange) → k ≡ min (length changes) (length first)
    → RangesPut is_back changes k at at' first out → out ≡ take (length first) (ranges_in is_back changes) ++ drop (length (ranges_in is_back changes)) first
put-all is_back changes k at at' first out is p =
    let all = ranges_in is_back changes in
    let long : length all ≡ length changes = ranges-length is_back changes in
    elim (cases_lt (length first) (length changes)) [
      | inr fits ↦
          let here : k ≡ length all = omega (arith, is, fits, long) in
          p.put ∙ ap (λ n. take n all ++ drop n first) here ∙ ap (λ l. l ++ drop (length all) first) (take_all (length all) all (omega arith) ∙ sym (take_all (length first) all (omega (arith, fits, long))))
      | inl full ↦
          let here : k ≡ length first = omega (arith, is, full) in
          p.put ∙ ap (λ n. take n all ++ drop n first) here
          ∙ ap (λ l. take (length first) all ++ l) (drop_all (length first) first (omega arith) ∙ sym (drop_all (length all) first (omega (arith, full, long))))
    ]

-- ---- in another form

pub tells-ranges : (a a' b b' : List ℕ) (r r' : List TextChange) → a ≡ a' → b ≡ b' → r ≡ r' → AreTextChanges a b r → AreTextChanges a' b' r'
tells-ranges a a' b b' r r' one two three told =
    subst (λ x. AreTextChanges x b' r') one (subst (λ x. AreTextChanges a x r') two (subst (AreTextChanges a b) three told))
