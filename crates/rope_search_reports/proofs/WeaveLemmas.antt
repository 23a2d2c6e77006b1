-- The patches of several changes, one after the other.
use Rattle.std.proofs.Common.{◌≡◌, ℕ, zero, suc, ◌+◌, ◌-◌, ◌<◌, ◌≤◌, List, [], ◌∷◌, ◌++◌, length, take, drop, slice_index_or, refl, sym, ap, subst, ◌∙◌, inl, inr, arith, append_assoc, append-nil}
use Rattle.std.specs.Prelude.{max}
use Rattle.std.proofs.Common.{nat_cmp}
use Rattle.std.specs.Ordering.{ord_max}
use Rattle.std.proofs.lemmas.Bool.Decides.{nat_tests}
use Rattle.std.proofs.lemmas.List.{drop_all}
use Rattle.str_indices.specs.Text.{byte_len, breaks}
use Rattle.str_indices.proofs.TextLaws.{from_byte_idx_is_monotone-lines}
use Rattle.ropey.specs.Chunks.{is_break}
use Rattle.rope_search_reports.specs.Report.{line_texts}
use Rattle.rope_search_reports.specs.Position.{line_at}
use Rattle.rope_search_reports.specs.Report.{AreRows, IsReport}
use Rattle.rope_search_reports.specs.Changes.{IsInStep, IsFurther}
use Rattle.rope_search_reports.specs.Changes.{AreChanges}
use Rattle.rope_search_changes.specs.declared.Change.{Change}
use Rattle.rope_search_reports.specs.declared.patches.Patch.{Patch}
use Rattle.rope_search_reports.specs.Patches.{patched, AreInTurn}
use Rattle.rope_search_reports.specs.Drafts.{AddsRowsOf, GoOnAlike, IsPatchAdded}
use Rattle.rope_search_reports.specs.declared.changes.Splice.{Splice}
use Rattle.rope_search_reports.proofs.LineLemmas.{byte_len-append}
use Rattle.rope_search_reports.proofs.ReportLaws.{AreRows-join}
use Rattle.rope_search_reports.proofs.SpliceLemmas.{AreRows-take, AreRows-drop}
use Rattle.rope_search_reports.proofs.ChangeLemmas.{changes_keep, tails_keep}

-- ---- one more patch

-- the rows up to the last patch's end, and where that is
abbrev up_to : ℕ → List (List (ℕ × ℕ)) → List Patch → List (List (ℕ × ℕ))
up_to at rows [] = []
up_to at rows (p ∷ ps) = take (p.first - at) (drop at rows) ++ (p.made.items ++ up_to p.end rows ps)

abbrev end_of : ℕ → List Patch → ℕ
end_of at [] = at
end_of at (p ∷ ps) = end_of p.end ps

patched-up_to : (at : ℕ) (rows : List (List (ℕ × ℕ))) (ps : List Patch) → patched at rows ps ≡ up_to at rows ps ++ drop (end_of at ps) rows
patched-up_to at rows [] = refl
patched-up_to at rows (p ∷ ps) =
    let kept = take (p.first - at) (drop at rows) in
    append_assoc kept p.made.items (patched p.end rows ps)
    ∙ ap (λ xs. kept ++ (p.made.items ++ xs)) (patched-up_to p.end rows ps)
    ∙ ap (λ xs. kept ++ xs) (sym (append_assoc p.made.items (up_to p.end rows ps) (drop (end_of p.end ps) rows)))
    ∙ sym (append_assoc kept (p.made.items ++ up_to p.end rows ps) (drop (end_of p.end ps) rows))

up_to-more : (at : ℕ) (rows : List (List (ℕ × ℕ))) (ps : List Patch) (p : Patch)
    → up_to at rows (ps ++ p ∷ []) ≡ up_to at rows ps ++ (take (p.first - end_of at ps) (drop (end_of at ps) rows) ++ p.made.items)
up_to-more at rows [] p = ap (λ xs. take (p.first - at) (drop at rows) ++ xs) (append-nil p.made.items)
up_to-more at rows (q ∷ qs) p =
    let kept = take (q.first - at) (drop at rows) in
    let more = take (p.first - end_of q.end qs) (drop (end_of q.end qs) rows) ++ p.made.items in
    ap (λ xs. kept ++ (q.made.items ++ xs)) (up_to-more q.end rows qs p)
    ∙ ap (λ xs. kept ++ xs) (sym (append_assoc q.made.items (up_to q.end rows qs) more))
    ∙ sym (append_assoc kept (q.made.items ++ up_to q.end rows qs) more)

end_of-more : (at : ℕ) (ps : List Patch) (p : Patch) → end_of at (ps ++ p ∷ []) ≡ p.end
end_of-more at [] p = refl
end_of-more at (q ∷ qs) p = end_of-more q.end qs p

turn-more : (at : ℕ) (ps : List Patch) (p : Patch) → AreInTurn at (end_of at ps) ps → end_of at ps ≤ p.first → p.first ≤ p.end → AreInTurn at p.end (ps ++ p ∷ [])
turn-more at [] p turn low high = (low, high, omega arith)
turn-more at (q ∷ qs) p turn low high = (turn.0, turn.1, turn-more q.end qs p turn.2 low high)

turn-to : (at len len' : ℕ) (ps : List Patch) → len ≤ len' → AreInTurn at len ps → AreInTurn at len' ps
turn-to at len len' [] more turn = omega (arith, more, turn)
turn-to at len len' (p ∷ ps) more turn = (turn.0, turn.1, turn-to p.end len len' ps more turn.2)

-- ---- the patches so far

-- The changes up to an offset of both texts are done: these patches make the rows of the new text's
-- first lines, and the other changes may have `n` more lines searched.
pub record Woven (pattern old new : List ℕ) (changes : List Change) (n kept done : ℕ) (patches : List Patch) : Type 0 where
  pub before : List ℕ
  pub before' : List ℕ
  pub after : List ℕ
  pub after' : List ℕ
  pub old_is : old ≡ before ++ after
  pub new_is : new ≡ before' ++ after'
  pub step : IsInStep before before' after after' kept done
  pub left : AreChanges changes (byte_len before) (byte_len before') after after' n
  pub turn : AreInTurn 0 (end_of 0 patches) patches
  pub ends : end_of 0 patches ≡ kept
  pub within : kept ≤ length (line_texts old)
  pub rows : (all : List (List (ℕ × ℕ))) → IsReport old pattern all → AreRows pattern (take done (line_texts new)) (up_to 0 all patches)

pub Woven-start : (pattern old new : List ℕ) (changes : List Change) (n : ℕ) (patches : List Patch) → patches ≡ [] → AreChanges changes 0 0 old new n → Woven pattern old new changes n 0 0 patches
Woven-start pattern old new changes n patches none are = subst (λ ps. Woven pattern old new changes n 0 0 ps) (sym none) (record {
  before = [];
  before' = [];
  after = old;
  after' = new;
  old_is = refl;
  new_is = refl;
  step = inl (record { old = refl; new = refl; none = refl; none_new = refl });
  left = are;
  turn = omega arith;
  ends = refl;
  within = omega arith;
  rows = λ all is. tt;
})

-- the next change, by its parts
pub record Next (old new : List ℕ) (c : Change) (left : List Change) (n kept done : ℕ) : Type 0 where
  pub inserted : List ℕ
  pub others : ℕ
  pub counts : n ≡ breaks is_break inserted + 1 + others
  pub before : List ℕ
  pub before' : List ℕ
  pub after : List ℕ
  pub after' : List ℕ
  pub old_is : old ≡ before ++ after
  pub new_is : new ≡ before' ++ after'
  pub old_end : c.old_end ≡ byte_len before
  pub new_end : c.new_end ≡ byte_len before'
  pub old_within : c.old_end ≤ byte_len old
  pub new_within : c.new_end ≤ byte_len new
  pub new_ordered : c.new_start ≤ c.new_end
  pub further : AreChanges left (byte_len before) (byte_len before') after after' others
  pub lines : IsFurther old new kept done (max (line_at new c.new_start) done) (line_at new c.new_end) (line_at old c.old_end)
  pub few : line_at new c.new_end + 1 - max (line_at new c.new_start) done ≤ breaks is_break inserted + 1

four : (a b c d : List ℕ) → a ++ (b ++ c ++ d) ≡ a ++ b ++ c ++ d
four a b c d = sym (append_assoc a (b ++ c) d) ∙ ap (λ xs. xs ++ d) (sym (append_assoc a b c))

len-two : (a b : List ℕ) → byte_len (a ++ b) ≡ byte_len a + byte_len b
len-two a b = byte_len-append a b

len-three : (a b c : List ℕ) → byte_len (a ++ b ++ c) ≡ byte_len a + byte_len b + byte_len c
len-three a b c = omega (arith, byte_len-append (a ++ b) c, byte_len-append a b)

pub next-of : (pattern old new : List ℕ) (c : Change) (left : List Change) (n kept done : ℕ) (patches : List Patch) → Woven pattern old new (c ∷ left) n kept done patches
    → Next old new c left n kept done
next-of pattern old new c left n kept done patches w =
    let one = w.left in
    let b = w.before in
    let b' = w.before' in
    let old_is : old ≡ b ++ one.gap ++ one.removed ++ one.old_behind = w.old_is ∙ ap (λ t. b ++ t) one.old_is ∙ four b one.gap one.removed one.old_behind in
    let new_is : new ≡ b' ++ one.gap ++ one.inserted ++ one.new_behind = w.new_is ∙ ap (λ t. b' ++ t) one.new_is ∙ four b' one.gap one.inserted one.new_behind in
    let e : c.old_end ≡ byte_len (b ++ one.gap ++ one.removed) = one.old_end ∙ sym (len-three b one.gap one.removed) in
    let s : c.new_start ≡ byte_len (b' ++ one.gap) = one.new_start ∙ sym (len-two b' one.gap) in
    let t : c.new_end ≡ byte_len (b' ++ one.gap ++ one.inserted) = one.new_end ∙ sym (len-three b' one.gap one.inserted) in
    let step : IsInStep b b' (one.gap ++ one.removed ++ one.old_behind) (one.gap ++ one.inserted ++ one.new_behind) kept done =
    subst (λ xs. IsInStep b b' xs (one.gap ++ one.inserted ++ one.new_behind) kept done) one.old_is
    (subst (λ xs. IsInStep b b' w.after xs kept done) one.new_is w.step) in
    let told = changes_keep b b' one.gap one.removed one.inserted one.old_behind one.new_behind kept done step in
    record {
      inserted = one.inserted;
      others = one.left;
      counts = one.counts;
      before = b ++ one.gap ++ one.removed;
      before' = b' ++ one.gap ++ one.inserted;
      after = one.old_behind;
      after' = one.new_behind;
      old_is = old_is;
      new_is = new_is;
      old_end = e;
      new_end = t;
      old_within = omega (arith, e, ap byte_len old_is, byte_len-append (b ++ one.gap ++ one.removed) one.old_behind);
      new_within = omega (arith, t, ap byte_len new_is, byte_len-append (b' ++ one.gap ++ one.inserted) one.new_behind);
      new_ordered = omega (arith, one.new_start, one.new_end);
      further =
          subst (λ k. AreChanges left k (byte_len (b' ++ one.gap ++ one.inserted)) one.old_behind one.new_behind one.left) e
          (subst (λ k. AreChanges left c.old_end k one.old_behind one.new_behind one.left) t one.further);
      lines =
          rw (e, s, t) (subst (λ x. IsFurther x new kept done (max (line_at new (byte_len (b' ++ one.gap))) done) (line_at new (byte_len (b' ++ one.gap ++ one.inserted))) (line_at x (byte_len (b ++ one.gap ++ one.removed)))) (sym old_is)
          (subst (λ y. IsFurther (b ++ one.gap ++ one.removed ++ one.old_behind) y kept done (max (line_at y (byte_len (b' ++ one.gap))) done) (line_at y (byte_len (b' ++ one.gap ++ one.inserted)))
          (line_at (b ++ one.gap ++ one.removed ++ one.old_behind) (byte_len (b ++ one.gap ++ one.removed)))) (sym new_is) told.0));
      few =
          rw (s, t) (subst (λ y. line_at y (byte_len (b' ++ one.gap ++ one.inserted)) + 1 - max (line_at y (byte_len (b' ++ one.gap))) done ≤ breaks is_break one.inserted + 1) (sym new_is) told.1);
    }

-- the rows up to the new patch's end
next-rows : (pattern old new : List ℕ) (kept done start last gone : ℕ) (patches : List Patch) (p : Patch) (all : List (List (ℕ × ℕ))) → end_of 0 patches ≡ kept
    → IsFurther old new kept done start last gone → p.first ≡ kept + (start - done) → AreRows pattern (take (last + 1 - start) (drop start (line_texts new))) p.made.items
    → IsReport old pattern all → AreRows pattern (take done (line_texts new)) (up_to 0 all patches) → AreRows pattern (take (last + 1) (line_texts new)) (up_to 0 all (patches ++ p ∷ []))
next-rows pattern old new kept done start last gone patches p all ends lines first-is made are sofar =
    let between = take (start - done) (drop kept (line_texts old)) in
    let rows-between = take (start - done) (drop kept all) in
    let anew = take (last + 1 - start) (drop start (line_texts new)) in
    let kept-rows = AreRows-take pattern (start - done) (drop kept (line_texts old)) (drop kept all) (AreRows-drop pattern kept (line_texts old) all are) in
    let front = AreRows-join pattern (take done (line_texts new)) between (up_to 0 all patches) rows-between sofar kept-rows in
    let whole = AreRows-join pattern (take done (line_texts new) ++ between) anew (up_to 0 all patches ++ rows-between) p.made.items front made in
    let count : p.first - end_of 0 patches ≡ start - done = omega (arith, first-is, ends) in
    let rows-are : up_to 0 all (patches ++ p ∷ []) ≡ up_to 0 all patches ++ rows-between ++ p.made.items =
    up_to-more 0 all patches p
    ∙ ap (λ n. up_to 0 all patches ++ (take n (drop (end_of 0 patches) all) ++ p.made.items)) count
    ∙ ap (λ n. up_to 0 all patches ++ (take (start - done) (drop n all) ++ p.made.items)) ends
    ∙ sym (append_assoc (up_to 0 all patches) rows-between p.made.items) in
    subst (λ ls. AreRows pattern ls (up_to 0 all (patches ++ p ∷ []))) (sym lines.lines)
    (subst (λ rs. AreRows pattern (take done (line_texts new) ++ between ++ anew) rs) (sym rows-are) whole)

-- one more patch
Woven-step : (pattern old new : List ℕ) (c : Change) (left : List Change) (n kept done : ℕ) (patches patches' : List Patch) (p : Patch)
    → (w : Woven pattern old new (c ∷ left) n kept done patches) → (next : Next old new c left n kept done)
    → p.first ≡ kept + (max (line_at new c.new_start) done - done) → p.end ≡ line_at old c.old_end + 1
    → AreRows pattern (take (line_at new c.new_end + 1 - max (line_at new c.new_start) done) (drop (max (line_at new c.new_start) done) (line_texts new))) p.made.items
    → patches' ≡ patches ++ p ∷ []
    → Woven pattern old new left next.others p.end (line_at new c.new_end + 1) patches'
Woven-step pattern old new c left n kept done patches patches' p w next first-is end-is made more =
    let start = max (line_at new c.new_start) done in
    let low : end_of 0 patches ≤ p.first = omega (arith, w.ends, first-is) in
    let high : p.first ≤ p.end = omega (arith, first-is, end-is, next.lines.within) in
    subst (λ ps. Woven pattern old new left next.others p.end (line_at new c.new_end + 1) ps) (sym more)
    (record {
      before = next.before;
      before' = next.before';
      after = next.after;
      after' = next.after';
      old_is = next.old_is;
      new_is = next.new_is;
      step = inr (record {
        old_is = end-is ∙ ap (λ t. line_at t c.old_end + 1) next.old_is ∙ ap (λ k. line_at (next.before ++ next.after) k + 1) next.old_end;
        new_is = ap (λ t. line_at t c.new_end + 1) next.new_is ∙ ap (λ k. line_at (next.before' ++ next.after') k + 1) next.new_end;
      });
      left = next.further;
      turn = subst (λ k. AreInTurn 0 k (patches ++ p ∷ [])) (sym (end_of-more 0 patches p)) (turn-more 0 patches p w.turn low high);
      ends = end_of-more 0 patches p;
      within = omega (arith, end-is, next.lines.inside);
      rows = λ all are. next-rows pattern old new kept done start (line_at new c.new_end) (line_at old c.old_end) patches p all w.ends next.lines first-is made are (w.rows all are);
    })

-- merging a patch into the last one doesn't change the rows
turn-joined : (at len : ℕ) (others : List Patch) (last joined p : Patch) → joined.first ≡ last.first → joined.end ≡ p.end
    → AreInTurn at len ((others ++ last ∷ []) ++ p ∷ []) → AreInTurn at len (others ++ joined ∷ [])
turn-joined at len [] last joined p first ends turn =
    (omega (arith, turn.0, first), omega (arith, turn.1, turn.2.0, turn.2.1, first, ends), omega (arith, turn.2.2, ends))
turn-joined at len (q ∷ qs) last joined p first ends turn = (turn.0, turn.1, turn-joined q.end len qs last joined p first ends turn.2)

rows-joined : (at : ℕ) (all : List (List (ℕ × ℕ))) (others : List Patch) (last joined p : Patch) → last.end ≡ p.first → joined.first ≡ last.first
    → joined.made.items ≡ last.made.items ++ p.made.items → up_to at all ((others ++ last ∷ []) ++ p ∷ []) ≡ up_to at all (others ++ joined ∷ [])
rows-joined at all [] last joined p touches first rows =
    let none : p.first - last.end ≡ 0 = omega (arith, touches) in
    let kept = take (last.first - at) (drop at all) in
    ap (λ n. kept ++ (last.made.items ++ (take n (drop last.end all) ++ (p.made.items ++ [])))) none
    ∙ ap (λ rs. kept ++ rs) (sym (append_assoc last.made.items p.made.items []) ∙ ap (λ rs. rs ++ []) (sym rows))
    ∙ ap (λ n. take (n - at) (drop at all) ++ (joined.made.items ++ [])) (sym first)
rows-joined at all (q ∷ qs) last joined p touches first rows =
    ap (λ rs. take (q.first - at) (drop at all) ++ (q.made.items ++ rs)) (rows-joined q.end all qs last joined p touches first rows)

Woven-added : (pattern old new : List ℕ) (changes : List Change) (n kept done : ℕ) (patches patches' : List Patch) (p : Patch) → IsPatchAdded patches p patches'
    → Woven pattern old new changes n kept done (patches ++ p ∷ []) → Woven pattern old new changes n kept done patches'
Woven-added pattern old new changes n kept done patches patches' p (inl is) w = subst (Woven pattern old new changes n kept done) (sym is) w
Woven-added pattern old new changes n kept done patches patches' p (inr g) w =
    let both : patches ++ p ∷ [] ≡ (g.others ++ g.last ∷ []) ++ p ∷ [] = ap (λ ps. ps ++ p ∷ []) g.old_is in
    let one = g.others ++ g.joined ∷ [] in
    let end_is : end_of 0 (patches ++ p ∷ []) ≡ end_of 0 one = end_of-more 0 patches p ∙ sym g.ends ∙ sym (end_of-more 0 g.others g.joined) in
    subst (Woven pattern old new changes n kept done) (sym g.new_is)
    (record {
      before = w.before;
      before' = w.before';
      after = w.after;
      after' = w.after';
      old_is = w.old_is;
      new_is = w.new_is;
      step = w.step;
      left = w.left;
      turn = turn-joined 0 (end_of 0 one) g.others g.last g.joined p g.first g.ends
          (subst (λ ps. AreInTurn 0 (end_of 0 one) ps) both (subst (λ k. AreInTurn 0 k (patches ++ p ∷ [])) end_is w.turn));
      ends = sym end_is ∙ w.ends;
      within = w.within;
      rows = λ all are. subst (AreRows pattern (take done (line_texts new)))
          (ap (up_to 0 all) both ∙ rows-joined 0 all g.others g.last g.joined p g.touches g.first g.rows) (w.rows all are);
    })

-- a change in lines that are done adds nothing
Woven-skip : (pattern old new : List ℕ) (c : Change) (left : List Change) (n kept done : ℕ) (patches : List Patch) → Woven pattern old new (c ∷ left) n kept done patches
    → (next : Next old new c left n kept done) → kept ≡ line_at old c.old_end + 1 → done ≡ line_at new c.new_end + 1 → Woven pattern old new left next.others kept done patches
Woven-skip pattern old new c left n kept done patches w next kept-is done-is = record {
  before = next.before;
  before' = next.before';
  after = next.after;
  after' = next.after';
  old_is = next.old_is;
  new_is = next.new_is;
  step = inr (record {
    old_is = kept-is ∙ ap (λ t. line_at t c.old_end + 1) next.old_is ∙ ap (λ k. line_at (next.before ++ next.after) k + 1) next.old_end;
    new_is = done-is ∙ ap (λ t. line_at t c.new_end + 1) next.new_is ∙ ap (λ k. line_at (next.before' ++ next.after') k + 1) next.new_end;
  });
  left = next.further;
  turn = w.turn;
  ends = w.ends;
  within = w.within;
  rows = w.rows;
}

-- the numbers of the next splice
pub record IsSplice (old new : List ℕ) (c : Change) (kept done : ℕ) (splice : Splice) : Type 0 where
  pub start : splice.start ≡ max (line_at new c.new_start) done
  pub stop : splice.stop ≡ line_at new c.new_end + 1
  pub first : splice.first ≡ kept + (splice.start - done)
  pub ends : splice.end ≡ line_at old c.old_end + 1

-- its rows are added
pub Woven-more : (pattern old new : List ℕ) (c : Change) (left : List Change) (n kept done : ℕ) (patches patches' : List Patch) (splice : Splice)
    → Woven pattern old new (c ∷ left) n kept done patches → (next : Next old new c left n kept done) → IsSplice old new c kept done splice
    → AddsRowsOf pattern new splice patches patches' → Woven pattern old new left next.others splice.end splice.stop patches'
Woven-more pattern old new c left n kept done patches patches' splice w next is (inl none) =
    let rises = from_byte_idx_is_monotone-lines is_break new c.new_start c.new_end next.new_ordered in
    let done-is : done ≡ splice.stop = omega (arith, is.start, is.stop, none.1, rises) in
    let kept-is : kept ≡ splice.end = omega (arith, is.first, none.1, none.2, done-is) in
    subst (λ ps. Woven pattern old new left next.others splice.end splice.stop ps) (sym none.0)
    (subst (λ k. Woven pattern old new left next.others k splice.stop patches) kept-is
    (subst (λ d. Woven pattern old new left next.others kept d patches) done-is
    (Woven-skip pattern old new c left n kept done patches w next (kept-is ∙ is.ends) (done-is ∙ is.stop))))
Woven-more pattern old new c left n kept done patches patches' splice w next is (inr adds) =
    let start = max (line_at new c.new_start) done in
    let p = adds.patch in
    let made : AreRows pattern (take (line_at new c.new_end + 1 - start) (drop start (line_texts new))) p.made.items =
    subst (λ d. AreRows pattern (take (d - start) (drop start (line_texts new))) p.made.items) is.stop
    (subst (λ s. AreRows pattern (take (splice.stop - s) (drop s (line_texts new))) p.made.items) is.start adds.rows) in
    let first-is : p.first ≡ kept + (start - done) = adds.first ∙ is.first ∙ ap (λ s. kept + (s - done)) is.start in
    let step = Woven-step pattern old new c left n kept done patches (patches ++ p ∷ []) p w next first-is (adds.ends ∙ is.ends) made refl in
    subst (λ d. Woven pattern old new left next.others splice.end d patches') (sym is.stop)
    (subst (λ k. Woven pattern old new left next.others k (line_at new c.new_end + 1) patches') adds.ends
    (Woven-added pattern old new left next.others p.end (line_at new c.new_end + 1) patches patches' p adds.added step))

pub Woven-turn : (pattern old new : List ℕ) (changes : List Change) (n kept done : ℕ) (patches : List Patch) → Woven pattern old new changes n kept done patches
    → AreInTurn 0 (length (line_texts old)) patches
Woven-turn pattern old new changes n kept done patches w = turn-to 0 (end_of 0 patches) (length (line_texts old)) patches (omega (arith, w.ends, w.within)) w.turn

pub Woven-report : (pattern old new : List ℕ) (n kept done : ℕ) (patches : List Patch) (changes : List Change) → changes ≡ [] → Woven pattern old new changes n kept done patches
    → (all : List (List (ℕ × ℕ))) → IsReport old pattern all → IsReport new pattern (patched 0 all patches)
Woven-report pattern old new n kept done patches changes none w all are =
    let left = subst (λ cs. AreChanges cs (byte_len w.before) (byte_len w.before') w.after w.after' n) none w.left in
    let alike : w.after' ≡ w.after = sym left.0 in
    let step : IsInStep w.before w.before' w.after w.after kept done = subst (λ xs. IsInStep w.before w.before' w.after xs kept done) alike w.step in
    let new_is : new ≡ w.before' ++ w.after = w.new_is ∙ ap (λ xs. w.before' ++ xs) alike in
    let told = tails_keep w.before w.before' w.after kept done step in
    let lines : line_texts new ≡ take done (line_texts new) ++ drop kept (line_texts old) =
    ap line_texts new_is ∙ told ∙ ap (λ t. take done (line_texts t) ++ drop kept (line_texts (w.before ++ w.after))) (sym new_is)
    ∙ ap (λ t. take done (line_texts new) ++ drop kept (line_texts t)) (sym w.old_is) in
    let joined = AreRows-join pattern (take done (line_texts new)) (drop kept (line_texts old)) (up_to 0 all patches) (drop kept all) (w.rows all are) (AreRows-drop pattern kept (line_texts old) all are) in
    let rows-are : patched 0 all patches ≡ up_to 0 all patches ++ drop kept all = patched-up_to 0 all patches ∙ ap (λ k. up_to 0 all patches ++ drop k all) w.ends in
    subst (λ ls. AreRows pattern ls (patched 0 all patches)) (sym lines)
    (subst (λ rs. AreRows pattern (take done (line_texts new) ++ drop kept (line_texts old)) rs) (sym rows-are) joined)

-- ---- the change at an index

pub drop-cons : {A : Type 0} (i : ℕ) (xs : List A) (d : A) → i < length xs → drop i xs ≡ slice_index_or xs i d ∷ drop (i + 1) xs
drop-cons zero [] d l = absurd (omega (arith, l))
drop-cons zero (x ∷ xs) d l = refl
drop-cons (suc i) [] d l = absurd (omega (arith, l))
drop-cons (suc i) (x ∷ xs) d l =
    let more : suc (i + 1) ≡ suc i + 1 = omega arith in
    drop-cons i xs d (omega (arith, l)) ∙ ap (λ n. slice_index_or xs i d ∷ drop n (x ∷ xs)) more

abbrev pub change_at : List Change → ℕ → Change
change_at changes i = slice_index_or changes i (record { old_end = 0; new_start = 0; new_end = 0 })

pub Woven-at : (pattern old new : List ℕ) (changes : List Change) (i n kept done : ℕ) (patches : List Patch) → i < length changes
    → Woven pattern old new (drop i changes) n kept done patches → Woven pattern old new (change_at changes i ∷ drop (i + 1) changes) n kept done patches
Woven-at pattern old new changes i n kept done patches l w =
    subst (λ cs. Woven pattern old new cs n kept done patches) (drop-cons i changes (record { old_end = 0; new_start = 0; new_end = 0 }) l) w

pub next-at : (pattern old new : List ℕ) (changes : List Change) (i n kept done : ℕ) (patches : List Patch) → i < length changes
    → Woven pattern old new (drop i changes) n kept done patches → Next old new (change_at changes i) (drop (i + 1) changes) n kept done
next-at pattern old new changes i n kept done patches l w =
    next-of pattern old new (change_at changes i) (drop (i + 1) changes) n kept done patches (Woven-at pattern old new changes i n kept done patches l w)

-- after the last one both texts are alike
pub last-alike : (old new : List ℕ) (c : Change) (left : List Change) (n kept done : ℕ) → (next : Next old new c left n kept done) → left ≡ []
    → (end : ℕ) → end ≡ line_at new c.new_end → GoOnAlike old new c.old_end (end + 1)
last-alike old new c left n kept done next none end end_is =
    let both = subst (λ cs. AreChanges cs (byte_len next.before) (byte_len next.before') next.after next.after' next.others) none next.further in
    record {
      before = next.before;
      before' = next.before';
      after = next.after;
      old_is = next.old_is;
      new_is = next.new_is ∙ ap (λ t. next.before' ++ t) (sym both.0);
      end_is = next.old_end;
      done_is = ap (λ k. k + 1) (end_is ∙ ap (line_at new) next.new_end);
    }

-- the numbers that the code computes
pub start-is : (done line result result' : ℕ) → result ≡ line → result' ≡ max done result → result' ≡ max line done
start-is done line result result' a b = omega (arith, a, b)

pub ordered-at : (start last start' last' : ℕ) → start ≤ last + 1 → start' ≡ start → last' ≡ last → start' ≤ last' + 1
ordered-at start last start' last' h a b = omega (arith, h, a, b)

pub count-at : (tick tick' first lines n b others start last start' last' : ℕ) → tick + n ≤ first + lines → n ≡ b + 1 + others → last + 1 - start ≤ b + 1 → start' ≡ start → last' ≡ last
    → tick' ≤ tick + (last' + 1 - start') → tick' + others ≤ first + lines
count-at tick tick' first lines n b others start last start' last' total counts few a e made = omega (arith, total, counts, few, a, e, made)

-- so are the rows that are made
pub few-at : (made made' count all n b others start last start' last' : ℕ) → made + n ≤ all → n ≡ b + 1 + others → last + 1 - start ≤ b + 1 → start' ≡ start → last' ≡ last
    → made' ≡ made + count → count ≡ last' + 1 - start' → made' + others ≤ all
few-at made made' count all n b others start last start' last' total counts few a e more own = omega (arith, total, counts, few, a, e, more, own)

-- each line is searched at most once
pub once-at : (tick tick' first done start last : ℕ) {start' last' : ℕ} → tick ≤ first + done → done ≤ start → start ≤ last + 1 → start' ≡ start → last' ≡ last
    → tick' ≤ tick + (last' + 1 - start') → tick' ≤ first + (last' + 1)
once-at tick tick' first done start last sofar low high a e made = omega (arith, sofar, low, high, a, e, made)

pub drop-none : {A : Type 0} (i : ℕ) (xs : List A) → length xs ≤ i → drop i xs ≡ []
drop-none i xs l = drop_all i xs l

pub max-is : (a b : ℕ) → ord_max nat_cmp a b ≡ max a b
max-is a b = grind (arith, nat_tests)

-- ---- the first change

pub first-is : (changes : List Change) (first : ℕ) → ((d : Change) → 0 < length changes → first ≡ (slice_index_or changes 0 d).new_start) → (length changes ≡ 0 → first ≡ 0)
    → first ≡ (change_at changes 0).new_start
first-is [] first some none = none refl
first-is (c ∷ cs) first some none = some (record { old_end = 0; new_start = 0; new_end = 0 }) (omega arith)

pub first-within : (old new : List ℕ) (changes : List Change) (n first : ℕ) → AreChanges changes 0 0 old new n → first ≡ (change_at changes 0).new_start → first ≤ byte_len new
first-within old new [] n first are is = omega (arith, is)
first-within old new (c ∷ cs) n first are is =
    let next = next-at [] old new (c ∷ cs) 0 n 0 0 [] (omega arith) (Woven-start [] old new (c ∷ cs) n [] refl are) in
    omega (arith, is, next.new_ordered, next.new_within)
