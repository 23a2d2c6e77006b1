-- A patch that touches the last one is merged into it.
use Rattle.std.proofs.Common.{◌≡◌, ℕ, List, [], ◌∷◌, ◌++◌, length, refl, sym, ap, subst, ◌∙◌, inl, inr, arith, length-append}
use Rattle.std.specs.Global.{Vec}
use Rattle.rope_search_reports.specs.declared.changes.Splice.{Splice}
use Rattle.rope_search_reports.specs.declared.patches.Patch.{Patch}
use Rattle.rope_search_reports.specs.Drafts.{AddsPatch, AddsRows, IsTouching, lines_between}
use Rattle.rope_search_reports.specs.Report.{AreRows}

-- the last rows of a list, as a list of their own
abbrev last-rows : (rows : Vec (List (ℕ × ℕ))) (front made : List (List (ℕ × ℕ))) → rows.items ≡ front ++ made → Vec (List (ℕ × ℕ))
last-rows rows front made is = record {
  ptr = rows.ptr;
  len = length made;
  cap = rows.cap;
  alloc = rows.alloc;
  items = made;
  ok = (refl, omega (arith, rows.ok.0, rows.ok.1, ap length is, length-append front made));
  small = rows.small;
}

pub adds-patch : (pattern text : List ℕ) (splice : Splice) (old taken new : List Patch) (patch last : Patch) → IsTouching old splice.first patch taken
    → AddsRows pattern (lines_between text splice.start splice.stop) patch.made.items last.made.items
    → last.first ≡ patch.first → last.end ≡ splice.end → new ≡ taken ++ last ∷ [] → AddsPatch pattern text splice old new
adds-patch pattern text splice old taken new patch last (inl was) adds first ends more = record {
  patch = record { first = splice.first; end = splice.end; made = last-rows last.made patch.made.items adds.made adds.behind };
  added = inr (record {
    others = taken;
    last = patch;
    joined = last;
    old_is = was.last;
    touches = was.ends;
    new_is = more;
    first = first;
    ends = ends;
    rows = adds.behind;
  });
  first = refl;
  ends = refl;
  rows = adds.are;
}
adds-patch pattern text splice old taken new patch last (inr anew) adds first ends more =
    let own : last.made.items ≡ adds.made = adds.behind ∙ ap (λ rs. rs ++ adds.made) anew.1.none in
    record {
      patch = last;
      added = inl (more ∙ ap (λ ps. ps ++ last ∷ []) anew.0);
      first = first ∙ anew.1.first;
      ends = ends;
      rows = subst (AreRows pattern (lines_between text splice.start splice.stop)) (sym own) adds.are;
    }
