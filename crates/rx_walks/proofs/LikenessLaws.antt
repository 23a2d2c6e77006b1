-- Walks with other notes.
use Rattle.std.proofs.Common.{◌≡◌, ℕ, List, Option, Some, None, option_map, slice_get, refl, sym, ap, subst, ◌∙◌}
use Rattle.rx_walks.specs.Machines.{Machine, Outcome}
use Rattle.rx_walks.specs.Walks.{Walk, ended, went, took, IsLeast}
use Rattle.rx_walks.specs.Finds.{Search, MayEnd, Counts, IsFind, not_found, is_found}
use Rattle.rx_walks.specs.Programs.{Node, match, pass, note, look, set, Haystack, Notes, put_note, note_at, over_characters}
use Rattle.rx_walks.specs.Likenesses.{noted_by, HasNotes, Keeping}
use Rattle.rx_walks.proofs.WalkLaws.{same_walk, with_notes}

pub renoted_by : {Q N M : Type 0} {m : Machine Q N} {other : Machine Q M} {h : N → M} {seen : List Q} {n : N} {q : Q} {i : ℕ} {cs : List ℕ} {t : Outcome N} → HasNotes m other h
    → Walk m seen n q i cs t → Walk other seen (h n) q i cs (noted_by h t)
renoted_by same (ended {q = q} {i = i} new is) = ended new (same.moves i q ∙ is)
renoted_by same (went {n = n} {q = q} {i = i} rs r new is at w) = went rs r new (same.moves i q ∙ is) at (with_notes (sym (same.notes i q n)) (renoted_by same w))
renoted_by same (took {q = q} {i = i} r j new is w) = took r j new (same.moves i q ∙ is) (renoted_by same w)

pub noted_back : {Q N M : Type 0} {m : Machine Q N} {other : Machine Q M} {h : N → M} {seen : List Q} {n' : M} {q : Q} {i : ℕ} {cs : List ℕ} {u : Outcome M} (n : N) → HasNotes m other h
    → Walk other seen n' q i cs u → (t : Outcome N) × Walk m seen n q i cs t
noted_back n same (ended {q = q} {i = i} new is) = (_, ended new (sym (same.moves i q) ∙ is))
noted_back {m = m} n same (went {q = q} {i = i} rs r new is at w) = let on = noted_back (m.note i q n) same w in (on.0, went rs r new (sym (same.moves i q) ∙ is) at on.1)
noted_back n same (took {q = q} {i = i} r j new is w) = let on = noted_back n same w in (on.0, took r j new (sym (same.moves i q) ∙ is) on.1)

least_noted : {Q N M : Type 0} {m : Machine Q N} {other : Machine Q M} {h : N → M} {seen : List Q} {n : N} {q : Q} {i : ℕ} {t : Outcome N} → HasNotes m other h → IsLeast m seen n q i t
    → IsLeast other seen (h n) q i (noted_by h t)
least_noted {n = n} same one = record { choices = one.choices; walk = renoted_by same one.walk; least = λ ds u w. let on = noted_back n same w in one.least ds on.0 on.1 }

-- a find with other notes
counts_noted : {Q N M : Type 0} {m : Machine Q N} {other : Machine Q M} {h : N → M} {fresh : ℕ → N} {s : Search} {q : Q} {i : ℕ} {t : Outcome N} → HasNotes m other h → Counts m fresh s q i t
    → Counts other (λ j. h (fresh j)) s q i (noted_by h t)
counts_noted same counts = record { possible = counts.possible; least = least_noted same counts.least; may_end = counts.may_end }

-- a find with other notes is one with the notes that they are kept of
pub find_noted_back : {Q N M : Type 0} {m : Machine Q N} {other : Machine Q M} {h : N → M} {fresh : ℕ → N} {s : Search} {q : Q} {out : Option (Outcome M)} → HasNotes m other h
    → IsFind other (λ j. h (fresh j)) s q out → (own : Option (Outcome N)) × (option_map (noted_by h) own ≡ out) × IsFind m fresh s q own
find_noted_back same (not_found never) = (None, refl, not_found (λ i t counts. never i _ (counts_noted same counts)))
find_noted_back {h = h} {fresh = fresh} {s = s} same (is_found {i = i} {t = t} counts before) =
    let back = noted_back (fresh i) same counts.least.walk in
    let agrees : noted_by h back.0 ≡ t = same_walk (renoted_by same back.1) counts.least.walk in (
      Some back.0,
      ap Some agrees,
      is_found (record {
        possible = counts.possible;
        least = record { choices = counts.least.choices; walk = back.1; least = λ ds u w. counts.least.least ds _ (renoted_by same w) };
        may_end = subst (λ e. MayEnd s i e) (sym (ap (λ x. x.end) agrees)) counts.may_end;
      }) (λ j u below counts'. before j _ below (counts_noted same counts')),
    )

-- what the machine of a program keeps is kept of its notes
pub keeps_notes : {L S N : Type 0} (keeping : Keeping N) (first : S → List ℕ → Option ℕ) (nodes : List (Node L S)) (h : Haystack L)
    → HasNotes (over_characters put_note first nodes h) (over_characters keeping.put first nodes h) keeping.kept
keeps_notes {L} {S} keeping first nodes h = record { moves = λ i q. refl; notes = λ i q n. at_node i n (slice_get nodes q) }
  where
    at_node : (i : ℕ) (n : Notes) (o : Option (Node L S)) → note_at keeping.put i o (keeping.kept n) ≡ keeping.kept (note_at put_note i o n)
    at_node i n None = refl
    at_node i n (Some (match k)) = refl
    at_node i n (Some (pass rs)) = refl
    at_node i n (Some (note slot r)) = keeping.alike slot i n
    at_node i n (Some (look l r)) = refl
    at_node i n (Some (set x r)) = refl
