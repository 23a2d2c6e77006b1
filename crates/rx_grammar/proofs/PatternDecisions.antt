-- Each text spells a tree, or none.
use Rattle.std.proofs.Common.{◌≡◌, ◌≢◌, ◌⊎◌, inl, inr, ℕ, zero, suc, ◌+◌, ◌<◌, ◌≤◌, false, List, [], ◌∷◌, length, encode_utf8_all, refl, sym, subst, ◌∙◌, arith}
use Rattle.std.proofs.lemmas.Bool.{cases_eq, cases_lt}
use Rattle.std.proofs.lemmas.Bool.Decides.{nat_tests}
use Rattle.rx_grammar.specs.Settings.{Settings}
use Rattle.rx_grammar.specs.Trees.{Name, names_of}
use Rattle.rx_grammar.specs.Groups.{grouped}
use Rattle.rx_grammar.specs.Grammar.{goes_on}
use Rattle.rx_grammar.specs.Laws.{SpellsOrNot}
use Rattle.rx_grammar.specs.Resuming.{OpenGroup, PatternPlace, with_branch, tree_at, SameEnds, NoEnds}
use Rattle.rx_grammar.specs.Places.{place_at_start, item_at, opened_at, IsAtomPlace}
use Rattle.rx_grammar.proofs.ShorterLaws.{plain_shorter, postfixes_shorter, setting_shorter, opening_shorter}
use Rattle.rx_grammar.proofs.PlaceLaws.{behind_group, same_setting, same_opening, same_branch, same_atom, same_close, atom_refused, no_atom_here, no_head_here, close_refused, close_unopened}
use Rattle.rx_grammar.proofs.PatternLaws.{SameEnds-none, SameEnds-more, NoEnds-before, group_open_at_end, spells_by, never_spells, names_stand_twice, too_deep}
use Rattle.rx_grammar.proofs.InputDecisions.{decided_once, decided_name}
use Rattle.rx_grammar.proofs.RepetitionDecisions.{postfixes_or_none}
use Rattle.rx_grammar.proofs.HeadDecisions.{head_or_none}
use Rattle.rx_grammar.proofs.AtomDecisions.{plain_or_none}

-- a part of the text leads to a later position
record LeadsOn (place : PatternPlace) (t : List ℕ) : Type 0 where
  next : PatternPlace
  rest : List ℕ
  same : SameEnds place t next rest
  shorter : length rest < length t

-- the whole text leads to a position without open groups
record LeadsToEnd (place : PatternPlace) (t : List ℕ) : Type 0 where
  next : PatternPlace
  same : SameEnds place t next []
  closed : next.around ≡ []

bar_read : (place : PatternPlace) (v : List ℕ) → LeadsOn place (124 ∷ v)
bar_read place v = record { next = record place { level = with_branch place.level }; rest = v; same = same_branch place refl; shorter = omega arith }

-- what begins with (
head_read : (place : PatternPlace) (v : List ℕ) → LeadsOn place (40 ∷ v) ⊎ NoEnds place (40 ∷ v)
head_read place v = elim (head_or_none place.settings (40 ∷ v)) [
  | inl one ↦ inl (record { next = record place { settings = one.0 }; rest = one.1; same = same_setting place one.2; shorter = setting_shorter one.2 })
  | inr (inl one) ↦ inl (record { next = opened_at place one.0 one.1; rest = one.2; same = same_opening place one.3; shorter = opening_shorter one.3 })
  | inr (inr none) ↦ inr (no_head_here place refl none)
]

-- what begins with )
close_read : (place : PatternPlace) (v : List ℕ) (around : List OpenGroup) → place.around ≡ around → LeadsOn place (41 ∷ v) ⊎ NoEnds place (41 ∷ v)
close_read place v [] is = inr (close_unopened v place is)
close_read place v (o ∷ os) is = elim (postfixes_or_none (length v) o.settings.swap_greed (grouped o.groups o.capture (tree_at place.level)) (place.level.depth + 1) v (omega arith)) [
  | inr none ↦ inr (close_refused place is none)
  | inl found ↦ inl (record {
    next = item_at (behind_group place o os) found.0 found.1;
    rest = found.2;
    same = same_close place is found.3;
    shorter = omega (arith, postfixes_shorter found.3);
  })
]

-- what begins with anything else
atom_read : (place : PatternPlace) (t : List ℕ) → IsAtomPlace t → LeadsOn place t ⊎ NoEnds place t
atom_read place t here = elim (plain_or_none place.settings t) [
  | inr none ↦ inr (no_atom_here place here none)
  | inl one ↦ elim (postfixes_or_none (length one.1) place.settings.swap_greed one.0 0 one.1 (omega arith)) [
    | inr none ↦ inr (atom_refused place one.2 none)
    | inl found ↦ inl (record {
      next = item_at place found.0 found.1;
      rest = found.2;
      same = same_atom place one.2 found.3;
      shorter = omega (arith, plain_shorter one.2, postfixes_shorter found.3);
    })
  ]
]

atom_place : (c : ℕ) (v : List ℕ) → c ≢ 124 → c ≢ 40 → c ≢ 41 → IsAtomPlace (c ∷ v)
atom_place c v no_bar no_paren no_close = record { no_group = no_paren; inside = λ stops. inside c no_bar no_close stops }
  where
    inside : (c : ℕ) → c ≢ 124 → c ≢ 41 → goes_on c ≡ false → ⊥
    inside c no_bar no_close fails = grind (arith, nat_tests)

part_read : (place : PatternPlace) (c : ℕ) (v : List ℕ) → LeadsOn place (c ∷ v) ⊎ NoEnds place (c ∷ v)
part_read place c v = elim (cases_eq c 124) [
  | inl e ↦ subst (λ x. LeadsOn place (x ∷ v) ⊎ NoEnds place (x ∷ v)) (sym e) (inl (bar_read place v))
  | inr no_bar ↦ elim (cases_eq c 40) [
    | inl e ↦ subst (λ x. LeadsOn place (x ∷ v) ⊎ NoEnds place (x ∷ v)) (sym e) (head_read place v)
    | inr no_paren ↦ elim (cases_eq c 41) [
      | inl e ↦ subst (λ x. LeadsOn place (x ∷ v) ⊎ NoEnds place (x ∷ v)) (sym e) (close_read place v place.around refl)
      | inr no_close ↦ atom_read place (c ∷ v) (atom_place c v no_bar no_paren no_close)
    ]
  ]
]

end_read : (place : PatternPlace) (around : List OpenGroup) → place.around ≡ around → LeadsToEnd place [] ⊎ NoEnds place []
end_read place [] is = inl (record { next = place; same = SameEnds-none place []; closed = is })
end_read place (o ∷ os) is = inr (group_open_at_end place (λ none. let e : o ∷ os ≡ [] = sym is ∙ none in absurd (cc)))

-- from a position on a text completes the pattern, or doesn't
text_read : (fuel : ℕ) (place : PatternPlace) (t : List ℕ) → length t ≤ fuel → LeadsToEnd place t ⊎ NoEnds place t
text_read fuel place [] long = end_read place place.around refl
text_read zero place (c ∷ v) long = absurd (omega (arith, long))
text_read (suc fuel) place (c ∷ v) long = elim (part_read place c v) [
  | inr none ↦ inr none
  | inl part ↦ elim (text_read fuel part.next part.rest (omega (arith, long, part.shorter))) [
    | inr none ↦ inr (NoEnds-before part.same none)
    | inl all ↦ inl (record { next = all.next; same = SameEnds-more part.same all.same; closed = all.closed })
  ]
]

-- the tree that a text would spell, by its names and its depth
read_whole : (text : List ℕ) (settings : Settings) → length (encode_utf8_all text) ≤ 65536 → LeadsToEnd (place_at_start settings) text → SpellsOrNot text settings
read_whole text settings fits read = elim (decided_once Name decided_name (names_of (tree_at read.next.level))) [
  | inr twice ↦ inr (inr (names_stand_twice read.next (tree_at read.next.level) read.same read.closed refl twice))
  | inl once ↦ elim (cases_lt settings.nest_limit read.next.level.depth) [
    | inl deep ↦ inr (inl (too_deep text settings read.next read.same read.closed deep once fits))
    | inr shallow ↦ inl (tree_at read.next.level, spells_by text settings read.next (tree_at read.next.level) read.same read.closed refl shallow once fits)
  ]
]

pub spells_or_not : (text : List ℕ) (settings : Settings) → SpellsOrNot text settings
spells_or_not text settings = elim (cases_lt 65536 (length (encode_utf8_all text))) [
  | inl long ↦ inr (inr (λ limit tree spells. absurd (omega (arith, long, spells.size))))
  | inr fits ↦ elim (text_read (length text) (place_at_start settings) text (omega arith)) [
    | inr none ↦ inr (inr (never_spells none))
    | inl read ↦ read_whole text settings fits read
  ]
]
