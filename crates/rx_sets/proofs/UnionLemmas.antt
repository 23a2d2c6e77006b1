-- How ranges are put together item by item.
use Rattle.std.proofs.Common.{◌≡◌, ℕ, zero, suc, ◌<◌, ◌≤◌, ◌↔◌, ◌⊎◌, Bool, true, false, not, ◌||◌, Result, Ok, Err, OnOk, List, [], ◌∷◌, ◌++◌, length, drop, get_or, Contains, refl, sym, ap, subst, ◌∙◌, arith, inl, inr, true≢false}
use Rattle.std.proofs.lemmas.Bool.{or_cases, or_left, or_right}
use Rattle.std.proofs.lemmas.List.{drop_all}
use Rattle.rx_sets.specs.declared.items.ClassItem.{ClassItem}
use Rattle.rx_sets.specs.declared.items.ClassItem.TheVariants.{Span, Perl}
use Rattle.rx_sets.specs.declared.items.ClassPerlKind.{ClassPerlKind}
use Rattle.rx_sets.specs.declared.items.ClassPerlKind.TheVariants.{Digit, Space, Word}
use Rattle.rx_sets.specs.declared.atom_sets.TheConstants.{LETTER_CLASSES}
use Rattle.unicode.specs.CaseFolding.{simple_fold}
use Rattle.rx_sets.specs.Sets.{Range, IsScalar, ordinal, in_ranges, Holds, IsCanonical, IsSetOf, HasExactly, FoldsInto, FoldedIf, InPerl}
use Rattle.rx_sets.specs.Items.{InItem, InItems, InClass}
use Rattle.rx_sets.specs.Unions.{OneOf, Adds, InSpan, InLetters}
use Rattle.rx_sets.proofs.SetLemmas.{ordinal_below}
use Rattle.rx_sets.proofs.RangeLemmas.{in_ranges-append}

-- no scalar value lies in no range
pub Holds-none : (c : ℕ) → Holds [] c → ⊥
Holds-none c h = true≢false (sym h)

one_at : {X : Type 0} (P : X → Type 0) (xs : List X) (k : ℕ) (y : X) → k < length xs → get_or xs k y ≡ y → P y → OneOf P xs
one_at P [] k y below at p = absurd (omega arith)
one_at P (x ∷ xs) zero y below at p = inl (subst P (sym at) p)
one_at P (x ∷ xs) (suc k) y below at p = inr (one_at P xs k y (omega arith) at p)

pub OneOf-from : {X : Type 0} (P : X → Type 0) (xs : List X) (y : X) → Contains xs y → P y → OneOf P xs
OneOf-from P xs y (k, below, at) p = one_at P xs k y below at p

pub OneOf-some : {X : Type 0} (P : X → Type 0) (xs : List X) → OneOf P xs → (y : X) × Contains xs y × P y
OneOf-some P [] h = absurd h
OneOf-some P (x ∷ xs) (inl p) = (x, (0, omega arith, refl), p)
OneOf-some P (x ∷ xs) (inr h) =
    let some = OneOf-some P xs h in
    (some.0, (suc some.1.0, omega (arith, some.1.1), some.1.2), some.2)

pub Adds-map : (old new : List Range) (P Q : ℕ → Type 0) → ((c : ℕ) → IsScalar c → P c ↔ Q c) → Adds old new P → Adds old new Q
Adds-map old new P Q iff adds c scalar = (
  λ h. elim ((adds c scalar).0 h) [ inl a ↦ inl a | inr p ↦ inr ((iff c scalar).0 p) ],
  λ h. elim h [ inl a ↦ (adds c scalar).1 (inl a) | inr q ↦ (adds c scalar).1 (inr ((iff c scalar).1 q)) ],
)

pub Adds-both : (old middle new : List Range) (P Q : ℕ → Type 0) → Adds old middle P → Adds middle new Q → Adds old new (λ c. P c ⊎ Q c)
Adds-both old middle new P Q first second c scalar = (
  λ h. elim ((second c scalar).0 h) [
    | inl m ↦ elim ((first c scalar).0 m) [ inl a ↦ inl a | inr p ↦ inr (inl p) ]
    | inr q ↦ inr (inr q)
  ],
  λ h. elim h [
    | inl a ↦ (second c scalar).1 (inl ((first c scalar).1 (inl a)))
    | inr (inl p) ↦ (second c scalar).1 (inl ((first c scalar).1 (inr p)))
    | inr (inr q) ↦ (second c scalar).1 (inr q)
  ],
)

-- what is appended so far, with what is to come of a list, makes what the whole list adds
pub record Completes {X : Type 0} (Q : ℕ → X → Type 0) (old so_far : List Range) (rest all : List X) : Type 0 where
  pub both : (c : ℕ) → IsScalar c → (Holds so_far c ⊎ OneOf (Q c) rest) ↔ (Holds old c ⊎ OneOf (Q c) all)

pub Completes-step : {X : Type 0} (Q : ℕ → X → Type 0) (old so_far new : List Range) (x : X) (rest left all : List X) → rest ≡ x ∷ left
    → Adds so_far new (λ c. Q c x) → Completes Q old so_far rest all → Completes Q old new left all
Completes-step Q old so_far new x rest left all more adds before = record {
  both = λ c scalar.
      let was : (Holds so_far c ⊎ (Q c x ⊎ OneOf (Q c) left)) ↔ (Holds old c ⊎ OneOf (Q c) all) =
      subst (λ l. (Holds so_far c ⊎ OneOf (Q c) l) ↔ (Holds old c ⊎ OneOf (Q c) all)) more (before.both c scalar) in (
        λ h. elim h [
          | inl n ↦ elim ((adds c scalar).0 n) [ inl a ↦ was.0 (inl a) | inr q ↦ was.0 (inr (inl q)) ]
          | inr r ↦ was.0 (inr (inr r))
        ],
        λ h. elim (was.1 h) [
          | inl a ↦ inl ((adds c scalar).1 (inl a))
          | inr (inl q) ↦ inl ((adds c scalar).1 (inr q))
          | inr (inr r) ↦ inr r
        ],
      );
}

pub Completes-end : {X : Type 0} (Q : ℕ → X → Type 0) (old so_far : List Range) (i : ℕ) (all : List X) → length all ≤ i
    → Completes Q old so_far (drop i all) all → Adds old so_far (λ c. OneOf (Q c) all)
Completes-end Q old so_far i all past before c scalar =
    let was : (Holds so_far c ⊎ ⊥) ↔ (Holds old c ⊎ OneOf (Q c) all) =
    subst (λ l. (Holds so_far c ⊎ OneOf (Q c) l) ↔ (Holds old c ⊎ OneOf (Q c) all)) (drop_all i all past) (before.both c scalar) in
    (λ h. was.0 (inl h), λ h. elim (was.1 h) [ inl a ↦ a | inr none ↦ absurd none ])

-- the set of what was appended to nothing
pub IsSetOf-added : (ranges set : List Range) (P : ℕ → Type 0) → IsCanonical set → HasExactly set (in_ranges ranges) → Adds [] ranges P → IsSetOf set P
IsSetOf-added ranges set P canonical has adds = record {
  canonical = canonical;
  members = λ c scalar. (
    λ h. elim ((adds c scalar).0 (sym (has (ordinal c) (ordinal_below c scalar)) ∙ h)) [ inl none ↦ absurd (Holds-none c none) | inr p ↦ p ],
    λ p. has (ordinal c) (ordinal_below c scalar) ∙ (adds c scalar).1 (inr p),
  );
}

pub IsSetOf-map : (set : List Range) (P Q : ℕ → Type 0) → ((c : ℕ) → IsScalar c → P c ↔ Q c) → IsSetOf set P → IsSetOf set Q
IsSetOf-map set P Q iff is = record {
  canonical = is.canonical;
  members = λ c scalar. (λ h. (iff c scalar).0 ((is.members c scalar).0 h), λ q. (is.members c scalar).1 ((iff c scalar).1 q));
}

-- a set adds what it is the set of
pub Adds-set : (old new set : List Range) (P : ℕ → Type 0) → new ≡ old ++ set → IsSetOf set P → Adds old new P
Adds-set old new set P is set_of c scalar =
    let split : in_ranges new (ordinal c) ≡ (in_ranges old (ordinal c) || in_ranges set (ordinal c)) =
    ap (λ l. in_ranges l (ordinal c)) is ∙ in_ranges-append old set (ordinal c) in (
      λ h. elim (or_cases _ _ (sym split ∙ h)) [ inl a ↦ inl a | inr b ↦ inr ((set_of.members c scalar).0 b) ],
      λ h. split ∙ elim h [ inl a ↦ or_left _ _ a | inr p ↦ or_right _ _ ((set_of.members c scalar).1 p) ],
    )

not_true : (b : Bool) → (b ≡ true → ⊥) → not b ≡ true
not_true b never = elim b as (λ v. (v ≡ true → ⊥) → not v ≡ true) [ true ↦ λ n. absurd (n refl) | false ↦ λ n. refl ] never

pub IsSetOf-complement : (set others : List Range) (P : ℕ → Type 0) → IsCanonical others → HasExactly others (λ n. not (in_ranges set n))
    → IsSetOf set P → IsSetOf others (λ c. ¬ P c)
IsSetOf-complement set others P canonical has is = record {
  canonical = canonical;
  members = λ c scalar.
      let here : in_ranges others (ordinal c) ≡ not (in_ranges set (ordinal c)) = has (ordinal c) (ordinal_below c scalar) in (
        λ h p. true≢false (sym h ∙ here ∙ ap not ((is.members c scalar).1 p)),
        λ never. here ∙ not_true (in_ranges set (ordinal c)) (λ h. never ((is.members c scalar).0 h)),
      );
}

pub FoldsInto-map : (P Q : ℕ → Type 0) (c : ℕ) → ((d : ℕ) → IsScalar d → P d → Q d) → FoldsInto P c → FoldsInto Q c
FoldsInto-map P Q c f (d, scalar, p, folds) = (d, scalar, f d scalar p, folds)

pub IsSetOf-closed : (set closed : List Range) (P : ℕ → Type 0) → IsCanonical closed → ((c : ℕ) → IsScalar c → Holds closed c ↔ FoldsInto (Holds set) c)
    → IsSetOf set P → IsSetOf closed (FoldsInto P)
IsSetOf-closed set closed P canonical has is = record {
  canonical = canonical;
  members = λ c scalar. (
    λ h. FoldsInto-map (Holds set) P c (λ d s q. (is.members d s).0 q) ((has c scalar).0 h),
    λ h. (has c scalar).1 (FoldsInto-map P (Holds set) c (λ d s p. (is.members d s).1 p) h),
  );
}

pub FoldedIf-map : (fold : Bool) (P Q : ℕ → Type 0) (c : ℕ) → IsScalar c → ((d : ℕ) → IsScalar d → P d → Q d) → FoldedIf fold P c → FoldedIf fold Q c
FoldedIf-map true P Q c scalar f h = FoldsInto-map P Q c f h
FoldedIf-map false P Q c scalar f h = f c scalar h

pub FoldedIf-same : (fold : Bool) (P Q : ℕ → Type 0) → ((d : ℕ) → IsScalar d → P d ↔ Q d) → (c : ℕ) → IsScalar c → FoldedIf fold P c ↔ FoldedIf fold Q c
FoldedIf-same fold P Q iff c scalar =
    (FoldedIf-map fold P Q c scalar (λ d s. (iff d s).0), FoldedIf-map fold Q P c scalar (λ d s. (iff d s).1))

-- what is known at `Ok` may be said in other words
pub OnOk-map : {T E : Type 0} (r : Result T E) (P Q : Type 0) → (P → Q) → OnOk r P → OnOk r Q
OnOk-map (Ok x) P Q f h = f h
OnOk-map (Err e) P Q f h = tt

-- what folds into some item's value folds into one item's
spread_folded : (items : List ClassItem) (c d : ℕ) → IsScalar d → InItems d items → simple_fold c ≡ simple_fold d → OneOf (λ item. FoldsInto (λ e. InItem e item) c) items
spread_folded [] c d scalar h folds = absurd h
spread_folded (item ∷ items) c d scalar (inl h) folds = inl (d, scalar, h, folds)
spread_folded (item ∷ items) c d scalar (inr h) folds = inr (spread_folded items c d scalar h folds)

spread_plain : (items : List ClassItem) (c : ℕ) → InItems c items → OneOf (λ item. InItem c item) items
spread_plain [] c h = absurd h
spread_plain (item ∷ items) c (inl h) = inl h
spread_plain (item ∷ items) c (inr h) = inr (spread_plain items c h)

spread : (fold : Bool) (items : List ClassItem) (c : ℕ) → FoldedIf fold (λ d. InItems d items) c → OneOf (λ item. FoldedIf fold (λ d. InItem d item) c) items
spread true items c (d, scalar, h, folds) = spread_folded items c d scalar h folds
spread false items c h = spread_plain items c h

gather_folded : (items : List ClassItem) (c : ℕ) → OneOf (λ item. FoldsInto (λ d. InItem d item) c) items → FoldsInto (λ d. InItems d items) c
gather_folded [] c h = absurd h
gather_folded (item ∷ items) c (inl h) = (h.0, h.1, inl h.2, h.3)
gather_folded (item ∷ items) c (inr h) = let rest = gather_folded items c h in (rest.0, rest.1, inr rest.2, rest.3)

gather_plain : (items : List ClassItem) (c : ℕ) → OneOf (λ item. InItem c item) items → InItems c items
gather_plain [] c h = absurd h
gather_plain (item ∷ items) c (inl h) = inl h
gather_plain (item ∷ items) c (inr h) = inr (gather_plain items c h)

gather : (fold : Bool) (items : List ClassItem) (c : ℕ) → OneOf (λ item. FoldedIf fold (λ d. InItem d item) c) items → FoldedIf fold (λ d. InItems d items) c
gather true items c h = gather_folded items c h
gather false items c h = gather_plain items c h

listed : (kind : ClassPerlKind) (negated : Bool) → Contains LETTER_CLASSES (kind, negated)
listed Digit false = (0, omega arith, refl)
listed Digit true = (1, omega arith, refl)
listed Space false = (2, omega arith, refl)
listed Space true = (3, omega arith, refl)
listed Word false = (4, omega arith, refl)
listed Word true = (5, omega arith, refl)

-- an item is a span or one of the letter classes
sort_item : (fold : Bool) (items : List ClassItem) (c : ℕ) (item : ClassItem) → Contains items item → FoldedIf fold (λ d. InItem d item) c
    → OneOf (InSpan fold c) items ⊎ OneOf (InLetters fold items c) LETTER_CLASSES
sort_item fold items c (Span low high) has h = inl (OneOf-from (InSpan fold c) items (Span low high) has h)
sort_item fold items c (Perl kind negated) has h = inr (OneOf-from (InLetters fold items c) LETTER_CLASSES (kind, negated) (listed kind negated) (has, h))

unsort_span : (fold : Bool) (items : List ClassItem) (c : ℕ) (item : ClassItem) → Contains items item → InSpan fold c item
    → OneOf (λ item. FoldedIf fold (λ d. InItem d item) c) items
unsort_span fold items c (Span low high) has h = OneOf-from (λ item. FoldedIf fold (λ d. InItem d item) c) items (Span low high) has h
unsort_span fold items c (Perl kind negated) has h = absurd h

-- what the items name, by spans and letter classes
pub parts_of_items : (fold : Bool) (items : List ClassItem) (c : ℕ) → IsScalar c
    → (OneOf (InSpan fold c) items ⊎ OneOf (InLetters fold items c) LETTER_CLASSES) ↔ FoldedIf fold (λ d. InItems d items) c
parts_of_items fold items c scalar = (
  λ h. gather fold items c (elim h [
    | inl spans ↦ (let some = OneOf-some (InSpan fold c) items spans in unsort_span fold items c some.0 some.1 some.2)
    | inr letters ↦
        (let some = OneOf-some (InLetters fold items c) LETTER_CLASSES letters in
        OneOf-from (λ item. FoldedIf fold (λ d. InItem d item) c) items (Perl some.0.0 some.0.1) some.2.0 some.2.1)
  ]),
  λ h.
      let some = OneOf-some (λ item. FoldedIf fold (λ d. InItem d item) c) items (spread fold items c h) in
      sort_item fold items c some.0 some.1 some.2,
)

-- a letter class alone among the items
pub one_letter_class : (fold : Bool) (items : List ClassItem) (kind : ClassPerlKind) (negated : Bool) → items ≡ Perl kind negated ∷ [] → (c : ℕ) → IsScalar c
    → FoldedIf fold (InPerl kind negated) c ↔ FoldedIf fold (λ d. InItems d items) c
one_letter_class fold items kind negated is = FoldedIf-same fold (InPerl kind negated) (λ d. InItems d items) (λ d scalar.
    subst (λ (l : List ClassItem). InPerl kind negated d ↔ InItems d l) (sym is) (λ h. inl h, λ h. elim h [ inl p ↦ p | inr none ↦ absurd none ]))

-- a class is what its items name, or what they don't
pub IsSetOf-plain_class : (fold negated : Bool) (items : List ClassItem) (set : List Range) → negated ≡ false
    → IsSetOf set (FoldedIf fold (λ d. InItems d items)) → IsSetOf set (InClass fold negated items)
IsSetOf-plain_class fold negated items set plain is = subst (λ (b : Bool). IsSetOf set (InClass fold b items)) (sym plain) is

pub IsSetOf-negated_class : (fold negated : Bool) (items : List ClassItem) (set : List Range) → negated ≡ true
    → IsSetOf set (λ c. ¬ FoldedIf fold (λ d. InItems d items) c) → IsSetOf set (InClass fold negated items)
IsSetOf-negated_class fold negated items set turned is = subst (λ (b : Bool). IsSetOf set (InClass fold b items)) (sym turned) is

-- nothing is in no range
pub IsSetOf-nothing : IsSetOf [] (λ c. ⊥)
IsSetOf-nothing = record { canonical = tt; members = λ c scalar. (λ h. Holds-none c h, λ h. absurd h) }
