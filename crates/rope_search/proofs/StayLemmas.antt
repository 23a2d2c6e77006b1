-- What stays through two steps stays in their composed changes, which are few and separate.
use Rattle.std.proofs.Common.{◌≡◌, ℕ, ◌+◌, ◌-◌, ◌<◌, ◌≤◌, ◌⊎◌, inl, inr, List, [], ◌∷◌, ◌++◌, length, refl, sym, ap, subst, ◌∙◌, arith, append_assoc, append-nil, length-append}
use Rattle.std.proofs.lemmas.Bool.{cases_lt}
use Rattle.rope_search_reports.specs.Changes.{AreChanges}
use Rattle.rope_search.specs.JoinedSteps.{AreApart, AreApartFrom, Stays, StaysFrom}
use Rattle.rope_search_changes.specs.declared.Change.{Change}
use Rattle.rope_search.specs.declared.joins.Joint.{Joint}
use Rattle.rope_search.specs.declared.joins.Place.{Place}
use Rattle.rope_search.specs.Joints.{AddsPart, IsEmptyPart, change_to, part_end, place_past, middle_start}
use Rattle.rope_search.proofs.JoinLemmas.{Begin, BeginOld, Joining, cursor-first, no_joint}

-- ---- what stays, by where changes are

stays-behind : (changes : List Change) (at at' : ℕ) (old new : List ℕ) (n x y : ℕ) → AreChanges changes at at' old new n → StaysFrom at at' changes x y → (at ≤ x) × (at' ≤ y)
stays-behind [] at at' old new n x y are stays = (stays.0, omega (arith, stays.1))
stays-behind (c ∷ cs) at at' old new n x y one (inl gap) = (gap.0, omega (arith, gap.1))
stays-behind (c ∷ cs) at at' old new n x y one (inr later) =
    let past = stays-behind cs c.old_end c.new_end one.old_behind one.new_behind one.left x y one.further later in
    (omega (arith, past.0, one.old_end), omega (arith, past.1, one.new_end))

-- before the changes
stays-before : (changes : List Change) (at at' : ℕ) (old new : List ℕ) (n place x y : ℕ) → AreChanges changes at at' old new n → Begin place changes → y < place
    → StaysFrom at at' changes x y → (at ≤ x) × (y ≡ at' + (x - at))
stays-before [] at at' old new n place x y are begin low stays = stays
stays-before (c ∷ cs) at at' old new n place x y one begin low (inl gap) = (gap.0, gap.1)
stays-before (c ∷ cs) at at' old new n place x y one begin low (inr later) =
    let past = stays-behind cs c.old_end c.new_end one.old_behind one.new_behind one.left x y one.further later in
    absurd (omega (arith, past.1, begin, low, one.new_start, one.new_end))

stays-before_old : (changes : List Change) (at at' : ℕ) (old new : List ℕ) (n place x y : ℕ) → AreChanges changes at at' old new n → BeginOld at at' place changes → x < place
    → StaysFrom at at' changes x y → (at ≤ x) × (y ≡ at' + (x - at))
stays-before_old [] at at' old new n place x y are begin low stays = stays
stays-before_old (c ∷ cs) at at' old new n place x y one begin low (inl gap) = (gap.0, gap.1)
stays-before_old (c ∷ cs) at at' old new n place x y one begin low (inr later) =
    let past = stays-behind cs c.old_end c.new_end one.old_behind one.new_behind one.left x y one.further later in
    absurd (omega (arith, past.0, begin, low, one.new_start, one.old_end))

-- ---- what stays through both steps

-- it stays in the changes that are made, in the text before the part, or after the part through the
-- remaining changes of both steps
pub record Through (joint : Joint) (left right : List Change) (x z : ℕ) : Type 0 where
  pub y : ℕ
  pub behind : joint.start.middle ≤ y
  pub first : StaysFrom joint.first.outer joint.first.middle left x y
  pub second : StaysFrom joint.second.middle joint.second.outer right y z

pub record InGap (joint : Joint) (at at' x z : ℕ) : Type 0 where
  pub behind : at ≤ x
  pub there : z ≡ at' + (x - at)
  pub before : z < joint.start.new

pub record Staying (first second : List Change) (joint : Joint) (left right out : List Change) : Type 0 where
  pub at : ℕ
  pub at' : ℕ
  pub long : ℕ
  pub start_is : joint.start.old ≡ at + long
  pub start_is' : joint.start.new ≡ at' + long
  pub on : (rest : List Change) (x z : ℕ) → StaysFrom at at' rest x z → Stays (out ++ rest) x z
  pub all : (x y z : ℕ) → Stays first x y → Stays second y z → ((rest : List Change) → Stays (out ++ rest) x z) ⊎ (InGap joint at at' x z ⊎ Through joint left right x z)

pub staying-start : (first second : List Change) → Staying first second no_joint first second []
staying-start first second = record {
  at = 0;
  at' = 0;
  long = 0;
  start_is = refl;
  start_is' = refl;
  on = λ rest x z stays. stays;
  all = λ x y z one other. inr (inr (record { y = y; behind = omega arith; first = one; second = other }));
}

-- a change is taken that starts in the part
pub staying-first : (old middle new : List ℕ) (first second : List Change) (joint : Joint) (c : Change) (left right out : List Change) → Joining old middle new joint (c ∷ left) right out
    → c.new_start ≤ part_end joint → Staying first second joint (c ∷ left) right out
    → Staying first second (record joint { first = record { outer = c.old_end; middle = c.new_end } }) left right out
staying-first old middle new first second joint c left right out j within s =
    let joint' : Joint = record joint { first = record { outer = c.old_end; middle = c.new_end } } in
    let through : (x z : ℕ) → Through joint (c ∷ left) right x z → Through joint' left right x z = λ x z t.
    let right-of = stays-behind right joint.second.middle joint.second.outer j.second.behind j.second.behind' j.second.n t.y z j.second.are t.second in
    elim t.first [
      | inl gap ↦ absurd (omega (arith, within, gap.1, gap.2, right-of.0, t.behind))
      | inr later ↦ record { y = t.y; behind = t.behind; first = later; second = t.second }
    ] in
    record {
      at = s.at;
      at' = s.at';
      long = s.long;
      start_is = s.start_is;
      start_is' = s.start_is';
      on = s.on;
      all = λ x y z one other. elim (s.all x y z one other) [
        | inl done ↦ inl done
        | inr more ↦ elim more [
          | inl gap ↦ inr (inl (record { behind = gap.behind; there = gap.there; before = gap.before }))
          | inr t ↦ inr (inr (through x z t))
        ]
      ];
    }

pub staying-second : (old middle new : List ℕ) (first second : List Change) (joint : Joint) (c : Change) (left right out : List Change) → Joining old middle new joint left (c ∷ right) out
    → middle_start joint c ≤ part_end joint → Staying first second joint left (c ∷ right) out
    → Staying first second (record joint { second = record { outer = c.new_end; middle = c.old_end } }) left right out
staying-second old middle new first second joint c left right out j within s =
    let joint' : Joint = record joint { second = record { outer = c.new_end; middle = c.old_end } } in
    let f = cursor-first c right joint.second.middle joint.second.outer middle new j.second in
    let through : (x z : ℕ) → Through joint left (c ∷ right) x z → Through joint' left right x z = λ x z t.
    let left-of = stays-behind left joint.first.outer joint.first.middle j.first.behind j.first.behind' j.first.n x t.y j.first.are t.first in
    elim t.second [
      | inl gap ↦ absurd (omega (arith, within, gap.0, gap.1, gap.2, left-of.1, t.behind, f.0))
      | inr later ↦ record { y = t.y; behind = t.behind; first = t.first; second = later }
    ] in
    record {
      at = s.at;
      at' = s.at';
      long = s.long;
      start_is = s.start_is;
      start_is' = s.start_is';
      on = s.on;
      all = λ x y z one other. elim (s.all x y z one other) [
        | inl done ↦ inl done
        | inr more ↦ elim more [
          | inl gap ↦ inr (inl (record { behind = gap.behind; there = gap.there; before = gap.before }))
          | inr t ↦ inr (inr (through x z t))
        ]
      ];
    }

-- the next part starts after this one
again : (out rest : List Change) (c : Change) (x z : ℕ) → Stays (out ++ c ∷ rest) x z → Stays ((out ++ c ∷ []) ++ rest) x z
again out rest c x z stays = subst (λ cs. Stays cs x z) (sym (append_assoc out (c ∷ []) rest)) stays

-- what stays before the offset where it starts, or after it
split : (old middle new : List ℕ) (joint : Joint) (left right out : List Change) (place x z : ℕ) → Joining old middle new joint left right out
    → Begin place left → BeginOld joint.second.middle joint.second.outer place right → (t : Through joint left right x z)
    → (((part_end joint ≤ t.y) × (t.y < place)) × ((x ≡ joint.first.outer + (t.y - joint.first.middle)) × (z ≡ joint.second.outer + (t.y - joint.second.middle)))) ⊎ (place ≤ t.y)
split old middle new joint left right out place x z j begin begin' t =
    let left-of = stays-behind left joint.first.outer joint.first.middle j.first.behind j.first.behind' j.first.n x t.y j.first.are t.first in
    let right-of = stays-behind right joint.second.middle joint.second.outer j.second.behind j.second.behind' j.second.n t.y z j.second.are t.second in
    elim (cases_lt t.y place) [
      | inl less ↦
          let one = stays-before left joint.first.outer joint.first.middle j.first.behind j.first.behind' j.first.n place x t.y j.first.are begin less t.first in
          let other = stays-before_old right joint.second.middle joint.second.outer j.second.behind j.second.behind' j.second.n place t.y z j.second.are begin' less t.second in
          inl ((omega (arith, left-of.1, right-of.0, t.behind), less), (omega (arith, one.0, one.1), other.1))
      | inr more ↦ inr more
    ]

pub staying-reach : (old middle new : List ℕ) (first second : List Change) (joint : Joint) (left right out out' : List Change) (place : ℕ) → Joining old middle new joint left right out
    → part_end joint ≤ place → Begin place left → BeginOld joint.second.middle joint.second.outer place right → AddsPart joint (place_past joint (part_end joint)) out out'
    → Staying first second joint left right out → Staying first second (record joint { start = place_past joint place }) left right out'
staying-reach old middle new first second joint left right out out' place j low begin begin' (inl none) s =
    let joint' : Joint = record joint { start = place_past joint place } in
    let m = part_end joint in
    let mine : Staying first second joint' left right out = record {
      at = s.at;
      at' = s.at';
      long = s.long + (place - m);
      start_is = omega (arith, s.start_is, none.0.0, low);
      start_is' = omega (arith, s.start_is', none.0.1, low);
      on = s.on;
      all = λ x y z one other. elim (s.all x y z one other) [
        | inl done ↦ inl done
        | inr more ↦ elim more [
          | inl gap ↦ inr (inl (record { behind = gap.behind; there = gap.there; before = omega (arith, gap.before, none.0.1, low) }))
          | inr t ↦ elim (split old middle new joint left right out place x z j begin begin' t) [
            | inl before ↦ inr (inl (record {
              behind = omega (arith, before.0.0, before.1.0, s.start_is, none.0.0);
              there = omega (arith, before.0.0, before.1.0, before.1.1, s.start_is, s.start_is', none.0.0, none.0.1);
              before = omega (arith, before.0.0, before.0.1, before.1.1);
            }))
            | inr past ↦ inr (inr (record { y = t.y; behind = past; first = t.first; second = t.second }))
          ]
        ]
      ];
    } in
    subst (Staying first second joint' left right) (sym none.1) mine
staying-reach old middle new first second joint left right out out' place j low begin begin' (inr some) s =
    let joint' : Joint = record joint { start = place_past joint place } in
    let m = part_end joint in
    let end = place_past joint m in
    let c = change_to joint end in
    let mine : Staying first second joint' left right (out ++ c ∷ []) = record {
      at = end.old;
      at' = end.new;
      long = place - m;
      start_is = omega (arith, low);
      start_is' = omega (arith, low);
      on = λ rest x z stays. again out rest c x z (s.on (c ∷ rest) x z (inr stays));
      all = λ x y z one other. elim (s.all x y z one other) [
        | inl done ↦ inl (λ rest. again out rest c x z (done (c ∷ rest)))
        | inr more ↦ elim more [
          | inl gap ↦ inl (λ rest. again out rest c x z (s.on (c ∷ rest) x z (inl (gap.behind, gap.there, gap.before))))
          | inr t ↦ elim (split old middle new joint left right out place x z j begin begin' t) [
            | inl before ↦ inr (inl (record {
              behind = omega (arith, before.0.0, before.1.0);
              there = omega (arith, before.0.0, before.1.0, before.1.1);
              before = omega (arith, before.0.0, before.0.1, before.1.1);
            }))
            | inr past ↦ inr (inr (record { y = t.y; behind = past; first = t.first; second = t.second }))
          ]
        ]
      ];
    } in
    subst (Staying first second joint' left right) (sym some.1) mine

pub staying-end : (old middle new : List ℕ) (first second : List Change) (joint : Joint) (out out' : List Change) → Joining old middle new joint [] [] out
    → AddsPart joint (place_past joint (part_end joint)) out out' → Staying first second joint [] [] out
    → (x y z : ℕ) → Stays first x y → Stays second y z → Stays out' x z
staying-end old middle new first second joint out out' j adds s = λ x y z one other.
    let m = part_end joint in
    let s' = staying-reach old middle new first second joint [] [] out out' m j (omega arith) tt tt adds s in
    let whole : Stays (out' ++ []) x z → Stays out' x z = λ stays. subst (λ cs. Stays cs x z) (append-nil out') stays in
    elim (s'.all x y z one other) [
      | inl done ↦ whole (done [])
      | inr more ↦ elim more [
        | inl gap ↦ whole (s'.on [] x z (gap.behind, gap.there))
        | inr t ↦
            let past = t.behind in
            whole (s'.on [] x z (omega (arith, past, t.first.0, t.first.1, s'.start_is), omega (arith, past, t.first.0, t.first.1, t.second.0, t.second.1, s'.start_is, s'.start_is')))
      ]
    ]

-- ---- separate

pub record Spaced (start : ℕ) (out : List Change) : Type 0 where
  pub at : ℕ
  pub apart : (out ≡ []) ⊎ ((at < start) × ((rest : List Change) → AreApartFrom at rest → AreApart (out ++ rest)))

pub spaced-start : (start : ℕ) → Spaced start []
spaced-start start = record { at = 0; apart = inl refl }

spaced-with : (start : ℕ) (out : List Change) (c : Change) (rest : List Change) → Spaced start out → c.new_start ≡ start → AreApartFrom c.new_end rest → AreApart ((out ++ c ∷ []) ++ rest)
spaced-with start out c rest s is behind = subst AreApart (sym (append_assoc out (c ∷ []) rest)) (elim s.apart [
  | inl none ↦ subst (λ cs. AreApart (cs ++ c ∷ rest)) (sym none) behind
  | inr some ↦ some.1 (c ∷ rest) (omega (arith, some.0, is), behind)
])

spaced-none : (start : ℕ) (out : List Change) → Spaced start out → AreApart out
spaced-none start out s = elim s.apart [
  | inl none ↦ subst AreApart (sym none) tt
  | inr some ↦ subst AreApart (append-nil out) (some.1 [] tt)
]

pub spaced-reach : (joint : Joint) (place : ℕ) (out out' : List Change) → part_end joint < place → AddsPart joint (place_past joint (part_end joint)) out out'
    → Spaced joint.start.new out → Spaced (place_past joint place).new out'
spaced-reach joint place out out' low (inl none) s =
    subst (Spaced (place_past joint place).new) (sym none.1) (record {
      at = s.at;
      apart = elim s.apart [
        | inl nothing ↦ inl nothing
        | inr some ↦ inr (omega (arith, some.0, none.0.1, low), some.1)
      ];
    })
spaced-reach joint place out out' low (inr some) s =
    let c = change_to joint (place_past joint (part_end joint)) in
    subst (Spaced (place_past joint place).new) (sym some.1) (record {
      at = c.new_end;
      apart = inr (omega (arith, low), λ rest behind. spaced-with joint.start.new out c rest s refl behind);
    })

pub spaced-end : (joint : Joint) (end : Place) (out out' : List Change) → AddsPart joint end out out' → Spaced joint.start.new out → AreApart out'
spaced-end joint end out out' (inl none) s = subst AreApart (sym none.1) (spaced-none joint.start.new out s)
spaced-end joint end out out' (inr some) s =
    let c = change_to joint end in
    subst AreApart (append-nil (out ++ c ∷ []) ∙ sym some.1) (spaced-with joint.start.new out c [] s refl tt)

-- ---- few

abbrev pub AreFew : Joint → ℕ → List Change → Type 0
AreFew joint count out = (length out < count) ⊎ ((count ≡ 0) × ((joint ≡ no_joint) × (out ≡ [])))

no_change : (joint : Joint) → joint ≡ no_joint → IsEmptyPart joint (place_past joint (part_end joint))
no_change joint is = subst (λ j. IsEmptyPart j (place_past j (part_end j))) (sym is) (omega arith, omega arith)

pub few-adds : (joint : Joint) (count : ℕ) (out out' : List Change) → AreFew joint count out → AddsPart joint (place_past joint (part_end joint)) out out' → length out' ≤ count
few-adds joint count out out' few adds = elim adds [
  | inl none ↦ elim few [
    | inl less ↦ omega (arith, less, ap length none.1)
    | inr start ↦ omega (arith, ap length none.1, ap length start.1.1)
  ]
  | inr some ↦ elim few [
    | inl less ↦ omega (arith, less, ap length some.1, length-append out (change_to joint (place_past joint (part_end joint)) ∷ []))
    | inr start ↦ absurd (some.0 (no_change joint start.1.0))
  ]
]
