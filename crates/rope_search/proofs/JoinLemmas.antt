-- The composed changes of two steps lead from the first text to the last.
use Rattle.std.proofs.Common.{◌≡◌, ℕ, ◌+◌, ◌-◌, ◌≤◌, inl, inr, List, [], ◌∷◌, ◌++◌, refl, sym, ap, subst, ◌∙◌, arith, append_assoc, append-nil}
use Rattle.std.specs.Prelude.{max}
use Rattle.std.proofs.lemmas.Bool.{cases_lt}
use Rattle.std.proofs.lemmas.List.{append_cancel_left}
use Rattle.std.proofs.lemmas.Str.{len_utf8_bounds}
use Rattle.str_indices.specs.Text.{byte_len}
use Rattle.rope_search_reports.specs.Changes.{AreChanges, IsChange}
use Rattle.rope_search_reports.specs.Turned.{Lead}
use Rattle.rope_search_changes.specs.declared.Change.{Change}
use Rattle.rope_search.specs.declared.joins.Joint.{Joint}
use Rattle.rope_search.specs.declared.joins.Place.{Place}
use Rattle.rope_search.specs.Joints.{AddsPart, change_to, part_end, place_past}
use Rattle.rope_search_reports.proofs.LineLemmas.{byte_len-append, byte_len-one}
use Rattle.rope_search_reports.proofs.PlaceLemmas.{front_within}

-- ---- a text from an offset on

pub record Cut (text : List ℕ) (place : ℕ) (behind : List ℕ) : Type 0 where
  pub before : List ℕ
  pub is : text ≡ before ++ behind
  pub place_is : place ≡ byte_len before

cut-start : (text : List ℕ) → Cut text 0 text
cut-start text = record { before = []; is = refl; place_is = omega arith }

cut-more : (text : List ℕ) (place further : ℕ) (part behind : List ℕ) → Cut text place (part ++ behind) → further ≡ place + byte_len part → Cut text further behind
cut-more text place further part behind cut is = record {
  before = cut.before ++ part;
  is = cut.is ∙ sym (append_assoc cut.before part behind);
  place_is = omega (arith, is, cut.place_is, byte_len-append cut.before part);
}

pub cut-within : (text : List ℕ) (place : ℕ) (behind : List ℕ) → Cut text place behind → place ≤ byte_len text
cut-within text place behind cut = omega (arith, cut.place_is, ap byte_len cut.is, byte_len-append cut.before behind)

-- the text from one offset to another
pub record Part (place place' : ℕ) (behind behind' : List ℕ) : Type 0 where
  pub part : List ℕ
  pub is : behind ≡ part ++ behind'
  pub long : place' ≡ place + byte_len part

cut-part : (text : List ℕ) (place place' : ℕ) (behind behind' : List ℕ) → Cut text place behind → Cut text place' behind' → place ≤ place' → Part place place' behind behind'
cut-part text place place' behind behind' one other low =
    let mid = front_within one.before behind other.before behind' (sym one.is ∙ other.is) (omega (arith, one.place_is, other.place_is, low)) in
    record {
      part = mid.0;
      is = append_cancel_left one.before behind (mid.0 ++ behind') (sym one.is ∙ other.is ∙ ap (λ t. t ++ behind') mid.1 ∙ append_assoc one.before mid.0 behind');
      long = omega (arith, one.place_is, other.place_is, ap byte_len mid.1, byte_len-append one.before mid.0);
    }

no-part : (part : List ℕ) → byte_len part ≡ 0 → part ≡ []
no-part [] none = refl
no-part (c ∷ cs) none = absurd (omega (arith, none, byte_len-one c cs, (len_utf8_bounds c).0))

-- ---- changes from two offsets on

-- they begin no earlier than an offset of the new text
abbrev pub Begin : ℕ → List Change → Type 0
Begin place [] = Unit {0}
Begin place (c ∷ cs) = place ≤ c.new_start

-- than one of the old text
abbrev pub BeginOld : ℕ → ℕ → ℕ → List Change → Type 0
BeginOld at at' place [] = Unit {0}
BeginOld at at' place (c ∷ cs) = place ≤ at + (c.new_start - at')

pub record Cursor (changes : List Change) (at at' : ℕ) (old new : List ℕ) : Type 0 where
  pub behind : List ℕ
  pub behind' : List ℕ
  pub n : ℕ
  pub cut : Cut old at behind
  pub cut' : Cut new at' behind'
  pub are : AreChanges changes at at' behind behind' n

cursor-start : (changes : List Change) (old new : List ℕ) → Lead changes old new → Cursor changes 0 0 old new
cursor-start changes old new lead = record { behind = old; behind' = new; n = lead.0; cut = cut-start old; cut' = cut-start new; are = lead.1 }

cursor-next : (c : Change) (cs : List Change) (at at' : ℕ) (old new : List ℕ) → Cursor (c ∷ cs) at at' old new → Cursor cs c.old_end c.new_end old new
cursor-next c cs at at' old new cur =
    let one = cur.are in
    record {
      behind = one.old_behind;
      behind' = one.new_behind;
      n = one.left;
      cut = cut-more old at c.old_end (one.gap ++ one.removed) one.old_behind (subst (Cut old at) one.old_is cur.cut) (omega (arith, one.old_end, byte_len-append one.gap one.removed));
      cut' = cut-more new at' c.new_end (one.gap ++ one.inserted) one.new_behind (subst (Cut new at') one.new_is cur.cut') (omega (arith, one.new_end, byte_len-append one.gap one.inserted));
      are = one.further;
    }

pub cursor-first : (c : Change) (cs : List Change) (at at' : ℕ) (old new : List ℕ) → Cursor (c ∷ cs) at at' old new
    → (at' ≤ c.new_start) × (at + (c.new_start - at') ≤ c.old_end) × (c.new_start ≤ c.new_end)
cursor-first c cs at at' old new cur =
    let one = cur.are in (omega (arith, one.new_start), omega (arith, one.new_start, one.old_end), omega (arith, one.new_start, one.new_end))

next-begin : (c : Change) (cs : List Change) (at at' : ℕ) (old new : List ℕ) (place : ℕ) → Cursor (c ∷ cs) at at' old new → place ≤ c.new_end → Begin place cs
next-begin c [] at at' old new place cur low = tt
next-begin c (d ∷ cs) at at' old new place cur low = omega (arith, low, cur.are.further.new_start)

next-begin_old : (c : Change) (cs : List Change) (at at' : ℕ) (old new : List ℕ) (place : ℕ) → Cursor (c ∷ cs) at at' old new → place ≤ c.old_end → BeginOld c.old_end c.new_end place cs
next-begin_old c [] at at' old new place cur low = tt
next-begin_old c (d ∷ cs) at at' old new place cur low = omega (arith, low)

-- text before the first change, which stays, may be left out
shift : (c : Change) (cs : List Change) (at at' : ℕ) (old new : List ℕ) (n : ℕ) (part mid behind behind' : List ℕ) → (one : IsChange (AreChanges cs) at at' old new c n)
    → one.gap ≡ part ++ mid → old ≡ part ++ behind → new ≡ part ++ behind'
    → AreChanges (c ∷ cs) (at + byte_len part) (at' + byte_len part) behind behind' n
shift c cs at at' old new n part mid behind behind' one cut old_is new_is =
    let long : byte_len one.gap ≡ byte_len part + byte_len mid = ap byte_len cut ∙ byte_len-append part mid in
    let whole : (xs ys : List ℕ) → (part ++ mid ++ xs) ++ ys ≡ part ++ (mid ++ xs ++ ys) = λ xs ys. ap (λ t. t ++ ys) (append_assoc part mid xs) ∙ append_assoc part (mid ++ xs) ys in
    record {
      gap = mid;
      removed = one.removed;
      inserted = one.inserted;
      old_behind = one.old_behind;
      new_behind = one.new_behind;
      left = one.left;
      old_is = append_cancel_left part behind (mid ++ one.removed ++ one.old_behind)
          (sym old_is ∙ one.old_is ∙ ap (λ g. g ++ one.removed ++ one.old_behind) cut ∙ whole one.removed one.old_behind);
      new_is = append_cancel_left part behind' (mid ++ one.inserted ++ one.new_behind)
          (sym new_is ∙ one.new_is ∙ ap (λ g. g ++ one.inserted ++ one.new_behind) cut ∙ whole one.inserted one.new_behind);
      old_end = omega (arith, one.old_end, long);
      new_start = omega (arith, one.new_start, long);
      new_end = omega (arith, one.new_end, long);
      counts = one.counts;
      further = one.further;
    }

-- a part of the new text, which is one of the old text too
move-new : (changes : List Change) (at at' : ℕ) (old new : List ℕ) (n : ℕ) (part behind' : List ℕ) → AreChanges changes at at' old new n → new ≡ part ++ behind'
    → Begin (at' + byte_len part) changes → (behind : List ℕ) × (old ≡ part ++ behind) × AreChanges changes (at + byte_len part) (at' + byte_len part) behind behind' n
move-new [] at at' old new n part behind' are is low = (behind', are.0 ∙ is, (refl, are.1))
move-new (c ∷ cs) at at' old new n part behind' one is low =
    let mid = front_within part behind' one.gap (one.inserted ++ one.new_behind) (sym is ∙ one.new_is ∙ append_assoc one.gap one.inserted one.new_behind) (omega (arith, low, one.new_start)) in
    let behind = mid.0 ++ one.removed ++ one.old_behind in
    let old_is : old ≡ part ++ behind =
    one.old_is ∙ ap (λ g. g ++ one.removed ++ one.old_behind) mid.1 ∙ ap (λ t. t ++ one.old_behind) (append_assoc part mid.0 one.removed) ∙ append_assoc part (mid.0 ++ one.removed) one.old_behind in
    (behind, old_is, shift c cs at at' old new n part mid.0 behind behind' one mid.1 old_is is)

-- a part of the old text
move-old : (changes : List Change) (at at' : ℕ) (old new : List ℕ) (n : ℕ) (part behind : List ℕ) → AreChanges changes at at' old new n → old ≡ part ++ behind
    → BeginOld at at' (at + byte_len part) changes → (behind' : List ℕ) × (new ≡ part ++ behind') × AreChanges changes (at + byte_len part) (at' + byte_len part) behind behind' n
move-old [] at at' old new n part behind are is low = (behind, sym are.0 ∙ is, (refl, are.1))
move-old (c ∷ cs) at at' old new n part behind one is low =
    let mid = front_within part behind one.gap (one.removed ++ one.old_behind) (sym is ∙ one.old_is ∙ append_assoc one.gap one.removed one.old_behind) (omega (arith, low, one.new_start)) in
    let behind' = mid.0 ++ one.inserted ++ one.new_behind in
    let new_is : new ≡ part ++ behind' =
    one.new_is ∙ ap (λ g. g ++ one.inserted ++ one.new_behind) mid.1 ∙ ap (λ t. t ++ one.new_behind) (append_assoc part mid.0 one.inserted) ∙ append_assoc part (mid.0 ++ one.inserted) one.new_behind in
    (behind', new_is, shift c cs at at' old new n part mid.0 behind behind' one mid.1 is new_is)

-- up to an offset where the new text is split
pub record Stop (changes : List Change) (old : List ℕ) (place place' : ℕ) (behind' : List ℕ) : Type 0 where
  pub behind : List ℕ
  pub n : ℕ
  pub cut : Cut old place behind
  pub are : AreChanges changes place place' behind behind' n

to-new : (changes : List Change) (at at' : ℕ) (old new : List ℕ) (place : ℕ) (rest : List ℕ) → Cursor changes at at' old new → Cut new place rest → at' ≤ place → Begin place changes
    → Stop changes old (at + (place - at')) place rest
to-new changes at at' old new place rest cur cut low begin =
    let part = cut-part new at' place cur.behind' rest cur.cut' cut low in
    let there : at' + byte_len part.part ≡ place = sym part.long in
    let here : at + byte_len part.part ≡ at + (place - at') = omega (arith, part.long) in
    let moved = move-new changes at at' cur.behind cur.behind' cur.n part.part rest cur.are part.is (subst (λ p. Begin p changes) part.long begin) in
    record {
      behind = moved.0;
      n = cur.n;
      cut = cut-more old at (at + (place - at')) part.part moved.0 (subst (Cut old at) moved.1 cur.cut) (sym here);
      are = subst (λ p. AreChanges changes p place moved.0 rest cur.n) here (subst (λ p. AreChanges changes (at + byte_len part.part) p moved.0 rest cur.n) there moved.2);
    }

-- up to an offset where the old text is split
pub record StopOld (changes : List Change) (new : List ℕ) (place place' : ℕ) (behind : List ℕ) : Type 0 where
  pub behind' : List ℕ
  pub n : ℕ
  pub cut : Cut new place' behind'
  pub are : AreChanges changes place place' behind behind' n

to-old : (changes : List Change) (at at' : ℕ) (old new : List ℕ) (place : ℕ) (rest : List ℕ) → Cursor changes at at' old new → Cut old place rest → at ≤ place → BeginOld at at' place changes
    → StopOld changes new place (at' + (place - at)) rest
to-old changes at at' old new place rest cur cut low begin =
    let part = cut-part old at place cur.behind rest cur.cut cut low in
    let here : at + byte_len part.part ≡ place = sym part.long in
    let there : at' + byte_len part.part ≡ at' + (place - at) = omega (arith, part.long) in
    let moved = move-old changes at at' cur.behind cur.behind' cur.n part.part rest cur.are part.is (subst (λ p. BeginOld at at' p changes) part.long begin) in
    record {
      behind' = moved.0;
      n = cur.n;
      cut = cut-more new at' (at' + (place - at)) part.part moved.0 (subst (Cut new at') moved.1 cur.cut') (sym there);
      are = subst (λ p. AreChanges changes p (at' + (place - at)) rest moved.0 cur.n) here (subst (λ p. AreChanges changes (at + byte_len part.part) p rest moved.0 cur.n) there moved.2);
    }

-- ---- the changes that are made so far

-- With further ones after two offsets they lead from the one text to the other.
pub record LeadTo (old new : List ℕ) (out : List Change) (start start' : ℕ) (behind behind' : List ℕ) : Type 0 where
  pub at : ℕ
  pub at' : ℕ
  pub gap : List ℕ
  pub start_is : start ≡ at + byte_len gap
  pub start_is' : start' ≡ at' + byte_len gap
  pub led : (rest : List Change) (n : ℕ) → AreChanges rest at at' (gap ++ behind) (gap ++ behind') n → Lead (out ++ rest) old new

lead_to-start : (old new : List ℕ) → LeadTo old new [] 0 0 old new
lead_to-start old new = record { at = 0; at' = 0; gap = []; start_is = omega arith; start_is' = omega arith; led = λ rest n are. (n, are) }

lead_to-push : (old new : List ℕ) (out : List Change) (start start' : ℕ) (behind behind' : List ℕ) (c : Change) (removed inserted rest rest' part left left' : List ℕ)
    → LeadTo old new out start start' behind behind' → behind ≡ removed ++ rest → behind' ≡ inserted ++ rest'
    → c.old_end ≡ start + byte_len removed → c.new_start ≡ start' → c.new_end ≡ start' + byte_len inserted → rest ≡ part ++ left → rest' ≡ part ++ left'
    → LeadTo old new (out ++ c ∷ []) (c.old_end + byte_len part) (c.new_end + byte_len part) left left'
lead_to-push old new out start start' behind behind' c removed inserted rest rest' part left left' to is is' ends starts ends' goes goes' = record {
  at = c.old_end;
  at' = c.new_end;
  gap = part;
  start_is = refl;
  start_is' = refl;
  led = λ further n are.
      subst (λ cs. Lead cs old new) (sym (append_assoc out (c ∷ []) further))
      (to.led (c ∷ further) _ (record {
        gap = to.gap;
        removed = removed;
        inserted = inserted;
        old_behind = rest;
        new_behind = rest';
        left = n;
        old_is = ap (λ t. to.gap ++ t) is ∙ sym (append_assoc to.gap removed rest);
        new_is = ap (λ t. to.gap ++ t) is' ∙ sym (append_assoc to.gap inserted rest');
        old_end = omega (arith, ends, to.start_is);
        new_start = omega (arith, starts, to.start_is');
        new_end = omega (arith, ends', to.start_is');
        counts = refl;
        further = subst (λ t. AreChanges further c.old_end c.new_end t rest' n) (sym goes) (subst (λ t. AreChanges further c.old_end c.new_end (part ++ left) t n) (sym goes') are);
      }));
}

lead_to-skip : (old new : List ℕ) (out : List Change) (start start' : ℕ) (behind behind' part left left' : List ℕ)
    → LeadTo old new out start start' behind behind' → behind ≡ part ++ left → behind' ≡ part ++ left'
    → LeadTo old new out (start + byte_len part) (start' + byte_len part) left left'
lead_to-skip old new out start start' behind behind' part left left' to goes goes' =
    let long : byte_len (to.gap ++ part) ≡ byte_len to.gap + byte_len part = byte_len-append to.gap part in
    record {
      at = to.at;
      at' = to.at';
      gap = to.gap ++ part;
      start_is = omega (arith, to.start_is, long);
      start_is' = omega (arith, to.start_is', long);
      led = λ further n are. to.led further n
          (subst (λ t. AreChanges further to.at to.at' t (to.gap ++ behind') n) (append_assoc to.gap part left ∙ ap (λ t. to.gap ++ t) (sym goes))
          (subst (λ t. AreChanges further to.at to.at' ((to.gap ++ part) ++ left) t n) (append_assoc to.gap part left' ∙ ap (λ t. to.gap ++ t) (sym goes')) are));
    }

-- ---- both steps

pub record Joining (old middle new : List ℕ) (joint : Joint) (left right out : List Change) : Type 0 where
  pub first : Cursor left joint.first.outer joint.first.middle old middle
  pub second : Cursor right joint.second.middle joint.second.outer middle new
  pub behind : List ℕ
  pub behind_middle : List ℕ
  pub behind' : List ℕ
  pub cut : Cut old joint.start.old behind
  pub cut_middle : Cut middle joint.start.middle behind_middle
  pub cut' : Cut new joint.start.new behind'
  pub to : LeadTo old new out joint.start.old joint.start.new behind behind'
  pub low : joint.start.old ≤ joint.first.outer + (joint.start.middle - joint.first.middle)
  pub low' : joint.start.new ≤ joint.second.outer + (joint.start.middle - joint.second.middle)
  pub ahead : Begin joint.start.middle left
  pub ahead' : BeginOld joint.second.middle joint.second.outer joint.start.middle right

abbrev pub no_joint : Joint
no_joint = record {
  start = record { old = 0; middle = 0; new = 0 };
  first = record { outer = 0; middle = 0 };
  second = record { outer = 0; middle = 0 };
}

begin-none : (changes : List Change) → Begin 0 changes
begin-none [] = tt
begin-none (c ∷ cs) = omega arith

begin_old-none : (at at' : ℕ) (changes : List Change) → BeginOld at at' 0 changes
begin_old-none at at' [] = tt
begin_old-none at at' (c ∷ cs) = omega arith

pub joining-start : (old middle new : List ℕ) (first second : List Change) → Lead first old middle → Lead second middle new → Joining old middle new no_joint first second []
joining-start old middle new first second one other = record {
  first = cursor-start first old middle one;
  second = cursor-start second middle new other;
  behind = old;
  behind_middle = middle;
  behind' = new;
  cut = cut-start old;
  cut_middle = cut-start middle;
  cut' = cut-start new;
  to = lead_to-start old new;
  low = omega arith;
  low' = omega arith;
  ahead = begin-none first;
  ahead' = begin_old-none 0 0 second;
}

-- a change of the first step is taken
pub joining-first : (old middle new : List ℕ) (joint : Joint) (c : Change) (left right out : List Change) → Joining old middle new joint (c ∷ left) right out
    → Joining old middle new (record joint { first = record { outer = c.old_end; middle = c.new_end } }) left right out
joining-first old middle new joint c left right out j =
    let f = cursor-first c left joint.first.outer joint.first.middle old middle j.first in
    record {
      first = cursor-next c left joint.first.outer joint.first.middle old middle j.first;
      second = j.second;
      behind = j.behind;
      behind_middle = j.behind_middle;
      behind' = j.behind';
      cut = j.cut;
      cut_middle = j.cut_middle;
      cut' = j.cut';
      to = j.to;
      low = omega (arith, j.low, j.ahead, f.0, f.1, f.2);
      low' = j.low';
      ahead = next-begin c left joint.first.outer joint.first.middle old middle joint.start.middle j.first (omega (arith, j.ahead, f.2));
      ahead' = j.ahead';
    }

-- one of the second step
pub joining-second : (old middle new : List ℕ) (joint : Joint) (c : Change) (left right out : List Change) → Joining old middle new joint left (c ∷ right) out
    → Joining old middle new (record joint { second = record { outer = c.new_end; middle = c.old_end } }) left right out
joining-second old middle new joint c left right out j =
    let f = cursor-first c right joint.second.middle joint.second.outer middle new j.second in
    record {
      first = j.first;
      second = cursor-next c right joint.second.middle joint.second.outer middle new j.second;
      behind = j.behind;
      behind_middle = j.behind_middle;
      behind' = j.behind';
      cut = j.cut;
      cut_middle = j.cut_middle;
      cut' = j.cut';
      to = j.to;
      low = j.low;
      low' = omega (arith, j.low', j.ahead', f.0, f.1, f.2);
      ahead = j.ahead;
      ahead' = next-begin_old c right joint.second.middle joint.second.outer middle new joint.start.middle j.second (omega (arith, j.ahead', f.1));
    }

-- ---- the end of a part

cut-max : (text : List ℕ) (a b : ℕ) (behind behind' : List ℕ) → Cut text a behind → Cut text b behind' → (rest : List ℕ) × Cut text (max a b) rest
cut-max text a b behind behind' one other = elim (cases_lt a b) [
  | inl less ↦ (behind', subst (λ p. Cut text p behind') (omega (arith, less)) other)
  | inr more ↦ (behind, subst (λ p. Cut text p behind) (omega (arith, more)) one)
]

-- where it ends in the three texts
pub record Ended (old middle new : List ℕ) (joint : Joint) (left right : List Change) (place : ℕ) : Type 0 where
  pub rest : List ℕ
  pub cut_middle : Cut middle place rest
  pub first : Stop left old (place_past joint place).old place rest
  pub second : StopOld right new place (place_past joint place).new rest

pub ended-at : (old middle new : List ℕ) (joint : Joint) (left right out : List Change) (place : ℕ) (rest : List ℕ) → Joining old middle new joint left right out
    → Cut middle place rest → joint.first.middle ≤ place → joint.second.middle ≤ place → Begin place left → BeginOld joint.second.middle joint.second.outer place right
    → Ended old middle new joint left right place
ended-at old middle new joint left right out place rest j cut low low' begin begin' = record {
  rest = rest;
  cut_middle = cut;
  first = to-new left joint.first.outer joint.first.middle old middle place rest j.first cut low begin;
  second = to-old right joint.second.middle joint.second.outer middle new place rest j.second cut low' begin';
}

pub ended : (old middle new : List ℕ) (joint : Joint) (left right out : List Change) → Joining old middle new joint left right out
    → Begin (part_end joint) left → BeginOld joint.second.middle joint.second.outer (part_end joint) right → Ended old middle new joint left right (part_end joint)
ended old middle new joint left right out j begin begin' =
    let one = cut-max middle joint.start.middle joint.first.middle j.behind_middle j.first.behind' j.cut_middle j.first.cut' in
    let both = cut-max middle (max joint.start.middle joint.first.middle) joint.second.middle one.0 j.second.behind one.1 j.second.cut in
    ended-at old middle new joint left right out (part_end joint) both.0 j both.1 (omega arith) (omega arith) begin begin'

begin-less : (place place' : ℕ) (changes : List Change) → place ≤ place' → Begin place' changes → Begin place changes
begin-less place place' [] low begin = tt
begin-less place place' (c ∷ cs) low begin = omega (arith, low, begin)

begin_old-less : (at at' place place' : ℕ) (changes : List Change) → place ≤ place' → BeginOld at at' place' changes → BeginOld at at' place changes
begin_old-less at at' place place' [] low begin = tt
begin_old-less at at' place place' (c ∷ cs) low begin = omega (arith, low, begin)

begin_old-on : (at at' m m' place : ℕ) (changes : List Change) → at ≤ m → m ≤ place → m' ≡ at' + (m - at) → BeginOld at at' place changes → BeginOld m m' place changes
begin_old-on at at' m m' place [] low high is begin = tt
begin_old-on at at' m m' place (c ∷ cs) low high is begin = omega (arith, low, high, is, begin)

adds-to : (old new : List ℕ) (joint : Joint) (end : Place) (out out' : List Change) (behind behind' removed inserted rest rest' part left left' : List ℕ)
    → LeadTo old new out joint.start.old joint.start.new behind behind' → AddsPart joint end out out' → behind ≡ removed ++ rest → behind' ≡ inserted ++ rest'
    → end.old ≡ joint.start.old + byte_len removed → end.new ≡ joint.start.new + byte_len inserted → rest ≡ part ++ left → rest' ≡ part ++ left'
    → LeadTo old new out' (end.old + byte_len part) (end.new + byte_len part) left left'
adds-to old new joint end out out' behind behind' removed inserted rest rest' part left left' to (inl none) is is' ends ends' goes goes' =
    let no : removed ≡ [] = no-part removed (omega (arith, none.0.0, ends)) in
    let no' : inserted ≡ [] = no-part inserted (omega (arith, none.0.1, ends')) in
    let all : behind ≡ part ++ left = is ∙ ap (λ t. t ++ rest) no ∙ goes in
    let all' : behind' ≡ part ++ left' = is' ∙ ap (λ t. t ++ rest') no' ∙ goes' in
    subst (λ p. LeadTo old new out' (p + byte_len part) (end.new + byte_len part) left left') (sym none.0.0)
    (subst (λ p. LeadTo old new out' (joint.start.old + byte_len part) (p + byte_len part) left left') (sym none.0.1)
    (subst (λ cs. LeadTo old new cs (joint.start.old + byte_len part) (joint.start.new + byte_len part) left left') (sym none.1)
    (lead_to-skip old new out joint.start.old joint.start.new behind behind' part left left' to all all')))
adds-to old new joint end out out' behind behind' removed inserted rest rest' part left left' to (inr some) is is' ends ends' goes goes' =
    subst (λ cs. LeadTo old new cs (end.old + byte_len part) (end.new + byte_len part) left left') (sym some.1)
    (lead_to-push old new out joint.start.old joint.start.new behind behind' (change_to joint end) removed inserted rest rest' part left left' to is is' ends refl ends' goes goes')

-- the next part starts at the end of this one or after it
pub joining-reach : (old middle new : List ℕ) (joint : Joint) (left right out out' : List Change) (place : ℕ) (rest : List ℕ) → Joining old middle new joint left right out
    → Cut middle place rest → part_end joint ≤ place → Begin place left → BeginOld joint.second.middle joint.second.outer place right
    → AddsPart joint (place_past joint (part_end joint)) out out'
    → Joining old middle new (record joint { start = place_past joint place }) left right out'
joining-reach old middle new joint left right out out' place rest j cut low begin begin' adds =
    let m = part_end joint in
    let end = place_past joint m in
    let there = place_past joint place in
    let at = ended old middle new joint left right out j (begin-less m place left low begin) (begin_old-less joint.second.middle joint.second.outer m place right low begin') in
    let part = cut-part middle m place at.rest rest at.cut_middle cut low in
    let one = move-new left end.old m at.first.behind at.rest at.first.n part.part rest at.first.are part.is (subst (λ p. Begin p left) part.long begin) in
    let begin_on : BeginOld m end.new place right = begin_old-on joint.second.middle joint.second.outer m end.new place right (omega arith) low refl begin' in
    let other = move-old right m end.new at.rest at.second.behind' at.second.n part.part rest at.second.are part.is (subst (λ p. BeginOld m end.new p right) part.long begin_on) in
    let ahead : there.old ≡ end.old + byte_len part.part = omega (arith, part.long) in
    let ahead' : there.new ≡ end.new + byte_len part.part = omega (arith, part.long) in
    let removed = cut-part old joint.start.old end.old j.behind at.first.behind j.cut at.first.cut (omega (arith, j.low)) in
    let inserted = cut-part new joint.start.new end.new j.behind' at.second.behind' j.cut' at.second.cut (omega (arith, j.low')) in
    record {
      first = j.first;
      second = j.second;
      behind = one.0;
      behind_middle = rest;
      behind' = other.0;
      cut = cut-more old end.old there.old part.part one.0 (subst (Cut old end.old) one.1 at.first.cut) ahead;
      cut_middle = cut;
      cut' = cut-more new end.new there.new part.part other.0 (subst (Cut new end.new) other.1 at.second.cut) ahead';
      to = subst (λ p. LeadTo old new out' p there.new one.0 other.0) (sym ahead)
          (subst (λ p. LeadTo old new out' (end.old + byte_len part.part) p one.0 other.0) (sym ahead')
          (adds-to old new joint end out out' j.behind j.behind' removed.part inserted.part at.first.behind at.second.behind' part.part one.0 other.0 j.to adds
          removed.is inserted.is removed.long inserted.long one.1 other.1));
      low = omega arith;
      low' = omega arith;
      ahead = begin;
      ahead' = begin';
    }

-- no change is left
pub joining-end : (old middle new : List ℕ) (joint : Joint) (out out' : List Change) → Joining old middle new joint [] [] out
    → AddsPart joint (place_past joint (part_end joint)) out out' → Lead out' old new
joining-end old middle new joint out out' j adds =
    let m = part_end joint in
    let end = place_past joint m in
    let at = ended old middle new joint [] [] out j tt tt in
    let removed = cut-part old joint.start.old end.old j.behind at.first.behind j.cut at.first.cut (omega (arith, j.low)) in
    let inserted = cut-part new joint.start.new end.new j.behind' at.second.behind' j.cut' at.second.cut (omega (arith, j.low')) in
    let to = adds-to old new joint end out out' j.behind j.behind' removed.part inserted.part at.first.behind at.second.behind' [] at.first.behind at.second.behind' j.to adds
    removed.is inserted.is removed.long inserted.long refl refl in
    let same : at.first.behind ≡ at.second.behind' = at.first.are.0 ∙ at.second.are.0 in
    subst (λ cs. Lead cs old new) (append-nil out') (to.led [] 0 (ap (λ t. to.gap ++ t) same, refl))

-- ---- offsets in range

-- where the next change starts
pub first-cut : (c : Change) (cs : List Change) (at at' : ℕ) (old new : List ℕ) → Cursor (c ∷ cs) at at' old new → (rest : List ℕ) × Cut new c.new_start rest
first-cut c cs at at' old new cur =
    let one = cur.are in
    let behind = one.inserted ++ one.new_behind in
    (behind, cut-more new at' c.new_start one.gap behind (subst (Cut new at') (one.new_is ∙ append_assoc one.gap one.inserted one.new_behind) cur.cut') one.new_start)

pub first-cut_old : (c : Change) (cs : List Change) (at at' : ℕ) (old new : List ℕ) → Cursor (c ∷ cs) at at' old new → (rest : List ℕ) × Cut old (at + (c.new_start - at')) rest
first-cut_old c cs at at' old new cur =
    let one = cur.are in
    let behind = one.removed ++ one.old_behind in
    (behind, cut-more old at (at + (c.new_start - at')) one.gap behind (subst (Cut old at) (one.old_is ∙ append_assoc one.gap one.removed one.old_behind) cur.cut) (omega (arith, one.new_start)))

pub fits-old : (old middle new : List ℕ) (joint : Joint) (left right out : List Change) (place : ℕ) (rest : List ℕ) → Joining old middle new joint left right out
    → Cut middle place rest → Begin place left → (place_past joint place).old ≤ byte_len old
fits-old old middle new joint left right out place rest j cut begin = elim (cases_lt place joint.first.middle) [
  | inl less ↦ omega (arith, less, cut-within old joint.first.outer j.first.behind j.first.cut)
  | inr more ↦
      let at = to-new left joint.first.outer joint.first.middle old middle place rest j.first cut more begin in
      cut-within old (place_past joint place).old at.behind at.cut
]

pub fits-new : (old middle new : List ℕ) (joint : Joint) (left right out : List Change) (place : ℕ) (rest : List ℕ) → Joining old middle new joint left right out
    → Cut middle place rest → BeginOld joint.second.middle joint.second.outer place right → (place_past joint place).new ≤ byte_len new
fits-new old middle new joint left right out place rest j cut begin = elim (cases_lt place joint.second.middle) [
  | inl less ↦ omega (arith, less, cut-within new joint.second.outer j.second.behind' j.second.cut')
  | inr more ↦
      let at = to-old right joint.second.middle joint.second.outer middle new place rest j.second cut more begin in
      cut-within new (place_past joint place).new at.behind' at.cut
]

pub fits-end : (old middle new : List ℕ) (joint : Joint) (out : List Change) → Joining old middle new joint [] [] out
    → ((place_past joint (part_end joint)).old ≤ byte_len old) × ((place_past joint (part_end joint)).new ≤ byte_len new)
fits-end old middle new joint out j =
    let at = ended old middle new joint [] [] out j tt tt in
    (cut-within old (place_past joint (part_end joint)).old at.first.behind at.first.cut, cut-within new (place_past joint (part_end joint)).new at.second.behind' at.second.cut)
