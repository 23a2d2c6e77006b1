-- Two steps composed, change by change.
use Rattle.std.proofs.Common.{◌≡◌, ℕ, ◌+◌, ◌-◌, ◌^◌, ◌<◌, ◌≤◌, inl, inr, List, [], ◌∷◌, length, drop, refl, sym, ap, subst, arith}
use Rattle.std.proofs.lemmas.Bool.{cases_lt}
use Rattle.std.proofs.lemmas.List.{drop_all}
use Rattle.str_indices.specs.Text.{byte_len}
use Rattle.rope_search_reports.specs.Turned.{Lead}
use Rattle.rope_search.specs.JoinedSteps.{AreApart, Stays}
use Rattle.rope_search_changes.specs.declared.Change.{Change}
use Rattle.rope_search.specs.declared.joins.Joint.{Joint}
use Rattle.rope_search.specs.Joints.{AddsPart, GoesOnTo, change_numbered, part_end, place_past, middle_start}
use Rattle.rope_search_reports.proofs.WeaveLemmas.{drop-cons}
use Rattle.rope_search.proofs.JoinLemmas.{Begin, BeginOld, Cut, Joining, cut-within, cursor-first, first-cut, first-cut_old, fits-old, fits-new, fits-end, no_joint, joining-start, joining-first, joining-second, joining-reach, joining-end}
use Rattle.rope_search.proofs.StayLemmas.{AreFew, Spaced, Staying, few-adds, spaced-end, spaced-reach, spaced-start, staying-end, staying-first, staying-reach, staying-second, staying-start}

-- two steps, and the texts that they lead through
pub record Led (first second : List Change) : Type 0 where
  pub old : List ℕ
  pub middle : List ℕ
  pub new : List ℕ
  pub one : Lead first old middle
  pub other : Lead second middle new
  pub old_fits : byte_len old < 2 ^ 64
  pub middle_fits : byte_len middle < 2 ^ 64
  pub new_fits : byte_len new < 2 ^ 64

pub led-by : (first second : List Change) → (old : List ℕ) × (middle : List ℕ) × (new : List ℕ) × Lead first old middle × Lead second middle new
    × (byte_len old < 2 ^ 64) × (byte_len middle < 2 ^ 64) × (byte_len new < 2 ^ 64) → Led first second
led-by first second r = record { old = r.0; middle = r.1; new = r.2; one = r.3; other = r.4; old_fits = r.5; middle_fits = r.6; new_fits = r.7 }

pub record SoFar (first second : List Change) (joint : Joint) (i j : ℕ) (out : List Change) : Type 0 where
  pub joins : (old middle new : List ℕ) → Lead first old middle → Lead second middle new → Joining old middle new joint (drop i first) (drop j second) out
  pub stays : Staying first second joint (drop i first) (drop j second) out
  pub spaced : Spaced joint.start.new out
  pub few : AreFew joint (i + j) out
  pub within : i ≤ length first
  pub within' : j ≤ length second

pub so_far-start : (first second : List Change) → SoFar first second no_joint 0 0 []
so_far-start first second = record {
  joins = λ old middle new one other. joining-start old middle new first second one other;
  stays = staying-start first second;
  spaced = spaced-start 0;
  few = inr (refl, (refl, refl));
  within = omega arith;
  within' = omega arith;
}

-- ---- the next changes

begin-at : (changes : List Change) (i place : ℕ) → (i < length changes → place ≤ (change_numbered changes i).new_start) → Begin place (drop i changes)
begin-at changes i place low = elim (cases_lt i (length changes)) [
  | inl some ↦ subst (Begin place) (sym (drop-cons i changes (record { old_end = 0; new_start = 0; new_end = 0 }) some)) (low some)
  | inr none ↦ subst (Begin place) (sym (drop_all i changes none)) tt
]

begin_old-at : (changes : List Change) (j at at' place : ℕ) → (j < length changes → place ≤ at + ((change_numbered changes j).new_start - at')) → BeginOld at at' place (drop j changes)
begin_old-at changes j at at' place low = elim (cases_lt j (length changes)) [
  | inl some ↦ subst (BeginOld at at' place) (sym (drop-cons j changes (record { old_end = 0; new_start = 0; new_end = 0 }) some)) (low some)
  | inr none ↦ subst (BeginOld at at' place) (sym (drop_all j changes none)) tt
]

cut-at : (changes : List Change) (i : ℕ) → i < length changes → drop i changes ≡ change_numbered changes i ∷ drop (i + 1) changes
cut-at changes i some = drop-cons i changes (record { old_end = 0; new_start = 0; new_end = 0 }) some

-- ---- the part continues, or the next one begins

reached : (old middle new : List ℕ) (joint joint' : Joint) (left right out out' : List Change) (place : ℕ) (rest : List ℕ) → Joining old middle new joint left right out
    → Cut middle place rest → Begin place left → BeginOld joint.second.middle joint.second.outer place right → GoesOnTo joint place out joint' out' → Joining old middle new joint' left right out'
reached old middle new joint joint' left right out out' place rest j cut begin begin' (inl on) =
    subst (λ k. Joining old middle new k left right out') (sym on.1) (subst (Joining old middle new joint left right) (sym on.2) j)
reached old middle new joint joint' left right out out' place rest j cut begin begin' (inr past) =
    subst (λ k. Joining old middle new k left right out') (sym past.1)
    (joining-reach old middle new joint left right out out' place rest j cut (omega (arith, past.0)) begin begin' past.2)

stays-reached : (old middle new : List ℕ) (first second : List Change) (joint joint' : Joint) (left right out out' : List Change) (place : ℕ) → Joining old middle new joint left right out
    → Begin place left → BeginOld joint.second.middle joint.second.outer place right → GoesOnTo joint place out joint' out'
    → Staying first second joint left right out → Staying first second joint' left right out'
stays-reached old middle new first second joint joint' left right out out' place j begin begin' (inl on) s =
    subst (λ k. Staying first second k left right out') (sym on.1) (subst (Staying first second joint left right) (sym on.2) s)
stays-reached old middle new first second joint joint' left right out out' place j begin begin' (inr past) s =
    subst (λ k. Staying first second k left right out') (sym past.1)
    (staying-reach old middle new first second joint left right out out' place j (omega (arith, past.0)) begin begin' past.2 s)

spaced-reached : (joint joint' : Joint) (out out' : List Change) (place : ℕ) → GoesOnTo joint place out joint' out' → Spaced joint.start.new out → Spaced joint'.start.new out'
spaced-reached joint joint' out out' place (inl on) s = subst (λ (k : Joint). Spaced k.start.new out') (sym on.1) (subst (Spaced joint.start.new) (sym on.2) s)
spaced-reached joint joint' out out' place (inr past) s =
    subst (λ (k : Joint). Spaced k.start.new out') (sym past.1) (spaced-reach joint place out out' past.0 past.2 s)

few-reached : (joint joint' : Joint) (out out' : List Change) (place count : ℕ) → GoesOnTo joint place out joint' out' → AreFew joint count out → length out' ≤ count
few-reached joint joint' out out' place count (inl on) few = elim few [
  | inl less ↦ omega (arith, less, ap length on.2)
  | inr none ↦ omega (arith, ap length on.2, ap length none.1.1)
]
few-reached joint joint' out out' place count (inr past) few = few-adds joint count out out' few past.2

end-reached : (joint joint' : Joint) (out out' : List Change) (place : ℕ) → GoesOnTo joint place out joint' out' → place ≤ part_end joint'
end-reached joint joint' out out' place (inl on) = subst (λ (k : Joint). place ≤ part_end k) (sym on.1) on.0
end-reached joint joint' out out' place (inr past) = subst (λ (k : Joint). place ≤ part_end k) (sym past.1) (omega arith)

same-second : (joint joint' : Joint) (out out' : List Change) (place : ℕ) (c : Change) → GoesOnTo joint place out joint' out' → middle_start joint' c ≡ middle_start joint c
same-second joint joint' out out' place c (inl on) = ap (λ (k : Joint). middle_start k c) on.1
same-second joint joint' out out' place c (inr past) = ap (λ (k : Joint). middle_start k c) past.1

-- all are taken if their number is that of all
pub all-taken : (first second : List Change) (joint : Joint) (i j n : ℕ) (out : List Change) → SoFar first second joint i j out → i + j ≡ n → length first + length second ≤ n
    → (i ≡ length first) × (j ≡ length second)
all-taken first second joint i j n out s is all = (omega (arith, is, all, s.within, s.within'), omega (arith, is, all, s.within, s.within'))

pub put-so_far : (first second : List Change) (joint joint' : Joint) (i i' j j' : ℕ) (out out' : List Change) → joint' ≡ joint → i' ≡ i → j' ≡ j → out' ≡ out
    → SoFar first second joint i j out → SoFar first second joint' i' j' out'
put-so_far first second joint joint' i i' j j' out out' a b c d s =
    subst (λ k. SoFar first second k i' j' out') (sym a) (subst (λ n. SoFar first second joint n j' out') (sym b)
    (subst (λ n. SoFar first second joint i n out') (sym c) (subst (SoFar first second joint i j) (sym d) s)))

-- ---- a change is taken

pub so_far-first : (first second : List Change) (joint joint' : Joint) (i j : ℕ) (out out' : List Change) → Led first second → i < length first
    → (j < length second → (change_numbered first i).new_start ≤ middle_start joint (change_numbered second j)) → SoFar first second joint i j out
    → GoesOnTo joint (change_numbered first i).new_start out joint' out'
    → SoFar first second (record joint' { first = record { outer = (change_numbered first i).old_end; middle = (change_numbered first i).new_end } }) (i + 1) j out'
so_far-first first second joint joint' i j out out' led some before s reaches =
    let c = change_numbered first i in
    let left = drop (i + 1) first in
    let right = drop j second in
    let cut = cut-at first i some in
    let at-cut : (old middle new : List ℕ) → Lead first old middle → Lead second middle new → Joining old middle new joint (c ∷ left) right out =
    λ old middle new one other. subst (λ cs. Joining old middle new joint cs right out) cut (s.joins old middle new one other) in
    let begin : c.new_start ≤ c.new_start = omega arith in
    let begin' : BeginOld joint.second.middle joint.second.outer c.new_start right = begin_old-at second j joint.second.middle joint.second.outer c.new_start before in
    let joins' : (old middle new : List ℕ) → Lead first old middle → Lead second middle new → Joining old middle new joint' (c ∷ left) right out' =
    λ old middle new one other.
    let here = at-cut old middle new one other in
    let there = first-cut c left joint.first.outer joint.first.middle old middle here.first in
    reached old middle new joint joint' (c ∷ left) right out out' c.new_start there.0 here there.1 begin begin' reaches in
    let stays' = stays-reached led.old led.middle led.new first second joint joint' (c ∷ left) right out out' c.new_start (at-cut led.old led.middle led.new led.one led.other) begin begin' reaches
    (subst (λ cs. Staying first second joint cs right out) cut s.stays) in
    record {
      joins = λ old middle new one other. joining-first old middle new joint' c left right out' (joins' old middle new one other);
      stays = staying-first led.old led.middle led.new first second joint' c left right out' (joins' led.old led.middle led.new led.one led.other) (end-reached joint joint' out out' c.new_start reaches) stays';
      spaced = spaced-reached joint joint' out out' c.new_start reaches s.spaced;
      few = inl (omega (arith, few-reached joint joint' out out' c.new_start (i + j) reaches s.few));
      within = omega (arith, some);
      within' = s.within';
    }

pub so_far-second : (first second : List Change) (joint joint' : Joint) (i j : ℕ) (out out' : List Change) → Led first second → j < length second
    → (i < length first → middle_start joint (change_numbered second j) ≤ (change_numbered first i).new_start) → SoFar first second joint i j out
    → GoesOnTo joint (middle_start joint (change_numbered second j)) out joint' out'
    → SoFar first second (record joint' { second = record { outer = (change_numbered second j).new_end; middle = (change_numbered second j).old_end } }) i (j + 1) out'
so_far-second first second joint joint' i j out out' led some before s reaches =
    let c = change_numbered second j in
    let place = middle_start joint c in
    let left = drop i first in
    let right = drop (j + 1) second in
    let cut = cut-at second j some in
    let at-cut : (old middle new : List ℕ) → Lead first old middle → Lead second middle new → Joining old middle new joint left (c ∷ right) out =
    λ old middle new one other. subst (λ cs. Joining old middle new joint left cs out) cut (s.joins old middle new one other) in
    let begin : Begin place left = begin-at first i place before in
    let begin' : place ≤ middle_start joint c = omega arith in
    let joins' : (old middle new : List ℕ) → Lead first old middle → Lead second middle new → Joining old middle new joint' left (c ∷ right) out' =
    λ old middle new one other.
    let here = at-cut old middle new one other in
    let there = first-cut_old c right joint.second.middle joint.second.outer middle new here.second in
    reached old middle new joint joint' left (c ∷ right) out out' place there.0 here there.1 begin begin' reaches in
    let stays' = stays-reached led.old led.middle led.new first second joint joint' left (c ∷ right) out out' place (at-cut led.old led.middle led.new led.one led.other) begin begin' reaches
    (subst (λ cs. Staying first second joint left cs out) cut s.stays) in
    let low : middle_start joint' c ≤ part_end joint' = omega (arith, same-second joint joint' out out' place c reaches, end-reached joint joint' out out' place reaches) in
    record {
      joins = λ old middle new one other. joining-second old middle new joint' c left right out' (joins' old middle new one other);
      stays = staying-second led.old led.middle led.new first second joint' c left right out' (joins' led.old led.middle led.new led.one led.other) low stays';
      spaced = spaced-reached joint joint' out out' place reaches s.spaced;
      few = inl (omega (arith, few-reached joint joint' out out' place (i + j) reaches s.few));
      within = s.within;
      within' = omega (arith, some);
    }

-- ---- offsets in range

pub first-fits : (first second : List Change) (joint : Joint) (i j : ℕ) (out : List Change) → Led first second → i < length first
    → (j < length second → (change_numbered first i).new_start ≤ middle_start joint (change_numbered second j)) → SoFar first second joint i j out
    → ((place_past joint (change_numbered first i).new_start).old < 2 ^ 64) × ((place_past joint (change_numbered first i).new_start).new < 2 ^ 64)
first-fits first second joint i j out led some before s =
    let c = change_numbered first i in
    let left = drop (i + 1) first in
    let right = drop j second in
    let here = subst (λ cs. Joining led.old led.middle led.new joint cs right out) (cut-at first i some) (s.joins led.old led.middle led.new led.one led.other) in
    let there = first-cut c left joint.first.outer joint.first.middle led.old led.middle here.first in
    let begin : c.new_start ≤ c.new_start = omega arith in
    let begin' : BeginOld joint.second.middle joint.second.outer c.new_start right = begin_old-at second j joint.second.middle joint.second.outer c.new_start before in (
      omega (arith, led.old_fits, fits-old led.old led.middle led.new joint (c ∷ left) right out c.new_start there.0 here there.1 begin),
      omega (arith, led.new_fits, fits-new led.old led.middle led.new joint (c ∷ left) right out c.new_start there.0 here there.1 begin'),
    )

pub second-fits : (first second : List Change) (joint : Joint) (i j : ℕ) (out : List Change) → Led first second → j < length second
    → (i < length first → middle_start joint (change_numbered second j) ≤ (change_numbered first i).new_start) → SoFar first second joint i j out
    → ((place_past joint (middle_start joint (change_numbered second j))).old < 2 ^ 64) × ((place_past joint (middle_start joint (change_numbered second j))).new < 2 ^ 64)
second-fits first second joint i j out led some before s =
    let c = change_numbered second j in
    let place = middle_start joint c in
    let left = drop i first in
    let right = drop (j + 1) second in
    let here = subst (λ cs. Joining led.old led.middle led.new joint left cs out) (cut-at second j some) (s.joins led.old led.middle led.new led.one led.other) in
    let begin' : place ≤ middle_start joint c = omega arith in
    let there = first-cut_old c right joint.second.middle joint.second.outer led.middle led.new here.second in (
      omega (arith, led.old_fits, fits-old led.old led.middle led.new joint left (c ∷ right) out place there.0 here there.1 (begin-at first i place before)),
      omega (arith, led.new_fits, fits-new led.old led.middle led.new joint left (c ∷ right) out place there.0 here there.1 begin'),
    )

pub start-fits : (first second : List Change) (joint : Joint) (i j : ℕ) (out : List Change) → Led first second → j < length second → SoFar first second joint i j out
    → (joint.second.outer ≤ (change_numbered second j).new_start) × (middle_start joint (change_numbered second j) < 2 ^ 64)
start-fits first second joint i j out led some s =
    let c = change_numbered second j in
    let left = drop i first in
    let right = drop (j + 1) second in
    let here = subst (λ cs. Joining led.old led.middle led.new joint left cs out) (cut-at second j some) (s.joins led.old led.middle led.new led.one led.other) in
    let order = cursor-first c right joint.second.middle joint.second.outer led.middle led.new here.second in
    let there = first-cut_old c right joint.second.middle joint.second.outer led.middle led.new here.second in
    (order.0, omega (arith, led.middle_fits, cut-within led.middle (middle_start joint c) there.0 there.1))

-- ---- none is left

left-none : (old middle new : List ℕ) (first second : List Change) (joint : Joint) (i j : ℕ) (out : List Change) → i ≡ length first → j ≡ length second
    → Joining old middle new joint (drop i first) (drop j second) out → Joining old middle new joint [] [] out
left-none old middle new first second joint i j out all all' here =
    subst (λ cs. Joining old middle new joint cs [] out) (drop_all i first (omega (arith, all)))
    (subst (λ cs. Joining old middle new joint (drop i first) cs out) (drop_all j second (omega (arith, all'))) here)

pub fits-last : (first second : List Change) (joint : Joint) (i j : ℕ) (out : List Change) → Led first second → i ≡ length first → j ≡ length second → SoFar first second joint i j out
    → ((place_past joint (part_end joint)).old < 2 ^ 64) × ((place_past joint (part_end joint)).new < 2 ^ 64)
fits-last first second joint i j out led all all' s =
    let here = left-none led.old led.middle led.new first second joint i j out all all' (s.joins led.old led.middle led.new led.one led.other) in
    let fits = fits-end led.old led.middle led.new joint out here in
    (omega (arith, led.old_fits, fits.0), omega (arith, led.new_fits, fits.1))

pub end-lead : (first second : List Change) (joint : Joint) (i j : ℕ) (out out' : List Change) → i ≡ length first → j ≡ length second → SoFar first second joint i j out
    → AddsPart joint (place_past joint (part_end joint)) out out' → (old middle new : List ℕ) → Lead first old middle → Lead second middle new → Lead out' old new
end-lead first second joint i j out out' all all' s adds = λ old middle new one other.
    joining-end old middle new joint out out' (left-none old middle new first second joint i j out all all' (s.joins old middle new one other)) adds

pub end-stays : (first second : List Change) (joint : Joint) (i j : ℕ) (out out' : List Change) → Led first second → i ≡ length first → j ≡ length second → SoFar first second joint i j out
    → AddsPart joint (place_past joint (part_end joint)) out out' → (x y z : ℕ) → Stays first x y → Stays second y z → Stays out' x z
end-stays first second joint i j out out' led all all' s adds =
    staying-end led.old led.middle led.new first second joint out out'
    (left-none led.old led.middle led.new first second joint i j out all all' (s.joins led.old led.middle led.new led.one led.other)) adds
    (subst (λ cs. Staying first second joint cs [] out) (drop_all i first (omega (arith, all)))
    (subst (λ cs. Staying first second joint (drop i first) cs out) (drop_all j second (omega (arith, all'))) s.stays))

pub end-apart : (first second : List Change) (joint : Joint) (i j : ℕ) (out out' : List Change) → SoFar first second joint i j out
    → AddsPart joint (place_past joint (part_end joint)) out out' → AreApart out'
end-apart first second joint i j out out' s adds = spaced-end joint (place_past joint (part_end joint)) out out' adds s.spaced

pub end-few : (first second : List Change) (joint : Joint) (i j : ℕ) (out out' : List Change) → SoFar first second joint i j out
    → AddsPart joint (place_past joint (part_end joint)) out out' → length out' ≤ length first + length second
end-few first second joint i j out out' s adds = omega (arith, few-adds joint (i + j) out out' s.few adds, s.within, s.within')
