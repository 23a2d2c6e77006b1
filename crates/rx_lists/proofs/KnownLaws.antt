-- Known sets, and the backward steps between them.
use Rattle.std.proofs.Common.{◌≡◌, ℕ, ◌+◌, ◌*◌, ◌<◌, ◌≤◌, ◌⊎◌, zero, suc, Result, Ok, Err, IfOk, IfSome, List, [], ◌∷◌, ◌++◌, length, take, replicate, set, Option, Some, None, slice_get, Contains, refl, sym, ap, subst, ◌∙◌, arith, inl, inr}
use Rattle.rx_walks.specs.Looks.{Look}
use Rattle.rx_walks.specs.Machines.{Machine}
use Rattle.rx_program.specs.declared.states.State.{State}
use Rattle.rx_program.specs.declared.states.State.TheVariants as state
use Rattle.rx_program.specs.Programs.{ByteProgram}
use Rattle.rx_utf8.specs.Automata.{step_of}
use Rattle.rx_steps.specs.declared.place.Place.{Place}
use Rattle.rx_steps.specs.Nodes.{widths_of, index_from}
use Rattle.rx_steps.specs.Threads.{Slots}
use Rattle.rx_steps.specs.Lists.{Asks, move_at, read_next}
use Rattle.rx_lists.specs.Bits.{HasNode, IsNodeSetOf}
use Rattle.rx_lists.specs.Known.{KnownView, HasColumns, IsSetBefore, IsAlwaysBefore, TellsTruly, column_of}
use Rattle.rx_lists.specs.Leading.{Moves, AreFilled}
use Rattle.rx_lists.specs.Sets.{AreAllNodes}
use Rattle.rx_lists.proofs.FillLaws.{Nodes}
use Rattle.rx_lists.proofs.PassLaws.{leading_by, count_more}
use Rattle.rx_lists.proofs.WayLaws.{inside_is, leading_set, loaded_set}

-- the nodes of a set lead back to those of another one
pub filled_before : (p : ByteProgram) (place : Place) (order beyond here : Nodes) (widths widths' words words' : List ℕ) → widths ≡ widths_of p → widths' ≡ widths_of p → AreAllNodes p.states order
    → ((q : ℕ × ℕ) → Contains beyond q → HasNode widths words q)
    → ((q : ℕ × ℕ) (k : ℕ) → Contains order q → HasNode widths words q → index_from 0 widths' q.0 q.1 ≡ Some k → Contains beyond q)
    → AreFilled p place beyond here → IsNodeSetOf widths here words' → IsSetBefore p place words words'
filled_before p place order beyond here widths widths' words words' same same' ordered these all filled is s i inside moves leading =
    let at = inside_is s i inside in
    leading_set p s i widths here words' same at.0 at.1
    (leading_by p s i place beyond here moves filled (loaded_set p s (i + 1) order beyond widths widths' words same same' ordered these all leading)) is

-- ---- an offset with the same byte

same_move : (states : List State) (place place' : Place) → ((l : Look) → Asks states l → ⊥) → place.byte ≡ place'.byte → (i : ℕ) (q : ℕ × ℕ) (x : State) → slice_get states q.0 ≡ Some x → move_at place i q x ≡ move_at place' i q x
same_move states place place' none same i q (state.Ranges automaton r) at = ap (λ b. read_next (step_of automaton.value) q.0 r q.1 i b) same
same_move states place place' none same i q (state.Look asked r) at = absurd (none _ (record { number = q.0; asked = asked; next = r; stands = at; is = refl }))
same_move states place place' none same i q (state.Empty r) at = refl
same_move states place place' none same i q (state.BinaryUnion a b) at = refl
same_move states place place' none same i q (state.Union rs) at = refl
same_move states place place' none same i q (state.Capture slot r) at = refl
same_move states place place' none same i q (state.Match k) at = refl

same_moves : (m : Machine (ℕ × ℕ) Slots) (i : ℕ) (states : List State) (place place' : Place) → ((l : Look) → Asks states l → ⊥) → place.byte ≡ place'.byte → Moves m i states place → Moves m i states place'
same_moves m i states place place' none same moves = record {
  at_state = λ q x at. moves.at_state q x at ∙ same_move states place place' none same i q x at;
  elsewhere = moves.elsewhere;
}

-- what is before a set at one offset is before it at each with that byte, without assertions
pub always_before : (p : ByteProgram) (place : Place) (byte : ℕ) (words words' : List ℕ) → ((l : Look) → Asks p.states l → ⊥) → place.byte ≡ Some byte → IsSetBefore p place words words' → IsAlwaysBefore p byte words words'
always_before p place byte words words' none is before place' is' s i inside moves leading =
    before s i inside (same_moves _ i p.states place' place none (is' ∙ sym is) moves) leading

-- ---- the numbers

-- an element of a list in which one was set is that one, or was there
got_set : {X : Type 0} (xs : List X) (i : ℕ) (v : X) (j : ℕ) (z : X) → slice_get (set xs i v) j ≡ Some z → ((j ≡ i) × (v ≡ z)) ⊎ (slice_get xs j ≡ Some z)
got_set [] i v j z at = inr at
got_set (x ∷ xs) zero v zero z at = inl (refl, one at)
  where
    one : Some v ≡ Some z → v ≡ z
    one e = cc e
got_set (x ∷ xs) zero v (suc j) z at = inr at
got_set (x ∷ xs) (suc i) v zero z at = inr at
got_set (x ∷ xs) (suc i) v (suc j) z at = elim (got_set xs i v j z at) [ inl both ↦ inl (ap suc both.0, both.1) | inr e ↦ inr e ]

got_filled : {X : Type 0} (n : ℕ) (v : X) (j : ℕ) (z : X) → slice_get (replicate n v) j ≡ Some z → v ≡ z
got_filled zero v j z at = absurd (cc at)
got_filled (suc n) v zero z at = one at
  where
    one : Some v ≡ Some z → v ≡ z
    one e = cc e
got_filled (suc n) v (suc j) z at = got_filled n v j z at

-- and of one that was cut or filled up, too
got_resized : {X : Type 0} (xs : List X) (n m : ℕ) (v : X) (j : ℕ) (z : X) → slice_get (take n xs ++ replicate m v) j ≡ Some z → (slice_get xs j ≡ Some z) ⊎ (v ≡ z)
got_resized xs zero m v j z at = inr (got_filled m v j z at)
got_resized [] (suc n) m v j z at = inr (got_filled m v j z at)
got_resized (x ∷ xs) (suc n) m v zero z at = inl at
got_resized (x ∷ xs) (suc n) m v (suc j) z at = got_resized xs n m v j z at

got_kept : {X : Type 0} (xs ys : List X) (j : ℕ) (z : X) → slice_get xs j ≡ Some z → slice_get (xs ++ ys) j ≡ Some z
got_kept [] ys j z at = absurd (cc at)
got_kept (x ∷ xs) ys zero z at = at
got_kept (x ∷ xs) ys (suc j) z at = got_kept xs ys j z at

got_last : {X : Type 0} (xs : List X) (y : X) → slice_get (xs ++ y ∷ []) (length xs) ≡ Some y
got_last [] y = refl
got_last (x ∷ xs) y = got_last xs y

got_within : {X : Type 0} (xs ys : List X) (j : ℕ) (z : X) → j < length xs → slice_get (xs ++ ys) j ≡ Some z → slice_get xs j ≡ Some z
got_within [] ys j z within at = absurd (omega (arith, within))
got_within (x ∷ xs) ys zero z within at = at
got_within (x ∷ xs) ys (suc j) z within at = got_within xs ys j z (omega (arith, within)) at

pub some_same : {X : Type 0} {a b : X} → Some a ≡ Some b → a ≡ b
some_same e = cc e

-- one more number is noted
pub tell_more : (p : ByteProgram) (k k' : KnownView) (number byte to : ℕ) → byte < 256 → k'.sets ≡ k.sets → k'.before ≡ set k.before (column_of number byte) (Some to) → TellsTruly p k
    → ((beyond here : List ℕ) → slice_get k.sets number ≡ Some beyond → slice_get k.sets to ≡ Some here → IsAlwaysBefore p byte beyond here) → TellsTruly p k'
tell_more p k k' number byte to low same more told one number' byte' to' beyond here low' get from there =
    let from' : slice_get k.sets number' ≡ Some beyond = ap (λ xs. slice_get xs number') (sym same) ∙ from in
    let there' : slice_get k.sets to' ≡ Some here = ap (λ xs. slice_get xs to') (sym same) ∙ there in
    elim (got_set k.before (column_of number byte) (Some to) (column_of number' byte') (Some to') (ap (λ xs. slice_get xs (column_of number' byte')) (sym more) ∙ get)) [
      | inl both ↦
          let n : number' ≡ number = omega (arith, both.0, low, low') in
          let b : byte' ≡ byte = omega (arith, both.0, low, low') in
          let t : to' ≡ to = sym (some_same both.1) in
          subst (λ x. IsAlwaysBefore p x beyond here) (sym b)
          (one beyond here (subst (λ x. slice_get k.sets x ≡ Some beyond) n from') (subst (λ x. slice_get k.sets x ≡ Some here) t there'))
      | inr old ↦ told number' byte' to' beyond here low' old from' there'
    ]

-- lists with more sets and no more numbers
pub more_known : (p : ByteProgram) (k k' : KnownView) → HasColumns k → ((number : ℕ) (other : List ℕ) → number < length k.sets → slice_get k'.sets number ≡ Some other → slice_get k.sets number ≡ Some other)
    → ((column to : ℕ) → slice_get k'.before column ≡ Some (Some to) → slice_get k.before column ≡ Some (Some to)) → TellsTruly p k → TellsTruly p k'
more_known p k k' columns kept less told number byte to beyond here low get from there =
    let get' = less (column_of number byte) to get in
    told number byte to beyond here low get' (kept number beyond (omega (arith, columns.from (column_of number byte) to get', low)) from) (kept to here (columns.to (column_of number byte) to get') there)

-- a list of numbers that is filled up has no more numbers
pub less_told : (before before' : List (Option ℕ)) (n m : ℕ) → before' ≡ take n before ++ replicate m None → (column to : ℕ) → slice_get before' column ≡ Some (Some to) → slice_get before column ≡ Some (Some to)
less_told before before' n m filled column to get = elim (got_resized before n m None column (Some to) (ap (λ xs. slice_get xs column) (sym filled) ∙ get)) [
  | inl e ↦ e
  | inr none ↦ absurd (cc none)
]

pub kept_sets : (sets sets' : List (List ℕ)) (more : List ℕ) → sets' ≡ sets ++ more ∷ [] → (number : ℕ) (other : List ℕ) → number < length sets → slice_get sets' number ≡ Some other → slice_get sets number ≡ Some other
kept_sets sets sets' more is number other within get = got_within sets (more ∷ []) number other within (ap (λ xs. slice_get xs number) (sym is) ∙ get)

pub still_there : (sets sets' : List (List ℕ)) (more : List ℕ) → sets' ≡ sets ++ more ∷ [] → (number : ℕ) (other : List ℕ) → slice_get sets number ≡ Some other → slice_get sets' number ≡ Some other
still_there sets sets' more is number other get = ap (λ xs. slice_get xs number) is ∙ got_kept sets (more ∷ []) number other get

pub put_there : (sets sets' : List (List ℕ)) (more : List ℕ) → sets' ≡ sets ++ more ∷ [] → slice_get sets' (length sets) ≡ Some more
put_there sets sets' more is = ap (λ xs. slice_get xs (length sets)) is ∙ got_last sets more

-- an element of the numbers
pub before_told : (p : ByteProgram) (k : KnownView) (number byte : ℕ) (o : Option ℕ) → byte < 256 → slice_get k.before (column_of number byte) ≡ Some o → TellsTruly p k
    → IfSome o (λ to. (beyond here : List ℕ) → slice_get k.sets number ≡ Some beyond → slice_get k.sets to ≡ Some here → IsAlwaysBefore p byte beyond here)
before_told p k number byte None low get told = tt
before_told p k number byte (Some to) low get told = λ beyond here from there. told number byte to beyond here low get from there

pub columns_kept : (k k' : KnownView) → HasColumns k → k'.sets ≡ k.sets → 256 * length k.sets ≤ length k'.before → ((column to : ℕ) → slice_get k'.before column ≡ Some (Some to) → slice_get k.before column ≡ Some (Some to)) → HasColumns k'
columns_kept k k' columns same room less = record {
  room = omega (arith, room, ap (λ xs. length xs) same);
  from = λ column to get. omega (arith, columns.from column to (less column to get), ap (λ xs. length xs) same);
  to = λ column to get. omega (arith, columns.to column to (less column to get), ap (λ xs. length xs) same);
}

pub columns_more : (k k' : KnownView) (more : List ℕ) → HasColumns k → k'.sets ≡ k.sets ++ more ∷ [] → 256 * (length k.sets + 1) ≤ length k'.before → ((column to : ℕ) → slice_get k'.before column ≡ Some (Some to) → slice_get k.before column ≡ Some (Some to)) → HasColumns k'
columns_more k k' more columns is room less = let len = count_more k.sets k'.sets more is in record {
  room = omega (arith, room, len);
  from = λ column to get. omega (arith, columns.from column to (less column to get), len);
  to = λ column to get. omega (arith, columns.to column to (less column to get), len);
}

-- ---- in results

pub if_some : {A : Type 0} (o : Option A) (B C : A → Type 0) → ((x : A) → B x → C x) → IfSome o B → IfSome o C
if_some (Some x) B C f has = f x has
if_some None B C f has = tt

pub if_ok : {A E : Type 0} (r : Result A E) (B C : A → Type 0) → ((x : A) → B x → C x) → IfOk r B → IfOk r C
if_ok (Ok x) B C f has = f x has
if_ok (Err e) B C f has = tt

-- the number of the current set, if there is one
pub numbered_is : (o : Option ℕ) (number : ℕ) (sets : List (List ℕ)) (words : List ℕ) → o ≡ Some number → IfSome o (λ n. slice_get sets n ≡ Some words) → slice_get sets number ≡ Some words
numbered_is None number sets words is has = absurd (cc is)
numbered_is (Some n) number sets words is has = subst (λ x. slice_get sets x ≡ Some words) (some_same is) has
