-- The assertions among the first states of a program.
use Rattle.std.proofs.Common.{inl, inr, ◌≡◌, ◌⊎◌, ℕ, ◌+◌, ◌<◌, ◌≤◌, Bool, true, false, ◌||◌, List, length, Some, slice_get, refl, sym, ap, ◌∙◌, arith}
use Rattle.std.specs.Prelude.{IsTrue, ◌↔◌}
use Rattle.std.proofs.lemmas.Option.{slice_get_within}
use Rattle.rx_walks.specs.Looks as walks
use Rattle.rx_program.specs.declared.states.State.{State}
use Rattle.rx_program.specs.declared.states.State.TheVariants as state
use Rattle.rx_program.specs.Code.{place_of}
use Rattle.rx_steps.specs.Lists.{Asks}
use Rattle.rx_steps.specs.Asked.{AsksSome, asks_for}
use Rattle.rx_steps.proofs.ByteLaws.{below_or_not}

-- one of the first states is an assertion of this kind
pub record AskedSoFar (states : List State) (kind : walks.Look → Bool) (n : ℕ) : Type 0 where
  pub number : ℕ
  pub first : number < n
  pub here : State
  pub stands : slice_get states number ≡ Some here
  pub asks : asks_for kind here ≡ true

abbrev pub IsTold : List State → (walks.Look → Bool) → ℕ → Bool → Type 0
IsTold states kind n told = IsTrue told ↔ AskedSoFar states kind n

either_is : (a b : Bool) → (a || b) ≡ true → (a ≡ true) ⊎ (b ≡ true)
either_is true b e = inl refl
either_is false b e = inr e

first_is : (a b : Bool) → a ≡ true → (a || b) ≡ true
first_is true b e = refl
first_is false b e = absurd (cc e)

second_is : (a b : Bool) → b ≡ true → (a || b) ≡ true
second_is true b e = refl
second_is false b e = e

the_state : {x y : State} → Some x ≡ Some y → x ≡ y
the_state e = cc e

pub one_more_told : (states : List State) (kind : walks.Look → Bool) (n : ℕ) (x : State) (was told : Bool) → slice_get states n ≡ Some x → told ≡ (asks_for kind x || was) → IsTold states kind n was → IsTold states kind (n + 1) told
one_more_told states kind n x was told stands e so = (
  (λ is. elim (either_is (asks_for kind x) was (sym e ∙ is)) [
    | inl here ↦ record { number = n; first = omega arith; here = x; stands = stands; asks = here }
    | inr before ↦ later (so.0 before)
  ]),
  (λ one. elim (below_or_not one.number n) [
    | inl lt ↦ e ∙ second_is (asks_for kind x) was (so.1 (record { number = one.number; first = lt; here = one.here; stands = one.stands; asks = one.asks }))
    | inr le ↦
        let at : one.number ≡ n = omega (arith, le, one.first) in
        let same : one.here ≡ x = the_state (sym one.stands ∙ ap (λ k. slice_get states k) at ∙ stands) in
        e ∙ first_is (asks_for kind x) was (sym (ap (λ y. asks_for kind y) same) ∙ one.asks)
  ]),
)
  where
    later : AskedSoFar states kind n → AskedSoFar states kind (n + 1)
    later one = record { number = one.number; first = omega (arith, one.first); here = one.here; stands = one.stands; asks = one.asks }

some_look : (states : List State) (kind : walks.Look → Bool) (number : ℕ) (x : State) → slice_get states number ≡ Some x → asks_for kind x ≡ true → AsksSome states kind
some_look states kind number (state.Ranges automaton r) stands asks = absurd (cc asks)
some_look states kind number (state.Look asked r) stands asks = (place_of asked, asks, record { number = number; asked = asked; next = r; stands = stands; is = refl })
some_look states kind number (state.Empty r) stands asks = absurd (cc asks)
some_look states kind number (state.BinaryUnion first second) stands asks = absurd (cc asks)
some_look states kind number (state.Union alternates) stands asks = absurd (cc asks)
some_look states kind number (state.Capture slot r) stands asks = absurd (cc asks)
some_look states kind number (state.Match k) stands asks = absurd (cc asks)

pub all_told : (states : List State) (kind : walks.Look → Bool) (n : ℕ) (told : Bool) → length states ≤ n → IsTold states kind n told → IsTrue told ↔ AsksSome states kind
all_told states kind n told le so = (
  (λ is. let one = so.0 is in some_look states kind one.number one.here one.stands one.asks),
  (λ some. let (l, of_kind, asks) = some in
      so.1 (record {
        number = asks.number;
        first = omega (arith, le, slice_get_within states asks.number (state.Look asks.asked asks.next) asks.stands);
        here = state.Look asks.asked asks.next;
        stands = asks.stands;
        asks = ap kind asks.is ∙ of_kind;
      })),
)

-- without the flag there is no assertion
pub none_asked : (states : List State) (told : Bool) → (IsTrue told ↔ AsksSome states (λ l. true)) → told ≡ false → (l : walks.Look) → Asks states l → ⊥
none_asked states told so e l asks = absurd (cc (sym e ∙ so.1 (l, refl, asks)))
