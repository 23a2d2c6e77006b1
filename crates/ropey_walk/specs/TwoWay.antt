-- A position between the items of a list, with a direction: the state of a two-way iterator.
use Rattle.std.specs.Prelude.{◌≡◌, ℕ, Bool, List, [], ◌∷◌, take, drop, reverse, Option, if◌then◌else◌}
use Rattle.std.specs.Option.{MatchOption}

-- the items ahead, and the items behind, each from the nearest on
pub record TwoWay (A : Type 0) : Type 0 where
  pub ahead : List A
  pub behind : List A

-- the same position with the other direction
abbrev pub turned : {A : Type 0} → TwoWay A → TwoWay A
turned place = record { ahead = place.behind; behind = place.ahead }

-- the position before item n of a list, or after its last item
abbrev pub before_item : {A : Type 0} → ℕ → List A → TwoWay A
before_item n items = record { ahead = drop n items; behind = reverse (take n items) }

-- that position, in the list's direction or reversed
abbrev pub facing : {A : Type 0} → Bool → ℕ → List A → TwoWay A
facing is_reversed n items = if is_reversed then turned (before_item n items) else before_item n items

-- A step gives the item ahead, which is behind then. If there is none, it gives none and stays,
-- then and later.
abbrev pub GivesNext : {A B : Type 0} → (A → B) → TwoWay B → Option A → TwoWay B → Type 0
GivesNext read old given new = MatchOption given ((old.ahead ≡ []) × (new ≡ old)) (λ item. (old.ahead ≡ read item ∷ new.ahead) × (new.behind ≡ read item ∷ old.behind))

-- a backward step is a step in the other direction
abbrev pub GivesPrev : {A B : Type 0} → (TwoWay B → Option A → TwoWay B → Type 0) → TwoWay B → Option A → TwoWay B → Type 0
GivesPrev gives_next old given new = gives_next (turned old) given (turned new)
