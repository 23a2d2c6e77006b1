-- Reverse automata: each state represents the positions of the forward automaton from which the
-- bytes read so far lead to the end of a character.
use Rattle.std.specs.Prelude.{◌≡◌, ℕ, ◌<◌, ◌≤◌, zero, suc, Bool, true, false, List, Option, Some, None}
use Rattle.rx_walks.specs.Bytes.{Automaton, run}
use Rattle.rx_walks.specs.Characters.{member_len, len_if, last_character}

-- a position in the forward automaton: a state, or the end of a character (`None`)
abbrev pub ReadingPlace : Type 0
ReadingPlace = Option ℕ

-- a byte leads to one of these
abbrev pub leads_in : (ReadingPlace → Bool) → Option ReadingPlace → Bool
leads_in those None = false
leads_in those (Some place) = those place

-- the states from which a byte leads to one of these
abbrev pub prior : Automaton → (ReadingPlace → Bool) → ℕ → ReadingPlace → Bool
prior step those b None = false
prior step those b (Some s) = leads_in those (step s b)

-- only the end
abbrev pub at_the_end : ReadingPlace → Bool
at_the_end None = true
at_the_end (Some s) = false

-- What a byte does that is read backward from those positions. It is refused if it leads from no
-- state to one of them. It completes a character if it leads there from the first state. Else the
-- next state, which is below n and not the first, represents the states from which it leads there.
abbrev pub LeadsBack : ℕ → Automaton → ((ReadingPlace → Bool) → ℕ → Type 0)
    → (ReadingPlace → Bool) → ℕ
    → Option ReadingPlace → Type 0
LeadsBack n step Reads those b None = (s : ℕ) → leads_in those (step s b) ≡ false
LeadsBack n step Reads those b (Some None) = leads_in those (step 0 b) ≡ true
LeadsBack n step Reads those b (Some (Some t)) = (leads_in those (step 0 b) ≡ false)
    × Reads (prior step those b) t × (0 < t) × (t < n)

-- state t of `back`, which has n states, represents those positions of `step`, for this many
-- further bytes
abbrev pub StandsForPlaces : ℕ → Automaton → Automaton → ℕ → (ReadingPlace → Bool) → ℕ → Type 0
StandsForPlaces n step back zero those t = (b : ℕ) → back t b ≡ None
StandsForPlaces n step back (suc more) those t = (b : ℕ)
    → LeadsBack n step (λ next s. StandsForPlaces n step back more next s) those b (back t b)

-- the automaton reads the UTF-8 of members that bytes start with, and nothing else, whatever the
-- bytes
abbrev pub ReadsFirst : (ℕ → Bool) → Automaton → Type 0
ReadsFirst member step = (bytes : List ℕ) → run step 0 bytes ≡ member_len member bytes

-- the automaton reads the UTF-8 of members that bytes end with, and nothing else; the bytes are
-- given in reverse order
abbrev pub ReadsLast : (ℕ → Bool) → Automaton → Type 0
ReadsLast member back =
    (bytes : List ℕ) → run back 0 bytes ≡ len_if member (last_character bytes)

-- no byte leads to the first state
abbrev pub NeverReturns : Automaton → Type 0
NeverReturns step = (s b : ℕ) → step s b ≡ Some (Some 0) → ⊥

-- a reverse automaton reads the last character, if it represents the positions for four bytes
abbrev pub TransposedReadsLast : (ℕ → Bool) → Automaton → Automaton → Type 0
TransposedReadsLast member step back = (n : ℕ) → ReadsFirst member step
    → StandsForPlaces n step back 4 at_the_end 0 → ReadsLast member back

-- what a state other than the first represents stays so with more states and another row of the
-- first one
abbrev pub ReadsOn : Automaton → Automaton → Automaton → Type 0
ReadsOn step back back' = (n n' more : ℕ) → n ≤ n'
    → ((s : ℕ) → 0 < s → s < n → (b : ℕ) → back s b ≡ back' s b)
    → (those : ReadingPlace → Bool) (t : ℕ) → 0 < t → t < n
    → StandsForPlaces n step back more those t → StandsForPlaces n' step back' more those t

-- it represents the same positions given by another test
abbrev pub ReadsAlike : Automaton → Automaton → Type 0
ReadsAlike step back = (n more : ℕ) (those others : ReadingPlace → Bool)
    → ((place : ReadingPlace) → those place ≡ others place) → (t : ℕ)
    → StandsForPlaces n step back more those t → StandsForPlaces n step back more others t
