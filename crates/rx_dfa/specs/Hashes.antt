-- The hashes by which states are found: equal states have equal hashes.
use Rattle.std.specs.Prelude.{ℕ, ◌+◌, ◌*◌, ◌%◌, ◌^◌, List, [], ◌∷◌, Option, Some, None}
use Rattle.std.specs.Int.{w64, from_bool, rotate_left}
use Rattle.rx_steps.specs.Threads.{Thread}
use Rattle.rx_dfa.specs.declared.states.AutomatonState.{AutomatonState}
use Rattle.rx_dfa.specs.declared.states.Starting.{Starting}
use Rattle.rx_dfa.specs.declared.states.Starting.TheVariants.{Never, Once, Always}
use Rattle.rx_dfa.specs.declared.behind.Behind.{Behind}
use Rattle.rx_dfa.specs.declared.behind.Behind.TheVariants.{Edge, Byte}

-- a hash with a number mixed in
unfoldable pub mixed : ℕ → ℕ → ℕ
mixed hash number =
    ((rotate_left w64 hash 29 + 15111065706836454659) % 2 ^ 64 + number) % 2 ^ 64
    * 11400714819323198485 % 2 ^ 64

-- the hash of how walks start
abbrev pub starting_hash : Starting → ℕ
starting_hash Never = mixed 1 0
starting_hash (Once q) = mixed 2 q
starting_hash (Always q) = mixed 3 q

-- a number for everything that may precede
abbrev pub side_number : Behind → ℕ
side_number Edge = 4
side_number (Byte ends_line is_word) = from_bool ends_line + 2 * from_bool is_word

-- a hash with the pattern mixed in whose match ended
abbrev pub with_end : ℕ → Option ℕ → ℕ
with_end hash None = hash
with_end hash (Some pattern) = mixed ((hash + 1) % 2 ^ 64) pattern

-- a hash with the nodes of threads mixed in
abbrev pub with_nodes : ℕ → List Thread → ℕ
with_nodes hash [] = hash
with_nodes hash (t ∷ threads) = with_nodes (mixed (mixed hash t.1.0) t.1.1) threads

abbrev pub hash_of : AutomatonState → ℕ
hash_of x = with_nodes
    (with_end (mixed (starting_hash x.starting) (side_number x.behind)) x.ended)
    x.threads.threads
