-- The automata of a reverse program's states read the characters of its nodes backward.
use Rattle.std.proofs.Common.{◌≡◌, ℕ, zero, suc, ◌+◌, ◌*◌, ◌<◌, List, [], ◌∷◌, ◌++◌, length, map, get_or, Option, Some, None, slice_get, Result, Ok, Err, OnOk, append_assoc, refl, sym, ap, ap₂, subst, ◌∙◌, arith}
use Rattle.std.proofs.lemmas.List.{length-map}
use Rattle.std.specs.List.{All}
use Rattle.std.proofs.lemmas.List.Elements.{All-get_or, All-append, All-cons, All-nil}
use Rattle.rx_sets.specs.Sets.{Range}
use Rattle.rx_utf8.specs.Automata.{is_in}
use Rattle.rx_walks.specs.Characters.{len_if, last_character}
use Rattle.rx_walks.specs.Bytes.{run}
use Rattle.rx_walks.specs.Transposed.{NeverReturns}
use Rattle.rx_walks.specs.Looks as walks
use Rattle.rx_walks.specs.Paths.{Path}
use Rattle.rx_walks.specs.Bytes.{over_bytes}
use Rattle.rx_walks.specs.Laws.{ReadsMembers}
use Rattle.rx_walks.specs.BackLaws.{PathsTurn, ProgramTurnsInBytes}
use Rattle.rx_walks.specs.Reversed.{mirrored, last_by, indexed, those, is_match, is_match_of, arrived, edge_back, back_nodes, back_start, back_program}
use Rattle.rx_walks.specs.Programs.{Node, match, pass, set, Program, put_note}
use Rattle.rx_program.specs.declared.states.State.{State}
use Rattle.rx_program.specs.Programs.{node_of, ByteProgram, character_program}
use Rattle.rx_program.specs.declared.reverse_states.ReverseState.{ReverseState}
use Rattle.rx_program.specs.declared.reverse_states.ReverseState.TheVariants as state
use Rattle.rx_program.specs.Reversed.{back_node_of, back_automaton_of, back_automata_of, back_characters_of, ReadsItsSetBack, ReverseByteProgram, IsReverseByteProgram, ReadsBackwards}

-- a state whose node has a set
of_state : (s : ReverseState) (x : List Range) (r : ℕ) → ReadsItsSetBack s → back_node_of s ≡ set x r → (bytes : List ℕ) → run (back_automaton_of (Some s)) 0 bytes ≡ len_if (is_in x) (last_character bytes)
of_state (state.Ranges automaton next) x r reads e bytes = reads.reads_last bytes ∙ ap (λ ranges. len_if (is_in ranges) (last_character bytes)) (cc e)
of_state (state.Look asked next) x r reads e bytes = absurd (cc e)
of_state (state.Empty next) x r reads e bytes = absurd (cc e)
of_state (state.BinaryUnion first second) x r reads e bytes = absurd (cc e)
of_state (state.Union alternates) x r reads e bytes = absurd (cc e)
of_state (state.Match pattern) x r reads e bytes = absurd (cc e)

-- no state's automaton returns to its first state
never : (s : ReverseState) → ReadsItsSetBack s → NeverReturns (back_automaton_of (Some s))
never (state.Ranges automaton next) reads = reads.never_returns
never (state.Look asked next) reads = λ s b e. cc e
never (state.Empty next) reads = λ s b e. cc e
never (state.BinaryUnion first second) reads = λ s b e. cc e
never (state.Union alternates) reads = λ s b e. cc e
never (state.Match pattern) reads = λ s b e. cc e

same_some : {X : Type 0} {x y : X} → Some x ≡ Some y → x ≡ y
same_some e = cc e

-- the state with a number
record StateAt (states : List ReverseState) (q : ℕ) (s : ReverseState) : Type 0 where
  below : q < length states
  found : get_or states q s ≡ s

state_at : (states : List ReverseState) (q : ℕ) (s : ReverseState) → slice_get states q ≡ Some s → StateAt states q s
state_at [] q s e = absurd (cc e)
state_at (x ∷ states) zero s e = record { below = omega arith; found = same_some e }
state_at (x ∷ states) (suc q) s e = let on = state_at states q s e in record { below = omega (arith, on.below); found = on.found }

node_at : (states : List ReverseState) (q : ℕ) (node : Node walks.Look (List Range)) → slice_get (map back_node_of states) q ≡ Some node → (s : ReverseState) × (slice_get states q ≡ Some s) × (back_node_of s ≡ node)
node_at [] q node e = absurd (cc e)
node_at (s ∷ states) zero node e = (s, refl, same_some e)
node_at (s ∷ states) (suc q) node e = node_at states q node e

module _ (p : ReverseByteProgram) (all : All ReadsItsSetBack p.states) where
  reads_at : (q : ℕ) (s : ReverseState) → slice_get p.states q ≡ Some s → ReadsItsSetBack s
  reads_at q s at = let on = state_at p.states q s at in subst ReadsItsSetBack on.found (All-get_or ReadsItsSetBack p.states q s on.below all)

  pub reads_backwards : IsReverseByteProgram p
  reads_backwards = record {
    reads = λ q r x e bytes. (let on = node_at p.states q (set x r) e in ap (λ o. run (back_automaton_of o) 0 bytes) on.1 ∙ of_state on.0 x r (reads_at q on.0 on.1) on.2 bytes);
    never_return = λ q. by_state q (slice_get p.states q) refl;
  }
    where
      by_state : (q : ℕ) (o : Option ReverseState) → slice_get p.states q ≡ o → NeverReturns (back_automaton_of (slice_get p.states q))
      by_state q None is s b e = cc (ap (λ o. back_automaton_of o s b) is, e)
      by_state q (Some x) is s b e = never x (reads_at q x is) s b (sym (ap (λ o. back_automaton_of o s b) is) ∙ e)

-- one more state that reads its set
pub all_more : (states more : List ReverseState) (s : ReverseState) → All ReadsItsSetBack states → ReadsItsSetBack s → more ≡ states ++ s ∷ [] → All ReadsItsSetBack more
all_more states more s all reads is =
    subst (All ReadsItsSetBack) (sym is) (All-append ReadsItsSetBack states (s ∷ []) all (All-cons ReadsItsSetBack s [] reads (All-nil ReadsItsSetBack)))

pub on_ok : {T E : Type 0} {P Q : Type 0} (r : Result T E) → (P → Q) → OnOk r P → OnOk r Q
on_ok (Ok x) f p = f p
on_ok (Err e) f p = p

-- ---- a reverse program

abbrev arriving : List State → List ℕ → List (Node walks.Look (List Range))
arriving states patterns = indexed (λ q node. pass (arrived (map node_of states) patterns q)) 0 (map node_of states)

abbrev edges : List State → List (Node walks.Look (List Range))
edges states = indexed edge_back 0 (map node_of states)

abbrev ending : List ℕ → List (Node walks.Look (List Range))
ending patterns = indexed (λ k start. match k) 0 patterns

abbrev starting : List State → List ℕ → List (Node walks.Look (List Range))
starting states patterns = pass (those is_match 0 (map node_of states)) ∷ indexed (λ k start. pass (those (is_match_of k) 0 (map node_of states))) 0 patterns

-- the nodes, part by part
pub nodes_are : (states : List State) (patterns : List ℕ) (s0 s1 s2 s3 s4 : List ReverseState) (f2 f3 f4 : List State) (p2 p3 p4 : List ℕ) → s0 ≡ [] → f2 ≡ states → p2 ≡ patterns → f3 ≡ states → p3 ≡ patterns → f4 ≡ states → p4 ≡ patterns
    → map back_node_of s1 ≡ map back_node_of s0 ++ arriving f2 p2 → map back_node_of s2 ≡ map back_node_of s1 ++ edges f3
    → map back_node_of s3 ≡ map back_node_of s2 ++ ending p3 → map back_node_of s4 ≡ map back_node_of s3 ++ starting f4 p4
    → map back_node_of s4 ≡ back_nodes (map node_of states) patterns
nodes_are states patterns s0 s1 s2 s3 s4 f2 f3 f4 p2 p3 p4 none e2 o2 e3 o3 e4 o4 a b c d =
    d ∙ ap₂ (λ xs ys. xs ++ ys) (c ∙ ap₂ (λ xs ys. xs ++ ys) (b ∙ ap₂ (λ xs ys. xs ++ ys) (a ∙ ap₂ (λ xs ys. xs ++ ys) (ap (map back_node_of) none) (ap₂ arriving e2 o2)) (ap edges e3)) (ap ending o3)) (ap₂ starting e4 o4)
    ∙ append_assoc (arriving states patterns ++ edges states) (ending patterns) (starting states patterns) ∙ append_assoc (arriving states patterns) (edges states) (ending patterns ++ starting states patterns)

program_is : (a b : Program walks.Look (List Range)) → a.nodes ≡ b.nodes → a.start ≡ b.start → a.patterns ≡ b.patterns → a.line_terminator ≡ b.line_terminator → a ≡ b
program_is a b nodes start patterns terminator =
    ap (λ x. record { nodes = x; start = a.start; patterns = a.patterns; line_terminator = a.line_terminator }) nodes
    ∙ ap (λ x. record { nodes = b.nodes; start = x; patterns = a.patterns; line_terminator = a.line_terminator }) start
    ∙ ap (λ x. record { nodes = b.nodes; start = b.start; patterns = x; line_terminator = a.line_terminator }) patterns
    ∙ ap (λ x. record { nodes = b.nodes; start = b.start; patterns = b.patterns; line_terminator = x }) terminator

pub characters_are : (p : ByteProgram) (back : ReverseByteProgram) (states : List State) (patterns own : List ℕ) (start : ℕ) → states ≡ p.states → patterns ≡ p.patterns → own ≡ p.patterns
    → map back_node_of back.states ≡ back_nodes (map node_of p.states) p.patterns → start ≡ 2 * length states + length patterns → back.start ≡ start → back.patterns ≡ indexed (λ k s. start + 1 + k) 0 own
    → back.line_terminator ≡ p.line_terminator → back_characters_of back ≡ back_program (character_program p)
characters_are p back states patterns own start states_are patterns_are own_are nodes from begins starts terminator =
    let at : start ≡ back_start (map node_of p.states) p.patterns = omega (arith, from, ap length states_are, ap length patterns_are, length-map p.states node_of) in
    program_is (back_characters_of back) (back_program (character_program p)) nodes (begins ∙ at) (starts ∙ ap₂ (λ n xs. indexed (λ k s. n + 1 + k) 0 xs) at own_are) terminator

pub walks_are : (p : ByteProgram) (back : ReverseByteProgram) → back_characters_of back ≡ back_program (character_program p) → IsReverseByteProgram back
    → ((back : ReverseByteProgram) → ProgramTurnsInBytes is_in (character_program p) (back_automata_of back)) → ReadsBackwards back (character_program p)
walks_are p back is reads law h low high =
    subst (λ (z : Program walks.Look (List Range)). PathsTurn put_note is_in (character_program p) h z (λ r i k e. Path (over_bytes put_note (back_automata_of back) z.nodes (mirrored h)) (r, 0) i k e)) (sym is)
    (law back (subst (λ (z : Program walks.Look (List Range)). ReadsMembers (last_by is_in) (back_automata_of back) z.nodes) is reads.reads) h low high)
