-- The automata of a program's states read the characters of its nodes.
use Rattle.std.proofs.Common.{◌≡◌, ℕ, zero, suc, ◌<◌, List, [], ◌∷◌, length, map, get_or, Some, slice_get, refl, ap, subst, ◌∙◌, arith}
use Rattle.std.specs.List.{All}
use Rattle.std.proofs.lemmas.List.Elements.{All-get_or}
use Rattle.rx_sets.specs.Sets.{Range}
use Rattle.rx_utf8.specs.Automata.{is_in}
use Rattle.rx_walks.specs.Characters.{member_len}
use Rattle.rx_walks.specs.Bytes.{run}
use Rattle.rx_walks.specs.Looks as walks
use Rattle.rx_walks.specs.Laws.{byte_machine_of}
use Rattle.rx_walks.specs.Programs.{Node, set, put_note, fresh_notes}
use Rattle.rx_walks.specs.ProgramFinds.{machine_of, first_by, haystack_of, holds_in}
use Rattle.rx_walks.specs.Refinements.{Refines}
use Rattle.rx_walks.proofs.AllFindLaws.{paths_agree}
use Rattle.rx_walks.proofs.ForwardLaws.{number_told, pair_told}
use Rattle.rx_walks.proofs.ProgramLaws.{bytes_refine}
use Rattle.rx_walks.proofs.RefinementLaws.{refined, unrefined, least_refined}
use Rattle.rx_program.specs.declared.states.State.{State}
use Rattle.rx_program.specs.declared.states.State.TheVariants as state
use Rattle.rx_program.specs.Programs.{node_of, automaton_of, automata_of, character_program, ReadsItsSet, ByteProgram, IsByteProgram, HasWalksOfProgram}

-- a state whose node has a set
of_state : (s : State) (x : List Range) (r : ℕ) → ReadsItsSet s → node_of s ≡ set x r → (bytes : List ℕ) → run (automaton_of (Some s)) 0 bytes ≡ member_len (is_in x) bytes
of_state (state.Ranges automaton next) x r reads e bytes = reads.reads bytes ∙ ap (λ ranges. member_len (is_in ranges) bytes) (cc e)
of_state (state.Look asked next) x r reads e bytes = absurd (cc e)
of_state (state.Empty next) x r reads e bytes = absurd (cc e)
of_state (state.BinaryUnion first second) x r reads e bytes = absurd (cc e)
of_state (state.Union alternates) x r reads e bytes = absurd (cc e)
of_state (state.Capture slot next) x r reads e bytes = absurd (cc e)
of_state (state.Match pattern) x r reads e bytes = absurd (cc e)

same_some : {X : Type 0} {x y : X} → Some x ≡ Some y → x ≡ y
same_some e = cc e

-- the state of a node
record StateAt (states : List State) (q : ℕ) (node : Node walks.Look (List Range)) : Type 0 where
  state : State
  at : slice_get states q ≡ Some state
  is : node_of state ≡ node
  below : q < length states
  found : get_or states q state ≡ state

state_at : (states : List State) (q : ℕ) (node : Node walks.Look (List Range)) → slice_get (map node_of states) q ≡ Some node → StateAt states q node
state_at [] q node e = absurd (cc e)
state_at (s ∷ states) zero node e = record { state = s; at = refl; is = same_some e; below = omega arith; found = refl }
state_at (s ∷ states) (suc q) node e =
    let on = state_at states q node e in record { state = on.state; at = on.at; is = on.is; below = omega (arith, on.below); found = on.found }

pub reads_members : (p : ByteProgram) → All ReadsItsSet p.states → IsByteProgram p
reads_members p all q r x e bytes =
    let on = state_at p.states q (set x r) e in
    let reads : ReadsItsSet on.state = subst ReadsItsSet on.found (All-get_or ReadsItsSet p.states q on.state on.below all) in
    ap (λ o. run (automaton_of o) 0 bytes) on.at ∙ of_state on.state x r reads on.is bytes

-- therefore its walks over bytes are those over characters
pub walks_of : (p : ByteProgram) → All ReadsItsSet p.states → HasWalksOfProgram p (character_program p)
walks_of p all is_word s =
    let characters = character_program p in
    let step = automata_of p in
    let refines : Refines (machine_of is_in is_word characters s) (byte_machine_of is_word characters step s) (λ q. (q, 0)) =
    bytes_refine put_note (first_by is_in) step characters.nodes (haystack_of (holds_in is_word p.line_terminator s) s) (reads_members p all) in
    record {
      walks = λ n q i choices t. ((λ walk. refined refines walk), (λ walk. unrefined [] q refines walk));
      least = λ n q i t. least_refined refines;
      paths = λ q i a e. paths_agree q i a e refines number_told pair_told (fresh_notes 0);
    }
