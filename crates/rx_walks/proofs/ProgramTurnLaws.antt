-- A program's paths, and those of the reverse program.
use Rattle.std.proofs.Common.{◌≡◌, ℕ, ◌+◌, ◌-◌, ◌≤◌, ◌↔◌, Bool, length, Some, slice_get, sym, subst, arith}
use Rattle.rx_walks.specs.Paths.{Path}
use Rattle.rx_walks.specs.Looks.{Look}
use Rattle.rx_walks.specs.Bytes.{Automaton, over_bytes}
use Rattle.rx_walks.specs.Laws.{ReadsMembers}
use Rattle.rx_walks.specs.Refinements.{Refines}
use Rattle.rx_walks.specs.Programs.{Program, Haystack, fresh_notes, put_note, over_characters}
use Rattle.rx_walks.specs.ProgramFinds.{first_by}
use Rattle.rx_walks.proofs.WalkLaws.{same_some}
use Rattle.rx_walks.specs.Reversed.{mirrored, last_by, back_start, back_program}
use Rattle.rx_walks.specs.BackLaws.{PathsTurn}
use Rattle.rx_walks.proofs.AllFindLaws.{paths_agree}
use Rattle.rx_walks.proofs.ForwardLaws.{number_told, pair_told}
use Rattle.rx_walks.proofs.ProgramLaws.{bytes_refine}
use Rattle.rx_walks.proofs.TrailLaws.{path_trail, trail_path}
use Rattle.rx_walks.proofs.NodeLaws.{indexed_at, length-indexed, below_get, get_below}
use Rattle.rx_walks.proofs.TurnLaws.{Whole, forth_one, forth_any, back_one, back_any}

-- the start node of a pattern's backward walks
pub start_of_pattern : {L S : Type 0} (p : Program L S) (t r : ℕ) → slice_get (back_program p).patterns t ≡ Some r → (start : ℕ) × (slice_get p.patterns t ≡ Some start) × (r ≡ back_start p.nodes p.patterns + 1 + t)
start_of_pattern p t r e =
    let f : ℕ → ℕ → ℕ = λ k start. back_start p.nodes p.patterns + 1 + k in
    let below = below_get (back_program p).patterns t r e in
    let one = get_below p.patterns t (omega (arith, below, length-indexed f 0 p.patterns)) in
    let is = same_some e (indexed_at f 0 p.patterns t one.0 one.1) in
    (one.0, one.1, omega (arith, is))

module _ {L S N : Type 0} (put : ℕ → ℕ → N → N) (member : S → ℕ → Bool) (p : Program L S) (h : Haystack L) (low_in : h.low ≤ length h.content) (high_in : h.high ≤ length h.content) where
  abbrev size : ℕ
  size = length h.content

  abbrev Forth : ℕ → ℕ → ℕ → ℕ → Type 0
  Forth q i t e = Path (over_characters put (first_by member) p.nodes h) q i t e

  abbrev Back : ℕ → ℕ → ℕ → ℕ → Type 0
  Back q i k e = Path (over_characters put (last_by member) (back_program p).nodes (mirrored h)) q i k e

  -- a path from the start of pattern k
  pub record FromPattern (k s' t e : ℕ) : Type 0 where
    pub node : ℕ
    pub at : slice_get p.patterns k ≡ Some node
    pub place : ℕ
    pub mirror : s' + place ≡ size
    pub path : Forth node place t e

  from_whole : (k s' t e : ℕ) → Whole member p.nodes p.patterns h low_in high_in k s' t e → FromPattern k s' t e
  from_whole k s' t e whole = record { node = whole.node; at = whole.at; place = whole.place; mirror = whole.mirror; path = trail_path put (first_by member) p.nodes h whole.trail }

  pub path_one : (t k q r s e : ℕ) → slice_get p.patterns k ≡ Some q → slice_get (back_program p).patterns t ≡ Some r → s ≤ size → e ≤ size → Forth q s t e → Back r (size - e) k (size - s)
  path_one t k q r s e at at_t low high path =
      let start = start_of_pattern p t r at_t in
      subst (λ z. Back z (size - e) k (size - s)) (sym start.2)
      (trail_path put (last_by member) (back_program p).nodes (mirrored h)
      (forth_one member p.nodes p.patterns h low_in high_in t k q s e start.0 at start.1 low high (path_trail put (first_by member) p.nodes h path)))

  pub path_any : (t k q s e : ℕ) → slice_get p.patterns k ≡ Some q → s ≤ size → e ≤ size → Forth q s t e → Back (back_program p).start (size - e) k (size - s)
  path_any t k q s e at low high path = trail_path put (last_by member) (back_program p).nodes (mirrored h)
      (forth_any member p.nodes p.patterns h low_in high_in t k q s e at low high (path_trail put (first_by member) p.nodes h path))

  pub path_back_one : (t k r s' e : ℕ) → slice_get (back_program p).patterns t ≡ Some r → e ≤ size → Back r (size - e) k s' → FromPattern k s' t e
  path_back_one t k r s' e at_t high path =
      let start = start_of_pattern p t r at_t in
      from_whole k s' t e (back_one member p.nodes p.patterns h low_in high_in t k s' e start.0 start.1 high
      (path_trail put (last_by member) (back_program p).nodes (mirrored h) (subst (λ z. Back z (size - e) k s') start.2 path)))

  pub path_back_any : (k s' e : ℕ) → e ≤ size → Back (back_program p).start (size - e) k s' → (t : ℕ) × FromPattern k s' t e
  path_back_any k s' e high path =
      let one = back_any member p.nodes p.patterns h low_in high_in k s' e high (path_trail put (last_by member) (back_program p).nodes (mirrored h) path) in
      (one.0, from_whole k s' one.0 e one.1)

  one_start : (k q s t e : ℕ) → slice_get p.patterns k ≡ Some q → s ≤ size → FromPattern k (size - s) t e → Forth q s t e
  one_start k q s t e at low from =
      let node : from.node ≡ q = same_some from.at at in
      let place : from.place ≡ s = omega (arith, low, from.mirror) in
      subst (λ z. Forth z s t e) node (subst (λ z. Forth from.node z t e) place from.path)

  pub program_turns : PathsTurn put member p h (back_program p) Back
  program_turns = record {
    of_any = λ k q s e at low high. (
      (λ one. path_any one.0 k q s e at low high one.1),
      (λ path. let one = path_back_any k (size - s) e high path in (one.0, one_start k q s one.0 e at low one.1)),
    );
    of_one = λ t k q r s e at at_t low high. (
      (λ path. path_one t k q r s e at at_t low high path),
      (λ path. one_start k q s t e at low (path_back_one t k r (size - s) e at_t high path)),
    );
  }

-- the same for its bytes
pub program_turns_in_bytes : {S : Type 0} (member : S → ℕ → Bool) (p : Program Look S) (step : ℕ → Automaton) → ReadsMembers (last_by member) step (back_program p).nodes → (h : Haystack Look) → h.low ≤ length h.content → h.high ≤ length h.content
    → PathsTurn put_note member p h (back_program p) (λ r i k e. Path (over_bytes put_note step (back_program p).nodes (mirrored h)) (r, 0) i k e)
program_turns_in_bytes member p step members h low_in high_in =
    let turns = program_turns put_note member p h low_in high_in in
    let refines = bytes_refine put_note (last_by member) step (back_program p).nodes (mirrored h) members in
    record {
      of_any = λ k q s e at low high. (
        (λ one. (agree refines (back_program p).start (length h.content - e) k (length h.content - s)).0 ((turns.of_any k q s e at low high).0 one)),
        (λ path. (turns.of_any k q s e at low high).1 ((agree refines (back_program p).start (length h.content - e) k (length h.content - s)).1 path)),
      );
      of_one = λ t k q r s e at at_t low high. (
        (λ path. (agree refines r (length h.content - e) k (length h.content - s)).0 ((turns.of_one t k q r s e at at_t low high).0 path)),
        (λ path. (turns.of_one t k q r s e at at_t low high).1 ((agree refines r (length h.content - e) k (length h.content - s)).1 path)),
      );
    }
  where
    agree : Refines (over_characters put_note (last_by member) (back_program p).nodes (mirrored h)) (over_bytes put_note step (back_program p).nodes (mirrored h)) (λ q. (q, 0)) → (r i k e : ℕ)
        → Path (over_characters put_note (last_by member) (back_program p).nodes (mirrored h)) r i k e ↔ Path (over_bytes put_note step (back_program p).nodes (mirrored h)) (r, 0) i k e
    agree refines r i k e = paths_agree r i k e refines number_told pair_told (fresh_notes 0)
