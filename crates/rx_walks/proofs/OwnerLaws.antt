-- Walks stay in their pattern.
use Rattle.std.proofs.Common.{◌≡◌, ℕ, Bool, List, Option, Some}
use Rattle.rx_walks.specs.Looks.{Look}
use Rattle.rx_walks.specs.Finds.{Search}
use Rattle.rx_walks.specs.Programs.{Program, Haystack, put_note}
use Rattle.rx_walks.specs.ProgramFinds.{first_by, haystack_of, holds_in}
use Rattle.rx_walks.specs.Owners.{HasOwners, KeepsPatterns}
use Rattle.rx_walks.specs.Trails.{Edge, by_pass, by_note, by_look, by_set, Trail, trail_end, trail_on}
use Rattle.rx_walks.proofs.TrailLaws.{path_trail}

edge_stays : {L S : Type 0} (p : Program L S) (owner : ℕ → Option ℕ) (first : S → List ℕ → Option ℕ) (h : Haystack L) {q i r j k : ℕ} → HasOwners p owner → Edge first p.nodes h q i r j → owner q ≡ Some k → owner r ≡ Some k
edge_stays p owner first h {k = k} has (by_pass {q = q} {r = r} rs d at got) own = has.stays q k _ at own d r got
edge_stays p owner first h {k = k} has (by_note {q = q} slot at) own = has.stays q k _ at own
edge_stays p owner first h {k = k} has (by_look {q = q} l at holds) own = has.stays q k _ at own
edge_stays p owner first h {k = k} has (by_set {q = q} x d at read to) own = has.stays q k _ at own

trail_stays : {L S : Type 0} (p : Program L S) (owner : ℕ → Option ℕ) (first : S → List ℕ → Option ℕ) (h : Haystack L) {q i t e k : ℕ} → HasOwners p owner → Trail first p.nodes h q i t e → owner q ≡ Some k → t ≡ k
trail_stays p owner first h {k = k} has (trail_end {q = q} within at) own = has.stays q k _ at own
trail_stays p owner first h has (trail_on within edge trail) own = trail_stays p owner first h has trail (edge_stays p owner first h has edge own)

pub owners_keep_patterns : {S : Type 0} (member : S → ℕ → Bool) (is_word : ℕ → Bool) (p : Program Look S) (owner : ℕ → Option ℕ) → HasOwners p owner → (s : Search) → KeepsPatterns member is_word p s
owners_keep_patterns member is_word p owner has s k q i t e at path =
    let h = haystack_of (holds_in is_word p.line_terminator s) s in
    trail_stays p owner (first_by member) h has (path_trail put_note (first_by member) p.nodes h path) (has.starts k q at)
