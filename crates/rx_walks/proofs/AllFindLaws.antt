-- The greatest end over bytes is that over characters.
use Rattle.std.proofs.Common.{◌≡◌, ℕ, ◌⊎◌, ◌↔◌, List, [], Option, None, refl, inl, inr}
use Rattle.std.specs.Str.{IsCharBoundary}
use Rattle.rx_walks.specs.Machines.{Machine, reads}
use Rattle.rx_walks.specs.Paths.{Path, at_end, by_edge, by_read}
use Rattle.rx_walks.specs.Finds.{PatternMatch, Search, CountsAmongAll, IsFindAll, none_at_all, greatest}
use Rattle.rx_walks.specs.StepsAll.{FindsAll, nowhere, found, SearchesAll}
use Rattle.rx_walks.specs.Refinements.{Refines}
use Rattle.rx_walks.specs.Laws.{MayBegin, ReadsMembers, ReadsWhole}
use Rattle.rx_walks.specs.Bytes.{Automaton, over_bytes}
use Rattle.rx_walks.specs.Programs.{Node, Haystack, over_characters}
use Rattle.rx_walks.proofs.PathLaws.{path_has_walk, walk_reaches, reaches}
use Rattle.rx_walks.proofs.RefinementLaws.{refined, unrefined}
use Rattle.rx_walks.proofs.AllSearchLaws.{search_finds_all}
use Rattle.rx_walks.proofs.ProgramLaws.{bytes_refine}
use Rattle.rx_walks.proofs.ForwardLaws.{bytes_forward, number_told, pair_told}

pub path_read : {Q N : Type 0} {m : Machine Q N} {q : Q} {i p e : ℕ} (content : List ℕ) → ((i j : ℕ) (q r : Q) → m.move i q ≡ reads r j → IsCharBoundary content i) → Path m q i p e → (e ≡ i) ⊎ IsCharBoundary content i
path_read content at_whole (at_end is) = inl refl
path_read content at_whole (by_edge rs r k is at path) = path_read content at_whole path
path_read content at_whole (by_read {q = q} {i = i} r j is path) = inr (at_whole i j q r is)

pub begins_all : {Q N : Type 0} {m : Machine Q N} {fresh : ℕ → N} {s : Search} {q : Q} {a : PatternMatch} → ((i j : ℕ) (q r : Q) → m.move i q ≡ reads r j → IsCharBoundary s.content i) → CountsAmongAll m fresh s q a
    → MayBegin s a.start
begins_all {s = s} at_whole counts = (
  counts.possible,
  λ on. elim counts.may_end [
    | inl elsewhere ↦ elim (path_read s.content at_whole (walk_reaches counts.reaches)) [ inl e ↦ absurd (elsewhere e) | inr whole ↦ whole ]
    | inr whole ↦ whole on
  ],
)

pub find_all_from_finds : {Q N : Type 0} {m : Machine Q N} {s : Search} {q : Q} {out : Option PatternMatch} (fresh : ℕ → N) → ((a b : Q) → (a ≡ b) ⊎ (a ≡ b → ⊥))
    → ((i j : ℕ) (q r : Q) → m.move i q ≡ reads r j → IsCharBoundary s.content i) → FindsAll m (MayBegin s) q s.start out → IsFindAll m fresh s q out
find_all_from_finds fresh told at_whole (nowhere never) = none_at_all (λ a counts. never a counts.possible.0.2 (begins_all at_whole counts) (walk_reaches counts.reaches))
find_all_from_finds fresh told at_whole (found {a = a} from b path best) = greatest
    (record { possible = b.0; reaches = path_has_walk told path (fresh a.start); may_end = inr b.1 })
    (λ a counts. best a counts.possible.0.2 (begins_all at_whole counts) (walk_reaches counts.reaches))

-- equal paths in both machines
pub paths_agree : {C B N : Type 0} {c : Machine C N} {b : Machine B N} {f : C → B} (q : C) (i p e : ℕ) → Refines c b f → ((x y : C) → (x ≡ y) ⊎ (x ≡ y → ⊥)) → ((x y : B) → (x ≡ y) ⊎ (x ≡ y → ⊥)) → N
    → Path c q i p e ↔ Path b (f q) i p e
paths_agree q i p e same in_c in_b n = (
  (λ path. let on = path_has_walk in_c path n in walk_reaches (reaches (refined same on.walk) on.pattern_is on.end_is)),
  (λ path. let on = path_has_walk in_b path n in walk_reaches (reaches (unrefined [] q same on.walk) on.pattern_is on.end_is)),
)

pub finds_all_unrefined : {C B N : Type 0} {c : Machine C N} {b : Machine B N} {f : C → B} {begins : ℕ → Type 0} {i : ℕ} {out : Option PatternMatch} (q : C) → Refines c b f → ((x y : C) → (x ≡ y) ⊎ (x ≡ y → ⊥)) → ((x y : B) → (x ≡ y) ⊎ (x ≡ y → ⊥)) → N
    → FindsAll b begins (f q) i out → FindsAll c begins q i out
finds_all_unrefined q same in_c in_b n (nowhere never) = nowhere (λ a from begun path. never a from begun ((paths_agree q a.start a.pattern a.end same in_c in_b n).0 path))
finds_all_unrefined q same in_c in_b n (found {a = a} from begun path best) = found from begun ((paths_agree q a.start a.pattern a.end same in_c in_b n).1 path)
    (λ b from' begun' path'. best b from' begun' ((paths_agree q b.start b.pattern b.end same in_c in_b n).0 path'))

-- the search loop, whatever reads the characters
pub readers_find_all : {L S N : Type 0} (put : ℕ → ℕ → N → N) (first : S → List ℕ → Option ℕ) (step : ℕ → Automaton) (nodes : List (Node L S)) (h : Haystack L) (s : Search) (fresh : ℕ → N) (q : ℕ) (out : Option PatternMatch)
    → ReadsMembers first step nodes → ReadsWhole (over_characters put first nodes h) s.content
    → SearchesAll (over_bytes put step nodes h) (MayBegin s) (q, 0) s.start [] None out → IsFindAll (over_characters put first nodes h) fresh s q out
readers_find_all put first step nodes h s fresh q out members whole searches =
    find_all_from_finds fresh number_told whole
    (finds_all_unrefined q (bytes_refine put first step nodes h members) number_told pair_told (fresh 0) (search_finds_all (bytes_forward put step nodes h) pair_told (fresh 0) searches))
