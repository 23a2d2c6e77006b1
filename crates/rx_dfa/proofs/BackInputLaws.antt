-- The bytes before an input's position.
use Rattle.std.proofs.Common.{◌≡◌, ℕ, ◌+◌, ◌-◌, ◌<◌, ◌≤◌, min, List, length, take, drop, get_or, Some, slice_get, sym, ap, ◌∙◌, arith}
use Rattle.std.proofs.lemmas.List.{length-take, length-drop}
use Rattle.std.proofs.lemmas.Option.{get_or_from_slice_get, slice_get-get_or, slice_get_within}
use Rattle.rx_input.specs.Cursors.{CursorState, piece_of}
use Rattle.rx_input.specs.Inputs.{HoldsPlace}
use Rattle.rx_walks.specs.Finds.{Search, IsInside}
use Rattle.rx_walks.specs.ProgramFinds.{lowest}
use Rattle.rx_dfa.specs.Back.{StandBefore}
use Rattle.rx_dfa.proofs.InputLaws.{get_dropped, get_taken, in_piece, shown_is}

-- the last `few` bytes of a chunk before `end`
abbrev pub part_of : List ℕ → ℕ → ℕ → List ℕ
part_of piece end few = take (end - (end - few)) (drop (end - few) piece)

-- these are bytes of a chunk that ends at an offset, in reverse order
pub record IsTurned (piece bytes : List ℕ) (n end few : ℕ) : Type 0 where
  pub len : n ≡ min (length (take (end - (end - few)) (drop (end - few) piece))) 64
  pub each : (k : ℕ) → k < n → get_or bytes k 0 ≡ get_or (take (end - (end - few)) (drop (end - few) piece)) (length (take (end - (end - few)) (drop (end - few) piece)) - 1 - k) 0

-- the current chunk has the byte before an offset
pub record ShowsBefore (s : Search) (i : ℕ) (c : CursorState) (piece : List ℕ) (pos end few : ℕ) : Type 0 where
  pub content : c.content ≡ s.content
  pub piece_is : piece ≡ piece_of c
  pub at : c.start + pos ≡ i - 1
  pub holds : HoldsPlace c (i - 1)
  pub inside : IsInside s i
  pub behind : lowest s < i
  pub small : i < 18446744073709551616
  pub end_is : end ≡ min (min (pos + 1) 18446744073709551615) (length piece)
  pub few_is : few ≤ min end (i - lowest s)

module _ (s : Search) (i : ℕ) (c : CursorState) (piece : List ℕ) (pos end few : ℕ) (shows : ShowsBefore s i c piece pos end few) where
  in_it : pos < length piece
  in_it = in_piece c (i - 1) pos piece shows.piece_is shows.at shows.holds (omega (arith, shows.inside.4, shows.behind, ap (λ (xs : List ℕ). length xs) shows.content))

  end_here : end ≡ pos + 1
  end_here = omega (arith, shows.end_is, in_it, shows.at, shows.small, shows.behind)

  part_len : length (part_of piece end few) ≡ few
  part_len = omega (arith, length-take (end - (end - few)) (drop (end - few) piece), length-drop (end - few) piece, shows.few_is, end_here, in_it)

  pub stand_before : (bytes : List ℕ) (n : ℕ) → IsTurned piece bytes n end few → StandBefore s i (take n bytes)
  stand_before bytes n turned = record {
    are = λ k b e.
        let lt : k < n = omega (arith, slice_get_within (take n bytes) k b e, length-take n bytes) in
        let m = length (part_of piece end few) - 1 - k in
        let inside : m < length (part_of piece end few) = omega (arith, lt, turned.len) in
        let here : get_or bytes k 0 ≡ b = get_or_from_slice_get bytes k b 0 (get_taken bytes n k b e) in
        let there : slice_get (part_of piece end few) m ≡ Some b = slice_get-get_or (part_of piece end few) m 0 inside ∙ ap Some (sym (turned.each k lt) ∙ here) in
        let far : end - few + m ≡ pos - k = omega (arith, part_len, end_here, shows.few_is, lt, turned.len) in
        let shown : slice_get piece (pos - k) ≡ Some b = ap (λ j. slice_get piece j) (sym far) ∙ sym (get_dropped piece (end - few) m) ∙ get_taken (drop (end - few) piece) (end - (end - few)) m b there in
        let place : c.start + (pos - k) ≡ i - 1 - k = omega (arith, shows.at, end_here, shows.few_is, part_len, lt, turned.len) in
        ap (λ xs. slice_get xs (i - 1 - k)) (sym shows.content) ∙ ap (λ j. slice_get c.content j) (sym place) ∙ shown_is c piece (pos - k) b shows.piece_is shown;
    low = omega (arith, length-take n bytes, turned.len, part_len, shows.few_is, shows.behind);
  }
