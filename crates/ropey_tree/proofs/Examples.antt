-- Worked examples of the definitions.
use Rattle.std.specs.Prelude.{◌≡◌, [], ◌∷◌, true, false, refl}
use Rattle.std.specs.List.{concat}
use Rattle.std.specs.Char.{encode_utf8}
use Rattle.ropey_tree.specs.declared.counts.By.TheVariants.{Breaks}
use Rattle.ropey_tree.specs.Counts.{counts_of, total, amount}
use Rattle.ropey_tree.specs.Cutting.{cuts_cr_lf}
use Rattle.ropey_tree.specs.Nodes.{leaf_view, inner_view, all_pieces}

-- `a`, U+1F438, CR LF: seven bytes, four characters, five code units, one break
frog_line : counts_of (0x61 ∷ 0x1F438 ∷ 13 ∷ 10 ∷ []) ≡ record { bytes = 7; chars = 4; units = 5; breaks = 1 }
unfolding encode_utf8
frog_line = refl

-- cut into two pieces it counts the same
frog_pieces : total ((0x61 ∷ 0x1F438 ∷ []) ∷ (13 ∷ 10 ∷ []) ∷ []) ≡ record { bytes = 7; chars = 4; units = 5; breaks = 1 }
unfolding encode_utf8
frog_pieces = refl

-- but not if the cut is inside CR LF: such texts are no leaf texts
cut_line : amount Breaks (total ((0x61 ∷ 13 ∷ []) ∷ (10 ∷ []) ∷ [])) ≡ 2
cut_line = refl

no_cut : cuts_cr_lf (0x61 ∷ 13 ∷ []) (10 ∷ []) ≡ true
no_cut = refl

-- LF before CR may be cut
cut_between : cuts_cr_lf (10 ∷ []) (13 ∷ []) ≡ false
cut_between = refl

-- a node over two leaves
pair_pieces : (inner_view 1 (leaf_view (0x61 ∷ []) ∷ leaf_view (0x62 ∷ []) ∷ [])).pieces ≡ (0x61 ∷ []) ∷ (0x62 ∷ []) ∷ []
pair_pieces = refl

pair_text : concat (all_pieces (leaf_view (0x61 ∷ []) ∷ leaf_view (0x62 ∷ []) ∷ [])) ≡ 0x61 ∷ 0x62 ∷ []
pair_text = refl
