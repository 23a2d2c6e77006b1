-- Running totals of nodes in a row.
use Rattle.std.proofs.Common.{◌≡◌, ℕ, zero, suc, ◌+◌, ◌-◌, ◌^◌, ◌<◌, ◌≤◌, List, [], ◌∷◌, ◌++◌, length, get_or, take, drop, map, All, inl, inr, refl, ap, arith, sym, ◌∙◌, length-append, length-take-le, length-drop}
use Rattle.std.proofs.lemmas.Bool.{cases_lt}
use Rattle.std.proofs.lemmas.List.{take-append-le, take-take, get_or_append_left, get_or-append_right, get_or-take, get_or-drop, get_or-map, length-map, take-map, drop-map}
use Rattle.std.proofs.Math.Seq.{take-length, take-add, take-append-add}
use Rattle.ropey_tree.specs.declared.counts.Counts.{Counts}
use Rattle.ropey_tree.specs.declared.counts.By.{By}
use Rattle.ropey_tree.specs.Counts.{total, plus, minus, amount, zero_counts, FitsWith, NoneExceeds}
use Rattle.ropey_tree.specs.NodeView.{NodeView}
use Rattle.ropey_tree.specs.Nodes.{all_pieces, count_of}
use Rattle.ropey_tree.specs.Shown.{AreTotals, AreInStep}
use Rattle.std.specs.declared.rc.Rc.{Rc}
use Rattle.std.specs.declared.alloc.Global.{Global}
use Rattle.ropey_tree.specs.declared.node.Node.{Node}
use Rattle.ropey_tree.specs.Children.{views}
use Rattle.ropey_tree.proofs.Totals.{total-append, total-below, amount-zero, less}
use Rattle.ropey_tree.proofs.InRow.{all_pieces-append, all_pieces-one, bytes-take-le}

-- one more node, with the counts of all
pub totals-more : (vs : List NodeView) (totals : List Counts) (v : NodeView) (sum : Counts) → AreTotals vs totals → sum ≡ total (all_pieces (vs ++ v ∷ [])) → AreTotals (vs ++ v ∷ []) (totals ++ sum ∷ [])
totals-more vs totals v sum h is =
    let more = length-append vs (v ∷ []) in
    record {
      number = omega (arith, h.number, more, length-append totals (sum ∷ []));
      running = λ k d p.
          elim (cases_lt k (length vs)) [
            | inl q ↦
                let low : k < length totals = omega (arith, q, h.number) in
                let front : take (k + 1) (vs ++ v ∷ []) ≡ take (k + 1) vs = take-append-le (k + 1) vs (v ∷ []) (omega (arith, q)) in
                get_or_append_left totals (sum ∷ []) d k low ∙ h.running k d q ∙ ap (λ ws. total (all_pieces ws)) (sym front)
            | inr q ↦
                let at : k - length vs ≡ 0 = omega (arith, p, more) in
                let last : k + 1 ≡ length (vs ++ v ∷ []) = omega (arith, p, q, more) in
                let whole : take (k + 1) (vs ++ v ∷ []) ≡ vs ++ v ∷ [] = ap (λ n. take n (vs ++ v ∷ [])) last ∙ take-length (vs ++ v ∷ []) in
                get_or-append_right totals (sum ∷ []) (length vs) k d h.number q ∙ ap (λ i. get_or (sum ∷ []) i d) at ∙ is ∙ ap (λ ws. total (all_pieces ws)) (sym whole)
          ];
    }

-- what the totals give
pub totals-before : (vs : List NodeView) (totals : List Counts) (k : ℕ) (before : Counts) → AreTotals vs totals → k ≤ length vs
    → (k ≡ 0 → before ≡ zero_counts) → ((d : Counts) → 0 < k → before ≡ get_or totals (k - 1) d) → before ≡ total (all_pieces (take k vs))
totals-before vs totals zero before h within start end = start refl
totals-before vs totals (suc k) before h within start end =
    let index : suc k - 1 ≡ k = omega arith in
    let next : suc k ≡ k + 1 = omega arith in
    end zero_counts (omega arith) ∙ ap (λ i. get_or totals i zero_counts) index ∙ h.running k zero_counts (omega (arith, within)) ∙ ap (λ i. total (all_pieces (take i vs))) (sym next)

-- the counts before the index that is found are not past the position
pub totals-not_past : (vs : List NodeView) (totals : List Counts) (by : By) (i k : ℕ) → AreTotals vs totals → k ≤ length vs
    → ((d : Counts) → 0 < k → amount by (get_or totals (k - 1) d) ≤ i) → amount by (total (all_pieces (take k vs))) ≤ i
totals-not_past vs totals by i zero h within low = omega (arith, amount-zero by)
totals-not_past vs totals by i (suc k) h within low =
    let index : suc k - 1 ≡ k = omega arith in
    let next : suc k ≡ k + 1 = omega arith in
    let at = ap (λ i. amount by (get_or totals i zero_counts)) index ∙ ap (amount by) (h.running k zero_counts (omega (arith, within))) ∙ ap (λ i. amount by (total (all_pieces (take i vs)))) (sym next) in
    omega (arith, at, low zero_counts (omega arith))

-- the counts of one more node are added to those of all before it
pub record Adds (vs : List NodeView) (v : NodeView) (before count : Counts) : Type 0 where
  pub fits : FitsWith before count
  pub is : plus before count ≡ total (all_pieces (vs ++ v ∷ []))

pub adds : (vs : List NodeView) (v : NodeView) (before count : Counts) → (total (all_pieces (vs ++ v ∷ []))).bytes < 2 ^ 63
    → before ≡ total (all_pieces vs) → count ≡ count_of v → Adds vs v before count
adds vs v before count fits stands_before counted =
    let parts : all_pieces (vs ++ v ∷ []) ≡ all_pieces vs ++ v.pieces = all_pieces-append vs (v ∷ []) ∙ ap (λ ps. all_pieces vs ++ ps) (all_pieces-one v) in
    let is : plus before count ≡ total (all_pieces (vs ++ v ∷ [])) = rw (stands_before, counted) (sym (ap total parts ∙ total-append (all_pieces vs) v.pieces)) in
    let below = total-below (all_pieces (vs ++ v ∷ [])) in
    let b : before.bytes + count.bytes ≡ (total (all_pieces (vs ++ v ∷ []))).bytes = ap (λ c. c.bytes) is in
    let c : before.chars + count.chars ≡ (total (all_pieces (vs ++ v ∷ []))).chars = ap (λ c. c.chars) is in
    let u : before.units + count.units ≡ (total (all_pieces (vs ++ v ∷ []))).units = ap (λ c. c.units) is in
    let l : before.breaks + count.breaks ≡ (total (all_pieces (vs ++ v ∷ []))).breaks = ap (λ c. c.breaks) is in
    record {
      fits = record {
        bytes = omega (arith, fits, b);
        chars = omega (arith, fits, c, below.chars);
        units = omega (arith, fits, u, below.units);
        breaks = omega (arith, fits, l, below.breaks);
      };
      is = is;
    }

-- one more total
pub in_step-more : (vs : List NodeView) (totals : List Counts) (v : NodeView) (sum : Counts) → AreInStep vs totals → length vs < 24 → sum ≡ total (all_pieces (vs ++ v ∷ [])) → AreInStep (vs ++ v ∷ []) (totals ++ sum ∷ [])
in_step-more vs totals v sum h room is = record { few = omega (arith, room, length-append vs (v ∷ [])); counted = totals-more vs totals v sum h.counted is }

-- the views of a part of a row
pub views-part : (n from : ℕ) (nodes : List (Rc Node Global)) → views (take n (drop from nodes)) ≡ take n (drop from (views nodes))
views-part n from nodes = sym (take-map (λ node. node.value) n (drop from nodes)) ∙ ap (take n) (sym (drop-map (λ node. node.value) from nodes))

-- ---- some nodes of another row after those of a row
-- the counts of a part of a row are those up to its end, less those before it
part-total : (ws : List NodeView) (from j : ℕ) → minus (total (all_pieces (take (from + j) ws))) (total (all_pieces (take from ws))) ≡ total (all_pieces (take j (drop from ws)))
part-total ws from j =
    let before = total (all_pieces (take from ws)) in
    let parts = ap all_pieces (take-add from j ws) ∙ all_pieces-append (take from ws) (take j (drop from ws)) in
    ap (λ c. minus c before) (ap total parts ∙ total-append (all_pieces (take from ws)) (all_pieces (take j (drop from ws)))) ∙ less before (all_pieces (take j (drop from ws)))

sums-fit : (ps qs : List (List ℕ)) → (total ps).bytes + (total qs).bytes < 2 ^ 64 → FitsWith (total ps) (total qs)
sums-fit ps qs fits =
    let p = total-below ps in
    let q = total-below qs in
    record {
      bytes = fits;
      chars = omega (arith, fits, p.chars, q.chars);
      units = omega (arith, fits, p.units, q.units);
      breaks = omega (arith, fits, p.breaks, q.breaks);
    }

-- the totals of a row after which some nodes of another row come
abbrev pub extended : List Counts → Counts → List Counts → ℕ → ℕ → Counts → List Counts
extended totals sum others from n before = totals ++ map (λ t. plus sum (minus t before)) (take n (drop from others))

module _ (vs ws : List NodeView) (others : List Counts) (from n : ℕ) (g : AreTotals ws others) (within : from + n ≤ length ws) where
  part_len : length (take n (drop from ws)) ≡ n
  part_len = length-take-le n (drop from ws) (omega (arith, within, length-drop from ws))

  some_len : length (take n (drop from others)) ≡ n
  some_len = length-take-le n (drop from others) (omega (arith, within, g.number, length-drop from others))

  -- the first ones of both rows
  firsts : (j : ℕ) → j < n → take (length vs + (j + 1)) (vs ++ take n (drop from ws)) ≡ vs ++ take (j + 1) (drop from ws)
  firsts j low = take-append-add vs (take n (drop from ws)) (j + 1) ∙ ap (λ us. vs ++ us) (take-take (j + 1) n (drop from ws) (omega (arith, low)))

  -- the total of a node of the part
  at_end : (j : ℕ) (d : Counts) → j < n → get_or (take n (drop from others)) j d ≡ total (all_pieces (take (from + (j + 1)) ws))
  at_end j d low =
      let next : from + j + 1 ≡ from + (j + 1) = omega arith in
      get_or-take n (drop from others) j d low ∙ get_or-drop from others j d ∙ g.running (from + j) d (omega (arith, low, within)) ∙ ap (λ i. total (all_pieces (take i ws))) next

  -- the counts of the part up to and including one node
  part_counts : (j : ℕ) (d : Counts) → j < n → minus (get_or (take n (drop from others)) j d) (total (all_pieces (take from ws))) ≡ total (all_pieces (take (j + 1) (drop from ws)))
  part_counts j d low =
      ap (λ c. minus c (total (all_pieces (take from ws)))) (at_end j d low) ∙ part-total ws from (j + 1)

  pub part-later : All (λ t. NoneExceeds (total (all_pieces (take from ws))) t) (take n (drop from others))
  part-later = λ j d p.
      let low : j < n = omega (arith, p, some_len) in
      let more = take (j + 1) (drop from ws) in
      let sums = ap all_pieces (take-add from (j + 1) ws) ∙ all_pieces-append (take from ws) more in
      let is = at_end j d low ∙ ap total sums ∙ total-append (all_pieces (take from ws)) (all_pieces more) in
      rw is (record { bytes = omega arith; chars = omega arith; units = omega arith; breaks = omega arith })

  pub part-fits : (total (all_pieces (vs ++ take n (drop from ws)))).bytes < 2 ^ 63 → All (λ t. FitsWith (total (all_pieces vs)) (minus t (total (all_pieces (take from ws))))) (take n (drop from others))
  part-fits fits = λ j d p.
      let low : j < n = omega (arith, p, some_len) in
      let more = take (j + 1) (drop from ws) in
      let few = bytes-take-le (vs ++ take n (drop from ws)) (length vs + (j + 1)) in
      let is = ap (λ us. (total (all_pieces us)).bytes) (firsts j low) in
      let sums = ap total (all_pieces-append vs more) ∙ total-append (all_pieces vs) (all_pieces more) in
      let bytes : (total (all_pieces (vs ++ more))).bytes ≡ (total (all_pieces vs)).bytes + (total (all_pieces more)).bytes = ap (λ c. c.bytes) sums in
      rw (part_counts j d low) (sums-fit (all_pieces vs) (all_pieces more) (omega (arith, few, is, bytes, fits)))

  pub totals-extended : (totals : List Counts) → AreTotals vs totals
      → AreTotals (vs ++ take n (drop from ws)) (extended totals (total (all_pieces vs)) others from n (total (all_pieces (take from ws))))
  totals-extended totals h =
      let sum = total (all_pieces vs) in
      let before = total (all_pieces (take from ws)) in
      let f : Counts → Counts = λ t. plus sum (minus t before) in
      let some = take n (drop from others) in
      let len = length-append vs (take n (drop from ws)) in
      record {
        number = omega (arith, h.number, part_len, some_len, len, length-append totals (map f some), length-map some f);
        running = λ k d p.
            elim (cases_lt k (length vs)) [
              | inl q ↦
                  let low : k < length totals = omega (arith, q, h.number) in
                  let front : take (k + 1) (vs ++ take n (drop from ws)) ≡ take (k + 1) vs = take-append-le (k + 1) vs (take n (drop from ws)) (omega (arith, q)) in
                  get_or_append_left totals (map f some) d k low ∙ h.running k d q ∙ ap (λ us. total (all_pieces us)) (sym front)
              | inr q ↦
                  let j = k - length vs in
                  let low : j < n = omega (arith, p, q, len, part_len) in
                  let next : k + 1 ≡ length vs + (j + 1) = omega (arith, q) in
                  let more = take (j + 1) (drop from ws) in
                  let at = get_or-append_right totals (map f some) (length vs) k d h.number q ∙ get_or-map f some j zero_counts d (omega (arith, low, some_len)) ∙ ap (plus sum) (part_counts j zero_counts low) in
                  let row = ap (λ i. take i (vs ++ take n (drop from ws))) next ∙ firsts j low in
                  let sums = ap (λ us. total (all_pieces us)) row ∙ ap total (all_pieces-append vs more) ∙ total-append (all_pieces vs) (all_pieces more) in
                  at ∙ sym sums
            ];
      }

  pub in_step-extended : (totals : List Counts) → AreInStep vs totals → length vs + n ≤ 24
      → AreInStep (vs ++ take n (drop from ws)) (extended totals (total (all_pieces vs)) others from n (total (all_pieces (take from ws))))
  in_step-extended totals h room = record { few = omega (arith, room, part_len, length-append vs (take n (drop from ws))); counted = totals-extended totals h.counted }
