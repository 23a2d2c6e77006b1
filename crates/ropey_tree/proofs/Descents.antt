-- Paths down a tree: the part of a text that contains a position.
use Rattle.std.proofs.Common.{◌≡◌, ℕ, ◌+◌, ◌-◌, ◌^◌, ◌<◌, ◌≤◌, ◌⊎◌, ◌==◌, true, inl, inr, List, [], ◌++◌, length, get_or, take, drop, refl, ap, arith, sym, ◌∙◌, append_assoc}
use Rattle.std.proofs.lemmas.Bool.Decides.{nat_tests}
use Rattle.std.proofs.lemmas.List.{append-nil}
use Rattle.std.proofs.Math.ListN.{drop_of_length-le}
use Rattle.ropey_tree.specs.declared.counts.Counts.{Counts}
use Rattle.ropey_tree.specs.declared.counts.By.{By}
use Rattle.ropey_tree.specs.Counts.{total, plus, amount, zero_counts}
use Rattle.ropey_tree.specs.NodeView.{NodeView}
use Rattle.ropey_tree.specs.Nodes.{all_pieces, LiesIn, StandsIn}
use Rattle.ropey_tree.proofs.Totals.{total-append, amount-plus, amount-zero, total-below}
use Rattle.ropey_tree.proofs.InRow.{all_pieces-parts, all_pieces-take_more}

-- the child that `choose` chooses
pub child_lies : (vs : List NodeView) (k : ℕ) (v : NodeView) (by : By) (i : ℕ) (before : Counts) → k < length vs → v ≡ get_or vs k v
    → before ≡ total (all_pieces (take k vs)) → amount by before ≤ i
    → (i < amount by (total (all_pieces (take (k + 1) vs)))) ⊎ (k + 1 ≡ length vs)
    → LiesIn (all_pieces vs) v.pieces by i before
child_lies vs k v by i before within is stands_before not_past passed =
    let child = ap (λ w. w.pieces) is in
    let more : all_pieces (take (k + 1) vs) ≡ all_pieces (take k vs) ++ v.pieces = all_pieces-take_more vs k v within ∙ ap (λ ps. all_pieces (take k vs) ++ ps) (sym child) in
    record {
      left = all_pieces (take k vs);
      right = all_pieces (drop (k + 1) vs);
      parts = all_pieces-parts vs k v within ∙ ap (λ ps. all_pieces (take k vs) ++ ps ++ all_pieces (drop (k + 1) vs)) (sym child);
      stands_before = stands_before;
      not_past = not_past;
      passed = elim passed [
        | inl p ↦ inl (rw more at p)
        | inr e ↦ inr (ap all_pieces (drop_of_length-le vs (omega (arith, e))))
      ];
    }

-- the whole
pub whole_lies : (ps : List (List ℕ)) (by : By) (i : ℕ) → LiesIn ps ps by i zero_counts
whole_lies ps by i = record {
  left = [];
  right = [];
  parts = sym (append-nil ps);
  stands_before = refl;
  not_past = omega (arith, amount-zero by);
  passed = inr refl;
}

amount-append : (by : By) (ps qs : List (List ℕ)) → amount by (total (ps ++ qs)) ≡ amount by (total ps) + amount by (total qs)
amount-append by ps qs = ap (amount by) (total-append ps qs) ∙ amount-plus by (total ps) (total qs)

deeper_passed : (whole part inner : List (List ℕ)) (by : By) (i : ℕ) (before within : Counts) (outer : LiesIn whole part by i before) (h : LiesIn part inner by (i - amount by before) within)
    → (i < amount by (total (outer.left ++ h.left ++ inner))) ⊎ (h.right ++ outer.right ≡ [])
deeper_passed whole part inner by i before within outer h =
    let stands : amount by before ≡ amount by (total outer.left) = ap (amount by) outer.stands_before in
    let assoc : amount by (total (outer.left ++ h.left ++ inner)) ≡ amount by (total (outer.left ++ (h.left ++ inner))) = ap (λ ps. amount by (total ps)) (append_assoc outer.left h.left inner) in
    elim h.passed [
      | inl p ↦ let sums = amount-append by outer.left (h.left ++ inner) in inl (omega (arith, p, sums, assoc, stands, outer.not_past))
      | inr e ↦
          let part_is : part ≡ h.left ++ inner = h.parts ∙ ap (λ ps. h.left ++ inner ++ ps) e ∙ append-nil (h.left ++ inner) in
          elim outer.passed [
            | inl q ↦ let same = ap (λ ps. amount by (total (outer.left ++ ps))) part_is in inl (omega (arith, q, same, assoc))
            | inr d ↦ inr (rw e d)
          ]
    ]

-- a part of a part
pub deeper : (whole part inner : List (List ℕ)) (by : By) (i : ℕ) (before within : Counts) → LiesIn whole part by i before → LiesIn part inner by (i - amount by before) within
    → LiesIn whole inner by i (plus before within)
deeper whole part inner by i before within outer h =
    let inside = ap (λ ps. outer.left ++ ps ++ outer.right) h.parts in
    record {
      left = outer.left ++ h.left;
      right = h.right ++ outer.right;
      parts = outer.parts ∙ inside ∙ simp append_assoc;
      stands_before = ap (λ c. plus c within) outer.stands_before ∙ ap (plus (total outer.left)) h.stands_before ∙ sym (total-append outer.left h.left);
      not_past = omega (arith, amount-plus by before within, outer.not_past, h.not_past);
      passed = deeper_passed whole part inner by i before within outer h;
    }

-- the counts before a part and those of the next step can be added
pub record Fits (before within : Counts) : Type 0 where
  pub bytes : before.bytes + within.bytes < 2 ^ 64
  pub chars : before.chars + within.chars < 2 ^ 64
  pub units : before.units + within.units < 2 ^ 64
  pub breaks : before.breaks + within.breaks < 2 ^ 64

pub lies_fits : (whole inner : List (List ℕ)) (by : By) (i : ℕ) (before within : Counts) → (total whole).bytes < 2 ^ 63 → LiesIn whole inner by i (plus before within) → Fits before within
lies_fits whole inner by i before within fits h =
    let below = total-below h.left in
    let parts = ap total h.parts ∙ total-append (h.left ++ inner) h.right in
    let front = total-append h.left inner in
    let whole_bytes : (total whole).bytes ≡ (total (h.left ++ inner)).bytes + (total h.right).bytes = ap (λ c. c.bytes) parts in
    let front_bytes : (total (h.left ++ inner)).bytes ≡ (total h.left).bytes + (total inner).bytes = ap (λ c. c.bytes) front in
    let b : before.bytes + within.bytes ≡ (total h.left).bytes = ap (λ c. c.bytes) h.stands_before in
    let c : before.chars + within.chars ≡ (total h.left).chars = ap (λ c. c.chars) h.stands_before in
    let u : before.units + within.units ≡ (total h.left).units = ap (λ c. c.units) h.stands_before in
    let l : before.breaks + within.breaks ≡ (total h.left).breaks = ap (λ c. c.breaks) h.stands_before in
    record {
      bytes = omega (arith, b);
      chars = omega (arith, c, below.chars);
      units = omega (arith, u, below.units);
      breaks = omega (arith, l, below.breaks);
    }

-- a part in hand that contains a position
pub stands_lies : (whole part : List (List ℕ)) (by : By) (i : ℕ) (before : Counts) → StandsIn whole part before → amount by before ≤ i → i < amount by before + amount by (total part)
    → LiesIn whole part by i before
stands_lies whole part by i before h low high = record {
  left = h.left;
  right = h.right;
  parts = h.parts;
  stands_before = h.stands_before;
  not_past = low;
  passed = inl (omega (arith, high, ap (amount by) h.stands_before, amount-append by h.left part));
}

pub lies_stands : (whole part : List (List ℕ)) (by : By) (i : ℕ) (before : Counts) → LiesIn whole part by i before → StandsIn whole part before
lies_stands whole part by i before h = record { left = h.left; right = h.right; parts = h.parts; stands_before = h.stands_before }

-- what the counts of a part determine
pub known_bytes : (len : Counts) (ps : List (List ℕ)) → (len.chars == len.bytes) ≡ true → len ≡ total ps → (total ps).chars ≡ (total ps).bytes
known_bytes len ps e is =
    let same : len.chars ≡ len.bytes = grind (arith, nat_tests) in
    omega (arith, same, ap (λ c. c.chars) is, ap (λ c. c.bytes) is)
