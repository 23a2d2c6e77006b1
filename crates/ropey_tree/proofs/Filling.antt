-- A leaf under construction, and the leaves before it.
use Rattle.std.proofs.Common.{◌≡◌, ℕ, ◌+◌, ◌-◌, ◌<◌, ◌≤◌, ◌⊎◌, inl, inr, true, false, ◌&&◌, List, [], ◌∷◌, ◌++◌, length, take, drop, refl, ap, arith, sym, ◌∙◌, append_assoc, length-append, length-take-le, take-append-drop, subst}
use Rattle.std.specs.List.{concat}
use Rattle.std.proofs.lemmas.List.{append-nil}
use Rattle.std.proofs.lemmas.List.Elements.{All-cons, All-nil, All-append, All-take}
use Rattle.std.specs.List.{All}
use Rattle.std.proofs.Math.Seq.{take-append_seam}
use Rattle.std.proofs.lemmas.List.Folds.{concat-append}
use Rattle.std.specs.Str.{chars, IsUtf8, IsCharBoundary}
use Rattle.std.proofs.lemmas.Str.{length-le-encodes, encodes-chars, chars-append, IsUtf8-take, chars-nil}
use Rattle.std.proofs.Math.ListN.{drop_of_length-le}
use Rattle.str_indices.specs.Text.{starts_with_lf, byte_len, ends_with_cr}
use Rattle.ropey_tree.specs.Cutting.{IsPiece, IsCutting, IsFull, AreFull, cuts_cr_lf}
use Rattle.ropey_tree.specs.Cutter.{IsCutBefore}
use Rattle.ropey_tree.specs.NodeView.{NodeView}
use Rattle.ropey_tree.specs.Nodes.{all_pieces, AreNodes, IsNodeOf, leaf_view}
use Rattle.ropey_tree.proofs.InRow.{all_pieces-append, all_pieces-one}
use Rattle.ropey_tree.proofs.Pieces.{first_piece}
use Rattle.ropey_tree.proofs.Texts.{byte_len-append}
use Rattle.ropey_tree.proofs.Splitting.{starts-append, ends-append}
use Rattle.ropey_tree.proofs.Ends.{unless_both}

some_bytes : (c : ℕ) (cs : List ℕ) → 1 ≤ byte_len (c ∷ cs)
some_bytes c cs = omega (arith, length-le-encodes (c ∷ cs))

-- ---- a text that is filled from the start of another

-- a CR at its end leaves room
abbrev pub IsOpen : List ℕ → Type 0
IsOpen text = (byte_len text < 984) ⊎ (ends_with_cr text ≡ false)

no_bytes : (t : List ℕ) → byte_len t ≤ 0 → t ≡ []
no_bytes [] h = refl
no_bytes (c ∷ cs) h = absurd (omega (arith, h, some_bytes c cs))

after_none : (text t : List ℕ) → t ≡ [] → IsOpen text → IsOpen (text ++ t)
after_none text t none h = rw (none, append-nil text) h

after_other : (text t : List ℕ) → IsOpen text → ends_with_cr t ≡ false → IsOpen (text ++ t)
after_other text [] h other = after_none text [] refl h
after_other text (c ∷ cs) h other = inr (ends-append text (c ∷ cs) (some_bytes c cs) ∙ other)

module _ (text t rest : List ℕ) (end room : ℕ) (h : IsOpen text) (space : byte_len text + room ≡ 984) (taken : byte_len t ≡ end)
    (cr : (end < room) ⊎ ((end ≡ 0) ⊎ (ends_with_cr t ≡ false))) where
  pub stays_open : IsOpen (text ++ t)
  stays_open = elim cr [
    | inl less ↦ inl (omega (arith, byte_len-append text t, taken, space, less))
    | inr full ↦ elim full [
      | inl none ↦ after_none text t (no_bytes t (omega (arith, taken, none))) h
      | inr other ↦ after_other text t h other
    ]
  ]

  -- if LF follows, there is no room left
  pub no_cut : (starts_with_lf rest ≡ true → end ≡ room) → cuts_cr_lf (text ++ t) rest ≡ false
  no_cut lf = unless_both (ends_with_cr (text ++ t)) (starts_with_lf rest) (λ is_cr is_lf. both is_cr (lf is_lf) stays_open)
    where
      both : ends_with_cr (text ++ t) ≡ true → end ≡ room → IsOpen (text ++ t) → ⊥
      both is_cr full (inl less) = absurd (omega (arith, byte_len-append text t, taken, space, full, less))
      both is_cr full (inr other) = cc

-- ---- leaves before it
pub before_more : (text t : List ℕ) (leaves : List NodeView) → IsCutBefore text leaves → IsCutBefore (text ++ t) leaves
before_more text t leaves h = record {
  nodes = h.nodes;
  cut = h.cut;
  full = h.full;
  whole = λ next. ap (λ s. cuts_cr_lf (concat (all_pieces leaves)) s) (append_assoc text t next) ∙ h.whole (t ++ next);
}

-- one more leaf text
add_piece : (ps : List (List ℕ)) (p : List ℕ) → IsCutting ps → IsPiece p → cuts_cr_lf (concat ps) p ≡ false → IsCutting (ps ++ p ∷ [])
add_piece [] p h piece whole = piece
add_piece (q ∷ []) p h piece whole = (h, ap (λ t. cuts_cr_lf t p) (sym (append-nil q)) ∙ whole, piece)
add_piece (q ∷ r ∷ ps) p h piece whole =
    let rest = rest_piece r ps h.2 in
    let same : cuts_cr_lf (q ++ concat (r ∷ ps)) p ≡ cuts_cr_lf (concat (r ∷ ps)) p = ap (λ b. b && starts_with_lf p) (ends-append q (concat (r ∷ ps)) rest) in
    (h.0, h.1, add_piece (r ∷ ps) p h.2 piece (sym same ∙ whole))
  where
    rest_piece : (s : List ℕ) (qs : List (List ℕ)) → IsCutting (s ∷ qs) → 1 ≤ byte_len (concat (s ∷ qs))
    rest_piece s qs g = omega (arith, (first_piece s qs g).not_empty, byte_len-append s (concat qs))

-- ---- full leaf texts
pub all_full : (ps : List (List ℕ)) → All IsFull ps → AreFull ps
all_full ps h = All-take IsFull (length ps - 1) ps h

last_of_full : (ps : List (List ℕ)) (p : List ℕ) → All IsFull ps → AreFull (ps ++ p ∷ [])
last_of_full ps p h =
    let before : length (ps ++ p ∷ []) - 1 ≡ length ps = omega (arith, length-append ps (p ∷ [])) in
    let front : take (length (ps ++ p ∷ []) - 1) (ps ++ p ∷ []) ≡ ps = ap (λ n. take n (ps ++ p ∷ [])) before ∙ take-append_seam ps (p ∷ []) in
    subst (All IsFull) (sym front) h

-- the text becomes a leaf
module _ (leaves : List NodeView) (v : NodeView) (text : List ℕ) (is : v ≡ leaf_view text) (piece : IsPiece text) (h : IsCutBefore text leaves) where
  leaf_pieces : all_pieces (leaves ++ v ∷ []) ≡ all_pieces leaves ++ text ∷ []
  leaf_pieces = all_pieces-append leaves (v ∷ []) ∙ ap (λ ps. all_pieces leaves ++ ps) (all_pieces-one v ∙ ap (λ w. w.pieces) is)

  pub leaf_text : concat (all_pieces (leaves ++ v ∷ [])) ≡ concat (all_pieces leaves) ++ text
  leaf_text = ap concat leaf_pieces ∙ concat-append (all_pieces leaves) (text ∷ []) ∙ ap (λ t. concat (all_pieces leaves) ++ t) (append-nil text)

  leaf_node : IsNodeOf 0 12 v
  leaf_node = rw is (record { level = refl; full = omega arith; many = omega arith })

  pub leaf_nodes : AreNodes 0 12 (leaves ++ v ∷ [])
  leaf_nodes = All-append (IsNodeOf 0 12) leaves (v ∷ []) h.nodes (All-cons (IsNodeOf 0 12) v [] leaf_node (All-nil (IsNodeOf 0 12)))

  pub leaf_cut : IsCutting (all_pieces (leaves ++ v ∷ []))
  leaf_cut = rw leaf_pieces (add_piece (all_pieces leaves) text h.cut piece (ap (λ t. cuts_cr_lf (concat (all_pieces leaves)) t) (sym (append-nil text)) ∙ h.whole []))

  leaf_is_full : IsFull text → All IsFull (all_pieces (leaves ++ v ∷ []))
  leaf_is_full near = rw leaf_pieces (All-append IsFull (all_pieces leaves) (text ∷ []) h.full (All-cons IsFull text [] near (All-nil IsFull)))

  -- as the last one it may be small
  pub leaf_full : AreFull (all_pieces (leaves ++ v ∷ []))
  leaf_full = rw leaf_pieces (last_of_full (all_pieces leaves) text h.full)

  -- and the start of the following text is next
  pub next_before : (t back : List ℕ) → IsFull text → 1 ≤ byte_len t → cuts_cr_lf text (t ++ back) ≡ false → IsCutBefore t (leaves ++ v ∷ [])
  next_before t back near some seam = record {
    nodes = leaf_nodes;
    cut = leaf_cut;
    full = leaf_is_full near;
    whole = λ next.
        ap (λ s. cuts_cr_lf s (t ++ next)) leaf_text ∙ ap (λ b. b && starts_with_lf (t ++ next)) (ends-append (concat (all_pieces leaves)) text piece.not_empty)
        ∙ ap (λ b. ends_with_cr text && b) (starts-append t next some ∙ sym (starts-append t back some)) ∙ seam;
  }

-- ---- the loop over a text: its leaves, the leaf under construction, and the text that is left
pub record IsFilling (whole left : List ℕ) (text : List ℕ) (leaves : List NodeView) : Type 0 where
  pub before : IsCutBefore text leaves
  pub joined : concat (all_pieces leaves) ++ (text ++ left) ≡ whole
  pub seam : cuts_cr_lf text left ≡ false
  pub near : (left ≡ []) ⊎ IsFull text

pub filling_first : (old text t left : List ℕ) (leaves : List NodeView) → concat (all_pieces leaves) ++ text ≡ old → IsCutBefore text leaves → cuts_cr_lf (text ++ t) left ≡ false
    → (left ≡ []) ⊎ IsFull (text ++ t) → IsFilling (old ++ (t ++ left)) left (text ++ t) leaves
filling_first old text t left leaves is h seam near = record {
  before = before_more text t leaves h;
  joined = ap (λ s. concat (all_pieces leaves) ++ s) (append_assoc text t left) ∙ sym (append_assoc (concat (all_pieces leaves)) text (t ++ left)) ∙ ap (λ s. s ++ (t ++ left)) is;
  seam = seam;
  near = near;
}

full_before : (left text : List ℕ) → (left ≡ []) ⊎ IsFull text → 1 ≤ byte_len left → IsFull text
full_before left text near more = elim near [ inl none ↦ absurd (omega (arith, more, ap byte_len none)) | inr whole ↦ whole ]

pub filling_next : (whole left text t back : List ℕ) (leaves : List NodeView) (v : NodeView) → IsFilling whole left text leaves → v ≡ leaf_view text → IsPiece text → left ≡ t ++ back
    → 1 ≤ byte_len t → cuts_cr_lf t back ≡ false → (back ≡ []) ⊎ IsFull t → IsFilling whole back t (leaves ++ v ∷ [])
filling_next whole left text t back leaves v h is piece parts some seam near = record {
  before = next_before leaves v text is piece h.before t back (full_before left text h.near (omega (arith, some, ap byte_len parts, byte_len-append t back))) some (ap (cuts_cr_lf text) (sym parts) ∙ h.seam);
  joined = ap (λ s. s ++ (t ++ back)) (leaf_text leaves v text is piece h.before) ∙ append_assoc (concat (all_pieces leaves)) text (t ++ back) ∙ ap (λ s. concat (all_pieces leaves) ++ (text ++ s)) (sym parts) ∙ h.joined;
  seam = seam;
  near = near;
}

pub filling_last : (whole left text : List ℕ) (leaves : List NodeView) → IsFilling whole left text leaves → left ≡ [] → concat (all_pieces leaves) ++ text ≡ whole
filling_last whole left text leaves h none = ap (λ s. concat (all_pieces leaves) ++ s) (sym (append-nil text) ∙ ap (λ s. text ++ s) (sym none)) ∙ h.joined

-- ---- the bytes of a text that is filled
pub record IsFilled (old text : List ℕ) (end : ℕ) : Type 0 where
  pub text_is : chars (old ++ take end text) ≡ chars old ++ chars (take end text)
  pub stays : (length (old ++ take end text) < 984) ⊎ (ends_with_cr (chars (old ++ take end text)) ≡ false)
  pub whole : cuts_cr_lf (chars (old ++ take end text)) (chars (drop end text)) ≡ false
  pub bytes : byte_len (chars (old ++ take end text)) ≡ length old + end

pub is_filled : (old text : List ℕ) (end room : ℕ) → IsUtf8 old → IsUtf8 text → IsCharBoundary text end → end ≤ length text
    → (length old < 984) ⊎ (ends_with_cr (chars old) ≡ false) → room + length old ≡ 984 → (end < room) ⊎ ((end ≡ 0) ⊎ (ends_with_cr (chars (take end text)) ≡ false))
    → (starts_with_lf (chars (drop end text)) ≡ true → end ≡ room) → IsFilled old text end
is_filled old text end room u v boundary within h space cr lf =
    let old_len : byte_len (chars old) ≡ length old = ap length (encodes-chars old u) in
    let front = IsUtf8-take text end v boundary in
    let taken : byte_len (chars (take end text)) ≡ end = ap length (encodes-chars (take end text) front) ∙ length-take-le end text within in
    let text_is = chars-append old (take end text) u in
    let is_open : IsOpen (chars old) = elim h [ inl less ↦ inl (omega (arith, less, old_len)) | inr other ↦ inr other ] in
    let room_is : byte_len (chars old) + room ≡ 984 = omega (arith, space, old_len) in
    let bytes : byte_len (chars (old ++ take end text)) ≡ length old + end = ap byte_len text_is ∙ byte_len-append (chars old) (chars (take end text)) ∙ omega (arith, old_len, taken) in
    let len : length (old ++ take end text) ≡ length old + end = length-append old (take end text) ∙ omega (arith, length-take-le end text within) in
    let open_after = stays_open (chars old) (chars (take end text)) (chars (drop end text)) end room is_open room_is taken cr in
    record {
      text_is = text_is;
      stays = elim open_after [
        | inl less ↦ inl (omega (arith, less, len, bytes, ap byte_len text_is))
        | inr other ↦ inr (ap ends_with_cr text_is ∙ other)
      ];
      whole = ap (λ t. cuts_cr_lf t (chars (drop end text))) text_is ∙ no_cut (chars old) (chars (take end text)) (chars (drop end text)) end room is_open room_is taken cr lf;
      bytes = bytes;
    }

-- ---- the loop over the bytes of a text
nothing_left : (text : List ℕ) (end : ℕ) → end ≡ length text → chars (drop end text) ≡ []
nothing_left text end is = ap chars (drop_of_length-le text (omega (arith, is))) ∙ chars-nil

left_or_full : (text rest : List ℕ) (end : ℕ) → (end ≡ length text) ⊎ (980 ≤ byte_len rest) → (chars (drop end text) ≡ []) ⊎ IsFull rest
left_or_full text rest end full = elim full [ inl all ↦ inl (nothing_left text end all) | inr near ↦ inr near ]

front_bytes : (text : List ℕ) (end : ℕ) → IsUtf8 text → IsCharBoundary text end → end ≤ length text → byte_len (chars (take end text)) ≡ end
front_bytes text end u boundary within = ap length (encodes-chars (take end text) (IsUtf8-take text end u boundary)) ∙ length-take-le end text within

both_parts : (text : List ℕ) (end : ℕ) → IsUtf8 text → IsCharBoundary text end → chars text ≡ chars (take end text) ++ chars (drop end text)
both_parts text end u boundary = ap chars (sym (take-append-drop end text)) ∙ chars-append (take end text) (drop end text) (IsUtf8-take text end u boundary)

pub filling_starts : (leaves made : List NodeView) (old rest text : List ℕ) (end : ℕ) → made ≡ [] → IsUtf8 text → IsCharBoundary text end → IsCutBefore old leaves → rest ≡ old ++ chars (take end text)
    → cuts_cr_lf rest (chars (drop end text)) ≡ false → (end ≡ length text) ⊎ (980 ≤ byte_len rest) → IsFilling ((concat (all_pieces leaves) ++ old) ++ chars text) (chars (drop end text)) rest (leaves ++ made)
filling_starts leaves made old rest text end none u boundary h is seam full =
    let near = left_or_full text rest end full in
    let first = filling_first (concat (all_pieces leaves) ++ old) old (chars (take end text)) (chars (drop end text)) leaves refl h (rw is at seam) (rw is at near) in
    rw (none, append-nil leaves, is, both_parts text end u boundary) first

pub filling_some : (whole left rest : List ℕ) (leaves : List NodeView) → IsFilling whole (chars left) rest leaves → IsUtf8 left → 1 ≤ length left → 1 ≤ byte_len rest
filling_some whole left rest leaves h u more = elim h.near [
  | inl none ↦ absurd (omega (arith, more, ap length (encodes-chars left u), ap byte_len none))
  | inr full ↦ omega (arith, full)
]

pub filled_some : (left rest : List ℕ) (end : ℕ) → IsUtf8 left → IsCharBoundary left end → end ≤ length left → 1 ≤ length left → rest ≡ chars (take end left) → (end ≡ length left) ⊎ (980 ≤ byte_len rest) → 1 ≤ end
filled_some left rest end u boundary within more is full = elim full [
  | inl all ↦ omega (arith, all, more)
  | inr near ↦ omega (arith, near, ap byte_len is, front_bytes left end u boundary within)
]

pub filling_goes_on : (whole left rest next : List ℕ) (leaves made : List NodeView) (v : NodeView) (end : ℕ) → IsFilling whole (chars left) rest (leaves ++ made) → IsUtf8 left → IsCharBoundary left end
    → end ≤ length left → 1 ≤ length left → v ≡ leaf_view rest → IsPiece rest → next ≡ chars (take end left) → cuts_cr_lf next (chars (drop end left)) ≡ false
    → (end ≡ length left) ⊎ (980 ≤ byte_len next) → IsFilling whole (chars (drop end left)) next (leaves ++ (made ++ v ∷ []))
filling_goes_on whole left rest next leaves made v end h u boundary within more is piece next_is seam full =
    let some : 1 ≤ byte_len next = omega (arith, filled_some left next end u boundary within more next_is full, ap byte_len next_is, front_bytes left end u boundary within) in
    let parts : chars left ≡ next ++ chars (drop end left) = both_parts left end u boundary ∙ ap (λ t. t ++ chars (drop end left)) (sym next_is) in
    rw (sym (append_assoc leaves made (v ∷ []))) (filling_next whole (chars left) rest next (chars (drop end left)) (leaves ++ made) v h is piece parts some seam (left_or_full left next end full))

pub no_chars : (left : List ℕ) → length left ≡ 0 → chars left ≡ []
no_chars [] h = chars-nil
no_chars (b ∷ bs) h = absurd (omega (arith, h))

-- ---- the last leaf
pub no_rest : (leaves : List NodeView) (rest : List ℕ) → byte_len rest ≤ 0 → concat (all_pieces leaves) ≡ concat (all_pieces leaves) ++ rest
no_rest leaves rest none = sym (append-nil (concat (all_pieces leaves))) ∙ ap (λ t. concat (all_pieces leaves) ++ t) (sym (no_bytes rest none))
