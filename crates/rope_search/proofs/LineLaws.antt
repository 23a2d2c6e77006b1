-- The lines of commands: whether bytes are one, and of which command.
use Rattle.std.proofs.Common.{◌≡◌, ℕ, ◌≤◌, ◌⊎◌, List, [], ◌∷◌, ◌++◌, length, get_or, replicate, codes, refl, sym, ap, ◌∙◌, subst, inl, inr, arith}
use Rattle.std.proofs.lemmas.Bool.{cases_eq}
use Rattle.std.proofs.lemmas.List.{length-replicate, append_cancel_left}
use Rattle.rope_search_reports.specs.declared.positions.Position.{Position}
use Rattle.rope_search.specs.Order.{Order, SetText, EditText, UndoEdit, RedoEdit, PrintText, ForkBuffer, SetPattern, DropPattern, ListMatches, FindNext, ReplaceAll, UseBuffer}
use Rattle.rope_search.specs.Reads.{AreSpelled, IsWorded, payload_of, IsLine, HasNoLf}
use Rattle.rope_search.proofs.NumberLaws.{spelled_choice, AreSpelled-one, HasNoLf-append, HasNoLf-spelled, length-spelled_le}

-- ---- whether a line is a command's

-- two lists of numbers are the same or not
pub list_choice : (a b : List ℕ) → (a ≡ b) ⊎ (a ≡ b → ⊥)
list_choice [] [] = inl refl
list_choice [] (y ∷ ys) = inr (λ e. cc)
list_choice (x ∷ xs) [] = inr (λ e. cc)
list_choice (x ∷ xs) (y ∷ ys) = elim (cases_eq x y) [
  | inr other ↦ inr (λ e. let head : x ≡ y = cc in other head)
  | inl head ↦ elim (list_choice xs ys) [
    | inl tail ↦ inl (cc)
    | inr other ↦ inr (λ e. let tail : xs ≡ ys = cc in other tail)
  ]
]

-- a line begins with a word or not
pub front_choice : (word line : List ℕ) → ((rest : List ℕ) × (line ≡ word ++ rest)) ⊎ ((rest : List ℕ) → line ≡ word ++ rest → ⊥)
front_choice [] line = inl (line, refl)
front_choice (x ∷ xs) [] = inr (λ rest e. cc)
front_choice (x ∷ xs) (y ∷ ys) = elim (cases_eq x y) [
  | inr other ↦ inr (λ rest e. let head : x ≡ y = cc in other head)
  | inl head ↦ elim (front_choice xs ys) [
    | inl tail ↦ inl (tail.0, (let whole : ys ≡ xs ++ tail.0 = tail.1 in cc))
    | inr other ↦ inr (λ rest e. let tail : ys ≡ xs ++ rest = cc in other rest tail)
  ]
]

-- a line is a word and then numbers, or not
pub worded_choice : (word line : List ℕ) → ((ns : List ℕ) × IsWorded word line ns) ⊎ ((ns : List ℕ) → IsWorded word line ns → ⊥)
worded_choice word line = elim (front_choice word line) [
  | inr other ↦ inr (λ ns h. other h.0 h.2)
  | inl begins ↦ elim (spelled_choice begins.0) [
    | inl spelled ↦ inl (spelled.0, (begins.0, spelled.1, begins.1))
    | inr none ↦ inr (λ ns h. none ns (subst (AreSpelled ns) (append_cancel_left word h.0 begins.0 (sym h.2 ∙ begins.1)) h.1))
  ]
]

-- after one word one line has one list of numbers
pub IsWorded-one : (word line ms ns : List ℕ) → IsWorded word line ms → IsWorded word line ns → ms ≡ ns
IsWorded-one word line ms ns one other =
    AreSpelled-one ms ns one.0 one.1 (subst (AreSpelled ns) (append_cancel_left word other.0 one.0 (sym other.2 ∙ one.2)) other.1)

-- a line is a word and then one number, or not
pub one_choice : (word line : List ℕ) → ((n : ℕ) × IsWorded word line (n ∷ [])) ⊎ ((n : ℕ) → IsWorded word line (n ∷ []) → ⊥)
one_choice word line = elim (worded_choice word line) [ inr none ↦ inr (λ n. none (n ∷ [])) | inl some ↦ told some.0 some.1 ]
  where
    told : (ns : List ℕ) → IsWorded word line ns → ((n : ℕ) × IsWorded word line (n ∷ [])) ⊎ ((n : ℕ) → IsWorded word line (n ∷ []) → ⊥)
    told [] h = inr (λ n other. let e : [] ≡ n ∷ [] = IsWorded-one word line [] (n ∷ []) h other in cc)
    told (m ∷ []) h = inl (m, h)
    told (m ∷ k ∷ ms) h = inr (λ n other. let e : m ∷ k ∷ ms ≡ n ∷ [] = IsWorded-one word line (m ∷ k ∷ ms) (n ∷ []) h other in cc)

-- the numbers of an edit
abbrev pub five : ℕ → ℕ → ℕ → ℕ → ℕ → List ℕ
five a b c d n = a ∷ b ∷ c ∷ d ∷ n ∷ []

-- a line is a word and then five numbers, or not
pub five_choice : (word line : List ℕ) → ((a b c d n : ℕ) × IsWorded word line (five a b c d n)) ⊎ ((a b c d n : ℕ) → IsWorded word line (five a b c d n) → ⊥)
five_choice word line = elim (worded_choice word line) [ inr none ↦ inr (λ a b c d n. none (five a b c d n)) | inl some ↦ told some.0 some.1 ]
  where
    counted : (ns : List ℕ) → (length ns ≡ 5 → ⊥) → IsWorded word line ns → (a b c d n : ℕ) → IsWorded word line (five a b c d n) → ⊥
    counted ns other h a b c d n worded = other (ap length (IsWorded-one word line ns (five a b c d n) h worded))

    told : (ns : List ℕ) → IsWorded word line ns → ((a b c d n : ℕ) × IsWorded word line (five a b c d n)) ⊎ ((a b c d n : ℕ) → IsWorded word line (five a b c d n) → ⊥)
    told (a ∷ b ∷ c ∷ d ∷ n ∷ []) h = inl (a, b, c, d, n, h)
    told (a ∷ b ∷ c ∷ d ∷ n ∷ m ∷ ns) h = inr (counted (a ∷ b ∷ c ∷ d ∷ n ∷ m ∷ ns) (λ e. omega arith) h)
    told (a ∷ b ∷ c ∷ d ∷ []) h = inr (counted (a ∷ b ∷ c ∷ d ∷ []) (λ e. omega arith) h)
    told (a ∷ b ∷ c ∷ []) h = inr (counted (a ∷ b ∷ c ∷ []) (λ e. omega arith) h)
    told (a ∷ b ∷ []) h = inr (counted (a ∷ b ∷ []) (λ e. omega arith) h)
    told (a ∷ []) h = inr (counted (a ∷ []) (λ e. omega arith) h)
    told [] h = inr (counted [] (λ e. omega arith) h)

-- a line is a word and then two numbers, or not
pub two_choice : (word line : List ℕ) → ((a b : ℕ) × IsWorded word line (a ∷ b ∷ [])) ⊎ ((a b : ℕ) → IsWorded word line (a ∷ b ∷ []) → ⊥)
two_choice word line = elim (worded_choice word line) [ inr none ↦ inr (λ a b. none (a ∷ b ∷ [])) | inl some ↦ told some.0 some.1 ]
  where
    counted : (ns : List ℕ) → (length ns ≡ 2 → ⊥) → IsWorded word line ns → (a b : ℕ) → IsWorded word line (a ∷ b ∷ []) → ⊥
    counted ns other h a b worded = other (ap length (IsWorded-one word line ns (a ∷ b ∷ []) h worded))

    told : (ns : List ℕ) → IsWorded word line ns → ((a b : ℕ) × IsWorded word line (a ∷ b ∷ [])) ⊎ ((a b : ℕ) → IsWorded word line (a ∷ b ∷ []) → ⊥)
    told (a ∷ b ∷ []) h = inl (a, b, h)
    told (a ∷ b ∷ c ∷ ns) h = inr (counted (a ∷ b ∷ c ∷ ns) (λ e. omega arith) h)
    told (a ∷ []) h = inr (counted (a ∷ []) (λ e. omega arith) h)
    told [] h = inr (counted [] (λ e. omega arith) h)

-- a line that isn't one with the word of any command is no command's
pub record IsNoLine (line : List ℕ) : Type 0 where
  pub no_text : (n : ℕ) → IsWorded (codes "text") line (n ∷ []) → ⊥
  pub no_edit : (a b c d n : ℕ) → IsWorded (codes "edit") line (five a b c d n) → ⊥
  pub no_undo : line ≡ codes "undo" → ⊥
  pub no_redo : line ≡ codes "redo" → ⊥
  pub no_print : line ≡ codes "print" → ⊥
  pub no_fork : line ≡ codes "fork" → ⊥
  pub no_pattern : (n : ℕ) → IsWorded (codes "pattern") line (n ∷ []) → ⊥
  pub no_off : line ≡ codes "off" → ⊥
  pub no_list : line ≡ codes "list" → ⊥
  pub no_next : (a b : ℕ) → IsWorded (codes "next") line (a ∷ b ∷ []) → ⊥
  pub no_replace : (n : ℕ) → IsWorded (codes "replace") line (n ∷ []) → ⊥
  pub no_use : (n : ℕ) → IsWorded (codes "use") line (n ∷ []) → ⊥

pub no_line : (line : List ℕ) → IsNoLine line → (o : Order) → IsLine o line → ⊥
no_line line none (SetText payload) h = none.no_text (length payload) h
no_line line none (EditText from to payload) h = none.no_edit from.line from.column to.line to.column (length payload) h
no_line line none UndoEdit h = none.no_undo h
no_line line none RedoEdit h = none.no_redo h
no_line line none PrintText h = none.no_print h
no_line line none ForkBuffer h = none.no_fork h
no_line line none (SetPattern payload) h = none.no_pattern (length payload) h
no_line line none DropPattern h = none.no_off h
no_line line none ListMatches h = none.no_list h
no_line line none (FindNext from) h = none.no_next from.line from.column h
no_line line none (ReplaceAll payload) h = none.no_replace (length payload) h
no_line line none (UseBuffer k) h = none.no_use k h

-- a payload with this number of bytes
abbrev bytes_for : ℕ → List ℕ
bytes_for n = replicate n 0

as_long : (word line : List ℕ) (before : List ℕ) (n : ℕ) → IsWorded word line (before ++ n ∷ []) → IsWorded word line (before ++ length (bytes_for n) ∷ [])
as_long word line before n h = subst (λ m. IsWorded word line (before ++ m ∷ [])) (sym (length-replicate n 0)) h

-- a line is a command's or none's
pub line_choice : (line : List ℕ) → ((o : Order) × IsLine o line) ⊎ ((o : Order) → IsLine o line → ⊥)
line_choice line = elim (one_choice (codes "text") line) [
  | inl text ↦ inl (SetText (bytes_for text.0), as_long (codes "text") line [] text.0 text.1)
  | inr no_text ↦ elim (five_choice (codes "edit") line) [
    | inl edit ↦
        let from : Position = record { line = edit.0; column = edit.1 } in
        let to : Position = record { line = edit.2; column = edit.3 } in
        inl (EditText from to (bytes_for edit.4), as_long (codes "edit") line (edit.0 ∷ edit.1 ∷ edit.2 ∷ edit.3 ∷ []) edit.4 edit.5)
    | inr no_edit ↦ elim (one_choice (codes "pattern") line) [
      | inl pattern ↦ inl (SetPattern (bytes_for pattern.0), as_long (codes "pattern") line [] pattern.0 pattern.1)
      | inr no_pattern ↦ elim (two_choice (codes "next") line) [
        | inl next ↦ inl (FindNext (record { line = next.0; column = next.1 }), next.2)
        | inr no_next ↦ elim (one_choice (codes "replace") line) [
          | inl template ↦ inl (ReplaceAll (bytes_for template.0), as_long (codes "replace") line [] template.0 template.1)
          | inr no_replace ↦ elim (one_choice (codes "use") line) [
            | inl chosen ↦ inl (UseBuffer chosen.0, chosen.1)
            | inr no_use ↦ plain_choice no_text no_edit no_pattern no_next no_replace no_use
          ]
        ]
      ]
    ]
  ]
]
  where
    plain_choice : ((n : ℕ) → IsWorded (codes "text") line (n ∷ []) → ⊥) → ((a b c d n : ℕ) → IsWorded (codes "edit") line (five a b c d n) → ⊥)
        → ((n : ℕ) → IsWorded (codes "pattern") line (n ∷ []) → ⊥) → ((a b : ℕ) → IsWorded (codes "next") line (a ∷ b ∷ []) → ⊥)
        → ((n : ℕ) → IsWorded (codes "replace") line (n ∷ []) → ⊥) → ((n : ℕ) → IsWorded (codes "use") line (n ∷ []) → ⊥)
        → ((o : Order) × IsLine o line) ⊎ ((o : Order) → IsLine o line → ⊥)
    plain_choice no_text no_edit no_pattern no_next no_replace no_use = elim (list_choice line (codes "undo")) [
      | inl undo ↦ inl (UndoEdit, undo)
      | inr no_undo ↦ elim (list_choice line (codes "redo")) [
        | inl redo ↦ inl (RedoEdit, redo)
        | inr no_redo ↦ elim (list_choice line (codes "print")) [
          | inl print ↦ inl (PrintText, print)
          | inr no_print ↦ elim (list_choice line (codes "fork")) [
            | inl fork ↦ inl (ForkBuffer, fork)
            | inr no_fork ↦ elim (list_choice line (codes "off")) [
              | inl off ↦ inl (DropPattern, off)
              | inr no_off ↦ elim (list_choice line (codes "list")) [
                | inl list ↦ inl (ListMatches, list)
                | inr no_list ↦ inr (no_line line (record {
                  no_text = no_text;
                  no_edit = no_edit;
                  no_undo = no_undo;
                  no_redo = no_redo;
                  no_print = no_print;
                  no_fork = no_fork;
                  no_pattern = no_pattern;
                  no_off = no_off;
                  no_list = no_list;
                  no_next = no_next;
                  no_replace = no_replace;
                  no_use = no_use;
                }))
              ]
            ]
          ]
        ]
      ]
    ]

-- ---- a line is one command's, except for the payload

-- the first and the third byte of a command's line, in which all words differ
abbrev pub first_byte : Order → ℕ
first_byte (SetText payload) = 116
first_byte (EditText from to payload) = 101
first_byte UndoEdit = 117
first_byte RedoEdit = 114
first_byte PrintText = 112
first_byte ForkBuffer = 102
first_byte (SetPattern payload) = 112
first_byte DropPattern = 111
first_byte ListMatches = 108
first_byte (FindNext from) = 110
first_byte (ReplaceAll payload) = 114
first_byte (UseBuffer k) = 117

abbrev pub third_byte : Order → ℕ
third_byte (SetText payload) = 120
third_byte (EditText from to payload) = 105
third_byte UndoEdit = 100
third_byte RedoEdit = 100
third_byte PrintText = 105
third_byte ForkBuffer = 114
third_byte (SetPattern payload) = 116
third_byte DropPattern = 102
third_byte ListMatches = 115
third_byte (FindNext from) = 120
third_byte (ReplaceAll payload) = 112
third_byte (UseBuffer k) = 101

pub IsLine-first : (o : Order) (line : List ℕ) → IsLine o line → get_or line 0 0 ≡ first_byte o
IsLine-first (SetText payload) line h = ap (λ l. get_or l 0 0) h.2
IsLine-first (EditText from to payload) line h = ap (λ l. get_or l 0 0) h.2
IsLine-first (SetPattern payload) line h = ap (λ l. get_or l 0 0) h.2
IsLine-first (FindNext from) line h = ap (λ l. get_or l 0 0) h.2
IsLine-first (ReplaceAll payload) line h = ap (λ l. get_or l 0 0) h.2
IsLine-first (UseBuffer k) line h = ap (λ l. get_or l 0 0) h.2
IsLine-first o line h = ap (λ l. get_or l 0 0) h

pub IsLine-third : (o : Order) (line : List ℕ) → IsLine o line → get_or line 2 0 ≡ third_byte o
IsLine-third (SetText payload) line h = ap (λ l. get_or l 2 0) h.2
IsLine-third (EditText from to payload) line h = ap (λ l. get_or l 2 0) h.2
IsLine-third (SetPattern payload) line h = ap (λ l. get_or l 2 0) h.2
IsLine-third (FindNext from) line h = ap (λ l. get_or l 2 0) h.2
IsLine-third (ReplaceAll payload) line h = ap (λ l. get_or l 2 0) h.2
IsLine-third (UseBuffer k) line h = ap (λ l. get_or l 2 0) h.2
IsLine-third o line h = ap (λ l. get_or l 2 0) h

-- one number after a word is determined, and so are five
pub one_told : (word line : List ℕ) (m n : ℕ) → IsWorded word line (m ∷ []) → IsWorded word line (n ∷ []) → m ≡ n
one_told word line m n one other = let e : m ∷ [] ≡ n ∷ [] = IsWorded-one word line (m ∷ []) (n ∷ []) one other in cc

pub length_told : (line : List ℕ) (a b c d n a' b' c' d' n' : ℕ) → IsWorded (codes "edit") line (five a b c d n) → IsWorded (codes "edit") line (five a' b' c' d' n') → n ≡ n'
length_told line a b c d n a' b' c' d' n' one other =
    let e : five a b c d n ≡ five a' b' c' d' n' = IsWorded-one (codes "edit") line (five a b c d n) (five a' b' c' d' n') one other in cc

-- two positions with one line and one column are the same
pub positions_same : (p q : Position) → p.line ≡ q.line → p.column ≡ q.column → p ≡ q
positions_same p q lines columns =
    ap (λ (l : ℕ). record { line = l; column = p.column }) lines ∙ ap (λ (c : ℕ). record { line = q.line; column = c }) columns

positions_told : (line : List ℕ) (from to start end : Position) (n m : ℕ) → IsWorded (codes "edit") line (five from.line from.column to.line to.column n)
    → IsWorded (codes "edit") line (five start.line start.column end.line end.column m) → (from ≡ start) × (to ≡ end)
positions_told line from to start end n m one other =
    let ms = five from.line from.column to.line to.column n in
    let ns = five start.line start.column end.line end.column m in
    let e : ms ≡ ns = IsWorded-one (codes "edit") line ms ns one other in
    let a : from.line ≡ start.line = cc in
    let b : from.column ≡ start.column = cc in
    let c : to.line ≡ end.line = cc in
    let d : to.column ≡ end.column = cc in
    (positions_same from start a b, positions_same to end c d)

position_told : (line : List ℕ) (from start : Position) → IsWorded (codes "next") line (from.line ∷ from.column ∷ [])
    → IsWorded (codes "next") line (start.line ∷ start.column ∷ []) → from ≡ start
position_told line from start one other =
    let ms : List ℕ = from.line ∷ from.column ∷ [] in
    let ns : List ℕ = start.line ∷ start.column ∷ [] in
    let e : ms ≡ ns = IsWorded-one (codes "next") line ms ns one other in
    let a : from.line ≡ start.line = cc in
    let b : from.column ≡ start.column = cc in
    positions_same from start a b

-- two commands with one line have payloads of one length
pub IsLine-one : (o p : Order) (line : List ℕ) → IsLine o line → IsLine p line → length (payload_of o) ≡ length (payload_of p)
IsLine-one (SetText payload) (SetText payload') line one other = one_told (codes "text") line (length payload) (length payload') one other
IsLine-one (EditText from to payload) (EditText start end payload') line one other =
    length_told line from.line from.column to.line to.column (length payload) start.line start.column end.line end.column (length payload') one other
IsLine-one UndoEdit UndoEdit line one other = refl
IsLine-one RedoEdit RedoEdit line one other = refl
IsLine-one PrintText PrintText line one other = refl
IsLine-one ForkBuffer ForkBuffer line one other = refl
IsLine-one (SetPattern payload) (SetPattern payload') line one other = one_told (codes "pattern") line (length payload) (length payload') one other
IsLine-one DropPattern DropPattern line one other = refl
IsLine-one ListMatches ListMatches line one other = refl
IsLine-one (FindNext from) (FindNext start) line one other = refl
IsLine-one (ReplaceAll payload) (ReplaceAll payload') line one other = one_told (codes "replace") line (length payload) (length payload') one other
IsLine-one (UseBuffer k) (UseBuffer j) line one other = refl
IsLine-one o p line one other = absurd (omega (arith, IsLine-first o line one, IsLine-first p line other, IsLine-third o line one, IsLine-third p line other))

-- two commands with one line and one payload are the same
pub IsLine-same : (o p : Order) (line : List ℕ) → IsLine o line → IsLine p line → payload_of o ≡ payload_of p → o ≡ p
IsLine-same (SetText payload) (SetText payload') line one other same = ap SetText same
IsLine-same (EditText from to payload) (EditText start end payload') line one other same =
    let told = positions_told line from to start end (length payload) (length payload') one other in
    let starts : from ≡ start = told.0 in
    let ends : to ≡ end = told.1 in
    cc
IsLine-same UndoEdit UndoEdit line one other same = refl
IsLine-same RedoEdit RedoEdit line one other same = refl
IsLine-same PrintText PrintText line one other same = refl
IsLine-same ForkBuffer ForkBuffer line one other same = refl
IsLine-same (SetPattern payload) (SetPattern payload') line one other same = ap SetPattern same
IsLine-same DropPattern DropPattern line one other same = refl
IsLine-same ListMatches ListMatches line one other same = refl
IsLine-same (FindNext from) (FindNext start) line one other same = ap FindNext (position_told line from start one other)
IsLine-same (ReplaceAll payload) (ReplaceAll payload') line one other same = ap ReplaceAll same
IsLine-same (UseBuffer k) (UseBuffer j) line one other same = ap UseBuffer (one_told (codes "use") line k j one other)
IsLine-same o p line one other same = absurd (omega (arith, IsLine-first o line one, IsLine-first p line other, IsLine-third o line one, IsLine-third p line other))

-- ---- a command's line has no LF, and at most 109 bytes

HasNoLf-worded : (word line ns : List ℕ) → HasNoLf word → IsWorded word line ns → HasNoLf line
HasNoLf-worded word line ns clean h = subst HasNoLf (sym h.2) (HasNoLf-append word h.0 clean (HasNoLf-spelled ns h.0 h.1))

pub HasNoLf-line : (o : Order) (line : List ℕ) → IsLine o line → HasNoLf line
HasNoLf-line (SetText payload) line h = HasNoLf-worded (codes "text") line (length payload ∷ []) (omega arith) h
HasNoLf-line (EditText from to payload) line h = HasNoLf-worded (codes "edit") line (five from.line from.column to.line to.column (length payload)) (omega arith) h
HasNoLf-line (SetPattern payload) line h = HasNoLf-worded (codes "pattern") line (length payload ∷ []) (omega arith) h
HasNoLf-line (FindNext from) line h = HasNoLf-worded (codes "next") line (from.line ∷ from.column ∷ []) (omega arith) h
HasNoLf-line (ReplaceAll payload) line h = HasNoLf-worded (codes "replace") line (length payload ∷ []) (omega arith) h
HasNoLf-line (UseBuffer k) line h = HasNoLf-worded (codes "use") line (k ∷ []) (omega arith) h
HasNoLf-line o line h = subst HasNoLf (sym h) (omega arith)

pub length-line_le : (o : Order) (line : List ℕ) → IsLine o line → length line ≤ 109
length-line_le (SetText payload) line h = omega (arith, ap length h.2, length-spelled_le (length payload ∷ []) h.0 h.1)
length-line_le (EditText from to payload) line h =
    omega (arith, ap length h.2, length-spelled_le (five from.line from.column to.line to.column (length payload)) h.0 h.1)
length-line_le (SetPattern payload) line h = omega (arith, ap length h.2, length-spelled_le (length payload ∷ []) h.0 h.1)
length-line_le (FindNext from) line h = omega (arith, ap length h.2, length-spelled_le (from.line ∷ from.column ∷ []) h.0 h.1)
length-line_le (ReplaceAll payload) line h = omega (arith, ap length h.2, length-spelled_le (length payload ∷ []) h.0 h.1)
length-line_le (UseBuffer k) line h = omega (arith, ap length h.2, length-spelled_le (k ∷ []) h.0 h.1)
length-line_le o line h = omega (arith, ap length h)
