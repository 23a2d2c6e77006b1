-- Each input is read in exactly one way: as these commands, followed by this ending.
use Rattle.std.proofs.Common.{◌≡◌, ◌≢◌, ℕ, zero, suc, ◌<◌, ◌≤◌, ◌⊎◌, List, [], ◌∷◌, ◌++◌, length, take, drop, refl, sym, ap, ◌∙◌, subst, inl, inr, append_assoc, append-nil, length-append, take-append-drop, codes, arith}
use Rattle.std.proofs.Math.Seq.{take-append_seam, drop-append_seam}
use Rattle.std.proofs.lemmas.Bool.{cases_lt, cases_eq}
use Rattle.std.proofs.lemmas.List.{length-take-le}
use Rattle.rope_search.specs.declared.endings.Ended.{Ended}
use Rattle.rope_search.specs.declared.endings.Ended.TheVariants.{Input, Command, Cut}
use Rattle.rope_search.specs.Order.{Order, SetText, EditText, SetPattern, ReplaceAll}
use Rattle.rope_search.specs.Reads.{IsWorded, payload_of, IsLine, SpellsOrder, SpellAll, HasNoLf, Ends, Reads}
use Rattle.rope_search.proofs.LineLaws.{line_choice, IsLine-one, IsLine-same, HasNoLf-line, length-line_le}

-- ---- splitting at the first LF

-- two lines before the first LF are the same, and so is what follows
pub cut_one : (a b x y : List ℕ) → HasNoLf a → HasNoLf b → a ++ 10 ∷ x ≡ b ++ 10 ∷ y → (a ≡ b) × (x ≡ y)
cut_one [] [] x y clean clean' whole = (refl, cc)
cut_one [] (c ∷ b) x y clean clean' whole = let head : c ≡ 10 = cc in absurd (clean'.0 head)
cut_one (c ∷ a) [] x y clean clean' whole = let head : c ≡ 10 = cc in absurd (clean.0 head)
cut_one (c ∷ a) (d ∷ b) x y clean clean' whole =
    let tails : a ++ 10 ∷ x ≡ b ++ 10 ∷ y = cc in
    let others = cut_one a b x y clean.1 clean'.1 tails in
    let same : a ≡ b = others.0 in
    ((cc), others.1)

-- if a line is longer than the text before an LF, the line contains that LF
pub cut_short : (a b x y : List ℕ) → HasNoLf b → length a < length b → a ++ 10 ∷ x ≡ b ++ y → ⊥
cut_short a [] x y clean longer whole = omega arith
cut_short [] (d ∷ b) x y clean longer whole = let head : d ≡ 10 = cc in clean.0 head
cut_short (c ∷ a) (d ∷ b) x y clean longer whole = let tails : a ++ 10 ∷ x ≡ b ++ y = cc in cut_short a b x y clean.1 (omega arith) tails

-- without an LF there is no split
pub cut_none : (a b x : List ℕ) → HasNoLf b → b ≡ a ++ 10 ∷ x → ⊥
cut_none a b x clean whole =
    cut_short a b x [] clean (omega (arith, ap length whole, length-append a (10 ∷ x))) (sym whole ∙ sym (append-nil b))

-- two prefixes of one length are the same, and so is what follows
pub fronts_same : (a b x y : List ℕ) → length a ≡ length b → a ++ x ≡ b ++ y → (a ≡ b) × (x ≡ y)
fronts_same a b x y same whole = (
  sym (take-append_seam a x) ∙ ap (take (length a)) whole ∙ ap (λ n. take n (b ++ y)) same ∙ take-append_seam b y,
  sym (drop-append_seam a x) ∙ ap (drop (length a)) whole ∙ ap (λ n. drop n (b ++ y)) same ∙ drop-append_seam b y,
)

-- ---- the first line of some bytes

-- bytes begin with a line and its LF, and the line has fewer than `n` bytes
pub record BeginsWithLine (n : ℕ) (bytes : List ℕ) : Type 0 where
  pub line : List ℕ
  pub more : List ℕ
  pub no_lf : HasNoLf line
  pub short : length line < n
  pub whole : bytes ≡ line ++ 10 ∷ more

-- bytes begin with `n` bytes without an LF
pub record BeginsWithout (n : ℕ) (bytes : List ℕ) : Type 0 where
  pub line : List ℕ
  pub more : List ℕ
  pub no_lf : HasNoLf line
  pub long : length line ≡ n
  pub whole : bytes ≡ line ++ more

-- there are fewer than `n` bytes, and none is an LF
pub record IsWithout (n : ℕ) (bytes : List ℕ) : Type 0 where
  pub no_lf : HasNoLf bytes
  pub short : length bytes < n

-- an input has a first LF among its first `n` bytes, or none
pub cut_choice : (n : ℕ) (bytes : List ℕ) → BeginsWithLine n bytes ⊎ BeginsWithout n bytes ⊎ IsWithout n bytes
cut_choice zero bytes = inr (inl (record { line = []; more = bytes; no_lf = tt; long = refl; whole = refl }))
cut_choice (suc n) [] = inr (inr (record { no_lf = tt; short = omega arith }))
cut_choice (suc n) (b ∷ bytes) = elim (cases_eq b 10) [
  | inl lf ↦ inl (record { line = []; more = bytes; no_lf = tt; short = omega arith; whole = ap (λ c. c ∷ bytes) lf })
  | inr other ↦ elim (cut_choice n bytes) [
    | inl cut ↦ inl (record { line = b ∷ cut.line; more = cut.more; no_lf = (other, cut.no_lf); short = omega (arith, cut.short); whole = ap (λ l. b ∷ l) cut.whole })
    | inr (inl long) ↦ inr (inl (record { line = b ∷ long.line; more = long.more; no_lf = (other, long.no_lf); long = ap suc long.long; whole = ap (λ l. b ∷ l) long.whole }))
    | inr (inr without) ↦ inr (inr (record { no_lf = (other, without.no_lf); short = omega (arith, without.short) }))
  ]
]

-- ---- one command

-- a command is spelled by some bytes
pub Spells-some : (o : Order) (bytes : List ℕ) → SpellsOrder o bytes → 0 < length bytes
Spells-some o bytes spells = omega (arith, ap length spells.whole, length-append spells.line (10 ∷ payload_of o))

-- a command's line, and the bytes after it
pub Spells-line : (o : Order) (front back : List ℕ) → (spells : SpellsOrder o front) → front ++ back ≡ spells.line ++ 10 ∷ (payload_of o ++ back)
Spells-line o front back spells = ap (λ l. l ++ back) spells.whole ∙ append_assoc spells.line (10 ∷ payload_of o) back

-- the command at the start of an input is unique, and so is what follows it
pub Spells-one : (o p : Order) (a b x y : List ℕ) → SpellsOrder o a → SpellsOrder p b → a ++ x ≡ b ++ y → (o ≡ p) × (x ≡ y)
Spells-one o p a b x y one other whole =
    let cut = cut_one one.line other.line (payload_of o ++ x) (payload_of p ++ y) (HasNoLf-line o one.line one.is_line) (HasNoLf-line p other.line other.is_line)
    (sym (Spells-line o a x one) ∙ whole ∙ Spells-line p b y other) in
    let is_line : IsLine p one.line = subst (IsLine p) (sym cut.0) other.is_line in
    let parts = fronts_same (payload_of o) (payload_of p) x y (IsLine-one o p one.line one.is_line is_line) cut.1 in
    (IsLine-same o p one.line one.is_line is_line parts.0, parts.1)

-- a command with this line, with that many of these bytes as its payload
pub line_with : (o : Order) (line more : List ℕ) → IsLine o line → length (payload_of o) ≤ length more
    → (p : Order) × IsLine p line × (payload_of p ≡ take (length (payload_of o)) more)
line_with (SetText payload) line more is_line enough =
    (SetText (take (length payload) more), subst (λ n. IsWorded (codes "text") line (n ∷ [])) (sym (length-take-le (length payload) more enough)) is_line, refl)
line_with (EditText from to payload) line more is_line enough = (
  EditText from to (take (length payload) more),
  subst (λ n. IsWorded (codes "edit") line (from.line ∷ from.column ∷ to.line ∷ to.column ∷ n ∷ [])) (sym (length-take-le (length payload) more enough)) is_line,
  refl,
)
line_with (SetPattern payload) line more is_line enough =
    (SetPattern (take (length payload) more), subst (λ n. IsWorded (codes "pattern") line (n ∷ [])) (sym (length-take-le (length payload) more enough)) is_line, refl)
line_with (ReplaceAll payload) line more is_line enough =
    (ReplaceAll (take (length payload) more), subst (λ n. IsWorded (codes "replace") line (n ∷ [])) (sym (length-take-le (length payload) more enough)) is_line, refl)
line_with o line more is_line enough = (o, is_line, refl)

-- ---- endings

-- if a command is spelled at the start, no ending is
pub Spells-Ends : (o : Order) (front back : List ℕ) (e : Ended) → SpellsOrder o front → Ends (front ++ back) e → ⊥
Spells-Ends o front back Input spells ends = omega (arith, Spells-some o front spells, ap length ends, length-append front back)
Spells-Ends o front back Command spells (inl bad) =
    let cut = cut_one spells.line bad.line (payload_of o ++ back) bad.more (HasNoLf-line o spells.line spells.is_line) bad.no_lf (sym (Spells-line o front back spells) ∙ bad.whole) in
    bad.no_command o (subst (IsLine o) cut.0 spells.is_line)
Spells-Ends o front back Command spells (inr long) =
    cut_short spells.line long.line (payload_of o ++ back) long.more long.no_lf (omega (arith, length-line_le o spells.line spells.is_line, long.long))
    (sym (Spells-line o front back spells) ∙ long.whole)
Spells-Ends o front back Cut spells (inl part) = cut_none spells.line (front ++ back) (payload_of o ++ back) part.no_lf (Spells-line o front back spells)
Spells-Ends o front back Cut spells (inr part) =
    let cut = cut_one spells.line part.line (payload_of o ++ back) part.part (HasNoLf-line o spells.line spells.is_line) (HasNoLf-line part.order part.line part.is_line)
    (sym (Spells-line o front back spells) ∙ part.whole) in
    omega (arith, part.short, ap length cut.1, length-append (payload_of o) back, IsLine-one o part.order spells.line spells.is_line (subst (IsLine part.order) (sym cut.0) part.is_line))

-- a line that is no command's is no part of an incomplete input
pub bad_or_cut : (rest : List ℕ) → Ends rest Command → Ends rest Cut → ⊥
bad_or_cut rest (inl bad) (inl part) = cut_none bad.line rest bad.more part.no_lf bad.whole
bad_or_cut rest (inl bad) (inr part) =
    let cut = cut_one bad.line part.line bad.more part.part bad.no_lf (HasNoLf-line part.order part.line part.is_line) (sym bad.whole ∙ part.whole) in
    bad.no_command part.order (subst (IsLine part.order) (sym cut.0) part.is_line)
bad_or_cut rest (inr long) (inl part) = omega (arith, part.short, long.long, ap length long.whole, length-append long.line long.more)
bad_or_cut rest (inr long) (inr part) =
    cut_short part.line long.line part.part long.more long.no_lf (omega (arith, length-line_le part.order part.line part.is_line, long.long)) (sym part.whole ∙ long.whole)

-- an ending other than the end of input has some bytes
pub Ends-some : (rest : List ℕ) (e : Ended) → e ≢ Input → Ends rest e → 0 < length rest
Ends-some rest Input other ends = absurd (other refl)
Ends-some rest Command other (inl bad) = omega (arith, ap length bad.whole, length-append bad.line (10 ∷ bad.more))
Ends-some rest Command other (inr long) = omega (arith, long.long, ap length long.whole, length-append long.line long.more)
Ends-some rest Cut other (inl part) = part.some
Ends-some rest Cut other (inr part) = omega (arith, ap length part.whole, length-append part.line (10 ∷ part.part))

-- a rest has one ending
pub Ends-one : (rest : List ℕ) (e f : Ended) → Ends rest e → Ends rest f → e ≡ f
Ends-one rest Input Input one other = refl
Ends-one rest Command Command one other = refl
Ends-one rest Cut Cut one other = refl
Ends-one rest Command Cut one other = absurd (bad_or_cut rest one other)
Ends-one rest Cut Command one other = absurd (bad_or_cut rest other one)
Ends-one rest Input f one other = absurd (omega (arith, ap length one, Ends-some rest f (λ e. cc) other))
Ends-one rest e Input one other = absurd (omega (arith, ap length other, Ends-some rest e (λ e. cc) one))

-- ---- whole inputs

-- an input that begins with a command
pub record NextCommand (input : List ℕ) : Type 0 where
  pub order : Order
  pub front : List ℕ
  pub back : List ℕ
  pub spells : SpellsOrder order front
  pub whole : input ≡ front ++ back

-- an input begins with a command or with an ending
pub next_choice : (input : List ℕ) → NextCommand input ⊎ ((e : Ended) × Ends input e)
next_choice [] = inr (Input, refl)
next_choice (b ∷ bytes) = elim (cut_choice 129 (b ∷ bytes)) [
  | inr (inl long) ↦ inr (Command, inr (record { line = long.line; more = long.more; no_lf = long.no_lf; long = long.long; whole = long.whole }))
  | inr (inr without) ↦ inr (Cut, inl (record { no_lf = without.no_lf; some = omega arith; short = omega (arith, without.short) }))
  | inl cut ↦ elim (line_choice cut.line) [
    | inr none ↦ inr (Command, inl (record { line = cut.line; more = cut.more; no_lf = cut.no_lf; short = omega (arith, cut.short); whole = cut.whole; no_command = none }))
    | inl found ↦ elim (cases_lt (length cut.more) (length (payload_of found.0))) [
      | inl short ↦ inr (Cut, inr (record { order = found.0; line = cut.line; part = cut.more; is_line = found.1; whole = cut.whole; short = short }))
      | inr enough ↦
          let n = length (payload_of found.0) in
          let p = line_with found.0 cut.line cut.more found.1 enough in
          inl (record {
            order = p.0;
            front = cut.line ++ 10 ∷ payload_of p.0;
            back = drop n cut.more;
            spells = record { line = cut.line; is_line = p.1; whole = refl };
            whole = cut.whole
                ∙ ap (λ l. cut.line ++ 10 ∷ l) (sym (take-append-drop n cut.more) ∙ ap (λ l. l ++ drop n cut.more) (sym p.2))
                ∙ sym (append_assoc cut.line (10 ∷ payload_of p.0) (drop n cut.more));
          })
    ]
  ]
]

-- an input that begins with a command is read as that command followed by the reading of the rest
pub Reads-cons : (o : Order) (os : List Order) (e : Ended) (front back : List ℕ) → SpellsOrder o front → Reads back os e → Reads (front ++ back) (o ∷ os) e
Reads-cons o os e front back spells reads = record {
  spelled = front ++ reads.spelled;
  rest = reads.rest;
  spells = record { front = front; back = reads.spelled; first = spells; others = reads.spells; whole = refl };
  ends = reads.ends;
  whole = ap (λ l. front ++ l) reads.whole ∙ sym (append_assoc front reads.spelled reads.rest);
}

-- an input that begins with an ending has no command
pub Reads-end : (e : Ended) (input : List ℕ) → Ends input e → Reads input [] e
Reads-end e input ends = record { spelled = []; rest = input; spells = refl; ends = ends; whole = refl }

reads_within : (n : ℕ) (input : List ℕ) → length input ≤ n → (os : List Order) × (e : Ended) × Reads input os e
reads_within zero input few = elim (next_choice input) [
  | inr ends ↦ ([], ends.0, Reads-end ends.0 input ends.1)
  | inl next ↦ absurd (omega (arith, Spells-some next.order next.front next.spells, ap length next.whole, length-append next.front next.back))
]
reads_within (suc n) input few = elim (next_choice input) [
  | inr ends ↦ ([], ends.0, Reads-end ends.0 input ends.1)
  | inl next ↦
      let fewer : length next.back ≤ n = omega (arith, Spells-some next.order next.front next.spells, ap length next.whole, length-append next.front next.back) in
      let others = reads_within n next.back fewer in
      (next.order ∷ others.0, others.1, subst (λ l. Reads l (next.order ∷ others.0) others.1) (sym next.whole) (Reads-cons next.order others.0 others.1 next.front next.back next.spells others.2))
]

-- each input is read in some way
pub reads_exist : (input : List ℕ) → (os : List Order) × (e : Ended) × Reads input os e
reads_exist input = reads_within (length input) input (omega arith)

-- commands that are spelled, followed by an ending, are read in one way
pub reads_apart : (os ps : List Order) (e f : Ended) (xs ys rest rest' : List ℕ) → SpellAll os xs → SpellAll ps ys → Ends rest e → Ends rest' f → xs ++ rest ≡ ys ++ rest'
    → (os ≡ ps) × (e ≡ f)
reads_apart [] [] e f xs ys rest rest' none none' ends ends' whole =
    (refl, Ends-one rest e f ends (subst (λ l. Ends l f) (sym (ap (λ l. l ++ rest) (sym none) ∙ whole ∙ ap (λ l. l ++ rest') none')) ends'))
reads_apart [] (p ∷ ps) e f xs ys rest rest' none spells ends ends' whole =
    absurd (Spells-Ends p spells.front (spells.back ++ rest') e spells.first
    (subst (λ l. Ends l e) (ap (λ l. l ++ rest) (sym none) ∙ whole ∙ ap (λ l. l ++ rest') spells.whole ∙ append_assoc spells.front spells.back rest') ends))
reads_apart (o ∷ os) [] e f xs ys rest rest' spells none ends ends' whole =
    absurd (Spells-Ends o spells.front (spells.back ++ rest) f spells.first
    (subst (λ l. Ends l f) (ap (λ l. l ++ rest') (sym none) ∙ sym whole ∙ ap (λ l. l ++ rest) spells.whole ∙ append_assoc spells.front spells.back rest) ends'))
reads_apart (o ∷ os) (p ∷ ps) e f xs ys rest rest' spells spells' ends ends' whole =
    let one = Spells-one o p spells.front spells'.front (spells.back ++ rest) (spells'.back ++ rest') spells.first spells'.first
    (sym (ap (λ l. l ++ rest) spells.whole ∙ append_assoc spells.front spells.back rest) ∙ whole ∙ ap (λ l. l ++ rest') spells'.whole ∙ append_assoc spells'.front spells'.back rest') in
    let others = reads_apart os ps e f spells.back spells'.back rest rest' spells.others spells'.others ends ends' one.1 in
    let head : o ≡ p = one.0 in
    let tail : os ≡ ps = others.0 in
    ((cc), others.1)

-- and in no other
pub reads_one : (input : List ℕ) (os ps : List Order) (e f : Ended) → Reads input os e → Reads input ps f → (os ≡ ps) × (e ≡ f)
reads_one input os ps e f one other =
    reads_apart os ps e f one.spelled other.spelled one.rest other.rest one.spells other.spells one.ends other.ends (sym one.whole ∙ other.whole)
