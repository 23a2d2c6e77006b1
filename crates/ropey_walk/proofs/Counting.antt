-- The counts of parts of a text.
use Rattle.std.proofs.Common.{◌≡◌, ℕ, ◌+◌, ◌-◌, ◌<◌, ◌≤◌, inl, inr, Bool, true, false, true≢false, cond, ◌&&◌, List, [], ◌∷◌, ◌++◌, length, take, drop, refl, ap, arith, sym, ◌∙◌, subst, length-append, length-drop, length-take-le}
use Rattle.std.proofs.lemmas.Bool.{cases_Bool, and_parts, eqb-true}
use Rattle.std.proofs.lemmas.List.{append-nil, append_assoc, take-append-drop, take-take}
use Rattle.std.proofs.lemmas.List.Sums.{sum_by-append}
use Rattle.str_indices.specs.Text.{byte_len, units, units_of, ends_up_to, ends_with_cr, starts_with_lf, cuts_cr_lf, NoCrLfBetween}
use Rattle.ropey_tree.specs.declared.counts.Counts.{Counts}
use Rattle.ropey_tree.specs.declared.counts.By.{By}
use Rattle.ropey_tree.specs.declared.counts.By.TheVariants.{Bytes, Chars, Units, Breaks}
use Rattle.ropey_tree.specs.Counts.{counts_of, plus, amount}
use Rattle.ropey_walk.specs.Chunks.{line_breaks}
use Rattle.ropey_walk.specs.Clips.{between}
use Rattle.ropey_walk.specs.Conversions.{line_of_byte}
use Rattle.ropey_walk.specs.Parts.{standing}
use Rattle.ropey_walk.proofs.BreakLaws.{BreaksOfParts}
use Rattle.ropey_walk.proofs.Cuts.{byte_len-append}

pub units-append : (s t : List ℕ) → units (s ++ t) ≡ units s + units t
units-append s t = sum_by-append units_of s t

-- ---- CR and LF at the ends of parts
starts-append : (s t : List ℕ) → 1 ≤ length s → starts_with_lf (s ++ t) ≡ starts_with_lf s
starts-append [] t h = absurd (omega (arith, h))
starts-append (c ∷ cs) t h = refl

ends-append : (s t : List ℕ) → 1 ≤ length t → ends_with_cr (s ++ t) ≡ ends_with_cr t
ends-append [] t h = refl
ends-append (c ∷ []) [] h = absurd (omega (arith, h))
ends-append (c ∷ []) (d ∷ t) h = refl
ends-append (c ∷ d ∷ s) t h = ends-append (d ∷ s) t h

-- no part of a text ends in a CR LF in which the text doesn't end
pub back_whole : (k : ℕ) (s t : List ℕ) → NoCrLfBetween s t → NoCrLfBetween (drop k s) t
back_whole k s t h = last (drop k s) refl
  where
    last : (back : List ℕ) → drop k s ≡ back → cuts_cr_lf back t ≡ false
    last [] e = refl
    last (c ∷ cs) e =
        let whole : s ≡ take k s ++ c ∷ cs = sym (take-append-drop k s) ∙ ap (λ b. take k s ++ b) e in
        ap (λ b. b && starts_with_lf t) (sym (ends-append (take k s) (c ∷ cs) (omega arith)) ∙ ap ends_with_cr (sym whole)) ∙ h

-- ---- a text in two and three parts
pub take-parts : (k m : ℕ) (t : List ℕ) → k ≤ m → take m t ≡ take k t ++ between k m t
take-parts k m t h = sym (take-append-drop k (take m t)) ∙ ap (λ f. f ++ drop k (take m t)) (take-take k m t h)

pub whole-parts : (k m : ℕ) (t : List ℕ) → k ≤ m → t ≡ take k t ++ (between k m t ++ drop m t)
whole-parts k m t h = sym (take-append-drop m t) ∙ ap (λ f. f ++ drop m t) (take-parts k m t h) ∙ append_assoc (take k t) (between k m t) (drop m t)

pub length-between : (k m : ℕ) (t : List ℕ) → k ≤ m → m ≤ length t → k + length (between k m t) ≡ m
length-between k m t h l = omega (arith, h, length-drop k (take m t), length-take-le m t l)

module _ (law : BreaksOfParts) where
  -- all breaks end up to the end
  pub all_breaks : (t : List ℕ) → line_of_byte t (byte_len t) ≡ line_breaks t
  all_breaks t =
      let d = byte_len t in
      let long : d ≤ byte_len (t ++ []) = omega (arith, byte_len-append t []) in
      let none : (s : List ℕ) → NoCrLfBetween s [] = λ s. nothing (ends_with_cr s) in
      let whole : t ++ [] ++ [] ≡ t = append-nil (t ++ []) ∙ append-nil t in
      let same : d - d ≡ 0 = omega arith in
      ap (λ s. line_of_byte s d) (sym whole) ∙ law.whole t [] [] d (none t) (none (t ++ [])) (omega arith) long
      ∙ ap (λ n. line_breaks t + ends_up_to n []) same ∙ omega arith
    where
      nothing : (b : Bool) → (b && false) ≡ false
      nothing true = refl
      nothing false = refl

  -- the breaks of a text's start by itself: those that end in it, and its CR if an LF is next
  pub front_breaks : (f b : List ℕ) → line_of_byte (f ++ b) (byte_len f) + cond (cuts_cr_lf f b) 1 0 ≡ line_breaks f
  front_breaks f b =
      let sum = byte_len-append f b in
      let rest : byte_len (f ++ b) - byte_len f ≡ byte_len b = omega (arith, sum) in
      omega (
        arith,
        law.behind f b (byte_len (f ++ b)) (omega (arith, sum)),
        ap (λ n. line_of_byte b n) rest,
        all_breaks (f ++ b),
        all_breaks b,
        law.joined f b,
      )

  -- and those of a part
  pub part_breaks : (f p b : List ℕ) → line_of_byte (f ++ (p ++ b)) (byte_len (f ++ p)) + cond (cuts_cr_lf p b) 1 0 ≡ line_of_byte (f ++ (p ++ b)) (byte_len f) + line_breaks p
  part_breaks f p b =
      let sum = byte_len-append f p in
      let inside : byte_len (f ++ p) - byte_len f ≡ byte_len p = omega (arith, sum) in
      omega (arith, law.behind f (p ++ b) (byte_len (f ++ p)) (omega (arith, sum)), ap (λ n. line_of_byte (p ++ b) n) inside, front_breaks p b)

  -- before the end of a text's start, what follows it changes nothing
  pub inner_breaks : (p b : List ℕ) (k : ℕ) → k < length p → line_of_byte (p ++ b) (byte_len (take k p)) ≡ line_of_byte p (byte_len (take k p))
  inner_breaks p b k h =
      let f = take k p in
      let r = drop k p in
      let whole : p ≡ f ++ r = sym (take-append-drop k p) in
      let some : 1 ≤ length r = omega (arith, h, length-drop k p) in
      let long : p ++ b ≡ f ++ (r ++ b) = ap (λ t. t ++ b) whole ∙ append_assoc f r b in
      let same : cuts_cr_lf f (r ++ b) ≡ cuts_cr_lf f r = ap (λ s. ends_with_cr f && s) (starts-append r b some) in
      omega (
        arith,
        front_breaks f (r ++ b),
        front_breaks f r,
        ap (λ c. cond {A = ℕ} c 1 0) same,
        ap (λ t. line_of_byte t (byte_len f)) long,
        ap (λ t. line_of_byte t (byte_len f)) whole,
      )

  -- ---- the counts before an index, and those of a part
  pub standing-front : (t : List ℕ) (m : ℕ) → m ≤ length t → NoCrLfBetween (take m t) (drop m t) → standing t m ≡ counts_of (take m t)
  standing-front t m l seam =
      let whole : take m t ++ drop m t ≡ t = take-append-drop m t in
      let none : cond {A = ℕ} (cuts_cr_lf (take m t) (drop m t)) 1 0 ≡ 0 = ap (λ b. cond {A = ℕ} b 1 0) seam in
      let b : line_of_byte t (byte_len (take m t)) ≡ line_breaks (take m t) = omega (arith, front_breaks (take m t) (drop m t), none, ap (λ s. line_of_byte s (byte_len (take m t))) whole) in
      let c : length (take m t) ≡ m = length-take-le m t l in
      cc

  pub standing-plus : (t : List ℕ) (k m : ℕ) → k ≤ m → m ≤ length t → NoCrLfBetween (between k m t) (drop m t) → standing t m ≡ plus (standing t k) (counts_of (between k m t))
  standing-plus t k m h l seam =
      let f = take k t in
      let p = between k m t in
      let r = drop m t in
      let front : take m t ≡ f ++ p = take-parts k m t h in
      let whole : t ≡ f ++ (p ++ r) = whole-parts k m t h in
      let none : cond {A = ℕ} (cuts_cr_lf p r) 1 0 ≡ 0 = ap (λ b. cond {A = ℕ} b 1 0) seam in
      let bytes : byte_len (take m t) ≡ byte_len f + byte_len p = ap byte_len front ∙ byte_len-append f p in
      let chars : m ≡ k + length p = sym (length-between k m t h l) in
      let us : units (take m t) ≡ units f + units p = ap units front ∙ units-append f p in
      let lines : line_of_byte t (byte_len (take m t)) ≡ line_of_byte t (byte_len f) + line_breaks p =
      omega (
        arith,
        part_breaks f p r,
        none,
        ap (λ s. line_of_byte s (byte_len (take m t))) whole,
        ap (λ s. line_of_byte s (byte_len f)) whole,
        ap (λ s. line_of_byte (f ++ (p ++ r)) (byte_len s)) front,
      ) in
      cc

  -- ---- less and more
  pub amount-plus : (by : By) (c d : Counts) → amount by (plus c d) ≡ amount by c + amount by d
  amount-plus Bytes c d = refl
  amount-plus Chars c d = refl
  amount-plus Units c d = refl
  amount-plus Breaks c d = refl

  some_break : (t : List ℕ) → starts_with_lf t ≡ true → 1 ≤ line_breaks t
  some_break [] h = absurd (true≢false (sym h))
  some_break (c ∷ cs) h =
      let lf : c ≡ 10 = eqb-true c 10 h in
      subst (λ (d : ℕ). 1 ≤ line_breaks (d ∷ cs)) (sym lf) (omega arith)

  -- the start of a text has no more than the whole
  pub amount-front : (by : By) (f b : List ℕ) → amount by (counts_of f) ≤ amount by (counts_of (f ++ b))
  amount-front Bytes f b = omega (arith, byte_len-append f b)
  amount-front Chars f b = omega (arith, length-append f b)
  amount-front Units f b = omega (arith, units-append f b)
  amount-front Breaks f b = elim (cases_Bool (cuts_cr_lf f b)) [
    | inl cut ↦ omega (arith, law.joined f b, ap (λ c. cond {A = ℕ} c 1 0) cut, some_break b (and_parts (ends_with_cr f) (starts_with_lf b) cut).1)
    | inr whole ↦ omega (arith, law.joined f b, ap (λ c. cond {A = ℕ} c 1 0) whole)
  ]

  -- what ends at an index that is no later
  pub amount-standing : (by : By) (t : List ℕ) (m a : ℕ) → m ≤ a → amount by (standing t m) ≤ amount by (standing t a)
  amount-standing by t m a h = up by
    where
      bytes : byte_len (take m t) ≤ byte_len (take a t)
      bytes = omega (arith, ap byte_len (take-parts m a t h), byte_len-append (take m t) (between m a t))

      up : (by : By) → amount by (standing t m) ≤ amount by (standing t a)
      up Bytes = bytes
      up Chars = h
      up Units = omega (arith, ap units (take-parts m a t h), units-append (take m t) (between m a t))
      up Breaks = law.rises t (byte_len (take m t)) (byte_len (take a t)) bytes
