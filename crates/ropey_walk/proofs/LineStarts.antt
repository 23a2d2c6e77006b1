-- The starts of the lines of a text.
use Rattle.std.proofs.Common.{◌≡◌, ℕ, zero, suc, ◌+◌, ◌==◌, min, Bool, true, false, true≢false, cond, not, ◌&&◌, inl, inr, List, [], ◌∷◌, ◌++◌, length, get_or, take, drop, refl, ap, arith, sym, ◌∙◌, subst, length-append, replicate}
use Rattle.std.proofs.Math.Utf8.{encode}
use Rattle.std.specs.Prelude.{encode_utf8_all}
use Rattle.std.specs.Char.{len_utf8}
use Rattle.std.proofs.lemmas.Bool.{cases_Bool, cond-true, cond-false, and_parts}
use Rattle.std.proofs.lemmas.List.{take_at, drop_at}
use Rattle.std.proofs.lemmas.Str.{length-encode}
use Rattle.str_indices.specs.Text.{byte_len, ends_break, ends_from, starts_with_lf, cuts_cr_lf, NoCrLfBetween}
use Rattle.ropey_walk.specs.Chunks.{is_break, line_breaks}
use Rattle.ropey_walk.specs.Conversions.{char_of_byte, line_of_byte, byte_of_line, char_of_line}
use Rattle.ropey_walk.proofs.BreakLaws.{LineStarts}
use Rattle.ropey_walk.proofs.Counting.{front_breaks}
use Rattle.ropey_walk.proofs.Placing.{whole_chars}

-- ---- no CR LF spans the end of a break
abbrev ends_at : ℕ → List ℕ → List ℕ
ends_at at text = ends_from (λ c rest. cond (ends_break is_break c rest) 1 0) at text

-- an index in a text that starts at another, between two parts; nothing follows an empty start
record IsSeam (at place : ℕ) (text : List ℕ) : Type 0 where
  front : List ℕ
  back : List ℕ
  parts : text ≡ front ++ back
  place_is : place ≡ at + byte_len front
  whole : NoCrLfBetween front back
  some : front ≡ [] → back ≡ []

never : (b : Bool) → (b && false) ≡ false
never true = refl
never false = refl

not_so : (b : Bool) → not b ≡ true → b ≡ false
not_so true e = absurd (true≢false (sym e))
not_so false e = refl

byte_len-one : (c : ℕ) (cs : List ℕ) → byte_len (c ∷ cs) ≡ len_utf8 c + byte_len cs
byte_len-one c cs = omega (arith, length-append (encode c) (encode_utf8_all cs), length-encode c)

further : (c : ℕ) (front back : List ℕ) → NoCrLfBetween front back → (front ≡ [] → back ≡ []) → NoCrLfBetween (c ∷ front) back
further c [] back whole some = ap (λ r. (c == 13) && starts_with_lf r) (some refl) ∙ never (c == 13)
further c (d ∷ front) back whole some = whole

seam_later : (at place c : ℕ) (cs : List ℕ) → IsSeam (at + len_utf8 c) place cs → IsSeam at place (c ∷ cs)
seam_later at place c cs h = record {
  front = c ∷ h.front;
  back = h.back;
  parts = ap (λ t. c ∷ t) h.parts;
  place_is = omega (arith, h.place_is, byte_len-one c h.front);
  whole = further c h.front h.back h.whole h.some;
  some = λ e. absurd (omega (arith, ap length e));
}

seam_here : (at c : ℕ) (cs : List ℕ) → ends_break is_break c cs ≡ true → IsSeam at (at + len_utf8 c) (c ∷ cs)
seam_here at c cs is_so = record {
  front = c ∷ [];
  back = cs;
  parts = refl;
  place_is = omega (arith, byte_len-one c []);
  whole = not_so ((c == 13) && starts_with_lf cs) (and_parts (is_break c) (not ((c == 13) && starts_with_lf cs)) is_so).1;
  some = λ e. absurd (omega (arith, ap length e));
}

seam_at_end : (at : ℕ) (k : ℕ) → IsSeam at (get_or (ends_at at []) k (at + byte_len [])) []
seam_at_end at zero = record { front = []; back = []; parts = refl; place_is = refl; whole = refl; some = λ e. refl }
seam_at_end at (suc k) = record { front = []; back = []; parts = refl; place_is = refl; whole = refl; some = λ e. refl }

seam_among : (at c : ℕ) (cs : List ℕ) → ends_break is_break c cs ≡ true → ((j : ℕ) → IsSeam (at + len_utf8 c) (get_or (ends_at (at + len_utf8 c) cs) j (at + len_utf8 c + byte_len cs)) cs)
    → (k : ℕ) → IsSeam at (get_or ((at + len_utf8 c) ∷ ends_at (at + len_utf8 c) cs) k (at + len_utf8 c + byte_len cs)) (c ∷ cs)
seam_among at c cs is_so later zero = seam_here at c cs is_so
seam_among at c cs is_so later (suc j) = seam_later at (get_or (ends_at (at + len_utf8 c) cs) j (at + len_utf8 c + byte_len cs)) c cs (later j)

seam_from : (at : ℕ) (text : List ℕ) (k : ℕ) → IsSeam at (get_or (ends_at at text) k (at + byte_len text)) text
seam_from at [] k = seam_at_end at k
seam_from at (c ∷ cs) k =
    let next = at + len_utf8 c in
    let ends = ends_at next cs in
    let last : at + byte_len (c ∷ cs) ≡ next + byte_len cs = omega (arith, byte_len-one c cs) in
    elim (cases_Bool (ends_break is_break c cs)) [
      | inl is_so ↦
          let there : ends_at at (c ∷ cs) ≡ next ∷ ends = ap (λ n. replicate n next ++ ends) (cond-true _ _ _ is_so) in
          let same = ap (λ es. get_or es k (at + byte_len (c ∷ cs))) there ∙ ap (λ d. get_or (next ∷ ends) k d) last in
          subst (λ (n : ℕ). IsSeam at n (c ∷ cs)) (sym same) (seam_among at c cs is_so (seam_from next cs) k)
      | inr is_not ↦
          let there : ends_at at (c ∷ cs) ≡ ends = ap (λ n. replicate n next ++ ends) (cond-false _ _ _ is_not) in
          let same = ap (λ es. get_or es k (at + byte_len (c ∷ cs))) there ∙ ap (λ d. get_or ends k d) last in
          subst (λ (n : ℕ). IsSeam at n (c ∷ cs)) (sym same) (seam_later at (get_or ends k (next + byte_len cs)) c cs (seam_from next cs k))
    ]

-- a text is divided where a line starts
record FallsAt (text : List ℕ) (place : ℕ) : Type 0 where
  front : List ℕ
  back : List ℕ
  parts : text ≡ front ++ back
  place_is : place ≡ byte_len front
  whole : NoCrLfBetween front back

falls_at_line : (text : List ℕ) (line : ℕ) → FallsAt text (byte_of_line text line)
falls_at_line text zero = record { front = []; back = text; parts = refl; place_is = refl; whole = refl }
falls_at_line text (suc k) =
    let h = seam_from 0 text k in
    let last : byte_len text ≡ 0 + byte_len text = omega arith in
    let first : 0 + byte_len h.front ≡ byte_len h.front = omega arith in
    let same : byte_of_line text (suc k) ≡ get_or (ends_at 0 text) k (0 + byte_len text) = ap (λ d. get_or (ends_at 0 text) k d) last in
    record { front = h.front; back = h.back; parts = h.parts; place_is = same ∙ h.place_is ∙ first; whole = h.whole }

-- ---- the text before a line and the text from it on
pub record IsCutAtLine (text front back : List ℕ) (line : ℕ) : Type 0 where
  pub whole : NoCrLfBetween front back
  pub char_is : char_of_line text line ≡ length front
  pub taken : take (char_of_line text line) text ≡ front
  pub left : drop (char_of_line text line) text ≡ back
  pub breaks_are : line_breaks front ≡ min line (line_breaks text)

pub cut_at_line : LineStarts → (text front back : List ℕ) (line : ℕ) → text ≡ front ++ back → byte_len front ≡ byte_of_line text line → IsCutAtLine text front back line
cut_at_line law text front back line parts place =
    let n = length front in
    let h = falls_at_line text line in
    let char_is : char_of_line text line ≡ n =
    ap (char_of_byte text) (sym place) ∙ ap (λ t. char_of_byte t (byte_len front)) parts ∙ whole_chars law.chars front back in
    let size : length h.front ≡ n =
    sym (whole_chars law.chars h.front h.back) ∙ ap (λ t. char_of_byte t (byte_len h.front)) (sym h.parts) ∙ ap (char_of_byte text) (sym h.place_is) ∙ char_is in
    let same : h.front ≡ front = sym (take_at h.front h.back n size) ∙ ap (take n) (sym h.parts ∙ parts) ∙ take_at front back n refl in
    let same_back : h.back ≡ back = sym (drop_at h.front h.back n size) ∙ ap (drop n) (sym h.parts ∙ parts) ∙ drop_at front back n refl in
    let whole : NoCrLfBetween front back = ap (λ f. cuts_cr_lf f back) (sym same) ∙ ap (cuts_cr_lf h.front) (sym same_back) ∙ h.whole in
    let none : cond {A = ℕ} (cuts_cr_lf front back) 1 0 ≡ 0 = ap (λ b. cond {A = ℕ} b 1 0) whole in
    let ended : line_of_byte text (byte_len front) ≡ line_breaks front =
    omega (arith, front_breaks law.breaks_are front back, none, ap (λ t. line_of_byte t (byte_len front)) parts) in
    record {
      whole = whole;
      char_is = char_is;
      taken = ap (λ k. take k text) char_is ∙ ap (take n) parts ∙ take_at front back n refl;
      left = ap (λ k. drop k text) char_is ∙ ap (drop n) parts ∙ drop_at front back n refl;
      breaks_are = sym ended ∙ ap (line_of_byte text) place ∙ law.comes_back text line;
    }
