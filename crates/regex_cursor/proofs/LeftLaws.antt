-- What is left of a search, from what is known of it.
use Rattle.std.proofs.Common.{◌≡◌, ℕ, ◌<◌, ◌≤◌, Bool, false, true, IfSome, IsTrue, nat_lt, Option, Some, None, refl, sym, ap, ap₂, subst, ◌∙◌, arith}
use Rattle.std.proofs.lemmas.Bool.{ltb-true}
use Rattle.std.proofs.lemmas.Option.{same_Some}
use Rattle.unicode.specs.Perl.{is_word_char}
use Rattle.rx_utf8.specs.Automata.{is_in}
use Rattle.rx_util.specs.declared.search.Span.{Span}
use Rattle.rx_walks.specs.Machines.{Outcome}
use Rattle.rx_walks.specs.Programs.{Notes}
use Rattle.rx_walks.specs.Finds.{Search, from_place_on, up_to_place}
use Rattle.rx_walks.specs.ProgramFinds.{end_of}
use Rattle.rx_walks.specs.Iterating.{nothing, at_once, passed}
use Rattle.rx_program.specs.Programs.{ByteProgram, character_program}
use Rattle.rx_literals.specs.Literals.{FindsLiteral, literal_match, within}
use Rattle.rx_chunk.specs.Engines.{Finds}
use Rattle.rx_chunk.specs.Iterating.{ComesNext}
use Rattle.regex_cursor.specs.declared.engines.meta.left.Left.{Left}
use Rattle.regex_cursor.specs.declared.engines.meta.left.Left.TheVariants.{Nothing, Match, Found, In}
use Rattle.regex_cursor.specs.declared.engines.meta.left.Part.{Part}
use Rattle.regex_cursor.specs.Strategies.{BeginsFrom, FindsUpTo, HoldsFind, HoldsNext, IsLeft, IsPart}
use Rattle.regex_cursor.proofs.StrategyLaws.{CutLaw, ExistLaw, InsideLaw, OneLaw}

module _ (p : ByteProgram) (s : Search) where
  -- all of the span
  same_search : (span : Span) → s.start ≡ span.start → s.end ≡ span.end → within s span ≡ s
  same_search span start end = ap₂ (λ a b. within s (record { start = a; end = b })) (sym start) (sym end)

  pub all_holds : (span : Span) → s.start ≡ span.start → s.end ≡ span.end → span.start ≤ span.end → HoldsFind p s span
  all_holds span start end ordered = record {
    behind = omega (arith, start);
    ordered = ordered;
    before = omega (arith, end);
    finds = λ out finds. subst (λ x. Finds p x out) (same_search span start end) finds;
  }

  pub all_left : (span : Span) → s.start ≡ span.start → s.end ≡ span.end → span.start ≤ span.end → IsPart p s (record { span = span; pattern = None })
  all_left span start end ordered = record { holds = all_holds span start end ordered; match = tt }

  -- up to the end of the match found
  pub up_to_left : OneLaw → InsideLaw → CutLaw → (start k end : ℕ) → s.start ≡ start → FindsUpTo p s k end → IsPart p s (record { span = record { start = start; end = end }; pattern = Some k })
  up_to_left one inside cut start k end same up =
      let t = up.found in
      let lies = inside is_in is_word_char (character_program p) s t up.finds in
      let at = lies.found.inside in
      let cut_there : Finds p (up_to_place s end) (Some t) = subst (λ e. Finds p (up_to_place s e) (Some t)) up.end_is (cut is_in is_word_char (character_program p) s t up.finds) in
      let there : Finds p (within s (record { start = start; end = end })) (Some t) = subst (λ x. Finds p (within s (record { start = x; end = end })) (Some t)) same cut_there in
      record {
        holds = record {
          behind = omega (arith, same);
          ordered = omega (arith, same, at.2, up.end_is);
          before = omega (arith, at.3, up.end_is);
          finds = λ out finds. subst (λ o. Finds p s o) (sym (one is_in is_word_char (character_program p) (within s (record { start = start; end = end })) out (Some t) finds there)) up.finds;
        };
        match = record { found = t; finds = there; pattern_is = up.pattern_is; end_is = up.end_is };
      }

  -- the span that the literal takes
  pub literal_left : OneLaw → InsideLaw → (span : Span) → FindsLiteral (character_program p) is_word_char s span → IsPart p s (record { span = span; pattern = Some 0 })
  literal_left one inside span literal =
      let t = literal_match span in
      let lies = inside is_in is_word_char (character_program p) s t literal.finds in
      record {
        holds = record {
          behind = lies.found.possible.0.2;
          ordered = omega (arith, literal.some);
          before = lies.found.inside.3;
          finds = λ out finds. subst (λ o. Finds p s o) (sym (one is_in is_word_char (character_program p) (within s span) out (Some t) finds literal.alone)) literal.finds;
        };
        match = record { found = t; finds = literal.alone; pattern_is = refl; end_is = refl };
      }

  -- ---- the next match

  pub all_next : (last : Option ℕ) (whole : Span) (part : Part) → s.start ≡ whole.start → s.end ≡ whole.end → IsPart p s part → HoldsNext p s last whole
  all_next last whole part start end is = record {
    holds = all_holds whole start end (omega (arith, start, end, is.holds.behind, is.holds.ordered, is.holds.before));
    comes = λ out comes. subst (λ x. ComesNext (Finds p) x last out) (same_search whole start end) comes;
  }

  module _ (one : OneLaw) (inside : InsideLaw) (last : Option ℕ) (part : Part) (is : IsPart p s part) (none : (t : Outcome Notes) → Finds p (within s part.span) (Some t) → last ≡ Some (end_of t) → ⊥) where
    next_comes : (out : Option (Outcome Notes)) → ComesNext (Finds p) (within s part.span) last out → ComesNext (Finds p) s last out
    next_comes out (nothing finds) = nothing (is.holds.finds None finds)
    next_comes out (at_once {t = t} finds not) = at_once (is.holds.finds (Some t) finds) not
    next_comes out (passed {t = t} finds empty further) = absurd (none t finds empty.1)

    pub part_next : HoldsNext p s last part.span
    part_next = record { holds = is.holds; comes = next_comes }

  -- no match in the part ends there
  pub none_ends : OneLaw → InsideLaw → (last : Option ℕ) (part : Part) (may : Bool) → IsPart p s part → may ≡ false
      → ((k : ℕ) → part.pattern ≡ Some k → last ≡ Some part.span.end → IsTrue may) → ((end : ℕ) → part.pattern ≡ None → last ≡ Some end → part.span.start ≤ end → IsTrue may)
      → (t : Outcome Notes) → Finds p (within s part.span) (Some t) → last ≡ Some (end_of t) → ⊥
  none_ends one inside last part may is not known unknown t finds ends_ = by part.pattern refl is.match
    where
      never : IsTrue may → ⊥
      never e = let told : may ≡ true = e in absurd (cc (told, not))

      by : (o : Option ℕ) → part.pattern ≡ o → IfSome o (λ k. FindsUpTo p (within s part.span) k part.span.end) → ⊥
      by (Some k) has up =
          let same : t ≡ up.found = same_Some t up.found (one is_in is_word_char (character_program p) (within s part.span) (Some t) (Some up.found) finds up.finds) in
          never (known k has (ends_ ∙ ap Some (ap (λ (x : Outcome Notes). end_of x) same ∙ up.end_is)))
      by None has none_there =
          let lies = inside is_in is_word_char (character_program p) (within s part.span) t finds in
          never (unknown (end_of t) has ends_ (omega (arith, lies.found.possible.0.2, lies.found.ordered)))

  -- ---- from an offset on

  pub left_from : (place : ℕ) (left : Left) → BeginsFrom p s place → IsLeft p (from_place_on s place) left → IsLeft p s left
  left_from place Nothing begins left = begins.finds None left
  left_from place (Match span) begins left = record { some = left.some; finds = begins.finds (Some (literal_match span)) left.finds; alone = left.alone }
  left_from place (Found found) begins left = (left.0, begins.finds left.0 left.1, left.2)
  left_from place (In part) begins left = record {
    holds = record {
      behind = omega (arith, left.holds.behind, begins.behind);
      ordered = left.holds.ordered;
      before = left.holds.before;
      finds = λ out finds. begins.finds out (left.holds.finds out finds);
    };
    match = left.match;
  }

  pub from_start : s.start ≤ s.end → BeginsFrom p s s.start
  from_start ordered = record { behind = omega arith; before = ordered; finds = λ out finds. finds }

  -- a span that is done has no match
  pub none_done : ExistLaw → InsideLaw → s.end < s.start → Finds p s None
  none_done exist inside done = let there = exist is_in is_word_char (character_program p) s in by there.0 there.1
    where
      by : (out : Option (Outcome Notes)) → Finds p s out → Finds p s None
      by None finds = finds
      by (Some t) finds =
          let at = (inside is_in is_word_char (character_program p) s t finds).found.inside in
          absurd (omega (arith, at.2, at.3, done))

pub done_span : (start end : ℕ) (b : Bool) → b ≡ nat_lt end start → b ≡ true → end < start
done_span start end b is told = ltb-true end start (sym is ∙ told)
