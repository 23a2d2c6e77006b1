-- Taking bytes from a source, one part after another.
use Rattle.std.proofs.Common.{◌≡◌, ℕ, ◌+◌, ◌-◌, ◌*◌, ◌^◌, ◌≤◌, List, [], ◌++◌, length, take, drop, Option, None, Some, refl, ap, ◌∙◌, subst, arith, length-append, append_assoc, take-append-drop}
use Rattle.std.proofs.KnownBytes.{Consumes-trans, Consumes-nil}
use Rattle.std.specs.Io.KnownBytes.{Consumes, prepend_known}
use Rattle.rope_search_io.specs.declared.faults.Broken.{Broken}
use Rattle.rope_search_io.specs.declared.faults.Broken.TheVariants.{Read, Write, Turns, Memory}
use Rattle.rope_search_io.specs.Sources.{SourceState}
use Rattle.rope_search_io.specs.ReadBuffer.{Unread, Takes, TakesLast, TakesUntil, to_come}

-- nothing taken
pub Takes-nil : (a : Unread) (s : SourceState) → Takes a a s s []
Takes-nil a s = record { consumed = Consumes-nil (to_come a s); fewer = omega arith; counted = refl; sound = refl; open_end = refl; wide = refl }

pub Takes-trans : (a b c : Unread) (s t u : SourceState) (xs ys : List ℕ) → Takes a b s t xs → Takes b c t u ys → Takes a c s u (xs ++ ys)
Takes-trans a b c s t u xs ys p q = record {
  consumed = Consumes-trans (to_come a s) (to_come b t) (to_come c u) xs ys p.consumed q.consumed;
  fewer = omega (arith, p.fewer, q.fewer, length-append xs ys);
  counted = omega (arith, p.counted, q.counted);
  sound = q.sound ∙ p.sound;
  open_end = q.open_end ∙ p.open_end;
  wide = q.wide ∙ p.wide;
}

-- bytes taken, and then the last ones
pub TakesLast-after : (a b c : Unread) (s t u : SourceState) (xs ys : List ℕ) → Takes a b s t xs → TakesLast b c t u ys → TakesLast a c s u (xs ++ ys)
TakesLast-after a b c s t u xs ys p q = record {
  consumed = Consumes-trans (to_come a s) (to_come b t) (to_come c u) xs ys p.consumed q.consumed;
  counted = omega (arith, p.counted, q.counted);
  sound = q.sound ∙ p.sound;
  told = q.told ∙ ap (λ n. n + 1) p.open_end;
  empty = q.empty;
  at_end = q.at_end;
  wide = q.wide ∙ p.wide;
}

-- bytes taken, and then some more before an error
pub TakesUntil-after : (broken : Broken) (a b c : Unread) (s t u : SourceState) (xs ys : List ℕ)
    → Takes a b s t xs → TakesUntil broken b c t u ys → TakesUntil broken a c s u (xs ++ ys)
TakesUntil-after Read a b c s t u xs ys p q = record {
  consumed = Consumes-trans (to_come a s) (to_come b t) (to_come c u) xs ys p.consumed q.consumed;
  counted = omega (arith, p.counted, q.counted);
  failed = q.failed ∙ ap (λ n. n + 1) p.sound;
  open_end = q.open_end ∙ p.open_end;
  wide = q.wide ∙ p.wide;
  empty = q.empty;
}
TakesUntil-after Turns a b c s t u xs ys p q = record {
  consumed = Consumes-trans (to_come a s) (to_come b t) (to_come c u) xs ys p.consumed q.consumed;
  counted = omega (arith, p.counted, q.counted);
  sound = q.sound ∙ p.sound;
  open_end = q.open_end ∙ p.open_end;
  wide = q.wide ∙ p.wide;
  empty = q.empty;
  many = q.many;
}
TakesUntil-after Write a b c s t u xs ys p q = absurd q
TakesUntil-after Memory a b c s t u xs ys p q = absurd q

front_consumed : (front back : List ℕ) (left : Option (List ℕ)) → Consumes (prepend_known (front ++ back) left) (prepend_known back left) front
front_consumed front back None = tt
front_consumed front back (Some ys) = append_assoc front back ys

-- bytes taken from the start of those that were already read
pub Takes-front : (old new : Unread) (s : SourceState) (count : ℕ) → count ≤ length old.bytes
    → new.bytes ≡ drop count old.bytes → new.reads ≡ old.reads → Takes old new s s (take count old.bytes)
Takes-front old new s count enough rest same = record {
  consumed = subst (λ (bs : List ℕ). Consumes (prepend_known bs s.left) (prepend_known new.bytes s.left) (take count old.bytes))
      (ap (λ bs. take count old.bytes ++ bs) rest ∙ take-append-drop count old.bytes) (front_consumed (take count old.bytes) new.bytes s.left);
  fewer = omega (arith, ap length (take-append-drop count old.bytes), length-append (take count old.bytes) (drop count old.bytes), ap length rest, ap (λ n. (2 ^ 62 - n) * 4097) same);
  counted = omega arith;
  sound = refl;
  open_end = refl;
  wide = refl;
}
