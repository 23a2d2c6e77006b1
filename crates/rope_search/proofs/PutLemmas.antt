-- Bytes that were appended to the buffered ones, and what was written after them.
use Rattle.std.proofs.Common.{◌≡◌, ℕ, List, [], ◌++◌, ap, sym, subst, ◌∙◌, append_assoc, append-nil, refl, arith}
use Rattle.std.proofs.KnownBytes.{Appends-trans, Appends-nil}
use Rattle.rope_search_io.specs.Sources.{SinkState}
use Rattle.rope_search_io.specs.WriteBuffer.{Writes, WritesUntil, Puts}
use Rattle.rope_search_io.specs.declared.faults.Broken.{Broken}
use Rattle.rope_search_io.specs.declared.faults.Broken.TheVariants.{Read, Write, Turns, Memory}

Writes-nil : (s : SinkState) → Writes s s []
Writes-nil s = record { appended = Appends-nil s.held; sound = refl; flushed = refl }

Writes-trans : (a b c : SinkState) (xs ys : List ℕ) → Writes a b xs → Writes b c ys → Writes a c (xs ++ ys)
Writes-trans a b c xs ys first second = record {
  appended = Appends-trans a.held b.held c.held xs ys first.appended second.appended;
  sound = omega arith;
  flushed = omega arith;
}

-- nothing was put
pub Puts-nil : (old : List ℕ) (a : SinkState) → Puts old old a a []
Puts-nil old a = record { sent = []; split = append-nil old; written = Writes-nil a }

-- some bytes, and then others
pub Puts-trans : (old mid new : List ℕ) (a b c : SinkState) (xs ys : List ℕ) → Puts old mid a b xs → Puts mid new b c ys → Puts old new a c (xs ++ ys)
Puts-trans old mid new a b c xs ys p q = record {
  sent = p.sent ++ q.sent;
  split = sym (append_assoc old xs ys) ∙ ap (λ l. l ++ ys) p.split ∙ append_assoc p.sent mid ys ∙ ap (λ l. p.sent ++ l) q.split ∙ sym (append_assoc p.sent q.sent new);
  written = Writes-trans a b c p.sent q.sent p.written q.written;
}

-- everything that was appended and then sent, after what was buffered at first
whole : (old mid xs ys : List ℕ) (a b : SinkState) → (p : Puts old mid a b xs) → p.sent ++ (mid ++ ys) ≡ old ++ (xs ++ ys)
whole old mid xs ys a b p = sym (append_assoc p.sent mid ys) ∙ ap (λ l. l ++ ys) (sym p.split) ∙ append_assoc old xs ys

-- some bytes were appended, and then everything buffered and more was written
pub Writes-put : (old mid xs ys : List ℕ) (a b c : SinkState) → Puts old mid a b xs → Writes b c (mid ++ ys) → Writes a c (old ++ (xs ++ ys))
Writes-put old mid xs ys a b c p q = subst (Writes a c) (whole old mid xs ys a b p) (Writes-trans a b c p.sent (mid ++ ys) p.written q)

-- some bytes were appended, and then a prefix of the buffered ones was written, and nothing of what
-- follows
pub WritesUntil-put : (broken : Broken) (old mid xs ys rest : List ℕ) (a b c : SinkState) → Puts old mid a b xs → WritesUntil broken b c (mid ++ ys)
    → WritesUntil broken a c (old ++ (xs ++ (ys ++ rest)))
WritesUntil-put Write old mid xs ys rest a b c p q = record {
  front = p.sent ++ q.front;
  lost = q.lost ++ rest;
  split = sym (whole old mid xs (ys ++ rest) a b p) ∙ ap (λ l. p.sent ++ l) (sym (append_assoc mid ys rest) ∙ ap (λ l. l ++ rest) q.split ∙ append_assoc q.front q.lost rest)
      ∙ sym (append_assoc p.sent q.front (q.lost ++ rest));
  appended = Appends-trans a.held b.held c.held p.sent q.front p.written.appended q.appended;
  failed = omega (arith, p.written.sound, q.failed);
  flushed = omega (arith, p.written.flushed, q.flushed);
}
WritesUntil-put Read old mid xs ys rest a b c p q = absurd q
WritesUntil-put Turns old mid xs ys rest a b c p q = absurd q
WritesUntil-put Memory old mid xs ys rest a b c p q = absurd q
