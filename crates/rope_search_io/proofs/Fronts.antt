-- Writing one list of bytes after another, and what is written if a write in between fails.
use Rattle.std.proofs.Common.{◌≡◌, ℕ, List, [], ◌∷◌, ◌++◌, ◌<◌, ◌≤◌, get_or, ◌+◌, ◌-◌, length, take, drop, refl, ap, sym, subst, take-append-drop, ◌∙◌, append_assoc, append-nil, arith}
use Rattle.std.proofs.KnownBytes.{Appends-trans, Appends-nil, Appends-kept}
use Rattle.std.proofs.lemmas.List.{take_rest, take_more, take_all}
use Rattle.std.proofs.lemmas.List.Concat.{flat_map-append}
use Rattle.std.specs.Borrow.{Bor}
use Rattle.std.proofs.Math.Seq.{take-add}
use Rattle.std.specs.Io.KnownBytes.{Appends, Keeps}
use Rattle.rope_search_io.specs.Sources.{SinkState}
use Rattle.rope_search_io.specs.WriteBuffer.{Writes, WritesFront, WritesUntil, Puts, joined}
use Rattle.rope_search_io.specs.declared.faults.Broken.{Broken}
use Rattle.rope_search_io.specs.declared.faults.Broken.TheVariants.{Read, Write, Turns, Memory}

-- nothing is written
pub Writes-nil : (s : SinkState) → Writes s s []
Writes-nil s = record { appended = Appends-nil s.held; sound = refl; flushed = refl }

pub Writes-trans : (a b c : SinkState) (xs ys : List ℕ) → Writes a b xs → Writes b c ys → Writes a c (xs ++ ys)
Writes-trans a b c xs ys first second = record {
  appended = Appends-trans a.held b.held c.held xs ys first.appended second.appended;
  sound = omega arith;
  flushed = omega arith;
}

-- the first bytes were written, and the next in part
pub WritesFront-after : (a b c : SinkState) (xs ys : List ℕ) → Writes a b xs → WritesFront b c ys → WritesFront a c (xs ++ ys)
WritesFront-after a b c xs ys first second = record {
  front = xs ++ second.front;
  lost = second.lost;
  split = ap (λ l. xs ++ l) second.split ∙ sym (append_assoc xs second.front second.lost);
  appended = Appends-trans a.held b.held c.held xs second.front first.appended second.appended;
  failed = omega arith;
  flushed = omega arith;
}

-- what was to follow isn't written either
pub WritesFront-more : (a b : SinkState) (xs ys : List ℕ) → WritesFront a b xs → WritesFront a b (xs ++ ys)
WritesFront-more a b xs ys part = record {
  front = part.front;
  lost = part.lost ++ ys;
  split = ap (λ l. l ++ ys) part.split ∙ append_assoc part.front part.lost ys;
  appended = part.appended;
  failed = part.failed;
  flushed = part.flushed;
}

-- ---- one more call of `write`, for what follows the bytes that were written

pub Writes-step : (a b c : SinkState) (bytes : List ℕ) (done n : ℕ) → Writes a b (take done bytes)
    → Appends b.held c.held (take n (take (length bytes - done) (drop done bytes))) → c.failures ≡ b.failures → c.flushes ≡ b.flushes
    → Writes a c (take (done + n) bytes)
Writes-step a b c bytes done n before appended sound flushed =
    subst (Writes a c) (sym (take-add done n bytes))
    (Writes-trans a b c (take done bytes) (take n (drop done bytes)) before (record { appended = subst (λ l. Appends b.held c.held (take n l)) (take_rest bytes done) appended; sound = sound; flushed = flushed }))

pub WritesFront-step : (a b c : SinkState) (bytes : List ℕ) (done : ℕ) → Writes a b (take done bytes)
    → Keeps b.held c.held → c.failures ≡ b.failures + 1 → c.flushes ≡ b.flushes → WritesFront a c bytes
WritesFront-step a b c bytes done before kept failed flushed = record {
  front = take done bytes;
  lost = drop done bytes;
  split = sym (take-append-drop done bytes);
  appended = Appends-kept a.held b.held c.held (take done bytes) before.appended kept;
  failed = omega arith;
  flushed = omega arith;
}

-- ---- for `put`

-- the buffered bytes were written whole, and the bytes after them too
pub Puts-past : (old xs : List ℕ) (a b c : SinkState) → Writes a b old → Writes b c xs → Puts old [] a c xs
Puts-past old xs a b c first second =
    record { sent = old ++ xs; split = sym (append-nil (old ++ xs)); written = Writes-trans a b c old xs first second }

-- the buffered bytes were written whole, and these bytes are buffered
pub Puts-behind : (old xs : List ℕ) (a b : SinkState) → Writes a b old → Puts old xs a b xs
Puts-behind old xs a b first = record { sent = old; split = refl; written = first }

pub ruleset putting = (Puts-past, Puts-behind, WritesFront-after, WritesFront-more)

-- ---- for `put_parts`

pub joined-more : (parts : List (Bor (List ℕ))) (i : ℕ) (d : Bor (List ℕ)) → i < length parts
    → joined (take (i + 1) parts) ≡ joined (take i parts) ++ (get_or parts i d).now
joined-more parts i d inside =
    let part : Bor (List ℕ) → List ℕ = λ p. p.now in
    ap joined (take_more parts i d inside) ∙ flat_map-append part (take i parts) (get_or parts i d ∷ []) ∙ ap (λ l. joined (take i parts) ++ l) (append-nil (get_or parts i d).now)

-- no part was put yet
pub Puts-nil : (old : List ℕ) (a : SinkState) → Puts old old a a []
Puts-nil old a = record { sent = []; split = append-nil old; written = Writes-nil a }

-- one more part was put after those before
pub Puts-more : (parts : List (Bor (List ℕ))) (i : ℕ) (d : Bor (List ℕ)) (old mid new : List ℕ) (a b c : SinkState) → i < length parts
    → Puts old mid a b (joined (take i parts)) → Puts mid new b c (get_or parts i d).now → Puts old new a c (joined (take (i + 1) parts))
Puts-more parts i d old mid new a b c inside p q =
    let part = (get_or parts i d).now in
    record {
      sent = p.sent ++ q.sent;
      split = ap (λ l. old ++ l) (joined-more parts i d inside) ∙ sym (append_assoc old (joined (take i parts)) part) ∙ ap (λ l. l ++ part) p.split
          ∙ append_assoc p.sent mid part ∙ ap (λ l. p.sent ++ l) q.split ∙ sym (append_assoc p.sent q.sent new);
      written = Writes-trans a b c p.sent q.sent p.written q.written;
    }

-- all parts were put
pub Puts-all : (parts : List (Bor (List ℕ))) (i : ℕ) (old new : List ℕ) (a b : SinkState) → length parts ≤ i
    → Puts old new a b (joined (take i parts)) → Puts old new a b (joined parts)
Puts-all parts i old new a b all p = subst (λ ps. Puts old new a b (joined ps)) (take_all i parts all) p

-- the parts so far were put, and the sink took a prefix of what is buffered after them
front_of_parts : (parts : List (Bor (List ℕ))) (i : ℕ) (old mid xs : List ℕ) (a b c : SinkState)
    → Puts old mid a b (joined (take i parts)) → WritesFront b c (mid ++ xs) → WritesFront a c ((old ++ joined (take i parts)) ++ xs)
front_of_parts parts i old mid xs a b c p q =
    subst (WritesFront a c) (sym (append_assoc p.sent mid xs) ∙ ap (λ l. l ++ xs) (sym p.split)) (WritesFront-after a b c p.sent (mid ++ xs) p.written q)

pub WritesFront-part : (parts : List (Bor (List ℕ))) (i : ℕ) (d : Bor (List ℕ)) (old mid : List ℕ) (a b c : SinkState) → i < length parts
    → Puts old mid a b (joined (take i parts)) → WritesFront b c (mid ++ (get_or parts i d).now) → WritesFront a c (old ++ joined parts)
WritesFront-part parts i d old mid a b c inside p q =
    let part : Bor (List ℕ) → List ℕ = λ p. p.now in
    let here = front_of_parts parts i old mid (get_or parts i d).now a b c p q in
    let split : joined parts ≡ joined (take (i + 1) parts) ++ joined (drop (i + 1) parts) =
    ap joined (sym (take-append-drop (i + 1) parts)) ∙ flat_map-append part (take (i + 1) parts) (drop (i + 1) parts) in
    let whole : ((old ++ joined (take i parts)) ++ (get_or parts i d).now) ++ joined (drop (i + 1) parts) ≡ old ++ joined parts =
    ap (λ l. l ++ joined (drop (i + 1) parts)) (append_assoc old (joined (take i parts)) (get_or parts i d).now ∙ ap (λ l. old ++ l) (sym (joined-more parts i d inside)))
    ∙ append_assoc old (joined (take (i + 1) parts)) (joined (drop (i + 1) parts)) ∙ ap (λ l. old ++ l) (sym split) in
    subst (WritesFront a c) whole (WritesFront-more a c ((old ++ joined (take i parts)) ++ (get_or parts i d).now) (joined (drop (i + 1) parts)) here)

-- the same, with the error
pub WritesUntil-part : (broken : Broken) (parts : List (Bor (List ℕ))) (i : ℕ) (d : Bor (List ℕ)) (old mid : List ℕ) (a b c : SinkState) → i < length parts
    → Puts old mid a b (joined (take i parts)) → WritesUntil broken b c (mid ++ (get_or parts i d).now) → WritesUntil broken a c (old ++ joined parts)
WritesUntil-part Write parts i d old mid a b c inside p q = WritesFront-part parts i d old mid a b c inside p q
WritesUntil-part Read parts i d old mid a b c inside p q = absurd q
WritesUntil-part Turns parts i d old mid a b c inside p q = absurd q
WritesUntil-part Memory parts i d old mid a b c inside p q = absurd q

pub ruleset putting_parts = (Puts-nil, Puts-more, Puts-all)

-- ---- for `send_parts`

-- some bytes were put, and the buffered ones are written
pub Writes-put : (old mid xs : List ℕ) (a b c : SinkState) → Puts old mid a b xs → Writes b c mid → Writes a c (old ++ xs)
Writes-put old mid xs a b c p q = subst (Writes a c) (sym p.split) (Writes-trans a b c p.sent mid p.written q)

pub WritesFront-put : (old mid xs : List ℕ) (a b c : SinkState) → Puts old mid a b xs → WritesFront b c mid → WritesFront a c (old ++ xs)
WritesFront-put old mid xs a b c p q = subst (WritesFront a c) (sym p.split) (WritesFront-after a b c p.sent mid p.written q)

pub ruleset sending = (Writes-put)

-- the same, with the error
pub WritesUntil-put : (broken : Broken) (old mid xs : List ℕ) (a b c : SinkState) → Puts old mid a b xs → WritesUntil broken b c mid → WritesUntil broken a c (old ++ xs)
WritesUntil-put Write old mid xs a b c p q = WritesFront-put old mid xs a b c p q
WritesUntil-put Read old mid xs a b c p q = absurd q
WritesUntil-put Turns old mid xs a b c p q = absurd q
WritesUntil-put Memory old mid xs a b c p q = absurd q
