-- What a writer has taken, write by write.
use Rattle.std.proofs.Common.{◌≡◌, ℕ, ◌+◌, ◌-◌, List, ◌∷◌, ◌++◌, length, take, drop, Option, ap, sym, subst, ◌∙◌, append_assoc, take-append-drop}
use Rattle.std.specs.Prelude.{encode_utf8_all, Result, Ok, Err, OnErr}
use Rattle.std.specs.Str.{IsUtf8, chars}
use Rattle.std.specs.Io.KnownBytes.{Appends, Keeps}
use Rattle.std.proofs.lemmas.List.{take_rest}
use Rattle.std.proofs.lemmas.Str.{encodes-append, encodes-chars}
use Rattle.ropey.specs.Chunks.{text_of}
use Rattle.ropey.specs.Writing.{AppendsFront}
use Rattle.std.proofs.Math.Seq.{take-add}
use Rattle.std.proofs.KnownBytes.{Appends-trans, Appends-kept}

-- ---- a front of some bytes, and some of the next ones
pub front_step : (a b c : Option (List ℕ)) (bytes : List ℕ) (done n : ℕ) → Appends a b (take done bytes) → Appends b c (take n (take (length bytes - done) (drop done bytes))) → Appends a c (take (done + n) bytes)
front_step a b c bytes done n first next =
    subst (Appends a c) (sym (take-add done n bytes))
    (Appends-trans a b c (take done bytes) (take n (drop done bytes)) first (subst (λ (bs : List ℕ). Appends b c (take n bs)) (take_rest bytes done) next))

pub front_taken : (a b : Option (List ℕ)) (bytes : List ℕ) (done : ℕ) → Appends a b (take done bytes) → AppendsFront a b bytes
front_taken a b bytes done taken = record { front = take done bytes; rest = drop done bytes; parts = sym (take-append-drop done bytes); appended = taken }

-- and then nothing
pub front_kept : (a b c : Option (List ℕ)) (bytes : List ℕ) (done : ℕ) → Appends a b (take done bytes) → Keeps b c → AppendsFront a c bytes
front_kept a b c bytes done taken kept = front_taken a c bytes done (Appends-kept a b c (take done bytes) taken kept)

-- a front of the bytes that come next
pub front_more : (a b c : Option (List ℕ)) (done bytes after text : List ℕ) → Appends a b done → AppendsFront b c bytes → done ++ (bytes ++ after) ≡ text → AppendsFront a c text
front_more a b c done bytes after text first next whole = record {
  front = done ++ next.front;
  rest = next.rest ++ after;
  parts = sym whole ∙ ap (λ (t : List ℕ). done ++ (t ++ after)) next.parts ∙ ap (λ (t : List ℕ). done ++ t) (append_assoc next.front next.rest after) ∙ sym (append_assoc done next.front (next.rest ++ after));
  appended = Appends-trans a b c done next.front first next.appended;
}

-- ---- the bytes of a chunk, and of those behind it
pub chunk_bytes : (chunk : List ℕ) (ahead after : List (List ℕ)) → ahead ≡ chars chunk ∷ after → IsUtf8 chunk → encode_utf8_all (text_of ahead) ≡ chunk ++ encode_utf8_all (text_of after)
chunk_bytes chunk ahead after e utf8 =
    ap (λ ps. encode_utf8_all (text_of ps)) e ∙ encodes-append (chars chunk) (text_of after) ∙ ap (λ (bs : List ℕ). bs ++ encode_utf8_all (text_of after)) (encodes-chars chunk utf8)

-- ---- what holds of every result
pub on_err : {T E : Type 0} (r : Result T E) (P : Type 0) → P → OnErr r P
on_err (Ok x) P p = tt
on_err (Err e) P p = p
