-- A text that is written chunk by chunk.
use Rattle.std.proofs.Common.{◌≡◌, ℕ, List, [], ◌∷◌, ◌++◌, length, chars, codes, decimal, sym, ap, subst, ◌∙◌, append-nil, append_assoc}
use Rattle.std.specs.Prelude.{Result, Ok, Err, MatchResult}
use Rattle.std.specs.Str.{IsUtf8}
use Rattle.std.proofs.lemmas.Str.{encodes-append, encodes-chars}
use Rattle.ropey.specs.Chunks.{text_of}
use Rattle.rope_search_io.specs.Sources.{SinkState}
use Rattle.rope_search_io.specs.WriteBuffer.{Writes, WritesUntil, Puts}
use Rattle.rope_search_io.specs.declared.faults.Broken.{Broken}
use Rattle.rope_search_reports.specs.Text.{bytes_of}
use Rattle.rope_search.specs.Shows.{shown_text}
use Rattle.rope_search.proofs.PutLemmas.{Puts-nil, Puts-trans, Writes-put, WritesUntil-put}

bytes_of-piece : (piece : List ℕ) (pieces : List (List ℕ)) → bytes_of (text_of (piece ∷ pieces)) ≡ bytes_of piece ++ bytes_of (text_of pieces)
bytes_of-piece piece pieces = encodes-append piece (text_of pieces)

-- this number of bytes of a text was appended to the buffered ones, and these chunks of it are left
pub record PutSoFar (text : List ℕ) (left : List (List ℕ)) (old new : List ℕ) (sink sink' : SinkState) : Type 0 where
  pub done : List ℕ
  pub parts : bytes_of text ≡ done ++ bytes_of (text_of left)
  pub put : Puts old new sink sink' done

pub PutSoFar-start : (pieces left : List (List ℕ)) (old : List ℕ) (sink : SinkState) → left ≡ pieces → PutSoFar (text_of pieces) left old old sink sink
PutSoFar-start pieces left old sink all = record { done = []; parts = ap (λ ps. bytes_of (text_of ps)) (sym all); put = Puts-nil old sink }

-- the bytes of the next chunk, and those of the others
next : (left after : List (List ℕ)) (chunk bytes : List ℕ) → left ≡ chars chunk ∷ after → IsUtf8 chunk → bytes ≡ chunk → bytes_of (text_of left) ≡ bytes ++ bytes_of (text_of after)
next left after chunk bytes first utf8 is =
    ap (λ ps. bytes_of (text_of ps)) first ∙ bytes_of-piece (chars chunk) after ∙ ap (λ bs. bs ++ bytes_of (text_of after)) (encodes-chars chunk utf8 ∙ sym is)

-- one more chunk
pub PutSoFar-step : (text : List ℕ) (left after : List (List ℕ)) (old mid new chunk bytes : List ℕ) (a b c : SinkState) → PutSoFar text left old mid a b
    → left ≡ chars chunk ∷ after → IsUtf8 chunk → bytes ≡ chunk → Puts mid new b c bytes → PutSoFar text after old new a c
PutSoFar-step text left after old mid new chunk bytes a b c sofar first utf8 is put = record {
  done = sofar.done ++ bytes;
  parts = sofar.parts ∙ ap (λ bs. sofar.done ++ bs) (next left after chunk bytes first utf8 is) ∙ sym (append_assoc sofar.done bytes (bytes_of (text_of after)));
  put = Puts-trans old mid new a b c sofar.done bytes sofar.put put;
}

-- a chunk was written in part
pub WritesUntil-chunk : (broken : Broken) (text : List ℕ) (left after : List (List ℕ)) (old mid chunk bytes : List ℕ) (a b c : SinkState) → PutSoFar text left old mid a b
    → left ≡ chars chunk ∷ after → IsUtf8 chunk → bytes ≡ chunk → WritesUntil broken b c (mid ++ bytes) → WritesUntil broken a c (old ++ bytes_of text)
WritesUntil-chunk broken text left after old mid chunk bytes a b c sofar first utf8 is sent =
    subst (λ bs. WritesUntil broken a c (old ++ bs)) (sym (sofar.parts ∙ ap (λ bs. sofar.done ++ bs) (next left after chunk bytes first utf8 is)))
    (WritesUntil-put broken old mid sofar.done bytes (bytes_of (text_of after)) a b c sofar.put sent)

-- all chunks were appended to the buffered bytes
pub PutSoFar-end : (text : List ℕ) (left : List (List ℕ)) (old new : List ℕ) (a b : SinkState) → PutSoFar text left old new a b → left ≡ []
    → Puts old new a b (bytes_of text)
PutSoFar-end text left old new a b sofar none =
    subst (Puts old new a b) (sym (sofar.parts ∙ ap (λ ps. sofar.done ++ bytes_of (text_of ps)) none ∙ append-nil sofar.done)) sofar.put

-- ---- a text with its length

-- the line with the length was put, then the text, and then the LF after it was written, or a
-- prefix of all that
pub Writes-text : (r : Result Unit Broken) (bytes head tail mid new : List ℕ) (a b c d : SinkState) → Puts [] mid a b head → Puts mid new b c bytes
    → head ++ (bytes ++ tail) ≡ shown_text bytes → MatchResult r (λ _. Writes c d (new ++ tail)) (λ broken. WritesUntil broken c d (new ++ tail))
    → MatchResult r (λ _. Writes a d (shown_text bytes)) (λ broken. WritesUntil broken a d (shown_text bytes))
Writes-text (Ok done) bytes head tail mid new a b c d p q is sent =
    subst (Writes a d) (append_assoc head bytes tail ∙ is) (Writes-put [] new (head ++ bytes) tail a c d (Puts-trans [] mid new a b c head bytes p q) sent)
Writes-text (Err broken) bytes head tail mid new a b c d p q is sent =
    subst (WritesUntil broken a d) (ap (λ bs. (head ++ bytes) ++ bs) (append-nil tail) ∙ append_assoc head bytes tail ∙ is)
    (WritesUntil-put broken [] new (head ++ bytes) tail [] a c d (Puts-trans [] mid new a b c head bytes p q) sent)

-- the text was written in part
pub WritesUntil-text : (broken : Broken) (bytes head tail mid : List ℕ) (a b c : SinkState) → Puts [] mid a b head → WritesUntil broken b c (mid ++ bytes)
    → head ++ (bytes ++ tail) ≡ shown_text bytes → WritesUntil broken a c (shown_text bytes)
WritesUntil-text broken bytes head tail mid a b c p sent is = subst (WritesUntil broken a c) is (WritesUntil-put broken [] mid head bytes tail a b c p sent)

-- the line with the length was written in part
pub WritesUntil-head : (broken : Broken) (bytes head tail : List ℕ) (a b : SinkState) → WritesUntil broken a b ([] ++ head)
    → head ++ (bytes ++ tail) ≡ shown_text bytes → WritesUntil broken a b (shown_text bytes)
WritesUntil-head broken bytes head tail a b sent is =
    subst (WritesUntil broken a b) is (WritesUntil-put broken [] [] [] head (bytes ++ tail) a a b (Puts-nil [] a) sent)

parts-shown : (word len lf bytes : List ℕ) → (word ++ (len ++ (lf ++ []))) ++ (bytes ++ (lf ++ [])) ≡ (((word ++ len) ++ lf) ++ bytes) ++ lf
parts-shown word len lf bytes =
    ap (λ l. (word ++ (len ++ l)) ++ (bytes ++ l)) (append-nil lf)
    ∙ ap (λ l. l ++ (bytes ++ lf)) (sym (append_assoc word len lf))
    ∙ sym (append_assoc ((word ++ len) ++ lf) bytes lf)

-- the parts of a shown text
pub shown : (bytes len : List ℕ) → len ≡ decimal (length bytes) → (codes "text " ++ (len ++ (codes "\n" ++ []))) ++ (bytes ++ (codes "\n" ++ [])) ≡ shown_text bytes
shown bytes len is = parts-shown (codes "text ") len (codes "\n") bytes ∙ ap (λ l. (((codes "text " ++ l) ++ codes "\n") ++ bytes) ++ codes "\n") is
