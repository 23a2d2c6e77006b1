-- A text that is appended to another, part by part.
use Rattle.std.proofs.Common.{◌≡◌, ℕ, List, ◌++◌, length, take, drop, ap, sym, ◌∙◌, append_assoc}
use Rattle.std.proofs.Math.Seq.{take-append_seam}
use Rattle.std.proofs.Common.{string_bytes, Result, Ok, Err, OnErr, OnOk, is_ok, if◌then◌else◌}
use Rattle.std.specs.Str.{chars}
use Rattle.std.specs.declared.string.String.{String}
use Rattle.std.specs.declared.alloc.Global.{Global}
use Rattle.std.proofs.lemmas.List.{take-append-drop}
use Rattle.std.proofs.lemmas.Str.{chars-append, IsUtf8-string_bytes}

-- a prefix of the whole follows the old text, and this is left of it
pub record IsPushed (old new left whole : List ℕ) : Type 0 where
  pub front : List ℕ
  pub new_is : new ≡ old ++ front
  pub parts : whole ≡ front ++ left

-- some prefix of a text, after the old one
abbrev pub HasFront : List ℕ → List ℕ → List ℕ → Type 0
HasFront old new whole = (len : ℕ) × (new ≡ old ++ take len whole)

pub pushed-next : (old new left whole part behind new' : List ℕ) → IsPushed old new left whole → left ≡ part ++ behind → new' ≡ new ++ part
    → IsPushed old new' behind whole
pushed-next old new left whole part behind new' pushed is new-is = record {
  front = pushed.front ++ part;
  new_is = new-is ∙ ap (λ xs. xs ++ part) pushed.new_is ∙ append_assoc old pushed.front part;
  parts = pushed.parts ∙ ap (λ xs. pushed.front ++ xs) is ∙ sym (append_assoc pushed.front part behind);
}

pub pushed-front : (old new left whole : List ℕ) → IsPushed old new left whole → HasFront old new whole
pushed-front old new left whole pushed =
    (length pushed.front, pushed.new_is ∙ ap (λ xs. old ++ xs) (sym (ap (take (length pushed.front)) pushed.parts ∙ take-append_seam pushed.front left)))

-- and a prefix of the next part
pub pushed-part : (old new left whole part behind new' : List ℕ) → IsPushed old new left whole → left ≡ part ++ behind → HasFront new new' part
    → HasFront old new' whole
pushed-part old new left whole part behind new' pushed is has =
    let some = take has.0 part in
    let rest = drop has.0 part ++ behind in
    let left-is : left ≡ some ++ rest = is ∙ ap (λ xs. xs ++ behind) (sym (take-append-drop has.0 part)) ∙ append_assoc some (drop has.0 part) behind in
    pushed-front old new' rest whole (pushed-next old new left whole some rest new' pushed left-is has.1)

-- after the bytes of a string
pub pushed-chars : (s s' : String Global) (part : List ℕ) → string_bytes s' ≡ string_bytes s ++ part
    → chars (string_bytes s') ≡ chars (string_bytes s) ++ chars part
pushed-chars s s' part is = ap chars is ∙ chars-append (string_bytes s) part (IsUtf8-string_bytes s)

pub on_err : {T E : Type 0} (r : Result T E) (P : Type 0) → P → OnErr r P
on_err (Ok x) P p = tt
on_err (Err e) P p = p

pub pushed-ok : {E : Type 0} (r : Result (Unit {0}) E) (s s' : String Global) (part : List ℕ)
    → string_bytes s' ≡ (if is_ok r then string_bytes s ++ part else string_bytes s)
    → OnOk r (chars (string_bytes s') ≡ chars (string_bytes s) ++ chars part)
pushed-ok (Ok x) s s' part is = pushed-chars s s' part is
pushed-ok (Err e) s s' part is = tt
