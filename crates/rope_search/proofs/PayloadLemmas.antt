-- What is kept of a payload, part by part.
use Rattle.std.proofs.Common.{◌↔◌, ℕ, ◌<◌, Bool, IsTrue, List, [], ◌++◌, length, IsUtf8, sym, subst, append_assoc, append-nil}
use Rattle.rope_search_io.specs.Utf8Judge.{Judging, Continues}
use Rattle.rope_search.specs.declared.payloads.Collected.{Collected}
use Rattle.rope_search.specs.declared.payloads.Collected.TheVariants.{Judged}
use Rattle.rope_search.specs.Requests.{Collects, GathersMore, KeptSoFar}

-- nothing is checked yet
pub Collects-judged : (limit len : ℕ) (judge : Judging) → limit < len → ((more : List ℕ) → Continues judge more ↔ IsUtf8 more) → Collects limit len (Judged judge) []
Collects-judged limit len judge long fresh = (long, λ more. ((fresh more).1, (fresh more).0))

-- more bytes are checked
pub GathersMore-judged : (old new : Judging) (bytes : List ℕ) → ((more : List ℕ) → Continues old (bytes ++ more) ↔ Continues new more)
    → GathersMore Collects (Judged old) (Judged new) bytes
GathersMore-judged old new bytes fed limit len before h = (
  h.0,
  λ more.
      let same = append_assoc before bytes more in (
        λ text. (fed more).0 ((h.1 (bytes ++ more)).0 (subst IsUtf8 same text)),
        λ judged. subst IsUtf8 (sym same) ((h.1 (bytes ++ more)).1 ((fed more).1 judged)),
      ),
)

-- all bytes were checked
pub judged_payload : (limit : ℕ) (bytes : List ℕ) (judge : Judging) (utf8 : Bool) → (IsTrue utf8 ↔ Continues judge [])
    → Collects limit (length bytes) (Judged judge) bytes → (limit < length bytes) × (IsTrue utf8 ↔ IsUtf8 bytes)
judged_payload limit bytes judge utf8 told h =
    (h.0, (λ t. subst IsUtf8 (append-nil bytes) ((h.1 []).1 (told.0 t)), λ text. told.1 ((h.1 []).0 (subst IsUtf8 (sym (append-nil bytes)) text))))

pub GathersMore-trans : {K : Type 0} (Keeps : KeptSoFar K) (a b c : K) (xs ys : List ℕ) → GathersMore Keeps a b xs → GathersMore Keeps b c ys → GathersMore Keeps a c (xs ++ ys)
GathersMore-trans Keeps a b c xs ys p q limit len before h =
    subst (Keeps limit len c) (append_assoc before xs ys) (q limit len (before ++ xs) (p limit len before h))

-- no byte is gathered
pub GathersMore-none : {K : Type 0} (Keeps : KeptSoFar K) (a : K) → GathersMore Keeps a a []
GathersMore-none Keeps a limit len before h = subst (Keeps limit len a) (sym (append-nil before)) h
