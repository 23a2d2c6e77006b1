-- A command's line and what follows it, read one after the other.
use Rattle.std.proofs.Common.{◌≡◌, ◌↔◌, ℕ, ◌<◌, List, [], ◌∷◌, ◌++◌, length, replicate, Some, Result, Ok, Err, refl, sym, ◌∙◌, subst, inr, append_assoc, arith}
use Rattle.std.proofs.lemmas.List.{length-replicate}
use Rattle.rope_search_io.specs.declared.faults.Broken.{Broken}
use Rattle.rope_search_io.specs.Sources.{SourceState}
use Rattle.rope_search_io.specs.ReadBuffer.{Unread, Takes}
use Rattle.rope_search.specs.declared.commands.CommandOf.{CommandOf}
use Rattle.rope_search.specs.declared.payloads.Collected.{Collected}
use Rattle.rope_search.specs.declared.requests.Request.{Request}
use Rattle.rope_search.specs.declared.requests.Request.TheVariants.{Text, Given, End}
use Rattle.rope_search.specs.declared.endings.Ended.TheVariants.{Input, Command, Cut}
use Rattle.rope_search.specs.Order.{Order, SetText, EditText, UndoEdit, RedoEdit, PrintText, ForkBuffer, SetPattern, DropPattern, ListMatches, FindNext, ReplaceAll, UseBuffer}
use Rattle.rope_search.specs.Stands.{limit_on}
use Rattle.rope_search.specs.Header.{IsHeaderOf}
use Rattle.rope_search.specs.Reads.{IsLine, payload_of}
use Rattle.rope_search_texts.specs.declared.arriving.ArrivingText.{ArrivingText}
use Rattle.rope_search_texts.specs.Arriving.{Arrives}
use Rattle.rope_search.specs.Requests.{Collects, IsReadAs, IsTextOf, TakesGathered, TakesRestOf, TakesPartOf, TakesRest, TakesRequest}
use Rattle.rope_search.proofs.TakesLemmas.{Takes-trans, TakesLast-after, TakesUntil-after}

-- the payload of each command with this header has this number of bytes
abbrev pub HasPayload : CommandOf ℕ → ℕ → Type 0
HasPayload header len = (order : Order) → IsHeaderOf header order → length (payload_of order) ≡ len

pub has_text : (len : ℕ) → HasPayload (SetText len) len
has_text len (SetText bytes) is = is
has_text len (EditText from to bytes) is = absurd is
has_text len UndoEdit is = absurd is
has_text len RedoEdit is = absurd is
has_text len PrintText is = absurd is
has_text len ForkBuffer is = absurd is
has_text len (SetPattern bytes) is = absurd is
has_text len DropPattern is = absurd is
has_text len ListMatches is = absurd is
has_text len (FindNext from) is = absurd is
has_text len (ReplaceAll bytes) is = absurd is
has_text len (UseBuffer k) is = absurd is

no_bytes : (bytes : List ℕ) → length bytes ≡ 0 → [] ≡ bytes
no_bytes [] none = refl
no_bytes (b ∷ bytes) none = absurd (omega arith)

-- and these are the payload of one of them, whatever the bytes
pub order_for : (header : CommandOf ℕ) (len : ℕ) (bytes : List ℕ) → HasPayload header len → length bytes ≡ len
    → (order : Order) × IsHeaderOf header order × (payload_of order ≡ bytes)
order_for (SetText n) len bytes has is = (SetText bytes, is ∙ sym (has (SetText (replicate n 0)) (length-replicate n 0)) ∙ length-replicate n 0, refl)
order_for (EditText from to n) len bytes has is =
    (EditText from to bytes, (refl, refl, is ∙ sym (has (EditText from to (replicate n 0)) (refl, refl, length-replicate n 0)) ∙ length-replicate n 0), refl)
order_for UndoEdit len bytes has is = (UndoEdit, tt, no_bytes bytes (is ∙ sym (has UndoEdit tt)))
order_for RedoEdit len bytes has is = (RedoEdit, tt, no_bytes bytes (is ∙ sym (has RedoEdit tt)))
order_for PrintText len bytes has is = (PrintText, tt, no_bytes bytes (is ∙ sym (has PrintText tt)))
order_for ForkBuffer len bytes has is = (ForkBuffer, tt, no_bytes bytes (is ∙ sym (has ForkBuffer tt)))
order_for (SetPattern n) len bytes has is = (SetPattern bytes, is ∙ sym (has (SetPattern (replicate n 0)) (length-replicate n 0)) ∙ length-replicate n 0, refl)
order_for DropPattern len bytes has is = (DropPattern, tt, no_bytes bytes (is ∙ sym (has DropPattern tt)))
order_for ListMatches len bytes has is = (ListMatches, tt, no_bytes bytes (is ∙ sym (has ListMatches tt)))
order_for (FindNext from) len bytes has is = (FindNext from, refl, no_bytes bytes (is ∙ sym (has (FindNext from) refl)))
order_for (ReplaceAll n) len bytes has is = (ReplaceAll bytes, is ∙ sym (has (ReplaceAll (replicate n 0)) (length-replicate n 0)) ∙ length-replicate n 0, refl)
order_for (UseBuffer k) len bytes has is = (UseBuffer k, refl, no_bytes bytes (is ∙ sym (has (UseBuffer k) refl)))

-- a payload that was read whole
pub TakesRest-whole : (limit len : ℕ) (header : CommandOf ℕ) (kept : Collected) (old new : Unread) (s t : SourceState) → HasPayload header len
    → TakesGathered Collects (Ok (Some kept)) (limit_on header limit) len old new s t → TakesRestOf header (IsReadAs limit header kept) old new s t
TakesRest-whole limit len header kept old new s t has h =
    let o = order_for header len h.0 has h.1 in
    let payload : Collects (limit_on header limit) (length (payload_of o.0)) kept (payload_of o.0) =
    subst (λ bs. Collects (limit_on header limit) (length bs) kept bs) (sym o.2) (subst (λ n. Collects (limit_on header limit) n kept h.0) (sym h.1) h.2) in
    record { order = o.0; of_header = o.1; is = record { of_header = o.1; payload = payload }; taken = subst (Takes old new s t) (sym o.2) h.3 }

-- a text that was read whole
pub TakesRest-text : (limit len : ℕ) (text : ArrivingText) (old new : Unread) (s t : SourceState)
    → TakesGathered Arrives (Ok (Some text)) limit len old new s t → TakesRestOf (SetText len) (IsTextOf limit text) old new s t
TakesRest-text limit len text old new s t h =
    record { order = SetText h.0; of_header = h.1; is = record { payload = h.0; sets = refl; arrived = subst (λ n. Arrives limit n text h.0) (sym h.1) h.2 }; taken = h.3 }

-- a payload that was read in part
pub TakesPart-of : (header : CommandOf ℕ) (len : ℕ) (Taken : List ℕ → Type 0) → HasPayload header len → (bytes : List ℕ) × (length bytes < len) × Taken bytes → TakesPartOf header Taken
TakesPart-of header len Taken has h =
    let o = order_for header len (replicate len 0) has (length-replicate len 0) in
    record { order = o.0; of_header = o.1; part = h.0; short = omega (arith, h.1, has o.0 o.1); taken = h.2 }

-- the bytes of a line, its LF, and what follows
line_then : (line rest : List ℕ) → (line ++ 10 ∷ []) ++ rest ≡ line ++ 10 ∷ rest
line_then line rest = append_assoc line (10 ∷ []) rest

-- a command's line, and then what follows it
pub TakesRequest-after : (limit : ℕ) (header : CommandOf ℕ) (line : List ℕ) (r : Result Request Broken) (a b c : Unread) (s t u : SourceState)
    → ((o : Order) → IsLine o line ↔ IsHeaderOf header o) → Takes a b s t (line ++ 10 ∷ []) → TakesRest limit header r b c t u → TakesRequest limit r a c s u
TakesRequest-after limit header line (Ok (Text text)) a b c s t u told p q = record {
  order = q.order;
  bytes = (line ++ 10 ∷ []) ++ payload_of q.order;
  spells = record { line = line; is_line = (told q.order).1 q.of_header; whole = line_then line (payload_of q.order) };
  is = q.is;
  taken = Takes-trans a b c s t u (line ++ 10 ∷ []) (payload_of q.order) p q.taken;
}
TakesRequest-after limit header line (Ok (Given given kept)) a b c s t u told p q = record {
  order = q.order;
  bytes = (line ++ 10 ∷ []) ++ payload_of q.order;
  spells = record { line = line; is_line = (told q.order).1 q.of_header; whole = line_then line (payload_of q.order) };
  is = q.is;
  taken = Takes-trans a b c s t u (line ++ 10 ∷ []) (payload_of q.order) p q.taken;
}
TakesRequest-after limit header line (Ok (End Cut)) a b c s t u told p q = record {
  rest = (line ++ 10 ∷ []) ++ q.part;
  ends = inr (record { order = q.order; line = line; part = q.part; is_line = (told q.order).1 q.of_header; whole = line_then line q.part; short = q.short });
  taken = TakesLast-after a b c s t u (line ++ 10 ∷ []) q.part p q.taken;
}
TakesRequest-after limit header line (Ok (End Input)) a b c s t u told p q = absurd q
TakesRequest-after limit header line (Ok (End Command)) a b c s t u told p q = absurd q
TakesRequest-after limit header line (Err broken) a b c s t u told p q = record {
  rest = (line ++ 10 ∷ []) ++ q.part;
  unfinished = inr (inr (record { order = q.order; line = line; part = q.part; is_line = (told q.order).1 q.of_header; whole = line_then line q.part; short = q.short }));
  taken = TakesUntil-after broken a b c s t u (line ++ 10 ∷ []) q.part p q.taken;
}
