use Rattle.std.proofs.Common.{◌<◌, ℕ, IsTrue, nat_lt, length, ap, arith}
use Rattle.std.specs.Str.{chars}
use Rattle.std.proofs.lemmas.Bool.Decides.{nat_tests}
use Rattle.std.proofs.lemmas.Str.{encodes-chars}
use Rattle.ropey.specs.Chunks.{text_of}
use Rattle.rope_search.proofs.PartLaws.{replaced_len, marked_within}
use Rattle.rope_search.proofs.parts.Part.is_over.Goals as goal

-- a comparison returns what it compares
told_less : (a b : ℕ) → a < b → IsTrue (nat_lt a b)
told_less a b less = grind (arith, nat_tests, less)

less_told : (a b : ℕ) → IsTrue (nat_lt a b) → a < b
less_told a b told = grind (arith, nat_tests, told)

pub overflow_sub-kept : goal.overflow_sub-kept
overflow_sub-kept c = (marked_within (text_of c.args.text.now) c.args.self c.requires).0

pub overflow_sub-kept-2 : goal.overflow_sub-kept-2
overflow_sub-kept-2 c =
    let within = marked_within (text_of c.args.text.now) c.args.self c.requires in
    omega (arith, within.0, within.1, c.len_bytes.ensures.bytes)

pub returns-then-limit-inserted : goal.returns-then-limit-inserted
returns-then-limit-inserted c =
    let text = text_of c.args.text.now in
    let len = replaced_len text c.args.self (chars c.args.inserted.now) c.requires in
    let within = marked_within text c.args.self c.requires in
    let bytes = ap length (encodes-chars c.args.inserted.now c.utf8.inserted) in (
      λ t. omega (arith, len, within.0, within.1, bytes, c.if-limit-inserted.true),
      λ over. told_less c.args.limit (length c.args.inserted.now) c.if-limit-inserted.true,
    )

pub returns-else-limit-inserted : goal.returns-else-limit-inserted
returns-else-limit-inserted c =
    let text = text_of c.args.text.now in
    let len = replaced_len text c.args.self (chars c.args.inserted.now) c.requires in
    let within = marked_within text c.args.self c.requires in
    let bytes = ap length (encodes-chars c.args.inserted.now c.utf8.inserted) in (
      λ t. omega (arith, len, within.0, within.1, bytes, c.len_bytes.ensures.bytes, c.if-limit-inserted.false, less_told _ _ t),
      λ over. told_less _ _ (omega (arith, len, within.0, within.1, bytes, c.len_bytes.ensures.bytes, c.if-limit-inserted.false, over)),
    )
