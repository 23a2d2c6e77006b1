use Rattle.std.proofs.Common.{◌≡◌, ◌≢◌, ◌≤◌, inl, inr, length, refl, ap, sym, ◌∙◌, arith}
use Rattle.std.specs.Str.{chars}
use Rattle.std.proofs.lemmas.Bool.{cases_lt, false≢true}
use Rattle.std.proofs.lemmas.Str.{encodes-chars}
use Rattle.str_indices.specs.Text.{byte_len}
use Rattle.ropey_walk.specs.Slices.{slice_pieces}
use Rattle.ropey_walk.proofs.OnePiece.{OneOrMore, one_or_more}
use Rattle.ropey_walk.proofs.slice.RopeSlice.as_str.Goals as goal
use Rattle.ropey_walk.proofs.slice.RopeSlice.as_str.Goals.{After-len_bytes}

told : (c : After-len_bytes) → OneOrMore (slice_pieces c.args.self.now) (chars c.chunk-chunk.result.text.now)
told c = one_or_more (slice_pieces c.args.self.now) (chars c.chunk-chunk.result.text.now) c.chunk-chunk.result.start c.chunk-chunk.ensures.stands c.chunk-chunk.ensures.cut.cut

len : (c : After-len_bytes) → byte_len (chars c.chunk-chunk.result.text.now) ≡ length c.chunk-chunk.result.text.now
len c = ap length (encodes-chars c.chunk-chunk.result.text.now c.chunk-chunk.ensures.utf8)

few : (c : After-len_bytes) → length c.chunk-chunk.result.text.now ≡ c.len_bytes.result → length (slice_pieces c.args.self.now) ≤ 1
few c e = elim (cases_lt 1 (length (slice_pieces c.args.self.now))) [
  | inl more ↦ absurd (omega (arith, (told c).some more, len c, e, c.len_bytes.ensures.bytes))
  | inr one ↦ one
]

pub returns-then-chunk-len_bytes-clause-one : goal.returns-then-chunk-len_bytes-clause-one
returns-then-chunk-len_bytes-clause-one c =
    let e : length c.chunk-chunk.result.text.now ≡ c.len_bytes.result = omega (arith, c.if-chunk-len_bytes.true) in
    ((λ _. few (goal.at.returns-then-chunk-len_bytes-clause-one c).After-len_bytes e), λ _. refl)

pub returns-then-chunk-len_bytes-clause-text : goal.returns-then-chunk-len_bytes-clause-text
returns-then-chunk-len_bytes-clause-text c =
    let e : length c.chunk-chunk.result.text.now ≡ c.len_bytes.result = omega (arith, c.if-chunk-len_bytes.true) in
    let at = (goal.at.returns-then-chunk-len_bytes-clause-text c).After-len_bytes in
    (told at).all (few at e)

pub returns-else-chunk-len_bytes-clause-one : goal.returns-else-chunk-len_bytes-clause-one
returns-else-chunk-len_bytes-clause-one c =
    let at = (goal.at.returns-else-chunk-len_bytes-clause-one c).After-len_bytes in
    let apart : length c.chunk-chunk.result.text.now ≢ c.len_bytes.result = λ e. absurd (omega (arith, e, c.if-chunk-len_bytes.false)) in
    ((λ some. absurd (false≢true some)), λ one. absurd (apart (sym (len at) ∙ ap byte_len ((told at).all one) ∙ sym c.len_bytes.ensures.bytes)))
