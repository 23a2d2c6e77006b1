use Rattle.std.proofs.Common.{List, ℕ, ◌≡◌, ◌++◌, ap, sym, ◌∙◌, append_assoc}
use Rattle.std.specs.Prelude.{encode_utf8_all}
use Rattle.std.proofs.KnownBytes.{Appends-trans}
use Rattle.ropey.specs.Chunks.{text_of}
use Rattle.ropey.specs.Writing.{AppendsFront}
use Rattle.ropey.proofs.Written.{chunk_bytes, front_more, on_err}
use Rattle.ropey.proofs.rope.Rope.write_to.Goals as goal

pub loop-chunk-preserved : goal.loop-chunk-preserved
loop-chunk-preserved g c =
    let sofar = c.loop-chunk.invariant in
    let step = c.in-Some.ensures.steps in
    let chunk = c.in-Some.chunk.now in
    let after = encode_utf8_all (text_of c.next.new.self.ahead) in
    let bytes = c.as_bytes.ensures.value in (
      sofar.0 ++ c.as_bytes.result.now,
      Appends-trans _ _ _ sofar.0 c.as_bytes.result.now sofar.1 c.in_ok-write_bytes.ensures.ok,
      append_assoc sofar.0 c.as_bytes.result.now after
          ∙ ap (λ (bs : List ℕ). sofar.0 ++ (bs ++ after)) bytes
          ∙ ap (λ (bs : List ℕ). sofar.0 ++ bs) (sym (chunk_bytes chunk c.loop-chunk.chunk-iterator.ahead c.next.new.self.ahead step.0.0 step.1))
          ∙ sofar.2,
    )

pub returns-in_err-write_bytes-clause-err : goal.returns-in_err-write_bytes-clause-err
returns-in_err-write_bytes-clause-err g c =
    let sofar = c.loop-chunk.invariant in
    let step = c.in-Some.ensures.steps in
    let chunk = c.in-Some.chunk.now in
    let text = encode_utf8_all (text_of c.args.self.now) in
    let after = encode_utf8_all (text_of c.next.new.self.ahead) in
    let whole : sofar.0 ++ (c.as_bytes.result.now ++ after) ≡ text =
    ap (λ (bs : List ℕ). sofar.0 ++ (bs ++ after)) c.as_bytes.ensures.value
    ∙ ap (λ (bs : List ℕ). sofar.0 ++ bs) (sym (chunk_bytes chunk c.loop-chunk.chunk-iterator.ahead c.next.new.self.ahead step.0.0 step.1))
    ∙ sofar.2 in
    let before = g.W.Write.contents c.args.writer.now in
    let now = g.W.Write.contents c.write_bytes.new.writer in
    on_err c.from_residual.result (AppendsFront before now text)
    (front_more before (g.W.Write.contents c.loop-chunk.writer) now sofar.0 c.as_bytes.result.now after text sofar.1 c.in_err-write_bytes.ensures.err whole)
