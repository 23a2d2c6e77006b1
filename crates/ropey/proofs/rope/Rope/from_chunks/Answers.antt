use Rattle.std.proofs.Common.{◌≡◌, ◌∷◌, [], ◌++◌, ap, sym, ◌∙◌, arith, rules, Err}
use Rattle.std.proofs.lemmas.Grind.{common_steps}
use Rattle.std.specs.Str.{chars}
use Rattle.std.proofs.iter.Next.{Yields-more}
use Rattle.str_indices.specs.Text.{byte_len}
use Rattle.ropey_tree.specs.declared.error.Error.TheVariants.{Size}
use Rattle.ropey.specs.Chunks.{joined}
use Rattle.ropey.proofs.Making.{joined-last}
use Rattle.ropey.proofs.rope.Rope.from_chunks.Goals as goal

pub returns-in_err-append_part-clause-size : goal.returns-in_err-append_part-clause-size
returns-in_err-append_part-clause-size g c e =
    let it = c.into_iter-chunk-iterator in
    let parts = c.loop-chunk.yielded in
    let part = c.in-Some.chunk in
    let refused : c.append_part.result ≡ Err Size = first_of (search rules, grind (arith, common_steps)) in
    let over = c.append_part.ensures.size refused in
    let more = Yields-more g.I.IntoIter.Iterator.next_gives it.result parts c.loop-chunk.chunk-iterator part c.next.new.self c.loop-chunk.yielded_by c.in-Some.ensures.steps in
    let text : joined (parts ++ part ∷ []) ≡ c.loop-chunk.builder ++ chars part.now = joined-last parts part ∙ ap (λ t. t ++ chars part.now) (sym c.loop-chunk.invariant) in
    (it.result, parts ++ part ∷ [], c.next.new.self, it.ensures.into_iter_gives, more, omega (arith, over, ap byte_len text))
