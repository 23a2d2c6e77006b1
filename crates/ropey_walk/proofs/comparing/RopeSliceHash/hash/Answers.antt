use Rattle.std.proofs.Common.{◌≡◌, ◌+◌, ◌-◌, ◌*◌, [], ◌∷◌, length, min, map, arith, ap, sym, ◌∙◌, length-take-le}
use Rattle.std.specs.Fork.{slice_chunk}
use Rattle.std.specs.List.{fold, range_with_len}
use Rattle.std.proofs.lemmas.List.FromFn.{map-range_with_len_more}
use Rattle.std.proofs.lemmas.List.Sums.{fold-append}
use Rattle.ropey_walk.specs.Comparing.{slice_bytes, bytes_left}
use Rattle.ropey_walk.proofs.PartWalks.{is_block}
use Rattle.ropey_walk.proofs.comparing.RopeSliceHash.hash.Goals as goal

pub loop-written-preserved : goal.loop-written-preserved
loop-written-preserved g c =
    let inv = c.loop-written.invariant in
    let bytes = slice_bytes c.args.self.now in
    let k = c.loop-written.written in
    let block = c.copy_next-part.new.block in
    let took = c.copy_next-part in
    let write = g.H.Hasher.write in
    let start = c.args.state.now in
    let so_far = map (slice_chunk bytes 256) (range_with_len 0 k) in
    let len : length block ≡ min 256 (length bytes - k * 256) =
    took.ensures.len ∙ length-take-le c.min.result c.loop-written.block (omega (arith, c.min.ensures, c.min.array_long)) ∙ c.min.ensures
    ∙ ap (λ n. min 256 (n - k * 256)) c.len_bytes-len.ensures.bytes in
    let cut = is_block bytes block (bytes_left took.result.now took.new.chunks) (k * 256) ((k + 1) * 256) (sym inv.1 ∙ took.ensures.copied) len (omega arith) in (
      c.write.ensures ∙ (λ i. write (inv.0 i) (cut.block_is i))
          ∙ sym (ap (fold write start) (map-range_with_len_more (slice_chunk bytes 256) 0 k k (omega arith)) ∙ fold-append write start so_far (slice_chunk bytes 256 k ∷ [])),
      cut.rest_is,
      took.ensures.part,
      took.ensures.cut,
    )
