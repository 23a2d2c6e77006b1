-- Bytes consumed from the front of a window of the array: the window that begins that much later.
use Rattle.std.proofs.Common.{◌≡◌, ℕ, ◌+◌, ◌-◌, ◌≤◌, List, length, take, drop, arith, sym, ap, ◌∙◌}
use Rattle.std.proofs.lemmas.List.{drop-take, drop-drop, length-take}
use Rattle.rope_search_io.specs.ReadBuffer.{Unread}
use Rattle.rope_search_io.proofs.read_buffer.ReadBuffer.consume.Goals as goal

window-drop : (bytes : List ℕ) (from to count : ℕ) → count ≤ to - from
    → take (to - (from + count)) (drop (from + count) bytes) ≡ drop count (take (to - from) (drop from bytes))
window-drop bytes from to count enough =
    let parts : to - from ≡ count + (to - (from + count)) = omega arith in
    ap (take (to - (from + count))) (sym (drop-drop count from bytes))
    ∙ sym (drop-take count (to - (from + count)) (drop from bytes))
    ∙ ap (λ n. drop count (take n (drop from bytes))) (sym parts)

pub returns-clause-bytes : goal.returns-clause-bytes
returns-clause-bytes c =
    let inside = c.self.inside in
    let window = take (inside.to - inside.from) (drop inside.from inside.bytes) in
    let shown : length window ≡ length c.args.self.now.bytes = ap (λ (a : Unread). length a.bytes) c.self.view_is in
    let short : length window ≤ inside.to - inside.from = omega (arith, length-take (inside.to - inside.from) (drop inside.from inside.bytes)) in
    window-drop inside.bytes inside.from inside.to c.args.count (omega arith)
    ∙ ap (λ (a : Unread). drop c.args.count a.bytes) c.self.view_is
