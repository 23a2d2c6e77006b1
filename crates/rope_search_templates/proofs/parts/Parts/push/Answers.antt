use Rattle.std.proofs.Common.{◌≡◌, ℕ, List, ◌++◌, take, OnOk, OnErr, chars, string_bytes, ap, sym, subst, ◌∙◌}
use Rattle.ropey.specs.Chunks.{text_of}
use Rattle.ropey.specs.Slices as walk
use Rattle.ropey.specs.Slices.{slice_text}
use Rattle.rope_search_changes.specs.Text.{bytes_of}
use Rattle.rope_search_changes.specs.Replacement.{IsSpanIn, between}
use Rattle.rope_search_templates.proofs.ContentLemmas.{text-utf8}
use Rattle.rope_search_templates.proofs.PushLemmas.{pushed-ok}
use Rattle.rope_search_templates.proofs.SliceLemmas.{part-is, whole-is}
use Rattle.rope_search_templates.proofs.SpanLemmas.{range-in}
use Rattle.rope_search_templates.proofs.parts.Parts.push.Goals as goal

pub returns-in-Some-clause-pushed : goal.returns-in-Some-clause-pushed
returns-in-Some-clause-pushed c =
    let part_is = c.in-Some.ensures ∙ ap (λ ps. between (bytes_of (text_of ps)) c.args.start c.args.end) c.show.ensures in
    subst (λ (t : List ℕ). OnOk c.push_str.result (chars (string_bytes c.push_str.new.self) ≡ chars (string_bytes c.args.out.now) ++ t)) part_is
    (pushed-ok c.push_str.result c.args.out.now c.push_str.new.self c.in-Some.part.now c.push_str.ensures.bytes)

pub byte_slice-requires : goal.byte_slice-requires
byte_slice-requires c =
    let pieces = c.self.inside.text.now in
    let span : ℕ × ℕ = (c.args.start, c.args.end) in
    let own = subst (λ ps. IsSpanIn (bytes_of (text_of ps)) span) (sym (c.self.view_is ∙ c.show.ensures)) c.requires in
    let whole : slice_text c.slice.result ≡ text_of pieces = ap text_of c.slice.ensures ∙ whole-is pieces in
    rw whole (range-in (text_of pieces) span own)

pub returns-clause-pushed : goal.returns-clause-pushed
returns-clause-pushed c =
    let pieces = c.self.inside.text.now in
    let content = bytes_of (text_of pieces) in
    let same = c.self.view_is ∙ c.show.ensures in
    let own = subst (λ ps. IsSpanIn (bytes_of (text_of ps)) (c.args.start, c.args.end)) (sym same) c.requires in
    let whole : slice_text c.slice.result ≡ text_of pieces = ap text_of c.slice.ensures ∙ whole-is pieces in
    let bytes : bytes_of (slice_text c.byte_slice.result) ≡ walk.between c.args.start c.args.end content = c.byte_slice.ensures.bytes ∙ ap (λ t. walk.between c.args.start c.args.end (bytes_of t)) whole in
    let is = part-is content (slice_text c.byte_slice.result) c.args.start c.args.end (text-utf8 pieces c.len_bytes.ensures.cut.cut) own.ordered own.starts own.stops bytes
    ∙ ap (λ ps. between (bytes_of (text_of ps)) c.args.start c.args.end) same in
    subst (λ (t : List ℕ). OnOk c.push_slice.result (chars (string_bytes c.push_slice.new.out) ≡ chars (string_bytes c.args.out.now) ++ t)) is c.push_slice.ensures.pushed

pub returns-clause-front : goal.returns-clause-front
returns-clause-front c =
    let pieces = c.self.inside.text.now in
    let content = bytes_of (text_of pieces) in
    let same = c.self.view_is ∙ c.show.ensures in
    let own = subst (λ ps. IsSpanIn (bytes_of (text_of ps)) (c.args.start, c.args.end)) (sym same) c.requires in
    let whole : slice_text c.slice.result ≡ text_of pieces = ap text_of c.slice.ensures ∙ whole-is pieces in
    let bytes : bytes_of (slice_text c.byte_slice.result) ≡ walk.between c.args.start c.args.end content = c.byte_slice.ensures.bytes ∙ ap (λ t. walk.between c.args.start c.args.end (bytes_of t)) whole in
    let is = part-is content (slice_text c.byte_slice.result) c.args.start c.args.end (text-utf8 pieces c.len_bytes.ensures.cut.cut) own.ordered own.starts own.stops bytes
    ∙ ap (λ ps. between (bytes_of (text_of ps)) c.args.start c.args.end) same in
    subst (λ (t : List ℕ). OnErr c.push_slice.result ((len : ℕ) × (chars (string_bytes c.push_slice.new.out) ≡ chars (string_bytes c.args.out.now) ++ take len t))) is c.push_slice.ensures.front
