use Rattle.std.proofs.Common.{◌≡◌, ◌+◌, ◌++◌, inl, inr, length, take, ap, sym, ◌∙◌, arith}
use Rattle.std.specs.Str.{chars, IsUtf8}
use Rattle.std.proofs.lemmas.Str.{encodes-chars}
use Rattle.str_indices.specs.Text.{byte_len}
use Rattle.ropey_tree.proofs.Filling.{is_filled}
use Rattle.ropey_tree.proofs.Splitting.{slice_front}
use Rattle.ropey_tree.proofs.leaf.LeafBuffer.fill.Goals as goal

pub invariant_of-self : goal.invariant_of-self
invariant_of-self c =
    let old = c.self.inside.text.bytes in
    let e = c.fill_end-end.ensures in
    let utf8 : IsUtf8 old = rw c.as_str.ensures.value at c.as_str.utf8 in
    let f = is_filled old c.args.text.now c.fill_end-end.result c.remaining_capacity.result utf8 c.utf8.text e.boundary e.within c.self.invariant c.remaining_capacity.ensures e.cr e.lf in
    let bytes = c.push_str.ensures.bytes ∙ ap (λ t. old ++ t) (c.range.ensures.value ∙ slice_front c.args.text.now c.fill_end-end.result) in
    rw bytes f.stays

pub returns-clause-text : goal.returns-clause-text
returns-clause-text c =
    let old = c.self.inside.text.bytes in
    let e = c.fill_end-end.ensures in
    let utf8 : IsUtf8 old = rw c.as_str.ensures.value at c.as_str.utf8 in
    let f = is_filled old c.args.text.now c.fill_end-end.result c.remaining_capacity.result utf8 c.utf8.text e.boundary e.within c.self.invariant c.remaining_capacity.ensures e.cr e.lf in
    let bytes = c.push_str.ensures.bytes ∙ ap (λ t. old ++ t) (c.range.ensures.value ∙ slice_front c.args.text.now c.fill_end-end.result) in
    let text : chars c.push_str.new.self.bytes ≡ c.args.self.now ++ chars (take c.fill_end-end.result c.args.text.now) =
    ap chars bytes ∙ f.text_is ∙ ap (λ t. t ++ chars (take c.fill_end-end.result c.args.text.now)) c.self.view_is in
    text

pub returns-clause-whole : goal.returns-clause-whole
returns-clause-whole c =
    let old = c.self.inside.text.bytes in
    let e = c.fill_end-end.ensures in
    let utf8 : IsUtf8 old = rw c.as_str.ensures.value at c.as_str.utf8 in
    let f = is_filled old c.args.text.now c.fill_end-end.result c.remaining_capacity.result utf8 c.utf8.text e.boundary e.within c.self.invariant c.remaining_capacity.ensures e.cr e.lf in
    let bytes = c.push_str.ensures.bytes ∙ ap (λ t. old ++ t) (c.range.ensures.value ∙ slice_front c.args.text.now c.fill_end-end.result) in
    rw bytes f.whole

pub returns-clause-all : goal.returns-clause-all
returns-clause-all c less =
    let old = c.self.inside.text.bytes in
    let utf8 : IsUtf8 old = rw c.as_str.ensures.value at c.as_str.utf8 in
    let len : byte_len c.args.self.now ≡ length old = ap byte_len (sym c.self.view_is) ∙ ap length (encodes-chars old utf8) in
    c.fill_end-end.ensures.all (omega (arith, less, len, c.remaining_capacity.ensures))

pub returns-clause-full : goal.returns-clause-full
returns-clause-full c =
    let old = c.self.inside.text.bytes in
    let end = c.fill_end-end.result in
    let e = c.fill_end-end.ensures in
    let utf8 : IsUtf8 old = rw c.as_str.ensures.value at c.as_str.utf8 in
    let f = is_filled old c.args.text.now end c.remaining_capacity.result utf8 c.utf8.text e.boundary e.within c.self.invariant c.remaining_capacity.ensures e.cr e.lf in
    let bytes = c.push_str.ensures.bytes ∙ ap (λ t. old ++ t) (c.range.ensures.value ∙ slice_front c.args.text.now end) in
    let len : byte_len (chars c.push_str.new.self.bytes) ≡ length old + end = ap (λ b. byte_len (chars b)) bytes ∙ f.bytes in
    elim e.full [
      | inl all ↦ inl all
      | inr near ↦ inr (omega (arith, near, len, c.remaining_capacity.ensures))
    ]
