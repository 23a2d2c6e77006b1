use Rattle.std.proofs.Common.{◌≡◌, ◌++◌, ap, ◌∙◌}
use Rattle.std.specs.Prelude.{string_bytes}
use Rattle.std.specs.Str.{chars}
use Rattle.ropey_tree.proofs.Editing.{three_chars}
use Rattle.ropey_tree.proofs.edits.joined.Goals as goal
use Rattle.ropey_tree.proofs.edits.joined.Goals.{In_ok-push_str-3}

bytes_are : (c : In_ok-push_str-3) → string_bytes c.push_str-3.new.self ≡ c.args.front.now ++ c.args.text.now ++ c.args.back.now
bytes_are c =
    let first : string_bytes c.push_str.new.self ≡ c.args.front.now = c.in_ok-push_str.ensures.bytes ∙ ap (λ b. b ++ c.args.front.now) c.in_ok-whole.ensures.bytes in
    let second : string_bytes c.push_str-2.new.self ≡ c.args.front.now ++ c.args.text.now = c.in_ok-push_str-2.ensures.bytes ∙ ap (λ b. b ++ c.args.text.now) first in
    c.in_ok-push_str-3.ensures.bytes ∙ ap (λ b. b ++ c.args.back.now) second

pub returns-clause-text : goal.returns-clause-text
returns-clause-text c = ap chars (bytes_are (goal.at.returns-clause-text c).In_ok-push_str-3) ∙ three_chars c.args.front.now c.args.text.now c.args.back.now c.utf8.front c.utf8.text

pub returns-clause-bytes : goal.returns-clause-bytes
returns-clause-bytes c = bytes_are (goal.at.returns-clause-bytes c).In_ok-push_str-3
