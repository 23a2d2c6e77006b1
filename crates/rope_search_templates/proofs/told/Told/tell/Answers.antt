use Rattle.std.proofs.Common.{◌≡◌, ℕ, ◌+◌, ◌-◌, List, ◌∷◌, ◌++◌, [], length, refl, ap, sym, ◌∙◌, string_bytes, vec_len, vec_capacity}
use Rattle.std.proofs.lemmas.Str.{IsUtf8-string_bytes, encodes-chars}
use Rattle.str_indices.specs.Text.{byte_len}
use Rattle.ropey.specs.Chunks.{text_of}
use Rattle.rope_search_changes.specs.Text.{bytes_of}
use Rattle.rope_search_changes.specs.Replacement.{expand, whole}
use Rattle.rope_search_changes.specs.declared.Change.{Change}
use Rattle.rope_search_templates.specs.Matches.{groups_in}
use Rattle.rope_search_templates.proofs.told.Told.tell.Goals as goal

pub returns-clause-told : goal.returns-clause-told
returns-clause-told c =
    let content = bytes_of (text_of c.args.parts.now) in
    let match = groups_in c.args.found in
    let text = c.show.new.self.text in
    let told = expand content match c.args.template.now in
    let span = c.span-start.ensures in
    let len : length c.as_str.result.now ≡ byte_len told =
    ap length c.as_str.ensures.value ∙ sym (ap length (encodes-chars (string_bytes text) (IsUtf8-string_bytes text))) ∙ ap byte_len c.in_ok-show.ensures.text in
    let start : c.show.new.self.at_new + (c.span-start.result.0 - c.show.new.self.at) ≡ c.args.self.now.at_new + ((whole match).0 - c.args.self.now.at) =
    ap (λ n. n + (c.span-start.result.0 - c.show.new.self.at)) c.show.ensures.at_new
    ∙ ap (λ n. c.args.self.now.at_new + (c.span-start.result.0 - n)) c.show.ensures.at
    ∙ ap (λ (p : ℕ × ℕ). c.args.self.now.at_new + (p.0 - c.args.self.now.at)) span in
    let change : ℕ → ℕ → ℕ → Change = λ a b d. record { old_end = a; new_start = b; new_end = d } in
    record {
      text = c.in_ok-show.ensures.text;
      same = c.in_ok-show.ensures.told;
      change_is =
          ap (λ (p : ℕ × ℕ). change p.1 (c.show.new.self.at_new + (c.span-start.result.0 - c.show.new.self.at)) (c.show.new.self.at_new + (c.span-start.result.0 - c.show.new.self.at) + length c.as_str.result.now)) span
          ∙ ap (λ n. change (whole match).1 n (n + length c.as_str.result.now)) start
          ∙ ap (λ n. change (whole match).1 (c.args.self.now.at_new + ((whole match).0 - c.args.self.now.at)) (c.args.self.now.at_new + ((whole match).0 - c.args.self.now.at) + n)) len;
      changes = c.push_reserved.ensures.items ∙ ap (λ (cs : List Change). cs ++ change c.span-start.result.1 (c.show.new.self.at_new + (c.span-start.result.0 - c.show.new.self.at)) (c.show.new.self.at_new + (c.span-start.result.0 - c.show.new.self.at) + length c.as_str.result.now) ∷ []) (ap (λ cs. cs.items) c.show.ensures.changes);
      at = refl;
      at_new = refl;
      len = c.push_reserved.ensures.len ∙ ap (λ cs. vec_len cs + 1) c.show.ensures.changes;
      capacity = c.push_reserved.ensures.capacity ∙ ap vec_capacity c.show.ensures.changes;
    }
