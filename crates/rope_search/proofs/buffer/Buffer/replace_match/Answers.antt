use Rattle.std.proofs.Common.{◌≡◌, ◌≤◌, OnOk, chars, string_bytes, length, sym, ap, subst, ◌∙◌, arith}
use Rattle.std.proofs.lemmas.Result.{on_ok_weaker}
use Rattle.std.proofs.lemmas.Str.{encodes-chars}
use Rattle.str_indices.specs.Text.{byte_len}
use Rattle.rope_search.specs.Changed.{Replaces}
use Rattle.rope_search.specs.Cost.{rows_anew}
use Rattle.rope_search.specs.Histories.{KeepsEdit}
use Rattle.rope_search.specs.Places.{GetsTooLong, IsEdit}
use Rattle.rope_search.specs.Session.{LimitedBuffer, current_text}
use Rattle.rope_search.proofs.MatchAnswerLemmas.{if-done}
use Rattle.rope_search.proofs.buffer.Buffer.replace_match.Goals as goal

pub returns-clause-ok : goal.returns-clause-ok
returns-clause-ok c =
    let made = c.in_ok-made.made in
    let told = c.in_ok-made.ensures.answer in
    let same = c.in_ok-made.ensures.same in
    let new = c.edit.new.self in
    let put = chars (string_bytes made.inserted) in
    let by : chars c.as_str.result.now ≡ put = ap chars c.as_str.ensures.value in
    on_ok_weaker c.edit.result (λ holds. record { from = made.from; to = made.to; inserted = put; replaces = told.edit; holds = holds })
    (subst (λ (b : LimitedBuffer). OnOk c.edit.result (IsEdit b.state made.from made.to put new.state)) same
    (subst (λ t. OnOk c.edit.result (IsEdit c.match_edit.new.self.state made.from made.to t new.state)) by c.edit.ensures.ok))

pub returns-clause-kept : goal.returns-clause-kept
returns-clause-kept c =
    let made = c.in_ok-made.made in
    let told = c.in_ok-made.ensures.answer in
    let same = c.in_ok-made.ensures.same in
    let new = c.edit.new.self in
    let put = chars (string_bytes made.inserted) in
    let by : chars c.as_str.result.now ≡ put = ap chars c.as_str.ensures.value in
    on_ok_weaker c.edit.result (λ holds. record { from = made.from; to = made.to; inserted = put; replaces = told.edit; holds = holds })
    (subst (λ (b : LimitedBuffer). OnOk c.edit.result (KeepsEdit b made.from made.to put new)) same
    (subst (λ t. OnOk c.edit.result (KeepsEdit c.match_edit.new.self made.from made.to t new)) by c.edit.ensures.kept))

pub returns-clause-changed : goal.returns-clause-changed
returns-clause-changed c =
    let made = c.in_ok-made.made in
    let told = c.in_ok-made.ensures.answer in
    let same = c.in_ok-made.ensures.same in
    let new = c.edit.new.self in
    let put = chars (string_bytes made.inserted) in
    let by : chars c.as_str.result.now ≡ put = ap chars c.as_str.ensures.value in
    subst (λ (b : LimitedBuffer). OnOk c.edit.result (Replaces b.state new.state new.changed)) same c.edit.ensures.changed

pub returns-clause-added : goal.returns-clause-added
returns-clause-added c =
    let made = c.in_ok-made.made in
    let told = c.in_ok-made.ensures.answer in
    let same = c.in_ok-made.ensures.same in
    let new = c.edit.new.self in
    let put = chars (string_bytes made.inserted) in
    let by : chars c.as_str.result.now ≡ put = ap chars c.as_str.ensures.value in
    on_ok_weaker c.edit.result (λ holds. record { from = made.from; to = made.to; inserted = put; replaces = told.edit; holds = holds })
    (subst (λ (b : LimitedBuffer). OnOk c.edit.result (new.changed.added ≤ rows_anew b.state put)) same
    (subst (λ t. OnOk c.edit.result (new.changed.added ≤ rows_anew c.match_edit.new.self.state t)) by c.edit.ensures.added))

pub returns-clause-size : goal.returns-clause-size
returns-clause-size c = λ e.
    let made = c.in_ok-made.made in
    let told = c.in_ok-made.ensures.answer in
    let same = c.in_ok-made.ensures.same in
    let new = c.edit.new.self in
    let put = chars (string_bytes made.inserted) in
    let by : chars c.as_str.result.now ≡ put = ap chars c.as_str.ensures.value in
    let lens : length c.as_str.result.now ≡ byte_len put = ap length c.as_str.ensures.value ∙ sym (ap length (encodes-chars (string_bytes made.inserted) told.utf8)) in
    record {
      from = made.from;
      to = made.to;
      inserted = put;
      replaces = told.edit;
      holds = subst (λ (b : LimitedBuffer). GetsTooLong b.limit (current_text b.state) made.from made.to (byte_len put)) same
          (subst (λ n. GetsTooLong c.match_edit.new.self.limit (current_text c.match_edit.new.self.state) made.from made.to n) lens (c.edit.ensures.size.0 e));
    }

pub returns-clause-rows : goal.returns-clause-rows
returns-clause-rows c =
    let made = c.in_ok-made.made in
    let told = c.in_ok-made.ensures.answer in
    let same = c.in_ok-made.ensures.same in
    let new = c.edit.new.self in
    let put = chars (string_bytes made.inserted) in
    let by : chars c.as_str.result.now ≡ put = ap chars c.as_str.ensures.value in
    let here : rows_anew c.match_edit.new.self.state (chars c.as_str.result.now) ≡ rows_anew c.args.self.now.state put =
    ap (λ (b : LimitedBuffer). rows_anew b.state (chars c.as_str.result.now)) same ∙ ap (rows_anew c.args.self.now.state) by in
    let most = c.edit.ensures.rows.made in
    let first = c.in_ok-made.ensures.searches.count in
    if-done c.edit.result _ (record { from = made.from; to = made.to; inserted = put; replaces = told.edit; holds = omega (arith, most, first, here) })
