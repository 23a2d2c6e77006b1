-- Leading nodes give a list of matches.
use Rattle.std.proofs.Common.{◌≡◌, ℕ, zero, suc, ◌+◌, ◌<◌, ◌≤◌, ◌⊎◌, Bool, true, false, List, [], ◌∷◌, length, Option, Some, None, refl, sym, subst, arith, inl, inr}
use Rattle.std.proofs.lemmas.Bool.{cases_eq}
use Rattle.std.specs.Prelude.{IsTrue}
use Rattle.rx_walks.specs.Machines.{Machine, Outcome, IsForward}
use Rattle.rx_walks.specs.Finds.{Search, from_place_on}
use Rattle.rx_walks.specs.Looks.{Look}
use Rattle.rx_walks.specs.Programs.{Program, Notes, fresh_notes, put_note}
use Rattle.rx_walks.specs.ProgramFinds.{haystack_of, holds_in, machine_of, highest}
use Rattle.rx_walks.specs.Laws.{IsDecidable}
use Rattle.rx_walks.proofs.ForwardLaws.{characters_forward, number_told}
use Rattle.rx_walks.proofs.ExistLaws.{IsKnown, both_known, possible_known, may_end_known, still_or_there, numbers_below}
use Rattle.rx_walks.specs.Leading.{LeadsToMatch, Follows}
use Rattle.rx_walks.specs.Listings.{Listing, over, no_start, passed_over, listed}
use Rattle.rx_walks.specs.LeadLaws.{IsFinite, begins_from}
use Rattle.rx_walks.proofs.FollowLaws.{followed_is_least}
use Rattle.rx_walks.proofs.LeadLaws.{answers, follows_least}
use Rattle.rx_walks.proofs.CutLaws.{on_from}

module _ {Q N : Type 0} (m : Machine Q N) (told : IsDecidable Q) (forward : IsForward m) (finite : IsFinite m) (start_at : ℕ → ℕ → Type 0) (start_known : (e i : ℕ) → IsKnown (start_at e i)) (fresh : ℕ → N) (q : Q)
    (n : ℕ) (inside : (e i : ℕ) → start_at e i → i ≤ n) where
  abbrev Lists : Bool → ℕ → ℕ → Type 0
  Lists after e i = (ms : List (Outcome N)) × Listing m start_at fresh q after e i ms

  record Starts (e i : ℕ) : Type 0 where
    at : start_at e i
    to : Outcome N
    follows : Follows m i [] ((fresh i, q) ∷ []) (Some to)
    on : i ≤ to.end

  starts_or_not : (e i : ℕ) → Starts e i ⊎ (start_at e i → LeadsToMatch m q i → ⊥)
  starts_or_not e i = elim (start_known e i) [
    | inr not ↦ inr (λ b leads. not b)
    | inl b ↦ by_answer b (answers m told forward finite (fresh i) q i).0 (answers m told forward finite (fresh i) q i).1
  ]
    where
      by_answer : start_at e i → (out : Option (Outcome N)) → Follows m i [] ((fresh i, q) ∷ []) out → Starts e i ⊎ (start_at e i → LeadsToMatch m q i → ⊥)
      by_answer b None follows = inr (λ b' leads. (follows_least m told forward finite (fresh i) q i).leads_not.0 follows leads)
      by_answer b (Some t) follows = inl (record { at = b; to = t; follows = follows; on = on_from forward (followed_is_least told follows).walk })

  module _ (i : ℕ) (further : (after : Bool) (e j : ℕ) → i < j → Lists after e j) where
    behind : (t : Outcome N) → Follows m i [] ((fresh i, q) ∷ []) (Some t) → t.end ≡ i → Lists true i i
    behind t follows is = elim (start_known i i) [
      | inl b ↦ let others = further false (i + 1) (i + 1) (omega arith) in (others.0, passed_over b follows is others.1)
      | inr not ↦ let others = further true i (i + 1) (omega arith) in (others.0, no_start (λ b leads. not b) others.1)
    ]

    with_one : (after : Bool) (e : ℕ) (one : Starts e i) → (IsTrue after → i ≡ e → one.to.end ≡ i → ⊥) → Lists after e i
    with_one after e one not = elim (cases_eq one.to.end i) [
      | inl is ↦ let others = subst (λ x. Lists true x x) (sym is) (behind one.to one.follows is) in (one.to ∷ others.0, listed one.at one.follows not others.1)
      | inr beyond ↦ let others = further true one.to.end one.to.end (omega (arith, beyond, one.on)) in (one.to ∷ others.0, listed one.at one.follows not others.1)
    ]

    from_start : (after : Bool) (e : ℕ) → Starts e i → Lists after e i
    from_start false e one = with_one false e one (λ on. absurd (cc on))
    from_start true e one = elim (cases_eq i e) [
      | inr other ↦ with_one true e one (λ on same. absurd (other same))
      | inl same ↦ elim (cases_eq one.to.end i) [
        | inl is ↦ subst (λ x. Lists true x i) same (behind one.to one.follows is)
        | inr beyond ↦ with_one true e one (λ on same' is. beyond is)
      ]
    ]

    from_place : (after : Bool) (e : ℕ) → Lists after e i
    from_place after e = elim (starts_or_not e i) [
      | inl one ↦ from_start after e one
      | inr never ↦ let others = further after e (i + 1) (omega arith) in (others.0, no_start never others.1)
    ]

  pub lists : (count : ℕ) (after : Bool) (e i : ℕ) → n < i + count → Lists after e i
  lists zero after e i above = ([], over (λ j from b. absurd (omega (arith, above, from, inside e j b))))
  lists (suc count) after e i above = from_place i (λ after' e' j further. lists count after' e' j (omega (arith, above, further))) after e

module _ {S : Type 0} (member : S → ℕ → Bool) (is_word : ℕ → Bool) (p : Program Look S) (s : Search) where
  starts_known : (e i : ℕ) → IsKnown (begins_from s e i)
  starts_known e i = both_known (possible_known (from_place_on s e) i) (elim (may_end_known (from_place_on s e) i i) [
    | inl may ↦ elim may [ inl elsewhere ↦ absurd (elsewhere refl) | inr whole ↦ inl whole ]
    | inr not ↦ inr (λ whole. not (inr whole))
  ])

  pub is_finite : IsFinite (machine_of member is_word p s)
  is_finite = let h = haystack_of (holds_in is_word p.line_terminator s) s in record {
    high = highest s;
    nodes = numbers_below (length p.nodes);
    still_or_there = still_or_there put_note member p.nodes h;
  }

  pub program_lists : (q : ℕ) → (ms : List (Outcome Notes)) × Listing (machine_of member is_word p s) (begins_from s) fresh_notes q false s.start s.start ms
  program_lists q = lists (machine_of member is_word p s) number_told (characters_forward put_note member p.nodes (haystack_of (holds_in is_word p.line_terminator s) s)) is_finite
      (begins_from s) starts_known fresh_notes q (length s.content) (λ e i b. b.0.0.4) (suc (length s.content)) false s.start s.start (omega arith)
