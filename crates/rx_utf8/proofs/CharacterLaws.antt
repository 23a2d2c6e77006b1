-- The first character of a list of bytes, if it is a member of a set.
use Rattle.std.proofs.Common.{◌≡◌, ℕ, Bool, true, List, ◌++◌, Option, Some, None, refl, sym, ap, ◌∙◌}
use Rattle.std.proofs.Math.Utf8.{encode}
use Rattle.std.specs.Char.{IsScalar, len_utf8}
use Rattle.rx_walks.specs.Characters.{first_character, len_if, member_len, StandsFirst}
use Rattle.rx_walks.specs.Laws.{FirstCharacterStands}
use Rattle.rx_utf8.proofs.Helpers.{same_some, cond_true, cond_some}

-- the first character is a member, and has k bytes
pub record MemberFirst (member : ℕ → Bool) (bs : List ℕ) (k : ℕ) : Type 0 where
  pub c : ℕ
  pub scalar : IsScalar c
  pub is_in : member c ≡ true
  pub rest : List ℕ
  pub bytes : bs ≡ encode c ++ rest
  pub counted : k ≡ len_utf8 c

pub member_stands : FirstCharacterStands → (member : ℕ → Bool) (bs : List ℕ) (k : ℕ) → member_len member bs ≡ Some k → MemberFirst member bs k
member_stands law member bs k e = by_first (first_character bs) refl e
  where
    by_first : (o : Option ℕ) → first_character bs ≡ o → len_if member o ≡ Some k → MemberFirst member bs k
    by_first None is e = absurd (cc e)
    by_first (Some c) is e =
        let stands : StandsFirst bs c = (law bs c).0 is in
        let into = cond_some (member c) (Some (len_utf8 c)) k e in
        record { c = c; scalar = stands.scalar; is_in = into.0; rest = stands.rest; bytes = stands.stands; counted = same_some {o = Some k} refl (sym into.1) }

pub stands_member : FirstCharacterStands → (member : ℕ → Bool) (bs : List ℕ) (k : ℕ) → MemberFirst member bs k → member_len member bs ≡ Some k
stands_member law member bs k first =
    let stands : StandsFirst bs first.c = record { scalar = first.scalar; rest = first.rest; stands = first.bytes } in
    ap (len_if member) ((law bs first.c).1 stands) ∙ cond_true (member first.c) (Some (len_utf8 first.c)) None first.is_in ∙ ap Some (sym first.counted)
