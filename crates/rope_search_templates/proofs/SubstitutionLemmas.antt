-- Texts put in the place of parts of a content: the changes, how long it gets, and each by an edit.
use Rattle.std.proofs.Common.{◌≡◌, ℕ, zero, suc, ◌+◌, ◌-◌, ◌<◌, ◌≤◌, true, List, [], ◌∷◌, ◌++◌, length, take, drop, map, get_or, chars, refl, sym, ap, subst, ◌∙◌, arith, append_assoc, length-drop, All, IsUtf8}
use Rattle.std.specs.Str.{IsCharBoundary, all_scalars}
use Rattle.std.proofs.lemmas.List.{drop_all, drop_more, drop-map, length-map}
use Rattle.std.proofs.lemmas.List.Elements.{All-head, All-tail}
use Rattle.std.proofs.lemmas.List.Sums.{sum_by-cons}
use Rattle.std.proofs.lemmas.Str.{IsCharBoundary-at_seam, IsCharBoundary-start, IsUtf8-between, IsUtf8-drop, chars-nil, chars-encodes, encodes-append, encodes-chars, scalars-chars}
use Rattle.str_indices.specs.Text.{byte_len}
use Rattle.ropey.specs.Edits.{IsReplaced}
use Rattle.rope_search_changes.specs.Text.{IsText, bytes_of, line_count}
use Rattle.rope_search_changes.specs.Changes.{AreChanges}
use Rattle.rope_search_changes.specs.Replacement.{between}
use Rattle.rope_search_changes.specs.declared.Change.{Change}
use Rattle.rope_search_templates.specs.declared.substitutions.Substitution.{Substitution as Given}
use Rattle.rope_search_templates.specs.Substitutions.{Substitution, told, AreUtf8, substituted, SubstitutionsFollow, changes_by, lines_by, SubstitutionsAreChanges, SubstitutedIsText}
use Rattle.rope_search_templates.proofs.ContentLemmas.{byte_len-append, fronts-one, scalars-joined, scalars-parts, split-at, between-len, front-further, front-and-back, front-len}

-- ---- those that are left

-- they follow each other, from a place between characters on
pub record AreAhead (content : List ℕ) (at : ℕ) (ones : List Substitution) : Type 0 where
  pub here : IsCharBoundary content at
  pub follow : SubstitutionsFollow content at ones

pub all-ahead : (content : List ℕ) (ones : List Substitution) → IsUtf8 content → SubstitutionsFollow content 0 ones → AreAhead content 0 ones
all-ahead content ones utf8 follow = record { here = IsCharBoundary-start content utf8; follow = follow }

-- behind the first, and behind any number of them, from some place on
pub ahead-behind : (content : List ℕ) (at : ℕ) (one : Substitution) (ones : List Substitution) → AreAhead content at (one ∷ ones) → AreAhead content one.end ones
ahead-behind content at one ones ahead = record { here = ahead.follow.3; follow = ahead.follow.4 }

pub ahead-further : (content : List ℕ) (ones : List Substitution) (k at : ℕ) → AreAhead content at ones → (at' : ℕ) × AreAhead content at' (drop k ones)
ahead-further content ones zero at ahead = (at, ahead)
ahead-further content [] (suc k) at ahead = (at, record { here = ahead.here; follow = tt })
ahead-further content (one ∷ ones) (suc k) at ahead = ahead-further content ones k one.end (ahead-behind content at one ones ahead)

-- of a list that is given, from one on
pub given-next : (given : List Given) (i : ℕ) (one : Given) → i < length given → drop i (map told given) ≡ told (get_or given i one) ∷ drop (i + 1) (map told given)
given-next given i one inside =
    drop-map told i given ∙ ap (map told) (drop_more given i one inside) ∙ ap (λ l. told (get_or given i one) ∷ l) (sym (drop-map told (i + 1) given))

-- the text of one of them
pub given-text : (given : List Given) (i : ℕ) (one : Given) → i < length given → AreUtf8 given → byte_len (told (get_or given i one)).text ≡ length (get_or given i one).text.now
given-text given i one inside utf8 = ap length (encodes-chars (get_or given i one).text.now (utf8 i one inside))

-- ---- the changes

pub are-changes : (content : List ℕ) (at at_new : ℕ) (ones : List Substitution) → IsUtf8 content → IsCharBoundary content at → SubstitutionsFollow content at ones
    → AreChanges (changes_by at at_new ones) at at_new (chars (drop at content)) (substituted content at ones) (lines_by ones)
are-changes content at at_new [] utf8 here follow = (refl, refl)
are-changes content at at_new (one ∷ ones) utf8 here follow =
    let starts = follow.2 in
    let ends = follow.3 in
    let gap = between-len content utf8 at one.start follow.0 here starts in
    let gone = between-len content utf8 one.start one.end follow.1 starts ends in
    let new_end = at_new + (one.start - at) + byte_len one.text in
    record {
      gap = between content at one.start;
      removed = between content one.start one.end;
      inserted = one.text;
      old_behind = chars (drop one.end content);
      new_behind = substituted content one.end ones;
      left = lines_by ones;
      old_is =
          split-at content utf8 at one.start follow.0 here starts
          ∙ ap (λ xs. between content at one.start ++ xs) (split-at content utf8 one.start one.end follow.1 starts ends)
          ∙ sym (append_assoc (between content at one.start) (between content one.start one.end) (chars (drop one.end content)));
      new_is = refl;
      old_end = omega (arith, gap, gone, follow.0, follow.1);
      new_start = omega (arith, gap);
      new_end = omega (arith, gap);
      counts = sum_by-cons (λ (s : Substitution). line_count s.text) one ones;
      further = are-changes content one.end new_end ones utf8 ends follow.4;
    }

pub make-changes : SubstitutionsAreChanges
make-changes text ones is follow =
    let content = bytes_of text in
    let utf8 : IsUtf8 content = (text, (is, refl)) in
    subst (λ t. AreChanges (changes_by 0 0 ones) 0 0 t (substituted content 0 ones) (lines_by ones)) (chars-encodes text is)
    (are-changes content 0 0 ones utf8 (IsCharBoundary-start content utf8) follow)

-- ---- what is left is a text

scalars-from : (content : List ℕ) (at : ℕ) (ones : List Substitution) → IsUtf8 content → IsCharBoundary content at → SubstitutionsFollow content at ones
    → All (λ (one : Substitution). IsText one.text) ones → all_scalars (substituted content at ones) ≡ true
scalars-from content at [] utf8 here follow all = scalars-chars (drop at content) (IsUtf8-drop content at utf8 here)
scalars-from content at (one ∷ ones) utf8 here follow all =
    let P : Substitution → Type 0 = λ s. IsText s.text in
    let gap = between content at one.start in
    let before : all_scalars gap ≡ true = scalars-chars (take (one.start - at) (drop at content)) (IsUtf8-between content at one.start utf8 follow.0 here follow.2) in
    scalars-joined (gap ++ one.text) (substituted content one.end ones) (scalars-joined gap one.text before (All-head P one ones all))
    (scalars-from content one.end ones utf8 follow.3 follow.4 (All-tail P one ones all))

pub are-text : SubstitutedIsText
are-text text ones is follow all =
    let content = bytes_of text in
    let utf8 : IsUtf8 content = (text, (is, refl)) in
    scalars-from content 0 ones utf8 (IsCharBoundary-start content utf8) follow all

-- ---- how long it gets

pub len-none : (content : List ℕ) (at : ℕ) → IsUtf8 content → IsCharBoundary content at → byte_len (substituted content at []) ≡ length content - at
len-none content at utf8 here = ap length (encodes-chars (drop at content) (IsUtf8-drop content at utf8 here)) ∙ length-drop at content

pub len-more : (content : List ℕ) (at : ℕ) (one : Substitution) (ones : List Substitution) → IsUtf8 content → AreAhead content at (one ∷ ones)
    → byte_len (substituted content at (one ∷ ones)) ≡ (one.start - at) + byte_len one.text + byte_len (substituted content one.end ones)
len-more content at one ones utf8 ahead =
    let gap = between content at one.start in
    let rest = substituted content one.end ones in
    omega (arith, byte_len-append (gap ++ one.text) rest, byte_len-append gap one.text, between-len content utf8 at one.start ahead.follow.0 ahead.here ahead.follow.2)

-- Changes that were told, and those that are left make them all, up to a text of this length; so far
-- it is within the limit.
pub record AreToldSoFar (content : List ℕ) (limit at at_new : ℕ) (ones : List Substitution) (told all : List Change) (len : ℕ) : Type 0 where
  pub ahead : AreAhead content at ones
  pub changes_are : told ++ changes_by at at_new ones ≡ all
  pub len_is : at_new + byte_len (substituted content at ones) ≡ len
  pub within : at_new ≤ limit

-- at the next of them
pub told-next : (content : List ℕ) (limit at at_new : ℕ) (given : List Given) (i : ℕ) (one : Given) (so_far all : List Change) (len : ℕ) → i < length given
    → AreToldSoFar content limit at at_new (drop i (map told given)) so_far all len
    → AreToldSoFar content limit at at_new (told (get_or given i one) ∷ drop (i + 1) (map told given)) so_far all len
told-next content limit at at_new given i one so_far all len inside is = subst (λ os. AreToldSoFar content limit at at_new os so_far all len) (given-next given i one inside) is

-- behind the last
pub told-last : (content : List ℕ) (limit at at_new : ℕ) (given : List Given) (i : ℕ) (so_far all : List Change) (len : ℕ) → length given ≤ i
    → AreToldSoFar content limit at at_new (drop i (map told given)) so_far all len → AreToldSoFar content limit at at_new [] so_far all len
told-last content limit at at_new given i so_far all len none is =
    subst (λ os. AreToldSoFar content limit at at_new os so_far all len) (drop_all i (map told given) (omega (arith, none, length-map given told))) is

pub told-more : (content : List ℕ) (limit at at_new : ℕ) (one : Substitution) (ones : List Substitution) (so_far all : List Change) (len new_start new_end : ℕ) → IsUtf8 content
    → AreToldSoFar content limit at at_new (one ∷ ones) so_far all len
    → new_start ≡ at_new + (one.start - at) → new_end ≡ new_start + byte_len one.text → new_end ≤ limit
    → AreToldSoFar content limit one.end new_end ones (so_far ++ record { old_end = one.end; new_start = new_start; new_end = new_end } ∷ []) all len
told-more content limit at at_new one ones so_far all len new_start new_end utf8 is starts ends within =
    let start = at_new + (one.start - at) in
    let end = start + byte_len one.text in
    let end_is : new_end ≡ end = ends ∙ ap (λ n. n + byte_len one.text) starts in
    let change : ℕ → ℕ → Change = λ a b. record { old_end = one.end; new_start = a; new_end = b } in
    let own : change new_start new_end ≡ change start end = ap (λ n. change n new_end) starts ∙ ap (change start) end_is in
    let rest = λ (n : ℕ). changes_by one.end n ones in
    record {
      ahead = ahead-behind content at one ones is.ahead;
      changes_are =
          ap (λ c. (so_far ++ c ∷ []) ++ rest new_end) own
          ∙ ap (λ n. (so_far ++ change start end ∷ []) ++ rest n) end_is
          ∙ append_assoc so_far (change start end ∷ []) (rest end) ∙ is.changes_are;
      len_is =
          ap (λ n. n + byte_len (substituted content one.end ones)) end_is
          ∙ omega (arith, len-more content at one ones utf8 is.ahead, is.len_is);
      within = within;
    }

-- ---- each by an edit, from the last to the first

-- in this text these have been put in their places, and what is before them is as it was
abbrev pub IsEditedBehind : List ℕ → List Substitution → List ℕ → Type 0
IsEditedBehind content ones text =
    (at : ℕ) → IsCharBoundary content at → SubstitutionsFollow content at ones
    → text ≡ chars (take at content) ++ substituted content at ones

pub edited-none : (text : List ℕ) → all_scalars text ≡ true → IsEditedBehind (bytes_of text) [] text
edited-none text scalars at here follow =
    let content = bytes_of text in
    let utf8 : IsUtf8 content = (text, (scalars, refl)) in
    sym (sym (front-and-back content utf8 at here) ∙ chars-encodes text scalars)

pub edited-all : (content : List ℕ) (ones : List Substitution) (text : List ℕ) → IsCharBoundary content 0 → SubstitutionsFollow content 0 ones
    → IsEditedBehind content ones text → text ≡ substituted content 0 ones
edited-all content ones text here follow is = is 0 here follow ∙ ap (λ l. l ++ substituted content 0 ones) chars-nil

module _ (content : List ℕ) (utf8 : IsUtf8 content) (one : Substitution) (ones : List Substitution) where
  -- where the next part stands in a text in which those behind it gave way
  pub parts-there : (old : List ℕ) (at : ℕ) (ahead : AreAhead content at (one ∷ ones)) → IsEditedBehind content ones old
      → old ≡ chars (take one.start content) ++ (between content one.start one.end ++ substituted content one.end ones)
  parts-there old at ahead is =
      let f = ahead.follow in
      is one.end f.3 f.4
      ∙ ap (λ l. l ++ substituted content one.end ones) (front-further content utf8 one.start one.end f.1 f.2 f.3)
      ∙ append_assoc (chars (take one.start content)) (between content one.start one.end) (substituted content one.end ones)

  -- it lies between characters of that text
  pub starts-there : (old : List ℕ) (at : ℕ) → AreAhead content at (one ∷ ones) → all_scalars old ≡ true → IsEditedBehind content ones old
      → IsCharBoundary (bytes_of old) one.start
  starts-there old at ahead scalars is =
      let f = ahead.follow in
      let front = chars (take one.start content) in
      let back = between content one.start one.end ++ substituted content one.end ones in
      let parts = parts-there old at ahead is in
      let rest = (scalars-parts front back (sym (ap all_scalars parts) ∙ scalars)).1 in
      subst (IsCharBoundary (bytes_of old)) (front-len content utf8 one.start f.2)
      (IsCharBoundary-at_seam (bytes_of old) (bytes_of front) (bytes_of back) (ap bytes_of parts ∙ encodes-append front back) (back, (rest, refl)))

  pub ends-there : (old : List ℕ) (at : ℕ) → AreAhead content at (one ∷ ones) → all_scalars old ≡ true → IsEditedBehind content ones old
      → IsCharBoundary (bytes_of old) one.end
  ends-there old at ahead scalars is =
      let f = ahead.follow in
      let front = chars (take one.end content) in
      let back = substituted content one.end ones in
      let parts = is one.end f.3 f.4 in
      let rest = (scalars-parts front back (sym (ap all_scalars parts) ∙ scalars)).1 in
      subst (IsCharBoundary (bytes_of old)) (front-len content utf8 one.end f.3)
      (IsCharBoundary-at_seam (bytes_of old) (bytes_of front) (bytes_of back) (ap bytes_of parts ∙ encodes-append front back) (back, (rest, refl)))

  -- and once it gave way too
  pub edited-one : (old new : List ℕ) (at : ℕ) → AreAhead content at (one ∷ ones) → IsEditedBehind content ones old
      → IsReplaced old one.start one.end one.text new → IsEditedBehind content (one ∷ ones) new
  edited-one old new place ahead is edit at here follow =
      let start = one.start in
      let end = one.end in
      let front = chars (take start content) in
      let gone = between content start end in
      let back = substituted content end ones in
      let parts = parts-there old place ahead is in
      let whole_is : edit.front ++ (edit.gone ++ edit.back) ≡ front ++ (gone ++ back) = sym (append_assoc edit.front edit.gone edit.back) ∙ sym edit.old_is ∙ parts in
      let first = fronts-one edit.front (edit.gone ++ edit.back) front (gone ++ back) whole_is (edit.starts ∙ sym (front-len content utf8 start follow.2)) in
      let ends : byte_len (front ++ gone) ≡ end = sym (ap byte_len (front-further content utf8 start end follow.1 follow.2 follow.3)) ∙ front-len content utf8 end follow.3 in
      let lens : byte_len edit.gone ≡ byte_len gone = omega (arith, edit.ends, ends, byte_len-append edit.front edit.gone, byte_len-append front gone, ap byte_len first.0) in
      let last = fronts-one edit.gone edit.back gone back first.1 lens in
      edit.new_is
      ∙ ap (λ l. l ++ one.text ++ edit.back) first.0 ∙ ap (λ l. front ++ one.text ++ l) last.1
      ∙ ap (λ l. l ++ one.text ++ back) (front-further content utf8 at start follow.0 here follow.2)
      ∙ regroup (chars (take at content)) (between content at start) one.text back
    where
      regroup : (a b c d : List ℕ) → ((a ++ b) ++ c) ++ d ≡ a ++ ((b ++ c) ++ d)
      regroup a b c d = simp append_assoc

  pub scalars-one : (old text new : List ℕ) (start end : ℕ) → all_scalars old ≡ true → all_scalars text ≡ true → IsReplaced old start end text new → all_scalars new ≡ true
  scalars-one old text new start end scalars own edit =
      let all = scalars-parts (edit.front ++ edit.gone) edit.back (sym (ap all_scalars edit.old_is) ∙ scalars) in
      let fronts = scalars-parts edit.front edit.gone all.0 in
      ap all_scalars edit.new_is ∙ scalars-joined (edit.front ++ text) edit.back (scalars-joined edit.front text fronts.0 own) all.1

-- ---- in one pass, from the first to the last

-- what was built, and what those that are left make of what is behind a place, are the whole text
pub record IsBuiltUpTo (content : List ℕ) (at : ℕ) (ones : List Substitution) (built all : List ℕ) : Type 0 where
  pub ahead : AreAhead content at ones
  pub text_is : built ++ substituted content at ones ≡ all

-- at the next of them
pub built-next : (content : List ℕ) (at : ℕ) (given : List Given) (i : ℕ) (one : Given) (built all : List ℕ) → i < length given
    → IsBuiltUpTo content at (drop i (map told given)) built all → IsBuiltUpTo content at (told (get_or given i one) ∷ drop (i + 1) (map told given)) built all
built-next content at given i one built all inside is = subst (λ os. IsBuiltUpTo content at os built all) (given-next given i one inside) is

-- behind the last
pub built-last : (content : List ℕ) (at : ℕ) (given : List Given) (i : ℕ) (built all : List ℕ) → length given ≤ i
    → IsBuiltUpTo content at (drop i (map told given)) built all → IsBuiltUpTo content at [] built all
built-last content at given i built all none is =
    subst (λ os. IsBuiltUpTo content at os built all) (drop_all i (map told given) (omega (arith, none, length-map given told))) is

pub built-more : (content : List ℕ) (at : ℕ) (one : Substitution) (ones : List Substitution) (built all : List ℕ) → IsBuiltUpTo content at (one ∷ ones) built all
    → IsBuiltUpTo content one.end ones ((built ++ between content at one.start) ++ one.text) all
built-more content at one ones built all is = record {
  ahead = ahead-behind content at one ones is.ahead;
  text_is = regroup built (between content at one.start) one.text (substituted content one.end ones) ∙ is.text_is;
}
  where
    regroup : (a b c d : List ℕ) → ((a ++ b) ++ c) ++ d ≡ a ++ ((b ++ c) ++ d)
    regroup a b c d = simp append_assoc
