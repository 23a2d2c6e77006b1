-- A position between the items of a list.
use Rattle.std.proofs.Common.{◌≡◌, ℕ, suc, ◌+◌, List, [], ◌∷◌, ◌++◌, ◌-◌, ◌<◌, ◌≤◌, length, take, drop, map, get_or, ap, arith, sym, ◌∙◌, length-append, length-drop, append_assoc, take-append-drop, length-take-le}
use Rattle.std.proofs.Math.Seq.{drop-cons}
use Rattle.std.specs.Prelude.{reverse, Bool, true, false}
use Rattle.std.specs.List.{range_with_len}
use Rattle.std.proofs.lemmas.List.{drop_at, take_at, reverse-append, append-nil, length-reverse}
use Rattle.std.proofs.lemmas.List.FromFn.{length-map-range_with_len, get_or-map-range_with_len}
use Rattle.ropey_walk.specs.TwoWay.{TwoWay, turned, before_item, facing}

pub ahead_of : {A : Type 0} → (items front rest : List A) (n : ℕ) → items ≡ front ++ rest → n ≡ length front → (before_item n items).ahead ≡ rest
ahead_of items front rest n parts e = ap (λ xs. drop n xs) parts ∙ drop_at front rest n (sym e)

pub behind_of : {A : Type 0} → (items front rest : List A) (n : ℕ) → items ≡ front ++ rest → n ≡ length front → (before_item n items).behind ≡ reverse front
behind_of items front rest n parts e = ap (λ xs. reverse (take n xs)) parts ∙ ap reverse (take_at front rest n (sym e))

-- from a position to the one after the next item
pub record Crosses {A : Type 0} (item : A) (old new : TwoWay A) : Type 0 where
  pub ahead : old.ahead ≡ item ∷ new.ahead
  pub behind : new.behind ≡ item ∷ old.behind

pub crosses : {A : Type 0} → (items front : List A) (item : A) (rest : List A) (n m : ℕ) → items ≡ front ++ item ∷ rest → n ≡ length front → m ≡ length front + 1
    → Crosses item (before_item n items) (before_item m items)
crosses items front item rest n m parts e f =
    let parts_after = parts ∙ sym (append_assoc front (item ∷ []) rest) in
    let len = f ∙ sym (length-append front (item ∷ [])) in
    record {
      ahead = ahead_of items front (item ∷ rest) n parts e ∙ ap (λ xs. item ∷ xs) (sym (ahead_of items (front ++ item ∷ []) rest m parts_after len));
      behind = behind_of items (front ++ item ∷ []) rest m parts_after len ∙ reverse-append front (item ∷ []) ∙ ap (λ xs. item ∷ xs) (sym (behind_of items front (item ∷ rest) n parts e));
    }

-- ---- in a direction
pub faces_on : {A : Type 0} → (is_reversed : Bool) (n : ℕ) (items : List A) (seen : TwoWay A) → is_reversed ≡ false → facing is_reversed n items ≡ seen → seen ≡ before_item n items
faces_on is_reversed n items seen on is = sym is ∙ ap (λ b. facing b n items) on

pub faces_back : {A : Type 0} → (is_reversed : Bool) (n : ℕ) (items : List A) (seen : TwoWay A) → is_reversed ≡ true → facing is_reversed n items ≡ seen → seen ≡ turned (before_item n items)
faces_back is_reversed n items seen back is = sym is ∙ ap (λ b. facing b n items) back

pub crosses_on : {A : Type 0} → (is_reversed : Bool) (n m : ℕ) (items : List A) (item : A) (seen : TwoWay A) → is_reversed ≡ false → facing is_reversed n items ≡ seen
    → Crosses item (before_item n items) (before_item m items) → Crosses item seen (facing is_reversed m items)
crosses_on is_reversed n m items item seen on is over =
    let old = faces_on is_reversed n items seen on is in
    let new = ap (λ b. facing b m items) on in
    record {
      ahead = ap (λ w. w.ahead) old ∙ over.ahead ∙ ap (λ w. item ∷ w.ahead) (sym new);
      behind = ap (λ w. w.behind) new ∙ over.behind ∙ ap (λ w. item ∷ w.behind) (sym old);
    }

pub crosses_back : {A : Type 0} → (is_reversed : Bool) (n m : ℕ) (items : List A) (item : A) (seen : TwoWay A) → is_reversed ≡ true → facing is_reversed n items ≡ seen
    → Crosses item (before_item m items) (before_item n items) → Crosses item seen (facing is_reversed m items)
crosses_back is_reversed n m items item seen back is over =
    let old = faces_back is_reversed n items seen back is in
    let new = ap (λ b. facing b m items) back in
    record {
      ahead = ap (λ w. w.ahead) old ∙ over.behind ∙ ap (λ w. item ∷ w.ahead) (sym new);
      behind = ap (λ w. w.behind) new ∙ over.ahead ∙ ap (λ w. item ∷ w.behind) (sym old);
    }

-- ---- at an index
pub crosses_item : {A : Type 0} → (items : List A) (n m : ℕ) (item d : A) → n < length items → item ≡ get_or items n d → m ≡ n + 1 → Crosses item (before_item n items) (before_item m items)
crosses_item items n m item d within is next =
    let rest = drop (suc n) items in
    let parts : items ≡ take n items ++ item ∷ rest = sym (take-append-drop n items) ∙ ap (λ xs. take n items ++ xs) (drop-cons items n d within ∙ ap (λ x. x ∷ rest) (sym is)) in
    let len : n ≡ length (take n items) = sym (length-take-le n items (omega (arith, within))) in
    crosses items (take n items) item rest n m parts len (next ∙ ap (λ k. k + 1) len)

pub crosses_at : (items : List ℕ) (n m : ℕ) (item : ℕ) → n < length items → item ≡ get_or items n 0 → m ≡ n + 1 → Crosses item (before_item n items) (before_item m items)
crosses_at items n m item within is next = crosses_item items n m item 0 within is next

-- the items by their numbers
pub crosses_mapped : {A : Type 0} → (item_of : ℕ → A) (count n m : ℕ) → n < count → m ≡ n + 1
    → Crosses (item_of n) (before_item n (map item_of (range_with_len 0 count))) (before_item m (map item_of (range_with_len 0 count)))
crosses_mapped item_of count n m within next =
    let items = map item_of (range_with_len 0 count) in
    crosses_item items n m (item_of n) (item_of 0) (omega (arith, within, length-map-range_with_len item_of 0 count)) (sym (get_or-map-range_with_len item_of 0 count n n (item_of 0) within (omega arith))) next

pub none_ahead : {A : Type 0} → (items : List A) (n : ℕ) → n ≡ length items → (before_item n items).ahead ≡ []
none_ahead items n e = ahead_of items items [] n (sym (append-nil items)) e

-- ---- the number of items
pub ahead_count : {A : Type 0} → (items : List A) (n : ℕ) → length (before_item n items).ahead ≡ length items - n
ahead_count items n = length-drop n items

pub behind_count : {A : Type 0} → (items : List A) (n : ℕ) → n ≤ length items → length (before_item n items).behind ≡ n
behind_count items n within = length-reverse (take n items) ∙ length-take-le n items within
