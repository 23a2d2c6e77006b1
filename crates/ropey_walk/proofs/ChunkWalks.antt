-- Iterating over the chunks of a text in both directions.
use Rattle.std.proofs.Common.{◌≡◌, ℕ, suc, ◌+◌, ◌-◌, ◌<◌, ◌≤◌, ◌≢◌, ◌⊎◌, inl, inr, List, [], ◌∷◌, ◌++◌, length, refl, ap, arith, sym, ◌∙◌, subst, append_assoc, length-append}
use Rattle.std.specs.Prelude.{if◌then◌else◌, encode_utf8_all}
use Rattle.std.specs.Str.{IsUtf8, chars}
use Rattle.std.specs.List.{concat}
use Rattle.std.proofs.lemmas.List.{append-nil}
use Rattle.std.proofs.lemmas.List.Folds.{concat-append}
use Rattle.std.proofs.lemmas.Str.{encodes-append, encodes-chars}
use Rattle.std.proofs.lemmas.Bool.{ne_eqb}
use Rattle.str_indices.specs.Text.{byte_len}
use Rattle.ropey_tree.specs.declared.counts.Counts.{Counts}
use Rattle.ropey_tree.specs.declared.counts.By.{By}
use Rattle.ropey_tree.specs.declared.counts.By.TheVariants.{Bytes}
use Rattle.ropey_tree.specs.Counts.{counts_of, amount}
use Rattle.ropey_tree.specs.Cutting.{IsCutting}
use Rattle.ropey_walk.specs.Chunks.{text_of, lone_piece}
use Rattle.ropey_walk.specs.Standing.{StandsAt}
use Rattle.ropey_walk.specs.TwoWay.{before_item}
use Rattle.ropey_walk.specs.Iter.{IsBetweenPieces, pieces_before, StandsBefore, CutsNoCrLf}
use Rattle.ropey_walk.proofs.Cuts.{byte_len-append, first_piece, rest_cut, whole_seams, cut-right}
use Rattle.ropey_walk.proofs.Shows.{amount-nothing}
use Rattle.ropey_walk.proofs.TwoWay.{Crosses, crosses, ahead_of}

-- ---- positions by bytes
past_piece : (n : ℕ) (p : List ℕ) (ps : List (List ℕ)) → 1 ≤ n → pieces_before n (p ∷ ps) ≡ suc (pieces_before (n - byte_len p) ps)
past_piece n p ps h = ap (λ b. if b then 0 else suc (pieces_before (n - byte_len p) ps)) (ne_eqb n 0 (λ e. omega (arith, e, h)))

none_before : (ps : List (List ℕ)) → pieces_before 0 ps ≡ 0
none_before [] = refl
none_before (p ∷ ps) = refl

-- chunks that aren't empty are counted by their bytes
pub pieces_of_front : (front rest : List (List ℕ)) → IsCutting (front ++ rest) → pieces_before (byte_len (text_of front)) (front ++ rest) ≡ length front
pieces_of_front [] rest cut = none_before rest
pieces_of_front (f ∷ front) rest cut =
    let sum = byte_len-append f (concat front) in
    let some = (first_piece f (front ++ rest) cut).not_empty in
    let left : byte_len (concat (f ∷ front)) - byte_len f ≡ byte_len (concat front) = omega (arith, sum) in
    past_piece (byte_len (concat (f ∷ front))) f (front ++ rest) (omega (arith, sum, some))
    ∙ ap (λ n. suc (pieces_before n (front ++ rest))) left ∙ ap suc (pieces_of_front front rest (rest_cut f (front ++ rest) cut))

pub front_counted : (pieces front rest : List (List ℕ)) (byte : ℕ) → IsCutting pieces → pieces ≡ front ++ rest → byte ≡ byte_len (text_of front) → pieces_before byte pieces ≡ length front
front_counted pieces front rest byte cut parts place =
    ap (λ n. pieces_before n pieces) place ∙ ap (λ ps. pieces_before (byte_len (text_of front)) ps) parts ∙ pieces_of_front front rest (subst IsCutting parts cut)

-- ---- two divisions of the chunks are equal if the one cuts inside the first chunk of the other
same_front : (front rest before : List (List ℕ)) (chunk : List ℕ) (after : List (List ℕ)) → IsCutting (front ++ rest) → front ++ rest ≡ before ++ chunk ∷ after
    → byte_len (concat before) ≤ byte_len (concat front) → byte_len (concat front) < byte_len (concat before) + byte_len chunk → front ≡ before
same_front [] rest [] chunk after cut e low high = refl
same_front [] rest (b ∷ before) chunk after cut e low high =
    let some = first_piece b (before ++ chunk ∷ after) (subst IsCutting e cut) in
    absurd (omega (arith, some.not_empty, low, byte_len-append b (concat before)))
same_front (f ∷ front) rest [] chunk after cut e low high =
    let same : f ≡ chunk = cc in
    absurd (omega (arith, high, ap byte_len same, byte_len-append f (concat front)))
same_front (f ∷ front) rest (b ∷ before) chunk after cut e low high =
    let same : f ≡ b = cc in
    let rests : front ++ rest ≡ before ++ chunk ∷ after = cc in
    let len = ap byte_len same in
    let fs = byte_len-append f (concat front) in
    let bs = byte_len-append b (concat before) in
    let below = same_front front rest before chunk after (rest_cut f (front ++ rest) cut) rests (omega arith) (omega arith) in
    cc

-- the same if the start ends after the start of that first chunk, and not after its end
same_end : (front rest before : List (List ℕ)) (chunk : List ℕ) (after : List (List ℕ)) → IsCutting (front ++ rest) → front ++ rest ≡ before ++ chunk ∷ after
    → byte_len (concat before) < byte_len (concat front) → byte_len (concat front) ≤ byte_len (concat before) + byte_len chunk → front ≡ before ++ chunk ∷ []
same_end [] rest before chunk after cut e low high = absurd (omega (arith, low))
same_end (f ∷ []) rest [] chunk after cut e low high =
    let same : f ≡ chunk = cc in
    ap (λ p. p ∷ []) same
same_end (f ∷ g ∷ front) rest [] chunk after cut e low high =
    let same : f ≡ chunk = cc in
    let some = (first_piece g (front ++ rest) (rest_cut f (g ∷ front ++ rest) cut)).not_empty in
    absurd (omega (arith, high, some, ap byte_len same, byte_len-append f (concat (g ∷ front)), byte_len-append g (concat front)))
same_end (f ∷ front) rest (b ∷ before) chunk after cut e low high =
    let same : f ≡ b = cc in
    let rests : front ++ rest ≡ before ++ chunk ∷ after = cc in
    let len = ap byte_len same in
    let fs = byte_len-append f (concat front) in
    let bs = byte_len-append b (concat before) in
    let below = same_end front rest before chunk after (rest_cut f (front ++ rest) cut) rests (omega arith) (omega arith) in
    cc

-- a chunk of a text that isn't empty is one of its chunks
pub piece_shown : (pieces : List (List ℕ)) (chunk : List ℕ) (before after : List (List ℕ)) → pieces ≡ before ++ lone_piece chunk ++ after → (chunk ≡ [] → pieces ≡ []) → 0 < byte_len (concat pieces) → pieces ≡ before ++ chunk ∷ after
piece_shown pieces [] before after parts some there = absurd (omega (arith, there, ap (λ ps. byte_len (concat ps)) (some refl)))
piece_shown pieces (c ∷ cs) before after parts some there = parts ∙ append_assoc before ((c ∷ cs) ∷ []) after

bytes_of_parts : (pieces front rest : List (List ℕ)) → pieces ≡ front ++ rest → byte_len (text_of pieces) ≡ byte_len (text_of front) + byte_len (text_of rest)
bytes_of_parts pieces front rest parts = ap (λ ps. byte_len (text_of ps)) parts ∙ ap byte_len (concat-append front rest) ∙ byte_len-append (concat front) (concat rest)

-- ---- over one chunk, from its first byte to its end
pub record CrossesChunk (pieces : List (List ℕ)) (start end : ℕ) (chunk : List ℕ) : Type 0 where
  pub starts : IsBetweenPieces pieces start
  pub ends : IsBetweenPieces pieces end
  pub over : Crosses chunk (before_item (pieces_before start pieces) pieces) (before_item (pieces_before end pieces) pieces)
  pub within : end ≤ byte_len (text_of pieces)

crosses_chunk : (pieces before : List (List ℕ)) (chunk : List ℕ) (after : List (List ℕ)) (start end : ℕ) → IsCutting pieces → pieces ≡ before ++ chunk ∷ after
    → start ≡ byte_len (text_of before) → end ≡ start + byte_len chunk → CrossesChunk pieces start end chunk
crosses_chunk pieces before chunk after start end cut parts place len =
    let through = before ++ chunk ∷ [] in
    let parts_after : pieces ≡ through ++ after = parts ∙ sym (append_assoc before (chunk ∷ []) after) in
    let text : text_of through ≡ text_of before ++ chunk = concat-append before (chunk ∷ []) ∙ ap (λ t. concat before ++ t) (append-nil chunk) in
    let place_after : end ≡ byte_len (text_of through) = omega (arith, place, len, ap byte_len text, byte_len-append (concat before) chunk) in
    let count = front_counted pieces before (chunk ∷ after) start cut parts place in
    let count_after = front_counted pieces through after end cut parts_after place_after in
    record {
      starts = record { front = before; rest = chunk ∷ after; parts = parts; place = place };
      ends = record { front = through; rest = after; parts = parts_after; place = place_after };
      over = crosses pieces before chunk after (pieces_before start pieces) (pieces_before end pieces) parts count (count_after ∙ length-append before (chunk ∷ []));
      within = omega (arith, place_after, bytes_of_parts pieces through after parts_after);
    }

-- the end of the chunk that contains a position
ends_behind : (pieces before : List (List ℕ)) (chunk : List ℕ) (after : List (List ℕ)) (i : ℕ) → pieces ≡ before ++ chunk ∷ after → i < byte_len (text_of pieces)
    → (i < byte_len (text_of before ++ chunk)) ⊎ (after ≡ []) → i < byte_len (text_of before) + byte_len chunk
ends_behind pieces before chunk after i parts inside (inl p) = omega (arith, p, byte_len-append (text_of before) chunk)
ends_behind pieces before chunk after i parts inside (inr e) =
    let whole : text_of pieces ≡ text_of before ++ (chunk ++ text_of after) = ap concat parts ∙ concat-append before (chunk ∷ after) in
    let none : byte_len (text_of after) ≡ 0 = ap (λ ps. byte_len (text_of ps)) e in
    omega (arith, inside, none, ap byte_len whole, byte_len-append (text_of before) (chunk ++ text_of after), byte_len-append chunk (text_of after))

-- the chunk at a position where one starts is the next one
pub next_chunk : (pieces : List (List ℕ)) (byte end : ℕ) (chunk : List ℕ) (start : Counts) → IsBetweenPieces pieces byte → IsCutting pieces → byte ≢ byte_len (text_of pieces)
    → StandsAt pieces Bytes byte chunk start → end ≡ byte + byte_len chunk → CrossesChunk pieces byte end chunk
next_chunk pieces byte end chunk start h cut apart stands len =
    let inside : byte < byte_len (text_of pieces) = omega (arith, h.place, apart, bytes_of_parts pieces h.front h.rest h.parts) in
    let parts = piece_shown pieces chunk stands.before stands.after stands.parts stands.some (omega (arith, inside)) in
    let high = ends_behind pieces stands.before chunk stands.after byte parts inside stands.passed in
    let same = same_front h.front h.rest stands.before chunk stands.after (subst IsCutting h.parts cut) (sym h.parts ∙ parts) (omega (arith, h.place, stands.not_past)) (omega (arith, h.place, high)) in
    crosses_chunk pieces stands.before chunk stands.after byte end cut parts (h.place ∙ ap (λ ps. byte_len (text_of ps)) same) len

-- the chunk at the byte before such a position is the one before it
pub chunk_before : (pieces : List (List ℕ)) (byte : ℕ) (chunk : List ℕ) (start : Counts) → IsBetweenPieces pieces byte → IsCutting pieces → byte ≢ 0
    → StandsAt pieces Bytes (byte - 1) chunk start → CrossesChunk pieces start.bytes byte chunk
chunk_before pieces byte chunk start h cut some stands =
    let inside : byte ≤ byte_len (text_of pieces) = omega (arith, h.place, bytes_of_parts pieces h.front h.rest h.parts) in
    let parts = piece_shown pieces chunk stands.before stands.after stands.parts stands.some (omega (arith, inside, some)) in
    let high = ends_behind pieces stands.before chunk stands.after (byte - 1) parts (omega (arith, inside, some)) stands.passed in
    let same = same_end h.front h.rest stands.before chunk stands.after (subst IsCutting h.parts cut) (sym h.parts ∙ parts) (omega (arith, h.place, some, stands.not_past)) (omega (arith, h.place, some, high)) in
    let text : text_of (stands.before ++ chunk ∷ []) ≡ text_of stands.before ++ chunk = concat-append stands.before (chunk ∷ []) ∙ ap (λ t. concat stands.before ++ t) (append-nil chunk) in
    let starts : start.bytes ≡ byte_len (text_of stands.before) = ap (λ c. c.bytes) stands.start_is in
    let ends : byte ≡ start.bytes + byte_len chunk = omega (arith, starts, h.place, ap (λ ps. byte_len (text_of ps)) same, ap byte_len text, byte_len-append (concat stands.before) chunk) in
    crosses_chunk pieces stands.before chunk stands.after start.bytes byte cut parts starts ends

-- ---- the ends
pub none_ahead : (pieces : List (List ℕ)) (byte : ℕ) → IsBetweenPieces pieces byte → IsCutting pieces → byte ≡ byte_len (text_of pieces) → (before_item (pieces_before byte pieces) pieces).ahead ≡ []
none_ahead pieces byte h cut e =
    let count = front_counted pieces h.front h.rest byte cut h.parts h.place in
    ahead_of pieces h.front h.rest (pieces_before byte pieces) h.parts count ∙ no_piece h.rest (cut-right h.front h.rest (subst IsCutting h.parts cut)) (omega (arith, e, h.place, bytes_of_parts pieces h.front h.rest h.parts))
  where
    no_piece : (rest : List (List ℕ)) → IsCutting rest → byte_len (concat rest) ≤ 0 → rest ≡ []
    no_piece [] cut low = refl
    no_piece (p ∷ ps) cut low = absurd (omega (arith, low, (first_piece p ps cut).not_empty, byte_len-append p (concat ps)))

-- ---- the chunks from an index on
some_piece : (pieces before : List (List ℕ)) (chunk : List ℕ) (after : List (List ℕ)) (by : By) (i : ℕ) → pieces ≡ before ++ lone_piece chunk ++ after → (chunk ≡ [] → pieces ≡ []) → i < amount by (counts_of (text_of pieces))
    → pieces ≡ before ++ chunk ∷ after
some_piece pieces before [] after by i parts some more = absurd (omega (arith, more, ap (λ ps. amount by (counts_of (text_of ps))) (some refl), amount-nothing by))
some_piece pieces before (c ∷ cs) after by i parts some more = parts ∙ append_assoc before ((c ∷ cs) ∷ []) after

passes_chunk : (pieces before : List (List ℕ)) (chunk : List ℕ) (after : List (List ℕ)) (by : By) (i : ℕ) → pieces ≡ before ++ chunk ∷ after → i < amount by (counts_of (text_of pieces))
    → (i < amount by (counts_of (text_of before ++ chunk))) ⊎ (after ≡ []) → i < amount by (counts_of (text_of before ++ chunk))
passes_chunk pieces before chunk after by i parts more (inl p) = p
passes_chunk pieces before chunk after by i parts more (inr e) =
    let whole : text_of pieces ≡ text_of before ++ chunk =
    ap text_of parts ∙ ap (λ ps. text_of (before ++ chunk ∷ ps)) e ∙ concat-append before (chunk ∷ []) ∙ ap (λ t. concat before ++ t) (append-nil chunk) in
    omega (arith, more, ap (λ t. amount by (counts_of t)) whole)

pub chunk_parts : (pieces : List (List ℕ)) (by : By) (i : ℕ) (chunk : List ℕ) (start : Counts) → StandsAt pieces by i chunk start → IsBetweenPieces pieces start.bytes
chunk_parts pieces by i chunk start h = record {
  front = h.before;
  rest = lone_piece chunk ++ h.after;
  parts = h.parts ∙ append_assoc h.before (lone_piece chunk) h.after;
  place = ap (λ c. c.bytes) h.start_is;
}

pub stands_before : (pieces : List (List ℕ)) (by : By) (i : ℕ) (chunk : List ℕ) (start : Counts) → IsCutting pieces → StandsAt pieces by i chunk start → i < amount by (counts_of (text_of pieces))
    → StandsBefore pieces (λ text. amount by (counts_of text)) i (before_item (pieces_before start.bytes pieces) pieces) start.bytes start.chars start.breaks
stands_before pieces by i chunk start cut h more =
    let parts = some_piece pieces h.before chunk h.after by i h.parts h.some more in
    let place : start.bytes ≡ byte_len (text_of h.before) = ap (λ c. c.bytes) h.start_is in
    record {
      before = h.before;
      after = chunk ∷ h.after;
      parts = parts;
      stands = ap (λ n. before_item n pieces) (front_counted pieces h.before (chunk ∷ h.after) start.bytes cut parts place);
      byte_is = place;
      char_is = ap (λ c. c.chars) h.start_is;
      line_is = ap (λ c. c.breaks) h.start_is;
      not_past = h.not_past;
      passed = passes_chunk pieces h.before chunk h.after by i parts more h.passed;
    }

pub stands_behind : (pieces : List (List ℕ)) (by : By) (i : ℕ) (len : Counts) → IsCutting pieces → len ≡ counts_of (text_of pieces) → amount by len ≤ i
    → StandsBefore pieces (λ text. amount by (counts_of text)) i (before_item (pieces_before len.bytes pieces) pieces) len.bytes len.chars len.breaks
stands_behind pieces by i len cut is past = record {
  before = pieces;
  after = [];
  parts = sym (append-nil pieces);
  stands = ap (λ n. before_item n pieces) (front_counted pieces pieces [] len.bytes cut (sym (append-nil pieces)) (ap (λ c. c.bytes) is));
  byte_is = ap (λ c. c.bytes) is;
  char_is = ap (λ c. c.chars) is;
  line_is = ap (λ c. c.breaks) is;
  not_past = omega (arith, past, ap (λ c. amount by c) is);
  passed = tt;
}

pub all_parts : (pieces : List (List ℕ)) (byte : ℕ) → byte ≡ byte_len (text_of pieces) → IsBetweenPieces pieces byte
all_parts pieces byte e = record { front = pieces; rest = []; parts = sym (append-nil pieces); place = e }

pub first_parts : (pieces : List (List ℕ)) → IsBetweenPieces pieces 0
first_parts pieces = record { front = []; rest = pieces; parts = refl; place = refl }

pub none_before_first : (pieces : List (List ℕ)) → before_item (pieces_before 0 pieces) pieces ≡ before_item 0 pieces
none_before_first pieces = ap (λ n. before_item n pieces) (none_before pieces)

pub parts_whole : (pieces : List (List ℕ)) → IsCutting pieces → CutsNoCrLf pieces
parts_whole pieces cut front rest e = whole_seams front rest (subst IsCutting e cut)

-- ---- the loop over the chunks: what is written and what is ahead are the text
pub written : (bytes chunk : List ℕ) (ahead after : List (List ℕ)) (text : List ℕ) → bytes ++ encode_utf8_all (text_of ahead) ≡ text → ahead ≡ chars chunk ∷ after → IsUtf8 chunk
    → (bytes ++ chunk) ++ encode_utf8_all (text_of after) ≡ text
written bytes chunk ahead after text sofar e utf8 =
    let rest = encode_utf8_all (text_of after) in
    let next : chunk ++ rest ≡ encode_utf8_all (text_of ahead) =
    ap (λ bs. bs ++ rest) (sym (encodes-chars chunk utf8)) ∙ sym (encodes-append (chars chunk) (text_of after)) ∙ ap (λ ps. encode_utf8_all (text_of ps)) (sym e) in
    append_assoc bytes chunk rest ∙ ap (λ bs. bytes ++ bs) next ∙ sofar
