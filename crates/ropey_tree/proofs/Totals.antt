-- The counts of leaf texts together.
use Rattle.std.proofs.Common.{◌≡◌, ℕ, ◌+◌, ◌-◌, ◌≤◌, cond, List, [], ◌∷◌, ◌++◌, length, refl, arith, replicate, length-append}
use Rattle.std.proofs.lemmas.List.{length-replicate}
use Rattle.std.proofs.lemmas.List.Sums.{sum_by-append, sum_by-le-sum_by}
use Rattle.std.proofs.lemmas.Str.{length-le-encodes, length-encode}
use Rattle.std.proofs.lemmas.Bool.{cond_both}
use Rattle.std.proofs.lemmas.Bool.Decides.{nat_tests}
use Rattle.std.proofs.lemmas.List.Sums.{sum_by-cons}
use Rattle.std.specs.Prelude.{encode_utf8, encode_utf8_all}
use Rattle.std.specs.Char.{len_utf8}
use Rattle.str_indices.specs.Text.{breaks, units, units_of, ends_break, ends_from, byte_len}
use Rattle.ropey_tree.specs.Breaks.{is_break}
use Rattle.ropey_tree.specs.declared.counts.Counts.{Counts}
use Rattle.ropey_tree.specs.declared.counts.By.{By}
use Rattle.ropey_tree.specs.declared.counts.By.TheVariants.{Bytes, Chars, Units, Breaks}
use Rattle.ropey_tree.specs.Counts.{total, plus, minus, amount, zero_counts}

pub total-append : (ps qs : List (List ℕ)) → total (ps ++ qs) ≡ plus (total ps) (total qs)
total-append ps qs =
    let b = sum_by-append byte_len ps qs in
    let c = sum_by-append {X = List ℕ} length ps qs in
    let u = sum_by-append units ps qs in
    let l = sum_by-append (breaks is_break) ps qs in
    cc

pub amount-plus : (by : By) (c d : Counts) → amount by (plus c d) ≡ amount by c + amount by d
amount-plus Bytes c d = refl
amount-plus Chars c d = refl
amount-plus Units c d = refl
amount-plus Breaks c d = refl

pub amount-zero : (by : By) → amount by zero_counts ≡ 0
amount-zero Bytes = refl
amount-zero Chars = refl
amount-zero Units = refl
amount-zero Breaks = refl

-- no measure of a text exceeds its bytes
units-le : (c : ℕ) → units_of c ≤ len_utf8 c
units-le c = grind (arith, nat_tests)

pub units-le-bytes : (text : List ℕ) → units text ≤ byte_len text
units-le-bytes [] = omega arith
units-le-bytes (c ∷ cs) = omega (arith, sum_by-cons units_of c cs, length-append (encode_utf8 c) (encode_utf8_all cs), length-encode c, units-le c, units-le-bytes cs)

ends-le : (at : ℕ) (text : List ℕ) → length (ends_from (λ c rest. cond (ends_break is_break c rest) 1 0) at text) ≤ length text
ends-le at [] = omega arith
ends-le at (c ∷ cs) =
    let n : ℕ = cond (ends_break is_break c cs) 1 0 in
    let few : n ≤ 1 = cond_both (ends_break is_break c cs) 1 0 (λ n. n ≤ 1) (λ _. omega arith) (λ _. omega arith) in
    omega (
      arith,
      few,
      length-append (replicate n (at + len_utf8 c)) (ends_from (λ c rest. cond (ends_break is_break c rest) 1 0) (at + len_utf8 c) cs),
      length-replicate n (at + len_utf8 c),
      ends-le (at + len_utf8 c) cs,
    )

pub breaks-le-bytes : (text : List ℕ) → breaks is_break text ≤ byte_len text
breaks-le-bytes text = omega (arith, ends-le 0 text, length-le-encodes text)

pub record AreBelow (counts : Counts) : Type 0 where
  pub chars : counts.chars ≤ counts.bytes
  pub units : counts.units ≤ counts.bytes
  pub breaks : counts.breaks ≤ counts.bytes

pub total-below : (ps : List (List ℕ)) → AreBelow (total ps)
total-below ps = record {
  chars = sum_by-le-sum_by {X = List ℕ} length byte_len ps length-le-encodes;
  units = sum_by-le-sum_by units byte_len ps units-le-bytes;
  breaks = sum_by-le-sum_by (breaks is_break) byte_len ps breaks-le-bytes;
}

-- the counts of the second of two parts are those of both, less those of the first
pub less : (a : Counts) (ps : List (List ℕ)) → minus (plus a (total ps)) a ≡ total ps
less a ps =
    let own = total ps in
    let n : a.bytes + own.bytes - a.bytes ≡ own.bytes = omega arith in
    let h : a.chars + own.chars - a.chars ≡ own.chars = omega arith in
    let u : a.units + own.units - a.units ≡ own.units = omega arith in
    let l : a.breaks + own.breaks - a.breaks ≡ own.breaks = omega arith in
    rw (n, h, u, l) refl
