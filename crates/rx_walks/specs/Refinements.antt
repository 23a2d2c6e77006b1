-- A machine that reads in smaller steps, as bytes for another's characters.
use Rattle.std.specs.Prelude.{◌≡◌, ℕ, List, [], map}
use Rattle.rx_walks.specs.Machines.{Machine, ends, goes, reads}

-- reads one after another, without branches
pub data Chain {Q N : Type 0} (m : Machine Q N) : Q → ℕ → Q → ℕ → Type 0 where
  last : {q r : Q} {i j : ℕ} → m.move i q ≡ reads r j → Chain m q i r j
  more : {q r s : Q} {i j k : ℕ} → m.move i q ≡ reads r j → Chain m r j s k → Chain m q i s k

-- reads, or none, that lead to a node without an edge
pub data Dies {Q N : Type 0} (m : Machine Q N) : Q → ℕ → Type 0 where
  at_once : {q : Q} {i : ℕ} → m.move i q ≡ goes [] → Dies m q i
  after_read : {q r : Q} {i j : ℕ} → m.move i q ≡ reads r j → Dies m r j → Dies m q i

-- at an offset a node has the same move in both machines: a read of one is a chain of the other,
-- and if the one has no edge the other dies
pub data Agrees {C B N : Type 0} (c : Machine C N) (b : Machine B N) (f : C → B) (i : ℕ)
    (q : C) : Type 0 where
  both_end : {p : ℕ} → c.move i q ≡ ends p → b.move i (f q) ≡ ends p → Agrees c b f i q
  both_go : {rs : List C} → c.move i q ≡ goes rs → b.move i (f q) ≡ goes (map f rs)
      → Agrees c b f i q
  both_read : {r : C} {j : ℕ} → c.move i q ≡ reads r j → Chain b (f q) i (f r) j → Agrees c b f i q
  both_fail : c.move i q ≡ goes [] → Dies b (f q) i → Agrees c b f i q

-- machine b does by chains of reads what c does by single ones; f maps the nodes of c to nodes of b
pub record Refines {C B N : Type 0} (c : Machine C N) (b : Machine B N) (f : C → B) : Type 0 where
  pub apart : (q r : C) → f q ≡ f r → q ≡ r
  pub notes : (i : ℕ) (q : C) (n : N) → b.note i (f q) n ≡ c.note i q n
  pub agrees : (i : ℕ) (q : C) → Agrees c b f i q
