-- The work of a search at each offset.
use Rattle.std.proofs.Common.{◌≡◌, ℕ, ◌+◌, ◌-◌, ◌*◌, ◌≤◌, arith}
use Rattle.std.proofs.Math.Nat.{mul-le-mul_left}
use Rattle.rx_walks.specs.Finds.{Search, IsInside}
use Rattle.rx_walks.specs.ProgramFinds.{lowest, highest}
use Rattle.rx_steps.specs.Caches.{place_count}

-- no work yet
pub none_done : (nodes before first : ℕ) → before ≤ before + nodes * (first - first)
none_done nodes before first = omega arith

-- one more offset
pub one_more : (nodes before now after done all : ℕ) → now ≤ before + nodes * done → after ≤ now + nodes → done + 1 ≤ all → after ≤ before + nodes * all
one_more nodes before now after done all come step within =
    let grown : nodes * (done + 1) ≤ nodes * all = mul-le-mul_left nodes within in
    omega (arith, come, step, grown)

-- an offset inside is one that threads can reach
pub is_among_places : (s : Search) (first i : ℕ) → first ≡ lowest s → IsInside s i → (i - first) + 1 ≤ place_count s
is_among_places s first i is (low, high, start, end, within) =
    let above : lowest s ≤ i = omega (arith, low, start) in
    let below : i ≤ highest s = omega (arith, high, end, within) in
    omega (arith, is, above, below)

-- after one more offset
pub next_done : (nodes before now after first i j : ℕ) → now ≤ before + nodes * (i - first) → after ≤ now + nodes → first ≤ i → i + 1 ≤ j → after ≤ before + nodes * (j - first)
next_done nodes before now after first i j come step above is = one_more nodes before now after (i - first) (j - first) come step (omega (arith, above, is))

-- an offset inside is not below the lowest one
pub come_so_far : (s : Search) (first i : ℕ) → first ≡ lowest s → IsInside s i → first ≤ i
come_so_far s first i is (low, high, start, end, within) = omega (arith, is, low, start)
