-- The table of known edges.
use Rattle.std.proofs.Common.{◌≡◌, ℕ, zero, suc, ◌+◌, Bool, true, false, if◌then◌else◌, List, [], ◌∷◌, length, set, take, replicate, ◌++◌, Option, Some, None, slice_get, refl, sym, subst, arith}
use Rattle.rx_program.specs.Programs.{ByteProgram}
use Rattle.rx_onepass.specs.declared.edges.Edge.{Edge}
use Rattle.rx_onepass.specs.Edges.{AreEdges, IsEdge}

pub none_known : (p : ByteProgram) (len n : ℕ) → AreEdges p len (replicate n None)
none_known p len zero k e there = absurd (cc there)
none_known p len (suc n) zero e there = absurd (cc there)
none_known p len (suc n) (suc k) e there = none_known p len n k e there

pub learnt : (p : ByteProgram) (len : ℕ) (edges : List (Option Edge)) (place : ℕ) (e : Edge) → AreEdges p len edges → IsEdge p len e → AreEdges p len (set edges place (Some e))
learnt p len [] place e are one k f there = absurd (cc there)
learnt p len (x ∷ edges) zero e are one zero f there =
    let same : e ≡ f = cc there in
    subst (λ (y : Edge). IsEdge p len y) same one
learnt p len (x ∷ edges) zero e are one (suc k) f there = are (suc k) f there
learnt p len (x ∷ edges) (suc place) e are one zero f there = are 0 f there
learnt p len (x ∷ edges) (suc place) e are one (suc k) f there = learnt p len edges place e (λ j g at. are (suc j) g at) one k f there

-- with empty places behind them they are the same edges
pub room_made : (p : ByteProgram) (len : ℕ) (edges : List (Option Edge)) (n m : ℕ) → AreEdges p len edges → AreEdges p len (take n edges ++ replicate m None)
room_made p len edges zero m are k e there = none_known p len m k e there
room_made p len [] (suc n) m are k e there = none_known p len m k e there
room_made p len (x ∷ edges) (suc n) m are zero e there = are 0 e there
room_made p len (x ∷ edges) (suc n) m are (suc k) e there = room_made p len edges n m (λ j f at. are (suc j) f at) k e there

pub resized : (p : ByteProgram) (len : ℕ) (made : Bool) (edges edges' : List (Option Edge)) (n m : ℕ) → edges' ≡ (if made then take n edges ++ replicate m None else edges) → AreEdges p len edges → AreEdges p len edges'
resized p len true edges edges' n m is are = subst (λ es. AreEdges p len es) (sym is) (room_made p len edges n m are)
resized p len false edges edges' n m is are = subst (λ es. AreEdges p len es) (sym is) are
