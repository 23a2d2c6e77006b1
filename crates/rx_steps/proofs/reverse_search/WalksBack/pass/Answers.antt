use Rattle.std.proofs.Common.{◌≡◌, ℕ, Bool, sym, ap, subst}
use Rattle.rx_walks.specs.Finds.{Search, IsInside}
use Rattle.rx_walks.specs.Looks as walks
use Rattle.rx_input.specs.Inputs.{InputState, IsMoved}
use Rattle.rx_steps.specs.declared.place.Place.{Place}
use Rattle.rx_steps.specs.Lists.{Asks, is_among}
use Rattle.rx_steps.specs.declared.place.Place.{Place}
use Rattle.rx_steps.specs.ListsAll.{nodes_of}
use Rattle.rx_steps.specs.Reversed.{byte_program_of}
use Rattle.rx_steps.specs.Searching.{haystack_in, search_of}
use Rattle.rx_steps.specs.ComingBack.{HasSteppedBack, IsStepBack, byte_taken_back, mirror_of, back_machine_in}
use Rattle.rx_steps.proofs.BackComeLaws.{moves_back}
use Rattle.rx_steps.proofs.OverLaws.{same_search}
use Rattle.rx_steps.proofs.reverse_search.WalksBack.pass.Goals as goal

-- an input moved to where it was
same_there : (P : Search → ℕ → Type 0) (b : Bool) (old new : InputState) → IsMoved old new old.position old.asked → P (search_of b old) old.position → P (search_of b new) new.position
same_there P b old new moved is =
    let same : search_of b new ≡ search_of b old = same_search b new old moved.same.content moved.asked_is in
    subst (λ s. P s new.position) (sym same) (subst (λ k. P (search_of b old) k) (sym moved.position_is) is)

same_back : (P : Search → ℕ → Type 0) (b : Bool) (old new : InputState) → IsMoved old new old.position old.asked → P (search_of b new) new.position → P (search_of b old) old.position
same_back P b old new moved is =
    let same : search_of b new ≡ search_of b old = same_search b new old moved.same.content moved.asked_is in
    subst (λ k. P (search_of b old) k) moved.position_is (subst (λ s. P s new.position) same is)

pub returns-in_err-met-clause-moved : goal.returns-in_err-met-clause-moved
returns-in_err-met-clause-moved g c = λ b inside.
    let old = c.args.input.now in
    let new = c.looks_at-looks.new.input in
    same_back (λ s i. HasSteppedBack s i c.step_back.new.input.position) b old new c.looks_at-looks.ensures.same
    (c.step_back.ensures.moved b (same_there (λ s i. IsInside s i) b old new c.looks_at-looks.ensures.same inside))

pub returns-clause-moved : goal.returns-clause-moved
returns-clause-moved g c = λ b inside.
    let old = c.args.input.now in
    let new = c.looks_at-looks.new.input in
    same_back (λ s i. HasSteppedBack s i c.step_back.new.input.position) b old new c.looks_at-looks.ensures.same
    (c.step_back.ensures.moved b (same_there (λ s i. IsInside s i) b old new c.looks_at-looks.ensures.same inside))

pub returns-clause-step : goal.returns-clause-step
returns-clause-step g c = λ b inside.
    let p = byte_program_of c.args.program.now in
    let old = c.args.input.now in
    let new = c.looks_at-looks.new.input in
    let s = search_of b old in
    let i = old.position in
    let looks' = c.looks_at-looks.result in
    let byte : c.step_back.result ≡ byte_taken_back s i = same_back (λ s' k. c.step_back.result ≡ byte_taken_back s' k) b old new c.looks_at-looks.ensures.same
    (c.step_back.ensures.byte b (same_there (λ s' k. IsInside s' k) b old new c.looks_at-looks.ensures.same inside)) in
    let looks : (l : walks.Look) → Asks p.states l → (haystack_in p.line_terminator s).holds l i ≡ is_among looks' l = λ l asks.
    subst (λ t. (haystack_in t s).holds l i ≡ is_among looks' l) c.line_terminator.ensures (c.looks_at-looks.ensures.looks p.states b inside c.requires.made.looks l asks) in
    let place : Place = record { at = c.unwrap.result; byte = c.step_back.result; looks = looks' } in
    let moves = moves_back p s i place inside byte looks in
    subst (λ ts. IsStepBack p s i (nodes_of c.args.self.now.live.threads) (nodes_of ts) c.in_ok-met.met) (sym (ap (λ v. v.threads) c.swap.ensures.x_after))
    (c.in_ok-met.ensures.list (back_machine_in p s) (mirror_of s i) (mirror_of s s.end) moves)
