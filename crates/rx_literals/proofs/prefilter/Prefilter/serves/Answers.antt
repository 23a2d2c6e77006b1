use Rattle.std.proofs.Common.{String, Global, string_bytes, List, ℕ, map, subst, ap, ◌∙◌}
use Rattle.rx_program.specs.Programs.{character_program}
use Rattle.rx_literals.specs.Ways.{Stem, StandFor}
use Rattle.rx_literals.proofs.WayLaws.{begin_with}
use Rattle.rx_literals.proofs.prefilter.Prefilter.serves.Goals as goal

abbrev bytes_in : List (String Global) → List (List ℕ)
bytes_in literals = map (λ literal. string_bytes literal) literals

pub returns : goal.returns
returns c = λ is.
    let stems = map (λ (stem : Stem). stem.literal) c.in_ok-beginnings.beginnings.list.items in
    let stand = c.begin_with_needles.ensures is in
    let known : StandFor c.args.self.now (bytes_in c.deref.result.now) = subst (λ needles. StandFor needles (bytes_in c.deref.result.now)) c.needles.ensures.needles stand in
    let told : StandFor c.args.self.now stems = subst (λ literals. StandFor c.args.self.now literals) (ap bytes_in c.deref.ensures.value ∙ c.in_ok-literals.ensures) known in
    begin_with (character_program c.args.program.now) c.in_ok-beginnings.beginnings.list.items c.args.self.now c.in_ok-beginnings.ensures told
