use Rattle.std.proofs.Common.{String, Global, string_bytes, List, ℕ, map, sym, subst}
use Rattle.rx_program.specs.Programs.{character_program}
use Rattle.rx_literals.specs.Ways.{Stem, StandFor}
use Rattle.rx_literals.proofs.KeptLaws.{stand_on}
use Rattle.rx_literals.proofs.WayLaws.{begin_if}
use Rattle.rx_literals.proofs.prefilter.Prefilter.from_program.Goals as goal

abbrev bytes_in : List (String Global) → List (List ℕ)
bytes_in literals = map (λ literal. string_bytes literal) literals

pub returns : goal.returns
returns c =
    let stems = map (λ (stem : Stem). stem.literal) c.in_ok-beginnings.beginnings.list.items in
    let shortest = bytes_in c.in_ok-shortest.shortest.items in
    let both : StandFor shortest (bytes_in c.in_ok-literals.literals.items) =
    stand_on (bytes_in c.in_ok-literals.literals.items) (bytes_in c.in_ok-kept.kept.items) shortest c.in_ok-kept.ensures c.in_ok-shortest.ensures in
    let stand : StandFor shortest stems = subst (λ others. StandFor shortest others) c.in_ok-literals.ensures both in
    let told : StandFor (bytes_in c.deref.result.now) stems = subst (λ literals. StandFor (bytes_in literals) stems) (sym c.deref.ensures.value) stand in
    begin_if (character_program c.args.program.now) c.in_ok-beginnings.beginnings.list.items (bytes_in c.deref.result.now) c.prefilter_of.result c.in_ok-beginnings.ensures told c.prefilter_of.ensures
