-- Inputs over the same haystack with the same request.
use Rattle.std.proofs.Common.{◌≡◌, take, sym, ap, ap₂}
use Rattle.rx_input.specs.Cursors.{IsSameContent}
use Rattle.rx_input.specs.Inputs.{InputState, Asked}
use Rattle.rx_literals.specs.Needles.{bytes_to_end}

pub same_bytes : (i j : InputState) → IsSameContent i.cursor j.cursor → j.asked ≡ i.asked → bytes_to_end i ≡ bytes_to_end j
same_bytes i j same asked = ap₂ take (ap (λ (a : Asked). a.span.end) (sym asked)) (sym same.content)
