-- What is on one side of an offset.
use Rattle.rx_walks.specs.Looks as walks
use Rattle.rx_steps.specs.declared.sides.Side.{Side}
use Rattle.rx_steps.specs.declared.sides.Side.TheVariants.{Edge, Broken, Whole}

-- a side in the definition of assertions
abbrev pub side : Side → walks.Side
side Edge = walks.edge
side Broken = walks.broken
side (Whole c) = walks.whole c
