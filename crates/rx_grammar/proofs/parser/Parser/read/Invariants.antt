use Rattle.std.proofs.Common.{◌+◌, ◌<◌, ◌^◌, [], length}
use Rattle.rx_grammar.specs.Resuming.{PatternPlace}
use Rattle.rx_grammar.specs.Places.{ParserIsAt}
use Rattle.rx_grammar.proofs.PatternLaws.{ReadSoFar}
use Rattle.rx_grammar.proofs.parser.Parser.read.Given as goal

abbrev pub invariant-loop-c : goal.invariant-loop-c
invariant-loop-c l = record {
  room : l.self.groups + length l.rest < 2 ^ 32;
  so_far : (place : PatternPlace) → ParserIsAt l.fn.self [] place → ReadSoFar l.self place l.text l.rest;
}

abbrev pub decreases-loop-c : goal.decreases-loop-c
decreases-loop-c l = length l.rest
