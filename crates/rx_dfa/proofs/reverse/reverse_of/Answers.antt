use Rattle.std.proofs.Common.{sym, ap, subst, ◌∙◌}
use Rattle.unicode.specs.Perl.{is_word_char}
use Rattle.rx_utf8.specs.Automata.{is_in}
use Rattle.rx_walks.specs.Owners.{KeepsPatterns}
use Rattle.rx_walks.specs.Programs.{IsAbovePatterns}
use Rattle.rx_walks.specs.Reversed.{back_program}
use Rattle.rx_program.specs.Programs.{character_program}
use Rattle.rx_dfa.proofs.reverse.reverse_of.Goals as goal

pub returns : goal.returns
returns c =
    let p = c.args.compiled.now.program in
    let (trees, of_trees) = c.program.ensures.engine in
    record {
      characters = c.in_ok-reverse.ensures.characters ∙ ap (λ x. back_program (character_program x)) c.program.ensures.program;
      above = subst (λ x. IsAbovePatterns x) (sym of_trees.program) (c.programs_are_above_patterns.ensures trees p.line_terminator);
      keeps = λ s. subst (λ x. KeepsPatterns is_in is_word_char x s) (sym of_trees.program) (c.programs_keep_patterns.ensures trees p.line_terminator is_word_char s);
    }
