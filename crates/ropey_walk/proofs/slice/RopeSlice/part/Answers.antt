use Rattle.std.proofs.Common.{◌≡◌, ◌+◌, ap, sym, ◌∙◌, arith}
use Rattle.ropey_tree.specs.declared.counts.By.TheVariants.{Bytes, Chars, Units, Breaks}
use Rattle.ropey_tree.specs.Counts.{counts_of}
use Rattle.ropey_walk.specs.Chunks.{text_of}
use Rattle.ropey_walk.specs.Clips.{between, clip}
use Rattle.ropey_walk.specs.Parts.{standing}
use Rattle.ropey_walk.specs.Sources.{source_pieces}
use Rattle.ropey_walk.specs.Slices.{slice_pieces}
use Rattle.ropey_walk.proofs.Clipping.{clip-nothing}
use Rattle.ropey_walk.proofs.Slices.{in_part, parts_fit, deeper_pieces}
use Rattle.ropey_walk.proofs.BreakLaws.{breaks_of_parts}
use Rattle.ropey_walk.proofs.slice.RopeSlice.part.Goals as goal

pub plus-requires-clause-bytes : goal.plus-requires-clause-bytes
plus-requires-clause-bytes c = parts_fit breaks_of_parts Bytes c.args.self.now c.args.start c.args.len c.requires.within c.requires.starts c.requires.counted

pub plus-requires-clause-chars : goal.plus-requires-clause-chars
plus-requires-clause-chars c = parts_fit breaks_of_parts Chars c.args.self.now c.args.start c.args.len c.requires.within c.requires.starts c.requires.counted

pub plus-requires-clause-units : goal.plus-requires-clause-units
plus-requires-clause-units c = parts_fit breaks_of_parts Units c.args.self.now c.args.start c.args.len c.requires.within c.requires.starts c.requires.counted

pub plus-requires-clause-breaks : goal.plus-requires-clause-breaks
plus-requires-clause-breaks c = parts_fit breaks_of_parts Breaks c.args.self.now c.args.start c.args.len c.requires.within c.requires.starts c.requires.counted

pub invariant_of-result : goal.invariant_of-result
invariant_of-result c =
    let s = c.args.self.now in
    let deeper = in_part breaks_of_parts s c.args.start c.args.len c.requires.within c.requires.starts c.requires.counted (omega (arith, c.if-len-eq0.false)) in
    let t = text_of (source_pieces s.source) in
    let e = c.plus.ensures in
    record {
      within = omega (arith, deeper.within, ap (λ n. n.chars) e);
      starts = e ∙ deeper.starts ∙ ap (λ n. standing t n.chars) (sym e);
      counted = deeper.counted ∙ ap (λ n. counts_of (between n.chars (n.chars + c.args.len.chars) t)) (sym e);
      fits = s.fits;
      utf8 = s.utf8;
      short = s.short;
    }

pub returns-then-len-eq0 : goal.returns-then-len-eq0
returns-then-len-eq0 c =
    let same : c.args.start.chars + c.args.len.chars ≡ c.args.start.chars = omega (arith, c.if-len-eq0.true) in
    c.new.ensures ∙ sym (ap (λ n. clip c.args.start.chars n (slice_pieces c.args.self.now)) same ∙ clip-nothing c.args.start.chars (slice_pieces c.args.self.now))

pub returns : goal.returns
returns c =
    let s = c.args.self.now in
    ap (λ n. clip n.chars (n.chars + c.args.len.chars) (source_pieces s.source)) c.plus.ensures ∙ deeper_pieces s c.args.start c.args.len c.requires.within
