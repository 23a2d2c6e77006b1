use Rattle.std.proofs.Common.{◌++◌, ap, sym, arith, length-append}
use Rattle.std.specs.Str.{chars}
use Rattle.str_indices.proofs.TextLaws.{counts_of_joined_texts-units}
use Rattle.ropey_tree.proofs.Texts.{byte_len-append}
use Rattle.ropey_tree.proofs.Editing.{counts_are, bytes-few, three-few}
use Rattle.ropey_tree.proofs.edits.counts_replaced.Goals as goal

pub returns : goal.returns
returns c =
    let f = chars c.args.front.now in
    let g = chars c.args.gone.now in
    let t = chars c.args.text.now in
    let b = chars c.args.back.now in
    let new = f ++ t ++ b in
    let is = c.requires.counted in
    let less = c.of-less.ensures in
    let more = c.of-more.ensures in
    let cr = sym c.is_cr_last-is_cr.ensures in
    let lf = sym c.is_lf_first-is_lf.ensures in
    counts_are _ _ _ _ new
    (omega (arith, ap (λ k. k.bytes) is, ap (λ k. k.bytes) less, ap (λ k. k.bytes) more, byte_len-append (f ++ g) b, byte_len-append f g, byte_len-append (f ++ t) b, byte_len-append f t))
    (omega (arith, ap (λ k. k.chars) is, ap (λ k. k.chars) less, ap (λ k. k.chars) more, length-append (f ++ g) b, length-append f g, length-append (f ++ t) b, length-append f t))
    (omega (arith, ap (λ k. k.units) is, ap (λ k. k.units) less, ap (λ k. k.units) more, counts_of_joined_texts-units (f ++ g) b, counts_of_joined_texts-units f g, counts_of_joined_texts-units (f ++ t) b, counts_of_joined_texts-units f t))
    (omega (arith, ap (λ k. k.breaks) is, ap (λ k. k.breaks) less, ap (λ k. k.breaks) more, c.seams-lost.ensures.seams f b cr lf, c.seams-cut.ensures.seams f b cr lf))

pub overflow_add-result : goal.overflow_add-result
overflow_add-result c =
    let old = three-few c.args.front.now c.args.gone.now c.args.back.now 984 c.utf8.front c.utf8.gone c.utf8.back c.requires.few in
    let come = bytes-few c.args.text.now 1_960 c.utf8.text c.requires.fits in
    omega (arith, ap (λ k. k.bytes) c.requires.counted, old.bytes, ap (λ k. k.bytes) c.of-more.ensures, come.bytes)

pub overflow_add-result-2 : goal.overflow_add-result-2
overflow_add-result-2 c =
    let old = three-few c.args.front.now c.args.gone.now c.args.back.now 984 c.utf8.front c.utf8.gone c.utf8.back c.requires.few in
    let come = bytes-few c.args.text.now 1_960 c.utf8.text c.requires.fits in
    omega (arith, ap (λ k. k.chars) c.requires.counted, old.chars, ap (λ k. k.chars) c.of-more.ensures, come.chars)

pub overflow_add-result-3 : goal.overflow_add-result-3
overflow_add-result-3 c =
    let old = three-few c.args.front.now c.args.gone.now c.args.back.now 984 c.utf8.front c.utf8.gone c.utf8.back c.requires.few in
    let come = bytes-few c.args.text.now 1_960 c.utf8.text c.requires.fits in
    omega (arith, ap (λ k. k.units) c.requires.counted, old.units, ap (λ k. k.units) c.of-more.ensures, come.units)

pub overflow_add-result-4 : goal.overflow_add-result-4
overflow_add-result-4 c =
    let old = three-few c.args.front.now c.args.gone.now c.args.back.now 984 c.utf8.front c.utf8.gone c.utf8.back c.requires.few in
    omega (arith, ap (λ k. k.breaks) c.requires.counted, old.breaks, c.seams-lost.ensures.few)

pub overflow_add-result-5 : goal.overflow_add-result-5
overflow_add-result-5 c =
    let old = three-few c.args.front.now c.args.gone.now c.args.back.now 984 c.utf8.front c.utf8.gone c.utf8.back c.requires.few in
    let come = bytes-few c.args.text.now 1_960 c.utf8.text c.requires.fits in
    omega (arith, ap (λ k. k.breaks) c.requires.counted, old.breaks, c.seams-lost.ensures.few, ap (λ k. k.breaks) c.of-more.ensures, come.breaks)

pub overflow_sub-result : goal.overflow_sub-result
overflow_sub-result c =
    let f = chars c.args.front.now in
    let g = chars c.args.gone.now in
    let b = chars c.args.back.now in
    omega (arith, ap (λ k. k.bytes) c.requires.counted, ap (λ k. k.bytes) c.of-less.ensures, byte_len-append (f ++ g) b, byte_len-append f g)

pub overflow_sub-result-5 : goal.overflow_sub-result-5
overflow_sub-result-5 c =
    let f = chars c.args.front.now in
    let b = chars c.args.back.now in
    let cr = sym c.is_cr_last-is_cr.ensures in
    let lf = sym c.is_lf_first-is_lf.ensures in
    omega (arith, ap (λ k. k.breaks) c.requires.counted, ap (λ k. k.breaks) c.of-less.ensures, ap (λ k. k.breaks) c.of-more.ensures, c.seams-lost.ensures.seams f b cr lf, c.seams-cut.ensures.seams f b cr lf)
