use Rattle.std.proofs.Common.{refl, subst}
use Rattle.rx_grammar.specs.Groups.{Setting, Opening}
use Rattle.rx_grammar.specs.Heads.{NoHead, capture_of, IsHead}
use Rattle.rx_grammar.proofs.ShorterLaws.{setting_shorter, opening_shorter}
use Rattle.rx_grammar.proofs.PlaceLaws.{err_map, setting_read, opening_read, no_head_here}
use Rattle.rx_grammar.proofs.parser.Parser.read_head.Goals as goal

pub returns-in_err-head : goal.returns-in_err-head
returns-in_err-head c = record { reads = λ place stands. err_map _ _ c.from_residual.result c.from_residual.ensures.1 }

pub returns-in_default : goal.returns-in_default
returns-in_default c = record {
  reads = λ place stands.
      let none : NoHead c.args.self.now.config c.args.text.now = rw c.in_default.is at c.in_ok-head.ensures in
      no_head_here place c.requires.parenthesis (subst (λ s. NoHead s c.args.text.now) stands.settings none);
}

pub returns-in_err-open-in-Group : goal.returns-in_err-open-in-Group
returns-in_err-open-in-Group c = record { reads = λ place stands. err_map _ _ c.from_residual-in_err-open-in-Group.result c.from_residual-in_err-open-in-Group.ensures.1 }

pub returns-in-Setting : goal.returns-in-Setting
returns-in-Setting c = record {
  reads = λ place stands.
      let head : IsHead c.args.self.now.config c.args.text.now c.in-Some.head c.in-Some.rest.now = rw c.in-Some.is at c.in_ok-head.ensures in
      let one : Setting c.args.self.now.config c.args.text.now c.in-Setting.config c.in-Some.rest.now = rw c.in-Setting.is at head in
      let here = subst (λ s. Setting s c.args.text.now c.in-Setting.config c.in-Some.rest.now) stands.settings one in
      setting_read place here (record { trees = stands.trees; below = stands.below; trees_are = stands.trees_are; level = stands.level; settings = refl; groups = stands.groups; around = stands.around })
      (setting_shorter here) refl;
}

pub returns-in_ok-open-in-Group : goal.returns-in_ok-open-in-Group
returns-in_ok-open-in-Group c = record {
  reads = λ place stands.
      let head : IsHead c.args.self.now.config c.args.text.now c.in-Some.head c.in-Some.rest.now = rw c.in-Some.is at c.in_ok-head.ensures in
      let one : Opening c.args.self.now.config c.args.text.now c.in-Group.config (capture_of c.in-Group.captures) c.in-Some.rest.now = rw c.in-Group.is at head in
      let here = subst (λ s. Opening s c.args.text.now c.in-Group.config (capture_of c.in-Group.captures) c.in-Some.rest.now) stands.settings one in
      opening_read place here (c.in_ok-open-in-Group.ensures.opens place stands) (opening_shorter here) c.in_ok-open-in-Group.ensures.groups;
}
