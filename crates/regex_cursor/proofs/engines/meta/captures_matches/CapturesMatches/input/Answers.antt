use Rattle.std.proofs.Common.{ap₂, refl}
use Rattle.regex_cursor.specs.Regexes.{HasRoom, IsCacheOf}
use Rattle.regex_cursor.proofs.OrderLaws.{same-room}
use Rattle.regex_cursor.proofs.SetLaws.{same-serves}
use Rattle.regex_cursor.proofs.engines.meta.captures_matches.CapturesMatches.input.Goals as goal

pub returns : goal.returns
returns g c =
    let m = c.args.self.now in (
      (
        refl,
        λ w. ap₂ (λ (p : IsCacheOf m.re.now m.cache) (q : HasRoom m.re.now m.caps). record m { input = w; serves = p; holds = q }) (same-serves m.re.now m.cache _ m.serves) (same-room m.re.now m.caps _ m.holds),
      ),
      record { writes_back = tt; input = refl; search = refl },
    )
