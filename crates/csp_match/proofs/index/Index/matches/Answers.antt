use Rattle.csp_match.proofs.AnyLaws.{or_here, or_there}
use Rattle.csp_match.proofs.SplitLaws.{split_decides}
use Rattle.csp_match.proofs.index.Index.matches.Goals as goal

pub returns-then-star_or_self_matches : goal.returns-then-star_or_self_matches
returns-then-star_or_self_matches c =
    let a = c.args in
    let split = split_decides a.self.now a.origin.now a.url.now a.redirected _
    (or_here _ _ _ c.star_or_self_matches.ensures c.if-star_or_self_matches.true) in
    record { value = split.0; matches = split.1 }

pub returns-else-star_or_self_matches : goal.returns-else-star_or_self_matches
returns-else-star_or_self_matches c =
    let a = c.args in
    let split = split_decides a.self.now a.origin.now a.url.now a.redirected _
    (or_there _ _ _ _ c.star_or_self_matches.ensures c.if-star_or_self_matches.false c.listed_source_matches.ensures) in
    record { value = split.0; matches = split.1 }
