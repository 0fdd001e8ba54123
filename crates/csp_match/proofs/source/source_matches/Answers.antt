use Rattle.std.proofs.Common.{◌≡◌, Bool, sym, subst, rules}
use Rattle.std.specs.Bool.{Decides}
use Rattle.csp_model.specs.DecideMatching as spec
use Rattle.csp_model.specs.Matching.{Matches}
use Rattle.csp_model.proofs.MatchingDecided.{matches_decides}
use Rattle.csp_match.specs.Types.{Source, Origin, Url}
use Rattle.csp_match.proofs.source.source_matches.Goals as goal

-- the result is the test's, which decides the relation
by_test : (s : Source) (self : Origin) (there : Url) (redirected result : Bool)
    → result ≡ spec.matches s self there redirected → Decides result (Matches s self there redirected)
by_test s self there redirected result value =
    subst (λ b. Decides b (Matches s self there redirected)) (sym value)
    (matches_decides s self there redirected)

pub returns-in-Star-clause-matches : goal.returns-in-Star-clause-matches
returns-in-Star-clause-matches c =
    let a = c.args in by_test a.source.now a.origin.now a.url.now a.redirected _ (search rules)

pub returns-in-SchemeOnly-clause-matches : goal.returns-in-SchemeOnly-clause-matches
returns-in-SchemeOnly-clause-matches c =
    let a = c.args in by_test a.source.now a.origin.now a.url.now a.redirected _ (search rules)

pub returns-then-redirected-clause-matches : goal.returns-then-redirected-clause-matches
returns-then-redirected-clause-matches c =
    let a = c.args in by_test a.source.now a.origin.now a.url.now a.redirected _ (search rules)

pub returns-else-redirected-clause-matches : goal.returns-else-redirected-clause-matches
returns-else-redirected-clause-matches c =
    let a = c.args in by_test a.source.now a.origin.now a.url.now a.redirected _ (search rules)

pub returns-else-port_matches-clause-matches : goal.returns-else-port_matches-clause-matches
returns-else-port_matches-clause-matches c =
    let a = c.args in by_test a.source.now a.origin.now a.url.now a.redirected _ (search rules)
