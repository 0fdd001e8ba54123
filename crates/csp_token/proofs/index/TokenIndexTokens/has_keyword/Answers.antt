use Rattle.std.proofs.Common.{◌≡◌, ◌∙◌, ap}
use Rattle.csp_model.specs.DecideTokens as tests
use Rattle.csp_model.proofs.TokensDecided.{keyword_decides}
use Rattle.csp_token.proofs.index.TokenIndexTokens.has_keyword.Goals as goal

pub returns-clause-has : goal.returns-clause-has
returns-clause-has c =
    let value : c.has.result ≡ tests.has_keyword c.args.word c.args.self.now =
    c.has.ensures ∙ c.self.invariant.has_words c.args.word ∙ ap (tests.has_keyword c.args.word) c.self.view_is in
    rw value (keyword_decides c.args.word c.args.self.now)
