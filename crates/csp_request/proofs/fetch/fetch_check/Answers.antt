use Rattle.csp_request.proofs.fetch.fetch_check.Goals as goal

pub returns-clause-valid : goal.returns-clause-valid
returns-clause-valid c =
    (c.requires.hop.0, c.requires.hop.1, c.text_is_utf8.ensures, c.requires.integrity)
