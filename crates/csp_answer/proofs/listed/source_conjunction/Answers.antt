use Rattle.csp_answer.proofs.SourcesAmount.{host_case, own_case, scheme_case, self_case}
use Rattle.csp_answer.proofs.listed.source_conjunction.Goals as goal

pub returns-in-Scheme-SchemeOnly : goal.returns-in-Scheme-SchemeOnly
returns-in-Scheme-SchemeOnly c =
    let at = c.in-Scheme-SchemeOnly in
    scheme_case c.args.names.now c.args.origin.now c.args.shape c.source_outline.result c.args.source.now at.scheme-1 c.args.named c.conjunction_of.result
    c.requires.source at.is-0 at.is-1 c.source_outline.ensures c.conjunction_of.ensures

pub returns-in-Hosted-Hosted : goal.returns-in-Hosted-Hosted
returns-in-Hosted-Hosted c =
    let at = c.in-Hosted-Hosted in
    host_case c.args.names.now c.args.origin.now c.args.shape c.source_outline.result c.args.source.now _ _ _ _ at.port at.path c.args.named
    c.port_asked.result c.path_asked.result c.conjunction_of-in-Hosted-Hosted.result c.requires.source c.requires.ports at.is-0 at.is-1 c.source_outline.ensures
    c.port_asked.ensures c.path_asked.ensures c.conjunction_of-in-Hosted-Hosted.ensures

pub returns-in-Own-Word : goal.returns-in-Own-Word
returns-in-Own-Word c =
    let at = c.in-Own-Word in
    self_case c.args.names.now c.args.origin.now c.args.shape c.source_outline.result c.args.source.now at.word-1 at.port c.args.named
    c.port_asked-in-Own-Word.result c.conjunction_of-in-Own-Word.result c.requires.source c.requires.ports at.is-0 at.is-1 c.source_outline.ensures
    c.port_asked-in-Own-Word.ensures c.conjunction_of-in-Own-Word.ensures

pub returns-in_default-4 : goal.returns-in_default-4
returns-in_default-4 c =
    let at = c.in_default in
    own_case c.args.names.now c.args.origin.now c.args.shape c.source_outline.result c.args.source.now at.field-0-0 at.is-0 at.not-Word-1 c.source_outline.ensures
