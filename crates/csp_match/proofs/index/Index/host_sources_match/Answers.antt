use Rattle.std.proofs.Common.{◌∙◌, sym, ap}
use Rattle.csp_match.specs.Types.{Url}
use Rattle.csp_match.specs.Split.{any_host_source, host_sources}
use Rattle.csp_match.proofs.SplitLaws.{none_plain}
use Rattle.csp_match.proofs.index.Index.host_sources_match.Goals as goal

pub returns-in-Plain : goal.returns-in-Plain
returns-in-Plain c =
    let sources = host_sources c.args.self.now in
    sym (ap (λ (there : Url). any_host_source sources c.args.origin.now there c.args.redirected) c.in-Plain.is
    ∙ none_plain c.in-Plain.scheme sources c.args.origin.now c.args.redirected)
