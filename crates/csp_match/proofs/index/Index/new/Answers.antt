use Rattle.std.proofs.Common.{◌∙◌, ap}
use Rattle.std.specs.List.{list_any}
use Rattle.csp_match.specs.Split.{is_star, is_self, scheme_parts, host_sources}
use Rattle.csp_match.proofs.SplitLaws.{schemes_once}
use Rattle.csp_match.proofs.index.Index.new.Goals as goal

pub invariant_of-result : goal.invariant_of-result
invariant_of-result c =
    let listed = c.as_slice-listed.ensures in
    record {
      star = c.has_star.ensures ∙ ap (list_any is_star) listed;
      self_origin = c.has_self.ensures ∙ ap (list_any is_self) listed;
      schemes = λ p. schemes_once c.in_ok-schemes.schemes.items c.sorted_once.result.items c.sorted_once.ensures.given c.sorted_once.ensures.kept p
          ∙ ap (list_any p) (c.in_ok-schemes.ensures ∙ ap scheme_parts listed);
      hosts = λ p. c.in_ok-hosts.ensures p ∙ ap (list_any p) (c.in_ok-entries.ensures.parts ∙ ap host_sources listed);
    }
