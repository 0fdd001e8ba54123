-- The token of a valid URL is ASCII, and so are the tokens with it.
use Rattle.std.proofs.Common.{sym, ◌∙◌, ◌≡◌, true, subst, List, Some}
use Rattle.std.specs.List.{list_all}
use Rattle.csp_model.specs.Ascii.{is_ascii_text}
use Rattle.csp_model.specs.Validity.{IsValidCheck}
use Rattle.csp_learn.specs.declared.need.Need.{Need}
use Rattle.csp_learn.proofs.NeedSets.{all_with}
use Rattle.csp_learn.proofs.NeededTokens.{token_told}
use Rattle.csp_learn.proofs.learning.Learning.push_check.Goals as goal

pub invariant_of-self : goal.invariant_of-self
invariant_of-self c =
    let valid = subst IsValidCheck c.in-Fetch.is c.requires in
    let told = token_told c.in-Fetch.url _ valid.0 (sym c.in_ok-token.ensures ∙ c.in-Some.is) in
    subst (λ (keys : List Need). list_all (λ (need : Need). is_ascii_text need.token) keys ≡ true) (sym c.in_ok-insert-in-Some.ensures.keys)
    (all_with (λ (need : Need). is_ascii_text need.token) c.self.inside.needs.keys (Some _) told c.self.invariant)
