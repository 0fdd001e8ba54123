use Rattle.std.proofs.Common.{subst, All}
use Rattle.csp_cell.specs.Cells.{IsOf}
use Rattle.csp_facts.specs.declared.shape.Shape.{Shape}
use Rattle.csp_pick.proofs.Joining.{fetch_meets, form_meets, base_meets, ancestor_meets}
use Rattle.csp_pick.proofs.pick.check_of.Goals as goal

pub returns-in_ok-pick_integrity-in-Fetch-clause-meets : goal.returns-in_ok-pick_integrity-in-Fetch-clause-meets
returns-in_ok-pick_integrity-in-Fetch-clause-meets c =
    fetch_meets c.args.vocabulary.now.hashes c.args.cell.now.literals c.in-Fetch.group c.in-Fetch.scheme c.in-Fetch.redirected c.in-Fetch.parser_inserted
    c.in_ok-pick_url-in-Fetch.field-0 c.redirects_of.result c.in_ok-pick_nonce-in-Fetch.field-0 c.in_ok-pick_integrity-in-Fetch.field-0
    (subst (λ (s : Shape). All (IsOf s) c.args.cell.now.literals) c.in-Fetch.is c.requires.each)
    c.in_ok-pick_url-in-Fetch.ensures.meets c.in_ok-pick_nonce-in-Fetch.ensures.meets c.in_ok-pick_integrity-in-Fetch.ensures.meets

pub returns-in_ok-pick_url-in-Form-clause-meets : goal.returns-in_ok-pick_url-in-Form-clause-meets
returns-in_ok-pick_url-in-Form-clause-meets c =
    form_meets c.args.vocabulary.now.hashes c.args.cell.now.literals c.in-Form.scheme c.in-Form.redirected c.in_ok-pick_url-in-Form.field-0 c.redirects_of-in-Form.result
    (subst (λ (s : Shape). All (IsOf s) c.args.cell.now.literals) c.in-Form.is c.requires.each) c.in_ok-pick_url-in-Form.ensures.meets

pub returns-in_ok-pick_url-in-Base-clause-meets : goal.returns-in_ok-pick_url-in-Base-clause-meets
returns-in_ok-pick_url-in-Base-clause-meets c =
    base_meets c.args.vocabulary.now.hashes c.args.cell.now.literals c.in-Base.scheme c.in_ok-pick_url-in-Base.field-0
    (subst (λ (s : Shape). All (IsOf s) c.args.cell.now.literals) c.in-Base.is c.requires.each) c.in_ok-pick_url-in-Base.ensures.meets

pub returns-in_ok-pick_url-in-Ancestor-clause-meets : goal.returns-in_ok-pick_url-in-Ancestor-clause-meets
returns-in_ok-pick_url-in-Ancestor-clause-meets c =
    ancestor_meets c.args.vocabulary.now.hashes c.args.cell.now.literals c.in-Ancestor.scheme c.in_ok-pick_url-in-Ancestor.field-0
    (subst (λ (s : Shape). All (IsOf s) c.args.cell.now.literals) c.in-Ancestor.is c.requires.each) c.in_ok-pick_url-in-Ancestor.ensures.meets
