use Rattle.std.proofs.Common.{rules, ◌≡◌, subst}
use Rattle.base64.specs.GeneralPurpose.{IsBytes}
use Rattle.csp_formula.proofs.DigestOf.{digest_found}
use Rattle.csp_formula.proofs.digests.digest_of.Goals as goal

pub returns : goal.returns
returns c =
    let same : c.as_bytes.result.now ≡ c.args.hash.now.value = search rules in
    let small = subst IsBytes same c.slice_is_bytes.ensures in
    digest_found c.args.hash.now _ small c.hash_of.ensures.digest c.hash_of.ensures.size c.hash_of.ensures.none
