use Rattle.std.proofs.Common.{◌≡◌, true}
use Rattle.csp_desk.specs.Plain.{are_plain}
use Rattle.csp_desk.proofs.Quoted.{between_quotes}
use Rattle.csp_desk.proofs.front.push_quoted.Goals as goal

pub returns-clause-ok : goal.returns-clause-ok
returns-clause-ok c =
    let plain : are_plain c.args.value.now ≡ true = cc (c.are_plain.ensures, c.as_bytes.ensures.value) in
    between_quotes _ _ _ _ _ c.in_ok-push.ensures.items
    (cc (c.in_ok-extend_from_slice.ensures.items, c.as_bytes-2.ensures.value)) c.in_ok-push-2.ensures.items plain
