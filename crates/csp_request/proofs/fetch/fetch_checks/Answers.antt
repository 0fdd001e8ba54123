use Rattle.std.proofs.Common.{◌≡◌, ◌∙◌, ◌∷◌, ◌++◌, [], Some, ap, sym, map}
use Rattle.std.proofs.lemmas.List.Elements.{All-head, All-nil, All-pop, All-tail}
use Rattle.std.specs.Vec.Iter.{into_iter_items}
use Rattle.csp_model.specs.Validity.{IsValidCheck}
use Rattle.csp_request.specs.Described.{fetch_check}
use Rattle.csp_request.specs.Hops.{IsValidHop}
use Rattle.csp_request.proofs.Forms.{All-one_more}
use Rattle.csp_request.proofs.Turns.{map_turn}
use Rattle.csp_request.proofs.fetch.fetch_checks.Goals as goal

pub loop-hop-init : goal.loop-hop-init
loop-hop-init c =
    let check = fetch_check c.in-Some.group c.args.options in
    let before = c.pop.new.self in
    let last = c.in-Some-pop.last in
    let given : into_iter_items c.into_iter-hop-iterator.result ≡ c.into_vec-hop-items.result.items = c.into_iter-hop-iterator.ensures.into_iter_gives.0 in
    let items : into_iter_items c.into_iter-hop-iterator.result ≡ before = given ∙ c.into_vec-hop-items.ensures in
    let valid = All-pop IsValidHop c.args.hops before (Some last) c.in-Some-pop.ensures c.requires.hops in
    rw c.new-checks.ensures record {
      checks = ap (map check) (c.in-Some-pop.ensures ∙ ap (λ hops. hops ++ last ∷ []) (sym items));
      valid = All-nil IsValidCheck;
      left = rw items valid.0;
      last = valid.1;
    }

pub fetch_check-requires-clause-hop : goal.fetch_check-requires-clause-hop
fetch_check-requires-clause-hop c =
    All-head IsValidHop c.in-Some-hop.hop (into_iter_items c.next.new.self) (rw c.in-Some-hop.ensures.steps.0 at c.loop-hop.invariant.left)

pub fetch_check-requires-clause-integrity : goal.fetch_check-requires-clause-integrity
fetch_check-requires-clause-integrity c = rw c.in_ok-copy.ensures c.requires.integrity

pub loop-hop-preserved : goal.loop-hop-preserved
loop-hop-preserved c =
    let hop = c.in-Some-hop.hop in
    let check = fetch_check c.in-Some.group c.args.options in
    let checks = c.loop-hop.checks in
    let next = into_iter_items c.next.new.self in
    let last = c.in-Some-pop.last ∷ [] in
    let taken : into_iter_items c.loop-hop.hop-iterator ≡ hop ∷ next = c.in-Some-hop.ensures.steps.0 in
    rw c.in_ok-push.ensures.ok record {
      checks = rw (c.fetch_check.ensures.check, c.in_ok-copy.ensures) (map_turn check (map check c.args.hops) checks (into_iter_items c.loop-hop.hop-iterator ++ last) (next ++ last) hop (ap (λ hops. hops ++ last) taken) c.loop-hop.invariant.checks);
      valid = All-one_more IsValidCheck checks c.fetch_check.result c.loop-hop.invariant.valid c.fetch_check.ensures.valid;
      left = All-tail IsValidHop hop next (rw taken at c.loop-hop.invariant.left);
      last = c.loop-hop.invariant.last;
    }

pub returns-clause-valid : goal.returns-clause-valid
returns-clause-valid c =
    rw c.in_ok-push-2.ensures.ok
    (All-one_more IsValidCheck c.loop-hop.checks c.fetch_check-2.result c.loop-hop.invariant.valid c.fetch_check-2.ensures.valid)
