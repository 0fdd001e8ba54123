use Rattle.std.proofs.Common.{◌+◌, ◌<◌, ◌^◌, ◌∙◌, ap, arith, map, drop}
use Rattle.csp_json.specs.View.{view}
use Rattle.csp_request.specs.Hops.{IsValidHop, before_hops}
use Rattle.csp_request.specs.Members.{each}
use Rattle.csp_request.specs.Urls.{web_url, hop}
use Rattle.csp_request.specs.declared.field.Field.TheVariants as field
use Rattle.csp_request.proofs.Forms.{each_drop, before_more, All-one_more}
use Rattle.csp_request.proofs.chain.hops_of.Goals as goal

pub loop-place-preserved : goal.loop-place-preserved
loop-place-preserved c =
    let others = c.args.others.now in
    let hops = c.loop-place.hops in
    let place = c.loop-place.place in
    let there = c.in_ok-url.url in
    let small : place + 1 < 2 ^ 32 = omega arith in
    rw c.in_ok-push-2.ensures.ok record {
      hops = c.loop-place.invariant.hops
          ∙ (ap (before_hops hops (place + 1)) (each_drop web_url field.Urls others place c.index-others-place.result there c.loop-place-test.true c.index-others-place.is c.in_ok-url.ensures.url)
          ∙ before_more hops (place + 1) there (each web_url field.Urls (map view (drop (place + 1) others))));
      valid = All-one_more IsValidHop hops (hop there (place + 1)) c.loop-place.invariant.valid (c.in_ok-url.ensures.valid, small);
    }
