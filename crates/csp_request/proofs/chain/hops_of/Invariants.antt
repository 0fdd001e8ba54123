use Rattle.std.proofs.Common.{◌≡◌, ◌+◌, drop, map, All}
use Rattle.csp_json.specs.View.{view}
use Rattle.csp_request.specs.Members.{each}
use Rattle.csp_request.specs.Urls.{web_url}
use Rattle.csp_request.specs.Hops.{IsValidHop, before_hops, hops_of}
use Rattle.csp_request.specs.declared.field.Field.TheVariants as field
use Rattle.csp_request.proofs.chain.hops_of.Given as goal

abbrev pub invariant-loop-place : goal.invariant-loop-place
invariant-loop-place l = record {
  hops : hops_of l.fn.first (map view l.others)
      ≡ before_hops l.hops (l.place + 1) (each web_url field.Urls (map view (drop l.place l.others)));
  valid : All IsValidHop l.hops;
}
