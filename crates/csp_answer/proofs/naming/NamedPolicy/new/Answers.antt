use Rattle.std.proofs.Common.{◌+◌, ◌≡◌, ◌∙◌, sym, ap, subst, take, get_or, All, Contains, List, ◌≤◌, length, arith}
use Rattle.std.specs.List.{AllZip, flat_map}
use Rattle.std.proofs.lemmas.List.{take_all}
use Rattle.csp_model.specs.declared.policy.Directive.{Directive}
use Rattle.csp_model.specs.declared.source.Source.{Source}
use Rattle.csp_answer.specs.Naming.{IsDirectiveNamed, IsSourceNamed, directive_atoms, port_atoms, source_atoms}
use Rattle.csp_answer.proofs.Named.{has_ports, zip_more}
use Rattle.csp_answer.proofs.Pieces.{back, front, in_flat_map}
use Rattle.csp_answer.proofs.naming.NamedPolicy.new.Goals as goal

pub names_of_sources-requires : goal.names_of_sources-requires
names_of_sources-requires c =
    let policy = c.args.policy.now in
    let names = c.args.names.now in
    let has = Contains names in
    let items = c.as_slice-directive-items.result.now in
    let all = back has (port_atoms policy.origin) (flat_map (directive_atoms policy.origin) policy.directives) c.requires in
    let here = in_flat_map has (directive_atoms policy.origin) items c.loop-directive.directive-index c.directive-item.result c.loop-directive-test.true c.directive-item.is
    (subst (λ (ds : List Directive). All has (flat_map (directive_atoms policy.origin) ds)) (sym c.as_slice-directive-items.ensures) all) in
    subst (λ (ss : List Source). All has (flat_map (source_atoms policy.origin) ss)) (sym c.as_slice-sources.ensures) here

pub loop-directive-preserved : goal.loop-directive-preserved
loop-directive-preserved c =
    let names = c.args.names.now in
    let self = c.args.policy.now.origin in
    let items = c.as_slice-directive-items.result.now in
    let i = c.loop-directive.directive-index in
    let made = c.in_ok-names_of_sources.field-0 in
    let R = IsDirectiveNamed names self in
    subst (AllZip R (take (i + 1) items)) (sym c.in_ok-push.ensures.ok)
    (zip_more R items c.loop-directive.directives i c.directive-item.result made c.loop-directive-test.true c.directive-item.is c.loop-directive.invariant
    (subst (λ (ss : List Source). AllZip (IsSourceNamed names self) ss made) c.as_slice-sources.ensures c.in_ok-names_of_sources.ensures))

pub returns-clause-named : goal.returns-clause-named
returns-clause-named c =
    let policy = c.args.policy.now in
    let names = c.args.names.now in
    let items = c.as_slice-directive-items.result.now in
    let past : length items ≤ c.loop-directive.directive-index = omega arith in
    record {
      sources = subst (λ (ds : List Directive). AllZip (IsDirectiveNamed names policy.origin) ds c.loop-directive.directives)
          (take_all c.loop-directive.directive-index items past ∙ c.as_slice-directive-items.ensures) c.loop-directive.invariant;
      ports = has_ports names policy.origin (front (Contains names) (port_atoms policy.origin) (flat_map (directive_atoms policy.origin) policy.directives) c.requires);
    }
