use Rattle.std.proofs.Common.{◌+◌, sym, subst, take, Contains, IfSome, Option, List}
use Rattle.std.specs.List.{AllZip}
use Rattle.csp_facts.specs.declared.atom.Atom.{Atom}
use Rattle.csp_answer.specs.Naming.{IsNameOf, IsSourceNamed}
use Rattle.csp_answer.specs.declared.naming.SourceNames.{SourceNames}
use Rattle.csp_answer.proofs.Named.{has_lead, has_port, has_rest, zip_more}
use Rattle.csp_answer.proofs.naming.names_of_sources.Goals as goal

pub name_of_some-requires : goal.name_of_some-requires
name_of_some-requires c =
    let names = c.args.names.now in
    subst (λ (o : Option Atom). IfSome o (Contains names)) (sym c.in_ok-lead.ensures)
    (has_lead names c.args.origin.now c.args.sources.now c.loop-source.source-index c.source-item.result c.loop-source-test.true c.source-item.is c.requires)

pub name_of_some-requires-in-loop-source : goal.name_of_some-requires-in-loop-source
name_of_some-requires-in-loop-source c =
    let names = c.args.names.now in
    subst (λ (o : Option Atom). IfSome o (Contains names)) (sym c.in_ok-rest.ensures)
    (has_rest names c.args.origin.now c.args.sources.now c.loop-source.source-index c.source-item.result c.loop-source-test.true c.source-item.is c.requires)

pub loop-source-preserved : goal.loop-source-preserved
loop-source-preserved c =
    let names = c.args.names.now in
    let self = c.args.origin.now in
    let sources = c.args.sources.now in
    let i = c.loop-source.source-index in
    let s = c.source-item.result in
    let made : SourceNames = record { lead = c.name_of_some.result; rest = c.name_of_some-in-loop-source.result } in
    subst (AllZip (IsSourceNamed names self) (take (i + 1) sources)) (sym c.in_ok-push.ensures.ok)
    (zip_more (IsSourceNamed names self) sources c.loop-source.named i s made c.loop-source-test.true c.source-item.is c.loop-source.invariant (record {
      lead = subst (λ (o : Option Atom). IsNameOf names o made.lead) c.in_ok-lead.ensures c.name_of_some.ensures;
      rest = subst (λ (o : Option Atom). IsNameOf names o made.rest) c.in_ok-rest.ensures c.name_of_some-in-loop-source.ensures;
      port = has_port names self sources i s c.loop-source-test.true c.source-item.is c.requires;
    }))
