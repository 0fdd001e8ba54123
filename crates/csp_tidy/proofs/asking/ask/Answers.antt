use Rattle.std.proofs.Common.{sym, subst, List}
use Rattle.std.specs.Prelude.{MatchOption}
use Rattle.csp_compare.specs.Differences.{DiffersAmong, SubsumesAmong}
use Rattle.csp_model.specs.Policies.{IsReadable}
use Rattle.csp_model.specs.declared.name.Name.{Name}
use Rattle.csp_tidy.proofs.TokenUse.{spare}
use Rattle.csp_tidy.proofs.Places.{policy_below, token_below}
use Rattle.csp_tidy.proofs.Readable.{readable_without}
use Rattle.csp_tidy.proofs.asking.ask.Goals as goal

pub find_difference_among-requires-clause-second : goal.find_difference_among-requires-clause-second
find_difference_among-requires-clause-second c = subst IsReadable (sym c.in_ok-thinner.ensures) (readable_without c.args.list.now c.args.place c.requires.readable)

pub find_difference_among-requires-2-clause-first : goal.find_difference_among-requires-2-clause-first
find_difference_among-requires-2-clause-first c = subst IsReadable (sym c.in_ok-thinner.ensures) (readable_without c.args.list.now c.args.place c.requires.readable)

pub returns : goal.returns
returns c =
    let list = c.args.list.now in
    let thinner = c.in_ok-thinner.thinner in
    let one = subst (λ o. MatchOption o (SubsumesAmong c.as_slice.result.now list thinner) (DiffersAmong c.as_slice.result.now list thinner)) c.in_default.is c.in_ok-check.ensures in
    let two = subst (λ o. MatchOption o (SubsumesAmong c.as_slice-2.result.now thinner list) (DiffersAmong c.as_slice-2.result.now thinner list)) c.in_default-2.is c.in_ok-check-2.ensures in (
      c.in_ok-thinner.ensures,
      spare list thinner c.args.place c.in_ok-names.names.items c.in_ok-thinner.ensures c.in_ok-names.ensures
          (subst (λ (ns : List Name). SubsumesAmong ns list thinner) c.as_slice.ensures.value one)
          (subst (λ (ns : List Name). SubsumesAmong ns thinner list) c.as_slice-2.ensures.value two),
    )

pub needed_at-requires-clause-policy : goal.needed_at-requires-clause-policy
needed_at-requires-clause-policy c = policy_below c.args.list.now c.args.place c.requires.readable c.requires.candidate

pub needed_at-requires-clause-token : goal.needed_at-requires-clause-token
needed_at-requires-clause-token c = token_below c.args.list.now c.args.place c.requires.readable c.requires.candidate

pub needed_at-requires-in-Some-2-clause-policy : goal.needed_at-requires-in-Some-2-clause-policy
needed_at-requires-in-Some-2-clause-policy c = policy_below c.args.list.now c.args.place c.requires.readable c.requires.candidate

pub needed_at-requires-in-Some-2-clause-token : goal.needed_at-requires-in-Some-2-clause-token
needed_at-requires-in-Some-2-clause-token c = token_below c.args.list.now c.args.place c.requires.readable c.requires.candidate
