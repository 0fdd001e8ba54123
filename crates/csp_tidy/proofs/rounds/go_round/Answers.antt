use Rattle.std.proofs.Common.{arith, ◌≡◌, ◌++◌, sym, subst, List, All, map, reverse}
use Rattle.std.proofs.lemmas.List.Elements.{All-push}
use Rattle.csp_tidy.specs.Asking.{IsAsked}
use Rattle.csp_tidy.specs.Candidates.{candidates}
use Rattle.csp_tidy.specs.Tidied.{IsNeeded, place_of}
use Rattle.csp_tidy.specs.declared.tidying.Needed.{Needed}
use Rattle.csp_tidy.proofs.InRounds.{candidate_popped, entries_more, thinner_itself, thinner_joined, thinner_more}
use Rattle.csp_tidy.proofs.rounds.go_round.Goals as goal

pub ask-requires-clause-candidate : goal.ask-requires-clause-candidate
ask-requires-clause-candidate c =
    candidate_popped c.args.list.now c.pop.new.self.items c.loop-place.places.items c.in-Some.place (map place_of (reverse c.loop-place.needed.items)) c.in-Some.ensures.items c.loop-place.invariant.0

pub loop-place-preserved : goal.loop-place-preserved
loop-place-preserved c =
    let list = c.args.list.now in
    let places = c.pop.new.self.items in
    let asked = subst (IsAsked list c.in-Some.place) c.in-Needed.is c.in_ok-entry.ensures in (
      subst (λ (ns : List Needed). places ++ map place_of (reverse ns) ≡ candidates list) (sym c.in_ok-push-in-Needed.ensures.items)
          (entries_more list places c.loop-place.places.items c.in-Some.place c.loop-place.needed.items c.in-Needed.entry c.in-Some.ensures.items asked.0 c.loop-place.invariant.0),
      subst (All (IsNeeded list)) (sym c.in_ok-push-in-Needed.ensures.items) (All-push (IsNeeded list) c.loop-place.needed.items c.in-Needed.entry c.loop-place.invariant.1 asked.1),
    )

pub thin-requires : goal.thin-requires
thin-requires c =
    let list = c.args.list.now in
    let candidate = candidate_popped list c.pop.new.self.items c.loop-place.places.items c.in-Some.place (map place_of (reverse c.loop-place.needed.items)) c.in-Some.ensures.items c.loop-place.invariant.0 in
    let asked = subst (IsAsked list c.in-Some.place) c.in-Spare.is c.in_ok-entry.ensures in
    record { readable = (thinner_more list list c.in-Spare.thinner c.in-Some.place (thinner_itself list c.requires.readable) candidate asked.0 asked.1).0.readable }

pub returns-in-Spare : goal.returns-in-Spare
returns-in-Spare c =
    let list = c.args.list.now in
    let candidate = candidate_popped list c.pop.new.self.items c.loop-place.places.items c.in-Some.place (map place_of (reverse c.loop-place.needed.items)) c.in-Some.ensures.items c.loop-place.invariant.0 in
    let asked = subst (IsAsked list c.in-Some.place) c.in-Spare.is c.in_ok-entry.ensures in
    let first = thinner_more list list c.in-Spare.thinner c.in-Some.place (thinner_itself list c.requires.readable) candidate asked.0 asked.1 in
    let rest = c.in_ok-list-in-Spare.ensures in
    let less = first.1 in
    let few = rest.fewer in
    (thinner_joined list c.in-Spare.thinner c.in_ok-list-in-Spare.list first.0 rest, omega (arith, less, few))
