use Rattle.std.proofs.Common.{◌≡◌, ◌∙◌, ◌+◌, ◌∷◌, ◌++◌, [], ap, sym, subst, arith, length, List, ℕ, refl}
use Rattle.std.proofs.lemmas.List.{length_push}
use Rattle.csp_json.specs.View.{view}
use Rattle.csp_model.specs.declared.check.Digests.{Digests}
use Rattle.csp_model.specs.declared.verdict.Described.{Described}
use Rattle.csp_token.specs.Digests.{digests_for, digests_of}
use Rattle.csp_request.specs.Requests.{each_from, refused_after, still}
use Rattle.csp_request.specs.Wanted.{IsPartOf}
use Rattle.csp_request.specs.declared.wanted.Wanted.{Wanted}
use Rattle.csp_request.proofs.Parts.{whole_of, whole_refused}
use Rattle.csp_request.proofs.RequestTurns.{more_before, nothing_before, refused_turn, request_turn}
use Rattle.csp_request.proofs.taking.each_left.Goals as goal

pub requests-preserved : goal.requests-preserved
requests-preserved g c =
    let l = c.requests in
    let comes : still l.requests ≡ more_before (view c.in-Some.value) (still c.next.new.self) =
    rw c.in-Some.is at c.in_ok-value.ensures.description in
    let fewer : l.requests.limit ≡ c.next.new.self.limit + 1 =
    rw c.in-Some.is at c.in_ok-value.ensures.limit in
    let wanted : Wanted = c.wanted-wanted.result in
    let hashed : List ℕ → Digests = λ source. digests_for source wanted.digests in
    let part = c.in-Ok.ensures.described in
    let whole = whole_of wanted.texts hashed (view c.in-Some.value) c.in-Ok.request part in
    let taken : List Described = l.invariant.taken.0 in
    let is : IsPartOf wanted c.in-Ok.request whole.0 =
    record { value = view c.in-Some.value; of_part = part; of_whole = whole.1 } in
    let number : l.number + 1 ≡ length taken + 1 = ap (λ (n : ℕ). n + 1) l.invariant.taken.2 in
    record {
      taken = (
        taken ++ whole.0 ∷ [],
        c.in_ok-take-in-Ok.ensures.took c.args.taker.now taken whole.0 l.invariant.taken.1 number
            (subst (λ (w : Wanted). IsPartOf w c.in-Ok.request whole.0) (sym l.invariant.wants) is),
        omega (arith, number, length_push taken whole.0),
        request_turn digests_of (each_from digests_of 1 (still c.args.requests)) (l.number + 1) (view c.in-Some.value)
            (still l.requests) (still c.next.new.self) taken whole.0 whole.1 comes l.invariant.taken.3,
      );
      wants = c.in_ok-take-in-Ok.ensures.wants ∙ l.invariant.wants;
      count = omega (arith, l.invariant.count, fewer);
    }

pub requests-init : goal.requests-init
requests-init g c =
    let found = each_from digests_of 1 (still c.args.requests) in
    record {
      taken = ([], g.met.T.Take.none c.args.taker.now, refl, sym (nothing_before found));
      wants = sym c.wanted-wanted.ensures;
      count = omega (arith, c.requires);
    }

pub returns-in-Err-clause-refused : goal.returns-in-Err-clause-refused
returns-in-Err-clause-refused g c real =
    let l = c.requests in
    let wanted : Wanted = c.wanted-wanted.result in
    let hashed : List ℕ → Digests = λ source. digests_for source wanted.digests in
    let comes : still l.requests ≡ more_before (view c.in-Some.value) (still c.next.new.self) =
    rw c.in-Some.is at c.in_ok-value.ensures.description in
    refused_turn digests_of (each_from digests_of 1 (still c.args.requests)) (l.number + 1) (view c.in-Some.value)
    (still l.requests) (still c.next.new.self) l.invariant.taken.0 c.in-Err.error c.refusal.result
    (λ other. whole_refused wanted.texts hashed (view c.in-Some.value) c.in-Err.error (c.in-Err.ensures.described other))
    comes l.invariant.taken.3
    (c.refusal.ensures real ∙ ap (λ e. refused_after e (still c.next.new.self)) c.at.ensures) real
