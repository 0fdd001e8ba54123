use Rattle.std.proofs.Common.{◌≡◌, ◌∙◌, ◌<◌, sym, ap, subst, refl, Bool, true, false, not, length, List, ℕ, Option, Some, Equal, is_eq, slice_index_or, arith}
use Rattle.std.proofs.lemmas.Bool.{false≢true}
use Rattle.std.proofs.lemmas.List.{get_or_default}
use Rattle.csp_model.specs.Paths.{front_text, front_pieces}
use Rattle.csp_match.specs.Entries.{Entry, entry_text}
use Rattle.csp_match.specs.Fronts.{host_cmp, within_fits, AreOutersTo, IsShared}
use Rattle.csp_match.proofs.FrontLaws.{places_rise}
use Rattle.csp_match.proofs.FrontWalk.{all_behind, counted, fit_found, fits_at, fits_is, left_first, left_next, none_fit, other_host, outer_here, IsLeft, IsStand, IsUpTo}
use Rattle.csp_match.proofs.KeyLaws.{host_eq, level_host}
use Rattle.csp_match.proofs.RunOfKey.{equal_is}
use Rattle.csp_match.proofs.fronts.Fronts.any_fits.Goals as goal
use Rattle.csp_match.proofs.fronts.Fronts.any_fits.Goals.{After-count_up_to, After-fits_within}

-- whether hosts are equal

is_same : (b r : Bool) → r ≡ not b → r ≡ false → b ≡ true
is_same true r e f = refl
is_same false r e f = absurd (false≢true (sym f ∙ e))

is_other : (b r : Bool) → r ≡ not b → r ≡ true → b ≡ false
is_other true r e f = absurd (false≢true (sym e ∙ f))
is_other false r e f = refl

-- which of the targets aren't behind the path
upto : (c : After-count_up_to) → IsUpTo c.args.asked.now c.args.host.now c.args.self.now c.count_up_to.result
upto c =
    counted c.args.asked.now c.args.host.now c.args.self.now c.self.inside.targets c.as_slice-targets.result.now c.as_bytes-path.result.now c.count_up_to.result
    c.requires (places_rise c.self.inside.targets c.as_slice-targets.ensures.rises) c.self.view_is c.as_slice-targets.ensures.pairs
    (c.as_bytes-path.ensures.value ∙ c.as_front.ensures.text) c.count_up_to.ensures.bound c.count_up_to.ensures.end

-- a target at its place
there : (entries inside slice : List Entry) (k : ℕ) (x : Entry) → slice ≡ inside → inside ≡ entries → x ≡ slice_index_or slice k x → x ≡ slice_index_or entries k x
there entries inside slice k x same is at = at ∙ ap (λ (es : List Entry). slice_index_or es k x) (same ∙ is)

-- the one at which the walk stands

here : (c : After-fits_within) → IsLeft c.args.asked.now c.args.host.now c.args.self.now c.in-Some.last (Some c.in-Some-next.at)
here c = subst (λ (o : Option ℕ). IsLeft c.args.asked.now c.args.host.now c.args.self.now c.in-Some.last o) c.in-Some-next.is c.loop-next.invariant

level : (c : After-fits_within) → host_cmp c.index-targets-last.result.0 c.args.host.now ≡ Equal
level c =
    let host = c.index-targets-last.result.0 in
    let apart : c.ne.result ≡ not (host_eq host c.args.host.now) =
    subst (λ (e : Entry). c.ne.result ≡ not (host_eq e.0 c.args.host.now)) (sym c.index-targets-last.is) c.ne.ensures in
    equal_is (host_cmp host c.args.host.now) (level_host host c.args.host.now ∙ is_same (host_eq host c.args.host.now) c.ne.result apart c.if-ne.false)

shared : (c : After-fits_within) → IsShared (entry_text c.index-targets-last.result) (front_text c.args.asked.now.path.now) c.shared_length-shared.result
shared c =
    let n = c.shared_length-shared.result in
    let x = c.index-targets-last.result in
    let y = c.index-targets-last-2.result in
    let within : c.in-Some.last < length c.as_slice-targets.result.now = omega (arith, c.in-Some.ensures.0, c.in-Some.ensures.1, c.count_up_to.ensures.bound) in
    let one : slice_index_or c.as_slice-targets.result.now c.in-Some.last y ≡ x = get_or_default c.as_slice-targets.result.now c.in-Some.last y x within ∙ sym c.index-targets-last.is in
    subst (λ (t : List ℕ). IsShared (entry_text x) t n) (c.as_bytes-path.ensures.value ∙ c.as_front.ensures.text)
    (subst (λ (e : Entry). IsShared (entry_text e) c.as_bytes-path.result.now n) one
    (subst (λ (t : List ℕ). IsShared t c.as_bytes-path.result.now n) c.as_bytes.ensures.value c.shared_length-shared.ensures))

stand : (c : After-fits_within) → IsUpTo c.args.asked.now c.args.host.now c.args.self.now c.count_up_to.result
    → IsStand c.args.asked.now c.args.host.now c.args.self.now c.count_up_to.result c.in-Some.last c.index-targets-last.result c.shared_length-shared.result c.in-Some-next.at c.index-targets-at.result
stand c all = record {
  all = all;
  some = c.in-Some.ensures.0;
  is = c.in-Some.ensures.1;
  there = there c.args.self.now c.self.inside.targets c.as_slice-targets.result.now c.in-Some.last c.index-targets-last.result c.as_slice-targets.ensures.pairs c.self.view_is c.index-targets-last.is;
  same = level c;
  shared = shared c;
  left = here c;
  at = there c.args.self.now c.self.inside.targets c.as_slice-targets.result.now c.in-Some-next.at c.index-targets-at.result c.as_slice-targets.ensures.pairs c.self.view_is c.index-targets-at.is;
}

fits : (c : After-fits_within) → IsUpTo c.args.asked.now c.args.host.now c.args.self.now c.count_up_to.result
    → c.fits_within.result ≡ fits_at c.args.asked.now c.args.host.now c.index-targets-at.result
fits c all =
    c.fits_within.ensures ∙ ap (λ (e : Entry). within_fits c.args.asked.now c.shared_length-shared.result e.1) (sym c.index-targets-at.is)
    ∙ fits_is (stand c all) (ap front_pieces (sym c.as_front.ensures.text) ∙ c.as_front.ensures.pieces)

-- ---- answers

pub returns-in_default : goal.returns-in_default
returns-in_default c =
    all_behind c.args.asked.now c.args.host.now c.args.self.now c.count_up_to.result (upto (goal.at.returns-in_default c).After-count_up_to) c.in_default.ensures

pub returns-then-ne : goal.returns-then-ne
returns-then-ne c =
    let x = c.index-targets-last.result in
    let apart : c.ne.result ≡ not (host_eq x.0 c.args.host.now) =
    subst (λ (e : Entry). c.ne.result ≡ not (host_eq e.0 c.args.host.now)) (sym c.index-targets-last.is) c.ne.ensures in
    other_host c.args.asked.now c.args.host.now c.args.self.now c.count_up_to.result (upto (goal.at.returns-then-ne c).After-count_up_to)
    c.in-Some.last x c.in-Some.ensures.0 c.in-Some.ensures.1
    (there c.args.self.now c.self.inside.targets c.as_slice-targets.result.now c.in-Some.last x c.as_slice-targets.ensures.pairs c.self.view_is c.index-targets-last.is)
    (λ level. false≢true (sym (is_other (host_eq x.0 c.args.host.now) c.ne.result apart c.if-ne.true) ∙ sym (level_host x.0 c.args.host.now) ∙ ap is_eq level))

pub loop-next-init : goal.loop-next-init
loop-next-init c =
    left_first c.args.asked.now c.args.host.now c.args.self.now c.count_up_to.result (upto (goal.at.loop-next-init c).After-count_up_to)
    c.in-Some.last c.in-Some.ensures.0 c.in-Some.ensures.1

pub returns-then-fits_within : goal.returns-then-fits_within
returns-then-fits_within c =
    let at = goal.at.returns-then-fits_within c in
    let all = upto at.After-count_up_to in
    fit_found (stand at.After-fits_within all) (sym (fits at.After-fits_within all) ∙ c.if-fits_within.true)

pub loop-next-preserved : goal.loop-next-preserved
loop-next-preserved c =
    let at = goal.at.loop-next-preserved c in
    let all = upto at.After-count_up_to in
    let outers = c.self.inside.outers.items in
    let left = here at.After-fits_within in
    let are : AreOutersTo c.args.self.now outers (length c.args.self.now) =
    subst (λ (es : List Entry). AreOutersTo es outers (length es)) c.self.view_is c.self.invariant in
    left_next (stand at.After-fits_within all) c.index-next.result.now (sym (fits at.After-fits_within all) ∙ c.if-fits_within.false)
    (outer_here c.args.self.now outers c.in-Some-next.at c.index-next.result.now are (omega (arith, left.0, c.in-Some.ensures.0, c.in-Some.ensures.1, all.bound)) c.index-next.ensures)

pub returns : goal.returns
returns c =
    none_fit c.args.asked.now c.args.host.now c.args.self.now
    (subst (λ (o : Option ℕ). IsLeft c.args.asked.now c.args.host.now c.args.self.now c.in-Some.last o) c.in_default-next.is c.loop-next.invariant)
