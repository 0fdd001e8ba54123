use Rattle.std.proofs.Common.{◌≡◌, ◌∙◌, sym, ap, subst, map, Bor, Bool, List, [], ◌∷◌, ◌++◌, ℕ, append-nil}
use Rattle.std.specs.List.{filter_map}
use Rattle.std.proofs.lemmas.Iterator.Consumers.{YieldsList-at, YieldsList-end, YieldsList-from_first}
use Rattle.csp_model.specs.Ascii.{words, split_at}
use Rattle.csp_model.specs.Policies.{directive_of, firsts}
use Rattle.csp_policy.specs.Pieces.{pieces_left}
use Rattle.csp_policy.specs.Room.{kept_of, AreShortened}
use Rattle.csp_policy.specs.Standings.{standing_said}
use Rattle.csp_policy.specs.Types.{Fate, Standing, Directive}
use Rattle.csp_policy.specs.Fates.{fate_of}
use Rattle.csp_policy.proofs.Fated.{kept_in, kept_more_of, knows_more_of}
use Rattle.csp_policy.proofs.Firsts.{found}
use Rattle.csp_policy.proofs.Shortened.{one_shortened}
use Rattle.csp_policy.proofs.directive.read_directives.Goals as goal

pub returns : goal.returns
returns c =
    let all = YieldsList-end (YieldsList-at c.into_iter-piece-iterator.ensures.into_iter_gives
    (YieldsList-from_first (λ x. x.now) pieces_left {s = c.new_short-piece-items.result} (split_at 59 c.args.value.now) c.new_short-piece-items.ensures))
    c.loop-piece.yielded _ c.loop-piece.yielded_by _ _ c.in-None.is c.next.ensures.steps in
    subst (λ pieces. AreShortened (kept_of c.args.meta (firsts (filter_map directive_of pieces))) c.from_vec.result c.args.room.now c.loop-piece.room) all.0
    (subst (λ made. AreShortened (kept_of c.args.meta (firsts (found c.loop-piece.yielded))) made c.args.room.now c.loop-piece.room) (sym c.from_vec.ensures)
    c.loop-piece.invariant.read)

-- with a piece that isn't kept
unkept : (meta : Bool) (pieces : List (Bor (List ℕ))) (piece : Bor (List ℕ)) (fate : Fate) (made : List Directive) (room now : ℕ)
    → fate ≡ fate_of meta (map (λ (x : Bor (List ℕ)). x.now) pieces) piece.now → kept_in fate ≡ []
    → AreShortened (kept_of meta (firsts (found pieces))) made room now → AreShortened (kept_of meta (firsts (found (pieces ++ piece ∷ [])))) made room now
unkept meta pieces piece fate made room now is none h =
    let kept : List Directive = kept_of meta (firsts (found pieces)) in
    subst (λ (ds : List Directive). AreShortened ds made room now)
    (sym (kept_more_of meta pieces piece fate is ∙ ap (λ (l : List Directive). kept ++ l) none ∙ append-nil kept)) h

pub loop-piece-preserved-in-Empty : goal.loop-piece-preserved-in-Empty
loop-piece-preserved-in-Empty c =
    let before : List (List ℕ) = map (λ (x : Bor (List ℕ)). x.now) c.loop-piece.yielded in
    record {
      seen = knows_more_of c.stand.new.seen c.loop-piece.yielded c.in-Some.piece (c.in_ok-stand.ensures.seen before c.loop-piece.invariant.seen);
      read = unkept c.args.meta c.loop-piece.yielded c.in-Some.piece (standing_said c.in_ok-stand.field-0) c.loop-piece.made.items c.args.room.now c.loop-piece.room
          (c.in_ok-stand.ensures.fate before c.loop-piece.invariant.seen) (ap (λ (s : Standing). kept_in (standing_said s)) c.in-Empty.is) c.loop-piece.invariant.read;
    }

pub loop-piece-preserved-in-Dropped : goal.loop-piece-preserved-in-Dropped
loop-piece-preserved-in-Dropped c =
    let before : List (List ℕ) = map (λ (x : Bor (List ℕ)). x.now) c.loop-piece.yielded in
    record {
      seen = knows_more_of c.stand.new.seen c.loop-piece.yielded c.in-Some.piece (c.in_ok-stand.ensures.seen before c.loop-piece.invariant.seen);
      read = unkept c.args.meta c.loop-piece.yielded c.in-Some.piece (standing_said c.in_ok-stand.field-0) c.loop-piece.made.items c.args.room.now c.loop-piece.room
          (c.in_ok-stand.ensures.fate before c.loop-piece.invariant.seen) (ap (λ (s : Standing). kept_in (standing_said s)) c.in-Dropped.is) c.loop-piece.invariant.read;
    }

pub loop-piece-preserved : goal.loop-piece-preserved
loop-piece-preserved c =
    let before : List (List ℕ) = map (λ (x : Bor (List ℕ)). x.now) c.loop-piece.yielded in
    let kept : List Directive = kept_of c.args.meta (firsts (found c.loop-piece.yielded)) in
    let longer =
    kept_more_of c.args.meta c.loop-piece.yielded c.in-Some.piece (standing_said c.in_ok-stand.field-0) (c.in_ok-stand.ensures.fate before c.loop-piece.invariant.seen)
    ∙ ap (λ (s : Standing). kept ++ kept_in (standing_said s)) c.in-Kept.is in
    let more = c.in_ok-push-in-Kept.ensures.items ∙ ap (λ (d : Directive). c.loop-piece.made.items ++ d ∷ []) c.in_ok-read_directive-in-Kept.ensures.made in
    record {
      seen = knows_more_of c.stand.new.seen c.loop-piece.yielded c.in-Some.piece (c.in_ok-stand.ensures.seen before c.loop-piece.invariant.seen);
      read = subst (λ (ds : List Directive). AreShortened ds c.push.new.self.items c.args.room.now c.read_directive.new.room) (sym longer)
          (rw (more, c.in_ok-read_directive-in-Kept.ensures.left)
          (one_shortened kept c.loop-piece.made.items c.args.room.now c.loop-piece.room c.in-Kept.name.now (words c.in-Kept.text.now) c.loop-piece.invariant.read));
    }
