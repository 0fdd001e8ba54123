use Rattle.std.proofs.Common.{arith, refl, append-nil, length, ◌≡◌, ◌∙◌, ◌∷◌, ◌++◌, [], sym, ap, subst, List as Items, Bor, ℕ, map, false}
use Rattle.std.specs.List.{flat_map}
use Rattle.std.proofs.lemmas.List.{map_push, flat_map_more}
use Rattle.std.proofs.lemmas.Iterator.Consumers.{YieldsList-at, YieldsList-end, YieldsList-from_first}
use Rattle.csp_model.specs.Ascii.{split_at}
use Rattle.csp_model.specs.Policies.{policy_with, directives_of, directive_of}
use Rattle.csp_policy.specs.Types.{Disposition, Policy, Origin}
use Rattle.csp_policy.specs.Pieces.{pieces_left}
use Rattle.csp_policy.specs.Room.{AreRead}
use Rattle.csp_policy.proofs.reader.Reader.add_policies.Goals as goal

abbrev of_pieces : Origin → Disposition → Items (Items ℕ) → Items Policy
of_pieces origin disposition pieces = flat_map (λ piece. policy_with origin disposition false (directives_of piece)) pieces

one_more : (origin : Origin) (disposition : Disposition) (ps : Items Policy) (pieces : Items (Bor (Items ℕ))) (piece : Bor (Items ℕ))
    → (ps ++ of_pieces origin disposition (map (λ (x : Bor (Items ℕ)). x.now) pieces)) ++ policy_with origin disposition false (directives_of piece.now)
    ≡ ps ++ of_pieces origin disposition (map (λ (x : Bor (Items ℕ)). x.now) (pieces ++ piece ∷ []))
one_more origin disposition ps pieces piece =
    flat_map_more (λ piece. policy_with origin disposition false (directives_of piece)) ps (map (λ (x : Bor (Items ℕ)). x.now) pieces) piece.now
    ∙ ap (λ xs. ps ++ of_pieces origin disposition xs) (sym (map_push (λ (x : Bor (Items ℕ)). x.now) pieces piece))

-- an empty piece has no policy
no_more : (origin : Origin) (disposition : Disposition) (piece : Items ℕ) → length piece ≡ 0 → policy_with origin disposition false (directives_of piece) ≡ []
unfolding directive_of
no_more origin disposition [] h = refl
no_more origin disposition (b ∷ piece) h = absurd (omega (arith, h))

pub loop-piece-preserved : goal.loop-piece-preserved
loop-piece-preserved c ps h = subst (λ qs. AreRead qs c.loop-piece.self.policies c.loop-piece.self.room)
    (sym (append-nil (ps ++ of_pieces c.args.origin.now c.args.disposition (map (λ (x : Bor (Items ℕ)). x.now) c.loop-piece.yielded)))
    ∙ ap (λ qs. (ps ++ of_pieces c.args.origin.now c.args.disposition (map (λ (x : Bor (Items ℕ)). x.now) c.loop-piece.yielded)) ++ qs) (sym (no_more c.args.origin.now c.args.disposition c.in-Some.piece.now (let e = c.is_empty.ensures in let f = c.if-not-is_empty in grind (arith, e, f))))
    ∙ one_more c.args.origin.now c.args.disposition ps c.loop-piece.yielded c.in-Some.piece) (c.loop-piece.invariant ps h)

pub loop-piece-preserved-in-Continue-1 : goal.loop-piece-preserved-in-Continue-1
loop-piece-preserved-in-Continue-1 c ps h = subst (λ qs. AreRead qs c.add_policy.new.self.policies c.add_policy.new.self.room)
    (one_more c.args.origin.now c.args.disposition ps c.loop-piece.yielded c.in-Some.piece) (c.in_ok-add_policy.ensures _ (c.loop-piece.invariant ps h))

pub returns : goal.returns
returns c ps h =
    let all = YieldsList-end (YieldsList-at c.into_iter-piece-iterator.ensures.into_iter_gives
    (YieldsList-from_first (λ x. x.now) pieces_left {s = c.new_short-piece-items.result} (split_at 44 c.args.value.now) c.new_short-piece-items.ensures))
    c.loop-piece.yielded _ c.loop-piece.yielded_by _ _ c.in-None.is c.next.ensures.steps in
    subst (λ pieces. AreRead (ps ++ of_pieces c.args.origin.now c.args.disposition pieces) c.loop-piece.self.policies c.loop-piece.self.room) all.0 (c.loop-piece.invariant ps h)
