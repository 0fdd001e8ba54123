use Rattle.std.proofs.Common.{◌∙◌, sym, ap, ℕ, false, List, [], ◌∷◌, ◌++◌, map, append_assoc, Bor}
use Rattle.std.proofs.lemmas.List.{map_push}
use Rattle.std.proofs.lemmas.Iterator.Consumers.{YieldsList-at, YieldsList-end, YieldsList-from_first}
use Rattle.csp_model.specs.Ascii.{split_at}
use Rattle.csp_policy.specs.Delivered.{serialized_said}
use Rattle.csp_policy.specs.Fates.{Serialized}
use Rattle.csp_policy.specs.Pieces.{pieces_left}
use Rattle.csp_policy.proofs.serialized.add_between_commas.Goals as goal

pub loop-text-preserved : goal.loop-text-preserved
loop-text-preserved c =
    let one : List ℕ → Serialized = λ piece. record { line = c.args.line; disposition = c.args.disposition; meta = false; text = piece } in
    let texts : List (List ℕ) = map (λ (x : Bor (List ℕ)). x.now) c.loop-text.yielded in
    ap (map serialized_said) c.in_ok-push.ensures.items
    ∙ map_push serialized_said c.loop-text.made.items _
    ∙ ap (λ (l : List Serialized). l ++ one c.in-Some.text.now ∷ []) c.loop-text.invariant
    ∙ append_assoc (map serialized_said c.args.made.now.items) (map one texts) (one c.in-Some.text.now ∷ [])
    ∙ ap (λ (l : List Serialized). map serialized_said c.args.made.now.items ++ l)
    (sym (map_push one texts c.in-Some.text.now) ∙ ap (map one) (sym (map_push (λ (x : Bor (List ℕ)). x.now) c.loop-text.yielded c.in-Some.text)))

pub returns : goal.returns
returns c =
    let all = YieldsList-end (YieldsList-at c.into_iter-text-iterator.ensures.into_iter_gives
    (YieldsList-from_first (λ x. x.now) pieces_left {s = c.new_short-text-items.result} (split_at 44 c.args.value.now) c.new_short-text-items.ensures))
    c.loop-text.yielded _ c.loop-text.yielded_by _ _ c.in-None.is c.next.ensures.steps in
    c.loop-text.invariant
    ∙ ap (λ (pieces : List (List ℕ)). map serialized_said c.args.made.now.items
    ++ map (λ (piece : List ℕ). record { line = c.args.line; disposition = c.args.disposition; meta = false; text = piece }) pieces) all.0
