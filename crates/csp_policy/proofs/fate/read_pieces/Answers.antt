use Rattle.std.proofs.Common.{◌∙◌, sym, ap, map, Bor, List, [], ◌∷◌, ◌++◌, ℕ}
use Rattle.std.proofs.lemmas.List.{map_push}
use Rattle.std.proofs.lemmas.Iterator.Consumers.{YieldsList-at, YieldsList-end, YieldsList-from_first}
use Rattle.csp_model.specs.Ascii.{split_at}
use Rattle.csp_policy.specs.Delivered.{piece_said}
use Rattle.csp_policy.specs.Fates.{fates_behind}
use Rattle.csp_policy.specs.Pieces.{pieces_left}
use Rattle.csp_policy.specs.Types.{Fate}
use Rattle.csp_policy.proofs.Fated.{behind_more, knows_more_of}
use Rattle.csp_policy.proofs.fate.read_pieces.Goals as goal

pub returns : goal.returns
returns c =
    let all = YieldsList-end (YieldsList-at c.into_iter-text-iterator.ensures.into_iter_gives
    (YieldsList-from_first (λ x. x.now) pieces_left {s = c.new_short-text-items.result} (split_at 59 c.args.value.now) c.new_short-text-items.ensures))
    c.loop-text.yielded _ c.loop-text.yielded_by _ _ c.in-None.is c.next.ensures.steps in
    c.loop-text.invariant.read ∙ ap (fates_behind c.args.meta []) all.0

pub loop-text-preserved : goal.loop-text-preserved
loop-text-preserved c =
    let before : List (List ℕ) = map (λ (x : Bor (List ℕ)). x.now) c.loop-text.yielded in
    let told = c.in_ok-fate_of.ensures ∙ c.in_ok-standing.ensures.fate before c.loop-text.invariant.seen in
    record {
      seen = knows_more_of c.stand.new.seen c.loop-text.yielded c.in-Some.text (c.in_ok-standing.ensures.seen before c.loop-text.invariant.seen);
      read = ap (map piece_said) c.in_ok-push.ensures.items
          ∙ map_push piece_said c.loop-text.made.items _
          ∙ ap (λ (l : List (List ℕ × Fate)). l ++ (c.in-Some.text.now, c.in_ok-fate_of.field-0) ∷ []) c.loop-text.invariant.read
          ∙ ap (λ (f : Fate). fates_behind c.args.meta [] before ++ (c.in-Some.text.now, f) ∷ []) told
          ∙ sym (behind_more c.args.meta [] before c.in-Some.text.now)
          ∙ ap (fates_behind c.args.meta []) (sym (map_push (λ (x : Bor (List ℕ)). x.now) c.loop-text.yielded c.in-Some.text));
    }
