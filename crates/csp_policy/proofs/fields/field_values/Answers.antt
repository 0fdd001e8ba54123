use Rattle.std.proofs.Common.{◌≡◌, ◌∙◌, sym, ap, ℕ, List, [], ◌∷◌, ◌++◌, map, Option, Some, None, append-nil, Bor}
use Rattle.std.specs.List.{filter_map}
use Rattle.std.specs.Str.Lines.{strip_carriage_return}
use Rattle.std.proofs.lemmas.List.{map_push}
use Rattle.std.proofs.lemmas.List.Elements.{filter_map-append}
use Rattle.csp_model.specs.Policies.{line_of}
use Rattle.csp_policy.specs.Fields.{value_named}
use Rattle.csp_policy.proofs.LinesSoFar.{said, said_more}
use Rattle.csp_policy.proofs.fields.field_values.Goals as goal

-- what one more line adds
named_more : (name : List ℕ) (lines : List (Bor (List ℕ))) (line : Bor (List ℕ)) (value : Option (List ℕ))
    → value ≡ value_named name (line_of (strip_carriage_return line.now))
    → filter_map (value_named name) (said (lines ++ line ∷ []))
    ≡ filter_map (value_named name) (said lines) ++ filter_map (λ v. v) (value ∷ [])
named_more name lines line value is =
    ap (filter_map (value_named name)) (said_more lines line)
    ∙ filter_map-append (value_named name) (said lines) (line_of (strip_carriage_return line.now) ∷ [])
    ∙ ap (λ (v : Option (List ℕ)). filter_map (value_named name) (said lines) ++ filter_map (λ v. v) (v ∷ [])) (sym is)

pub loop-line-preserved : goal.loop-line-preserved
loop-line-preserved c =
    let value = c.in-Some-value_named.value in
    ap (map (λ (v : Bor (List ℕ)). v.now)) c.in_ok-push.ensures.items
    ∙ map_push (λ (v : Bor (List ℕ)). v.now) c.loop-line.values.items value
    ∙ ap (λ before. before ++ value.now ∷ []) c.loop-line.invariant
    ∙ sym (named_more c.args.name.now c.loop-line.yielded c.in-Some.line (Some value.now) c.in-Some-value_named.ensures)

pub loop-line-preserved-in_default : goal.loop-line-preserved-in_default
loop-line-preserved-in_default c =
    c.loop-line.invariant
    ∙ sym (append-nil (filter_map (value_named c.args.name.now) (said c.loop-line.yielded)))
    ∙ sym (named_more c.args.name.now c.loop-line.yielded c.in-Some.line None c.in_default.ensures)
