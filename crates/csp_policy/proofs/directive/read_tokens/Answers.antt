use Rattle.std.proofs.Common.{arith, ◌≡◌, ◌∙◌, sym, ap, refl, ℕ, ◌+◌, ◌-◌, ◌<◌, suc, List, [], ◌∷◌, ◌++◌, length, map, take, length-append, append_assoc}
use Rattle.std.proofs.lemmas.List.{map_push}
use Rattle.csp_model.specs.Ascii.{words}
use Rattle.csp_model.specs.Reading.{source_of}
use Rattle.csp_policy.proofs.directive.read_tokens.Goals as goal

take_more : {X : Type 0} (k n : ℕ) (x : X) (xs : List X) → k ≡ suc n → take k (x ∷ xs) ≡ x ∷ take n xs
take_more k n x xs h = rw h refl

one_more : {X : Type 0} (room : ℕ) (tokens ws rest : List X) (w : X) → length tokens < room → ws ≡ w ∷ rest
    → (tokens ++ w ∷ []) ++ take (room - length (tokens ++ w ∷ [])) rest ≡ tokens ++ take (room - length tokens) ws
one_more room tokens ws rest w h is =
    let more : length (tokens ++ w ∷ []) ≡ length tokens + 1 = length-append tokens (w ∷ []) in
    let less : room - length tokens ≡ suc (room - length (tokens ++ w ∷ [])) = omega arith in
    append_assoc tokens (w ∷ []) _ ∙ ap (λ ts. tokens ++ ts) (sym (ap (take (room - length tokens)) is ∙ take_more _ _ w rest less))

pub loop-rest-preserved : goal.loop-rest-preserved
loop-rest-preserved c =
    let pushed = c.in_ok-push.ensures.ok ∙ ap (λ t. c.loop-rest.tokens ++ t ∷ []) c.in_ok-from_ascii.ensures in
    let below : length c.loop-rest.tokens < c.args.room = omega (arith, c.loop-rest-test.true, c.len.ensures) in
    record {
      tokens = rw pushed (one_more c.args.room c.loop-rest.tokens (words c.loop-rest.rest.now) (words c.in-Some.after.now) c.in-Some.token.now below c.in-Some.ensures.word
          ∙ c.loop-rest.invariant.tokens);
      sources = c.in_ok-push-2.ensures.ok ∙ ap (λ ss. ss ++ c.in_ok-read_source.field-0 ∷ []) c.loop-rest.invariant.sources
          ∙ ap (λ t. map source_of c.loop-rest.tokens ++ t ∷ []) c.in_ok-read_source.ensures ∙ sym (map_push source_of c.loop-rest.tokens c.in-Some.token.now) ∙ ap (map source_of) (sym pushed);
      room = let more = ap length pushed in let n = length-append c.loop-rest.tokens (c.in-Some.token.now ∷ []) in omega arith;
      ascii = c.in-Some.ensures.ascii_rest c.loop-rest.invariant.ascii;
    }
