-- The members stand behind the bracket, one after the other.
use Rattle.std.proofs.Common.{◌≡◌, ◌∷◌, ◌++◌, [], List, refl, append_assoc}
use Rattle.std.proofs.lemmas.Result.{on_ok_weaker}
use Rattle.json.specs.Token.{Token}
use Rattle.csp_desk.proofs.report.write_report.Goals as goal

-- tokens that grew three times
grown : (old opened front ended more ending : List Token) (first : Token) → opened ≡ old ++ first ∷ []
    → front ≡ opened ++ more → ended ≡ front ++ ending → ended ≡ old ++ first ∷ (more ++ ending)
grown old opened front ended more ending first begun then last =
    rw (last, then, begun, append_assoc (old ++ first ∷ []) more ending, append_assoc) refl

pub returns-clause-tokens : goal.returns-clause-tokens
returns-clause-tokens c =
    on_ok_weaker c.write_ending.result
    (λ ended. rw (← c.as_str-blocked_uri.ensures.text)
    (grown _ _ _ _ _ _ _ c.in_ok-begin_object.ensures.ok c.in_ok-write_members.ensures.tokens ended))
    c.write_ending.ensures.tokens
