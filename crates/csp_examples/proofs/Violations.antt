-- What is reported of a request.
use Rattle.std.proofs.Common.{◌≡◌, ℕ, List, [], ◌∷◌, refl}
use Rattle.std.specs.Prelude.{codes}
use Rattle.csp_model.specs.Verdict.{violations_of}
use Rattle.csp_examples.proofs.OnLiterals.{verdicts_on_literals}
use Rattle.csp_examples.proofs.Values.{elsewhere, script, headed, of_nothing}
use Rattle.csp_model.specs.declared.check.Check.{Check}
use Rattle.csp_model.specs.declared.check.Check.TheVariants as check
use Rattle.csp_model.specs.declared.check.InlineKind.TheVariants as kind
use Rattle.csp_model.specs.declared.name.Name.TheVariants.{ScriptSrcElem}
use Rattle.csp_model.specs.declared.policy.Disposition.TheVariants.{Enforce}
use Rattle.csp_model.specs.declared.verdict.Described.{Described}
use Rattle.csp_model.specs.declared.verdict.Violation.{Violation}

-- a request of one check
abbrev described : Check → List ℕ → List ℕ → Described
described asked blocked_uri sample =
    record { checks = asked ∷ []; blocked_uri = blocked_uri; sample = sample }

-- a violation of script-src-elem in an enforced policy
abbrev pub violation : List ℕ → List ℕ → List ℕ → Violation
violation blocked_uri sample policy = record {
  disposition = Enforce;
  effective = ScriptSrcElem;
  blocked_uri = blocked_uri;
  sample = sample;
  policy = policy;
}

pub a_blocked_script_is_reported :
    violations_of (headed (codes "default-src 'self'"))
    (described (script elsewhere) (codes "https://b.example/s.js") [])
    ≡ violation (codes "https://b.example/s.js") [] (codes "default-src 'self'") ∷ []
unfolding verdicts_on_literals
a_blocked_script_is_reported = refl

abbrev inline : Described
inline = described (check.Inline kind.Script [] of_nothing) (codes "inline") (codes "x()")

-- a sample is shown where the list asks for it, and no other is
pub a_sample_is_shown : violations_of (headed (codes "script-src 'report-sample'")) inline
    ≡ violation (codes "inline") (codes "x()") (codes "script-src 'report-sample'") ∷ []
unfolding verdicts_on_literals
a_sample_is_shown = refl

pub no_sample_is_shown_unasked : violations_of (headed (codes "default-src 'self'")) inline
    ≡ violation (codes "inline") [] (codes "default-src 'self'") ∷ []
unfolding verdicts_on_literals
no_sample_is_shown_unasked = refl

pub a_sandbox_makes_no_report :
    violations_of (headed (codes "sandbox")) (described check.WorkerStart [] []) ≡ []
unfolding verdicts_on_literals
a_sandbox_makes_no_report = refl
